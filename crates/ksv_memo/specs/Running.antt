-- The stack of open nodes while a question is answered: what it determines about the answers to come, the nodes
-- that are still to be kept, and the calls that are left. Only the machine's own contracts use it.
use Rattle.std.specs.Prelude.{◌≡◌, ℕ, suc, ◌+◌, ◌-◌, ◌*◌, ◌<◌, ◌≤◌, true, false, List, [], ◌∷◌, ◌++◌, length, ◌⊎◌, Option, Some, None}
use Rattle.std.specs.List.{AllByRecursion, flat_map}
use Rattle.ksv_memo_rules.specs.declared.rules.Outcome.{Outcome}
use Rattle.ksv_memo_rules.specs.declared.rules.Outcome.TheVariants.{Answered}
use Rattle.ksv_memo_rules.specs.declared.rules.Next.{Next}
use Rattle.ksv_memo_rules.specs.declared.rules.Next.TheVariants.{Need, Done}
use Rattle.ksv_memo_rules.specs.Meaning.{Standing}
use Rattle.ksv_memo_rules.specs.Evaluation.{Told, is_among, tells, told, after, with_reply, done, if_answered, IsAnswered, answering}
use Rattle.ksv_memo_rules.specs.Entry.{Entry}
use Rattle.ksv_memo.specs.Open.{Open, heard, nodes_in}
use Rattle.ksv_memo.specs.Nodes.{Nodes, IsPut}
use Rattle.ksv_memo_rules.specs.Right.{Agrees, nodes_of, AreDistinct, IsRight, fresh, costs, counted}

-- for all answers that agree with the kept ones, the node gets these replies
pub record HasCome {N A : Type 0} (w : Standing N A) (es : List (Entry N A)) (o : Open N A) : Type 0 where
  pub came : (g : N → Outcome N A) → Agrees es g → told w g o.node (suc w.replies) [] ≡ after o.asked o.uses (told w g o.node (suc w.replies - length o.replies) o.replies)
  pub closed : AllByRecursion (λ m. is_among w.number (nodes_of es) m ≡ true) o.asked
  pub few : length o.replies ≤ w.replies

-- it gets these replies, and then waits for that of a node
pub record IsWaiting {N A : Type 0} (w : Standing N A) (es : List (Entry N A)) (o : Open N A) (m : N) : Type 0 where
  pub came : (g : N → Outcome N A) → Agrees es g → told w g o.node (suc w.replies) [] ≡ after (o.asked ++ m ∷ []) o.uses (with_reply (λ a. told w g o.node (w.replies - length o.replies) (o.replies ++ a ∷ [])) (g m))
  pub closed : AllByRecursion (λ m. is_among w.number (nodes_of es) m ≡ true) o.asked
  pub few : length o.replies < w.replies

-- it gets its answer
pub record HasEnded {N A : Type 0} (w : Standing N A) (es : List (Entry N A)) (o : Open N A) (a : A) : Type 0 where
  pub came : (g : N → Outcome N A) → Agrees es g → told w g o.node (suc w.replies) [] ≡ record { outcome = Answered a; asked = o.asked; uses = o.uses }
  pub closed : AllByRecursion (λ m. is_among w.number (nodes_of es) m ≡ true) o.asked
  pub few : length o.replies ≤ w.replies

-- each open node waits for the one above it
abbrev pub Chain : {N A : Type 0} → Standing N A → List (Entry N A) → N → List (Open N A) → Type 0
Chain w es m [] = Unit {0}
Chain w es m (o ∷ st) = IsWaiting w es o m × Chain w es o.node st

-- the kept answers are right, each open node waits for the one above it, the open nodes differ, and none is kept
pub record IsStack {N A : Type 0} (w : Standing N A) (es : List (Entry N A)) (n : N) (st : List (Open N A)) : Type 0 where
  pub right : IsRight w es
  pub chain : Chain w es n st
  pub distinct : AreDistinct w (n ∷ nodes_in st)
  pub apart : AllByRecursion (λ m. is_among w.number (nodes_of es) m ≡ false) (n ∷ nodes_in st)

-- what an open node answers once the node that it asked has this outcome
abbrev pub resumed : {N A : Type 0} → Standing N A → Open N A → List N → Outcome N A → Outcome N A
resumed w o below out = (with_reply (λ a. told w (answering w (o.node ∷ below)) o.node (w.replies - length o.replies) (o.replies ++ a ∷ [])) out).outcome

-- what the lowest open node answers once the last has this outcome
abbrev pub climbed : {N A : Type 0} → Standing N A → List (Open N A) → Outcome N A → Outcome N A
climbed w [] out = out
climbed w (o ∷ st) out = climbed w st (resumed w o (nodes_in st) out)

-- what the lowest open node will answer, before the next call for the last
abbrev pub value_of : {N A : Type 0} → Standing N A → Open N A → List (Open N A) → Outcome N A
value_of w o st = climbed w st (told w (answering w (o.node ∷ nodes_in st)) o.node (suc w.replies - length o.replies) o.replies).outcome

-- the same when that call has given the step
abbrev pub value_at : {N A : Type 0} → Standing N A → Open N A → List (Open N A) → Next N A → Outcome N A
value_at w o st (Done a) = climbed w st (Answered a)
value_at w o st (Need m) = climbed w (o ∷ st) (answering w (o.node ∷ nodes_in st) m)

-- it reached its next step
abbrev pub HasStepped : {N A : Type 0} → Standing N A → List (Entry N A) → Open N A → Next N A → Type 0
HasStepped w es o (Done a) = HasEnded w es o a
HasStepped w es o (Need m) = IsWaiting w es o m

-- an open node was kept with its answer somewhere among the others, by an entry that is right beside them
pub record KeepsRight {N A : Type 0} (w : Standing N A) (o : Open N A) (a : A) (before after : List (Entry N A)) : Type 0 where
  pub entry : Entry N A
  pub node : entry.node ≡ o.node
  pub answer : entry.answer ≡ a
  pub put : IsPut entry before after
  pub right : IsRight w (before ++ entry ∷ [])

-- the last open node was kept so, and the one below got its answer, if there is one
abbrev pub ClosesRight : {N A : Type 0} → Standing N A → A → List (Open N A) → Nodes N A → Nodes N A → Type 0
ClosesRight w a [] old new = ⊥
ClosesRight w a (o ∷ st) old new = KeepsRight w o a old.kept new.kept × (new.opened ≡ heard o.node a st)

-- after a refused memory the last open node was kept so, or nothing was
abbrev pub MayKeepRight : {N A : Type 0} → Standing N A → A → List (Open N A) → List (Entry N A) → List (Entry N A) → Type 0
MayKeepRight w a [] before after = ⊥
MayKeepRight w a (o ∷ st) before after = (after ≡ before) ⊎ KeepsRight w o a before after

-- an upper bound on the calls that are left for open nodes
abbrev pub calls_of : {N A : Type 0} → Standing N A → List (Open N A) → ℕ
calls_of w [] = 0
calls_of w (o ∷ st) = (suc w.replies - length o.replies) + calls_of w st

-- the same with the nodes that are not open yet
abbrev pub calls_left : {N A : Type 0} → Standing N A → List (Entry N A) → Open N A → List (Open N A) → ℕ
calls_left w es o st = (w.nodes - (length es + length (o ∷ st))) * (w.replies + 2) + calls_of w (o ∷ st)

-- the nodes that are completed from this outcome of the last open node on, up to the lowest open node
abbrev pub climbed_rest : {N A : Type 0} → Standing N A → List (Open N A) → Outcome N A → List N
climbed_rest w [] out = []
climbed_rest w (o ∷ st) out =
    let t = with_reply (λ a. told w (answering w (o.node ∷ nodes_in st)) o.node (w.replies - length o.replies) (o.replies ++ a ∷ [])) out in
    flat_map (done w (o.node ∷ nodes_in st)) t.asked ++ (if_answered o.node t.outcome ++ climbed_rest w st t.outcome)

-- the same from the result of the last open node
abbrev pub told_rest : {N A : Type 0} → Standing N A → N → List (Open N A) → Told N A → List N
told_rest w n st t = flat_map (done w (n ∷ nodes_in st)) t.asked ++ (if_answered n t.outcome ++ climbed_rest w st t.outcome)

-- the nodes that are still to be completed before the next call for the last open node
abbrev pub rest_of : {N A : Type 0} → Standing N A → Open N A → List (Open N A) → List N
rest_of w o st = told_rest w o.node st (told w (answering w (o.node ∷ nodes_in st)) o.node (suc w.replies - length o.replies) o.replies)

-- the same when that call has given the step
abbrev pub rest_at : {N A : Type 0} → Standing N A → Open N A → List (Open N A) → Next N A → List N
rest_at w o st (Done a) = o.node ∷ climbed_rest w st (Answered a)
rest_at w o st (Need m) = done w (o.node ∷ nodes_in st) m ++ climbed_rest w (o ∷ st) (answering w (o.node ∷ nodes_in st) m)

-- what is kept, and then what is still to be completed and isn't kept, each node once
abbrev pub to_keep : {N A : Type 0} → Standing N A → List (Entry N A) → List N → List N
to_keep w es rest = nodes_of es ++ fresh w.number (nodes_of es) rest

-- the calls of all nodes that are still to be kept
abbrev pub debt : {N A : Type 0} → Standing N A → List (Entry N A) → List N → ℕ
debt w es rest = costs w (fresh w.number (nodes_of es) rest)

-- the calls that were made for open nodes that wait
abbrev pub made : {N A : Type 0} → List (Open N A) → ℕ
made [] = 0
made (o ∷ st) = length o.asked + 1 + made st

-- what one turn must preserve: what the lowest open node will answer, a bound on the calls that are left, all nodes
-- that are kept in the end, the calls of those among them that aren't kept yet, and the calls that were made for
-- open nodes
pub record Account (N A : Type 0) : Type 0 where
  pub value : Outcome N A
  pub left : ℕ
  pub all : List N
  pub owed : ℕ
  pub made : ℕ

-- before the next call for the last open node
abbrev pub account_of : {N A : Type 0} → Standing N A → List (Entry N A) → Open N A → List (Open N A) → Account N A
account_of w es o st = record {
  value = value_of w o st;
  left = calls_left w es o st;
  all = to_keep w es (rest_of w o st);
  owed = debt w es (rest_of w o st);
  made = length o.asked + made st;
}

-- the same when that call has given the step
abbrev pub account_at : {N A : Type 0} → Standing N A → List (Entry N A) → Open N A → List (Open N A) → Next N A → Account N A
account_at w es o st s = record {
  value = value_at w o st s;
  left = calls_left w es o st;
  all = to_keep w es (rest_at w o st s);
  owed = debt w es (rest_at w o st s);
  made = length o.asked + made st;
}

-- two lists of nodes have the same members
abbrev pub AreSame : {N A : Type 0} → Standing N A → List N → List N → Type 0
AreSame {N} w ns ms = (x : N) → is_among w.number ns x ≡ is_among w.number ms x

-- the second list has all members of the first
abbrev pub AreAmong : {N A : Type 0} → Standing N A → List N → List N → Type 0
AreAmong {N} w ns ms = (x : N) → is_among w.number ns x ≡ true → is_among w.number ms x ≡ true

-- the question has ended with this outcome
pub record HasFinished {N A : Type 0} (w : Standing N A) (account : Account N A) (es : List (Entry N A)) (out : Outcome N A) : Type 0 where
  pub value : out ≡ account.value
  pub right : IsRight w es
  pub all : AreSame w (nodes_of es) account.all
  pub calls : IsAnswered out → account.made + 1 ≡ account.owed

-- the question goes on, with `o` as the last open node
pub record GoesOn {N A : Type 0} (w : Standing N A) (account : Account N A) (before es : List (Entry N A)) (o : Open N A) (st : List (Open N A)) : Type 0 where
  pub stack : IsStack w es o.node st
  pub came : HasCome w es o
  pub grown : AreAmong w (nodes_of before) (nodes_of es)
  pub value : value_of w o st ≡ account.value
  pub fewer : calls_left w es o st < account.left
  pub all : AreSame w (to_keep w es (rest_of w o st)) account.all
  pub calls : debt w es (rest_of w o st) + account.made + 1 ≡ account.owed + (length o.asked + made st)

-- the question goes on with the last of these open nodes
abbrev pub GoesOnWith : {N A : Type 0} → Standing N A → Account N A → List (Entry N A) → List (Entry N A) → List (Open N A) → Type 0
GoesOnWith w account before es [] = ⊥
GoesOnWith w account before es (o ∷ st) = GoesOn w account before es o st

-- the result of one turn: the outcome, if the question has ended
abbrev pub Advances : {N A : Type 0} → Standing N A → Account N A → List (Entry N A) → Nodes N A → Option (Outcome N A) → Type 0
Advances w account before now (Some out) = HasFinished w account now.kept out
Advances w account before now None = GoesOnWith w account before now.kept now.opened

-- what a refused memory leaves: kept answers that are right, with the old ones among them, and only those that
-- would have been kept in the end
pub record IsLeft {N A : Type 0} (w : Standing N A) (all : List N) (before es : List (Entry N A)) : Type 0 where
  pub right : IsRight w es
  pub grown : AreAmong w (nodes_of before) (nodes_of es)
  pub within : AreAmong w (nodes_of es) all

-- some number of calls was counted; with the calls still to be made they are these and those made for open nodes
abbrev pub Counts : Option ℕ → Option ℕ → ℕ → ℕ → ℕ → Type 0
Counts before now owed so_far total = (c : ℕ) × (now ≡ counted c before) × (c + owed ≡ total + so_far)

-- the last of the open nodes is to be run
abbrev pub IsRunning : {N A : Type 0} → Standing N A → List (Entry N A) → List (Open N A) → Type 0
IsRunning w es [] = ⊥
IsRunning w es (o ∷ st) = IsStack w es o.node st × HasCome w es o

-- it reached this step
abbrev pub HasReached : {N A : Type 0} → Standing N A → List (Entry N A) → List (Open N A) → Next N A → Type 0
HasReached w es [] s = ⊥
HasReached w es (o ∷ st) s = IsStack w es o.node st × HasStepped w es o s

-- one turn from these open nodes
abbrev pub AdvancesFrom : {N A : Type 0} → Standing N A → List (Entry N A) → List (Open N A) → Nodes N A → Option (Outcome N A) → Type 0
AdvancesFrom w es [] now out = ⊥
AdvancesFrom w es (o ∷ st) now out = Advances w (account_of w es o st) es now out

-- the rest of a turn from this step
abbrev pub AdvancesAt : {N A : Type 0} → Standing N A → List (Entry N A) → List (Open N A) → Next N A → Nodes N A → Option (Outcome N A) → Type 0
AdvancesAt w es [] s now out = ⊥
AdvancesAt w es (o ∷ st) s now out = Advances w (account_at w es o st s) es now out

-- what a refused memory leaves of a turn
abbrev pub LeftFrom : {N A : Type 0} → Standing N A → List (Entry N A) → List (Open N A) → List (Entry N A) → Type 0
LeftFrom w es [] now = ⊥
LeftFrom w es (o ∷ st) now = IsLeft w (account_of w es o st).all es now

abbrev pub LeftAt : {N A : Type 0} → Standing N A → List (Entry N A) → List (Open N A) → Next N A → List (Entry N A) → Type 0
LeftAt w es [] s now = ⊥
LeftAt w es (o ∷ st) s now = IsLeft w (account_at w es o st s).all es now

-- what must hold between two turns of a question for a node that wasn't kept
pub record Holds {N A : Type 0} (w : Standing N A) (n : N) (before : List (Entry N A)) (es : List (Entry N A)) (o : Open N A) (st : List (Open N A)) : Type 0 where
  pub stack : IsStack w es o.node st
  pub came : HasCome w es o
  pub grown : AreAmong w (nodes_of before) (nodes_of es)
  pub all : AreSame w (to_keep w es (rest_of w o st)) (to_keep w before (done w [] n))
  pub value : value_of w o st ≡ (tells w [] n).outcome

abbrev pub HoldsWith : {N A : Type 0} → Standing N A → N → List (Entry N A) → List (Entry N A) → List (Open N A) → Type 0
HoldsWith w n before es [] = ⊥
HoldsWith w n before es (o ∷ st) = Holds w n before es o st

-- the turns that were counted, with those that are left
abbrev pub CountsWith : {N A : Type 0} → Standing N A → N → List (Entry N A) → Option ℕ → List (Entry N A) → List (Open N A) → Option ℕ → Type 0
CountsWith w n before turns es [] now = ⊥
CountsWith w n before turns es (o ∷ st) now = Counts turns now (debt w es (rest_of w o st)) (length o.asked + made st) (debt w before (done w [] n))

-- a bound on the turns that are left
abbrev pub turns_left : {N A : Type 0} → Standing N A → List (Entry N A) → List (Open N A) → ℕ
turns_left w es [] = 0
turns_left w es (o ∷ st) = calls_left w es o st
