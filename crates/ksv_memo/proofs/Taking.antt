-- What the moves of the table come to for a question.
use Rattle.ksv_memo.proofs.Common.{◌⊎◌, ◌≡◌, ℕ, ◌+◌, ◌<◌, ◌≤◌, nodes_in, nat_lt, arith, Bool, true, false, List, [], ◌∷◌, length, Option, Some, None, refl, sym}
use Rattle.ksv_memo.proofs.Common.{◌∙◌, ap, subst, inl, inr, Decides-ltb, IsEquivalence, list_any, Next, Need, Done, Outcome, Answered, Circle, IsLawful}
use Rattle.ksv_memo.proofs.Common.{Meaning, Standing, IsSettled, on, law_on, is_among, tells, done, answering, Entry, Open, newly, with_uses, with_answer}
use Rattle.ksv_memo.proofs.Common.{Replies, Opens, Circles, Closes, MayKeep, nodes_of, IsRight, Agrees, GoesOn, HasFinished, IsLeft, rest_of, to_keep, debt}
use Rattle.ksv_memo.proofs.Common.{AreSame, IsOut, IsIn, IsStack, agrees, self_in}
use Rattle.std.proofs.Common.{true≢false}
use Rattle.ksv_memo_rules.specs.Evaluation.{IsAnswered}
use Rattle.ksv_memo.specs.Nodes.{Nodes, IsEntry, HasNoEntry, Keeps, Starts, Steps, kept_of}
use Rattle.ksv_memo_rules.specs.Right.{counted}
use Rattle.ksv_memo.specs.Running.{ClosesRight, HasEnded, KeepsRight, MayKeepRight}
use Rattle.ksv_memo.specs.Running.{account_at, GoesOnWith, IsRunning, HasReached, AdvancesFrom, AdvancesAt, LeftFrom, LeftAt, Holds, HoldsWith}
use Rattle.ksv_memo.specs.Running.{Counts, CountsWith, turns_left}
use Rattle.ksv_memo.proofs.Laying.{one_of-all}
use Rattle.ksv_memo.specs.Growing.{GrowsBy}
use Rattle.ksv_memo.proofs.Growing.{counted-swap, counts-ahead, grown-all, grown-came-on, grown-debt, grown-in, grown-left, grown-stack}
use Rattle.ksv_memo.proofs.Moves.{keeps}
use Rattle.ksv_memo.proofs.Turns.{any_entry, waits_among, need-replies, need-opens, need-ends, finish-goes, finish-ends, finish-left, left-same, turn-account}
use Rattle.ksv_memo.proofs.Turns.{turn-steps, begins, comes, covers-begins, turns-begin, value-begins, counts-end, counts-step, covers-kept, none-owed}

-- what all is proved from in a question: the world, and how its nodes are compared
pub record Asking (N A : Type 0) : Type 0 where
  pub world : Standing N A
  pub law : IsSettled world
  pub eq : N → N → Bool
  pub laws : IsEquivalence eq
  pub exact : (a b : N) → eq a b ≡ true → a ≡ b

-- the world of rules over bytes
abbrev pub asking : {N A : Type 0} (meaning : Meaning N A) → IsLawful meaning → (bytes : List ℕ) (eq : N → N → Bool) → IsEquivalence eq
    → ((a b : N) → eq a b ≡ true → a ≡ b) → Asking N A
asking meaning law bytes eq laws exact = record { world = on meaning bytes; law = law_on meaning law bytes; eq = eq; laws = laws; exact = exact }

module _ {N A : Type 0} (q : Asking N A) where
  -- ---- a kept node
  pub entry_in : (es : List (Entry N A)) (n : N) (e : Entry N A) → IsEntry q.eq es n e → IsIn q.world (nodes_of es) n
  entry_in es n e is = subst (IsIn q.world (nodes_of es)) (sym (q.exact n e.node is.passes))
      (one_of-all (λ (x : Entry N A). IsIn q.world (nodes_of es) x.node) es (self_in q.world es) e is.there)

  pub entry_says : (es : List (Entry N A)) (n : N) (e : Entry N A) → IsEntry q.eq es n e → (g : N → Outcome N A) → Agrees es g → g n ≡ Answered e.answer
  entry_says es n e is g agree = ap g (q.exact n e.node is.passes) ∙ one_of-all (λ (x : Entry N A). g x.node ≡ Answered x.answer) es agree e is.there

  pub no_entry_out : (es : List (Entry N A)) (n : N) → HasNoEntry q.eq es n → IsOut q.world (nodes_of es) n
  no_entry_out es n none = sym (any_entry _ q.law q.eq q.laws q.exact es n) ∙ none

  -- ---- the last open node asks
  hears : (es : List (Entry N A)) (st : List (Open N A)) (n : N) (now : Nodes N A) → HasReached q.world es st (Need n)
      → Replies q.eq n (record { kept = es; opened = st }) now → AdvancesAt q.world es st (Need n) now None
  hears es [] n now reached r = absurd reached
  hears es (o ∷ st) n now reached r =
      let e : Entry N A = r.entry in
      let same : n ≡ e.node = q.exact n e.node r.is.passes in
      let goes : GoesOn q.world (account_at q.world es o st (Need n)) es es (with_answer o e.node e.answer) st =
      need-replies _ q.law _ _ _ _ _ e.answer reached.0 reached.1 (entry_in es n e r.is) (entry_says es n e r.is)
      (λ i. with_answer o (sym same i) e.answer) in
      rw r.kept (subst (GoesOnWith q.world (account_at q.world es o st (Need n)) es es) (sym r.opened) goes)

  opens_node : (es : List (Entry N A)) (st : List (Open N A)) (n : N) (now : Nodes N A) → HasReached q.world es st (Need n)
      → Opens q.eq n (record { kept = es; opened = st }) now → AdvancesAt q.world es st (Need n) now None
  opens_node es [] n now reached r = absurd reached
  opens_node es (o ∷ st) n now reached r =
      let same : n ≡ r.node = q.exact n r.node r.passes in
      let goes : GoesOn q.world (account_at q.world es o st (Need n)) es es (newly r.node) (o ∷ st) =
      need-opens _ q.law _ _ _ _ _ _ reached.0 reached.1 (no_entry_out es n r.out)
      (sym (waits_among _ q.law q.eq q.laws q.exact (o ∷ st) n) ∙ r.free) (λ i. newly (sym same i)) refl in
      rw r.kept (subst (GoesOnWith q.world (account_at q.world es o st (Need n)) es es) (sym r.opened) goes)

  pub hears_or_opens : (es : List (Entry N A)) (st : List (Open N A)) (n : N) (now : Nodes N A) → HasReached q.world es st (Need n)
      → Replies q.eq n (record { kept = es; opened = st }) now ⊎ Opens q.eq n (record { kept = es; opened = st }) now
      → AdvancesAt q.world es st (Need n) now None
  hears_or_opens es st n now reached (inl replies) = hears es st n now reached replies
  hears_or_opens es st n now reached (inr opens) = opens_node es st n now reached opens

  pub circles : (es : List (Entry N A)) (st : List (Open N A)) (n m : N) (now : Nodes N A) → HasReached q.world es st (Need n)
      → Circles q.eq n m (record { kept = es; opened = st }) now → AdvancesAt q.world es st (Need n) now (Some (Circle m))
  circles es [] n m now reached r = absurd reached
  circles es (o ∷ st) n m now reached r =
      let ends : HasFinished q.world (account_at q.world es o st (Need n)) es (Circle n) =
      need-ends _ q.law _ o _ n reached.0 (sym (waits_among _ q.law q.eq q.laws q.exact (o ∷ st) n) ∙ r.waits) in
      rw r.kept (rw r.same ends)

  -- ---- the last open node has its answer
  pub closes_on : (es : List (Entry N A)) (st : List (Open N A)) (a : A) (now : Nodes N A) → HasReached q.world es st (Done a)
      → ClosesRight q.world a st (record { kept = es; opened = st }) now → nat_lt 1 (length st) ≡ true → AdvancesAt q.world es st (Done a) now None
  closes_on es [] a now reached r more = absurd reached
  closes_on es (o ∷ []) a now reached r more = let lt = (Decides-ltb 1 (length (o ∷ []))).0 more in absurd (omega arith)
  closes_on es (o ∷ p ∷ rest) a now reached r more =
      subst (GoesOnWith q.world (account_at q.world es o (p ∷ rest) (Done a)) es now.kept) (sym r.1)
      (finish-goes q.world q.law es now.kept o p rest a reached.0 reached.1 r.0)

  pub closes_last : (es : List (Entry N A)) (st : List (Open N A)) (a c : A) (now : Nodes N A) → HasReached q.world es st (Done a)
      → ClosesRight q.world a st (record { kept = es; opened = st }) now → nat_lt 1 (length st) ≡ false → c ≡ a
      → AdvancesAt q.world es st (Done a) now (Some (Answered c))
  closes_last es [] a c now reached r one copy = absurd reached
  closes_last es (o ∷ p ∷ rest) a c now reached r one copy = let yes = (Decides-ltb 1 (length (o ∷ p ∷ rest))).1 (omega arith) in absurd (cc)
  closes_last es (o ∷ []) a c now reached r one copy = finish-ends q.world q.law es now.kept o a c reached.0 reached.1 r.0 copy

  pub closes_left : (es : List (Entry N A)) (st : List (Open N A)) (a : A) (now : List (Entry N A)) → HasReached q.world es st (Done a)
      → MayKeepRight q.world a st es now → LeftAt q.world es st (Done a) now
  closes_left es [] a now reached may = absurd reached
  closes_left es (o ∷ st) a now reached (inl same) = left-same _ q.law _ _ _ reached.0.right same
  closes_left es (o ∷ st) a now reached (inr keeps) = finish-left q.world q.law es now o st a reached.0 keeps

  -- what is kept with what its node asked and used is right
  keeps-right : (es now : List (Entry N A)) (o : Open N A) (st : List (Open N A)) (a : A) → IsStack q.world es o.node st → HasEnded q.world es o a
      → Keeps o a es now → KeepsRight q.world o a es now
  keeps-right es now o st a stack ended k = record {
    entry = kept_of o a k.once;
    node = refl;
    answer = refl;
    put = record { front = k.front; back = k.back; was = k.was; now = k.kept };
    right = keeps q.world q.law es o st a k.once stack ended k.each;
  }

  pub closes-right : (es : List (Entry N A)) (st : List (Open N A)) (a : A) (now : Nodes N A) → HasReached q.world es st (Done a)
      → Closes a st (record { kept = es; opened = st }) now → ClosesRight q.world a st (record { kept = es; opened = st }) now
  closes-right es [] a now reached c = c
  closes-right es (o ∷ st) a now reached c = (keeps-right es now.kept o st a reached.0 reached.1 c.0, c.1)

  pub may-right : (es : List (Entry N A)) (st : List (Open N A)) (a : A) (now : List (Entry N A)) → HasReached q.world es st (Done a)
      → MayKeep a st es now → MayKeepRight q.world a st es now
  may-right es [] a now reached may = may
  may-right es (o ∷ st) a now reached (inl same) = inl same
  may-right es (o ∷ st) a now reached (inr k) = inr (keeps-right es now o st a reached.0 reached.1 k)

  -- a turn of the question for n, which began with what es has: a call of the rules, which leaves what is kept
  pub record Turn (n : N) (es : List (Entry N A)) (first : Option ℕ) (s : Next N A) : Type 0 where
    pub old : Nodes N A
    pub now : Nodes N A
    pub turns : Option ℕ
    pub holds : HoldsWith q.world n es old.kept old.opened
    pub counts : CountsWith q.world n es first old.kept old.opened turns
    pub steps : Steps q.world old.opened now.opened s
    pub same : now.kept ≡ old.kept

  -- what the end of a question leaves
  pub record HasEnd (n : N) (es : List (Entry N A)) (first : Option ℕ) (after : Option ℕ) (now : List (Entry N A)) (out : Outcome N A) : Type 0 where
    pub outcome : out ≡ (tells q.world [] n).outcome
    pub right : IsRight q.world now
    pub kept : AreSame q.world (nodes_of now) (to_keep q.world es (done q.world [] n))
    pub turns : IsAnswered out → after ≡ counted (debt q.world es (done q.world [] n)) first

  -- what holds between two turns after one that doesn't end it
  pub record GoesOnFrom (n : N) (es : List (Entry N A)) (first : Option ℕ) (ks : List (Entry N A)) (st : List (Open N A)) (now : Nodes N A) (after : Option ℕ)
      : Type 0 where
    pub holds : HoldsWith q.world n es now.kept now.opened
    pub turns : CountsWith q.world n es first now.kept now.opened after
    pub smaller : turns_left q.world now.kept now.opened < turns_left q.world ks st

  -- ---- a turn
  called : (es : List (Entry N A)) (st now : List (Open N A)) (s : Next N A) → IsRunning q.world es st → Steps q.world st now s → HasReached q.world es now s
  called es [] now s runs steps = absurd runs
  called es (o ∷ st) now s runs steps =
      let p : Open N A = with_uses o (q.world.added o.node o.replies) in
      rw steps.1 (runs.0, turn-steps _ q.law _ _ _ _ _ refl refl steps.0 runs.1)

  advances : (es : List (Entry N A)) (st now : List (Open N A)) (s : Next N A) (t : Nodes N A) (out : Option (Outcome N A)) → IsRunning q.world es st
      → Steps q.world st now s → AdvancesAt q.world es now s t out → AdvancesFrom q.world es st t out
  advances es [] now s t out runs steps h = absurd runs
  advances es (o ∷ st) now s t out runs steps h =
      rw (turn-account _ q.law _ _ st _ steps.0 runs.1) at (rw steps.1 at h)

  leaves : (es : List (Entry N A)) (st now : List (Open N A)) (s : Next N A) (t : List (Entry N A)) → IsRunning q.world es st → Steps q.world st now s
      → LeftAt q.world es now s t → LeftFrom q.world es st t
  leaves es [] now s t runs steps h = absurd runs
  leaves es (o ∷ st) now s t runs steps h =
      let at : LeftAt q.world es (with_uses o (q.world.added o.node o.replies) ∷ st) s t = subst (λ xs. LeftAt q.world es xs s t) steps.1 h in
      subst (λ acc. IsLeft q.world acc.all es t) (turn-account q.world q.law es o st s steps.0 runs.1) at

  running : (es ks : List (Entry N A)) (n : N) (st : List (Open N A)) → HoldsWith q.world n es ks st → IsRunning q.world ks st
  running es ks n [] h = absurd h
  running es ks n (o ∷ st) h = (h.stack, h.came)

  -- what is kept is right
  pub right_with : (es ks : List (Entry N A)) (n : N) (st : List (Open N A)) → HoldsWith q.world n es ks st → IsRight q.world ks
  right_with es ks n [] h = absurd h
  right_with es ks n (o ∷ st) h = h.stack.right

  -- what has come of the call
  pub reached : {n : N} {es : List (Entry N A)} {first : Option ℕ} {s : Next N A} (t : Turn n es first s) → HasReached q.world t.now.kept t.now.opened s
  reached {n} {es} {first} {s} t =
      rw t.same (called t.old.kept _ _ _ (running es t.old.kept n t.old.opened t.holds) t.steps)

  -- what the rest of the turn does
  moves : {n : N} {es : List (Entry N A)} {first : Option ℕ} {s : Next N A} (t : Turn n es first s) (now : Nodes N A) (out : Option (Outcome N A))
      → AdvancesAt q.world t.now.kept t.now.opened s now out → AdvancesFrom q.world t.old.kept t.old.opened now out
  moves {n} {es} {first} {s} t now out rest =
      advances t.old.kept _ _ _ now out (running es t.old.kept n t.old.opened t.holds) t.steps
      (rw t.same at rest)

  left_next : (es ks : List (Entry N A)) (n : N) (st : List (Open N A)) (t : List (Entry N A)) → HoldsWith q.world n es ks st → LeftFrom q.world ks st t
      → IsLeft q.world (to_keep q.world es (done q.world [] n)) es t
  left_next es ks n [] t h left = absurd h
  left_next es ks n (o ∷ st) t h left =
      record { right = left.right; grown = λ x k. left.grown x (h.grown x k); within = λ x k. sym (h.all x) ∙ left.within x k }

  -- memory was refused: nothing more is kept, or what the rest of the turn keeps
  pub left_same : (es ks : List (Entry N A)) (n : N) (st : List (Open N A)) (t : List (Entry N A)) → HoldsWith q.world n es ks st → t ≡ ks
      → IsLeft q.world (to_keep q.world es (done q.world [] n)) es t
  left_same es ks n [] t h same = absurd h
  left_same es ks n (o ∷ st) t h same =
      left_next es ks n (o ∷ st) t h (left-same _ q.law _ _ (rest_of q.world o st) h.stack.right same)

  pub left : {n : N} {es : List (Entry N A)} {first : Option ℕ} {s : Next N A} (t : Turn n es first s) (now : List (Entry N A))
      → LeftAt q.world t.now.kept t.now.opened s now → IsLeft q.world (to_keep q.world es (done q.world [] n)) es now
  left {n} {es} {first} {s} t now may =
      left_next _ t.old.kept n t.old.opened _ t.holds
      (leaves t.old.kept _ _ _ now (running es t.old.kept n t.old.opened t.holds) t.steps
      (rw t.same at may))

  -- it goes on: fewer turns are left, and what must hold between two turns does
  pub goes_on : {n : N} {es : List (Entry N A)} {first : Option ℕ} {s : Next N A} (t : Turn n es first s) (now : Nodes N A) (after : Option ℕ)
      → AdvancesAt q.world t.now.kept t.now.opened s now None → after ≡ counted 1 t.turns → GoesOnFrom n es first t.old.kept t.old.opened now after
  goes_on {n} {es} {first} t now after rest counted = by t.old.kept t.old.opened now.kept now.opened t.holds t.counts (moves t now None rest)
    where
      by : (ks : List (Entry N A)) (st : List (Open N A)) (qs : List (Entry N A)) (xs : List (Open N A)) → HoldsWith q.world n es ks st
          → CountsWith q.world n es first ks st t.turns → AdvancesFrom q.world ks st (record { kept = qs; opened = xs }) None
          → GoesOnFrom n es first ks st (record { kept = qs; opened = xs }) after
      by ks [] qs xs h c goes = absurd h
      by ks (o ∷ st) qs [] h c goes = absurd goes
      by ks (o ∷ st) qs (p ∷ rest) h c goes = record {
        holds = record {
          stack = goes.stack;
          came = goes.came;
          grown = λ x k. goes.grown x (h.grown x k);
          all = λ x. goes.all x ∙ h.all x;
          value = goes.value ∙ h.value;
        };
        turns = counts-step first t.turns _ _ _ _ _ _ c goes.calls counted;
        smaller = goes.fewer;
      }

  -- it ends the question
  pub ended : {n : N} {es : List (Entry N A)} {first : Option ℕ} {s : Next N A} (t : Turn n es first s) (now : Nodes N A) (out : Outcome N A)
      (after : Option ℕ) → AdvancesAt q.world t.now.kept t.now.opened s now (Some out) → after ≡ counted 1 t.turns → HasEnd n es first after now.kept out
  ended {n} {es} {first} t now out after rest counted =
      by t.old.kept t.old.opened t.holds t.counts (moves t now (Some out) rest)
    where
      by : (ks : List (Entry N A)) (st : List (Open N A)) → HoldsWith q.world n es ks st → CountsWith q.world n es first ks st t.turns
          → AdvancesFrom q.world ks st now (Some out) → HasEnd n es first after now.kept out
      by ks [] h c ends = absurd h
      by ks (o ∷ st) h c ends = record {
        outcome = ends.value ∙ h.value;
        right = ends.right;
        kept = λ x. ends.all x ∙ h.all x;
        turns = λ answered. counts-end first t.turns _ _ _ _ c (ends.calls answered) counted;
      }

  -- after the call the table grew, by nodes that the asked one completes: so it is a turn before whose call it had grown
  module _ {n m : N} {es : List (Entry N A)} {first : Option ℕ} (t : Turn n es first (Need m)) (now : Nodes N A) (count : ℕ)
      (same : now.opened ≡ t.now.opened) (g : GrowsBy q.world m (nodes_in t.now.opened) t.now.kept now.kept count) where
    holds-grown : HoldsWith q.world n es now.kept t.old.opened × CountsWith q.world n es first now.kept t.old.opened (counted count t.turns)
    holds-grown = by t.old.opened t.now.opened t.holds t.counts t.steps from
      where
        from : GrowsBy q.world m (nodes_in t.now.opened) t.old.kept now.kept count
        from = subst (λ xs. GrowsBy q.world m (nodes_in t.now.opened) xs now.kept count) t.same g

        by : (st next : List (Open N A)) → HoldsWith q.world n es t.old.kept st → CountsWith q.world n es first t.old.kept st t.turns
            → Steps q.world st next (Need m) → GrowsBy q.world m (nodes_in next) t.old.kept now.kept count
            → HoldsWith q.world n es now.kept st × CountsWith q.world n es first now.kept st (counted count t.turns)
        by [] next h c steps g = absurd h
        by (o ∷ st) next h c steps g =
            let ahead : GrowsBy q.world m (o.node ∷ nodes_in st) t.old.kept now.kept count =
            subst (λ xs. GrowsBy q.world m (nodes_in xs) t.old.kept now.kept count) steps.1 g in (
              record {
                stack = grown-stack _ q.law _ _ _ _ _ _ h.stack h.came steps.0 ahead;
                came = grown-came-on _ q.law _ _ _ _ _ _ h.stack h.came steps.0 ahead;
                grown = λ x k. grown-in _ q.law _ _ _ _ _ ahead x (h.grown x k);
                all = λ x. grown-all _ q.law _ _ _ _ _ _ h.stack h.came steps.0 ahead x ∙ h.all x;
                value = h.value;
              },
              counts-ahead first t.turns count _ _ _ _ c (grown-debt _ q.law _ _ _ _ _ _ h.stack h.came steps.0 ahead),
            )

    abbrev grown : Turn n es first (Need m)
    grown = record {
      old = record { kept = now.kept; opened = t.old.opened };
      now = now;
      turns = counted count t.turns;
      holds = holds-grown.0;
      counts = holds-grown.1;
      steps = subst (λ st. Steps q.world t.old.opened st (Need m)) (sym same) t.steps;
      same = refl;
    }

    -- no more turns are left than before
    grown-fewer : turns_left q.world now.kept t.old.opened ≤ turns_left q.world t.old.kept t.old.opened
    grown-fewer = by t.old.opened
      where
        by : (st : List (Open N A)) → turns_left q.world now.kept st ≤ turns_left q.world t.old.kept st
        by [] = omega arith
        by (o ∷ st) = grown-left _ q.law _ _ _ _ _ (subst (λ xs. GrowsBy q.world m (nodes_in t.now.opened) xs now.kept count) t.same g) o st

    -- the node is kept or opened: it goes on
    pub grown-goes : (next : Nodes N A) (after : Option ℕ) → Replies q.eq m now next ⊎ Opens q.eq m now next
        → after ≡ counted count (counted 1 t.turns) → GoesOnFrom n es first t.old.kept t.old.opened next after
    grown-goes next after asks counts =
        let goes = goes_on grown next after (hears_or_opens now.kept now.opened m next (reached grown) asks) (counts ∙ counted-swap count t.turns) in
        let less = goes.smaller in
        let fewer = grown-fewer in
        record { holds = goes.holds; turns = goes.turns; smaller = omega arith }

    -- it is open: the question ends
    pub grown-ends : (k : N) (next : Nodes N A) (after : Option ℕ) → Circles q.eq m k now next → after ≡ counted count (counted 1 t.turns)
        → HasEnd n es first after next.kept (Circle k)
    grown-ends k next after is counts =
        ended grown next (Circle k) after (circles now.kept now.opened m k next (reached grown) is) (counts ∙ counted-swap count t.turns)

    -- memory was refused
    pub grown-same : (next : List (Entry N A)) → next ≡ now.kept → IsLeft q.world (to_keep q.world es (done q.world [] n)) es next
    grown-same next kept = left_same es now.kept n t.old.opened next holds-grown.0 kept

  -- ---- the first of them
  -- a node that is kept or open ends it at once
  pub ends_known : (n : N) (old now : Nodes N A) (out : Outcome N A) (turns : Option ℕ) → IsRight q.world old.kept → old.opened ≡ []
      → Starts q.eq n old now (Some out) → HasEnd n old.kept turns turns now.kept out
  ends_known n old now (Answered a) turns right none starts =
      let e : Entry N A = starts.0.0 in
      let is = starts.0.1 in
      let same : now.kept ≡ old.kept = ap (λ v. v.kept) starts.1 in
      record {
        outcome = cc (entry_says _ _ _ is (answering q.world []) (agrees q.world q.law old.kept right [] tt));
        right = subst (IsRight q.world) (sym same) right;
        kept = λ x. cc (same, covers-kept _ q.law _ n right (entry_in _ _ _ is));
        turns = λ answered. none-owed _ q.law _ n right (entry_in _ _ _ is) _;
      }
  ends_known n old now (Circle m) turns right none circles =
      let no : list_any (λ o. q.eq n o.node) old.opened ≡ false = ap (list_any (λ o. q.eq n o.node)) none in
      absurd (true≢false (sym circles.waits ∙ no))

  pub opens_first : (n : N) (old now : Nodes N A) → old.opened ≡ [] → Opens q.eq n old now → now.opened ≡ newly n ∷ []
  opens_first n old now none opens = cc (q.exact n opens.node opens.passes)

  pub holds_first : (es ks : List (Entry N A)) (n : N) (st : List (Open N A)) → IsRight q.world es → HasNoEntry q.eq es n → ks ≡ es → st ≡ newly n ∷ []
      → HoldsWith q.world n es ks st
  holds_first es ks n st right none kept opened =
      let holds : Holds q.world n es es (newly n) [] = record {
        stack = begins _ q.law _ n _ _ refl refl right (no_entry_out es n none);
        came = comes _ q.law _ n _ refl;
        grown = λ x k. k;
        all = λ x. ap (λ ns. is_among q.world.number ns x) (covers-begins _ q.law es n _ _ refl refl);
        value = value-begins _ q.law n _ _ refl refl;
      } in
      rw kept (subst (HoldsWith q.world n es es) (sym opened) holds)

  pub counts_first : (es ks : List (Entry N A)) (n : N) (st : List (Open N A)) (turns : Option ℕ) → ks ≡ es → st ≡ newly n ∷ []
      → CountsWith q.world n es turns ks st turns
  counts_first es ks n st turns kept opened =
      let counts : Counts turns turns (debt q.world es (rest_of q.world (newly n) [])) (0 + 0) (debt q.world es (done q.world [] n)) =
      (0, refl, turns-begin _ q.law es n _ _ refl refl) in
      rw kept (rw opened counts)
