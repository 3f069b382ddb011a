-- Plans whose questions are answered by a map, and by a list of replies. Q are questions, H the contents of
-- answers.
use Rattle.std.specs.Prelude.{ℕ, List, [], ◌∷◌, Result, Ok, Err}
use Rattle.ksv_basics.specs.Plan.{Plan, Answer, Fail, Ask, Ran, Need, Failed, Done, Handler}

-- an answer, and then a function of it; a fault is passed on
abbrev pub and_then : {E A B : Type 0} → Result A E → (A → Result B E) → Result B E
and_then (Ok a) f = f a
and_then (Err e) f = Err e

-- what a plan answers where the map `met` answers each question; `raise` makes a failure a fault
abbrev pub answer_of : {Q H F E A : Type 0} → (F → E) → (Q → Result H E) → Plan Q (λ _. H) F A → Result A E
answer_of raise met (Answer a) = Ok a
answer_of raise met (Fail e) = Err (raise e)
answer_of raise met (Ask q k) = and_then (met q) (λ h. answer_of raise met (k h))

-- the questions that it asks there, in order; after a fault it asks none
abbrev pub asks_behind : {Q H E : Type 0} → Result H E → (H → List Q) → List Q
asks_behind (Ok h) rest = rest h
asks_behind (Err e) rest = []

abbrev pub asks_of : {Q H F E A : Type 0} → (Q → Result H E) → Plan Q (λ _. H) F A → List Q
asks_of met (Answer a) = []
asks_of met (Fail e) = []
asks_of met (Ask q k) = q ∷ asks_behind (met q) (λ h. asks_of met (k h))

-- the path of faults, and the replies that are left
pub record Replies (P H E : Type 0) : Type 0 where
  pub here : P
  pub replies : List (Result H E)

-- the reply to a question is the first of the list, which is removed; if there is none, the question stays open
abbrev pub replied : {Q P H E : Type 0} → Q → List (Result H E) → Replies P H E → Ran Q E (Replies P H E) H
replied q [] s = Need q s
replied q (Ok h ∷ replies) s = Done h (record s { replies = replies })
replied q (Err e ∷ replies) s = Failed e (record s { replies = replies })

-- replies answer the questions, and a failure is a fault at the path of faults
abbrev pub by_replies : {Q P H F E : Type 0} → (P → F → E) → Handler Q (λ _. H) F (Replies P H E) Q E
by_replies raise = record { reply = λ q s. replied q s.replies s; raise = λ e s. raise s.here e }

-- how a plan ended
abbrev pub ended : {N E S A : Type 0} → Result A E → S → Ran N E S A
ended (Ok a) s = Done a s
ended (Err e) s = Failed e s
