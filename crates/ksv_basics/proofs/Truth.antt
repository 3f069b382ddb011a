-- With true replies a plan asks what it asks, and answers what it answers, where a map answers.
use Rattle.std.proofs.Common.{◌≡◌, ℕ, zero, suc, ◌<◌, List, [], ◌∷◌, ◌++◌, length, map, take, slice_get, Result, Ok, Err, Option, Some, Bool, true, false}
use Rattle.std.proofs.Common.{if◌then◌else◌, refl, sym, ap, ◌∙◌, arith}
use Rattle.ksv_basics.specs.Plan.{Plan, Answer, Fail, Ask, bind, Ran, Need, Failed, Done, next, run}
use Rattle.ksv_basics.specs.Asking.{and_then, answer_of, asks_behind, asks_of, Replies, replied, by_replies, ended}

module _ {Q P H F E : Type 0} (raise : P → F → E) (here : P) (met : Q → Result H E) where
  -- a state of these replies
  abbrev pub at : List (Result H E) → Replies P H E
  at replies = record { here = here; replies = replies }

  bind_behind : {A B : Type 0} (k : H → Plan Q (λ _. H) F A) (f : A → Plan Q (λ _. H) F B)
      → ((h : H) → answer_of (raise here) met (bind (k h) f) ≡ and_then (answer_of (raise here) met (k h)) (λ a. answer_of (raise here) met (f a)))
      → (r : Result H E) → and_then r (λ h. answer_of (raise here) met (bind (k h) f)) ≡ and_then (and_then r (λ h. answer_of (raise here) met (k h)))
      (λ a. answer_of (raise here) met (f a))
  bind_behind k f same (Ok h) = same h
  bind_behind k f same (Err e) = refl

  -- the answer of one plan after another
  pub answer_bind : {A B : Type 0} (p : Plan Q (λ _. H) F A) (f : A → Plan Q (λ _. H) F B)
      → answer_of (raise here) met (bind p f) ≡ and_then (answer_of (raise here) met p) (λ a. answer_of (raise here) met (f a))
  unfolding bind
  answer_bind (Answer a) f = refl
  answer_bind (Fail e) f = refl
  answer_bind (Ask q k) f = bind_behind k f (λ h. answer_bind (k h) f) (met q)

  -- with all the replies it ends with the answer, and what comes after them is left
  abbrev pub Ends : {A : Type 0} → Plan Q (λ _. H) F A → Type 0
  Ends p = (more : List (Result H E)) → run (by_replies raise) p (at (map met (asks_of met p) ++ more)) ≡ ended (answer_of (raise here) met p) (at more)

  ends_behind : {A : Type 0} (q : Q) (k : H → Plan Q (λ _. H) F A) (more : List (Result H E)) → ((h : H) → Ends (k h))
      → (r : Result H E) → next
      (replied q (r ∷ (map met (asks_behind r (λ h. asks_of met (k h))) ++ more)) (at (r ∷ (map met (asks_behind r (λ h. asks_of met (k h))) ++ more))))
      (λ h s. run (by_replies raise) (k h) s) ≡ ended (and_then r (λ h. answer_of (raise here) met (k h))) (at more)
  ends_behind q k more rest (Ok h) = rest h more
  ends_behind q k more rest (Err e) = refl

  pub ends : {A : Type 0} (p : Plan Q (λ _. H) F A) → Ends p
  ends (Answer a) more = refl
  ends (Fail e) more = refl
  ends (Ask q k) more = ends_behind q k more (λ h. ends (k h)) (met q)

  -- with the first of them alone it needs the next
  pub record NeedsNext {A : Type 0} (p : Plan Q (λ _. H) F A) (i : ℕ) : Type 0 where
    pub question : Q
    pub is_next : slice_get (asks_of met p) i ≡ Some question
    pub ran : run (by_replies raise) p (at (map met (take i (asks_of met p)))) ≡ Need question (at [])

  needs_behind : {A : Type 0} (q : Q) (k : H → Plan Q (λ _. H) F A) (i : ℕ) → ((h : H) → i < length (asks_of met (k h)) → NeedsNext (k h) i)
      → (r : Result H E) → met q ≡ r → suc i < length (asks_of met (Ask q k)) → NeedsNext (Ask q k) (suc i)
  needs_behind q k i more (Ok g) e h =
      let asks : asks_of met (Ask q k) ≡ q ∷ asks_of met (k g) = ap (λ r. q ∷ asks_behind r (λ h. asks_of met (k h))) e in
      let rest = more g (omega (arith, ap length asks)) in
      record {
        question = rest.question;
        is_next = ap (λ l. slice_get l (suc i)) asks ∙ rest.is_next;
        ran = ap (λ l. run (by_replies raise) (Ask q k) (at (map met (take (suc i) l)))) asks
            ∙ ap (λ r. next (replied q (r ∷ map met (take i (asks_of met (k g)))) (at (r ∷ map met (take i (asks_of met (k g))))))
            (λ h' s. run (by_replies raise) (k h') s)) e ∙ rest.ran;
      }
  needs_behind q k i more (Err f) e h =
      let asks : asks_of met (Ask q k) ≡ q ∷ [] = ap (λ r. q ∷ asks_behind r (λ h. asks_of met (k h))) e in
      absurd (omega (arith, ap length asks))

  pub needs : {A : Type 0} (p : Plan Q (λ _. H) F A) (i : ℕ) → i < length (asks_of met p) → NeedsNext p i
  needs (Answer a) i h = absurd (omega arith)
  needs (Fail e) i h = absurd (omega arith)
  needs (Ask q k) zero h = record { question = q; is_next = refl; ran = refl }
  needs (Ask q k) (suc i) h = needs_behind q k i (λ g. needs (k g) i) (met q) refl h
