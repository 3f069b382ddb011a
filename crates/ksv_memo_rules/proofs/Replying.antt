-- The replies that are lent are the answers in the slots that were asked.
use Rattle.std.proofs.Common.{◌≡◌, ℕ, zero, suc, Bool, true, false, List, [], ◌∷◌, length, Option, Some, None, is_some, refl, ◌∙◌, ap, slice_get, ◌&&◌}
use Rattle.std.specs.List.{AllByRecursion, list_all}
use Rattle.ksv_memo_rules.specs.declared.replies.Slot.{Slot}
use Rattle.ksv_memo_rules.specs.Slots.{HasAnswer, answer_at, answers_at, with_first}

-- what is there, before a list
pub first_length : {X : Type 0} (o : Option X) (xs : List X) → is_some o ≡ true → length (with_first o xs) ≡ suc (length xs)
first_length None xs e = absurd (cc)
first_length (Some x) xs e = refl

first_get : {X : Type 0} (o : Option X) (xs : List X) → is_some o ≡ true → slice_get (with_first o xs) 0 ≡ o
first_get None xs e = absurd (cc)
first_get (Some x) xs e = refl

rest_get : {X : Type 0} (o : Option X) (xs : List X) (k : ℕ) → is_some o ≡ true → slice_get (with_first o xs) (suc k) ≡ slice_get xs k
rest_get None xs k e = absurd (cc)
rest_get (Some x) xs k e = refl

module _ {V F : Type 0} (slots : List (Slot V F)) where
  pub lent_length : (is : List ℕ) → AllByRecursion (HasAnswer slots) is → length (answers_at slots is) ≡ length is
  lent_length [] h = refl
  lent_length (i ∷ is) h = first_length (answer_at slots i) (answers_at slots is) h.0 ∙ ap suc (lent_length is h.1)

  pub lent_at : (is : List ℕ) (k i : ℕ) → AllByRecursion (HasAnswer slots) is → slice_get is k ≡ Some i → slice_get (answers_at slots is) k ≡ answer_at slots i
  lent_at [] k i h e = absurd (cc)
  lent_at (j ∷ is) zero i h e = let same : j ≡ i = cc in first_get (answer_at slots j) (answers_at slots is) h.0 ∙ ap (answer_at slots) same
  lent_at (j ∷ is) (suc k) i h e = rest_get (answer_at slots j) (answers_at slots is) k h.0 ∙ lent_at is k i h.1 e

  pub lent_past : (is : List ℕ) (k : ℕ) → AllByRecursion (HasAnswer slots) is → slice_get is k ≡ None → slice_get (answers_at slots is) k ≡ None
  lent_past [] k h e = refl
  lent_past (j ∷ is) zero h e = absurd (cc)
  lent_past (j ∷ is) (suc k) h e = rest_get (answer_at slots j) (answers_at slots is) k h.0 ∙ lent_past is k h.1 e

  pub all_kept : (is : List ℕ) → list_all (λ i. is_some (answer_at slots i)) is ≡ true → AllByRecursion (HasAnswer slots) is
  all_kept [] e = tt
  all_kept (i ∷ is) e = by (is_some (answer_at slots i)) refl (all_kept is) e
    where
      by : (b : Bool) → is_some (answer_at slots i) ≡ b → (list_all (λ i. is_some (answer_at slots i)) is ≡ true → AllByRecursion (HasAnswer slots) is)
          → (b && list_all (λ i. is_some (answer_at slots i)) is) ≡ true → HasAnswer slots i × AllByRecursion (HasAnswer slots) is
      by true q ih h = (q, ih h)
      by false q ih h = absurd (cc)
