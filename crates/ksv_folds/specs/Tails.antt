-- What a path is to a list: an element of it, or a member of one.
use Rattle.std.specs.Prelude.{◌≡◌, ℕ, List, [], ◌∷◌}
use Rattle.ksv_expr_value.specs.declared.step.Step.{Step}
use Rattle.ksv_expr_value.specs.declared.step.Step.TheVariants.{Name, Index}
use Rattle.ksv_folds.specs.declared.tail.Tail.{Tail}
use Rattle.ksv_folds.specs.declared.tail.Tail.TheVariants.{Other, Element, Member}

-- by the steps of the list's path and of the path, from the last to the first
abbrev pub IsTail : List Step → List Step → Tail → Type 0
IsTail l q (Element i) = q ≡ Index i ∷ l
IsTail l q (Member i n) = q ≡ Name n ∷ (Index i ∷ l)
IsTail l q Other = ((i : ℕ) → q ≡ Index i ∷ l → ⊥) × ((i n : ℕ) → q ≡ Name n ∷ (Index i ∷ l) → ⊥)

-- the steps behind those of the list, from the first to the last
abbrev pub one_step : Step → Tail
one_step (Index i) = Element i
one_step (Name n) = Other

abbrev pub two_steps : Step → Step → Tail
two_steps (Index i) (Name n) = Member i n
two_steps (Index i) (Index j) = Other
two_steps (Name n) t = Other

abbrev pub tail_in : List Step → Tail
tail_in [] = Other
tail_in (s ∷ []) = one_step s
tail_in (s ∷ (t ∷ [])) = two_steps s t
tail_in (s ∷ (t ∷ (u ∷ r))) = Other
