-- A lemma, which a reader may skip.
-- Paths that `==` finds equal are the same path.
use Rattle.std.specs.Prelude.{◌≡◌, Bool, true, List, [], ◌∷◌, reverse, refl}
use Rattle.std.proofs.Common.{ap, sym, ◌∙◌}
use Rattle.std.proofs.lemmas.List.{reverse-reverse}
use Rattle.std.proofs.lemmas.Bool.{eqb-true}
use Rattle.std.specs.Cmp.{first_so, second_so}
use Rattle.std.specs.Cmp.Lexicographic.{pointwise}
use Rattle.ksv_expr_value.specs.declared.step.Step.{Step}
use Rattle.ksv_expr_value.specs.declared.step.Step.TheVariants.{Name, Index}
use Rattle.ksv_expr_value.specs.contracts.step.StepPartialEq.TheImpl.{ghosts as step_tests}
use Rattle.ksv_expr_value.specs.contracts.path.PathPartialEq.TheImpl.{ghosts as path_tests}
use Rattle.ksv_expr_value.specs.Trail.{Trail, same_trail}

step_exact : (a b : Step) → step_tests.eq a b ≡ true → a ≡ b
step_exact (Name n) (Name m) h = ap Name (eqb-true n m h)
step_exact (Name n) (Index j) h = absurd (cc)
step_exact (Index i) (Name m) h = absurd (cc)
step_exact (Index i) (Index j) h = ap Index (eqb-true i j h)

pointwise_exact : {A : Type 0} (E : A → A → Bool) → ((a b : A) → E a b ≡ true → a ≡ b) → (xs ys : List A) → pointwise E xs ys ≡ true → xs ≡ ys
pointwise_exact E each [] [] h = refl
pointwise_exact E each [] (y ∷ ys) h = absurd (cc)
pointwise_exact E each (x ∷ xs) [] h = absurd (cc)
pointwise_exact E each (x ∷ xs) (y ∷ ys) h =
    let e = each x y (first_so (E x y) (pointwise E xs ys) h) in
    let es = pointwise_exact E each xs ys (second_so (E x y) (pointwise E xs ys) h) in
    λ i. e i ∷ es i

pub path_exact : (a b : Trail) → path_tests.eq a b ≡ true → a ≡ b
path_exact a b h = same_trail a b (sym (reverse-reverse a.upward) ∙ ap reverse (pointwise_exact step_tests.eq step_exact (reverse a.upward) (reverse b.upward) h) ∙ reverse-reverse b.upward)

-- equal paths are the same
abbrev pub EqualPathsAreSame : Type 0
EqualPathsAreSame = (a b : Trail) → path_tests.eq a b ≡ true → a ≡ b
