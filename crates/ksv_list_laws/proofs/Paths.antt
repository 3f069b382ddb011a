-- Paths of elements and of their fields.
use Rattle.std.proofs.Common.{◌^◌}
use Rattle.std.specs.Prelude.{option_map}
use Rattle.ksv_expr_value.specs.Trail.{last, element_limit, all_but_last, first_step, same_trail, step_fits, fits, fits-more, trail_of-true}
use Rattle.ksv_expr_value.specs.declared.step.Step.{Step}
use Rattle.ksv_expr_value.specs.declared.step.Step.TheVariants as steps
use Rattle.ksv_list_laws.proofs.Common.{◌≡◌, ℕ, ◌<◌, true, ◌∷◌, length, Option, Some, None, refl, sym, ap, arith, nat_tests, option_and_then, Trail, child}
use Rattle.ksv_list_laws.proofs.Common.{parent, trail_of-steps}

-- a step more leads back by one
pub part_of : (q r : Trail) (step : Step) → child q step ≡ Some r → (parent r ≡ q) × (last r ≡ Some step)
part_of q r step e =
    let up : step ∷ q.upward ≡ r.upward = trail_of-steps (step ∷ q.upward) r e in
    (same_trail (parent r) q (ap all_but_last (sym up)), ap first_step (sym up))

-- there is a step more where a path is short
child_is : (q : Trail) (step : Step) → step_fits step ≡ true → length q.upward < 64 → (r : Trail) × (child q step ≡ Some r)
child_is q step ok few =
    let valid : fits (step ∷ q.upward) ≡ true = fits-more step q.upward ok q.valid few in
    (record { upward = step ∷ q.upward; valid = valid }, trail_of-true (record { upward = step ∷ q.upward; valid = valid }))

pub element_is : (l : Trail) (i : ℕ) → length l.upward < 63 → i < element_limit → (p : Trail) × (child l (steps.Index i) ≡ Some p)
element_is l i short low = child_is l (steps.Index i) (grind (arith, nat_tests)) (omega (arith, short))

pub field_is : (l p : Trail) (i n : ℕ) → length l.upward < 63 → child l (steps.Index i) ≡ Some p → n < 2 ^ 32 → (q : Trail)
    × (child p (steps.Name n) ≡ Some q)
field_is l p i n short is small =
    let up = ap length (trail_of-steps (steps.Index i ∷ l.upward) p is) in
    child_is p (steps.Name n) (grind (arith, nat_tests)) (omega (arith, up, short))

-- what was made of something that there may be
pub mapped : {A B : Type 0} (f : A → B) (o : Option A) (b : B) → option_map f o ≡ Some b → (a : A) × (o ≡ Some a) × (f a ≡ b)
mapped f None b e = absurd (cc)
mapped f (Some a) b e = (a, refl, cc)

pub then_is : {A B : Type 0} (f : A → Option B) (o : Option A) (b : B) → option_and_then f o ≡ Some b → (a : A) × (o ≡ Some a) × (f a ≡ Some b)
then_is f None b e = absurd (cc)
then_is f (Some a) b e = (a, refl, e)
