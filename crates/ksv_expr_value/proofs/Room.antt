-- Whether the path of a part fits, and that of a part beside.
use Rattle.std.proofs.Common.{◌≡◌, ℕ, ◌<◌, ◌≤◌, ◌^◌, nat_lt, Bool, true, false, List, [], ◌∷◌, length, is_some, refl, sym, ap, ◌∙◌, arith}
use Rattle.std.proofs.lemmas.Bool.{ltb-true}
use Rattle.std.proofs.lemmas.Bool.Decides.{nat_tests}
use Rattle.ksv_expr_value.specs.Trail.{Trail, all_but_last, child, parent, fits, step_fits, trail_of-true, trail_of-false, fits-more, fits-over, fits-wide}
use Rattle.ksv_expr_value.specs.Trail.{length-fits}
use Rattle.ksv_expr_value.specs.declared.step.Step.{Step}
use Rattle.ksv_expr_value.specs.declared.step.Step.TheVariants.{Name, Index}

-- the path one step further is there if it fits
there : (t : Trail) (s : Step) → fits (s ∷ t.upward) ≡ true → is_some (child t s) ≡ true
there t s h = ap is_some (trail_of-true (record { upward = s ∷ t.upward; valid = h }))

gone : (t : Trail) (s : Step) → fits (s ∷ t.upward) ≡ false → is_some (child t s) ≡ false
gone t s h = ap is_some (trail_of-false (s ∷ t.upward) h)

room_is : (t : Trail) (s : Step) → step_fits s ≡ true → (b : Bool) → nat_lt (length t.upward) 64 ≡ b → b ≡ is_some (child t s)
room_is t s in_range true few = sym (there t s (fits-more s t.upward in_range t.valid (ltb-true _ _ few)))
room_is t s in_range false full =
    let many : 64 ≤ length t.upward = grind (arith, nat_tests) in
    let few : length t.upward ≤ 64 = length-fits t.upward t.valid in
    sym (gone t s (fits-over s t.upward (omega arith)))

-- a member's path fits where there is room, and an element's where its index is small too
pub member_fits : (t : Trail) (x : ℕ) → x < 2 ^ 32 → nat_lt (length t.upward) 64 ≡ is_some (child t (Name x))
member_fits t x small = room_is t (Name x) (grind (arith, nat_tests)) (nat_lt (length t.upward) 64) refl

pub element_fits : (t : Trail) (i : ℕ) → i < 1048576 → nat_lt (length t.upward) 64 ≡ is_some (child t (Index i))
element_fits t i small = room_is t (Index i) (grind (arith, nat_tests)) (nat_lt (length t.upward) 64) refl

pub far_element : (t : Trail) (i : ℕ) → 1048576 ≤ i → nat_lt i 1048576 ≡ is_some (child t (Index i))
far_element t i far =
    let past : nat_lt i 1048576 ≡ false = grind (arith, nat_tests) in
    past ∙ sym (gone t (Index i) (fits-wide i t.upward far))

-- a member's path beside another fits, and an element's where its index is small
beside_few : (steps : List Step) → length steps ≤ 64 → length (all_but_last steps) < 64
beside_few [] h = omega arith
beside_few (s ∷ q) h = omega arith

roomy : (t : Trail) → true ≡ nat_lt (length (parent t).upward) 64
roomy t = let few : length (all_but_last t.upward) < 64 = beside_few t.upward (length-fits t.upward t.valid) in grind (arith, nat_tests)

pub member_beside : (t : Trail) (x : ℕ) → x < 2 ^ 32 → true ≡ is_some (child (parent t) (Name x))
member_beside t x small = roomy t ∙ member_fits (parent t) x small

element_near : (t : Trail) (i : ℕ) → i < 1048576 → true ≡ is_some (child (parent t) (Index i))
element_near t i small = roomy t ∙ element_fits (parent t) i small

pub element_beside : (t : Trail) (i : ℕ) → nat_lt i 1048576 ≡ is_some (child (parent t) (Index i))
element_beside t i = by_test (nat_lt i 1048576) refl
  where
    by_test : (b : Bool) → nat_lt i 1048576 ≡ b → nat_lt i 1048576 ≡ is_some (child (parent t) (Index i))
    by_test true e = e ∙ element_near t i (ltb-true i 1048576 e)
    by_test false e = far_element (parent t) i (grind (arith, nat_tests))
