-- How contracts see a path: as its steps from the last to the first, of which there are at most 64, with indices below
-- 1,048,576. A path leads from the root by names of members and by indices of elements. The names with a `-` are lemmas, which a
-- reader may skip.
use Rattle.std.specs.Prelude.{◌≡◌, ℕ, ◌<◌, ◌≤◌, ◌^◌, nat_lt, nat_le, Bool, true, false, ◌&&◌, List, [], ◌∷◌, length, IsTrue, Option, Some, None, IfSome, refl, suc}
use Rattle.std.specs.List.{list_all}
use Rattle.std.specs.Cmp.{first_so, second_so}
use Rattle.std.proofs.Common.{arith, ap}
use Rattle.std.proofs.lemmas.Bool.Decides.{nat_tests}
use Rattle.std.proofs.lemmas.Bool.{ltb-true}
use mathlib.Core.HLevel.{is_prop→PathP}
use mathlib.Core.Bool.{Bool-set}
use Rattle.ksv_expr_value.specs.declared.step.Step.{Step}
use Rattle.ksv_expr_value.specs.declared.step.Step.TheVariants.{Name, Index}

-- the most steps of a path, and the number of elements that a list has at most
abbrev pub step_limit : ℕ
step_limit = 64

abbrev pub element_limit : ℕ
element_limit = 1048576

-- a name is a `u32`, and an index is below the number of elements
abbrev pub step_fits : Step → Bool
step_fits (Name n) = nat_lt n (2 ^ 32)
step_fits (Index i) = nat_lt i element_limit

-- a step in its range, as a proposition
abbrev pub InRange : Step → Type 0
InRange (Name n) = n < 2 ^ 32
InRange (Index i) = i < element_limit

-- at most this many steps, each in its range
unfoldable pub fits : List Step → Bool
fits steps = nat_le (length steps) step_limit && list_all step_fits steps

-- a path
pub record Trail : Type 0 where
  pub upward : List Step
  pub valid : IsTrue (fits upward)

-- paths of the same steps are the same
pub same_trail : (a b : Trail) → a.upward ≡ b.upward → a ≡ b
same_trail a b e = λ i. record { upward = e i; valid = is_prop→PathP (λ j. fits (e j) ≡ true) (λ j. Bool-set (fits (e j)) true) a.valid b.valid i }

-- the empty list of steps fits
pub fits-none : fits [] ≡ true
unfolding fits
fits-none = refl

less : (n : ℕ) (x y : Bool) → (nat_le (suc n) 64 && (x && y)) ≡ true → (nat_le n 64 && y) ≡ true
less n x true h = let le : nat_le (suc n) 64 ≡ true = first_so (nat_le (suc n) 64) (x && true) h in
    let small : nat_le n 64 ≡ true = grind (arith, nat_tests) in small_and small
  where
    small_and : nat_le n 64 ≡ true → (nat_le n 64 && true) ≡ true
    small_and e = ap (λ b. b && true) e
less n x false h = absurd (let bad : (x && false) ≡ true = second_so (nat_le (suc n) 64) (x && false) h in
    let worse : false ≡ true = second_so x false bad in cc)

more : (n : ℕ) (x y : Bool) → x ≡ true → n < 64 → y ≡ true → (nat_le (suc n) 64 && (x && y)) ≡ true
more n x y a few b = let le : nat_le (suc n) 64 ≡ true = grind (arith, nat_tests) in rw (le, a, b) refl

over : (n : ℕ) (x : Bool) → n ≡ 64 → (nat_le (suc n) 64 && x) ≡ false
over n x full = let le : nat_le (suc n) 64 ≡ false = grind (arith, nat_tests) in rw le refl

-- steps that fit still do without the last one
pub fits-less : (s : Step) (q : List Step) → fits (s ∷ q) ≡ true → fits q ≡ true
unfolding fits
fits-less s q h = less (length q) (step_fits s) (list_all step_fits q) h

-- the path of no steps, the root's
abbrev pub root : Trail
root = record { upward = []; valid = fits-none }

-- the steps except the last, which is first in the list
abbrev pub all_but_last : List Step → List Step
all_but_last [] = []
all_but_last (s ∷ q) = q

pub fits-all_but_last : (steps : List Step) → fits steps ≡ true → fits (all_but_last steps) ≡ true
fits-all_but_last [] h = h
fits-all_but_last (s ∷ q) h = fits-less s q h

-- the path without its last step; of no steps, that of no steps
abbrev pub parent : Trail → Trail
parent t = record { upward = all_but_last t.upward; valid = fits-all_but_last t.upward t.valid }

-- the path of these steps, given whether they fit
unfoldable pub trail_when : (steps : List Step) (b : Bool) → fits steps ≡ b → Option Trail
trail_when steps true e = Some (record { upward = steps; valid = e })
trail_when steps false e = None

-- the path of these steps, last first, if they fit
unfoldable pub trail_of : List Step → Option Trail
trail_of steps = trail_when steps (fits steps) refl

trail_when-true : (steps : List Step) (b : Bool) (e : fits steps ≡ b) (h : fits steps ≡ true) → trail_when steps b e ≡ Some (record { upward = steps; valid = h })
unfolding trail_when
trail_when-true steps true e h = ap Some (same_trail (record { upward = steps; valid = e }) (record { upward = steps; valid = h }) refl)
trail_when-true steps false e h = absurd (cc)

trail_when-false : (steps : List Step) (b : Bool) (e : fits steps ≡ b) → fits steps ≡ false → trail_when steps b e ≡ None
unfolding trail_when
trail_when-false steps true e h = absurd (cc)
trail_when-false steps false e h = refl

-- steps that fit are those of a path
pub trail_of-true : (t : Trail) → trail_of t.upward ≡ Some t
unfolding trail_of
trail_of-true t = trail_when-true t.upward (fits t.upward) refl t.valid

-- steps that do not fit are those of no path
pub trail_of-false : (steps : List Step) → fits steps ≡ false → trail_of steps ≡ None
unfolding trail_of
trail_of-false steps h = trail_when-false steps (fits steps) refl h

trail_when-steps : (steps : List Step) (b : Bool) (e : fits steps ≡ b) (t : Trail) → trail_when steps b e ≡ Some t → steps ≡ t.upward
unfolding trail_when
trail_when-steps steps true e t h = some_upward h
  where
    some_upward : Some (record { upward = steps; valid = e }) ≡ Some t → steps ≡ t.upward
    some_upward p = let q : ◌≡◌ {A = Trail} (record { upward = steps; valid = e }) t = cc in ap (λ (u : Trail). u.upward) q
trail_when-steps steps false e t h = absurd (cc)

-- the path that `trail_of` gives has these steps
pub trail_of-steps : (steps : List Step) (t : Trail) → trail_of steps ≡ Some t → steps ≡ t.upward
unfolding trail_of
trail_of-steps steps t h = trail_when-steps steps (fits steps) refl t h

-- a further step that is in its range fits if there are fewer than 64
pub fits-more : (s : Step) (q : List Step) → step_fits s ≡ true → fits q ≡ true → length q < 64 → fits (s ∷ q) ≡ true
unfolding fits
fits-more s q a b few = more (length q) (step_fits s) (list_all step_fits q) a few (second_so (nat_le (length q) 64) (list_all step_fits q) b)

-- 65 steps do not fit
pub fits-over : (s : Step) (q : List Step) → length q ≡ 64 → fits (s ∷ q) ≡ false
unfolding fits
fits-over s q full = over (length q) (step_fits s && list_all step_fits q) full

-- a path has at most 64 steps
pub length-fits : (steps : List Step) → fits steps ≡ true → length steps ≤ 64
unfolding fits
length-fits steps h = let le : nat_le (length steps) 64 ≡ true = first_so (nat_le (length steps) 64) (list_all step_fits steps) h in grind (arith, nat_tests)

-- the path one step further, if it fits
abbrev pub child : Trail → Step → Option Trail
child t s = trail_of (s ∷ t.upward)

-- the first of some steps
abbrev pub first_step : List Step → Option Step
first_step [] = None
first_step (s ∷ q) = Some s

-- the path's last step
abbrev pub last : Trail → Option Step
last t = first_step t.upward

-- each step of a path is in its range
pub all_fit : (t : Trail) → list_all step_fits t.upward ≡ true
unfolding fits
all_fit t = second_so (nat_le (length t.upward) 64) (list_all step_fits t.upward) t.valid

last_of : (steps : List Step) → list_all step_fits steps ≡ true → (s : Step) → (q : List Step) → steps ≡ s ∷ q → InRange s
last_of [] h s q e = absurd (cc)
last_of (t ∷ r) h s q e = let same : t ≡ s = cc in in_range s (rw (← same) (first_so (step_fits t) (list_all step_fits r) h))
  where
    in_range : (s : Step) → step_fits s ≡ true → InRange s
    in_range (Name n) h = ltb-true n (2 ^ 32) h
    in_range (Index i) h = ltb-true i 1048576 h

-- a path's last step is in its range
pub last-InRange : (t : Trail) → IfSome (last t) InRange
last-InRange t = by_steps t.upward (all_fit t)
  where
    by_steps : (steps : List Step) → list_all step_fits steps ≡ true → IfSome (first_step steps) InRange
    by_steps [] h = tt
    by_steps (s ∷ q) h = last_of (s ∷ q) h s q refl

wide : (i n : ℕ) (x : Bool) → 1048576 ≤ i → (nat_le n 64 && (nat_lt i 1048576 && x)) ≡ false
wide i n x h = let lt : nat_lt i 1048576 ≡ false = grind (arith, nat_tests) in rw lt (false_right (nat_le n 64))
  where
    false_right : (b : Bool) → (b && false) ≡ false
    false_right true = refl
    false_right false = refl

-- an index from 1,048,576 on does not fit
pub fits-wide : (i : ℕ) (q : List Step) → 1048576 ≤ i → fits (Index i ∷ q) ≡ false
unfolding fits
fits-wide i q h = wide i (suc (length q)) (list_all step_fits q) h

-- The object that holds a list: the path without its last name.
abbrev pub list_holder : Trail → Option Step → Option Trail
list_holder t None = None
list_holder t (Some (Name x)) = Some (parent t)
list_holder t (Some (Index i)) = None

-- The object that holds an attribute: the path without its last name and the index after it, if any; the root has
-- none.
abbrev pub holder_at : Trail → Option Step → Option Trail
holder_at t None = None
holder_at t (Some (Name x)) = Some (parent t)
holder_at t (Some (Index i)) = list_holder (parent t) (last (parent t))

abbrev pub holder : Trail → Option Trail
holder t = holder_at t (last t)
