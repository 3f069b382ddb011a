-- Where elements and fields begin, in order; and the ranks of nodes.
use Rattle.std.proofs.Common.{◌*◌, ◌==◌}
use Rattle.ksv_expr_value.specs.declared.step.Step.{Step}
use Rattle.ksv_expr_value.specs.declared.step.Step.TheVariants as steps
use Rattle.ksv_nodes.specs.declared.node.NodeKind.{NodeKind}
use Rattle.ksv_nodes.specs.declared.node.NodeKind.TheVariants as nodes
use Rattle.ksv_list_laws.proofs.Common.{◌≡◌, ℕ, zero, suc, ◌+◌, ◌-◌, ◌<◌, ◌≤◌, Bool, true, false, if◌then◌else◌, List, ◌∷◌, Some, inl, inr, refl, ap}
use Rattle.ksv_list_laws.proofs.Common.{arith, nat_tests, cases_lt, unwrap_or, Node, Layout, size_at, Listing, start, ElementHead, ElementEnd, Rest}
use Rattle.ksv_list_laws.proofs.Common.{FieldHead, FieldEnd, SizeValue, MissingHead, MissingEnd, Which}
use Rattle.ksv_list_laws.specs.Lists.{place_of}
use Rattle.ksv_list_laws.specs.Nodes.{field_start, IsMissing}

-- ---- places

pub field_low : (y : Layout) (n a j k : ℕ) → j ≤ k → field_start y n a j ≤ field_start y n a k
field_low y n a j zero le = let same : j ≡ 0 = omega (arith, le) in let e : field_start y n a j ≡ field_start y n a 0 = ap (field_start y n a) same in
    omega (arith, e)
field_low y n a j (suc k) le = elim (cases_lt k j) [
  | inl less ↦ (let same : j ≡ suc k = omega (arith, le, less) in let e : field_start y n a j ≡ field_start y n a (suc k) = ap (field_start y n a) same in
      omega (arith, e))
  | inr more ↦ (let e = field_low y n a j k more in omega (arith, e))
]

-- the first field takes bytes, so its object does
pub first_some : (y : Layout) (n a m k : ℕ) → size_at y 0 ≡ Some m → 0 < m → a < field_start y n a (suc k)
first_some y n a m k size some =
    let first : field_start y n a 1 ≡ a + m = ap (λ o. a + unwrap_or o n) size in
    let low = field_low y n a 1 (suc k) (omega arith) in omega (arith, first, low, some)

-- the elements of a list are where they are, however many of them are looked at
pub same_start : (x : Listing) (c i : ℕ) → start (record x { count = c }) i ≡ start x i
same_start x c zero = refl
same_start x c (suc i) = ap (λ a. field_start x.layout (x.says i) a (suc x.layout.last)) (same_start x c i)

pub start_low : (x : Listing) (i c : ℕ) → i ≤ c → start x i ≤ start x c
start_low x i zero le = let same : i ≡ 0 = omega (arith, le) in let e : start x i ≡ start x 0 = ap (start x) same in omega (arith, e)
start_low x i (suc c) le = elim (cases_lt c i) [
  | inl less ↦ (let same : i ≡ suc c = omega (arith, le, less) in let e : start x i ≡ start x (suc c) = ap (start x) same in omega (arith, e))
  | inr more ↦ (let low = start_low x i c more in let up = field_low x.layout (x.says c) (start x c) 0 (suc x.layout.last) (omega arith) in
      omega (arith, low, up))
]

-- ---- what isn't there

-- before an element that isn't there is another one, if it isn't the first
pub fewer : {bytes : List ℕ} {x : Listing} {k : ℕ} → IsMissing bytes x (suc k) → IsMissing bytes x k
fewer {x = x} {k = k} there = record {
  some = there.some;
  last = there.last;
  uncounted = there.uncounted;
  few = (let few = there.few in let more : x.count + k < x.count + suc k = omega arith in omega (arith, few, more));
}

-- ---- ranks

-- a number that is so many times another, without a product of variables
abbrev pub turns : ℕ → ℕ → ℕ
turns w zero = 0
turns w (suc i) = turns w i + w

pub turns_low : (w i j : ℕ) → i < j → turns w i + w ≤ turns w j
turns_low w i zero lt = absurd (omega (arith, lt))
turns_low w i (suc j) lt = elim (cases_lt i j) [
  | inl less ↦ (let e = turns_low w i j less in omega (arith, e))
  | inr more ↦ (let same : i ≡ j = omega (arith, lt, more) in let e : turns w i ≡ turns w j = ap (turns w) same in omega (arith, e))
]

pub place_is : (name : ℕ → ℕ) (k j : ℕ) → j ≤ k → ((i : ℕ) → i ≤ k → name i ≡ name j → i ≡ j) → place_of name (name j) k ≡ j
place_is name zero j le one = omega (arith, le)
place_is name (suc k) j le one = by (name (suc k) == name j) refl (λ few. place_is name k j few (λ i low. one i (omega (arith, low))))
  where
    by : (b : Bool) → (name (suc k) == name j) ≡ b → (j ≤ k → place_of name (name j) k ≡ j) → (if b then suc k else place_of name (name j) k) ≡ j
    by true e lower = one (suc k) (omega arith) (grind (arith, nat_tests))
    by false e lower = elim (cases_lt k j) [
      | inl less ↦ absurd (let same : suc k ≡ j = omega (arith, le, less) in let equal : name (suc k) ≡ name j = ap name same in
          let never : (name (suc k) == name j) ≡ true = grind (arith, nat_tests) in cc)
      | inr more ↦ lower more
    ]

-- A node's rank: those of an element go from its head to its end, with three a field between them; so do those of one that isn't there; rests come
-- behind all elements, the last of them first.
abbrev pub width : Listing → ℕ
width x = 3 * x.layout.last + 5

abbrev pub rank : Listing → Which → ℕ
rank x (ElementHead i) = turns (width x) i
rank x (ElementEnd i) = turns (width x) i + 3 * x.layout.last + 4
rank x (Rest i) = turns (width x) x.count + (x.count - i)
rank x (FieldHead i j) = turns (width x) i + 3 * j + 1
rank x (FieldEnd i j) = turns (width x) i + 3 * j + 2
rank x (SizeValue i) = turns (width x) i + 3 * x.layout.sizer + 3
rank x (MissingHead k) = turns (width x) (x.count + k)
rank x (MissingEnd k) = turns (width x) (x.count + k) + 3 * x.layout.last + 4

-- the same by the steps of its path
abbrev pub step_rank : Listing → NodeKind → List Step → ℕ
step_rank x nodes.Head (steps.Index i ∷ up) = rank x (ElementHead i)
step_rank x nodes.End (steps.Index i ∷ up) = rank x (ElementEnd i)
step_rank x nodes.Rest (steps.Index i ∷ up) = rank x (Rest i)
step_rank x nodes.Head (steps.Name n ∷ steps.Index i ∷ up) = rank x (FieldHead i (place_of x.layout.name n x.layout.last))
step_rank x nodes.End (steps.Name n ∷ steps.Index i ∷ up) = rank x (FieldEnd i (place_of x.layout.name n x.layout.last))
step_rank x nodes.Value (steps.Name n ∷ steps.Index i ∷ up) = rank x (SizeValue i)
step_rank x _ _ = 0

abbrev pub node_rank : Listing → Node → ℕ
node_rank x m = step_rank x m.kind m.path.upward
