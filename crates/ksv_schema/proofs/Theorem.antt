-- What the least fault of a tree, and the description that is built without one, are to the tree.
use Rattle.ksv_schema.proofs.Common.{◌≡◌, ℕ, false, List, [], sym, ap, subst, ◌∙◌, refl, Option, Some, None, arith, nat_lt, ◌==◌, ◌||◌, ◌&&◌, nat_tests, Tree}
use Rattle.ksv_schema.proofs.Common.{Fault, noted, Description, IsThere}
use Rattle.std.specs.Prelude.{◌≢◌, All, Contains}
use Rattle.ksv_schema_names.specs.Rows.{declared_in}
use Rattle.ksv_schema.specs.Faults.{is_below}
use Rattle.ksv_schema.specs.Description.{faults_of, faults, stated_by, stated}
use Rattle.ksv_schema.specs.Outcome.{States, Refuses}
use Rattle.ksv_desc.specs.Resolved.{IsResolved}
use Rattle.ksv_schema.proofs.Least.{nothing_noted, noted_least}
use Rattle.ksv_schema.proofs.Good.{front, back, is_there}
use Rattle.ksv_schema.proofs.OwnNames.{ids_are_texts}
use Rattle.ksv_schema.proofs.GoodMembers.{declared_good}

-- ---- what a tree states

tree_good : (t : Tree) → faults t ≡ [] → IsThere IsResolved (stated t)
unfolding faults faults_of stated
tree_good t k = declared_good (declared_in t) (ids_are_texts t (back _ _ (front _ _ (front _ _ k)))) k

pub tree_states : (t : Tree) → faults t ≡ [] → (d : Description) × States t d
tree_states t k = let d = is_there IsResolved (stated t) (tree_good t k) in (d.0, record { faultless = k; is = d.1 })

pub states_one : (t : Tree) (d e : Description) → States t d → States t e → d ≡ e
states_one t d e x y = let same : Some d ≡ Some e = sym x.is ∙ y.is in cc

pub tree_resolved : (t : Tree) (d : Description) → States t d → IsResolved d
tree_resolved t d s = subst (IsThere IsResolved) s.is (tree_good t s.faultless)

-- ---- what is declared, and the tree

faultless : (t : Tree) → noted None (faults_of (declared_in t)) ≡ None → faults t ≡ []
unfolding faults
faultless t h = nothing_noted (faults_of (declared_in t)) (sym h)

pub refuses : (t : Tree) (f : Fault) → noted None (faults_of (declared_in t)) ≡ Some f → Refuses t f
unfolding faults
refuses t f h = noted_least f (faults_of (declared_in t)) (sym h)

pub states : (t : Tree) (d : Description) → noted None (faults_of (declared_in t)) ≡ None → stated_by (declared_in t) ≡ Some d → States t d
unfolding stated
states t d h s = record { faultless = faultless t h; is = s }

pub never_none : (t : Tree) → noted None (faults_of (declared_in t)) ≡ None → stated_by (declared_in t) ≡ None → ⊥
unfolding stated
never_none t h s = subst (IsThere IsResolved) s (tree_good t (faultless t h))

-- ---- one fault

same_pair : (a x b y : ℕ) → (nat_lt a b || ((a == b) && nat_lt x y)) ≡ false → (nat_lt b a || ((b == a) && nat_lt y x)) ≡ false → (a ≡ b) × (x ≡ y)
same_pair a x b y h k = (grind (arith, nat_tests), grind (arith, nat_tests))

neither_below : (f g : Fault) → is_below f g ≡ false → is_below g f ≡ false → f ≡ g
unfolding is_below
neither_below f g h k =
    let s = same_pair f.line f.number g.line g.number h k in
    ap (λ (n : ℕ). let x : Fault = record { line = n; number = f.number } in x) s.0
    ∙ ap (λ (n : ℕ). let x : Fault = record { line = g.line; number = n } in x) s.1

of_all : (f g : Fault) (fs : List Fault) → All (λ x. is_below x f ≡ false) fs → Contains fs g → is_below g f ≡ false
of_all f g fs all (k, below, is) = subst (λ (x : Fault). is_below x f ≡ false) is (all k g below)

pub refuses_one : (t : Tree) (f g : Fault) → Refuses t f → Refuses t g → f ≡ g
refuses_one t f g x y = neither_below f g (of_all g f (faults t) y.none_below x.among) (of_all f g (faults t) x.none_below y.among)

pub some_refuses : (t : Tree) → faults t ≢ [] → (f : Fault) × Refuses t f
some_refuses t h = go (noted None (faults t)) refl
  where
    go : (o : Option Fault) → noted None (faults t) ≡ o → (f : Fault) × Refuses t f
    go None e = absurd (h (nothing_noted (faults t) (sym e)))
    go (Some f) e = (f, noted_least f (faults t) (sym e))
