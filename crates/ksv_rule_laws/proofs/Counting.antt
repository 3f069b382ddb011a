-- The number of elements that a list is said to have is that of the ends of its elements.
use Rattle.ksv_rule_laws.proofs.Common.{◌≡◌, ◌∙◌, ℕ, zero, suc, ◌+◌, ◌==◌, ◌<◌, Bool, true, false, List, [], ◌∷◌, Some, Result, Ok, inl, inr}
use Rattle.ksv_rule_laws.proofs.Common.{refl, sym, ap, arith, nat_tests, Tree, Place, Trail, child, parent, last, Step, Description, Field, Repeat, Once}
use Rattle.ksv_rule_laws.proofs.Common.{Eos, Expr, Until, Node, NodeFault, NodeKind, Given, head_node, end_node, rest_node, answer_of, is_last, from_nothing}
use Rattle.ksv_rule_laws.proofs.Common.{IsFieldOf, IsCountedBy, same_Some}
use Rattle.std.proofs.Common.{◌⊎◌}
use Rattle.std.proofs.lemmas.Bool.{cases_lt}
use Rattle.ksv_expr_value.specs.Trail.{first_step, all_but_last, trail_of, trail_of-true}
use Rattle.ksv_expr_value.specs.declared.step.Step.TheVariants as steps
use Rattle.ksv_nodes.specs.declared.node.NodeKind.TheVariants as nodes
use Rattle.ksv_nodes.specs.declared.given.Given.TheVariants as givens
use Rattle.ksv_nodes.specs.declared.given.List as lists
use Rattle.ksv_nodes.specs.declared.given.Head.TheVariants as heads
use Rattle.ksv_rule_meaning.specs.Ends.{is_counted}
use Rattle.ksv_rule_laws.specs.Laws.{EndsAsOf, AreElements, IsEmptyList, RestsCount, ToldCounts}
use Rattle.ksv_rule_laws.proofs.Rules.{ok_is}
use Rattle.ksv_rule_laws.proofs.Values.{same_field}
use Rattle.ksv_rule_laws.proofs.Shapes.{IsLastOf, IsRest, IsAnswer}
use Rattle.ksv_rule_laws.proofs.Shaping.{part_of, by_shape, by_shapes}
use Rattle.ksv_rule_laws.proofs.Sources.{heads_are_read}

-- a path is the part of the path above it to which its last step leads
own_part : (p : Trail) (step : Step) → last p ≡ Some step → child (parent p) step ≡ Some p
own_part p step is = by_steps p.upward refl is
  where
    by_steps : (up : List Step) → p.upward ≡ up → first_step up ≡ Some step → child (parent p) step ≡ Some p
    by_steps [] e h = cc
    by_steps (s ∷ q) e h =
        let same : s ≡ step = cc in
        let whole : step ∷ (parent p).upward ≡ p.upward = ap (λ t. t ∷ all_but_last p.upward) (sym same) ∙ ap (λ u. s ∷ all_but_last u) e ∙ sym e in
        ap trail_of whole ∙ trail_of-true p

module _ (met : Node → Result Given NodeFault) where
  -- ---- from an element on

  is_same : (n : ℕ) → (n == n) ≡ true
  is_same n = grind (arith, nat_tests)

  is_other : (m n : ℕ) → m < n → (m == n) ≡ false
  is_other m n lt = grind (arith, nat_tests)

  last_one : (l p : Trail) (i : ℕ) (place : Place) → child l (steps.Index i) ≡ Some p → met (end_node p) ≡ Ok (givens.End place true)
      → AreElements met l i (i + 1) place
  last_one l p i place is ended = record {
    some = omega arith;
    each =
        λ j low high. (let same : i ≡ j = omega arith in rw (← same) one);
  }
    where
      one : EndsAsOf met l i (i + 1) place
      one = record { path = p; is = is; ends = place; ended = rw (is_same (i + 1)) ended; last_ends = λ e. refl }

  one_more : (l p : Trail) (i : ℕ) (ends : Place) (c : ℕ) (place : Place) → child l (steps.Index i) ≡ Some p → met (end_node p) ≡ Ok (givens.End ends false)
      → AreElements met l (i + 1) c place → AreElements met l i c place
  one_more l p i ends c place is ended more = record {
    some = low_more;
    each = λ j low high. elim (cases_lt i j) [
      | inl lt ↦ more.each j (omega arith) high
      | inr ge ↦ (let same : i ≡ j = omega arith in rw (← same) one)
    ];
  }
    where
      low_more : i < c
      low_more = omega (arith, more.some)

      one : EndsAsOf met l i c place
      one = let some = more.some in record {
        path = p;
        is = is;
        ends = ends;
        ended = rw (is_other (i + 1) c some) ended;
        last_ends = λ e. absurd (omega arith);
      }

  -- the list has this many elements from this one on, or none at all
  abbrev pub Counts : Trail → ℕ → ℕ → Place → Type 0
  Counts l i c place = ((i ≡ 0) × IsEmptyList met l c place) ⊎ AreElements met l i c place

  -- what is so of an answer that is a rest
  abbrev pub IsCounted : Trail → Given → Type 0
  IsCounted p (givens.Rest c place) = (i : ℕ) → last p ≡ Some (steps.Index i) → Counts (parent p) i c place
  IsCounted p _ = Unit {0}

-- what the nodes that are asked answer counts so; all of it is what they answer in the end
module _ (d : Description) (bytes : List ℕ) (met all : Node → Result Given NodeFault) (same : (m : Node) (g : Given) → met m ≡ Ok g → all m ≡ Ok g)
    (lies : (m : Node) (g : Given) → met m ≡ Ok g → IsCounted all m.path g) (here : Trail) where
  rest_counts : (i c : ℕ) (place : Place) → last here ≡ Some (steps.Index i) → IsRest d met here bytes (Some (steps.Index i)) c place
      → Counts all (parent here) i c place
  rest_counts i c place step is = elim is [
    | inl whole ↦ let e = whole.1 in inl (whole.0, record { list = e.list; answered = same _ _ e.answered; empty = e.empty; none = e.none; start = e.start })
    | inr from ↦ inr (elim from [
      | inl one ↦ rw (← one.0) (last_one all (parent here) here i place (own_part here (steps.Index i) step) (same _ _ one.1))
      | inr more ↦
          let r = more.2 in
          let up = part_of (parent here) r.path (steps.Index (i + 1)) r.is in
          let later : Counts all (parent r.path) (i + 1) c place = lies (rest_node r.path) (givens.Rest c place) r.rested (i + 1) up.1 in
          elim later [
            | inl none ↦ let zero_is = none.0 in absurd (omega arith)
            | inr elements ↦ one_more all (parent here) here i more.0 c place (own_part here (steps.Index i) step) (same _ _ more.1)
                (rw (← up.0) elements)
          ]
    ])
  ]

  answer_counts : (k : NodeKind) (g : Given) → IsAnswer d met here bytes k g → IsCounted all here g
  answer_counts nodes.Rest (givens.Rest c place) is = λ i step. rest_counts i c place step (rw step at is)
  answer_counts k g is = grind arith

pub rests_count : RestsCount
rests_count d bytes opened p c place is e =
    let all = from_nothing d bytes opened in
    let so : IsCounted all p (givens.Rest c place) = by_shapes d bytes opened (λ n g. IsCounted all n.path g)
    (λ met same lies n g z. answer_counts d bytes met all same lies n.path n.kind g z) (rest_node p) (givens.Rest c place) e in
    elim (so 0 is) [
      | inl empty ↦ inl empty.1
      | inr elements ↦ inr elements
    ]

-- ---- counts that are told

-- the last element has the number that the list's count tells
told : (d : Description) (bytes : List ℕ) (met : Node → Result Given NodeFault) (p : Trail) (i n : ℕ) (place : Place) (so : Bool) (g : lists.List) (f : Field)
    (c : Tree) → IsLastOf d met p bytes i place so
    → met (head_node (parent p)) ≡ Ok (givens.Head (heads.List g)) → IsFieldOf d g.origin.member f → f.repeat ≡ Expr c → g.count ≡ Some n → so ≡ (n == i + 1)
unfolding is_last
told d bytes met p i n place so g f c l holder own repeat count =
    let list : l.list ≡ g = cc (l.asked, holder) in
    let field : l.field ≡ f = same_field d g.origin.member l.field f (rw (← list) l.read) own in
    let says : is_counted l.list.count i ≡ so = ok_is (is_counted l.list.count i) so
    (sym (ap (λ r. answer_of met p bytes (is_last (parent (parent p)) l.list p i place r)) (ap (λ (y : Field). y.repeat) field ∙ repeat)) ∙ l.says) in
    sym says ∙ ap (λ o. is_counted o i) (ap (λ (y : lists.List). y.count) list ∙ count)

pub told_counts : ToldCounts
told_counts d bytes opened p c place g n is answered holder count =
    let r = heads_are_read d bytes opened (parent p) (heads.List g) holder in
    by_repeat r.field r.is r.field.repeat refl r.so
  where
    met : Node → Result Given NodeFault
    met = from_nothing d bytes opened

    by_last : (f : Field) (e : Tree) → IsFieldOf d g.origin.member f → f.repeat ≡ Expr e → AreElements met (parent p) 0 c place → (m : ℕ) → m ≡ c → c ≡ n
    by_last f e own repeat elements zero is_c = omega (arith, elements.some)
    by_last f e own repeat elements (suc j) is_c =
        let one = elements.each j (omega arith) (omega arith) in
        let up = part_of (parent p) one.path (steps.Index j) one.is in
        let ends = by_shape d bytes opened (end_node one.path) (givens.End one.ends (j + 1 == c)) one.ended in
        let l : IsLastOf d met one.path bytes j one.ends (j + 1 == c) = rw up.1 at ends.last in
        let last_is = told d bytes met one.path j n one.ends (j + 1 == c) g f e l (ap (λ q. met (head_node q)) up.0 ∙ holder) own repeat count in
        let last_so : (j + 1 == c) ≡ true = grind (arith, nat_tests) in
        let n_so : (n == j + 1) ≡ true = sym last_is ∙ last_so in
        let n_is : n ≡ j + 1 = grind (arith, nat_tests) in
        omega arith

    by_empty : (m : ℕ) → g.count ≡ Some m → g.is_empty ≡ (m == 0) → IsEmptyList met (parent p) c place → c ≡ n
    by_empty m told empty_so empty =
        let same : empty.list ≡ g = cc (empty.answered, holder) in
        let none : (m == 0) ≡ true = sym empty_so ∙ ap (λ (y : lists.List). y.is_empty) (sym same) ∙ empty.empty in
        let m_is : m ≡ 0 = grind (arith, nat_tests) in
        let m_n : m ≡ n = same_Some m n (sym told ∙ count) in
        let c_is = empty.none in
        omega arith

    by_repeat : (f : Field) → IsFieldOf d g.origin.member f → (r : Repeat) → f.repeat ≡ r → IsCountedBy r g → c ≡ n
    by_repeat f own (Expr e) repeat so = elim (rests_count d bytes opened p c place is answered) [
      | inl empty ↦ by_empty so.0 so.1 so.2 empty
      | inr elements ↦ by_last f e own repeat elements c refl
    ]
    by_repeat f own Once repeat so = absurd so
    by_repeat f own Eos repeat so = cc
    by_repeat f own (Until x) repeat so = cc
