-- Which elements say their sizes: those whose values are kept with their answers, and those whose bytes are compared.
use Rattle.std.proofs.Common.{◌-◌, ◌^◌, nat_lt, inl, inr, nat_le, if◌then◌else◌, option_map}
use Rattle.std.specs.Prelude.{pos, slice_range}
use Rattle.std.proofs.lemmas.List.{length-take}
use Rattle.std.proofs.Common.{drop}
use Rattle.ksv_nodes.specs.Rule.{raise}
use Rattle.ksv_expr_value.specs.declared.fault.FaultKind.TheVariants as kinds
use Rattle.ksv_expr_value.specs.Places.{end_limit}
use Rattle.ksv_expr_value.specs.Range.{ranged}
use Rattle.ksv_expr_value.specs.declared.step.Step.TheVariants as steps
use Rattle.ksv_expr_value.specs.declared.value.Value.TheVariants as values
use Rattle.ksv_memo_rules.specs.Evaluation.{tells}
use Rattle.ksv_memo_rules.specs.Folds.{AreTold}
use Rattle.ksv_memo_rules.specs.declared.rules.Outcome.TheVariants.{Answered}
use Rattle.ksv_nodes.specs.declared.given.Given.TheVariants as givens
use Rattle.ksv_nodes.specs.declared.given.List as lists
use Rattle.ksv_nodes.specs.declared.given.Origin.{Origin}
use Rattle.ksv_rule_meaning.proofs.Direct.{answers_are_direct}
use Rattle.ksv_rule_meaning.specs.Direct.{flattened}
use Rattle.ksv_rule_meaning.specs.FromNothing.{from_nothing}
use Rattle.ksv_rule_meaning.specs.Heads.{origin_of}
use Rattle.ksv_rule_meaning.specs.Integers.{integer_value}
use Rattle.ksv_rule_meaning.specs.Values.{in_number}
use Rattle.ksv_list_laws.proofs.Common.{◌≡◌, ◌∙◌, ℕ, suc, ◌+◌, ◌<◌, ◌≤◌, true, List, [], Some, None, Ok, sym, ap, subst, arith}
use Rattle.ksv_list_laws.proofs.Common.{length, unwrap_or, option_and_then, nat_tests, Answer, Description, child, Node, Given, on, described, Listing}
use Rattle.ksv_list_laws.proofs.Common.{node_at, start, cases_lt}
use Rattle.ksv_list_laws.proofs.Written.{values_are_written}
use Rattle.ksv_list_laws.specs.Nodes.{place, path_at, answer_at, integer_in, SaysSize}
use Rattle.ksv_list_laws.specs.Laws.{evaluated}
use Rattle.ksv_list_laws.specs.Nodes as nodes
use Rattle.ksv_folds.proofs.Laid.{fields_are, sizer_is, named_last, place_is}
use Rattle.ksv_folds.proofs.Rooms.{start_room}
use Rattle.ksv_folds.specs.Laws.{IsNamed, Describes}
use Rattle.ksv_folds.specs.Layouts.{HasLayout, IsInteger, WritesSize, AreSaidTo}
use Rattle.ksv_folds.specs.Lemmas.Found.{leads, node_is}
use Rattle.ksv_folds.specs.Lemmas.Numbers.{fields_some, numbered_is, value_number}
use Rattle.ksv_folds.specs.Parts.{part}
use Rattle.ksv_folds.specs.Sequence.{says_sizes, sizer, says_of, start_of, edge_of, index_of, path_of, kind_of, node_of, node_in, leaf, answer_of, answer_in}
use Rattle.ksv_folds.specs.Sequence.{IsOne, fold_of}
use Rattle.ksv_folds.specs.declared.plain_list.PlainList.{PlainList}
use Rattle.ksv_folds.specs.declared.spot.Numbered.TheVariants.{Of}
use Rattle.ksv_folds.specs.declared.spot.Spot.{Spot}
use Rattle.ksv_folds.specs.declared.spot.Spot.TheVariants.{FieldHead, Value}

module _ (p : PlainList) (d : Description) (bytes : List ℕ) (x : Listing) (is : Describes p x) (says : says_sizes p ≡ true) where
  few : sizer p < length p.parts.items
  few = let some = (fields_some p says).0 in omega (arith, some)

  by : x.layout.sizer ≡ sizer p
  by = sizer_is p x is says

  -- ---- by their bytes

  ranged_is : (n : ℕ) → n ≤ end_limit → ranged (pos n) ≡ Some (pos n)
  ranged_is n low = let so : nat_lt n (2 ^ 64) ≡ true = grind (arith, nat_tests) in ap (λ b. if b then Some (pos n) else None) so

  module _ (i : ℕ) (low : i < p.most) (within : start_of p (suc i) ≤ length bytes) where
    small : says_of p i ≤ end_limit
    small = let room = start_room p (suc i) low in omega (arith, room)

    pub said_by_bytes : WritesSize p bytes i → IsInteger (x.layout.field x.layout.sizer).choice p.format → SaysSize bytes x i
    said_by_bytes w z =
        let at = place_is p x is i (sizer p) low few in
        let c = (x.layout.field x.layout.sizer).choice in
        let bs = slice_range bytes (edge_of p i (sizer p)) (edge_of p i (suc (sizer p))) in
        ap (λ f. integer_in c (slice_range bytes (place x i f) (place x i (suc f)))) by
        ∙ ap (λ a. integer_in c (slice_range bytes a (place x i (suc (sizer p))))) at.0
        ∙ ap (λ b. integer_in c (slice_range bytes (edge_of p i (sizer p)) b)) at.1 ∙ ap (λ c. integer_in c bs) z.number
        ∙ ap (λ b. if b then in_number None (ranged (integer_value p.format.is_signed p.format.order bs)) else raise kinds.BadType) (short bs (length_is w.few))
        ∙ ap (λ n. in_number None (ranged n)) w.written ∙ ap (in_number None) (ranged_is (says_of p i) small)
        ∙ ap (λ n. Answer (values.Int (pos n))) (sym (is.says says i low))
      where
        short : (bs : List ℕ) → length bs ≤ 8 → nat_le (length bs) 8 ≡ true
        short bs le = grind (arith, nat_tests)

        length_is : edge_of p i (suc (sizer p)) ≤ edge_of p i (sizer p) + 8
            → length (slice_range bytes (edge_of p i (sizer p)) (edge_of p i (suc (sizer p)))) ≤ 8
        length_is le =
            let a = edge_of p i (sizer p) in
            let z = edge_of p i (suc (sizer p)) in
            let n = length-take (z - a) (drop a bytes) in omega (arith, n, le)

  -- ---- by their values

  at_list : p.root.path ≡ x.path
  at_list = ap (λ (n : Node). n.path) is.root

  path_is : (i : ℕ) → nodes.field_path x i (sizer p) ≡ path_of p (Value i)
  path_is i =
      let z = fields_are p x is (sizer p) few in
      ap (λ l. option_and_then (λ q. child q (steps.Name (x.layout.name (sizer p)))) (child l (steps.Index i))) (sym at_list)
      ∙ ap (λ n. option_and_then (λ q. child q (steps.Name n)) (child p.root.path (steps.Index i))) (sym (IsNamed.name z.4))

  head_at : (i : ℕ) → i < p.most → node_at x (nodes.FieldHead i x.layout.sizer) ≡ Some (node_of p (FieldHead i (sizer p)))
  head_at i low =
      let q = leads p (FieldHead i (sizer p)) (low, few) in
      ap (λ f. node_at x (nodes.FieldHead i f)) by ∙ ap (option_map (λ t. record { kind = kind_of (FieldHead i (sizer p)); path = t })) (path_is i ∙ q.1)
      ∙ ap Some (sym (node_is p (FieldHead i (sizer p)) q.0 q.1))

  value_at : (i : ℕ) → i < p.most → node_at x (nodes.SizeValue i) ≡ Some (node_of p (Value i))
  value_at i low =
      let q = leads p (Value i) (low, says) in
      ap (λ f. option_map (λ t. record { kind = kind_of (Value i); path = t }) (nodes.field_path x i f)) by
      ∙ ap (option_map (λ t. record { kind = kind_of (Value i); path = t })) (path_is i ∙ q.1) ∙ ap Some (sym (node_is p (Value i) q.0 q.1))

  -- what they answer
  head_answer : (i : ℕ) → i < p.most → answer_at bytes x (nodes.FieldHead i x.layout.sizer) ≡ Ok (answer_of p (FieldHead i (sizer p)))
  head_answer i low =
      let f = sizer p in
      let z = fields_are p x is f few in
      let at = place_is p x is i f low few in
      let o : Origin = origin_of (nodes.object_from x.list (unwrap_or x.layout.type_number 0) (start x i)) (nodes.sought_at x.layout f) in
      ap (λ g. answer_at bytes x (nodes.FieldHead i g)) by
      ∙ ap Ok (ap (λ a. leaf o a (place x i (suc f))) at.0 ∙ ap (λ a. leaf o (edge_of p i f) a) at.1
      ∙ ap (λ t. of (unwrap_or t 0) (x.layout.member f) x.list) is.kind
      ∙ ap (λ n. of (unwrap_or p.type_number 0) n x.list) (sym (IsNamed.member z.4))
      ∙ ap (λ g. of (unwrap_or p.type_number 0) (part p.parts.items f).member g) (sym is.list))
    where
      of : ℕ → ℕ → lists.List → Given
      of t n g =
          leaf (record { member = record { type_number = t; member = n }; case = None; home = g.stream }) (edge_of p i (sizer p)) (edge_of p i (suc (sizer p)))

  value_answer : (i : ℕ) → i < p.most → answer_at bytes x (nodes.SizeValue i) ≡ Ok (answer_of p (Value i))
  value_answer i low = ap (λ n. Ok (givens.Value (values.Int (pos n)))) (is.says says i low)

  -- a node that is kept answers so
  told_answer : (kept : ℕ) → AreTold (on (described d) bytes) (fold_of p) kept → (s : Spot) → IsOne p s → index_of p s < kept
      → from_nothing d bytes [] (node_of p s) ≡ Ok (answer_of p s)
  told_answer kept told s one low =
      let same = numbered_is p (Of s) one in
      let e = subst (λ t. ◌≡◌ (tells (on (described d) bytes) [] (node_in p t)).outcome (Answered (answer_in p t))) same (told (index_of p s) low) in
      sym (answers_are_direct d bytes [] (node_of p s)) ∙ ap flattened e

  pub said_by_value : HasLayout p d x.list → (kept i : ℕ) → AreTold (on (described d) bytes) (fold_of p) kept → i < p.most → index_of p (Value i) < kept
      → (laid : Rattle.ksv_list_laws.specs.Lists.list_layout d x.list ≡ Some x.layout) → SaysSize bytes x i
  said_by_value has kept i told low less laid =
      let next = value_number p i says in
      values_are_written d bytes x laid (named_last p x is says) i (node_of p (FieldHead i (sizer p))) (node_of p (Value i)) (head_at i low) (value_at i low)
      (told_answer kept told (FieldHead i (sizer p)) (low, few) (omega (arith, next, less)) ∙ ap evaluated (sym (head_answer i low)))
      (told_answer kept told (Value i) (low, says) less ∙ ap evaluated (sym (value_answer i low)))

-- one more element that says its size
pub said_more : (p : PlainList) (bytes : List ℕ) (kept n : ℕ) → AreSaidTo p bytes kept n → WritesSize p bytes n → AreSaidTo p bytes kept (n + 1)
said_more p bytes kept n h w says i low = elim (cases_lt i n) [
  | inl less ↦ h says i less
  | inr more ↦ inr (let same : n ≡ i = omega (arith, more, low) in subst (WritesSize p bytes) same w)
]

pub said_first : (p : PlainList) (bytes : List ℕ) (kept told n : ℕ) → ((i : ℕ) → i < told → index_of p (Value i) < kept) → n ≤ told → AreSaidTo p bytes kept n
said_first p bytes kept told n h le says i low = inl (h i (omega (arith, low, le)))
