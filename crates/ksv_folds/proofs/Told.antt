-- What the nodes of a plain list are, answer and use, by the numbers of the list.
use Rattle.std.proofs.Common.{◌==◌, ◌≢◌, ◌&&◌, not, option_map}
use Rattle.std.specs.Prelude.{pos}
use Rattle.ksv_bytes.specs.declared.uses.Use.TheVariants.{Bytes, Reach, Size}
use Rattle.ksv_expr_value.specs.declared.fault.FaultKind.TheVariants as faults
use Rattle.ksv_expr_value.specs.declared.value.Value.TheVariants as values
use Rattle.ksv_expr_value.specs.declared.step.Step.TheVariants as steps
use Rattle.ksv_nodes.specs.declared.given.Given.TheVariants as givens
use Rattle.ksv_nodes.specs.declared.given.Head.TheVariants as heads
use Rattle.ksv_nodes.specs.declared.given.List as lists
use Rattle.ksv_nodes.specs.declared.given.Origin.{Origin}
use Rattle.ksv_nodes.specs.declared.node.NodeKind.{NodeKind}
use Rattle.ksv_nodes.specs.declared.node.NodeKind.TheVariants as kinds
use Rattle.ksv_rule_meaning.specs.Heads.{origin_of}
use Rattle.ksv_list_laws.proofs.Common.{◌≡◌, ◌∙◌, ℕ, zero, suc, ◌+◌, ◌-◌, ◌<◌, ◌≤◌, nat_le, nat_lt, Bool, true, false, if◌then◌else◌}
use Rattle.ksv_list_laws.proofs.Common.{List, [], ◌∷◌}
use Rattle.ksv_list_laws.proofs.Common.{length, Option, Some, None, Ok, Err, Fault, is_some, unwrap_or, option_and_then}
use Rattle.ksv_list_laws.proofs.Common.{refl, sym, ap, subst, arith, nat_tests, Use}
use Rattle.ksv_list_laws.proofs.Common.{at_byte, Trail, child, Description, Given, Node, Layout, Listing, start}
use Rattle.ksv_list_laws.proofs.Common.{Which, node_at, guard_of, prior_guard, IsPlain, IsThere}
use Rattle.ksv_list_laws.proofs.Telling.{node_is}
use Rattle.ksv_list_laws.specs.Nodes.{place, path_at, answer_at, element_from, is_last, is_last_at, IsWhole, element_reach, field_guard}
use Rattle.ksv_list_laws.specs.Nodes as nodes
use Rattle.ksv_list_laws.specs.Lists.{is_named_to}
use Rattle.ksv_list_laws.specs.Laws.{guard_node, is_folded}
use Rattle.ksv_folds.proofs.Laid.{fields_are, sizer_is, unnamed, unnamed_before, named_last, start_is, place_is}
use Rattle.ksv_folds.proofs.Rooms.{start_up, edge_above}
use Rattle.ksv_folds.specs.Lemmas.Numbers.{fields_some, numbered_is}
use Rattle.ksv_folds.specs.Laws.{IsNamed, IsElement, Describes, EndsWith}
use Rattle.ksv_folds.specs.Parts.{part}
use Rattle.ksv_folds.specs.Sequence as sequence
use Rattle.ksv_folds.specs.Sequence.{says_sizes, sizer, index_of, value_before, spot_guard, guard_in}
use Rattle.ksv_folds.specs.Sequence.{IsIn, path_of, node_of, node_in, start_of, edge_of, element_answer, answer_of, answer_in, end_reach, prior_reach}
use Rattle.ksv_folds.specs.Sequence.{head_reach, uses_of, spot_uses, uses_in, is_closing, is_open, kind_of, leaf}
use Rattle.ksv_folds.specs.declared.part.Part.{Part}
use Rattle.ksv_folds.specs.declared.plain_list.PlainList.{PlainList}
use Rattle.ksv_folds.specs.declared.spot.Numbered.{Numbered}
use Rattle.ksv_folds.specs.declared.spot.Numbered.TheVariants.{Of, Rest, MissingHead, MissingEnd}
use Rattle.ksv_folds.specs.declared.spot.Spot.{Spot}
use Rattle.ksv_folds.specs.declared.spot.Spot.TheVariants.{ElementHead, ElementEnd, FieldHead, FieldEnd, Value}

-- the same node, as the laws of plain lists call it
abbrev pub which : Spot → Which
which (ElementHead i) = nodes.ElementHead i
which (ElementEnd i) = nodes.ElementEnd i
which (FieldHead i f) = nodes.FieldHead i f
which (FieldEnd i f) = nodes.FieldEnd i f
which (Value i) = nodes.SizeValue i

abbrev pub which_of : Numbered → Which
which_of (Of s) = which s
which_of (Rest i) = nodes.Rest i
which_of (MissingHead k) = nodes.MissingHead k
which_of (MissingEnd k) = nodes.MissingEnd k

-- Of so many of the first elements a node is as it is told: they are whole, and have numbers, and the sequence knows which of them is the last.
pub record IsTold (p : PlainList) (bytes : List ℕ) (x : Listing) (m : ℕ) : Type 0 where
  pub whole : m ≤ x.count
  pub few : m ≤ p.most
  pub ends : (i : ℕ) → i < m → is_last bytes x i ≡ is_closing p i

module _ (p : PlainList) (d : Description) (bytes : List ℕ) (x : Listing) (plain : IsPlain d bytes x) (is : Describes p x) (m : ℕ) (told : IsTold p bytes x m)
  where
    abbrev y : Layout
    y = x.layout

    abbrev ps : List Part
    ps = p.parts.items

    -- the nodes of these elements, and those behind them of a list that ends with them
    abbrev pub IsOne : Spot → Type 0
    IsOne s = IsIn (says_sizes p) (length ps) m s

    abbrev pub IsKnown : Numbered → Type 0
    IsKnown (Of s) = IsOne s
    IsKnown (Rest i) = sequence.IsThere p (Rest i) × (m ≡ p.most) × EndsWith p bytes x
    IsKnown (MissingHead k) = sequence.IsMissing p k × (m ≡ p.most) × EndsWith p bytes x
    IsKnown (MissingEnd k) = sequence.IsMissing p k × (m ≡ p.most) × EndsWith p bytes x

    -- ---- nodes

    field_there : (i f : ℕ) → i < m → f < length ps → nodes.IsField x i f
    field_there i f low few =
        let z = fields_are p x is f few in
        let all = z.3 in let whole = told.whole in (omega (arith, low, whole), omega (arith, few, all), ap is_some z.2)

    -- the element has a number
    most_in : (i : ℕ) → i < m → i < p.most
    most_in i low = let few = told.few in omega (arith, low, few)

    sizer_in : says_sizes p ≡ true → sizer p < length ps
    sizer_in e = let some = (fields_some p e).0 in omega (arith, some)

    spot_there : (s : Spot) → IsOne s → IsThere bytes x (which s)
    spot_there (ElementHead i) low = let whole = told.whole in omega (arith, low, whole)
    spot_there (ElementEnd i) low = let whole = told.whole in omega (arith, low, whole)
    spot_there (FieldHead i f) low = field_there i f low.0 low.1
    spot_there (FieldEnd i f) low = field_there i f low.0 low.1
    spot_there (Value i) low =
        (subst (nodes.IsField x i) (sym (sizer_is p x is low.1)) (field_there i (sizer p) low.0 (sizer_in low.1)), named_last p x is low.1)

    missing_there : (k : ℕ) → sequence.IsMissing p k → EndsWith p bytes x → nodes.IsMissing bytes x k
    missing_there k low ends =
        let all = ends.all in
        let any = p.any in
        let few = low.2 in
        record {
          some = omega (arith, all, any);
          last = ends.last;
          uncounted = ap (λ (g : lists.List). g.count) (sym is.list) ∙ p.uncounted low.1;
          few = omega (arith, all, few);
        }

    pub there : (s : Numbered) → IsKnown s → IsThere bytes x (which_of s)
    there (Of s) low = spot_there s low
    there (Rest i) low = let all = (low.2).all in let few = low.0.2 in (omega (arith, all, few), (low.2).last)
    there (MissingHead k) low = missing_there k low.0 low.2
    there (MissingEnd k) low = missing_there k low.0 low.2

    at_list : p.root.path ≡ x.path
    at_list = ap (λ (n : Node). n.path) is.root

    field_path_is : (i f : ℕ) → f < length ps → nodes.field_path x i f ≡ path_of p (FieldHead i f)
    field_path_is i f few =
        let z = fields_are p x is f few in
        ap (λ l. option_and_then (λ q. child q (steps.Name (y.name f))) (child l (steps.Index i))) (sym at_list)
        ∙ ap (λ n. option_and_then (λ q. child q (steps.Name n)) (child p.root.path (steps.Index i))) (sym (IsNamed.name z.4))

    element_path_is : (i : ℕ) → nodes.element_path x i ≡ child p.root.path (steps.Index i)
    element_path_is i = ap (λ l. child l (steps.Index i)) (sym at_list)

    missing_path_is : (k : ℕ) → EndsWith p bytes x → nodes.element_path x (x.count + k) ≡ child p.root.path (steps.Index (p.most + k))
    missing_path_is k ends = element_path_is (x.count + k) ∙ ap (λ n. child p.root.path (steps.Index (n + k))) ends.all

    path_is : (s : Spot) → IsOne s → path_at x (which s) ≡ path_of p s
    path_is (ElementHead i) low = element_path_is i
    path_is (ElementEnd i) low = element_path_is i
    path_is (FieldHead i f) low = field_path_is i f low.1
    path_is (FieldEnd i f) low = field_path_is i f low.1
    path_is (Value i) low = ap (nodes.field_path x i) (sizer_is p x is low.1) ∙ field_path_is i (sizer p) (sizer_in low.1)

    pub found : (s : Numbered) → IsKnown s → node_at x (which_of s) ≡ Some (node_in p s)
    found s low =
        let n = node_is d bytes x plain (which_of s) (there s low) in
        n.1 ∙ ap Some (ap (λ o. unwrap_or o p.root) (sym n.1) ∙ same s low)
      where
        or_root : NodeKind → Option Trail → Node
        or_root k o = unwrap_or (option_map (λ q. record { kind = k; path = q }) o) p.root

        spot_same : (s : Spot) → IsOne s → unwrap_or (node_at x (which s)) p.root ≡ node_of p s
        spot_same (ElementHead i) low = ap (or_root (kind_of (ElementHead i))) (path_is (ElementHead i) low)
        spot_same (ElementEnd i) low = ap (or_root (kind_of (ElementEnd i))) (path_is (ElementEnd i) low)
        spot_same (FieldHead i f) low = ap (or_root (kind_of (FieldHead i f))) (path_is (FieldHead i f) low)
        spot_same (FieldEnd i f) low = ap (or_root (kind_of (FieldEnd i f))) (path_is (FieldEnd i f) low)
        spot_same (Value i) low = ap (or_root (kind_of (Value i))) (path_is (Value i) low)

        same : (s : Numbered) → IsKnown s → unwrap_or (node_at x (which_of s)) p.root ≡ node_in p s
        same (Of s) low = spot_same s low
        same (Rest i) low = ap (or_root kinds.Rest) (element_path_is i)
        same (MissingHead k) low = ap (or_root kinds.Head) (missing_path_is k low.2)
        same (MissingEnd k) low = ap (or_root kinds.End) (missing_path_is k low.2)

    -- ---- answers

    from_is : (i : ℕ) → i < m → start x i ≡ start_of p i
    from_is i low = let few = told.few in start_is p x is i (omega (arith, low, few))

    to_is : (i : ℕ) → i < m → start x (suc i) ≡ start_of p (suc i)
    to_is i low = start_is p x is (suc i) (most_in i low)

    element_is : (o : Option ℕ) (i : ℕ) → i < m → element_from x.list o (start x i) (start x (suc i)) ≡ element_answer p o i
    element_is None i low =
        let o : Origin = record x.list.origin { case = None } in
        ap (λ a. leaf o a (start x (suc i))) (from_is i low) ∙ ap (λ z. leaf o (start_of p i) z) (to_is i low)
        ∙ ap (λ (g : lists.List). leaf (record g.origin { case = None }) (start_of p i) (start_of p (suc i))) (sym is.list)
    element_is (Some t) i low =
        ap (λ a. givens.Head (heads.Object (nodes.object_from x.list t a))) (from_is i low)
        ∙ ap (λ o. givens.Head (heads.Object (record (nodes.object_from x.list t (start_of p i)) { origin = o }))) (sym is.origin)
        ∙ ap (λ (g : lists.List). givens.Head (heads.Object (record (nodes.object_from x.list t (start_of p i)) { origin = p.origin; stream = g.stream })))
        (sym is.list)

    spot_answer : (s : Spot) → IsOne s → answer_at bytes x (which s) ≡ Ok (answer_of p s)
    spot_answer (ElementHead i) low = ap Ok (ap (λ o. element_from x.list o (start x i) (start x (suc i))) is.kind ∙ element_is p.type_number i low)
    spot_answer (ElementEnd i) low = ap Ok (
        ap (λ b. givens.End (at_byte (start x (suc i))) b) (told.ends i low)
        ∙ ap (λ z. givens.End (at_byte z) (is_closing p i)) (to_is i low))
    spot_answer (FieldHead i f) low =
        let z = fields_are p x is f low.1 in
        let at = place_is p x is i f (most_in i low.0) low.1 in
        let o : Origin = origin_of (nodes.object_from x.list (unwrap_or y.type_number 0) (start x i)) (nodes.sought_at y f) in
        ap Ok (ap (λ a. leaf o a (place x i (suc f))) at.0 ∙ ap (λ a. leaf o (edge_of p i f) a) at.1
        ∙ ap (λ t. by (unwrap_or t 0) (y.member f) x.list) is.kind
        ∙ ap (λ n. by (unwrap_or p.type_number 0) n x.list) (sym (IsNamed.member z.4))
        ∙ ap (λ g. by (unwrap_or p.type_number 0) (part ps f).member g) (sym is.list))
      where
        by : ℕ → ℕ → lists.List → Given
        by t n g = leaf (record { member = record { type_number = t; member = n }; case = None; home = g.stream }) (edge_of p i f) (edge_of p i (suc f))
    spot_answer (FieldEnd i f) low = ap (λ z. Ok (givens.End (at_byte z) false)) (place_is p x is i f (most_in i low.0) low.1).1
    spot_answer (Value i) low = ap (λ n. Ok (givens.Value (values.Int (pos n)))) (is.says low.1 i (most_in i low.0))

    -- the fault of the first element that isn't there
    fault_is : EndsWith p bytes x → nodes.missing_fault x ≡ sequence.missing_fault p
    fault_is ends = ap by (ap (λ n. unwrap_or (child x.path (steps.Index n)) x.path) ends.all
        ∙ ap (λ l. unwrap_or (child l (steps.Index p.most)) l) (sym at_list))
      where
        by : Trail → Fault
        by q = record { kind = faults.BadIndex; path = q }

    pub answer_is : (s : Numbered) → IsKnown s → answer_at bytes x (which_of s) ≡ answer_in p s
    answer_is (Of s) low = spot_answer s low
    answer_is (Rest i) low =
        ap (λ n. Ok (givens.Rest n (at_byte (start x n)))) (low.2).all ∙ ap (λ z. Ok (givens.Rest p.most (at_byte z))) (start_is p x is p.most (omega arith))
    answer_is (MissingHead k) low = ap Err (fault_is low.2)
    answer_is (MissingEnd k) low = ap Err (fault_is low.2)

    -- ---- uses

    used : (z : ℕ) → 0 < z → uses_of z ≡ Reach z ∷ []
    used z some = by (z == 0) refl
      where
        by : (b : Bool) → (z == 0) ≡ b → (if b then [] else Reach z ∷ []) ≡ Reach z ∷ []
        by true e = absurd (let none : z ≡ 0 = grind (arith, nat_tests) in omega (arith, none, some))
        by false e = refl

    start_some : (i : ℕ) → i < m → 0 < start_of p (suc i)
    start_some i low = let some = p.some in let up = start_up p i (most_in i low) in omega (arith, some, up)

    -- what an element's end uses, by whether the list has a count, where its stream ends, and whether the element is the last
    abbrev ended : Option ℕ → Option ℕ → Bool → ℕ → List Use
    ended c o b z =
        if (not (is_some c) && not (is_some o)) && b then Size ∷ [] else uses_of (if not (is_some c) && not (is_some o) then z + 1 else z)

    end_is : (i : ℕ) → i < m → nodes.prior_reach bytes x (suc i) ≡ spot_uses p (ElementEnd i)
    end_is i low = ap (λ z. nodes.end_reach x.list.count bytes x.list.stream.to z ∷ []) (to_is i low)
        ∙ by x.list.count x.list.stream.to (is_closing p i)
        (subst (λ z. is_last_at x.list.count bytes x.list.stream.to i z ≡ is_closing p i) (to_is i low) (told.ends i low))
        ∙ ap (λ (g : lists.List). ended g.count g.stream.to (is_closing p i) (start_of p (suc i))) (sym is.list)
      where
        z : ℕ
        z = start_of p (suc i)

        open_by : (b : Bool) → nat_le (length bytes) z ≡ b → ◌≡◌ {A = List Use} (nodes.end_reach None bytes None z ∷ []) (ended None None b z)
        open_by true e = let more : nat_lt z (length bytes) ≡ false = grind (arith, nat_tests) in ap (λ c. (if c then Reach (z + 1) else Size) ∷ []) more
        open_by false e =
            let less : nat_lt z (length bytes) ≡ true = grind (arith, nat_tests) in
            ap (λ c. (if c then Reach (z + 1) else Size) ∷ []) less ∙ sym (used (z + 1) (omega arith))

        by : (c o : Option ℕ) (b : Bool) → is_last_at c bytes o i z ≡ b → ◌≡◌ {A = List Use} (nodes.end_reach c bytes o z ∷ []) (ended c o b z)
        by (Some n) o b h = sym (used z (start_some i low))
        by None (Some t) b h = sym (used z (start_some i low))
        by None None b h = open_by b h

    -- an element before another isn't the last
    unclosed : (i : ℕ) → suc i < p.most → spot_uses p (ElementEnd i) ≡ uses_of (end_reach p (start_of p (suc i)))
    unclosed i low =
        let other : (i + 1 == p.most) ≡ false = grind (arith, nat_tests) in
        ap (λ b. if is_open p && (p.closed && b) then Size ∷ [] else uses_of (end_reach p (start_of p (suc i)))) other
        ∙ by (is_open p) p.closed
      where
        by : (a b : Bool) → (if a && (b && false) then Size ∷ [] else uses_of (end_reach p (start_of p (suc i)))) ≡ uses_of (end_reach p (start_of p (suc i)))
        by true true = refl
        by true false = refl
        by false b = refl

    prior_is : (i : ℕ) → i < m → nodes.prior_reach bytes x i ≡ uses_of (prior_reach p i)
    prior_is zero low = refl
    prior_is (suc i) low = let few = told.few in end_is i (omega (arith, low)) ∙ unclosed i (omega (arith, low, few))

    head_is : (i : ℕ) → i < m → element_reach bytes x y.type_number i ≡ uses_of (head_reach p ps i)
    head_is i low = ap (λ o. element_reach bytes x o i) is.kind ∙ by p.type_number (says_sizes p) ps is.element refl
      where
        by : (o : Option ℕ) (b : Bool) (qs : List Part) → IsElement y o b p.size ps → ps ≡ qs → element_reach bytes x o i ≡ uses_of (head_reach p qs i)
        by None b [] h e = ap (λ z. Reach z ∷ []) (to_is i low) ∙ sym (used (start_of p (suc i)) (start_some i low))
        by None b (q ∷ qs) h e = absurd (let none = h.1 in let some = ap length e in omega (arith, none, some))
        by (Some t) false [] h e = absurd (let none = h.0 in let some = ap length e in omega (arith, none, some))
        by (Some t) true [] h e = absurd (let none = h.count in let some = ap length e in omega (arith, none, some))
        by (Some t) b (q ∷ qs) h e = prior_is i low

    edge_is : (i f : ℕ) → i < m → f < length ps → ◌≡◌ {A = List Use} (Reach (place x i (suc f)) ∷ []) (uses_of (edge_of p i (suc f)))
    edge_is i f low few =
        let above = edge_above p i f (most_in i low) few in
        ap (λ z. Reach z ∷ []) (place_is p x is i f (most_in i low) few).1 ∙ sym (used (edge_of p i (suc f)) (omega (arith, above)))

    spot_reach : (s : Spot) → IsOne s → is_folded (which s) ≡ true → nodes.reach_of bytes x (which s) ≡ spot_uses p s
    spot_reach (ElementHead i) low h = head_is i low
    spot_reach (ElementEnd i) low h = end_is i low
    spot_reach (FieldHead i f) low h = edge_is i f low.0 low.1
    spot_reach (FieldEnd i f) low h = edge_is i f low.0 low.1
    spot_reach (Value i) low h = absurd (cc)

    -- behind all elements the farthest place is that of the last end
    last_reach : m ≡ p.most → EndsWith p bytes x → nodes.prior_reach bytes x x.count ≡ spot_uses p (ElementEnd (p.most - 1))
    last_reach full ends =
        let all = ends.all in
        let any = p.any in
        let same : x.count ≡ suc (p.most - 1) = omega (arith, all, any) in
        ap (nodes.prior_reach bytes x) same ∙ end_is (p.most - 1) (omega (arith, full, any))

    pub reach_is : (s : Numbered) → IsKnown s → is_folded (which_of s) ≡ true → nodes.reach_of bytes x (which_of s) ≡ uses_in p s
    reach_is (Of s) low h = spot_reach s low h
    reach_is (Rest i) low h = last_reach low.1 low.2
    reach_is (MissingHead k) low h = last_reach low.1 low.2
    reach_is (MissingEnd k) low h = last_reach low.1 low.2

    -- a value uses the bytes of its field
    pub value_uses : (i : ℕ) → IsOne (Value i) → nodes.uses_at bytes x (nodes.SizeValue i) ≡ spot_uses p (Value i)
    value_uses i low =
        let at = place_is p x is i (sizer p) (most_in i low.0) (sizer_in low.1) in
        uses y.sizer (sizer_is p x is low.1)
        ∙ ap (λ a. Bytes a (place x i (suc (sizer p))) ∷ []) at.0 ∙ ap (λ z. Bytes (edge_of p i (sizer p)) z ∷ []) at.1
      where
        uses : (f : ℕ) → f ≡ sizer p
            → ◌≡◌ {A = List Use} (Bytes (place x i f) (place x i (suc f)) ∷ []) (Bytes (place x i (sizer p)) (place x i (suc (sizer p))) ∷ [])
        uses f e = ap (λ g. Bytes (place x i g) (place x i (suc g)) ∷ []) e

    -- ---- guards

    prior_none : says_sizes p ≡ false → (i : ℕ) → prior_guard x i ≡ None
    prior_none e zero = refl
    prior_none e (suc i) = ap (λ b. if b then Some (nodes.SizeValue i) else None) (unnamed p x is e y.last (omega arith))

    field_none : says_sizes p ≡ false → (i f : ℕ) → f < length ps → field_guard x i f ≡ None
    field_none e i f few =
        let all = (fields_are p x is f few).3 in
        ap (λ b. if b then Some (nodes.SizeValue i) else prior_guard x i) (unnamed p x is e f (omega (arith, all, few))) ∙ prior_none e i

    spot_none : says_sizes p ≡ false → (s : Spot) → IsOne s → guard_of x (which s) ≡ None
    spot_none e (ElementHead i) low = prior_none e i
    spot_none e (ElementEnd i) low = prior_none e (suc i)
    spot_none e (FieldHead i f) low = field_none e i f low.1
    spot_none e (FieldEnd i f) low = field_none e i f low.1
    spot_none e (Value i) low = absurd (let bad : false ≡ true = sym e ∙ low.1 in cc)

    guard_none : says_sizes p ≡ false → (s : Numbered) → IsKnown s → guard_of x (which_of s) ≡ None
    guard_none e (Of s) low = spot_none e s low
    guard_none e (Rest i) low = prior_none e x.count
    guard_none e (MissingHead k) low = prior_none e x.count
    guard_none e (MissingEnd k) low = prior_none e x.count

    -- where sizes are said, the guard is the last value before
    value_node : says_sizes p ≡ true → (i : ℕ) → i < m → node_at x (nodes.SizeValue i) ≡ Some (sequence.guard_node p (Some (index_of p (Value i))))
    value_node e i low = found (Of (Value i)) (low, e) ∙ ap (λ s. Some (node_in p s)) (sym (numbered_is p (Of (Value i)) (most_in i low, e)))

    prior_guarded : says_sizes p ≡ true → (i : ℕ) → i ≤ m → guard_node x (prior_guard x i) ≡ Some (sequence.guard_node p (value_before p i))
    prior_guarded e zero low = ap Some (sym is.root)
    prior_guarded e (suc i) low = ap (λ b. guard_node x (if b then Some (nodes.SizeValue i) else None)) (named_last p x is e) ∙ value_node e i low

    field_guarded : says_sizes p ≡ true → (i f : ℕ) → i < m → f < length ps
        → guard_node x (field_guard x i f) ≡ Some (sequence.guard_node p (value_before p (if suc f == length ps then suc i else i)))
    field_guarded e i f low few = by (suc f == length ps) refl
      where
        by : (b : Bool) → (suc f == length ps) ≡ b
            → guard_node x (field_guard x i f) ≡ Some (sequence.guard_node p (value_before p (if b then suc i else i)))
        by true h =
            let last : suc f ≡ length ps = grind (arith, nat_tests) in
            let all = (fields_are p x is f few).3 in
            let same : f ≡ y.last = omega (arith, last, all) in
            ap (λ b. guard_node x (if b then Some (nodes.SizeValue i) else prior_guard x i)) (ap (is_named_to y) same ∙ named_last p x is e)
            ∙ value_node e i low
        by false h =
            let other : suc f ≢ length ps = grind (arith, nat_tests) in
            let all = (fields_are p x is f few).3 in
            ap (λ b. guard_node x (if b then Some (nodes.SizeValue i) else prior_guard x i)) (unnamed_before p x is e f (omega (arith, other, all, few)))
            ∙ prior_guarded e i (omega (arith, low))

    spot_guarded : says_sizes p ≡ true → (s : Spot) → IsOne s → is_folded (which s) ≡ true
        → guard_node x (guard_of x (which s)) ≡ Some (sequence.guard_node p (spot_guard p s))
    spot_guarded e (ElementHead i) low h = prior_guarded e i (omega (arith, low))
    spot_guarded e (ElementEnd i) low h = prior_guarded e (suc i) low
    spot_guarded e (FieldHead i f) low h = field_guarded e i f low.0 low.1
    spot_guarded e (FieldEnd i f) low h = field_guarded e i f low.0 low.1
    spot_guarded e (Value i) low h = absurd (cc)

    last_guarded : says_sizes p ≡ true → m ≡ p.most → EndsWith p bytes x
        → guard_node x (prior_guard x x.count) ≡ Some (sequence.guard_node p (value_before p p.most))
    last_guarded e full ends = ap (λ n. guard_node x (prior_guard x n)) ends.all ∙ prior_guarded e p.most (omega (arith, full))

    guarded_in : says_sizes p ≡ true → (s : Numbered) → IsKnown s → is_folded (which_of s) ≡ true
        → guard_node x (guard_of x (which_of s)) ≡ Some (sequence.guard_node p (guard_in p s))
    guarded_in e (Of s) low h = spot_guarded e s low h
    guarded_in e (Rest i) low h = last_guarded e low.1 low.2
    guarded_in e (MissingHead k) low h = last_guarded e low.1 low.2
    guarded_in e (MissingEnd k) low h = last_guarded e low.1 low.2

    pub guard_is : (s : Numbered) → IsKnown s → is_folded (which_of s) ≡ true
        → guard_node x (guard_of x (which_of s)) ≡ Some (sequence.guard_node p (sequence.guard_of p s))
    guard_is s low h = by (says_sizes p) refl
      where
        by : (b : Bool) → says_sizes p ≡ b
            → guard_node x (guard_of x (which_of s)) ≡ Some (sequence.guard_node p (if b then guard_in p s else None))
        by false e = ap (guard_node x) (guard_none e s low) ∙ ap Some (sym is.root)
        by true e = guarded_in e s low h
