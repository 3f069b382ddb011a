-- The nodes of a plain list are a chain.
use Rattle.std.proofs.Common.{◌*◌}
use Rattle.std.specs.Prelude.{option_map}
use Rattle.ksv_desc.specs.Description as contents
use Rattle.ksv_expr_value.specs.Places.{aligned}
use Rattle.ksv_expr_value.specs.declared.fault.FaultKind.TheVariants as kinds
use Rattle.ksv_expr_value.specs.declared.step.Step.TheVariants as steps
use Rattle.ksv_nodes.specs.Rule.{value_node, rest_node}
use Rattle.ksv_nodes.specs.declared.given.Given.TheVariants as givens
use Rattle.ksv_nodes.specs.declared.given.Head.TheVariants as heads
use Rattle.ksv_nodes.specs.declared.node.NodeKind.TheVariants as nodes
use Rattle.ksv_nodes.specs.declared.node_fault.NodeFault.TheVariants as faults
use Rattle.ksv_rule_meaning.specs.Choosing.{choose}
use Rattle.ksv_rule_meaning.specs.Ends.{start_of, place_of, rest_from, element_end, object_end, fields_end}
use Rattle.ksv_rule_meaning.specs.Heads.{is_past, is_of_bits, content_at, chosen_at, object_at, element_setting}
use Rattle.ksv_list_laws.proofs.Chains.{AsksFirst, Chain, IsChain, chain_tells}
use Rattle.ksv_list_laws.proofs.Common.{◌≡◌, ◌∙◌, ℕ, zero, suc, ◌+◌, ◌-◌, ◌<◌, ◌≤◌, nat_le, Bool, true, false, if◌then◌else◌, List, [], ◌∷◌, length}
use Rattle.ksv_list_laws.proofs.Common.{Option, Some, None, Result, Ok, ◌⊎◌, inl, inr, refl, sym, ap, subst, arith, nat_tests, is_some, option_and_then}
use Rattle.ksv_list_laws.proofs.Common.{unwrap_or, Answer, bind, byte_of_byte, at_byte, Trail, child, parent, trail_of-steps, Description, Content}
use Rattle.ksv_list_laws.proofs.Common.{Always, with_first, Node, NodeFault, Given, Head, end_in, head_node, end_node, in_path, ask_end, part_end}
use Rattle.ksv_list_laws.proofs.Common.{shape_at, leaf, rule_of, size_at, content_size, Listing, start, Which, ElementHead, ElementEnd, Rest, FieldHead}
use Rattle.ksv_list_laws.proofs.Common.{FieldEnd, SizeValue, node_at, nodes_of, size_asked, last_asked, later_asked, asked_by, element_uses, uses_at}
use Rattle.ksv_list_laws.proofs.Common.{IsPlain, IsThere, Tells, MissingHead, MissingEnd, evaluated, Err}
use Rattle.ksv_list_laws.proofs.Fields as fields
use Rattle.ksv_list_laws.proofs.Laid.{first_size, named_more, named_here, sizer_is}
use Rattle.ksv_list_laws.proofs.Laid as layouts_are
use Rattle.ksv_list_laws.proofs.Paths.{element_is, field_is, mapped, then_is}
use Rattle.ksv_list_laws.proofs.Places.{field_low, first_some, turns, turns_low, place_is, fewer, width, rank, step_rank, node_rank}
use Rattle.ksv_list_laws.proofs.Plain.{IsLaidOut, IsSized, IsElementOf, IsRead}
use Rattle.ksv_list_laws.proofs.Rules as rules
use Rattle.ksv_list_laws.proofs.Says.{as_head, Says, Ends, says_answer, says_given, says_by, says_asking, ends_asking}
use Rattle.ksv_list_laws.specs.Laws.{NodesHavePaths, NodesTell}
use Rattle.ksv_list_laws.specs.Lists.{choice_size}
use Rattle.ksv_list_laws.specs.Lists as layouts
use Rattle.ksv_list_laws.specs.Nodes.{path_at, kind_at, place, field_start, element_path, field_path, object_from, element_from, is_last_at, is_last}
use Rattle.ksv_list_laws.specs.Nodes.{answer_at, missing_fault, IsField, IsMissing}

-- ---- kinds and lengths

is_there : (o : Option ℕ) → is_some o ≡ true → o ≡ Some (unwrap_or o 0)
is_there None h = absurd (cc)
is_there (Some n) h = refl

fixed_no_bits : (c : Content) (n : ℕ) → content_size c ≡ Some n → is_of_bits (Always c) ≡ false
fixed_no_bits (contents.Bits width enum) n e = absurd (cc)
fixed_no_bits _ n e = refl

module _ (d : Description) (bytes : List ℕ) (x : Listing) (plain : IsPlain d bytes x) where
  abbrev t : ℕ
  t = unwrap_or x.layout.type_number 0

  pub read : IsRead d x.list x.layout
  read = layouts_are.read d x.list x.layout plain.laid

  pub laid : is_some x.layout.type_number ≡ true → IsLaidOut d t x.layout
  laid some = layouts_are.laid d x.list x.layout plain.laid some

  pub start_less : (i : ℕ) → start x i < start x (suc i)
  start_less i = let first = first_size d x.list x.layout plain.laid in first_some x.layout (x.says i) (start x i) first.0 x.layout.last first.1 first.2

  pub field_room : (i j : ℕ) → i < x.count → j ≤ x.layout.last → place x i (suc j) ≤ end_in bytes x.list.stream.to
  field_room i j low few =
      let up = field_low x.layout (x.says i) (start x i) (suc j) (suc x.layout.last) (omega (arith, few)) in
      let room = (plain.whole i low).room in omega (arith, up, room)

  -- an element before another isn't the last
  not_last : (i : ℕ) → suc i < x.count → is_last bytes x i ≡ false
  not_last i low = by x.list.count (plain.whole (suc i) low).counted
    where
      by : (o : Option ℕ) → is_past o (suc i) ≡ false → is_last_at o bytes x.list.stream.to i (start x (suc i)) ≡ false
      by None counted = let less = start_less (suc i) in let room = (plain.whole (suc i) low).room in grind (arith, nat_tests)
      by (Some n) counted = grind (arith, nat_tests)

  -- ---- paths

  -- the path of an element, and of a field of the object at a path
  abbrev At : ℕ → Trail → Type 0
  At i p = child x.path (steps.Index i) ≡ Some p

  abbrev Below : Trail → ℕ → Trail → Type 0
  Below p j q = child p (steps.Name (x.layout.name j)) ≡ Some q

  path_of : (i : ℕ) → i < x.count → (p : Trail) × At i p
  path_of i low = element_is x.path i plain.short (let few = plain.few in omega (arith, low, few))

  pub below : (i j : ℕ) → IsField x i j → (p : Trail) × (q : Trail) × At i p × Below p j q
  below i j there =
      let p = path_of i there.0 in
      let q = field_is x.path p.0 i (x.layout.name j) plain.short p.1 ((laid there.2).named j there.1) in (p.0, q.0, p.1, q.1)

  field_path_is : (i j : ℕ) (p q : Trail) → At i p → Below p j q → field_path x i j ≡ Some q
  field_path_is i j p q is was = ap (λ o. option_and_then (λ r. child r (steps.Name (x.layout.name j))) o) is ∙ was

  field_there : (i j : ℕ) → IsField x i j → (q : Trail) × (field_path x i j ≡ Some q)
  field_there i j there = let p = below i j there in (p.1, field_path_is i j p.0 p.1 p.2 p.3)

  no_bits : (j : ℕ) (o : Option ℕ) → IsSized x.layout j o → is_of_bits (x.layout.field j).choice ≡ false
  no_bits j (Some n) z = ap is_of_bits z.2 ∙ fixed_no_bits z.1 n z.3
  no_bits j None z = ap is_of_bits z.1.always

  -- ---- the chain

  abbrev Is : Which → Node → Type 0
  Is k m = IsThere bytes x k × (node_at x k ≡ Some m)

  abbrev pub chain : Chain
  chain = record {
    Part = Which;
    Is = Is;
    answer = answer_at bytes x;
    asked = λ k. nodes_of x (asked_by x k);
    used = uses_at bytes x;
    rank = rank x;
    node_rank = node_rank x;
  }

  node_next : (k : Which) (m : Node) (ks : List (Option Which)) → node_at x k ≡ Some m → nodes_of x (Some k ∷ ks) ≡ m ∷ nodes_of x ks
  node_next k m ks is = ap (λ o. with_first o (nodes_of x ks)) is

  -- the node of a path
  abbrev node_of : Which → Trail → Node
  node_of k p = record { kind = kind_at k; path = p }

  -- what is so of the node of each path is so of each node
  by_path : (C : Which → Node → Type 0) → ((k : Which) (p : Trail) → IsThere bytes x k → path_at x k ≡ Some p → C k (node_of k p)) → (k : Which) (m : Node)
      → Is k m → C k m
  by_path C f k m a = let p = mapped (node_of k) (path_at x k) m a.1 in subst (C k) p.2 (f k p.0 a.0 p.1)

  -- the path of the element that holds a field
  holder_of : (i j : ℕ) (q : Trail) → field_path x i j ≡ Some q → (p : Trail) × At i p × Below p j q
  holder_of i j q is = then_is (λ p. child p (steps.Name (x.layout.name j))) (element_path x i) q is

  element_steps : (i : ℕ) (p : Trail) → At i p → steps.Index i ∷ x.path.upward ≡ p.upward
  element_steps i p is = trail_of-steps (steps.Index i ∷ x.path.upward) p is

  field_steps : (i j : ℕ) (q : Trail) → field_path x i j ≡ Some q → steps.Name (x.layout.name j) ∷ steps.Index i ∷ x.path.upward ≡ q.upward
  field_steps i j q is =
      let p = holder_of i j q is in
      ap (λ z. steps.Name (x.layout.name j) ∷ z) (element_steps i p.0 p.1) ∙ trail_of-steps (steps.Name (x.layout.name j) ∷ p.0.upward) q p.2

  -- ---- ranks

  place_at : (i j : ℕ) → IsField x i j → layouts.place_of x.layout.name (x.layout.name j) x.layout.last ≡ j
  place_at i j there = place_is x.layout.name x.layout.last j there.1 (λ k few same. (laid there.2).distinct k j few there.1 same)

  ranked : (k : Which) (p : Trail) → IsThere bytes x k → path_at x k ≡ Some p → node_rank x (node_of k p) ≡ rank x k
  ranked (ElementHead i) p there is = ap (step_rank x nodes.Head) (sym (element_steps i p is))
  ranked (ElementEnd i) p there is = ap (step_rank x nodes.End) (sym (element_steps i p is))
  ranked (Rest i) p there is = ap (step_rank x nodes.Rest) (sym (element_steps i p is))
  ranked (FieldHead i j) p there is = ap (step_rank x nodes.Head) (sym (field_steps i j p is)) ∙ ap (λ n. rank x (FieldHead i n)) (place_at i j there)
  ranked (FieldEnd i j) p there is = ap (step_rank x nodes.End) (sym (field_steps i j p is)) ∙ ap (λ n. rank x (FieldEnd i n)) (place_at i j there)
  ranked (SizeValue i) p there is = ap (step_rank x nodes.Value) (sym (field_steps i x.layout.sizer p is))
  ranked (MissingHead k) p there is = ap (step_rank x nodes.Head) (sym (element_steps (x.count + k) p is))
  ranked (MissingEnd k) p there is = ap (step_rank x nodes.End) (sym (element_steps (x.count + k) p is))

  -- ---- the list's head is none of them

  apart : (k : Which) (p : Trail) → IsThere bytes x k → path_at x k ≡ Some p → node_of k p ≡ head_node x.path → ⊥
  apart k p there is e = by k is
    where
      same : p.upward ≡ x.path.upward
      same = ap (λ (n : Node). n.path.upward) e

      element : (i : ℕ) → At i p → ⊥
      element i at = let n = ap length (element_steps i p at ∙ same) in omega (arith, n)

      field : (i j : ℕ) → field_path x i j ≡ Some p → ⊥
      field i j at = let n = ap length (field_steps i j p at ∙ same) in omega (arith, n)

      by : (h : Which) → path_at x h ≡ Some p → ⊥
      by (ElementHead i) at = element i at
      by (ElementEnd i) at = element i at
      by (Rest i) at = element i at
      by (FieldHead i j) at = field i j at
      by (FieldEnd i j) at = field i j at
      by (SizeValue i) at = field i x.layout.sizer at
      by (MissingHead k) at = element (x.count + k) at
      by (MissingEnd k) at = element (x.count + k) at

  -- ---- what is asked first

  abbrev First : Which → Node → Type 0
  First k m = AsksFirst d m (head_node x.path) ⊎ ((j : Which) × (n : Node) × Is j n × (rank x j < rank x k) × AsksFirst d m n)

  first_is : (k : Which) (p : Trail) → IsThere bytes x k → path_at x k ≡ Some p → First k (node_of k p)
  first_is (ElementHead i) p there is = inl (rules.head_first d x.path p i is)
  first_is (ElementEnd i) p there is = inr (ElementHead i, head_node p, (there, ap (option_map head_node) is), omega arith, rules.end_first d p)
  first_is (Rest zero) p there is = inl (rules.rest_first d x.path p is)
  first_is (Rest (suc i)) p there is =
      let before = turns_low (width x) (suc i) x.count there.0 in
      inr (ElementEnd (suc i), end_node p, (there.0, ap (option_map end_node) is), omega (arith, before), rules.rest_next d x.path p i is)
  first_is (FieldHead i j) p there is =
      let q = holder_of i j p is in
      inr (ElementHead i, head_node q.0, (there.0, ap (option_map head_node) q.1), omega arith, fields.member_first d q.0 p (x.layout.name j) q.2)
  first_is (FieldEnd i j) p there is = inr (FieldHead i j, head_node p, (there, ap (option_map head_node) is), omega arith, rules.end_first d p)
  first_is (SizeValue i) p there is = inr (
    FieldHead i x.layout.sizer,
    head_node p,
    (there.0, ap (option_map head_node) is),
    omega arith,
    fields.value_first d p,
  )
  first_is (MissingHead k) p there is = inl (rules.head_first d x.path p (x.count + k) is)
  first_is (MissingEnd k) p there is = inr (MissingHead k, head_node p, (there, ap (option_map head_node) is), omega arith, rules.end_first d p)

  -- ---- what each says

  module _ (r : ℕ) (met : Node → Result Given NodeFault) (listed : met (head_node x.path) ≡ Ok (givens.Head (heads.List x.list)))
      (lower : (k : Which) (m : Node) → rank x k < r → Is k m → met m ≡ evaluated (answer_at bytes x k)) where
    abbrev Said : Which → Node → Type 0
    Said k m = Ends met m.path bytes (rule_of d m) (evaluated (answer_at bytes x k)) (nodes_of x (asked_by x k)) (uses_at bytes x k)

    head_heard : (i : ℕ) (p : Trail) → i < x.count → At i p → turns (width x) i < r → met (head_node p) ≡ evaluated (answer_at bytes x (ElementHead i))
    head_heard i p low is lt = lower (ElementHead i) (head_node p) lt (low, ap (option_map head_node) is)

    end_heard : (i : ℕ) (p : Trail) → i < x.count → At i p → turns (width x) i + 3 * x.layout.last + 4 < r
        → met (end_node p) ≡ evaluated (answer_at bytes x (ElementEnd i))
    end_heard i p low is lt = lower (ElementEnd i) (end_node p) lt (low, ap (option_map end_node) is)

    field_end_heard : (i j : ℕ) (q : Trail) → IsField x i j → field_path x i j ≡ Some q → turns (width x) i + 3 * j + 2 < r
        → met (end_node q) ≡ evaluated (answer_at bytes x (FieldEnd i j))
    field_end_heard i j q there is lt = lower (FieldEnd i j) (end_node q) lt (there, ap (option_map end_node) is)

    -- ---- elements

    -- what is read where an element begins
    abbrev Reads : ℕ → Trail → Option ℕ → ℕ → Type 0
    Reads i p o z = Says met p bytes (rules.read_at met bytes d x.list x.path p listed i (Answer (at_byte (start x i))))
        (element_from x.list o (start x i) z) []
        (element_uses o z)

    read_says : (i : ℕ) (p : Trail) → i < x.count → Reads i p x.layout.type_number (start x (suc i))
    unfolding shape_at choose content_at object_at bind
    read_says i p low = by x.layout.type_number (IsRead.element read)
      where
        by : (o : Option ℕ) → IsElementOf d (IsRead.field read) x.layout o → Reads i p o (start x (suc i))
        by (Some k) e =
            let at = element_setting p (parent x.path) x.list.origin (at_byte (start x i)) i in
            says_by met p bytes _ (Answer (element_from x.list (Some k) (start x i) (start x (suc i)))) _ [] []
            (ap (λ z. as_head (bind z (λ f. shape_at at x.list.origin x.list.stream (at_byte (start x i)) f))) (IsRead.is read)
            ∙ ap (λ c. as_head (bind (choose at c) (λ z. chosen_at at x.list.origin x.list.stream (at_byte (start x i)) (IsRead.field read) z))) e.1
            ∙ ap (λ z. as_head (object_at at (record x.list.origin { case = None }) k x.list.stream (at_byte (start x i)) z)) e.2)
            (says_answer met p bytes _)
        by None e =
            let at = element_setting p (parent x.path) x.list.origin (at_byte (start x i)) i in
            let far : start x (suc i) ≡ start x i + e.2 = ap (λ k. field_start x.layout (x.says i) (start x i) (suc k)) e.0
            ∙ ap (λ o. start x i + unwrap_or o (x.says i)) e.5 in
            let room = (plain.whole i low).room in
            subst (Reads i p None) (sym far)
            (says_by met p bytes _ (as_head (leaf (record x.list.origin { case = None }) x.list.stream (at_byte (start x i)) e.2)) _ [] _
            (ap (λ z. as_head (bind z (λ f. shape_at at x.list.origin x.list.stream (at_byte (start x i)) f))) (IsRead.is read)
            ∙ ap as_head (fields.shape_is at x.list.origin x.list.stream (at_byte (start x i)) (IsRead.field read) e.1 e.2 e.3 e.4))
            (rules.leaf_says met p bytes (record x.list.origin { case = None }) x.list.stream (start x i) e.2 plain.within (omega (arith, far, room))))

    says_head : (i : ℕ) (p : Trail) → i < x.count → At i p → r ≡ turns (width x) i
        → Said (ElementHead i) (head_node p)
    says_head zero p low is at = rules.first_head met bytes d x.list x.path p listed x.first _ _ is plain.filled (plain.whole 0 low).counted plain.begins
        (read_says 0 p low)
    says_head (suc i) p low is at =
        let few : i < x.count = omega (arith, low) in
        let q = path_of i few in
        let ended = end_heard i q.0 few q.1 (omega (arith, at)) ∙ ap (λ b. Ok (givens.End (at_byte (start x (suc i))) b)) (not_last i low) in
        says_asking met p bytes _ _ _ _ _ (ap (λ ns. head_node x.path ∷ ns) (node_next (ElementEnd i) (end_node q.0) [] (ap (option_map end_node) q.1)))
        (rules.next_head met bytes d x.list x.path p listed i (start x (suc i)) q.0 _ _ is q.1 plain.filled (plain.whole (suc i) low).counted ended
        (read_says (suc i) p low))

    says_end : (i : ℕ) (p : Trail) → i < x.count → At i p → r ≡ turns (width x) i + 3 * x.layout.last + 4
        → Said (ElementEnd i) (end_node p)
    unfolding place_of object_end fields_end part_end bind
    says_end i p low is at =
        says_by met p bytes _ _ _ _ _ (rules.end_rule d x.path p i is)
        (says_asking met p bytes _ _ _ _ _ (node_next (ElementHead i) (head_node p) _ (ap (option_map head_node) is))
        (by x.layout.type_number refl (IsRead.element read) (head_heard i p low is (omega (arith, at)))))
      where
        closes : (h : Head) → start_of h ≡ at_byte (start x i) → Ends met p bytes
            (rules.as_end (element_end d p x.path (parent x.path) i h (at_byte (start x (suc i))))) (evaluated (answer_at bytes x (ElementEnd i)))
            (head_node x.path ∷ []) (uses_at bytes x (ElementEnd i))
        closes h begins = rules.closes met bytes d x.list x.path p listed (IsRead.field read) (IsRead.is read) (IsRead.ends read) i (start x i)
            (start x (suc i)) h begins (start_less i)

        by : (o : Option ℕ) → x.layout.type_number ≡ o → IsElementOf d (IsRead.field read) x.layout o
            → met (head_node p) ≡ Ok (element_from x.list o (start x i) (start x (suc i)))
            → Ends met p bytes (rules.ending d x.path p i) (evaluated (answer_at bytes x (ElementEnd i)))
            (head_node p ∷ nodes_of x (last_asked o i x.layout.last)) (uses_at bytes x (ElementEnd i))
        by None same e headed = says_given met p bytes (head_node p) _ _ _ (head_node x.path ∷ []) _ headed (closes _ refl)
        by (Some k) same e headed =
            let there : IsField x i x.layout.last = (low, omega arith, ap is_some same) in
            let q = below i x.layout.last there in
            let one : Below p x.layout.last q.1 = ap (λ o. option_and_then (λ z. child z (steps.Name (x.layout.name x.layout.last))) o) (sym is)
            ∙ field_path_is i x.layout.last q.0 q.1 q.2 q.3 in
            let h : Head = heads.Object (object_from x.list k (start x i)) in
            says_asking met p bytes _ _ _ _ _ (ap (λ ns. head_node p ∷ ns)
            (node_next (FieldEnd i x.layout.last) (end_node q.1) (None ∷ []) (ap (option_map end_node) (field_path_is i x.layout.last p q.1 is one))))
            (says_given met p bytes (head_node p) _ (givens.Head h) _ (end_node q.1 ∷ head_node x.path ∷ []) _ headed
            (says_by met p bytes _ _ _ (end_node q.1 ∷ head_node x.path ∷ []) _
            (ap (λ v. rules.as_end (bind (fields_end p (at_byte (start x i)) v) (λ z. element_end d p x.path (parent x.path) i h z))) e.3.ends
            ∙ ap (λ v. rules.as_end (bind (bind (bind (in_path v) (λ z. ask_end z)) (λ z. Answer (aligned z.place)))
            (λ z. element_end d p x.path (parent x.path) i h z))) one)
            (says_given met p bytes (end_node q.1) _ (givens.End (at_byte (start x (suc i))) false) _ (head_node x.path ∷ []) _
            (field_end_heard i x.layout.last q.1 there (field_path_is i x.layout.last p q.1 is one) (omega (arith, at)))
            (says_by met p bytes _ _ _ (head_node x.path ∷ []) _ (ap (λ n. rules.as_end (element_end d p x.path (parent x.path) i h (at_byte n)))
            (byte_of_byte (start x (suc i)))) (closes h refl)))))

    -- ---- rests

    says_behind : (i : ℕ) (p : Trail) → IsThere bytes x (Rest i) → At i p → r ≡ turns (width x) x.count + (x.count - i)
        → Ends met p bytes (rules.as_rest (rest_from p x.path i)) (evaluated (answer_at bytes x (Rest i)))
        (nodes_of x (Some (ElementEnd i) ∷ later_asked x.count i)) []
    says_behind i p there is at =
        let low = there.0 in
        let lt : turns (width x) i + 3 * x.layout.last + 4 < r = (let e = turns_low (width x) i x.count low in omega (arith, e, at)) in
        says_asking met p bytes _ _ _ _ _ (node_next (ElementEnd i) (end_node p) _ (ap (option_map end_node) is))
        (by (nat_le x.count (suc i)) refl (end_heard i p low is lt))
      where
        by : (b : Bool) → nat_le x.count (suc i) ≡ b → met (end_node p) ≡ evaluated (answer_at bytes x (ElementEnd i))
            → Ends met p bytes (rules.as_rest (rest_from p x.path i)) (evaluated (answer_at bytes x (Rest i)))
            (end_node p ∷ nodes_of x (if b then [] else Some (Rest (suc i)) ∷ [])) []
        by true e ended =
            let low = there.0 in
            let count : suc i ≡ x.count = grind (arith, nat_tests) in
            let before : i ≡ x.count - 1 = omega (arith, count) in
            rules.last_rest met bytes d x.list x.path p listed x.count i (at_byte (start x x.count)) (omega (arith, count))
            (ended ∙ ap (λ b. Ok (givens.End (at_byte (start x (suc i))) b)) (ap (λ k. is_last bytes x k) before ∙ there.1)
            ∙ ap (λ k. Ok (givens.End (at_byte (start x k)) true)) count)
        by false e ended =
            let more : suc i < x.count = grind (arith, nat_tests) in
            let q = path_of (suc i) more in
            let most = plain.few in
            says_asking met p bytes _ _ _ _ _ (ap (λ ns. end_node p ∷ ns) (node_next (Rest (suc i)) (rest_node q.0) [] (ap (option_map rest_node) q.1)))
            (rules.more_rest met bytes d x.list x.path p listed i (at_byte (start x (suc i))) q.0 q.1 (omega (arith, more, most))
            (ended ∙ ap (λ b. Ok (givens.End (at_byte (start x (suc i))) b)) (not_last i more))
            x.count (at_byte (start x x.count)) (lower (Rest (suc i)) (rest_node q.0) (omega (arith, at, more))
            ((more, there.1), ap (option_map rest_node) q.1)))

    says_rest : (i : ℕ) (p : Trail) → IsThere bytes x (Rest i) → At i p → r ≡ turns (width x) x.count + (x.count - i)
        → Said (Rest i) (rest_node p)
    says_rest zero p there is at = rules.whole_says met bytes d x.list x.path p listed _ _ is plain.filled (says_behind 0 p there is at)
    says_rest (suc i) p there is at = rules.rest_says met bytes d x.list x.path p listed i _ _ is (says_behind (suc i) p there is at)

    -- ---- what isn't there

    first_fault : (p : Trail) → At (x.count + 0) p → missing_fault x ≡ record { kind = kinds.BadIndex; path = p }
    first_fault p is =
        let first : x.count + 0 ≡ x.count = omega arith in
        ap (λ o. record { kind = kinds.BadIndex; path = unwrap_or o x.path }) (ap (element_path x) (sym first) ∙ is)

    says_missing : (k : ℕ) (p : Trail) → IsMissing bytes x k → At (x.count + k) p → r ≡ turns (width x) (x.count + k) → Said (MissingHead k) (head_node p)
    says_missing zero p there is at =
        let some = there.some in
        let low : x.count - 1 < x.count = omega (arith, some) in
        let before : x.count + 0 ≡ suc (x.count - 1) = omega (arith, some) in
        let up = turns_low (width x) (x.count - 1) (x.count + 0) (omega (arith, some)) in
        let q = path_of (x.count - 1) low in
        let ended = end_heard (x.count - 1) q.0 low q.1 (omega (arith, at, up))
        ∙ ap (λ b. Ok (givens.End (at_byte (start x (suc (x.count - 1)))) b)) there.last in
        ends_asking met p bytes _ _ _ _ _
        (ap (λ ns. head_node x.path ∷ ns) (node_next (ElementEnd (x.count - 1)) (end_node q.0) [] (ap (option_map end_node) q.1)))
        (subst (λ f. Ends met p bytes (rule_of d (head_node p)) (Err (faults.Raised f)) (head_node x.path ∷ end_node q.0 ∷ []) []) (sym (first_fault p is))
        (rules.missing_head met bytes d x.list x.path p listed (x.count - 1) (start x (suc (x.count - 1))) q.0 (subst (λ i. At i p) before is) q.1 plain.filled
        (ap (λ o. is_past o (suc (x.count - 1))) there.uncounted) ended))
    says_missing (suc k) p there is at =
        let less = fewer there in
        let q = element_is x.path (x.count + k) plain.short less.few in
        let before : x.count + suc k ≡ suc (x.count + k) = omega arith in
        let up = turns_low (width x) (x.count + k) (x.count + suc k) (omega arith) in
        ends_asking met p bytes _ _ _ _ _ (ap (λ ns. head_node x.path ∷ ns) (node_next (MissingEnd k) (end_node q.0) [] (ap (option_map end_node) q.1)))
        (rules.next_missing met bytes d x.list x.path p listed (x.count + k) q.0 (faults.Raised (missing_fault x)) (subst (λ i. At i p) before is) q.1
        plain.filled (ap (λ o. is_past o (suc (x.count + k))) there.uncounted)
        (lower (MissingEnd k) (end_node q.0) (omega (arith, at, up)) (less, ap (option_map end_node) q.1)))

    says_missing_end : (k : ℕ) (p : Trail) → IsMissing bytes x k → At (x.count + k) p → r ≡ turns (width x) (x.count + k) + 3 * x.layout.last + 4
        → Said (MissingEnd k) (end_node p)
    says_missing_end k p there is at =
        let path = ap (option_map head_node) is in
        ends_asking met p bytes _ _ _ _ _ (node_next (MissingHead k) (head_node p) [] path)
        (rules.missing_end met bytes d x.list x.path p listed _ (lower (MissingHead k) (head_node p) (omega (arith, at)) (there, path)))

    -- ---- fields

    module _ (i j : ℕ) (there : IsField x i j) (p q : Trail) (is : At i p) (was : Below p j q) where
      headed : turns (width x) i < r → met (head_node p) ≡ Ok (givens.Head (heads.Object (object_from x.list t (start x i))))
      headed lt = head_heard i p there.0 is lt ∙ ap (λ o. Ok (element_from x.list o (start x i) (start x (suc i)))) (is_there x.layout.type_number there.2)

      abbrev FieldReads : turns (width x) i < r → ℕ → List Node → Type 0
      FieldReads lt n ns = fields.Reads met bytes d x.list t x.layout (laid there.2) p (start x i) plain.within j there.1 q was (headed lt) (place x i j) n ns

      -- reading it where it begins says this
      reads : turns (width x) i + 3 * j + 1 ≡ r → (lt : turns (width x) i < r)
          → FieldReads lt (unwrap_or (size_at x.layout j) (x.says i)) (nodes_of x (size_asked i (size_at x.layout j)))
      reads at lt = by (size_at x.layout j) refl ((laid there.2).sized j there.1)
        where
          by : (o : Option ℕ) → size_at x.layout j ≡ o → IsSized x.layout j o
              → FieldReads lt (unwrap_or o (x.says i)) (nodes_of x (size_asked i o))
          by (Some n) e z =
              let far : place x i (suc j) ≡ place x i j + n = ap (λ o. place x i j + unwrap_or o (x.says i)) e in
              let room = field_room i j there.0 there.1 in
              fields.read_fixed met bytes d x.list t x.layout (laid there.2) p (start x i) plain.within j there.1 q was (headed lt)
              (place x i j) n z.1 z.2 z.3 (omega (arith, far, room))
          by None e z =
              let far : place x i (suc j) ≡ place x i j + x.says i = ap (λ o. place x i j + unwrap_or o (x.says i)) e in
              let room = field_room i j there.0 there.1 in
              let before = z.0 in
              let few = there.1 in
              let sizer : IsField x i x.layout.sizer = (there.0, omega (arith, before, few), there.2) in
              let s = field_is x.path p i (x.layout.name x.layout.sizer) plain.short is ((laid there.2).named x.layout.sizer sizer.1) in
              let path = field_path_is i x.layout.sizer p s.0 is s.1 in
              let valued = lower (SizeValue i) (value_node s.0) (omega (arith, before, at))
              ((sizer, named_more x.layout j x.layout.last there.1 (named_here x.layout j e)), ap (option_map value_node) path) in
              subst (FieldReads lt (x.says i)) (sym (node_next (SizeValue i) (value_node s.0) [] (ap (option_map value_node) path)))
              (fields.read_named met bytes d x.list t x.layout (laid there.2) p (start x i) plain.within j there.1 q was (headed lt) (place x i j) (x.says i)
              (x.layout.name x.layout.sizer) s.0 z.1 s.1 valued (omega (arith, far, room)))

    says_field : (i j : ℕ) (there : IsField x i j) (p q : Trail) → At i p → Below p j q → turns (width x) i + 3 * j + 1 ≡ r
        → Said (FieldHead i j) (head_node q)
    says_field i zero there p q is was at =
        let lt : turns (width x) i < r = omega (arith, at) in
        says_asking met q bytes _ _ _ _ _ (node_next (ElementHead i) (head_node p) _ (ap (option_map head_node) is))
        (fields.first_part met bytes d x.list t x.layout (laid there.2) p (start x i) plain.within 0 there.1 q was (headed i 0 there p q is was lt) _ _ refl
        (reads i 0 there p q is was at lt))
    says_field i (suc j) there p q is was at =
        let lt : turns (width x) i < r = omega (arith, at) in
        let high = there.1 in
        let few : IsField x i j = (there.0, omega (arith, high), there.2) in
        let s = field_is x.path p i (x.layout.name j) plain.short is ((laid there.2).named j few.1) in
        says_asking met q bytes _ _ _ _ _ (node_next (ElementHead i) (head_node p) (Some (FieldEnd i j) ∷ size_asked i (size_at x.layout (suc j)))
        (ap (option_map head_node) is)
        ∙ ap (λ ns. head_node p ∷ ns) (node_next (FieldEnd i j) (end_node s.0) (size_asked i (size_at x.layout (suc j)))
        (ap (option_map end_node) (field_path_is i j p s.0 is s.1))))
        (fields.next_part met bytes d x.list t x.layout (laid there.2) p (start x i) plain.within (suc j) there.1 q was
        (headed i (suc j) there p q is was lt) j (place x i (suc j)) _ s.0 _ refl s.1
        (field_end_heard i j s.0 few (field_path_is i j p s.0 is s.1) (omega (arith, at)))
        (no_bits (suc j) (size_at x.layout (suc j)) ((laid there.2).sized (suc j) there.1))
        (reads i (suc j) there p q is was at lt))

    says_field_end : (i j : ℕ) (there : IsField x i j) (p q : Trail) → At i p → Below p j q → turns (width x) i + 3 * j + 2 ≡ r
        → Said (FieldEnd i j) (end_node q)
    says_field_end i j there p q is was at =
        let path = ap (option_map head_node) (field_path_is i j p q is was) in
        says_asking met q bytes _ _ _ _ _ (node_next (FieldHead i j) (head_node q) [] path)
        (fields.part_ends met bytes d x.list t x.layout (laid there.2) p (x.layout.name j) q _ was
        (lower (FieldHead i j) (head_node q) (omega (arith, at)) (there, path)))

    says_value : (i : ℕ) (there : IsThere bytes x (SizeValue i)) (p q : Trail) → At i p → Below p x.layout.sizer q
        → turns (width x) i + 3 * x.layout.sizer + 3 ≡ r
        → Said (SizeValue i) (value_node q)
    says_value i there p q is was at =
        let path = ap (option_map head_node) (field_path_is i x.layout.sizer p q is was) in
        let by = sizer_is d x.list x.layout plain.laid there.0.2 there.1 in
        let size = by.2 in
        let some = by.3 in
        let far : place x i (suc x.layout.sizer) ≡ place x i x.layout.sizer + by.1 = ap (λ o. place x i x.layout.sizer + unwrap_or o (x.says i)) size in
        let room = field_room i x.layout.sizer there.0.0 there.0.1 in
        let within = plain.within in
        says_asking met q bytes _ _ _ _ _ (node_next (FieldHead i x.layout.sizer) (head_node q) [] path)
        (fields.value_says met bytes d x.list t x.layout (laid there.0.2) p (start x i) x.layout.sizer (place x i x.layout.sizer)
        (place x i (suc x.layout.sizer)) (x.says i) there.0.1 q by.0
        (lower (FieldHead i x.layout.sizer) (head_node q) (omega (arith, at))
        (there.0, path))
        (omega (arith, far, some)) (omega (arith, room, within)) ((plain.whole i there.0.0).says there.1))

  -- ---- each node of the list

  abbrev Saying : Which → Node → Type 0
  Saying k m = (met : Node → Result Given NodeFault) → met (head_node x.path) ≡ Ok (givens.Head (heads.List x.list))
      → ((j : Which) (n : Node) → rank x j < rank x k → Is j n → met n ≡ evaluated (answer_at bytes x j))
      → Ends met m.path bytes (rule_of d m) (evaluated (answer_at bytes x k)) (nodes_of x (asked_by x k)) (uses_at bytes x k)

  saying : (k : Which) (p : Trail) → IsThere bytes x k → path_at x k ≡ Some p → Saying k (node_of k p)
  saying (ElementHead i) p there is met listed lower = says_head (rank x (ElementHead i)) met listed lower i p there is refl
  saying (ElementEnd i) p there is met listed lower = says_end (rank x (ElementEnd i)) met listed lower i p there is refl
  saying (Rest i) p there is met listed lower = says_rest (rank x (Rest i)) met listed lower i p there is refl
  saying (FieldHead i j) p there is met listed lower = let q = holder_of i j p is in
      says_field (rank x (FieldHead i j)) met listed lower i j there q.0 p q.1 q.2 refl
  saying (FieldEnd i j) p there is met listed lower = let q = holder_of i j p is in
      says_field_end (rank x (FieldEnd i j)) met listed lower i j there q.0 p q.1 q.2 refl
  saying (SizeValue i) p there is met listed lower = let q = holder_of i x.layout.sizer p is in
      says_value (rank x (SizeValue i)) met listed lower i there q.0 p q.1 q.2 refl
  saying (MissingHead k) p there is met listed lower = says_missing (rank x (MissingHead k)) met listed lower k p there is refl
  saying (MissingEnd k) p there is met listed lower = says_missing_end (rank x (MissingEnd k)) met listed lower k p there is refl

  is_chain : IsChain d bytes (head_node x.path) (givens.Head (heads.List x.list)) chain
  is_chain = record {
    ranked = by_path (λ k m. node_rank x m ≡ rank x k) ranked;
    apart = λ a. by_path (λ k m. m ≡ head_node x.path → ⊥) apart a.0 (head_node x.path) a.1 refl;
    first = by_path First first_is;
    steps = by_path Saying saying;
  }

  pub tells : (k : Which) → IsThere bytes x k → (n : Node) → node_at x k ≡ Some n
      → Tells d bytes [] n (answer_at bytes x k) (nodes_of x (asked_by x k)) (uses_at bytes x k)
  tells k there n is = chain_tells d bytes (head_node x.path) (givens.Head (heads.List x.list)) chain is_chain plain.listed k n (there, is)

  path_there : (k : Which) → IsThere bytes x k → (p : Trail) × (path_at x k ≡ Some p)
  path_there (ElementHead i) there = path_of i there
  path_there (ElementEnd i) there = path_of i there
  path_there (Rest i) there = path_of i there.0
  path_there (FieldHead i j) there = field_there i j there
  path_there (FieldEnd i j) there = field_there i j there
  path_there (SizeValue i) there = field_there i x.layout.sizer there.0
  path_there (MissingHead k) there = element_is x.path (x.count + k) plain.short there.few
  path_there (MissingEnd k) there = element_is x.path (x.count + k) plain.short there.few

  pub node_is : (k : Which) → IsThere bytes x k → (n : Node) × (node_at x k ≡ Some n)
  node_is k there = let p = path_there k there in (node_of k p.0, ap (option_map (node_of k)) p.1)

pub nodes_have_paths : NodesHavePaths
nodes_have_paths d bytes x plain k there = node_is d bytes x plain k there

pub nodes_tell : NodesTell
nodes_tell d bytes x plain k there n is = tells d bytes x plain k there n is
