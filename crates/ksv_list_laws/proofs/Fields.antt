-- What the rules of an element's fields say, and of the value that says the size of some; and how an element is read.
use Rattle.std.specs.Prelude.{◌==◌, ℤ, pos, slice_range}
use Rattle.ksv_basics.specs.Plan.{translate}
use Rattle.ksv_bytes.specs.declared.uses.Use.TheVariants as uses_are
use Rattle.ksv_desc.specs.Description.{Extent, Sized, ByItself, MemberKind, valid_of, Choice}
use Rattle.ksv_desc.specs.Description as contents
use Rattle.ksv_expr_meaning.specs.Asked.{value_for, in_value as asked_value}
use Rattle.ksv_expr_meaning.specs.Heard.{Valued}
use Rattle.ksv_expr_meaning.specs.Meaning.{member_value, member_path, value_of as expression_value, in_path as path_in}
use Rattle.ksv_expr_meaning.specs.declared.want.Want.TheVariants as wants
use Rattle.ksv_expr_tree.specs.Tree.{Tree, Word, named}
use Rattle.ksv_expr_value.specs.Places.{Place, byte_of, aligned}
use Rattle.ksv_expr_value.specs.Range.{ranged}
use Rattle.ksv_expr_value.specs.Setting.{Setting}
use Rattle.ksv_expr_value.specs.Trail.{last}
use Rattle.ksv_expr_value.specs.declared.fault.FaultKind.TheVariants as kinds
use Rattle.ksv_expr_value.specs.declared.step.Step.TheVariants as steps
use Rattle.ksv_expr_value.specs.declared.value.Value.{Value}
use Rattle.ksv_expr_value.specs.declared.value.Value.TheVariants as values
use Rattle.ksv_nodes.specs.Reading.{Peek, Look, gives, peek_at}
use Rattle.ksv_nodes.specs.Rule.{Here, raise, in_head, value_node, ask_head, ask_value}
use Rattle.ksv_nodes.specs.Truth.{answer_of, with_given, with_seen}
use Rattle.ksv_nodes.specs.declared.given.Given.TheVariants as givens
use Rattle.ksv_nodes.specs.declared.given.Head.TheVariants as heads
use Rattle.ksv_nodes.specs.declared.given.Leaf.{Leaf}
use Rattle.ksv_nodes.specs.declared.given.List as lists
use Rattle.ksv_nodes.specs.declared.given.Object.{Object}
use Rattle.ksv_nodes.specs.declared.given.Origin.{Origin}
use Rattle.ksv_nodes.specs.declared.node.NodeKind.TheVariants as nodes
use Rattle.ksv_rule_meaning.specs.Checks.{value_checked, member_checked, checked_if}
use Rattle.ksv_rule_meaning.specs.Choosing.{choose, content_of}
use Rattle.ksv_rule_meaning.specs.Ends.{place_of, end_at, end_of}
use Rattle.ksv_rule_meaning.specs.Fields.{in_sought, in_field, member_named}
use Rattle.ksv_rule_meaning.specs.Heads.{content_at, chosen_at, bytes_at, sized_leaf, is_of_bits, start_after, attribute_start, attribute_setting}
use Rattle.ksv_rule_meaning.specs.Heads.{member_setting, origin_of, attribute_head, attribute_at, repeated, member_at, member_head, head_at}
use Rattle.ksv_rule_meaning.specs.Integers.{integer_value}
use Rattle.ksv_rule_meaning.specs.Values.{value_of, value_at, leaf_value, content_value, number_value, number_in, in_number}
use Rattle.ksv_rule_meaning.specs.Wanted.{holds, wanted, expression, integer_of, in_integer, size_of, in_size}
use Rattle.ksv_list_laws.proofs.Chains.{AsksFirst}
use Rattle.ksv_list_laws.proofs.Common.{◌≡◌, ◌∙◌, ℕ, suc, ◌+◌, ◌<◌, ◌≤◌, nat_lt, nat_le, Bool, true, false, if◌then◌else◌, List, [], ◌∷◌, length}
use Rattle.ksv_list_laws.proofs.Common.{Option, Some, None, Result, Ok, refl, sym, ap, arith, nat_tests, Answer, Ask, bind, Use, byte_of_byte, at_byte}
use Rattle.ksv_list_laws.proofs.Common.{Trail, child, Stream, Description, Field, Content, Always, Node, NodeFault, Given, Head, look, end_in, Rule}
use Rattle.ksv_list_laws.proofs.Common.{See, head_node, end_node, in_path, ask_end, field_of, leaf, shape_at, part_end, head_of, meaning_of, rule_of}
use Rattle.ksv_list_laws.proofs.Common.{Layout, content_size}
use Rattle.ksv_list_laws.proofs.Paths.{part_of}
use Rattle.ksv_list_laws.proofs.Plain.{IsNumber, IsNamed, IsLaidOut}
use Rattle.ksv_list_laws.proofs.Rules.{leaf_says}
use Rattle.ksv_list_laws.proofs.Says.{as_head, Says, says_answer, says_given, says_seen, says_by}
use Rattle.ksv_list_laws.proofs.Truth.{some_is}
use Rattle.ksv_list_laws.specs.Lists.{before}
use Rattle.ksv_list_laws.specs.Nodes.{object_from, sought_at, leaf_from, integer_in}

-- ---- what is read at a place

content_is : (at : Setting) (origin : Origin) (w : Stream) (s : Place) (f : Field) (c : Content) (n : ℕ) → content_size c ≡ Some n
    → content_at at origin w s f c ≡ leaf origin w s n
unfolding content_at
content_is at origin w s f (contents.Number signed k order enum) n e = ap (leaf origin w s) (some_is k n e)
content_is at origin w s f (contents.Fixed bs) n e = ap (leaf origin w s) (some_is (length bs) n e)
content_is at origin w s f _ n e = absurd (cc)

-- so many bytes
pub shape_is : (at : Setting) (origin : Origin) (w : Stream) (s : Place) (f : Field) (c : Content) (n : ℕ) → f.choice ≡ Always c → content_size c ≡ Some n
    → shape_at at origin w s f ≡ leaf (record origin { case = None }) w s n
unfolding shape_at choose bind
shape_is at origin w s f c n e z = ap (λ x. bind (choose at x) (λ y. chosen_at at origin w s f y)) e
    ∙ content_is at (record origin { case = None }) w s f c n z

-- ---- what is asked first

pub member_rule : (d : Description) (p x : Trail) (n : ℕ) → child p (steps.Name n) ≡ Some x
    → rule_of d (head_node x) ≡ as_head (member_head d x p n)
unfolding rule_of meaning_of head_of
member_rule d p x n is =
    let up = part_of p x (steps.Name n) is in
    ap (λ z. as_head (head_at d x z)) up.1 ∙ ap (λ q. as_head (member_head d x q n)) up.0

pub member_first : (d : Description) (p x : Trail) (n : ℕ) → child p (steps.Name n) ≡ Some x → AsksFirst d (head_node x) (head_node p)
unfolding member_head bind
member_first d p x n is = record { rest = _; is = member_rule d p x n is }

pub value_first : (d : Description) (x : Trail) → AsksFirst d (value_node x) (head_node x)
unfolding rule_of meaning_of value_of bind
value_first d x = record { rest = _; is = refl }

module _ (met : Node → Result Given NodeFault) (bytes : List ℕ) (d : Description) (g : lists.List) (t : ℕ) (y : Layout) (laid : IsLaidOut d t y)
    (p : Trail) where
  abbrev says : Trail → Rule Given → Given → List Node → List Use → Type 0
  says here rule a ns us = Says met here bytes rule a ns us

  -- ---- the head of a field

  module _ (a : ℕ) (within : end_in bytes g.stream.to ≤ length bytes) (j : ℕ) (low : j ≤ y.last) (x : Trail) (is : child p (steps.Name (y.name j)) ≡ Some x)
      (headed : met (head_node p) ≡ Ok (givens.Head (heads.Object (object_from g t a)))) where
    abbrev o : Object
    o = object_from g t a

    abbrev at : ℕ → Setting
    at b = attribute_setting x p (origin_of o (sought_at y j)) (at_byte b)

    -- what is read where its place is known
    abbrev there_at : Place → Rule Head
    there_at s = attribute_at (attribute_setting x p (origin_of o (sought_at y j)) s) (origin_of o (sought_at y j)) o.stream s (y.field j)

    there_is : (b : ℕ) → there_at (at_byte b) ≡ shape_at (at b) (origin_of o (sought_at y j)) o.stream (at_byte b) (y.field j)
    unfolding attribute_at holds repeated bind
    there_is b =
        let f = y.field j in
        ap (λ c. bind (holds (at b) c) (λ there. if there then repeated (at b) (origin_of o (sought_at y j)) o.stream (at_byte b) f f.repeat else Answer
        (heads.Absent (Some (at_byte b))))) (laid.free j low)
        ∙ ap (λ r. repeated (at b) (origin_of o (sought_at y j)) o.stream (at_byte b) f r) (laid.once j low)

    abbrev begun : Rule Place → Rule Given
    begun s = as_head (bind s there_at)

    part_head : (r : Given) (ns : List Node) (us : List Use) → says x (begun (attribute_start p o (before y j) (y.field j).choice)) r ns us
        → says x (rule_of d (head_node x)) r (head_node p ∷ ns) us
    unfolding member_head member_named member_at attribute_head bind
    part_head r ns us s =
        says_by met x bytes _ _ r (head_node p ∷ ns) us (member_rule d p x (y.name j) is)
        (says_given met x bytes (head_node p) _ (givens.Head (heads.Object o)) r ns us headed
        (says_by met x bytes _ (begun (attribute_start p o (before y j) (y.field j).choice)) r ns us
        (ap (λ m. as_head (bind (in_sought m) (λ k. member_at x p o k k.kind))) (laid.part j low)) s))

    -- what reading it at a place says
    abbrev pub Reads : ℕ → ℕ → List Node → Type 0
    Reads b n ns = says x (begun (Answer (at_byte b))) (leaf_from (origin_of o (sought_at y j)) b (b + n)) ns (uses_are.Reach (b + n) ∷ [])

    -- what takes always the same bytes
    pub read_fixed : (b n : ℕ) (c : Content) → (y.field j).choice ≡ Always c → content_size c ≡ Some n → b + n ≤ end_in bytes o.stream.to → Reads b n []
    unfolding bind
    read_fixed b n c always size room =
        says_by met x bytes (begun (Answer (at_byte b))) _ _ [] (uses_are.Reach (b + n) ∷ [])
        (ap as_head (there_is b ∙ shape_is (at b) (origin_of o (sought_at y j)) o.stream (at_byte b)
        (y.field j) c n always size))
        (leaf_says met x bytes (origin_of o (sought_at y j)) o.stream b n within room)

    -- what has a size by name: its value is asked
    named_rule : (b : ℕ) (e : Tree) → (y.field j).choice ≡ Always contents.Bytes → (y.field j).extent ≡ Sized e
        → there_at (at_byte b) ≡ bind (size_of (at b) e) (λ n. leaf (origin_of o (sought_at y j)) o.stream (at_byte b) n)
    unfolding shape_at choose content_at bytes_at sized_leaf bind
    named_rule b e always extent =
        there_is b
        ∙ ap (λ c. bind (choose (at b) c) (λ z. chosen_at (at b) (origin_of o (sought_at y j)) o.stream (at_byte b) (y.field j) z)) always
        ∙ ap (λ k. bytes_at (at b) (origin_of o (sought_at y j)) o.stream (at_byte b) k (y.field j).terminator) extent

    size_rule : (b k : ℕ) (w : Word) (q : Trail) → w.number ≡ Some k → child p (steps.Name k) ≡ Some q
        → size_of (at b) (named w) ≡ bind (bind (bind (bind (ask_value q) (λ v. Answer (Valued v))) (λ h. translate (wanted (at b)) Here (asked_value h)))
        (λ v. in_integer v)) (λ z. in_size z)
    unfolding size_of integer_of expression wanted expression_value member_value member_path bind
    size_rule b k w q number was =
        ap (λ z. bind (bind (translate (wanted (at b)) Here (member_value p z)) (λ v. in_integer v)) (λ z. in_size z)) number
        ∙ ap (λ c. bind (bind (translate (wanted (at b)) Here (bind (path_in c) (λ r. value_for (wants.Value r)))) (λ v. in_integer v)) (λ z. in_size z)) was

    pub read_named : (b n k : ℕ) (q : Trail) → IsNamed (y.field j) k → child p (steps.Name k) ≡ Some q
        → met (value_node q) ≡ Ok (givens.Value (values.Int (pos n))) → b + n ≤ end_in bytes o.stream.to
        → Reads b n (value_node q ∷ [])
    unfolding bind
    read_named b n k q by was valued room =
        says_by met x bytes (begun (Answer (at_byte b))) _ _ (value_node q ∷ []) (uses_are.Reach (b + n) ∷ [])
        (ap as_head (named_rule b (named by.word) by.always by.extent
        ∙ ap (λ z. bind z (λ m. leaf (origin_of o (sought_at y j)) o.stream (at_byte b) m)) (size_rule b k by.word q by.number was)))
        (says_given met x bytes (value_node q) _ (givens.Value (values.Int (pos n))) _ [] (uses_are.Reach (b + n) ∷ []) valued
        (leaf_says met x bytes (origin_of o (sought_at y j)) o.stream b n within room))

    -- ---- where it begins

    aligned_so : (c : Choice) (b : ℕ) → is_of_bits c ≡ false → start_after (at_byte b) c ≡ at_byte b
    aligned_so c b e = ap (λ z. if z then at_byte b else aligned (at_byte b)) e ∙ ap at_byte (byte_of_byte b)

    pub first_part : (n : ℕ) (ns : List Node) → j ≡ 0 → Reads a n ns → says x (rule_of d (head_node x)) (leaf_from (origin_of o (sought_at y j)) a (a + n))
        (head_node p ∷ ns) (uses_are.Reach (a + n) ∷ [])
    unfolding attribute_start bind
    first_part n ns zeroth reads =
        part_head _ ns _ (says_by met x bytes _ (begun (Answer (at_byte a))) _ ns _
        (ap (λ k. begun (attribute_start p o (before y k) (y.field j).choice)) zeroth) reads)

    pub next_part : (i b n : ℕ) (q : Trail) (ns : List Node) → j ≡ suc i → child p (steps.Name (y.name i)) ≡ Some q
        → met (end_node q) ≡ Ok (givens.End (at_byte b) false)
        → is_of_bits (y.field j).choice ≡ false → Reads b n ns → says x (rule_of d (head_node x)) (leaf_from (origin_of o (sought_at y j)) b (b + n))
        (head_node p ∷ end_node q ∷ ns) (uses_are.Reach (b + n) ∷ [])
    unfolding attribute_start part_end bind
    next_part i b n q ns later was ended no_bits reads =
        part_head _ (end_node q ∷ ns) _
        (says_by met x bytes _ (begun (bind (ask_end q) (λ e. Answer (start_after e.place (y.field j).choice)))) _ (end_node q ∷ ns) _
        (ap (λ k. begun (attribute_start p o (before y k) (y.field j).choice)) later
        ∙ ap (λ k. begun (bind (bind (in_path k) (λ r. ask_end r)) (λ e. Answer (start_after e.place (y.field j).choice)))) was)
        (says_given met x bytes (end_node q) _ (givens.End (at_byte b) false) _ ns _ ended
        (says_by met x bytes _ (begun (Answer (at_byte b))) _ ns _ (ap (λ s. begun (Answer s)) (aligned_so (y.field j).choice b no_bits)) reads)))

  -- ---- the end of a field

  pub part_ends : (n : ℕ) (x : Trail) (k : Leaf) → child p (steps.Name n) ≡ Some x → met (head_node x) ≡ Ok (givens.Head (heads.Leaf k))
      → says x (rule_of d (end_node x)) (givens.End k.end false) (head_node x ∷ []) []
  unfolding rule_of meaning_of end_of place_of bind
  part_ends n x k is e =
      let up = part_of p x (steps.Name n) is in
      says_by met x bytes _ _ _ _ [] (ap (λ z. bind (bind (ask_head x) (λ h. bind (place_of d x h) (λ w. end_at d x z h w)))
      (λ v. Answer (givens.End v.place v.last))) up.1)
      (says_given met x bytes (head_node x) _ (givens.Head (heads.Leaf k)) _ [] [] e (says_answer met x bytes _))

  -- ---- the value that says a size

  module _ (a j from to n : ℕ) (low : j ≤ y.last) (x : Trail) (number : IsNumber (y.field j)) where
    abbrev leaf_there : Leaf
    leaf_there = record { origin = origin_of (object_from g t a) (sought_at y j); from = at_byte from; to = at_byte to; end = at_byte to }

    abbrev checked : Rule Value → Rule Given
    checked r = bind (bind r (λ v. bind (value_checked d x (heads.Leaf leaf_there) v) (λ u. Answer v))) (λ v. Answer (givens.Value v))

    -- no condition is asked
    check_is : (v : Value) → value_checked d x (heads.Leaf leaf_there) v ≡ Answer tt
    unfolding value_checked member_checked bind
    check_is v =
        ap (λ k. bind k (λ m. checked_if (member_setting x x (last x) leaf_there.origin leaf_there.from) (valid_of m) v)) (laid.read j low)
        ∙ ap (λ z. checked_if (member_setting x x (last x) leaf_there.origin leaf_there.from) z v) number.unchecked

    read_value : value_at d x (heads.Leaf leaf_there) ≡ number_value leaf_there number.is_signed number.order None
    unfolding value_at leaf_value field_of content_of content_value bind
    read_value =
        ap (λ k. bind (in_field k) (λ f. bind (content_of f.choice None) (λ c. content_value leaf_there f c))) (laid.field j low)
        ∙ ap (λ c. bind (content_of c None) (λ k. content_value leaf_there (y.field j) k)) number.always

    -- it is read and then checked
    value_rule : checked (value_at d x (heads.Leaf leaf_there))
        ≡ Ask (See (Peek from to)) (λ zs. checked (number_in number.is_signed number.order None zs))
    unfolding number_value bind
    value_rule =
        ap checked read_value
        ∙ ap (λ k. Ask (See (Peek k (byte_of (at_byte to)))) (λ zs. checked (number_in number.is_signed number.order None zs))) (byte_of_byte from)
        ∙ ap (λ k. Ask (See (Peek from k)) (λ zs. checked (number_in number.is_signed number.order None zs))) (byte_of_byte to)

    peeks : from < to → to ≤ length bytes → look (Peek from to) bytes ≡ gives (slice_range bytes from to) (uses_are.Bytes from to ∷ [])
    unfolding peek_at
    peeks some room =
        let apart_so : (from == to) ≡ false = grind (arith, nat_tests) in
        let low_so : nat_le to (length bytes) ≡ true = grind (arith, nat_tests) in
        let some_so : nat_lt from to ≡ true = grind (arith, nat_tests) in
        rw (apart_so, low_so, some_so) refl

    pub value_says : met (head_node x) ≡ Ok (givens.Head (heads.Leaf leaf_there)) → from < to → to ≤ length bytes
        → integer_in (y.field j).choice (slice_range bytes from to) ≡ Answer (values.Int (pos n))
        → says x (rule_of d (value_node x)) (givens.Value (values.Int (pos n))) (head_node x ∷ []) (uses_are.Bytes from to ∷ [])
    unfolding rule_of meaning_of value_of number_value bind
    value_says headed some room said =
        let number_is : number_in number.is_signed number.order None (slice_range bytes from to) ≡ Answer (values.Int (pos n)) =
        sym (ap (λ c. integer_in c (slice_range bytes from to)) number.always) ∙ said in
        says_given met x bytes (head_node x) _ (givens.Head (heads.Leaf leaf_there)) _ [] (uses_are.Bytes from to ∷ []) headed
        (says_by met x bytes (checked (value_at d x (heads.Leaf leaf_there)))
        (Ask (See (Peek from to)) (λ zs. checked (number_in number.is_signed number.order None zs))) _ [] _ value_rule
        (says_seen met x bytes (Peek from to) _ (slice_range bytes from to) (uses_are.Bytes from to ∷ []) _ (peeks some room)
        (ap checked number_is ∙ ap (λ z. bind (bind z (λ u. Answer (values.Int (pos n)))) (λ v. Answer (givens.Value v))) (check_is (values.Int (pos n))))))

    -- ---- what it answers is what its bytes write

    abbrev Answers : Rule Given → Type 0
    Answers rule = answer_of met x bytes rule ≡ Ok (givens.Value (values.Int (pos n)))

    checked_is : (v : Value) → Answers (checked (Answer v)) → v ≡ values.Int (pos n)
    unfolding bind
    checked_is v h =
        let all : ◌≡◌ {A = Result Given NodeFault} (Ok (givens.Value v)) (Ok (givens.Value (values.Int (pos n)))) =
        sym (ap (λ z. answer_of met x bytes (bind (bind z (λ u. Answer v)) (λ w. Answer (givens.Value w)))) (check_is v)) ∙ h in cc

    number_read : (b : Bool) (o : Option ℤ) → Answers (checked (if b then in_number None o else raise kinds.BadType))
        → (if b then in_number None o else raise kinds.BadType) ≡ Answer (values.Int (pos n))
    unfolding bind
    number_read true (Some v) h = ap (λ z. Answer z) (checked_is (values.Int v) h)
    number_read true None h = absurd (cc)
    number_read false o h = absurd (cc)

    -- bytes that aren't all there are no value
    seen_is : from < to → Answers (Ask (See (Peek from to)) (λ zs. checked (number_in number.is_signed number.order None zs)))
        → Answers (checked (number_in number.is_signed number.order None (slice_range bytes from to)))
    unfolding peek_at
    seen_is some h = by (nat_le to (length bytes)) refl
      where
        by : (b : Bool) → nat_le to (length bytes) ≡ b → Answers (checked (number_in number.is_signed number.order None (slice_range bytes from to)))
        by true e =
            let see = peeks some (grind (arith, nat_tests)) in
            let rest : List ℕ → Result Given NodeFault = λ zs. answer_of met x bytes (checked (number_in number.is_signed number.order None zs)) in
            sym (ap (λ (k : Look (List ℕ)). with_seen x k.seen rest) see) ∙ h
        by false e = absurd (let apart_so : (from == to) ≡ false = grind (arith, nat_tests) in let none = rw (apart_so, e) at h in cc)

    pub value_is : met (head_node x) ≡ Ok (givens.Head (heads.Leaf leaf_there)) → from < to
        → answer_of met x bytes (meaning_of d nodes.Value x) ≡ Ok (givens.Value (values.Int (pos n)))
        → integer_in (y.field j).choice (slice_range bytes from to) ≡ Answer (values.Int (pos n))
    unfolding meaning_of value_of bind
    value_is headed some h =
        let told : Answers (checked (value_at d x (heads.Leaf leaf_there))) =
        sym (ap (λ r. with_given r (λ g'. answer_of met x bytes (bind (bind (in_head g') (λ k. bind (value_at d x k) (λ v. bind (value_checked d x k v)
        (λ u. Answer v)))) (λ v. Answer (givens.Value v))))) headed) ∙ h in
        let zs = slice_range bytes from to in
        let read = seen_is some (ap (λ r. answer_of met x bytes r) (sym value_rule) ∙ told) in
        ap (λ c. integer_in c zs) number.always ∙ number_read (nat_le (length zs) 8) (ranged (integer_value number.is_signed number.order zs)) read
