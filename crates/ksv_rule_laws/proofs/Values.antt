-- What rules of values answer, one lemma a rule: a value of a leaf that is read fits the leaf, and what is calculated is an expression's value.
use Rattle.ksv_rule_laws.proofs.Common.{◌≡◌, ℕ, ◌+◌, ◌≤◌, Bool, true, false, if◌then◌else◌, List, length, Option, Some, None, Result}
use Rattle.ksv_rule_laws.proofs.Common.{refl, ap, arith, inl, inr, nat_tests, bind, Tree, Step, Origin, Holder, expression, Place, byte_of, further}
use Rattle.ksv_rule_laws.proofs.Common.{Trail, parent, last, Value, Description, MemberKind, Parameter, ValueInstance}
use Rattle.ksv_rule_laws.proofs.Common.{Field, Content, Node, NodeFault, Given, Head, Leaf, MemberRef, Rule, ask_head}
use Rattle.ksv_rule_laws.proofs.Common.{field_of, kind_of, Reads, IsFieldOf, IsContentOf, IsLeafOf, IsOfLeaf, Setting}
use Rattle.std.proofs.Common.{pos, ℤ}
use Rattle.std.specs.Prelude.{nat_le}
use Rattle.std.specs.Str.{bytes_eq}
use Rattle.std.proofs.lemmas.Grind.{common_steps}
use Rattle.ksv_nodes.specs.declared.given.Calc.{Calc}
use Rattle.ksv_rule_meaning.specs.Heads.{member_setting, holder_setting}
use Rattle.ksv_rule_meaning.specs.Checks.{value_checked}
use Rattle.ksv_expr_value.specs.declared.step.Step.TheVariants as steps
use Rattle.ksv_expr_value.specs.Places.{byte_in}
use Rattle.ksv_expr_value.specs.Bits.{number_of, bits_from}
use Rattle.ksv_expr_value.specs.Range.{ranged}
use Rattle.ksv_expr_value.specs.Setting.{NoElement}
use Rattle.ksv_expr_value.specs.Encodings.{decoded}
use Rattle.ksv_expr_value.specs.declared.encoding.Encoding.{Encoding}
use Rattle.ksv_expr_value.specs.declared.value.Value.TheVariants as values
use Rattle.ksv_desc.specs.declared.order.ByteOrder.{ByteOrder}
use Rattle.ksv_desc.specs.Description.{is_truth, Terminator}
use Rattle.ksv_desc.specs.Description as contents
use Rattle.ksv_nodes.specs.declared.given.Head.TheVariants as heads
use Rattle.ksv_nodes.specs.Reading.{first_at, peek_at}
use Rattle.ksv_nodes.specs.Rule.{peek}
use Rattle.ksv_nodes.proofs.First.{first_at_below}
use Rattle.ksv_rule_meaning.specs.Choosing.{content_of}
use Rattle.ksv_rule_meaning.specs.Integers.{integer_value}
use Rattle.ksv_rule_meaning.specs.Values.{in_number, number_value, of_bits, bits_value, fixed_value, cut_by, kept_of, kept_by, is_cut, kept, cut_bytes}
use Rattle.ksv_rule_meaning.specs.Values.{bytes_value, in_text, cut_text, text_value, content_value, leaf_value, value_at, arguments_for}
use Rattle.ksv_rule_meaning.specs.Values.{in_no_stream, plain_value, parameter_value, instance_value, value_of, calculated, in_enum, argument_at, calc_value}
use Rattle.ksv_rule_meaning.specs.Values.{argument_value}
use Rattle.ksv_rule_laws.proofs.Rules.{Answers, join, either, so, asked_head, known}
use Rattle.ksv_rule_laws.proofs.Members.{field_found, kind_found, content_found}
use Rattle.ksv_rule_laws.proofs.Checking.{value_meets}
use Rattle.ksv_rule_laws.proofs.Shapes.{IsPlain, IsCalculatedIn, IsValueAt, IsMadeOf}
use Rattle.ksv_rule_laws.specs.Laws.{IsReadBy, IsAsWide}

-- how a member that reads is the one by which something is read
same_reads : (k : MemberKind) (f g : Field) → Reads k f → Reads k g → f ≡ g
same_reads k f g a b = grind arith

pub same_field : (d : Description) (r : MemberRef) (f g : Field) → IsFieldOf d r f → IsFieldOf d r g → f ≡ g
same_field d r f g a b =
    let same : a.0 ≡ b.0 = cc in same_reads b.0.kind f g (rw same at a.2) b.2

-- where each asked node has the answer that `met` gives
module _ (met : Node → Result Given NodeFault) (here : Trail) (bytes : List ℕ) where
  abbrev Says : {A : Type 0} → (A → Type 0) → Rule A → Type 0
  Says P p = Answers met here bytes P p

  after : {A B : Type 0} (P : A → Type 0) (S : B → Type 0) (p : Rule A) (f : A → Rule B) → Says P p → ((a : A) → P a → Says S (f a)) → Says S (bind p f)
  after P S p f h g = join met here bytes P S p f h g

  test : {A : Type 0} (S : A → Type 0) (b : Bool) (p q : Rule A) → (b ≡ true → Says S p) → (b ≡ false → Says S q) → Says S (if b then p else q)
  test S b p q g h = either met here bytes S b p q g h

  hence : {A : Type 0} (P S : A → Type 0) (p : Rule A) → Says P p → ((a : A) → P a → S a) → Says S p
  hence P S p h f = so met here bytes P S p h f

  -- ---- the value of a leaf

  -- how many bytes were read of a range
  peeked : (from to : ℕ) → Says (λ (bs : List ℕ). from + length bs ≡ to) (peek from to)
  unfolding peek_at
  peeked from to bs e = grind (arith, nat_tests, common_steps)

  module _ (l : Leaf) where
    in_number_fits : (enum : Option ℕ) (n : Option ℤ) → Says (IsOfLeaf l) (in_number enum n)
    in_number_fits enum n = grind arith

    number_fits : (signed : Bool) (order : ByteOrder) (enum : Option ℕ) → Says (IsOfLeaf l) (number_value l signed order enum)
    unfolding number_value
    number_fits signed order enum =
        after _ _ (peek (byte_of l.from) (byte_of l.to)) _ (peeked (byte_of l.from) (byte_of l.to))
        (λ bs is. test _ (nat_le (length bs) 8) _ _ (λ e. in_number_fits enum (ranged (integer_value signed order bs))) (λ e. tt))

    -- a truth value is of one bit
    one_bit : (width : ℕ) (enum : Option ℕ) → l.to ≡ further l.from width → is_truth width enum ≡ true → l.to.bits ≡ l.from.bits + 1
    unfolding further
    one_bit width None wide e = let bits : l.to.bits ≡ l.from.bits + width = ap (λ (p : Place). p.bits) wide in grind (arith, nat_tests, common_steps)
    one_bit width (Some k) wide e = cc

    of_bits_fits : (width : ℕ) (enum : Option ℕ) (n : ℕ) → Says (λ v. l.to ≡ further l.from width → IsOfLeaf l v) (of_bits width enum n)
    of_bits_fits width enum n =
        test _ (is_truth width enum) _ _ (λ e wide. one_bit width enum wide e)
        (λ e. hence _ _ (in_number enum (ranged (pos n))) (in_number_fits enum (ranged (pos n))) (λ v fits wide. fits))

    bits_fit : (width : ℕ) (enum : Option ℕ) → Says (λ v. l.to ≡ further l.from width → IsOfLeaf l v) (bits_value l width enum)
    unfolding bits_value
    bits_fit width enum =
        after _ _ (peek (byte_in l.from) (byte_of l.to)) _ (peeked (byte_in l.from) (byte_of l.to))
        (λ bs is. test _ (nat_le (length bs) 9) _ _ (λ e. of_bits_fits width enum (number_of (bits_from l.from l.to bs))) (λ e. tt))

    fixed_fits : (wanted : List ℕ) → Says (IsOfLeaf l) (fixed_value l wanted)
    unfolding fixed_value
    fixed_fits wanted = after _ _ (peek (byte_of l.from) (byte_of l.to)) _ (peeked (byte_of l.from) (byte_of l.to))
        (λ bs is. test _ (bytes_eq bs wanted) _ _ (λ e. (refl, omega arith)) (λ e. tt))

    kept_below : (t : Option Terminator) (bs : List ℕ) → kept_by t bs ≤ length bs
    kept_below None bs = omega arith
    kept_below (Some t) bs = by_place (first_at t.byte bs) t.is_included refl
      where
        by_place : (o : Option ℕ) (b : Bool) → first_at t.byte bs ≡ o → kept_of (record t { is_included = b }) bs o ≤ length bs
        by_place None b e = omega arith
        by_place (Some i) true e = omega (arith, first_at_below t.byte bs i e)
        by_place (Some i) false e = omega (arith, first_at_below t.byte bs i e)

    bytes_fit : (f : Field) → Says (IsOfLeaf l) (bytes_value l f)
    unfolding bytes_value cut_bytes kept
    bytes_fit f = test _ (is_cut f) _ _
        (λ e. after _ _ (peek (byte_of l.from) (byte_of l.to)) _ (peeked (byte_of l.from) (byte_of l.to)) (λ bs is.
        (refl, omega (arith, kept_below (cut_by f.extent f.terminator) bs, is))))
        (λ e. (refl, omega arith))

    in_text_fits : (t : Option (List ℕ)) → Says (IsOfLeaf l) (in_text t)
    in_text_fits t = grind arith

    text_fits : (encoding : Encoding) (f : Field) → Says (IsOfLeaf l) (text_value l encoding f)
    unfolding text_value
    text_fits encoding f = after _ _ (peek (byte_of l.from) (byte_of l.to)) _ (peeked (byte_of l.from) (byte_of l.to))
        (λ bs is. in_text_fits (decoded encoding (cut_text f bs)))

    any_width : (c : Content) (p : Rule Value) → Says (IsOfLeaf l) p → Says (λ v. IsAsWide c l → IsOfLeaf l v) p
    any_width c p h = hence _ _ p h (λ v fits wide. fits)

    content_fits : (f : Field) (c : Content) → Says (λ v. IsAsWide c l → IsOfLeaf l v) (content_value l f c)
    unfolding content_value
    content_fits f contents.Bytes = any_width contents.Bytes (bytes_value l f) (bytes_fit f)
    content_fits f (contents.Fixed bs) = any_width (contents.Fixed bs) (fixed_value l bs) (fixed_fits bs)
    content_fits f (contents.Number signed size order enum) =
        any_width (contents.Number signed size order enum) (number_value l signed order enum) (number_fits signed order enum)
    content_fits f (contents.Bits width enum) = bits_fit width enum
    content_fits f (contents.Characters encoding) = any_width (contents.Characters encoding) (text_value l encoding f) (text_fits encoding f)
    content_fits f (contents.Object t given) = tt

  module _ (d : Description) where
    -- the content by which a leaf is read is as wide as it
    as_wide : (l : Leaf) (f : Field) (c : Content) → IsFieldOf d l.origin.member f → ((k : Content) → IsContentOf f.choice l.origin.case k → k ≡ c)
        → IsReadBy d l.origin.member (IsLeafOf l) → IsAsWide c l
    as_wide l f c is one read =
        let so : IsLeafOf l f = rw (← (same_field d l.origin.member read.field f read.is is)) read.so in
        rw (← (one so.0 so.1)) so.3

    leaf_fits : (l : Leaf) → Says (λ v. IsReadBy d l.origin.member (IsLeafOf l) → IsOfLeaf l v) (leaf_value d l)
    unfolding leaf_value
    leaf_fits l =
        after _ _ (field_of d l.origin.member) _ (field_found met here bytes d l.origin.member) (λ f is.
        after _ _ (content_of f.choice l.origin.case) _ (content_found met here bytes f.choice l.origin.case) (λ c one.
        hence _ _ (content_value l f c) (content_fits l f c) (λ v fits read. fits (as_wide l f c is one read))))

    -- ---- a calculated value

    plain_is : (w : Value) → Says (λ v. IsPlain d met here bytes w v) (in_no_stream w)
    plain_is (values.Stream w) = tt
    plain_is w = inl (tt, refl)

    enum_is : (enum : Option ℕ) (w : Value) → Says (λ v. IsPlain d met here bytes w v) (in_enum enum w)
    enum_is None w = plain_is w
    enum_is (Some e) (values.Int n) = inr (e, n, refl)
    enum_is (Some e) _ = tt

    instance_is : (q : Trail) (o : Holder) (e : Tree) (enum : Option ℕ)
        → Says (λ v. IsCalculatedIn d met here bytes o v) (instance_value (holder_setting here q o) e enum)
    unfolding instance_value
    instance_is q o e enum =
        known met here bytes _ (expression (holder_setting here q o) e) _ (λ w was. hence _ _ (in_enum enum w) (enum_is enum w) (λ v plain.
        record { setting = holder_setting here q o; tree = e; first = w; was = was; stream = inl refl; element = refl; plain = plain }))

    plain_from : (at : Setting) (o : Holder) (g : Origin) (e : Tree) → o.origin ≡ Some g → at.stream ≡ g.home → at.element ≡ NoElement
        → Says (λ v. IsCalculatedIn d met here bytes o v) (plain_value at e)
    unfolding plain_value
    plain_from at o g e is stream element = known met here bytes _ (expression at e) _ (λ w was. hence _ _ (in_no_stream w) (plain_is w)
        (λ v plain. record { setting = at; tree = e; first = w; was = was; stream = inr (g, is, stream); element = element; plain = plain }))

    argument_is : (q : Trail) (step : Option Step) (o : Holder) (g : Origin) (e : Tree) → o.origin ≡ Some g
        → Says (λ v. IsCalculatedIn d met here bytes o v) (plain_value (member_setting here q step g o.start) e)
    argument_is q (Some (steps.Index i)) o g e is = plain_from _ o g e is refl refl
    argument_is q _ o g e is = plain_from _ o g e is refl refl

    parameter_is : (q : Trail) (member : ℕ) (o : Holder) (g : Option Origin) → o.origin ≡ g
        → Says (λ v. IsCalculatedIn d met here bytes o v) (parameter_value d here q member o g)
    unfolding parameter_value argument_value
    parameter_is q member o None is = tt
    parameter_is q member o (Some g) is = known met here bytes _ (arguments_for d g) _
        (λ es any. known met here bytes _ (argument_at es _) _ (λ e any'. argument_is q (last q) o g e is))

    calc_is : (q : Trail) (c : Calc) (k : MemberKind) → Says (λ v. IsCalculatedIn d met here bytes c.object v) (calc_value d here q c k)
    unfolding calc_value
    calc_is q c Parameter = parameter_is q c.member c.object c.object.origin refl
    calc_is q c (ValueInstance i) = instance_is q c.object i.value i.enum
    calc_is q c _ = tt

    calculated_is : (q : Trail) (c : Calc) → Says (λ v. IsCalculatedIn d met here bytes c.object v) (calculated d here q c)
    unfolding calculated
    calculated_is q c = after _ _ (kind_of d (record { type_number = c.object.type_number; member = c.member })) _
        (kind_found met here bytes d (record { type_number = c.object.type_number; member = c.member })) (λ k found. calc_is q c k)

    -- ---- values

    value_at_is : (h : Head) → Says (λ v. IsValueAt d met here bytes h v) (value_at d here h)
    unfolding value_at
    value_at_is (heads.Absent at) = tt
    value_at_is (heads.Calc c) = calculated_is (parent here) c
    value_at_is (heads.Leaf l) = leaf_fits l
    value_at_is (heads.Object o) = refl
    value_at_is (heads.List g) = refl

    pub made_is : Says (λ v. IsMadeOf d met here bytes v) (value_of d here)
    unfolding value_of
    made_is =
        after _ _ (ask_head here) _ (asked_head met here bytes here) (λ h asked.
        after _ _ (value_at d here h) _ (value_at_is h) (λ v is.
        after _ _ (value_checked d here h v) _ (value_meets met here bytes d h v) (λ u meets. record { head = h; asked = asked; is = is; meets = meets })))
