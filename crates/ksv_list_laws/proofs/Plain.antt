-- What the test of a plain list says: how its elements are read, and their fields.
use Rattle.std.proofs.Common.{◌^◌, ◌==◌, ◌&&◌}
use Rattle.std.specs.Cmp.{first_so, second_so}
use Rattle.std.specs.Prelude.{slice_get}
use Rattle.ksv_desc.specs.Description.{MemberOfType, MemberKind, Parameter, Attribute, ParseInstance, ValueInstance, Switch, Extent, Sized, SizeEos, ByItself}
use Rattle.ksv_desc.specs.Description.{Repeat, Once, Eos, Expr, Until, field_in, field_at, Choice}
use Rattle.ksv_desc.specs.Description as contents
use Rattle.ksv_desc.specs.declared.order.ByteOrder.{ByteOrder}
use Rattle.ksv_expr_tree.specs.Tree.{Arguments, Word, named}
use Rattle.ksv_nodes.specs.declared.given.List as lists
use Rattle.ksv_rule_meaning.specs.Fields.{Sought, members_of, behind, sought, is_attribute, last_attribute, in_field, in_kind, kind_of}
use Rattle.ksv_list_laws.proofs.Common.{◌≡◌, ◌∙◌, ℕ, zero, suc, ◌+◌, ◌<◌, ◌≤◌, nat_lt, Bool, true, false, if◌then◌else◌, List, [], ◌∷◌, Option, Some, None}
use Rattle.ksv_list_laws.proofs.Common.{inl, inr, refl, sym, ap, subst, arith, nat_tests, cases_lt, is_some, unwrap_or, option_and_then, Answer, Description}
use Rattle.ksv_list_laws.proofs.Common.{Field, Content, Always, field_of, Layout, content_size, size_at}
use Rattle.ksv_list_laws.proofs.Truth.{none_is, some_is}
use Rattle.ksv_list_laws.specs.Lists.{no_attribute, choice_size, extent_name, size_name, is_integer, before, whole, found, layout_of, same_name, is_once}
use Rattle.ksv_list_laws.specs.Lists.{is_sized, is_alone, is_in_order, is_plain_field, all_to, is_plain_type, repeats, object_layout, whole_layout}
use Rattle.ksv_list_laws.specs.Lists.{content_layout, field_layout, list_layout}
use Rattle.ksv_list_laws.specs.Nodes.{sought_at}

-- ---- what there is to know of fields

-- an integer, which has no `valid`
pub record IsNumber (f : Field) : Type 0 where
  pub is_signed : Bool
  pub size : ℕ
  pub order : ByteOrder
  pub always : f.choice ≡ Always (contents.Number is_signed size order None)
  pub unchecked : f.valid ≡ None

-- bytes of the size that the value of a name says
pub record IsNamed (f : Field) (x : ℕ) : Type 0 where
  pub word : Word
  pub number : word.number ≡ Some x
  pub extent : f.extent ≡ Sized (named word)
  pub always : f.choice ≡ Always contents.Bytes

-- how the size of a field is known
abbrev pub IsSized : Layout → ℕ → Option ℕ → Type 0
IsSized y j (Some n) = (0 < n) × (c : Content) × ((y.field j).choice ≡ Always c) × (content_size c ≡ Some n)
IsSized y j None = (y.sizer < j) × IsNamed (y.field j) (y.name y.sizer) × IsNumber (y.field y.sizer)

pub record IsLaidOut (d : Description) (t : ℕ) (y : Layout) : Type 0 where
  pub part : (j : ℕ) → j ≤ y.last → sought (y.name j) 0 None (members_of d t) ≡ Some (sought_at y j)
  pub read : (j : ℕ) → j ≤ y.last → kind_of d (record { type_number = t; member = y.member j }) ≡ Answer (Attribute (y.field j))
  pub field : (j : ℕ) → j ≤ y.last → field_at d t (y.member j) ≡ Some (y.field j)
  pub free : (j : ℕ) → j ≤ y.last → (y.field j).condition ≡ None
  pub once : (j : ℕ) → j ≤ y.last → (y.field j).repeat ≡ Once
  pub sized : (j : ℕ) → j ≤ y.last → IsSized y j (size_at y j)
  pub named : (j : ℕ) → j ≤ y.last → y.name j < 2 ^ 32
  pub distinct : (j k : ℕ) → j ≤ y.last → k ≤ y.last → y.name j ≡ y.name k → j ≡ k
  pub ends : last_attribute None (members_of d t) ≡ Some (y.name y.last)

-- what each element is: so many bytes, or an object
abbrev pub IsElementOf : Description → Field → Layout → Option ℕ → Type 0
IsElementOf d f y None = (y.last ≡ 0) × (c : Content) × (n : ℕ) × (f.choice ≡ Always c) × (content_size c ≡ Some n) × (size_at y 0 ≡ Some n) × (0 < n)
IsElementOf d f y (Some t) = (given : Arguments) × (f.choice ≡ Always (contents.Object t given)) × (f.extent ≡ ByItself) × IsLaidOut d t y

pub record IsRead (d : Description) (g : lists.List) (y : Layout) : Type 0 where
  pub field : Field
  pub is : field_of d g.origin.member ≡ Answer field
  pub ends : repeats field.repeat g.count ≡ true
  pub element : IsElementOf d field y y.type_number

-- ---- truth values

both : (a b : Bool) → (a && b) ≡ true → (a ≡ true) × (b ≡ true)
both a b h = (first_so a b h, second_so a b h)

once_is : (r : Repeat) → is_once r ≡ true → r ≡ Once
once_is Once h = refl
once_is _ h = absurd (cc)

equal_is : (x y : ℕ) → (x == y) ≡ true → x ≡ y
equal_is x y h = grind (arith, nat_tests)

less_is : (m n : ℕ) → nat_lt m n ≡ true → m < n
less_is m n h = grind (arith, nat_tests)

below_is : (n : ℕ) → nat_lt n (2 ^ 32) ≡ true → n < 2 ^ 32
below_is n h = grind (arith, nat_tests)

name_is : (o q : Option ℕ) → same_name o q ≡ true → o ≡ q
name_is None None h = refl
name_is (Some x) (Some y) h = ap Some (equal_is x y h)
name_is None (Some y) h = absurd (cc)
name_is (Some x) None h = absurd (cc)

all_is : (p : ℕ → Bool) (k j : ℕ) → all_to p k ≡ true → j ≤ k → p j ≡ true
all_is p zero j h le = let same : 0 ≡ j = omega (arith, le) in subst (λ n. p n ≡ true) same h
all_is p (suc k) j h le = elim (cases_lt k j) [
  | inl less ↦ (let same : suc k ≡ j = omega (arith, le, less) in subst (λ n. p n ≡ true) same (both (p (suc k)) (all_to p k) h).0)
  | inr more ↦ all_is p k j (both (p (suc k)) (all_to p k) h).1 more
]

-- ---- fields

number_is : (f : Field) (c : Choice) → f.choice ≡ c → is_integer c ≡ true → f.valid ≡ None → IsNumber f
number_is f (Always (contents.Number is_signed size order None)) e h u =
    record { is_signed = is_signed; size = size; order = order; always = e; unchecked = u }
number_is f _ e h u = absurd (cc)

named_in : (f : Field) (e : Extent) (x : ℕ) → f.extent ≡ e → extent_name e ≡ Some x → (w : Word) × (w.number ≡ Some x) × (f.extent ≡ Sized (named w))
named_in f (Sized (named w)) x e h = (w, h, e)
named_in f _ x e h = absurd (cc)

named_is : (f : Field) (c : Choice) (x : ℕ) → f.choice ≡ c → size_name c f.extent ≡ Some x → IsNamed f x
named_is f (Always contents.Bytes) x e h = let w = named_in f f.extent x refl h in record { word = w.0; number = w.1; extent = w.2; always = e }
named_is f _ x e h = absurd (cc)

fixed_is : (f : Field) (c : Choice) (n : ℕ) → f.choice ≡ c → choice_size c ≡ Some n → (k : Content) × (f.choice ≡ Always k) × (content_size k ≡ Some n)
fixed_is f (Always k) n e h = (k, e, h)
fixed_is f (Switch on cases) n e h = absurd (cc)

sized_is : (y : Layout) (j : ℕ) (o : Option ℕ) → size_at y j ≡ o → is_sized y j o ≡ true → IsSized y j o
sized_is y j (Some n) e h = let k = fixed_is (y.field j) (y.field j).choice n refl e in ((grind (arith, nat_tests)), k.0, k.1, k.2)
sized_is y j None e h =
    let a = both _ _ h in
    let b = both _ _ a.1 in
    let c = both _ _ b.1 in (
      less_is y.sizer j a.0,
      named_is (y.field j) (y.field j).choice (y.name y.sizer) refl (name_is _ _ b.0),
      number_is (y.field y.sizer) (y.field y.sizer).choice refl c.0 (none_is _ c.1),
    )

-- ---- members

-- what was looked for is there
kind_found : (x i : ℕ) (b : Option ℕ) (ms : List MemberOfType) (s : Sought) → sought x i b ms ≡ Some s → (k : ℕ) × (m : MemberOfType) × (s.member ≡ i + k)
    × (slice_get ms k ≡ Some m) × (m.kind ≡ s.kind)
unfolding sought
kind_found x i b [] s h = absurd (cc)
kind_found x i b (m ∷ ms) s h = by (m.name == x) h (kind_found x (i + 1) (behind b m) ms s)
  where
    by : (c : Bool) → (if c then Some (record { member = i; before = b; kind = m.kind }) else sought x (i + 1) (behind b m) ms) ≡ Some s
        → (sought x (i + 1) (behind b m) ms ≡ Some s → (k : ℕ) × (n : MemberOfType) × (s.member ≡ i + 1 + k) × (slice_get ms k ≡ Some n) × (n.kind ≡ s.kind))
        → (k : ℕ) × (n : MemberOfType) × (s.member ≡ i + k) × (slice_get (m ∷ ms) k ≡ Some n) × (n.kind ≡ s.kind)
    by true e later =
        let same : ◌≡◌ {A = Sought} (record { member = i; before = b; kind = m.kind }) s = cc in
        (0, m, (let n = ap (λ (z : Sought). z.member) same in omega (arith, n)), refl, ap (λ (z : Sought). z.kind) same)
    by false e later = let z = later e in (suc z.0, z.1, (let n = z.2 in omega (arith, n)), z.3, z.4)

-- the attribute that was found
attribute_is : (f : Field) (o : Option Sought) (b : Option ℕ) → is_attribute (unwrap_or o no_attribute).kind ≡ true
    → (unwrap_or o no_attribute).before ≡ b
    → o ≡ Some (record {
      member = (unwrap_or o no_attribute).member;
      before = b;
      kind = Attribute (unwrap_or (field_in (unwrap_or o no_attribute).kind) f);
    })
attribute_is f None b h e = absurd (cc)
attribute_is f (Some s) b h e = by s.kind refl h
  where
    by : (k : MemberKind) → s.kind ≡ k → is_attribute k ≡ true
        → ◌≡◌ {A = Option Sought} (Some s) (Some (record { member = s.member; before = b; kind = Attribute (unwrap_or (field_in s.kind) f) }))
    by (Attribute z) is h' =
        ap (λ c. Some (record { member = s.member; before = c; kind = s.kind })) e
        ∙ ap (λ k. Some (record { member = s.member; before = b; kind = k })) (is ∙ ap (λ k. Attribute (unwrap_or (field_in k) f)) (sym is))
    by _ is h' = absurd (cc)

module _ (d : Description) (f : Field) (t : ℕ) (ok : is_plain_type d t (layout_of d f t) ≡ true) where
  abbrev y : Layout
  y = layout_of d f t

  each : (j : ℕ) → j ≤ y.last → is_plain_field d t y j ≡ true
  each j low = all_is (is_plain_field d t y) y.last j (both _ _ ok).0 low

  in_order : (j : ℕ) → j ≤ y.last → (is_attribute (found d t j).kind ≡ true) × (same_name (found d t j).before (before y j) ≡ true)
  in_order j low = both _ _ (both (is_in_order y j (found d t j)) _ (each j low)).0

  others : (j : ℕ) → j ≤ y.last → (is_alone (y.field j) ≡ true) × ((nat_lt (y.name j) (2 ^ 32) && is_sized y j (size_at y j)) ≡ true)
  others j low = both _ _ (both (is_in_order y j (found d t j)) _ (each j low)).1

  part_is : (j : ℕ) → j ≤ y.last → sought (y.name j) 0 None (members_of d t) ≡ Some (sought_at y j)
  part_is j low = let a = in_order j low in attribute_is f (sought (y.name j) 0 None (members_of d t)) (before y j) a.0 (name_is _ _ a.1)

  there : (j : ℕ) → j ≤ y.last → (m : MemberOfType) × (slice_get (members_of d t) (y.member j) ≡ Some m) × (m.kind ≡ Attribute (y.field j))
  there j low =
      let k = kind_found (y.name j) 0 None (members_of d t) (sought_at y j) (part_is j low) in
      let same : k.0 ≡ y.member j = (let e = k.2 in omega (arith, e)) in
      (k.1, subst (λ n. slice_get (members_of d t) n ≡ Some k.1) same k.3, k.4)

  read_is : (j : ℕ) → j ≤ y.last → kind_of d (record { type_number = t; member = y.member j }) ≡ Answer (Attribute (y.field j))
  unfolding kind_of
  read_is j low = let m = there j low in ap in_kind m.1 ∙ ap (λ k. Answer k) m.2

  field_there : (j : ℕ) → j ≤ y.last → field_at d t (y.member j) ≡ Some (y.field j)
  unfolding members_of
  field_there j low = let m = there j low in ap (λ o. option_and_then (λ (z : MemberOfType). field_in z.kind) o) m.1 ∙ ap field_in m.2

  before_is : (j k : ℕ) → j ≤ y.last → k ≤ y.last → y.name j ≡ y.name k → before y j ≡ before y k
  before_is j k low few same =
      sym (name_is _ _ (in_order j low).1) ∙ ap (λ x. (unwrap_or (sought x 0 None (members_of d t)) no_attribute).before) same
      ∙ name_is _ _ (in_order k few).1

  distinct_are : (j k : ℕ) → j ≤ y.last → k ≤ y.last → y.name j ≡ y.name k → j ≡ k
  distinct_are zero zero low few same = refl
  distinct_are zero (suc k) low few same = let e : ◌≡◌ {A = Option ℕ} None (Some (y.name k)) = before_is zero (suc k) low few same in absurd (cc)
  distinct_are (suc j) zero low few same = let e : ◌≡◌ {A = Option ℕ} (Some (y.name j)) None = before_is (suc j) zero low few same in absurd (cc)
  distinct_are (suc j) (suc k) low few same = ap suc (distinct_are j k (omega (arith, low)) (omega (arith, few))
      (some_is (y.name j) (y.name k) (before_is (suc j) (suc k) low few same)))

  laid_out : IsLaidOut d t y
  laid_out = record {
    part = part_is;
    read = read_is;
    field = field_there;
    free = λ j low. none_is _ (both _ _ (others j low).0).0;
    once = λ j low. once_is _ (both _ _ (others j low).0).1;
    sized = λ j low. sized_is y j (size_at y j) refl (both _ _ (others j low).1).1;
    named = λ j low. below_is (y.name j) (both _ _ (others j low).1).0;
    distinct = distinct_are;
    ends = name_is _ _ (both _ _ ok).1;
  }

-- ---- lists

module _ (d : Description) (f : Field) (y : Layout) where
  abbrev Is : Type 0
  Is = IsElementOf d f y y.type_number

  by_object : (t : ℕ) (given : Arguments) (b : Bool) → f.choice ≡ Always (contents.Object t given) → f.extent ≡ ByItself
      → is_plain_type d t (layout_of d f t) ≡ b
      → (if b then Some (layout_of d f t) else None) ≡ Some y → Is
  by_object t given true c e ok is = subst (λ z. IsElementOf d f z z.type_number) (some_is (layout_of d f t) y is) (given, c, e, laid_out d f t ok)
  by_object t given false c e ok is = absurd (cc)

  by_content : (c : Content) (x : Extent) → f.choice ≡ Always c → f.extent ≡ x → object_layout d f c x ≡ Some y → Is
  by_content (contents.Object t given) ByItself e h is = by_object t given (is_plain_type d t (layout_of d f t)) e h refl is
  by_content _ x e h is = absurd (cc)

  by_size : (c : Content) (n : ℕ) (b : Bool) → f.choice ≡ Always c → content_size c ≡ Some n → nat_lt 0 n ≡ b → (if b then Some (whole f) else None) ≡ Some y
      → Is
  by_size c n true e h some is = subst (λ z. IsElementOf d f z z.type_number) (some_is (whole f) y is)
      (refl, c, n, e, h, ap choice_size e ∙ h, (grind (arith, nat_tests)))
  by_size c n false e h some is = absurd (cc)

  by_sizes : (c : Content) (o : Option ℕ) → f.choice ≡ Always c → content_size c ≡ o
      → (if is_some o then whole_layout f o else object_layout d f c f.extent) ≡ Some y → Is
  by_sizes c (Some n) e h is = by_size c n (nat_lt 0 n) e h refl is
  by_sizes c None e h is = by_content c f.extent e refl is

  by_choice : (c : Choice) → f.choice ≡ c → content_layout d f c ≡ Some y → Is
  by_choice (Always c) e is = by_sizes c (content_size c) e refl is
  by_choice (Switch on cases) e is = absurd (cc)

pub is_read : (d : Description) (g : lists.List) (y : Layout) → list_layout d g ≡ Some y → IsRead d g y
unfolding field_of
is_read d g y h = by (field_at d g.origin.member.type_number g.origin.member.member) refl h
  where
    by_end : (f : Field) (b : Bool) → in_field (field_at d g.origin.member.type_number g.origin.member.member) ≡ Answer f → repeats f.repeat g.count ≡ b
        → (if b then content_layout d f f.choice else None) ≡ Some y → IsRead d g y
    by_end f true is ends e = record { field = f; is = is; ends = ends; element = by_choice d f y f.choice refl e }
    by_end f false is ends e = absurd (cc)

    by : (o : Option Field) → field_at d g.origin.member.type_number g.origin.member.member ≡ o → field_layout d g o ≡ Some y → IsRead d g y
    by (Some f) is e = by_end f (repeats f.repeat g.count) (ap in_field is) refl e
    by None is e = absurd (cc)
