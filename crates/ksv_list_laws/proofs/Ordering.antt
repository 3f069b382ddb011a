-- What is so of a node where it is so of one that it asks is so of all nodes behind one of which it is so.
use Rattle.std.proofs.Common.{◌*◌}
use Rattle.ksv_list_laws.proofs.Common.{◌≡◌, ℕ, zero, suc, ◌+◌, ◌-◌, ◌<◌, ◌≤◌, nat_lt, Bool, true, false, if◌then◌else◌, List, Option, Some, ◌⊎◌, inl}
use Rattle.ksv_list_laws.proofs.Common.{inr, refl, ap, subst, arith, nat_tests, cases_lt, is_some, Description, Layout, is_named_to, Listing, Which}
use Rattle.ksv_list_laws.proofs.Common.{ElementHead, ElementEnd, Rest, FieldHead, FieldEnd, SizeValue, MissingHead, MissingEnd, IsPlain, IsThere}
use Rattle.ksv_list_laws.proofs.Rising.{Rises, value_there, sized, fields_later, end_rises}
use Rattle.ksv_list_laws.specs.Laws.{is_folded}
use Rattle.ksv_list_laws.specs.Nodes.{element_of, is_in_element, past_value, order_of, IsField, IsUpTo, IsSizedNext}

-- ---- numbers

one_more : (y : Layout) (j : ℕ) → past_value y j ≤ 1
one_more y j = by (nat_lt y.sizer j)
  where
    by : (b : Bool) → (if b then 1 else 0) ≤ 1
    by true = omega arith
    by false = omega arith

none_more : (y : Layout) (j : ℕ) → j ≤ y.sizer → past_value y j ≡ 0
none_more y j le = let no : nat_lt y.sizer j ≡ false = grind (arith, nat_tests) in ap (λ b. if b then 1 else 0) no

past_low : (y : Layout) (j h : ℕ) → j ≤ h → past_value y j ≤ past_value y h
past_low y j h le = by (nat_lt y.sizer j) (nat_lt y.sizer h) (λ e. grind (arith, nat_tests))
  where
    by : (b c : Bool) → (b ≡ true → c ≡ true) → (if b then 1 else 0) ≤ (if c then 1 else 0)
    by true true f = omega arith
    by true false f = absurd (let never : false ≡ true = f refl in cc)
    by false true f = omega arith
    by false false f = omega arith

-- a field's head is before this field's end
head_before : (y : Layout) (j h : ℕ) → 2 * j + 1 + past_value y j ≤ 2 * h + 2 + past_value y h → j ≤ h
head_before y j h le = elim (cases_lt h j) [
  | inl less ↦ (let more = past_low y h j (omega (arith, less)) in omega (arith, less, more, le))
  | inr more ↦ more
]

-- a field's end is before this field's head
end_before : (y : Layout) (j h : ℕ) → 2 * j + 2 + past_value y j ≤ 2 * h + 1 + past_value y h → j < h
end_before y j h le = elim (cases_lt j h) [
  | inl less ↦ less
  | inr more ↦ (let low = past_low y h j more in omega (arith, low, more, le))
]

-- the value is before this field's end
value_before : (y : Layout) (h : ℕ) → 2 * y.sizer + 3 ≤ 2 * h + 2 + past_value y h → y.sizer < h
value_before y h le = elim (cases_lt y.sizer h) [
  | inl less ↦ less
  | inr more ↦ (let none = none_more y h more in omega (arith, none, more, le))
]

module _ (d : Description) (bytes : List ℕ) (x : Listing) (plain : IsPlain d bytes x) (Q : Option Which → Type 0) (rises : Rises bytes x Q) where
  abbrev y : Layout
  y = x.layout

  element_low : (m : Which) → IsThere bytes x m → is_in_element m ≡ true → element_of m < x.count
  element_low (ElementHead i) there e = there
  element_low (ElementEnd i) there e = there
  element_low (Rest i) there e = there.0
  element_low (FieldHead i j) there e = there.0
  element_low (FieldEnd i j) there e = there.0
  element_low (SizeValue i) there e = there.0.0
  element_low (MissingHead k) there e = absurd (cc)
  element_low (MissingEnd k) there e = absurd (cc)

  -- the nodes of an element ask its head
  from_head : (m : Which) → IsThere bytes x m → is_in_element m ≡ true → Q (Some (ElementHead (element_of m))) → Q (Some m)
  from_head (ElementHead i) there e q = q
  from_head (ElementEnd i) there e q = rises (ElementEnd i) there (inl q)
  from_head (Rest i) there e q = absurd (cc)
  from_head (MissingHead k) there e q = absurd (cc)
  from_head (MissingEnd k) there e q = absurd (cc)
  from_head (FieldHead i j) there e q = rises (FieldHead i j) there (inl q)
  from_head (FieldEnd i j) there e q = rises (FieldEnd i j) there (inl (rises (FieldHead i j) there (inl q)))
  from_head (SizeValue i) there e q = rises (SizeValue i) there (inl (rises (FieldHead i x.layout.sizer) there.0 (inl q)))

  -- and the head asks the end of the element before
  from_earlier : (k m : Which) → IsThere bytes x k → IsThere bytes x m → is_in_element k ≡ true → is_in_element m ≡ true → element_of k < element_of m
      → Q (Some k) → Q (Some m)
  from_earlier k m there other e e' less q = from_head m other e' (by (element_of m) less (element_low m other e'))
    where
      by : (i : ℕ) → element_of k < i → i < x.count → Q (Some (ElementHead i))
      by zero lt low = absurd (omega (arith, lt))
      by (suc i) lt low = rises (ElementHead (suc i)) low (inr (inl (end_rises d bytes x plain Q rises k there e i (omega (arith, lt)) (omega (arith, low)) q)))

  field_later : (i j h : ℕ) → IsField x i h → j ≤ h → Q (Some (FieldHead i j)) → Q (Some (FieldHead i h))
  field_later i j h there le q = fields_later d bytes x plain Q rises (h - j) i j h (omega (arith, le)) there q

  -- ---- behind a field's head

  behind_head : (m : Which) → IsThere bytes x m → is_in_element m ≡ true → is_folded m ≡ true → (j : ℕ) → j ≤ y.last → is_some y.type_number ≡ true
      → 2 * j + 1 + past_value y j ≤ order_of y m → Q (Some (FieldHead (element_of m) j)) → Q (Some m)
  behind_head (ElementHead i) there e f j low some le q = absurd (omega (arith, le))
  behind_head (ElementEnd i) there e f j low some le q = end_rises d bytes x plain Q rises (FieldHead i j) (there, low, some) refl i (omega arith) there q
  behind_head (Rest i) there e f j low some le q = absurd (cc)
  behind_head (MissingHead k) there e f j low some le q = absurd (cc)
  behind_head (MissingEnd k) there e f j low some le q = absurd (cc)
  behind_head (FieldHead i h) there e f j low some le q = field_later i j h there (head_before y j h (omega (arith, le))) q
  behind_head (FieldEnd i h) there e f j low some le q = rises (FieldEnd i h) there (inl (field_later i j h there (head_before y j h le) q))
  behind_head (SizeValue i) there e f j low some le q = absurd (cc)

  -- ---- behind a field's end

  next_later : (i j h : ℕ) → IsField x i h → j < h → Q (Some (FieldEnd i j)) → Q (Some (FieldHead i h))
  next_later i j h there less q =
      let low = there.1 in
      field_later i (suc j) h there less (rises (FieldHead i (suc j)) (there.0, omega (arith, less, low), there.2) (inr (inl q)))

  behind_end : (m : Which) → IsThere bytes x m → is_in_element m ≡ true → is_folded m ≡ true → (j : ℕ) → j ≤ y.last → is_some y.type_number ≡ true
      → 2 * j + 2 + past_value y j ≤ order_of y m → Q (Some (FieldEnd (element_of m) j)) → Q (Some m)
  behind_end (ElementHead i) there e f j low some le q = absurd (omega (arith, le))
  behind_end (ElementEnd i) there e f j low some le q = end_rises d bytes x plain Q rises (FieldEnd i j) (there, low, some) refl i (omega arith) there q
  behind_end (Rest i) there e f j low some le q = absurd (cc)
  behind_end (MissingHead k) there e f j low some le q = absurd (cc)
  behind_end (MissingEnd k) there e f j low some le q = absurd (cc)
  behind_end (FieldHead i h) there e f j low some le q = next_later i j h there (end_before y j h le) q
  behind_end (FieldEnd i h) there e f j low some le q = elim (cases_lt j h) [
    | inl less ↦ rises (FieldEnd i h) there (inl (next_later i j h there less q))
    | inr more ↦ (let back = head_before y j h (omega (arith, le)) in let same : j ≡ h = omega (arith, back, more) in
        subst (λ n. Q (Some (FieldEnd i n))) same q)
  ]
  behind_end (SizeValue i) there e f j low some le q = absurd (cc)

  -- ---- behind a value

  sized_later : IsSizedNext y → (i h : ℕ) → IsField x i h → y.sizer < h → Q (Some (SizeValue i)) → Q (Some (FieldHead i h))
  sized_later next i h there less q =
      let low = next.0 in
      field_later i (suc y.sizer) h there less (sized d bytes x plain Q rises i (suc y.sizer) (there.0, low, there.2) next.1 q)

  behind_value : IsSizedNext y → (m : Which) → IsThere bytes x m → is_in_element m ≡ true → is_folded m ≡ true → is_named_to y y.last ≡ true
      → 2 * y.sizer + 3 ≤ order_of y m → Q (Some (SizeValue (element_of m))) → Q (Some m)
  behind_value next (ElementHead i) there e f named le q = absurd (omega (arith, le))
  behind_value next (ElementEnd i) there e f named le q =
      end_rises d bytes x plain Q rises (SizeValue i) (value_there d bytes x plain i there named) refl i (omega arith) there q
  behind_value next (Rest i) there e f named le q = absurd (cc)
  behind_value next (MissingHead k) there e f named le q = absurd (cc)
  behind_value next (MissingEnd k) there e f named le q = absurd (cc)
  behind_value next (FieldHead i h) there e f named le q = sized_later next i h there (value_before y h (omega (arith, le))) q
  behind_value next (FieldEnd i h) there e f named le q = rises (FieldEnd i h) there (inl (sized_later next i h there (value_before y h le) q))
  behind_value next (SizeValue i) there e f named le q = absurd (cc)

  -- ---- an element's end is its last node

  behind_all : (m : Which) → IsThere bytes x m → is_in_element m ≡ true → is_folded m ≡ true → 2 * y.last + 4 ≤ order_of y m
      → Q (Some (ElementEnd (element_of m))) → Q (Some m)
  behind_all (ElementHead i) there e f le q = absurd (omega (arith, le))
  behind_all (ElementEnd i) there e f le q = q
  behind_all (Rest i) there e f le q = absurd (cc)
  behind_all (MissingHead k) there e f le q = absurd (cc)
  behind_all (MissingEnd k) there e f le q = absurd (cc)
  behind_all (FieldHead i h) there e f le q = absurd (let low = there.1 in let one = one_more y h in omega (arith, low, one, le))
  behind_all (FieldEnd i h) there e f le q = absurd (let low = there.1 in let one = one_more y h in omega (arith, low, one, le))
  behind_all (SizeValue i) there e f le q = absurd (cc)

  -- ---- all nodes

  -- the first node is no value, or the field behind it asks it
  abbrev IsAsked : Which → Type 0
  IsAsked k = (is_folded k ≡ true) ⊎ IsSizedNext y

  within : (k m : Which) → IsAsked k → IsThere bytes x k → IsThere bytes x m → is_in_element k ≡ true → is_in_element m ≡ true → is_folded m ≡ true
      → element_of k ≡ element_of m → order_of y k ≤ order_of y m → Q (Some k) → Q (Some m)
  within (ElementHead i) m asked there other e e' f same le q = from_head m other e' (subst (λ n. Q (Some (ElementHead n))) same q)
  within (ElementEnd i) m asked there other e e' f same le q = behind_all m other e' f le (subst (λ n. Q (Some (ElementEnd n))) same q)
  within (Rest i) m asked there other e e' f same le q = absurd (cc)
  within (MissingHead k) m asked there other e e' f same le q = absurd (cc)
  within (MissingEnd k) m asked there other e e' f same le q = absurd (cc)
  within (FieldHead i j) m asked there other e e' f same le q =
      behind_head m other e' f j there.1 there.2 le (subst (λ n. Q (Some (FieldHead n j))) same q)
  within (FieldEnd i j) m asked there other e e' f same le q =
      behind_end m other e' f j there.1 there.2 le (subst (λ n. Q (Some (FieldEnd n j))) same q)
  within (SizeValue i) m (inl never) there other e e' f same le q = absurd (cc)
  within (SizeValue i) m (inr next) there other e e' f same le q =
      behind_value next m other e' f there.1 le (subst (λ n. Q (Some (SizeValue n))) same q)

  pub order_rises : IsSizedNext y → (k m : Which) → IsThere bytes x k → IsThere bytes x m → is_in_element k ≡ true → is_in_element m ≡ true
      → is_folded m ≡ true → IsUpTo x k m → Q (Some k) → Q (Some m)
  order_rises next k m there other e e' f (inl less) q = from_earlier k m there other e e' less q
  order_rises next k m there other e e' f (inr same) q = within k m (inr next) there other e e' f same.0 same.1 q

  -- no value is before its field's head
  folded_before : (k : Which) → order_of y k ≤ 2 * y.sizer + 1 + past_value y y.sizer → is_folded k ≡ true
  folded_before (SizeValue i) le = absurd (let one = one_more y y.sizer in omega (arith, one, le))
  folded_before _ le = refl

  pub value_rises : (k : Which) (i : ℕ) → IsThere bytes x k → IsThere bytes x (SizeValue i) → is_in_element k ≡ true → IsUpTo x k (FieldHead i y.sizer)
      → Q (Some k) → Q (Some (SizeValue i))
  value_rises k i there other e up q = rises (SizeValue i) other (inl (by up))
    where
      by : IsUpTo x k (FieldHead i y.sizer) → Q (Some (FieldHead i y.sizer))
      by (inl less) = from_earlier k (FieldHead i y.sizer) there other.0 e refl less q
      by (inr same) = within k (FieldHead i y.sizer) (inl (folded_before k same.1)) there other.0 e refl refl same.0 same.1 q
