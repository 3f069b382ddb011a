-- What the code found of a type whose last field has a size that the one before says is a plain layout.
use Rattle.std.proofs.Common.{◌≡◌, ◌∙◌, ℕ, zero, suc, ◌-◌, ◌^◌, ◌<◌, nat_lt, true, ◌&&◌, if◌then◌else◌, List, length, Some, None}
use Rattle.std.proofs.Common.{is_some, unwrap_or, refl, sym, ap, subst, arith}
use Rattle.std.proofs.Common.{◌==◌, ◌≤◌, not, take, inl, inr, [], ◌∷◌}
use Rattle.std.proofs.lemmas.Bool.{cases_lt}
use Rattle.std.proofs.lemmas.Bool.Decides.{nat_tests}
use Rattle.ksv_desc.specs.Description.{Description, Field, MemberOfType, Attribute, field_in, fields}
use Rattle.ksv_rule_meaning.specs.Fields.{members_of, last_attribute, sought}
use Rattle.ksv_rule_meaning.specs.Fields as meant
use Rattle.ksv_list_laws.specs.Lists.{Layout, choice_size, size_name, is_integer, size_at, before, place_of, sizer_of, no_attribute, found, layout_of}
use Rattle.ksv_list_laws.specs.Lists.{same_name, is_sized}
use Rattle.ksv_list_laws.specs.Lists.{is_alone, is_in_order, is_plain_field, all_to, is_plain_type}
use Rattle.ksv_folds.specs.Lemmas.Parts.{name_small}
use Rattle.ksv_folds.specs.Laws.{IsNamed, IsElement}
use Rattle.ksv_folds.specs.Layouts.{IsRead, IsPart, AreParts, name_at, name_before, IsSaidBy, IsLast, IsSizer, IsSizedType}
use Rattle.ksv_folds.specs.Layouts.{IsInteger}
use Rattle.ksv_folds.specs.Sequence.{sizer}
use Rattle.ksv_folds.specs.Parts.{part, edge}
use Rattle.ksv_folds.specs.declared.part.Part.{Part}
use Rattle.ksv_folds.specs.declared.plain_list.PlainList.{PlainList}
use Rattle.ksv_folds.proofs.Tests.{both, same_is, all_are}

-- ---- types whose last field has a size that the one before says

-- the first parts
pub first_parts : (n : ℕ) (ps : List Part) → n ≤ length ps → (f : ℕ) → f < n → part (take n ps) f ≡ part ps f
first_parts zero ps all f low = absurd (omega (arith, low))
first_parts (suc n) [] all f low = absurd (omega (arith, all))
first_parts (suc n) (q ∷ ps) all zero low = refl
first_parts (suc n) (q ∷ ps) all (suc f) low = first_parts n ps (omega (arith, all)) f (omega (arith, low))

pub first_edges : (n : ℕ) (ps : List Part) → n ≤ length ps → (f : ℕ) → f ≤ n → edge (take n ps) f ≡ edge ps f
first_edges n ps all zero low = refl
first_edges n ps all (suc f) low = ap (λ (q : Part). q.to) (first_parts n ps all f low)

pub parts_of_first : (ms : List MemberOfType) (names : List ℕ) (n : ℕ) (ps : List Part)
    → n ≤ length ps → AreParts ms names (take n ps) n → AreParts ms names ps n
parts_of_first ms names n ps all h f low =
    subst (λ q. IsPart ms (name_before names f) (name_at names f) q (edge ps f)) (first_parts n ps all f low)
    (subst (λ e. IsPart ms (name_before names f) (name_at names f) (part (take n ps) f) e) (first_edges n ps all f (omega (arith, low))) (h f low))

place_found : (name : ℕ → ℕ) (j : ℕ) → place_of name (name j) j ≡ j
place_found name zero = refl
place_found name (suc j) =
    let so : (name (suc j) == name (suc j)) ≡ true = grind (arith, nat_tests) in ap (λ b. if b then suc j else place_of name (name (suc j)) j) so

module _ (p : PlainList) (d : Description) (f : Field) (t : ℕ) (is : IsSizedType p d t) where
  abbrev y : Layout
  y = layout_of d f t

  abbrev ps : List Part
  ps = p.parts.items

  -- the last field, and the one before
  k : ℕ
  k = sizer p

  last_is : y.last ≡ suc (sizer p)
  last_is = let e = is.count in let some = is.some in omega (arith, e, some)

  end_is : length ps - 1 ≡ suc (sizer p)
  end_is = let some = is.some in omega (arith, some)

  at : (j : ℕ) → j < suc (sizer p) → IsPart (members_of d t) (name_before (fields d t) j) (name_at (fields d t) j) (part ps j) (edge ps j)
  at j le = let some = is.some in is.each j (omega (arith, le, some))

  part_found : (j : ℕ) (le : j < suc (sizer p))
      → found d t j ≡ record { member = (part ps j).member; before = name_before (fields d t) j; kind = Attribute (IsPart.field (at j le)) }
  part_found j le = ap (λ o. unwrap_or o no_attribute) (IsPart.found (at j le))

  part_field : (j : ℕ) (le : j < suc (sizer p)) → y.field j ≡ IsPart.field (at j le)
  part_field j le = ap (λ (s : meant.Sought). unwrap_or (field_in s.kind) f) (part_found j le)

  part_size : (j : ℕ) (le : j < suc (sizer p)) → size_at y j ≡ Some (IsRead.bytes (IsPart.read (at j le)))
  part_size j le = ap (λ (z : Field). choice_size z.choice) (part_field j le) ∙ IsRead.size (IsPart.read (at j le))

  abbrev final : IsLast (members_of d t) (Some (name_at (fields d t) (sizer p))) (name_at (fields d t) (length ps - 1)) (part ps (length ps - 1))
      (name_at (fields d t) (sizer p))
  final = is.last

  last_found : found d t (suc (sizer p))
      ≡ record { member = (part ps (length ps - 1)).member; before = Some (name_at (fields d t) (sizer p)); kind = Attribute (IsLast.field is.last) }
  last_found = ap (λ j. found d t j) (sym end_is) ∙ ap (λ o. unwrap_or o no_attribute) (IsLast.found is.last)

  last_field : y.field (suc (sizer p)) ≡ IsLast.field is.last
  last_field = ap (λ (s : meant.Sought). unwrap_or (field_in s.kind) f) last_found

  last_size : size_at y (suc (sizer p)) ≡ None
  last_size = ap (λ (z : Field). choice_size z.choice) last_field ∙ ap choice_size (IsSaidBy.content (IsLast.read is.last))

  last_name : size_name (y.field (suc (sizer p))).choice (y.field (suc (sizer p))).extent ≡ Some (name_at (fields d t) (sizer p))
  last_name =
      ap (λ (z : Field). size_name z.choice z.extent) last_field ∙ ap (λ c. size_name c (IsLast.field is.last).extent) (IsSaidBy.content (IsLast.read is.last))
      ∙ IsSaidBy.named (IsLast.read is.last)

  -- so the layout's sizer is the one before the last
  sizer_is : y.sizer ≡ sizer p
  sizer_is =
      ap (sizer_of y.name y.field) last_is
      ∙ ap (λ o. elim o [
        | None ↦ sizer_of y.name y.field (sizer p)
        | Some x ↦ place_of y.name x (sizer p)
      ]) last_name ∙ place_found y.name (sizer p)

  -- the integer
  sizer_found : found d t (sizer p) ≡ record { member = IsSizer.member is.says; before = IsSizer.before is.says; kind = Attribute (IsSizer.field is.says) }
  sizer_found = ap (λ o. unwrap_or o no_attribute) (IsSizer.found is.says)

  sizer_field : y.field (sizer p) ≡ IsSizer.field is.says
  sizer_field = ap (λ (s : meant.Sought). unwrap_or (field_in s.kind) f) sizer_found

  pub number_is : IsInteger (y.field y.sizer).choice p.format
  number_is = record {
    bytes = IsSizer.bytes is.says;
    number = ap (λ j. (y.field j).choice) sizer_is ∙ ap (λ (z : Field). z.choice) sizer_field ∙ IsSizer.number is.says;
  }

  -- ---- plain

  sized_before : (j : ℕ) (z : j < suc (sizer p)) → is_sized y j (size_at y j) ≡ true
  sized_before j le = ap (is_sized y j) (part_size j le) ∙ some (IsRead.bytes (IsPart.read (at j le))) (IsRead.some (IsPart.read (at j le)))
    where
      some : (n : ℕ) → 0 < n → nat_lt 0 n ≡ true
      some n h = grind (arith, nat_tests)

  before_same : (j : ℕ) → same_name (name_before (fields d t) j) (before y j) ≡ true
  before_same zero = refl
  before_same (suc j) = same_is (Some (name_at (fields d t) j))

  small : (j : ℕ) (q : Part) → q.name ≡ y.name j → q.name < 2 ^ 32 → nat_lt (y.name j) (2 ^ 32) ≡ true
  small j q same low = subst (λ n. nat_lt n (2 ^ 32) ≡ true) same (less q.name low)
    where
      less : (n : ℕ) → n < 2 ^ 32 → nat_lt n (2 ^ 32) ≡ true
      less n h = grind (arith, nat_tests)

  all_of : (j : ℕ) → is_in_order y j (found d t j) ≡ true → is_alone (y.field j) ≡ true → nat_lt (y.name j) (2 ^ 32) ≡ true
      → is_sized y j (size_at y j) ≡ true → is_plain_field d t y j ≡ true
  all_of j a b c e =
      both (is_in_order y j (found d t j)) (is_alone (y.field j) && (nat_lt (y.name j) (2 ^ 32) && is_sized y j (size_at y j))) a
      (both (is_alone (y.field j)) (nat_lt (y.name j) (2 ^ 32) && is_sized y j (size_at y j)) b
      (both (nat_lt (y.name j) (2 ^ 32)) (is_sized y j (size_at y j)) c e))

  plain_part : (j : ℕ) → j < suc (sizer p) → is_plain_field d t y j ≡ true
  plain_part j le =
      let some = is.some in
      all_of j (ap (is_in_order y j) (part_found j le) ∙ before_same j) (ap is_alone (part_field j le) ∙ IsRead.alone (IsPart.read (at j le)))
      (small j (part ps j) (IsPart.named (at j le)) (name_small p.size ps p.rising j (omega (arith, le, some)))) (sized_before j le)

  sized_last : is_sized y (suc (sizer p)) (size_at y (suc (sizer p))) ≡ true
  sized_last =
      ap (is_sized y (suc (sizer p))) last_size
      ∙ both (nat_lt y.sizer (suc (sizer p)))
      (same_name (size_name (y.field (suc (sizer p))).choice (y.field (suc (sizer p))).extent) (Some (y.name y.sizer)) &&
      (is_integer (y.field y.sizer).choice && not (is_some (y.field y.sizer).valid)))
      (less y.sizer sizer_is)
      (both (same_name (size_name (y.field (suc (sizer p))).choice (y.field (suc (sizer p))).extent) (Some (y.name y.sizer)))
      (is_integer (y.field y.sizer).choice && not (is_some (y.field y.sizer).valid))
      (ap (λ o. same_name o (Some (y.name y.sizer))) last_name ∙ ap (λ j. same_name (Some (name_at (fields d t) (sizer p))) (Some (y.name j))) sizer_is
      ∙ same_is (Some (name_at (fields d t) (sizer p))))
      (both (is_integer (y.field y.sizer).choice) (not (is_some (y.field y.sizer).valid)) (ap is_integer (IsInteger.number number_is))
      (ap (λ j. not (is_some (y.field j).valid)) sizer_is ∙ ap (λ (z : Field). not (is_some z.valid)) sizer_field
      ∙ ap (λ o. not (is_some o)) (IsSizer.valid is.says))))
    where
      less : (n : ℕ) → n ≡ sizer p → nat_lt n (suc (sizer p)) ≡ true
      less n e = grind (arith, nat_tests)

  last_plain : is_plain_field d t y (suc (sizer p)) ≡ true
  last_plain =
      let some = is.some in
      let named = IsLast.named is.last ∙ ap (name_at (fields d t)) end_is in
      all_of (suc (sizer p)) (ap (is_in_order y (suc (sizer p))) last_found ∙ same_is (Some (name_at (fields d t) (sizer p))))
      (ap is_alone last_field ∙ IsSaidBy.alone (IsLast.read is.last))
      (small (suc (sizer p)) (part ps (length ps - 1)) named (name_small p.size ps p.rising (length ps - 1) (omega (arith, some)))) sized_last

  each_plain : (j : ℕ) → j ≤ y.last → is_plain_field d t y j ≡ true
  each_plain j le = elim (cases_lt j (suc (sizer p))) [
    | inl less ↦ plain_part j less
    | inr more ↦ (
        let e = last_is in let same : suc (sizer p) ≡ j = omega (arith, more, le, e) in subst (λ i. is_plain_field d t y i ≡ true) same last_plain)
  ]

  pub sized_type : is_plain_type d t y ≡ true
  sized_type = both (all_to (is_plain_field d t y) y.last) (same_name (last_attribute None (members_of d t)) (Some (y.name y.last)))
      (all_are (is_plain_field d t y) y.last each_plain)
      (ap (λ o. same_name o (Some (y.name y.last))) (is.ends ∙ ap (λ n. Some (name_at (fields d t) n)) (end_is ∙ sym last_is)) ∙ same_is (Some (y.name y.last)))

  pub sized_element : IsElement y (Some t) true p.size ps
  sized_element =
      let e = last_is in
      let some = is.some in
      record {
        count = omega (arith, e, some);
        next = (let same = sizer_is in omega (arith, same, e));
        each = λ j le. (let low : j < suc (sizer p) = omega (arith, le, e) in record {
          named = record { name = IsPart.named (at j low); member = sym (ap (λ (s : meant.Sought). s.member) (part_found j low)) };
          bytes = IsRead.bytes (IsPart.read (at j low));
          size = part_size j low;
          edge = IsRead.edge (IsPart.read (at j low));
        });
        last = subst (IsNamed y ps) (end_is ∙ sym last_is) (record {
          name = IsLast.named is.last;
          member = sym (ap (λ (s : meant.Sought). s.member) (ap (λ j. found d t j) end_is ∙ last_found));
        });
        unsized = ap (size_at y) last_is ∙ last_size;
        full = ap (edge ps) (last_is ∙ sym end_is) ∙ is.full;
      }
