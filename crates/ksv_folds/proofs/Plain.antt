-- What the code found is a plain list's layout.
use Rattle.std.proofs.Common.{◌≡◌, ◌∙◌, ℕ, zero, suc, ◌+◌, ◌-◌, ◌^◌, ◌<◌, nat_lt, Bool, true, false, ◌&&◌, if◌then◌else◌, List, length, Option, Some, None}
use Rattle.std.proofs.Common.{is_some, unwrap_or, below_more, refl, sym, ap, subst, arith}
use Rattle.std.proofs.Common.{◌≤◌}
use Rattle.std.proofs.lemmas.Bool.Decides.{nat_tests}
use Rattle.ksv_desc.specs.Description.{Description, Field, MemberOfType, Attribute, Content, Always, Extent, ByItself, field_at, field_in, fields}
use Rattle.ksv_desc.specs.Description as contents
use Rattle.ksv_nodes.specs.declared.given.List as lists
use Rattle.ksv_rule_meaning.specs.Fields.{members_of, last_attribute, sought}
use Rattle.ksv_rule_meaning.specs.Fields as meant
use Rattle.ksv_list_laws.specs.Lists.{Layout, content_size, choice_size, size_at, before, whole, no_attribute, found, layout_of}
use Rattle.ksv_list_laws.specs.Lists.{same_name, is_sized}
use Rattle.ksv_list_laws.specs.Lists.{is_alone, is_in_order, is_plain_field, all_to, is_plain_type, repeats, object_layout, whole_layout, content_layout}
use Rattle.ksv_list_laws.specs.Lists.{field_layout, list_layout}
use Rattle.ksv_folds.specs.Lemmas.Parts.{name_small}
use Rattle.ksv_folds.specs.Laws.{IsElement}
use Rattle.ksv_folds.specs.Layouts.{IsRead, IsPart, AreParts, name_at, name_before, IsType, AreFields, HasObjects}
use Rattle.ksv_folds.specs.Layouts.{IsContent, HasContent, IsInteger, HasLayout}
use Rattle.ksv_folds.specs.Lemmas.Numbers.{fields_some}
use Rattle.ksv_folds.specs.Sequence.{says_sizes}
use Rattle.ksv_folds.specs.Parts.{part, edge}
use Rattle.ksv_folds.specs.declared.part.Part.{Part}
use Rattle.ksv_folds.specs.declared.plain_list.PlainList.{PlainList}
use Rattle.ksv_folds.proofs.Tests.{both, same_is, all_are}
use Rattle.ksv_folds.proofs.Sized.{number_is, sized_type, sized_element}

-- one more field
pub more_parts : (ms : List MemberOfType) (names : List ℕ) (ps : List Part) (n : ℕ) → AreParts ms names ps n
    → IsPart ms (name_before names n) (name_at names n) (part ps n) (edge ps n)
    → AreParts ms names ps (n + 1)
more_parts ms names ps n h z = below_more (λ f. IsPart ms (name_before names f) (name_at names f) (part ps f) (edge ps f)) n h z

-- ---- types

module _ (p : PlainList) (d : Description) (f : Field) (t : ℕ) (is : IsType d t p.size p.parts.items) where
  abbrev y : Layout
  y = layout_of d f t

  abbrev ps : List Part
  ps = p.parts.items

  last_is : y.last ≡ length ps - 1
  last_is = let e = is.count in omega (arith, e)

  low : (j : ℕ) → j ≤ y.last → j < length ps
  low j le = let e = last_is in let some = is.some in omega (arith, le, e, some)

  abbrev at : (j : ℕ) → j ≤ y.last → IsPart (members_of d t) (name_before (fields d t) j) (name_at (fields d t) j) (part ps j) (edge ps j)
  at j le = is.each j (low j le)

  -- what is found of an attribute
  abbrev seen : (j : ℕ) → j ≤ y.last → meant.Sought
  seen j le = record { member = (part ps j).member; before = name_before (fields d t) j; kind = Attribute (IsPart.field (at j le)) }

  found_is : (j : ℕ) (le : j ≤ y.last) → found d t j ≡ seen j le
  found_is j le = ap (λ o. unwrap_or o no_attribute) (IsPart.found (at j le))

  field_is : (j : ℕ) (le : j ≤ y.last) → y.field j ≡ IsPart.field (at j le)
  field_is j le = ap (λ (s : meant.Sought). unwrap_or (field_in s.kind) f) (found_is j le)

  size_is : (j : ℕ) (le : j ≤ y.last) → size_at y j ≡ Some (IsRead.bytes (IsPart.read (at j le)))
  size_is j le = ap (λ (z : Field). choice_size z.choice) (field_is j le) ∙ IsRead.size (IsPart.read (at j le))

  before_is : (j : ℕ) → same_name (name_before (fields d t) j) (before y j) ≡ true
  before_is zero = refl
  before_is (suc j) = same_is (Some (name_at (fields d t) j))

  sized : (j : ℕ) (le : j ≤ y.last) → is_sized y j (size_at y j) ≡ true
  sized j le = ap (is_sized y j) (size_is j le) ∙ some (IsRead.bytes (IsPart.read (at j le))) (IsRead.some (IsPart.read (at j le)))
    where
      some : (n : ℕ) → 0 < n → nat_lt 0 n ≡ true
      some n h = grind (arith, nat_tests)

  small : (j : ℕ) → j ≤ y.last → nat_lt (y.name j) (2 ^ 32) ≡ true
  small j le =
      let same : (part ps j).name ≡ y.name j = IsPart.named (at j le) in
      subst (λ n. nat_lt n (2 ^ 32) ≡ true) same (less (part ps j).name (name_small p.size ps p.rising j (low j le)))
    where
      less : (n : ℕ) → n < 2 ^ 32 → nat_lt n (2 ^ 32) ≡ true
      less n h = grind (arith, nat_tests)

  plain_field : (j : ℕ) → j ≤ y.last → is_plain_field d t y j ≡ true
  plain_field j le =
      let rest = is_alone (y.field j) && (nat_lt (y.name j) (2 ^ 32) && is_sized y j (size_at y j)) in
      both (is_in_order y j (found d t j)) rest (ap (is_in_order y j) (found_is j le) ∙ before_is j)
      (both (is_alone (y.field j)) (nat_lt (y.name j) (2 ^ 32) && is_sized y j (size_at y j))
      (ap is_alone (field_is j le) ∙ IsRead.alone (IsPart.read (at j le)))
      (both (nat_lt (y.name j) (2 ^ 32)) (is_sized y j (size_at y j)) (small j le) (sized j le)))

  type_is : is_plain_type d t y ≡ true
  type_is = both (all_to (is_plain_field d t y) y.last) (same_name (last_attribute None (members_of d t)) (Some (y.name y.last)))
      (all_are (is_plain_field d t y) y.last plain_field)
      (ap (λ o. same_name o (Some (y.name y.last))) (is.ends ∙ ap (λ n. Some (name_at (fields d t) n)) (sym last_is)) ∙ same_is (Some (y.name y.last)))

  element_is : IsElement y (Some t) false p.size ps
  element_is = (
    let e = last_is in let some = is.some in omega (arith, e, some),
    λ j le. record {
      named = record { name = IsPart.named (at j le); member = sym (ap (λ (s : meant.Sought). s.member) (found_is j le)) };
      bytes = IsRead.bytes (IsPart.read (at j le));
      size = size_is j le;
      edge = IsRead.edge (IsPart.read (at j le));
    },
    is.full,
  )

-- ---- lists

pub has_layout : (p : PlainList) (d : Description) (g : lists.List) (f : Field) → Some f ≡ field_at d g.origin.member.type_number g.origin.member.member
    → repeats f.repeat g.count ≡ true
    → HasContent p d f → HasLayout p d g
has_layout p d g f at ends has = by (content_size has.content) refl has.element
  where
    start : list_layout d g ≡ content_layout d f (Always has.content)
    start = ap (field_layout d g) (sym at) ∙ ap (λ b. if b then content_layout d f f.choice else None) ends ∙ ap (content_layout d f) has.always

    laid : content_size has.content ≡ None → (h : HasObjects p d has.content f.extent) → is_plain_type d h.type_number (layout_of d f h.type_number) ≡ true
        → list_layout d g ≡ Some (layout_of d f h.type_number)
    laid e h plain =
        start ∙ ap (λ o. if is_some o then whole_layout f o else object_layout d f has.content f.extent) e
        ∙ ap (λ c. object_layout d f c f.extent) h.content ∙ ap (object_layout d f (contents.Object h.type_number h.given)) h.extent
        ∙ ap (λ b. if b then Some (layout_of d f h.type_number) else None) plain

    made : (h : HasObjects p d has.content f.extent) → list_layout d g ≡ Some (layout_of d f h.type_number)
        → IsElement (layout_of d f h.type_number) (Some h.type_number) (says_sizes p) p.size p.parts.items
        → (says_sizes p ≡ true → IsInteger ((layout_of d f h.type_number).field (layout_of d f h.type_number).sizer).choice p.format) → HasLayout p d g
    made h laid element number = record {
      layout = layout_of d f h.type_number;
      laid = laid;
      kind = sym h.kind;
      element = subst (λ o. IsElement (layout_of d f h.type_number) o (says_sizes p) p.size p.parts.items) (sym h.kind) element;
      number = number;
    }

    by : (o : Option ℕ) → content_size has.content ≡ o → IsContent p d has.content f.extent o → HasLayout p d g
    by (Some n) e h =
        let size = h.size in
        let some = p.some in
        let positive : nat_lt 0 n ≡ true = grind (arith, nat_tests) in
        record {
          layout = whole f;
          laid = start ∙ ap (λ o. if is_some o then whole_layout f o else object_layout d f has.content f.extent) e
              ∙ ap (λ b. if b then Some (whole f) else None) positive;
          kind = sym h.kind;
          element = subst (λ o. IsElement (whole f) o (says_sizes p) p.size p.parts.items) (sym h.kind)
              (refl, h.parts, ap choice_size has.always ∙ e ∙ ap Some (sym size));
          number = λ e. absurd (let some = (fields_some p e).0 in let none = h.parts in omega (arith, some, none));
        }
    by None e h = objects e h (says_sizes p) refl h.fields
      where
        objects : content_size has.content ≡ None → (h : HasObjects p d has.content f.extent) (b : Bool)
            → says_sizes p ≡ b → AreFields b p d h.type_number → HasLayout p d g
        objects e h false says z =
            made h (laid e h (type_is p d f h.type_number z))
            (subst (λ b. IsElement (layout_of d f h.type_number) (Some h.type_number) b p.size p.parts.items) (sym says) (element_is p d f h.type_number z))
            (λ bad. absurd (let never : true ≡ false = sym bad ∙ says in cc))
        objects e h true says z =
            made h (laid e h (sized_type p d f h.type_number z))
            (subst (λ b. IsElement (layout_of d f h.type_number) (Some h.type_number) b p.size p.parts.items) (sym says) (sized_element p d f h.type_number z))
            (λ same. number_is p d f h.type_number z)
