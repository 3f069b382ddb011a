-- Where elements and fields are, by the numbers of the list.
use Rattle.std.proofs.Common.{not}
use Rattle.std.proofs.Math.Nat.{mul-suc}
use Rattle.ksv_list_laws.proofs.Common.{◌≡◌, ◌∙◌, ℕ, zero, suc, ◌+◌, ◌<◌, ◌≤◌, Bool, true, false, ◌||◌, List, length, Option, Some, None, is_some}
use Rattle.ksv_list_laws.proofs.Common.{unwrap_or, ap, sym, subst, inl, inr, cases_lt}
use Rattle.ksv_list_laws.proofs.Common.{arith, refl}
use Rattle.ksv_list_laws.proofs.Common.{Layout, size_at, is_named_to, Listing, start}
use Rattle.ksv_list_laws.specs.Nodes.{place}
use Rattle.ksv_list_laws.specs.Nodes as nodes
use Rattle.ksv_folds.proofs.Rooms.{start_first, start_up, edge_is, last_edge}
use Rattle.ksv_folds.specs.Laws.{IsNamed, IsField, IsSized, IsElement, Describes}
use Rattle.ksv_folds.specs.Lemmas.Numbers.{fields_some}
use Rattle.ksv_folds.specs.Parts.{Starts, edge, start_in}
use Rattle.ksv_folds.specs.Sequence.{says_sizes, sizer, start_of, edge_in, edge_of}
use Rattle.ksv_folds.specs.declared.part.Part.{Part}
use Rattle.ksv_folds.specs.declared.plain_list.PlainList.{PlainList}

module _ (p : PlainList) (x : Listing) (is : Describes p x) where
  abbrev y : Layout
  y = x.layout

  abbrev ps : List Part
  ps = p.parts.items

  -- ---- the layout

  -- what has a field has a type
  pub fields_are : (f : ℕ) → f < length ps → (t : ℕ) × (p.type_number ≡ Some t) × (y.type_number ≡ Some t) × (length ps ≡ suc y.last) × IsNamed y ps f
  fields_are f few = by p.type_number (says_sizes p) refl is.element
    where
      by : (o : Option ℕ) (b : Bool) → p.type_number ≡ o → IsElement y o b p.size ps
          → (t : ℕ) × (p.type_number ≡ Some t) × (y.type_number ≡ Some t) × (length ps ≡ suc y.last) × IsNamed y ps f
      by None b e h = absurd (let none = h.1 in omega (arith, none, few))
      by (Some t) false e h = let all = h.0 in (t, e, is.kind ∙ e, h.0, IsField.named (h.1 f (omega (arith, all, few))))
      by (Some t) true e h = (
        t,
        e,
        is.kind ∙ e,
        h.count,
        elim (cases_lt f y.last) [
          | inl less ↦ IsField.named (h.each f less)
          | inr more ↦ (
              let all = h.count in let same : y.last ≡ f = omega (arith, more, all, few) in subst (IsNamed y ps) same h.last)
        ],
      )

  pub sized_is : says_sizes p ≡ true → IsSized y ps p.size
  sized_is e = by p.type_number (subst (λ b. IsElement y p.type_number b p.size ps) e is.element)
    where
      by : (o : Option ℕ) → IsElement y o true p.size ps → IsSized y ps p.size
      by None h = absurd (let none = h.1 in let some = (fields_some p e).0 in omega (arith, none, some))
      by (Some t) h = h

  -- the field that says a size is the one before the last
  pub sizer_is : says_sizes p ≡ true → y.sizer ≡ sizer p
  sizer_is e = let z = sized_is e in let all = z.count in let next = z.next in omega (arith, all, next)

  -- every size is known, where elements are of one
  pub sized : says_sizes p ≡ false → (f : ℕ) → f ≤ y.last → (n : ℕ) × (size_at y f ≡ Some n)
  sized e f low = by p.type_number (subst (λ b. IsElement y p.type_number b p.size ps) e is.element)
    where
      by : (o : Option ℕ) → IsElement y o false p.size ps → (n : ℕ) × (size_at y f ≡ Some n)
      by None h = let none = h.0 in let same : f ≡ 0 = omega (arith, none, low) in (p.size, ap (size_at y) same ∙ h.2)
      by (Some t) h = let z = h.1 f low in (z.bytes, z.size)

  unnamed_to : (f : ℕ) → ((g : ℕ) → g ≤ f → (n : ℕ) × (size_at y g ≡ Some n)) → is_named_to y f ≡ false
  unnamed_to zero h = ap (λ o. not (is_some o)) (h zero (omega arith)).1
  unnamed_to (suc f) h =
      ap (λ b. b || not (is_some (size_at y (suc f)))) (unnamed_to f (λ g low. h g (omega (arith, low))))
      ∙ ap (λ o. not (is_some o)) (h (suc f) (omega arith)).1

  pub unnamed : says_sizes p ≡ false → (f : ℕ) → f ≤ y.last → is_named_to y f ≡ false
  unnamed e f low = unnamed_to f (λ g le. sized e g (omega (arith, low, le)))

  pub unnamed_before : says_sizes p ≡ true → (f : ℕ) → f < y.last → is_named_to y f ≡ false
  unnamed_before e f low = unnamed_to f (λ g le. (let z = (sized_is e).each g (omega (arith, low, le)) in (z.bytes, z.size)))

  pub named_last : says_sizes p ≡ true → is_named_to y y.last ≡ true
  named_last e = let z = sized_is e in subst (λ l. size_at y l ≡ None → is_named_to y l ≡ true) z.next (by (is_named_to y y.sizer)) z.unsized
    where
      by : (b : Bool) → size_at y (suc y.sizer) ≡ None → (b || not (is_some (size_at y (suc y.sizer)))) ≡ true
      by true h = refl
      by false h = ap (λ o. not (is_some o)) h

  -- ---- places

  field_up : (n a f : ℕ) → ((g : ℕ) → g < f → IsField y ps g) → nodes.field_start y n a f ≡ a + edge ps f
  field_up n a zero h = omega arith
  field_up n a (suc f) h =
      let z = h f (omega arith) in
      ap (λ b. b + unwrap_or (size_at y f) n) (field_up n a f (λ g low. h g (omega (arith, low)))) ∙ ap (λ o. a + edge ps f + unwrap_or o n) z.size
      ∙ (let e = z.edge in omega (arith, e))

  -- behind an element of one size, and behind one that says a size
  element_up : says_sizes p ≡ false → (n a : ℕ) → nodes.field_start y n a (suc y.last) ≡ a + p.size
  element_up e n a = by p.type_number (subst (λ b. IsElement y p.type_number b p.size ps) e is.element)
    where
      by : (o : Option ℕ) → IsElement y o false p.size ps → nodes.field_start y n a (suc y.last) ≡ a + p.size
      by None h = ap (λ l. nodes.field_start y n a (suc l)) h.0 ∙ ap (λ o. a + unwrap_or o n) h.2
      by (Some t) h =
          let up = field_up n a (suc y.last) (λ g low. h.1 g (omega (arith, low))) in
          let all = ap (edge ps) (h.0) in let size = h.2 in omega (arith, up, all, size)

  sized_up : says_sizes p ≡ true → (n a : ℕ) → nodes.field_start y n a (suc y.last) ≡ a + p.size + n
  sized_up e n a =
      let z = sized_is e in
      let up = field_up n a y.last z.each in
      let full = z.full in
      let said : unwrap_or (size_at y y.last) n ≡ n = ap (λ o. unwrap_or o n) z.unsized in omega (arith, up, full, said)

  plain_start : says_sizes p ≡ false → (i : ℕ) → start_of p (suc i) ≡ start_of p i + p.size
  plain_start e i = by p.starts refl
    where
      by : (o : Starts) → p.starts ≡ o → start_in o p.first p.size (suc i) ≡ start_in o p.first p.size i + p.size
      by None h = let more = mul-suc p.size i in omega (arith, more)
      by (Some s) h = absurd (let bad : false ≡ true = sym e ∙ ap is_some h in cc)

  pub start_is : (i : ℕ) → i ≤ p.most → start x i ≡ start_of p i
  start_is zero low = let e = is.first in let at = start_first p in omega (arith, e, at)
  start_is (suc i) low = by (says_sizes p) refl (start_is i (omega (arith, low)))
    where
      by : (b : Bool) → says_sizes p ≡ b → start x i ≡ start_of p i → start x (suc i) ≡ start_of p (suc i)
      by false h at = let e = element_up h (x.says i) (start x i) in let more = plain_start h i in omega (arith, e, at, more)
      by true h at =
          let e = sized_up h (x.says i) (start x i) in
          let said = is.says h i low in let up = start_up p i low in omega (arith, e, at, said, up)

  pub place_is : (i f : ℕ) → i < p.most → f < length ps → (place x i f ≡ edge_of p i f) × (place x i (suc f) ≡ edge_of p i (suc f))
  place_is i f low few = by (says_sizes p) refl
    where
      s : start x i ≡ start_of p i
      s = start_is i (omega (arith, low))

      plain_fields : says_sizes p ≡ false → (g : ℕ) → g < length ps → IsField y ps g
      plain_fields e g less = of p.type_number (subst (λ b. IsElement y p.type_number b p.size ps) e is.element)
        where
          of : (o : Option ℕ) → IsElement y o false p.size ps → IsField y ps g
          of None h = absurd (let none = h.1 in omega (arith, none, less))
          of (Some t) h = let all = h.0 in h.1 g (omega (arith, all, less))

      ends : says_sizes p ≡ true → place x i (suc f) ≡ edge_of p i (suc f)
      ends e = elim (cases_lt f y.last) [
        | inl less ↦ (
            let all = (sized_is e).count in
            let b = field_up (x.says i) (start x i) (suc f) (λ g le. (sized_is e).each g (omega (arith, le, less))) in
            let c = edge_is p i (suc f) (omega (arith, all, less)) in let at = s in omega (arith, at, b, c))
        | inr more ↦ (
            let all = (sized_is e).count in
            let last : f ≡ y.last = omega (arith, more, all, few) in
            ap (λ g. place x i (suc g)) last ∙ start_is (suc i) low ∙ sym (last_edge p i (suc f) e (omega (arith, last, all))))
      ]

      by : (b : Bool) → says_sizes p ≡ b → (place x i f ≡ edge_of p i f) × (place x i (suc f) ≡ edge_of p i (suc f))
      by false e =
          let at = s in
          let a = field_up (x.says i) (start x i) f (λ g le. plain_fields e g (omega (arith, le, few))) in
          let b = field_up (x.says i) (start x i) (suc f) (λ g le. plain_fields e g (omega (arith, le, few))) in
          let c = ap (λ b. edge_in b p i f) e in
          let c' = ap (λ b. edge_in b p i (suc f)) e in (omega (arith, at, a, c), omega (arith, at, b, c'))
      by true e =
          let at = s in
          let all = (sized_is e).count in
          let a = field_up (x.says i) (start x i) f (λ g le. (sized_is e).each g (omega (arith, le, few, all))) in
          let c = edge_is p i f few in (omega (arith, at, a, c), ends e)
