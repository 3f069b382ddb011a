-- What a layout that was found says: of its first field, and of the one that says the sizes of others.
use Rattle.std.proofs.Common.{not}
use Rattle.ksv_nodes.specs.declared.given.List as lists
use Rattle.ksv_list_laws.proofs.Common.{◌≡◌, ◌∙◌, ℕ, zero, suc, ◌<◌, ◌≤◌, Bool, true, false, ◌||◌, Option, Some, None, inl, inr, refl, sym, ap, subst}
use Rattle.ksv_list_laws.proofs.Common.{arith, cases_lt, is_some, unwrap_or, Description, Layout, size_at, is_named_to}
use Rattle.ksv_list_laws.proofs.Plain.{IsNumber, IsLaidOut, IsSized, IsElementOf, IsRead, is_read}
use Rattle.ksv_list_laws.proofs.Truth.{none_is, or_true}
use Rattle.ksv_list_laws.specs.Lists.{list_layout}

-- ---- sizes by name

module _ (y : Layout) where
  -- a field of such a size, up to one
  pub named_field : (k : ℕ) → is_named_to y k ≡ true → (j : ℕ) × (j ≤ k) × (size_at y j ≡ None)
  named_field zero h = (0, omega arith, none_is (size_at y 0) h)
  named_field (suc k) h = by (is_named_to y k) refl h (named_field k)
    where
      by : (b : Bool) → is_named_to y k ≡ b → (b || not (is_some (size_at y (suc k)))) ≡ true
          → (is_named_to y k ≡ true → (j : ℕ) × (j ≤ k) × (size_at y j ≡ None)) → (j : ℕ) × (j ≤ suc k) × (size_at y j ≡ None)
      by true e h' before = let z = before e in (z.0, (let le = z.1 in omega (arith, le)), z.2)
      by false e h' before = (suc k, omega arith, none_is (size_at y (suc k)) h')

  pub named_more : (j k : ℕ) → j ≤ k → is_named_to y j ≡ true → is_named_to y k ≡ true
  named_more j zero le h = let same : j ≡ 0 = omega (arith, le) in ap (is_named_to y) (sym same) ∙ h
  named_more j (suc k) le h = elim (cases_lt k j) [
    | inl less ↦ (let same : j ≡ suc k = omega (arith, le, less) in ap (is_named_to y) (sym same) ∙ h)
    | inr more ↦ ap (λ b. b || not (is_some (size_at y (suc k)))) (named_more j k more h)
  ]

  pub named_here : (j : ℕ) → size_at y j ≡ None → is_named_to y j ≡ true
  named_here zero e = ap (λ o. not (is_some o)) e
  named_here (suc j) e = ap (λ o. is_named_to y j || not (is_some o)) e ∙ or_true (is_named_to y j) true (inr refl)

-- ---- a layout that was found

module _ (d : Description) (g : lists.List) (y : Layout) (found : list_layout d g ≡ Some y) where
  pub read : IsRead d g y
  read = is_read d g y found

  pub laid : is_some y.type_number ≡ true → IsLaidOut d (unwrap_or y.type_number 0) y
  laid some = by y.type_number some (IsRead.element read)
    where
      by : (o : Option ℕ) → is_some o ≡ true → IsElementOf d (IsRead.field read) y o → IsLaidOut d (unwrap_or o 0) y
      by (Some k) h e = e.3
      by None h e = absurd (cc)

  -- the first field takes bytes
  pub first_size : (n : ℕ) × (size_at y 0 ≡ Some n) × (0 < n)
  first_size = by y.type_number (IsRead.element read)
    where
      by_sized : (o : Option ℕ) → size_at y 0 ≡ o → IsSized y 0 o → (n : ℕ) × (size_at y 0 ≡ Some n) × (0 < n)
      by_sized (Some n) e z = (n, e, z.0)
      by_sized None e z = absurd (let never = z.0 in omega (arith, never))

      by : (o : Option ℕ) → IsElementOf d (IsRead.field read) y o → (n : ℕ) × (size_at y 0 ≡ Some n) × (0 < n)
      by (Some k) e = by_sized (size_at y 0) refl (e.3.sized 0 (omega arith))
      by None e = (e.2, e.5, e.6)

  first_fixed : is_named_to y 0 ≡ false
  first_fixed = ap (λ o. not (is_some o)) first_size.1

  -- elements without fields have none
  pub none_named : y.type_number ≡ None → is_named_to y y.last ≡ false
  none_named kind = by (subst (IsElementOf d (IsRead.field read) y) kind (IsRead.element read))
    where
      by : IsElementOf d (IsRead.field read) y None → is_named_to y y.last ≡ false
      by e = ap (is_named_to y) e.0 ∙ first_fixed

  pub named_some : is_named_to y y.last ≡ true → is_some y.type_number ≡ true
  named_some named = by y.type_number refl
    where
      by : (o : Option ℕ) → y.type_number ≡ o → is_some o ≡ true
      by (Some t) e = refl
      by None e = absurd (let never = sym (none_named e) ∙ named in cc)

  -- the field that says them is an integer
  pub sizer_is : is_some y.type_number ≡ true → is_named_to y y.last ≡ true → IsNumber (y.field y.sizer) × (n : ℕ)
      × (size_at y y.sizer ≡ Some n) × (0 < n)
  sizer_is some named =
      let z = named_field y y.last named in
      let by = subst (IsSized y z.0) z.2 ((laid some).sized z.0 z.1) in
      let before = by.0 in
      let le = z.1 in
      let own = own_size (size_at y y.sizer) refl ((laid some).sized y.sizer (omega (arith, before, le))) in (by.2, own.0, own.1, own.2)
    where
      own_size : (o : Option ℕ) → size_at y y.sizer ≡ o → IsSized y y.sizer o → (n : ℕ)
          × (size_at y y.sizer ≡ Some n) × (0 < n)
      own_size (Some n) e z = (n, e, z.0)
      own_size None e z = absurd (let never = z.0 in omega (arith, never))

  pub sizer_low : is_some y.type_number ≡ true → is_named_to y y.last ≡ true → y.sizer ≤ y.last
  sizer_low some named =
      let z = named_field y y.last named in
      let before = (subst (IsSized y z.0) z.2 ((laid some).sized z.0 z.1)).0 in
      let le = z.1 in omega (arith, before, le)
