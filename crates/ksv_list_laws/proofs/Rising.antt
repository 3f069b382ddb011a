-- What is so of a node where it is so of one that it asks: then it is so of a node where it is so of its guard, or where a node makes its use.
use Rattle.std.proofs.Common.{not}
use Rattle.ksv_bytes.specs.declared.uses.Use.TheVariants as uses_are
use Rattle.ksv_list_laws.proofs.Common.{◌≡◌, ℕ, zero, suc, ◌+◌, ◌-◌, ◌<◌, ◌≤◌, nat_le, Bool, true, false, if◌then◌else◌, ◌||◌, List, [], ◌∷◌, Option}
use Rattle.ksv_list_laws.proofs.Common.{Some, None, ◌⊎◌, inl, inr, refl, sym, ap, subst, arith, nat_tests, is_some, Use, Description, size_at}
use Rattle.ksv_list_laws.proofs.Common.{is_named_to, Listing, start, Which, ElementHead, ElementEnd, Rest, FieldHead, FieldEnd, SizeValue, end_uses}
use Rattle.ksv_list_laws.proofs.Common.{size_asked, last_asked, later_asked, asked_by, element_uses, uses_at, prior_guard, guard_of, end_reach}
use Rattle.ksv_list_laws.proofs.Common.{prior_reach, element_reach, reach_of, IsPlain, IsThere, MissingHead, MissingEnd}
use Rattle.ksv_list_laws.proofs.Laid.{named_some, sizer_low}
use Rattle.ksv_list_laws.proofs.Places.{fewer}
use Rattle.ksv_list_laws.proofs.Truth.{none_is}
use Rattle.ksv_list_laws.specs.Nodes.{is_last, element_of, field_guard, is_in_element, IsField, IsMissing}

-- this is so of one of some
abbrev pub AnyOf : {A : Type 0} → (A → Type 0) → List A → Type 0
AnyOf Q [] = ⊥
AnyOf Q (a ∷ xs) = Q a ⊎ AnyOf Q xs

-- of a node where it is so of one that it asks
abbrev pub Rises : List ℕ → Listing → (Option Which → Type 0) → Type 0
Rises bytes x Q = (k : Which) → IsThere bytes x k → AnyOf Q (asked_by x k) → Q (Some k)

module _ (d : Description) (bytes : List ℕ) (x : Listing) (plain : IsPlain d bytes x) where
  -- ---- sizes by name

  abbrev pub IsNamed : Type 0
  IsNamed = is_named_to x.layout x.layout.last ≡ true

  pub value_there : (i : ℕ) → i < x.count → IsNamed → IsThere bytes x (SizeValue i)
  value_there i low named = let some = named_some d x.list x.layout plain.laid named in ((low, sizer_low d x.list x.layout plain.laid some named, some), named)

  module _ (Q : Option Which → Type 0) (rises : Rises bytes x Q) where
    pub head_value : (i : ℕ) → i < x.count → IsNamed → Q (Some (ElementHead i)) → Q (Some (SizeValue i))
    head_value i low named q = let there = value_there i low named in rises (SizeValue i) there (inl (rises (FieldHead i x.layout.sizer) there.0 (inl q)))

    pub sized : (i j : ℕ) → IsField x i j → size_at x.layout j ≡ None → Q (Some (SizeValue i)) → Q (Some (FieldHead i j))
    sized i zero there e q = rises (FieldHead i 0) there (inr (subst (λ o. AnyOf Q (size_asked i o)) (sym e) (inl q)))
    sized i (suc j) there e q = rises (FieldHead i (suc j)) there (inr (inr (subst (λ o. AnyOf Q (size_asked i o)) (sym e) (inl q))))

    next_field : (i j : ℕ) → IsField x i (suc j) → Q (Some (FieldHead i j)) → Q (Some (FieldHead i (suc j)))
    next_field i j there q = let low = there.1 in rises (FieldHead i (suc j)) there
        (inr (inl (rises (FieldEnd i j) (there.0, omega (arith, low), there.2) (inl q))))

    value_field : (i j : ℕ) → IsField x i j → is_named_to x.layout j ≡ true → Q (Some (SizeValue i)) → Q (Some (FieldHead i j))
    value_field i zero there e q = sized i zero there (none_is (size_at x.layout 0) e) q
    value_field i (suc j) there e q = by (is_named_to x.layout j) refl e
        (λ f. (let low = there.1 in value_field i j (there.0, omega (arith, low), there.2) f q))
      where
        by : (b : Bool) → is_named_to x.layout j ≡ b → (b || not (is_some (size_at x.layout (suc j)))) ≡ true
            → (is_named_to x.layout j ≡ true → Q (Some (FieldHead i j))) → Q (Some (FieldHead i (suc j)))
        by true f e' before = next_field i j there (before f)
        by false f e' before = sized i (suc j) there (none_is (size_at x.layout (suc j)) e') q

    -- an object ends with its last field
    last_end : (i : ℕ) → i < x.count → is_some x.layout.type_number ≡ true → Q (Some (FieldHead i x.layout.last)) → Q (Some (ElementEnd i))
    last_end i low some q = by x.layout.type_number refl some
      where
        by : (o : Option ℕ) → x.layout.type_number ≡ o → is_some o ≡ true → Q (Some (ElementEnd i))
        by (Some t) e h = rises (ElementEnd i) low (inr (subst (λ o. AnyOf Q (last_asked o i x.layout.last)) (sym e)
            (inl (rises (FieldEnd i x.layout.last) (low, omega arith, some) (inl q)))))
        by None e h = absurd (cc)

    -- ---- from guards

    end_guard : (i : ℕ) → i < x.count → Q (prior_guard x (suc i)) → Q (Some (ElementEnd i))
    end_guard i low q = by (is_named_to x.layout x.layout.last) refl q
      where
        by : (b : Bool) → is_named_to x.layout x.layout.last ≡ b → Q (if b then Some (SizeValue i) else None) → Q (Some (ElementEnd i))
        by true e q' = let some = named_some d x.list x.layout plain.laid e in last_end i low some (value_field i x.layout.last (low, omega arith, some) e q')
        by false e q' = rises (ElementEnd i) low (inl (rises (ElementHead i) low (inl q')))

    pub head_guard : (i : ℕ) → i < x.count → Q (prior_guard x i) → Q (Some (ElementHead i))
    head_guard zero low q = rises (ElementHead 0) low (inl q)
    head_guard (suc i) low q = rises (ElementHead (suc i)) low (inr (inl (end_guard i (omega (arith, low)) q)))

    field_guarded : (i j : ℕ) → IsField x i j → Q (field_guard x i j) → Q (Some (FieldHead i j))
    field_guarded i j there q = by (is_named_to x.layout j) refl q
      where
        by : (b : Bool) → is_named_to x.layout j ≡ b → Q (if b then Some (SizeValue i) else prior_guard x i) → Q (Some (FieldHead i j))
        by true e q' = value_field i j there e q'
        by false e q' = rises (FieldHead i j) there (inl (head_guard i there.0 q'))

    -- an end is asked by the elements behind it, and the last one by all rests
    pub end_later : (k i m : ℕ) → i + k ≡ m → m < x.count → Q (Some (ElementEnd i)) → Q (Some (ElementEnd m))
    end_later zero i m sum low q = let same : i ≡ m = omega (arith, sum) in subst (λ j. Q (Some (ElementEnd j))) same q
    end_later (suc k) i m sum low q =
        let more : suc i < x.count = omega (arith, sum, low) in
        end_later k (suc i) m (omega (arith, sum)) low (rises (ElementEnd (suc i)) more (inl (rises (ElementHead (suc i)) more (inr (inl q)))))

    rest_later : (i : ℕ) → IsThere bytes x (Rest i) → AnyOf Q (Some (ElementEnd i) ∷ later_asked x.count i) → Q (Some (Rest i))
    rest_later zero there q = rises (Rest 0) there (inr q)
    rest_later (suc i) there q = rises (Rest (suc i)) there q

    rest_end : (k i m : ℕ) → i + k ≡ m → x.count ≡ suc m → is_last bytes x (x.count - 1) ≡ true → Q (Some (ElementEnd m)) → Q (Some (Rest i))
    rest_end zero i m sum counted full q = let same : m ≡ i = omega (arith, sum) in
        rest_later i (omega (arith, sum, counted), full) (inl (subst (λ j. Q (Some (ElementEnd j))) same q))
    rest_end (suc k) i m sum counted full q =
        let more : nat_le x.count (suc i) ≡ false = grind (arith, nat_tests) in
        rest_later i (omega (arith, sum, counted), full) (inr (subst (λ b. AnyOf Q (if b then [] else Some (Rest (suc i)) ∷ [])) (sym more)
        (inl (rest_end k (suc i) m (omega (arith, sum)) counted full q))))

    -- what isn't there asks the last end, by all that is between
    missing_head : (k : ℕ) → IsMissing bytes x k → Q (Some (ElementEnd (x.count - 1))) → Q (Some (MissingHead k))
    missing_head zero there q = rises (MissingHead 0) there (inr (inl q))
    missing_head (suc k) there q = let less = fewer there in
        rises (MissingHead (suc k)) there (inr (inl (rises (MissingEnd k) less (inl (missing_head k less q)))))

    missing_end : (k : ℕ) → IsMissing bytes x k → Q (Some (ElementEnd (x.count - 1))) → Q (Some (MissingEnd k))
    missing_end k there q = rises (MissingEnd k) there (inl (missing_head k there q))

    -- ---- to the ends of elements

    pub fields_later : (k i j m : ℕ) → j + k ≡ m → IsField x i m → Q (Some (FieldHead i j)) → Q (Some (FieldHead i m))
    fields_later zero i j m sum there q = let same : j ≡ m = omega (arith, sum) in subst (λ h. Q (Some (FieldHead i h))) same q
    fields_later (suc k) i j m sum there q =
        let low = there.1 in
        fields_later k i (suc j) m (omega (arith, sum)) there (next_field i j (there.0, omega (arith, sum, low), there.2) q)

    field_end : (i j : ℕ) → IsField x i j → Q (Some (FieldHead i j)) → Q (Some (ElementEnd i))
    field_end i j there q =
        let low = there.1 in
        last_end i there.0 there.2 (fields_later (x.layout.last - j) i j x.layout.last (omega (arith, low)) (there.0, omega arith, there.2) q)

    -- the end of a field is asked by the next one, and that of the last by the element's
    after_field : (i j : ℕ) → IsField x i j → Q (Some (FieldEnd i j)) → Q (Some (ElementEnd i))
    after_field i j there q = by (nat_le (suc j) x.layout.last) refl
      where
        last_field : (o : Option ℕ) → x.layout.type_number ≡ o → is_some o ≡ true → Q (Some (FieldEnd i x.layout.last)) → Q (Some (ElementEnd i))
        last_field (Some t) e h q' = rises (ElementEnd i) there.0 (inr (subst (λ o. AnyOf Q (last_asked o i x.layout.last)) (sym e) (inl q')))
        last_field None e h q' = absurd (cc)

        by : (b : Bool) → nat_le (suc j) x.layout.last ≡ b → Q (Some (ElementEnd i))
        by true e = let more : IsField x i (suc j) = (there.0, grind (arith, nat_tests), there.2) in
            field_end i (suc j) more (rises (FieldHead i (suc j)) more (inr (inl q)))
        by false e =
            let low = there.1 in
            let same : j ≡ x.layout.last = grind (arith, nat_tests) in
            last_field x.layout.type_number refl there.2 (subst (λ h. Q (Some (FieldEnd i h))) same q)

    own_end : (k : Which) → IsThere bytes x k → is_in_element k ≡ true → Q (Some k) → Q (Some (ElementEnd (element_of k)))
    own_end (ElementHead i) there e q = rises (ElementEnd i) there (inl q)
    own_end (ElementEnd i) there e q = q
    own_end (Rest i) there e q = absurd (cc)
    own_end (FieldHead i j) there e q = field_end i j there q
    own_end (FieldEnd i j) there e q = after_field i j there q
    own_end (MissingHead k) there e q = absurd (cc)
    own_end (MissingEnd k) there e q = absurd (cc)
    own_end (SizeValue i) there e q =
        let field = there.0 in
        last_end i field.0 field.2 (value_field i x.layout.last (field.0, omega arith, field.2) there.1 q)

    pub end_rises : (k : Which) → IsThere bytes x k → is_in_element k ≡ true → (m : ℕ) → element_of k ≤ m → m < x.count → Q (Some k) → Q (Some (ElementEnd m))
    end_rises k there e m late low q = end_later (m - element_of k) (element_of k) m (omega (arith, late)) low (own_end k there e q)

    -- the guard of what is behind all elements is that of the last end
    last_guard : 0 < x.count → Q (prior_guard x x.count) → Q (Some (ElementEnd (x.count - 1)))
    last_guard low q =
        let counted : x.count ≡ suc (x.count - 1) = omega (arith, low) in
        end_guard (x.count - 1) (omega (arith, low)) (subst (λ n. Q (prior_guard x n)) counted q)

    pub guard_rises : (k : Which) → IsThere bytes x k → Q (guard_of x k) → Q (Some k)
    guard_rises (ElementHead i) there q = head_guard i there q
    guard_rises (ElementEnd i) there q = end_guard i there q
    guard_rises (Rest i) there q =
        let low = there.0 in
        let counted : x.count ≡ suc (x.count - 1) = omega (arith, low) in
        rest_end (x.count - 1 - i) i (x.count - 1) (omega (arith, low)) counted there.1 (last_guard (omega (arith, low)) q)
    guard_rises (FieldHead i j) there q = field_guarded i j there q
    guard_rises (FieldEnd i j) there q = rises (FieldEnd i j) there (inl (field_guarded i j there q))
    guard_rises (SizeValue i) there q = q
    guard_rises (MissingHead k) there q = missing_head k there (last_guard there.some q)
    guard_rises (MissingEnd k) there q = missing_end k there (last_guard there.some q)

    -- ---- from uses

    module _ (R : Use → Type 0) (makes : (k : Which) → IsThere bytes x k → AnyOf R (uses_at bytes x k) → Q (Some k)) where
      end_reaches : (i : ℕ) → i < x.count → R (end_reach x.list.count bytes x.list.stream.to (start x (suc i))) → Q (Some (ElementEnd i))
      end_reaches i low r = by x.list.count x.list.stream.to r (λ h. makes (ElementEnd i) low h)
        where
          by_type : (o : Option ℕ) → x.layout.type_number ≡ o → R (uses_are.Reach (start x (suc i))) → Q (Some (ElementEnd i))
          by_type None e h = rises (ElementEnd i) low (inl (makes (ElementHead i) low
              (subst (λ o. AnyOf R (element_uses o (start x (suc i)))) (sym e) (inl h))))
          by_type (Some t) e h = let some : is_some x.layout.type_number ≡ true = ap is_some e in
              last_end i low some (makes (FieldHead i x.layout.last) (low, omega arith, some) (inl h))

          by : (c o : Option ℕ) → R (end_reach c bytes o (start x (suc i))) → (AnyOf R (end_uses c bytes o (start x (suc i))) → Q (Some (ElementEnd i)))
              → Q (Some (ElementEnd i))
          by (Some n) o h f = by_type x.layout.type_number refl h
          by None (Some t) h f = by_type x.layout.type_number refl h
          by None None h f = f (inl h)

      prior_reaches : (i : ℕ) → i < x.count → AnyOf R (prior_reach bytes x i) → Q (Some (ElementHead i))
      prior_reaches zero low r = absurd r
      prior_reaches (suc i) low (inl r) = rises (ElementHead (suc i)) low (inr (inl (end_reaches i (omega (arith, low)) r)))
      prior_reaches (suc i) low (inr r) = absurd r

      head_reaches : (i : ℕ) → i < x.count → (o : Option ℕ) → x.layout.type_number ≡ o → AnyOf R (element_reach bytes x o i) → Q (Some (ElementHead i))
      head_reaches i low (Some t) e r = prior_reaches i low r
      head_reaches i low None e r = makes (ElementHead i) low (subst (λ o. AnyOf R (element_uses o (start x (suc i)))) (sym e) r)

      last_reaches : 0 < x.count → AnyOf R (prior_reach bytes x x.count) → Q (Some (ElementEnd (x.count - 1)))
      last_reaches low r =
          let counted : x.count ≡ suc (x.count - 1) = omega (arith, low) in
          by (subst (λ n. AnyOf R (prior_reach bytes x n)) counted r) (omega (arith, low))
        where
          by : AnyOf R (prior_reach bytes x (suc (x.count - 1))) → x.count - 1 < x.count → Q (Some (ElementEnd (x.count - 1)))
          by (inl h) low' = end_reaches (x.count - 1) low' h
          by (inr h) low' = absurd h

      pub reach_rises : (k : Which) → IsThere bytes x k → AnyOf R (reach_of bytes x k) → Q (Some k)
      reach_rises (ElementHead i) there r = head_reaches i there x.layout.type_number refl r
      reach_rises (ElementEnd i) there (inl r) = end_reaches i there r
      reach_rises (ElementEnd i) there (inr r) = absurd r
      reach_rises (Rest i) there r =
          let low = there.0 in
          let counted : x.count ≡ suc (x.count - 1) = omega (arith, low) in
          rest_end (x.count - 1 - i) i (x.count - 1) (omega (arith, low)) counted there.1 (last_reaches (omega (arith, low)) r)
      reach_rises (FieldHead i j) there r = makes (FieldHead i j) there r
      reach_rises (FieldEnd i j) there r = rises (FieldEnd i j) there (inl (makes (FieldHead i j) there r))
      reach_rises (SizeValue i) there r = absurd r
      reach_rises (MissingHead k) there r = missing_head k there (last_reaches there.some r)
      reach_rises (MissingEnd k) there r = missing_end k there (last_reaches there.some r)
