-- What the nodes of a plain list ask, by their numbers: the list, or earlier ones, and among them the one before.
use Rattle.std.proofs.Common.{◌==◌, ◌≢◌, ◌≤◌, nat_le, Bool, true, false, if◌then◌else◌}
use Rattle.std.proofs.lemmas.Bool.Decides.{nat_tests}
use Rattle.std.proofs.Math.Nat.{mul-zero}
use Rattle.ksv_list_laws.proofs.Common.{◌≡◌, ◌∙◌, ℕ, zero, suc, ◌+◌, ◌-◌, ◌<◌, List, [], ◌∷◌, length, Option, Some, None, refl, sym, ap, subst, arith}
use Rattle.ksv_list_laws.proofs.Common.{inl, inr, ◌⊎◌, AllByRecursion, Description, Listing, Which, asked_by, node_at, nodes_of, IsPlain, with_first, size_at}
use Rattle.ksv_list_laws.proofs.Rising.{AnyOf}
use Rattle.ksv_list_laws.specs.Nodes as nodes
use Rattle.ksv_folds.specs.Lemmas.Numbers.{either, fields_some, prior_by, prior_in, index_low, head_number, head_first, next_end, next_field, before_end}
use Rattle.ksv_folds.specs.Lemmas.Numbers.{head_end}
use Rattle.ksv_folds.specs.Lemmas.Numbers.{end_head, value_number, last_number}
use Rattle.ksv_folds.specs.Lemmas.Spots as spots
use Rattle.ksv_folds.specs.Lemmas.Values as values
use Rattle.ksv_folds.proofs.Laid.{fields_are, sized_is, sizer_is, sized}
use Rattle.ksv_folds.proofs.Told.{which, which_of, IsTold, IsOne, IsKnown, found}
use Rattle.ksv_folds.specs.Laws.{IsField, IsElement, Describes}
use Rattle.ksv_folds.specs.Sequence.{says_sizes, sizer, index_of, number_of, asked_before, last_asked, size_asked, asks_of, rest_asks, asks_in, spot_whole}
use Rattle.ksv_folds.specs.Sequence.{whole_in}
use Rattle.ksv_folds.specs.declared.part.Part.{Part}
use Rattle.ksv_folds.specs.declared.plain_list.PlainList.{PlainList}
use Rattle.ksv_folds.specs.declared.spot.Numbered.{Numbered}
use Rattle.ksv_folds.specs.declared.spot.Numbered.TheVariants.{Of, Rest, MissingHead, MissingEnd}
use Rattle.ksv_folds.specs.declared.spot.Spot.{Spot}
use Rattle.ksv_folds.specs.declared.spot.Spot.TheVariants.{ElementHead, ElementEnd, FieldHead, FieldEnd, Value}

module _ (p : PlainList) (d : Description) (bytes : List ℕ) (x : Listing) (plain : IsPlain d bytes x) (is : Describes p x) (m : ℕ) (told : IsTold p bytes x m)
  where
    abbrev One : Spot → Type 0
    One s = IsOne p d bytes x plain is m told s

    abbrev Known : Numbered → Type 0
    Known s = IsKnown p d bytes x plain is m told s

    abbrev ps : List Part
    ps = p.parts.items

    -- an earlier node, or the list
    abbrev pub IsEarlier : ℕ → Option Which → Type 0
    IsEarlier n None = Unit {0}
    IsEarlier n (Some k) = (s : Numbered) × (which_of s ≡ k) × Known s × (number_of p s < n)

    -- ---- the sizes of fields

    -- a field's size is known, or it is the last one, and the value says it
    abbrev IsSaid : ℕ → Type 0
    IsSaid f = (says_sizes p ≡ true) × (suc f ≡ length ps) × (size_at x.layout f ≡ None) × (size_asked (says_sizes p) (length ps) f ≡ 1)

    abbrev HasSize : ℕ → Type 0
    HasSize f = (n : ℕ) × (size_at x.layout f ≡ Some n) × (size_asked (says_sizes p) (length ps) f ≡ 0)

    said_or_known : (f : ℕ) → f < length ps → HasSize f ⊎ IsSaid f
    said_or_known f few = by (says_sizes p) refl
      where
        k : ℕ
        k = length ps

        last : says_sizes p ≡ true → (b : Bool) → (suc f == length ps) ≡ b → HasSize f ⊎ IsSaid f
        last e true h =
            let z = sized_is p x is e in
            let all = z.count in
            let end : suc f ≡ length ps = grind (arith, nat_tests) in
            let same : f ≡ x.layout.last = omega (arith, all, end) in
            inr (e, end, ap (size_at x.layout) same ∙ z.unsized, ap (λ b. size_asked b (length ps) f) e ∙ ap (λ b. if b then 1 else 0) h)
        last e false h =
            let z = sized_is p x is e in
            let all = z.count in
            let other : suc f ≢ length ps = grind (arith, nat_tests) in
            let one = z.each f (omega (arith, all, other, few)) in
            inl (IsField.bytes one, IsField.size one, ap (λ b. size_asked b (length ps) f) e ∙ ap (λ b. if b then 1 else 0) h)

        by : (b : Bool) → says_sizes p ≡ b → HasSize f ⊎ IsSaid f
        by false e =
            let all = (fields_are p x is f few).3 in
            let z = sized p x is e f (omega (arith, few, all)) in inl (z.0, z.1, ap (λ b. size_asked b (length ps) f) e)
        by true e = last e (suc f == length ps) refl

    -- ---- earlier ones

    last_earlier : (i : ℕ) → i < m → length ps ≡ suc x.layout.last
        → AllByRecursion (IsEarlier (index_of p (ElementEnd i))) (Some (nodes.FieldEnd i x.layout.last) ∷ (None ∷ []))
    last_earlier i low all =
        let last : x.layout.last < length ps = omega (arith, all) in
        ((Of (FieldEnd i x.layout.last), refl, (low, last), before_end p i x.layout.last last), (tt, tt))

    size_earlier : (i f : ℕ) → i < m → f < length ps → AllByRecursion (IsEarlier (index_of p (FieldHead i f))) (nodes.size_asked i (size_at x.layout f))
    size_earlier i f low few = elim (said_or_known f few) [
      | inl z ↦ known z
      | inr z ↦ said z
    ]
      where
        known : HasSize f → AllByRecursion (IsEarlier (index_of p (FieldHead i f))) (nodes.size_asked i (size_at x.layout f))
        known z = subst (λ o. AllByRecursion (IsEarlier (index_of p (FieldHead i f))) (nodes.size_asked i o)) (sym z.1) tt

        said : IsSaid f → AllByRecursion (IsEarlier (index_of p (FieldHead i f))) (nodes.size_asked i (size_at x.layout f))
        said z =
            let next = last_number p i f z.0 z.1 in
            subst (λ o. AllByRecursion (IsEarlier (index_of p (FieldHead i f))) (nodes.size_asked i o)) (sym z.2)
            ((Of (Value i), refl, (low, z.0), omega (arith, next)), tt)

    prior_earlier : (i f : ℕ) (ks : List (Option Which)) → i < m → f < length ps → AllByRecursion (IsEarlier (index_of p (FieldHead i f))) ks
        → AllByRecursion (IsEarlier (index_of p (FieldHead i f))) (nodes.prior_field i f ks)
    prior_earlier i zero ks low few h = h
    prior_earlier i (suc f) ks low few h = ((Of (FieldEnd i f), refl, (low, omega (arith, few)), next_field p i f few), h)

    last_field : (i : ℕ) → i < m → (o : Option ℕ) (b : Bool) → IsElement x.layout o b p.size ps
        → AllByRecursion (IsEarlier (index_of p (ElementEnd i))) (nodes.last_asked o i x.layout.last)
    last_field i low None b h = (tt, tt)
    last_field i low (Some t) false h = last_earlier i low h.0
    last_field i low (Some t) true h = last_earlier i low h.count

    spot_earlier : (s : Spot) → One s → AllByRecursion (IsEarlier (index_of p s)) (asked_by x (which s))
    spot_earlier (ElementHead zero) low = (tt, tt)
    spot_earlier (ElementHead (suc i)) low =
        let less = end_head p i in (tt, ((Of (ElementEnd i), refl, omega (arith, low), omega (arith, less)), tt))
    spot_earlier (ElementEnd i) low = (
      (Of (ElementHead i), refl, low, head_end p i),
      subst (λ o. AllByRecursion (IsEarlier (index_of p (ElementEnd i))) (nodes.last_asked o i x.layout.last)) (sym is.kind)
          (last_field i low p.type_number (says_sizes p) is.element),
    )
    spot_earlier (FieldHead i f) low = (
      (Of (ElementHead i), refl, low.0, head_first p i f),
      prior_earlier i f (nodes.size_asked i (size_at x.layout f)) low.0 low.1 (size_earlier i f low.0 low.1),
    )
    spot_earlier (FieldEnd i f) low = ((Of (FieldHead i f), refl, low, next_end p i f), tt)
    spot_earlier (Value i) low =
        let few = (fields_some p low.1).0 in
        let next = value_number p i low.1 in (
          (
            Of (FieldHead i (sizer p)),
            ap (nodes.FieldHead i) (sym (sizer_is p x is low.1)),
            (low.0, omega (arith, few)),
            omega (arith, next),
          ),
          tt,
        )

    -- a rest asks the end of its element, and the next rest
    next_earlier : (i : ℕ) → Known (Rest i) → AllByRecursion (IsEarlier (number_of p (Rest i))) (nodes.later_asked x.count i)
    next_earlier i low = by (nat_le x.count (suc i)) refl
      where
        by : (b : Bool) → nat_le x.count (suc i) ≡ b
            → AllByRecursion (IsEarlier (number_of p (Rest i))) (if b then [] else Some (nodes.Rest (suc i)) ∷ [])
        by true e = tt
        by false e =
            let more : suc i < x.count = grind (arith, nat_tests) in
            let all = (low.2).all in
            ((Rest (suc i), refl, ((low.0.0, low.0.1, omega (arith, more, all)), low.1, low.2), omega (arith, more, all)), tt)

    end_earlier : (i : ℕ) → Known (Rest i) → IsEarlier (number_of p (Rest i)) (Some (nodes.ElementEnd i))
    end_earlier i low =
        let some = low.0.2 in
        let full = low.1 in
        let less = index_low p p.most (ElementEnd i) some in
        (Of (ElementEnd i), refl, omega (arith, some, full), omega (arith, less))

    rest_earlier : (i : ℕ) → Known (Rest i) → AllByRecursion (IsEarlier (number_of p (Rest i))) (asked_by x (nodes.Rest i))
    rest_earlier zero low = (tt, (end_earlier zero low, next_earlier zero low))
    rest_earlier (suc i) low = (end_earlier (suc i) low, next_earlier (suc i) low)

    -- of an element that isn't there the head asks the end of the one before
    missing_earlier : (k : ℕ) → Known (MissingHead k) → AllByRecursion (IsEarlier (number_of p (MissingHead k))) (asked_by x (nodes.MissingHead k))
    missing_earlier zero low =
        let all = (low.2).all in
        let full = low.1 in
        let any = p.any in
        let less = index_low p p.most (ElementEnd (x.count - 1)) (omega (arith, all, any)) in
        (tt, ((Of (ElementEnd (x.count - 1)), refl, omega (arith, all, full, any), omega (arith, less)), tt))
    missing_earlier (suc k) low =
        let few = low.0.2 in (tt, ((MissingEnd k, refl, ((low.0.0, low.0.1, omega (arith, few)), low.1, low.2), omega arith), tt))

    pub asked_earlier : (s : Numbered) → Known s → AllByRecursion (IsEarlier (number_of p s)) (asked_by x (which_of s))
    asked_earlier (Of s) low = spot_earlier s low
    asked_earlier (Rest i) low = rest_earlier i low
    asked_earlier (MissingHead k) low = missing_earlier k low
    asked_earlier (MissingEnd k) low = ((MissingHead k, refl, low, omega arith), tt)

    -- ---- how many

    all_found : (n : ℕ) (ks : List (Option Which)) → AllByRecursion (IsEarlier n) ks → length (nodes_of x ks) ≡ length ks
    all_found n [] h = refl
    all_found n (None ∷ ks) h = ap suc (all_found n ks h.1)
    all_found n (Some k ∷ ks) h =
        let there = h.0.1 in
        ap (λ o. length (with_first o (nodes_of x ks))) (ap (node_at x) (sym h.0.1) ∙ found p d bytes x plain is m told h.0.0 h.0.2)
        ∙ ap suc (all_found n ks h.1)

    spot_count : (s : Spot) → One s → length (asked_by x (which s)) ≡ asks_of p s
    spot_count (ElementHead zero) low = refl
    spot_count (ElementHead (suc i)) low = refl
    spot_count (ElementEnd i) low = ap (λ o. suc (length (nodes.last_asked o i x.layout.last))) is.kind ∙ by p.type_number (says_sizes p) ps is.element refl
      where
        by : (o : Option ℕ) (b : Bool) (qs : List Part) → IsElement x.layout o b p.size ps → ps ≡ qs
            → suc (length (nodes.last_asked o i x.layout.last)) ≡ 1 + last_asked qs
        by None b [] h e = refl
        by None b (q ∷ qs) h e = absurd (let none = h.1 in let some = ap length e in omega (arith, none, some))
        by (Some t) false [] h e = absurd (let none = h.0 in let some = ap length e in omega (arith, none, some))
        by (Some t) true [] h e = absurd (let none = h.count in let some = ap length e in omega (arith, none, some))
        by (Some t) b (q ∷ qs) h e = refl
    spot_count (FieldHead i f) low = elim (said_or_known f low.1) [
      | inl z ↦ known z
      | inr z ↦ said z
    ]
      where
        by : (g : ℕ) (ks : List (Option Which)) → suc (length (nodes.prior_field i g ks)) ≡ 1 + asked_before g + length ks
        by zero ks = omega arith
        by (suc g) ks = omega arith

        known : HasSize f → length (asked_by x (nodes.FieldHead i f)) ≡ asks_of p (FieldHead i f)
        known z =
            ap (λ o. suc (length (nodes.prior_field i f (nodes.size_asked i o)))) z.1 ∙ by f [] ∙ ap (λ n. 1 + asked_before f + n) (sym z.2)

        said : IsSaid f → length (asked_by x (nodes.FieldHead i f)) ≡ asks_of p (FieldHead i f)
        said z =
            ap (λ o. suc (length (nodes.prior_field i f (nodes.size_asked i o)))) z.2 ∙ by f (Some (nodes.SizeValue i) ∷ [])
            ∙ ap (λ n. 1 + asked_before f + n) (sym z.3)
    spot_count (FieldEnd i f) low = refl
    spot_count (Value i) low = refl

    later_count : (i : ℕ) → Known (Rest i) → length (nodes.later_asked x.count i) ≡ (if i + 1 == p.most then 0 else 1)
    later_count i low = by (nat_le x.count (suc i)) refl (i + 1 == p.most) refl
      where
        by : (a : Bool) → nat_le x.count (suc i) ≡ a → (b : Bool) → (i + 1 == p.most) ≡ b
            → length (if a then [] else Some (nodes.Rest (suc i)) ∷ []) ≡ (if b then 0 else 1)
        by true e true f = refl
        by false e false f = refl
        by true e false f =
            absurd (let le : x.count ≤ suc i = grind (arith, nat_tests) in let other : i + 1 ≢ p.most = grind (arith, nat_tests) in
            let all = (low.2).all in let some = low.0.2 in omega (arith, le, other, all, some))
        by false e true f =
            absurd (let less : suc i < x.count = grind (arith, nat_tests) in let same : i + 1 ≡ p.most = grind (arith, nat_tests) in
            let all = (low.2).all in omega (arith, less, same, all))

    rest_count : (i : ℕ) → Known (Rest i) → length (asked_by x (nodes.Rest i)) ≡ rest_asks p.most i
    rest_count zero low = let e = later_count zero low in omega (arith, e)
    rest_count (suc i) low =
        let e = later_count (suc i) low in
        let so : (suc i == 0) ≡ false = grind (arith, nat_tests) in
        let none : ◌≡◌ {A = ℕ} (if suc i == 0 then 1 else 0) 0 = ap (λ b. if b then 1 else 0) so in omega (arith, e, none)

    count_is : (s : Numbered) → Known s → length (asked_by x (which_of s)) ≡ asks_in p s
    count_is (Of s) low = spot_count s low
    count_is (Rest i) low = rest_count i low
    count_is (MissingHead k) low = refl
    count_is (MissingEnd k) low = refl

    pub asks_are : (s : Numbered) → Known s → length (nodes_of x (asked_by x (which_of s))) ≡ asks_in p s
    asks_are s low = all_found (number_of p s) (asked_by x (which_of s)) (asked_earlier s low) ∙ count_is s low

    -- ---- the one before

    abbrev pub Asks : Numbered → Numbered → Type 0
    Asks t s = AnyOf (λ o. o ≡ Some (which_of t)) (asked_by x (which_of s))

    -- Of the nodes before one, it asks the last, and that one completes all others; or it is a value, and asks its field's head; or it is the head of the last
    -- field, and asks the value, and the end of the field that has it.
    pub data IsBehind (s : Numbered) : Type 0 where
      next : (t : Numbered) → prior_in p s ≡ t → Asks t s → ((j : ℕ) → whole_in j t ≡ suc j) → IsBehind s
      value : (i : ℕ) → s ≡ Of (Value i) → Asks (Of (FieldHead i (sizer p))) (Of (Value i)) → IsBehind s
      last : (i f : ℕ) → s ≡ Of (FieldHead i f) → suc f ≡ length ps → says_sizes p ≡ true → Asks (Of (FieldEnd i (sizer p))) (Of (FieldHead i f))
          → Asks (Of (Value i)) (Of (FieldHead i f)) → IsBehind s

    no_first : {X : Type 0} → 0 < index_of p (ElementHead 0) → X
    no_first some = absurd (let none = mul-zero p.per in let at = head_number p 0 in omega (arith, none, at, some))

    -- an element ends behind its last field, or behind its head
    end_asks : (i : ℕ) (o : Option ℕ) (k : ℕ) → IsElement x.layout o false p.size ps → length ps ≡ k
        → AnyOf (λ z. z ≡ Some (which (spots.prior k (ElementEnd i)))) (Some (nodes.ElementHead i) ∷ nodes.last_asked o i x.layout.last)
    end_asks i None zero h e = inl refl
    end_asks i None (suc f) h e = absurd (let none = h.1 in omega (arith, none, e))
    end_asks i (Some t) zero h e = absurd (let none = h.0 in omega (arith, none, e))
    end_asks i (Some t) (suc f) h e =
        let all = h.0 in let same : x.layout.last ≡ f = omega (arith, all, e) in inr (inl (ap (λ l. Some (nodes.FieldEnd i l)) same))

    -- where elements are of one size
    plain_asks : says_sizes p ≡ false → (s : Spot) → One s → 0 < index_of p s → AnyOf (λ o. o ≡ Some (which (spots.prior (length ps) s))) (asked_by x (which s))
    plain_asks h (ElementHead zero) low some = no_first some
    plain_asks h (ElementHead (suc i)) low some = inr (inl refl)
    plain_asks h (ElementEnd i) low some =
        subst (λ o. AnyOf (λ z. z ≡ Some (which (spots.prior (length ps) (ElementEnd i)))) (Some (nodes.ElementHead i) ∷ nodes.last_asked o i x.layout.last))
        (sym is.kind) (end_asks i p.type_number (length ps) (subst (λ b. IsElement x.layout p.type_number b p.size ps) h is.element) refl)
    plain_asks h (FieldHead i zero) low some = inl refl
    plain_asks h (FieldHead i (suc f)) low some = inr (inl refl)
    plain_asks h (FieldEnd i f) low some = inl refl
    plain_asks h (Value i) low some = absurd (let bad : false ≡ true = sym h ∙ low.1 in cc)

    plain_whole : (k j : ℕ) (s : Spot) → spot_whole j (spots.prior k s) ≡ suc j
    plain_whole k j (ElementHead zero) = refl
    plain_whole k j (ElementHead (suc i)) = refl
    plain_whole zero j (ElementEnd i) = refl
    plain_whole (suc f) j (ElementEnd i) = refl
    plain_whole k j (FieldHead i zero) = refl
    plain_whole k j (FieldHead i (suc f)) = refl
    plain_whole k j (FieldEnd i f) = refl
    plain_whole k j (Value i) = refl

    -- where they say sizes
    sized_prior : says_sizes p ≡ true → (s : Spot) → prior_in p (Of s) ≡ Of (values.prior (length ps) s)
    sized_prior e s = ap (λ b. Of (prior_by b (length ps) s)) e

    sized_end : says_sizes p ≡ true → (i : ℕ) → Asks (Of (FieldEnd i (length ps - 1))) (Of (ElementEnd i))
    sized_end e i =
        let some = (fields_some p e).0 in
        let z = fields_are p x is 0 (omega (arith, some)) in
        let all = z.3 in
        let same : x.layout.last ≡ length ps - 1 = omega (arith, all) in
        subst (λ o. AnyOf (λ z. z ≡ Some (nodes.FieldEnd i (length ps - 1))) (Some (nodes.ElementHead i) ∷ nodes.last_asked o i x.layout.last)) (sym z.2)
        (inr (inl (ap (λ l. Some (nodes.FieldEnd i l)) same)))

    field_behind : says_sizes p ≡ true → (i f : ℕ) → i < m → suc f < length ps → IsBehind (Of (FieldHead i (suc f)))
    field_behind e i f low few = by (suc (suc f) == length ps) refl
      where
        by : (b : Bool) → (suc (suc f) == length ps) ≡ b → IsBehind (Of (FieldHead i (suc f)))
        by true h =
            let end : suc (suc f) ≡ length ps = grind (arith, nat_tests) in
            let z = sized_is p x is e in
            let all = z.count in
            let same : f ≡ sizer p = omega (arith, end) in
            let final : suc f ≡ x.layout.last = omega (arith, all, end) in
            last i (suc f) refl end e (inr (inl (ap (λ g. Some (nodes.FieldEnd i g)) same)))
            (inr (inr (subst (λ o. AnyOf (λ z. z ≡ Some (nodes.SizeValue i)) (nodes.size_asked i o))
            (sym (ap (size_at x.layout) final ∙ z.unsized)) (inl refl))))
        by false h =
            next (Of (FieldEnd i f)) (sized_prior e (FieldHead i (suc f)) ∙ ap (λ b. Of (if b then Value i else FieldEnd i f)) h) (inr (inl refl)) (λ j. refl)

    sized_behind : says_sizes p ≡ true → (s : Spot) → One s → 0 < index_of p s → IsBehind (Of s)
    sized_behind e (ElementHead zero) low some = no_first some
    sized_behind e (ElementHead (suc i)) low some = next (Of (ElementEnd i)) (sized_prior e (ElementHead (suc i))) (inr (inl refl)) (λ j. refl)
    sized_behind e (ElementEnd i) low some =
        next (Of (FieldEnd i (length ps - 1))) (sized_prior e (ElementEnd i)) (sized_end e i) (λ j. refl)
    sized_behind e (FieldHead i zero) low some = next (Of (ElementHead i)) (sized_prior e (FieldHead i zero)) (inl refl) (λ j. refl)
    sized_behind e (FieldHead i (suc f)) low some = field_behind e i f low.0 low.1
    sized_behind e (FieldEnd i f) low some = next (Of (FieldHead i f)) (sized_prior e (FieldEnd i f)) (inl refl) (λ j. refl)
    sized_behind e (Value i) low some = value i refl (inl (ap (λ g. Some (nodes.FieldHead i g)) (sizer_is p x is e)))

    spot_behind : (s : Spot) → One s → 0 < index_of p s → IsBehind (Of s)
    spot_behind s low some = elim (either p) [
      | inl z ↦ next (Of (spots.prior (length ps) s)) (ap (λ b. Of (prior_by b (length ps) s)) z.0)
          (plain_asks z.0 s low some) (λ j. plain_whole (length ps) j s)
      | inr z ↦ sized_behind z.0 s low some
    ]

    -- the last rest asks the last end, and each other one the rest behind it
    rest_asks_prior : (i : ℕ) → Known (Rest i)
        → AnyOf (λ o. o ≡ Some (which_of (prior_in p (Rest i)))) (Some (nodes.ElementEnd i) ∷ nodes.later_asked x.count i)
    rest_asks_prior i low = by (i + 1 == p.most) refl (nat_le x.count (suc i)) refl
      where
        by : (a : Bool) → (i + 1 == p.most) ≡ a → (b : Bool) → nat_le x.count (suc i) ≡ b
            → AnyOf (λ o. o ≡ Some (which_of (if a then Of (ElementEnd i) else Rest (suc i))))
            (Some (nodes.ElementEnd i) ∷ (if b then [] else Some (nodes.Rest (suc i)) ∷ []))
        by true e b f = inl refl
        by false e false f = inr (inl refl)
        by false e true f =
            absurd (let le : x.count ≤ suc i = grind (arith, nat_tests) in let other : i + 1 ≢ p.most = grind (arith, nat_tests) in
            let all = (low.2).all in let some = low.0.2 in omega (arith, le, other, all, some))

    rest_prior : (i : ℕ) → Known (Rest i) → AnyOf (λ o. o ≡ Some (which_of (prior_in p (Rest i)))) (asked_by x (nodes.Rest i))
    rest_prior zero low = inr (rest_asks_prior zero low)
    rest_prior (suc i) low = rest_asks_prior (suc i) low

    rest_whole : (i j : ℕ) → whole_in j (prior_in p (Rest i)) ≡ suc j
    rest_whole i j = by (i + 1 == p.most)
      where
        by : (b : Bool) → whole_in j (if b then Of (ElementEnd i) else Rest (suc i)) ≡ suc j
        by true = refl
        by false = refl

    -- so each node but the first
    pub behind : (s : Numbered) → Known s → 0 < number_of p s → IsBehind s
    behind (Of s) low some = spot_behind s low some
    behind (Rest i) low some = next (prior_in p (Rest i)) refl (rest_prior i low) (rest_whole i)
    behind (MissingHead zero) low some =
        let all = (low.2).all in
        let same : x.count - 1 ≡ p.most - 1 = omega (arith, all) in
        next (Of (ElementEnd (p.most - 1))) refl (inr (inl (ap (λ i. Some (nodes.ElementEnd i)) same))) (λ j. refl)
    behind (MissingHead (suc k)) low some = next (MissingEnd k) refl (inr (inl refl)) (λ j. refl)
    behind (MissingEnd k) low some = next (MissingHead k) refl (inl refl) (λ j. refl)
