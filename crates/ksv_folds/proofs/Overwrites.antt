-- Which nodes an overwrite takes, where elements say sizes: from the first value of which it changes a byte on.
use Rattle.std.proofs.Common.{◌≡◌, ◌∙◌, ◌&&◌, ◌||◌, ◌*◌, ◌≢◌, ◌==◌, ℕ, zero, suc, ◌+◌, ◌-◌, ◌<◌, ◌≤◌, nat_lt, nat_le, Bool, true, false, if◌then◌else◌, [], ◌∷◌}
use Rattle.std.proofs.Common.{length, ◌⊎◌, refl, sym, ap, subst, inl, inr, arith, Option, None}
use Rattle.std.proofs.Math.Nat.{mul-suc, mul-le-mul_left}
use Rattle.std.proofs.lemmas.Bool.{cases_lt}
use Rattle.std.proofs.lemmas.Bool.Decides.{nat_tests}
use Rattle.std.specs.List.{list_any}
use Rattle.ksv_bytes.specs.Uses.{is_use_touched}
use Rattle.ksv_bytes.specs.declared.uses.Change.TheVariants.{Overwrite}
use Rattle.ksv_bytes.specs.declared.uses.Use.TheVariants.{Reach, Size}
use Rattle.ksv_memo_rules.specs.Folds.{Leaves, is_from}
use Rattle.ksv_folds.proofs.Rooms.{start_low, edge_is}
use Rattle.ksv_folds.specs.Lemmas.Numbers.{fields_some, value_number, next_end, head_number, index_low, number_is, numbered_there}
use Rattle.ksv_folds.specs.Lemmas.Values.{past_none}
use Rattle.ksv_folds.specs.Sequence.{says_sizes, sizer, edge_of, numbered_at, IsIn, IsThere, index, past_value, index_of, number_of, size_of, is_open}
use Rattle.ksv_folds.specs.Sequence.{is_closing}
use Rattle.ksv_folds.specs.Sequence.{reach_of, uses_of, spot_uses, uses_in, value_before, spot_guard, guard_in, guard_of, fold_of}
use Rattle.ksv_folds.specs.declared.plain_list.PlainList.{PlainList}
use Rattle.ksv_folds.specs.declared.spot.Numbered.{Numbered}
use Rattle.ksv_folds.specs.declared.spot.Numbered.TheVariants.{Of, Rest, MissingHead, MissingEnd}
use Rattle.ksv_folds.specs.declared.spot.Spot.{Spot}
use Rattle.ksv_folds.specs.declared.spot.Spot.TheVariants.{ElementHead, ElementEnd, FieldHead, FieldEnd, Value}

module _ (p : PlainList) where
  -- the bytes of later sizes are behind those of earlier ones
  part_up : (f : ℕ) → f < length p.parts.items → (i j : ℕ) → i ≤ j → j < p.most → edge_of p i f ≤ edge_of p j f
  part_up f few i j le low =
      let a = edge_is p i f few in
      let b = edge_is p j f few in let up = start_low p i j le (omega (arith, low)) in omega (arith, a, b, up)

  pub said_up : says_sizes p ≡ true → (i j : ℕ) → i ≤ j → j < p.most → edge_of p i (suc (sizer p)) ≤ edge_of p j (suc (sizer p))
  said_up e i j le low = let some = (fields_some p e).0 in part_up (suc (sizer p)) (omega (arith, some)) i j le low

  pub from_up : says_sizes p ≡ true → (i j : ℕ) → i ≤ j → j < p.most → edge_of p i (sizer p) ≤ edge_of p j (sizer p)
  from_up e i j le low = let some = (fields_some p e).0 in part_up (sizer p) (omega (arith, some)) i j le low

  module _ (at n : ℕ) where
    abbrev touched : Numbered → Bool
    touched s = list_any (is_use_touched (Overwrite at n)) (uses_in p s)

    -- a value by the bytes of its field, and no other node
    meets : ℕ → Bool
    meets i = nat_lt (edge_of p i (sizer p)) (at + n) && nat_lt at (edge_of p i (suc (sizer p)))

    unread : (z : ℕ) → list_any (is_use_touched (Overwrite at n)) (uses_of z) ≡ false
    unread z = by (z == 0)
      where
        by : (b : Bool) → list_any (is_use_touched (Overwrite at n)) (if b then [] else Reach z ∷ []) ≡ false
        by true = refl
        by false = refl

    end_unread : (i : ℕ) → list_any (is_use_touched (Overwrite at n)) (spot_uses p (ElementEnd i)) ≡ false
    end_unread i = by (is_open p && is_closing p i)
      where
        by : (b : Bool) → list_any (is_use_touched (Overwrite at n)) (if b then Size ∷ [] else uses_of (reach_of p (ElementEnd i))) ≡ false
        by true = refl
        by false = unread (reach_of p (ElementEnd i))

    or_false : (b : Bool) → (b || false) ≡ b
    or_false true = refl
    or_false false = refl

    -- what is untouched, if the values before an element are
    untouched : (s : Numbered) → ((i : ℕ) → s ≡ Of (Value i) → meets i ≡ false) → touched s ≡ false
    unfolding meets
    untouched (Of (ElementHead i)) h = unread (reach_of p (ElementHead i))
    untouched (Of (ElementEnd i)) h = end_unread i
    untouched (Of (FieldHead i f)) h = unread (reach_of p (FieldHead i f))
    untouched (Of (FieldEnd i f)) h = unread (reach_of p (FieldEnd i f))
    untouched (Of (Value i)) h = or_false (meets i) ∙ h i refl
    untouched (Rest i) h = end_unread (p.most - 1)
    untouched (MissingHead k) h = end_unread (p.most - 1)
    untouched (MissingEnd k) h = end_unread (p.most - 1)

    near : (i : ℕ) → edge_of p i (suc (sizer p)) ≤ at → meets i ≡ false
    unfolding meets
    near i le =
        let so : nat_lt at (edge_of p i (suc (sizer p))) ≡ false = grind (arith, nat_tests) in
        ap (λ b. nat_lt (edge_of p i (sizer p)) (at + n) && b) so ∙ and_false (nat_lt (edge_of p i (sizer p)) (at + n))
      where
        and_false : (b : Bool) → (b && false) ≡ false
        and_false true = refl
        and_false false = refl

    far : (i : ℕ) → at + n ≤ edge_of p i (sizer p) → meets i ≡ false
    unfolding meets
    far i le =
        let so : nat_lt (edge_of p i (sizer p)) (at + n) ≡ false = grind (arith, nat_tests) in ap (λ b. b && nat_lt at (edge_of p i (suc (sizer p)))) so

    -- from an element's value on, an entry names it, or a later node
    module _ (e : says_sizes p ≡ true) (m : ℕ) (low : m < p.most) where
      v : ℕ
      v = index_of p (Value m)

      value_at : (i : ℕ) → index_of p (Value i) ≡ p.per * i + (p.per - 4)
      value_at i = subst (λ b. index b p.per (Value i) ≡ p.per * i + (p.per - 4)) (sym e) refl

      value_up : (i : ℕ) → m ≤ i → index_of p (Value m) ≤ index_of p (Value i)
      value_up i le = let up = mul-le-mul_left p.per le in let a = value_at m in let b = value_at i in omega (arith, up, a, b)

      from : Option ℕ → Type 0
      from o = is_from (index_of p (Value m)) o ≡ true

      named : (i : ℕ) → m < i → is_from (index_of p (Value m)) (value_before p i) ≡ true
      named zero less = absurd (omega (arith, less))
      named (suc i) less = le (index_of p (Value m)) (index_of p (Value i)) (value_up i (omega (arith, less)))
        where
          le : (a b : ℕ) → a ≤ b → nat_le a b ≡ true
          le a b h = grind (arith, nat_tests)

      wide : p.per ≡ 3 + 2 * length p.parts.items
      wide = (fields_some p e).1

      -- it is of that element or a later one, and before its value of a later one
      later : (i : ℕ) (s : Spot) → IsIn (says_sizes p) (length p.parts.items) (suc i) s → index_of p (Value m) ≤ index_of p s → m ≤ i
      later i s one up = elim (cases_lt i m) [
        | inl less ↦ absurd (
            let vm = value_at m in
            let below = index_low p (suc i) s one in let all = mul-le-mul_left p.per less in omega (arith, up, vm, below, all))
        | inr more ↦ more
      ]

      head_later : (i : ℕ) → index_of p (Value m) ≤ index_of p (ElementHead i) → m < i
      head_later i up = elim (cases_lt m i) [
        | inl less ↦ less
        | inr more ↦ absurd (
            let vm = value_at m in
            let here = head_number p i in
            let some = (fields_some p e).0 in let all = mul-le-mul_left p.per more in let w = wide in omega (arith, up, vm, here, all, w, some))
      ]

      field_later : (i f : ℕ) → suc f < length p.parts.items → index_of p (Value m) ≤ index_of p (FieldEnd i f) → m < i
      field_later i f few up = elim (cases_lt m i) [
        | inl less ↦ less
        | inr more ↦ absurd (
            let vm = value_at m in
            let none = past_none (length p.parts.items) p.per wide (fields_some p e).0 f few in
            let here : index_of p (FieldEnd i f) ≡ p.per * i + (2 * f + 2 + past_value p.per f) =
            subst (λ b. index b p.per (FieldEnd i f) ≡ p.per * i + (2 * f + 2 + past_value p.per f)) (sym e) refl in
            let all = mul-le-mul_left p.per more in let w = wide in omega (arith, up, vm, none, here, all, w, few))
      ]

      by_field : (i f : ℕ) → m ≤ i → (suc f < length p.parts.items → m < i) → f < length p.parts.items
          → is_from (index_of p (Value m)) (value_before p (if suc f == length p.parts.items then suc i else i)) ≡ true
      by_field i f le less few = by (suc f == length p.parts.items) refl
        where
          by : (b : Bool) → (suc f == length p.parts.items) ≡ b → is_from (index_of p (Value m)) (value_before p (if b then suc i else i)) ≡ true
          by true h = named (suc i) (omega (arith, le))
          by false h =
              let other : suc f ≢ length p.parts.items = grind (arith, nat_tests) in named i (less (omega (arith, other, few)))

      value_from : (i : ℕ) → m < i → is_from (index_of p (Value m)) (spot_guard p (Value i)) ≡ true
      value_from i less = le (index_of p (Value m)) (index_of p (FieldHead i (sizer p)))
          (let vm = value_at m in let next = value_number p i e in let there = value_at i in
          let all = mul-le-mul_left p.per less in let more = mul-suc p.per m in let w = wide in let some = (fields_some p e).0 in
          omega (arith, vm, next, there, all, more, w, some))
        where
          le : (a b : ℕ) → a ≤ b → nat_le a b ≡ true
          le a b h = grind (arith, nat_tests)

      -- a node from it on is that value, or names one from it on
      goes : (s : Numbered) → IsThere p s → index_of p (Value m) ≤ number_of p s → (s ≡ Of (Value m)) ⊎ (is_from (index_of p (Value m)) (guard_in p s) ≡ true)
      goes (Of (ElementHead i)) there up = inr (named i (head_later i up))
      goes (Of (ElementEnd i)) there up = inr (named (suc i) (let le = later i (ElementEnd i) (omega arith) up in omega (arith, le)))
      goes (Of (FieldHead i f)) there up =
          inr (by_field i f (later i (FieldHead i f) (omega arith, there.1) up)
          (λ few. field_later i f few (let next = next_end p i f in omega (arith, up, next))) there.1)
      goes (Of (FieldEnd i f)) there up = inr (by_field i f (later i (FieldEnd i f) (omega arith, there.1) up) (λ few. field_later i f few up) there.1)
      goes (Of (Value i)) there up = elim (cases_lt m i) [
        | inl less ↦ inr (value_from i less)
        | inr more ↦ inl (
            let le = later i (Value i) (omega arith, e) up in let same : i ≡ m = omega (arith, le, more) in ap (λ j. Of (Value j)) same)
      ]
      goes (Rest i) there up = inr (named p.most low)
      goes (MissingHead k) there up = inr (named p.most low)
      goes (MissingEnd k) there up = inr (named p.most low)

      -- so from its first value on the change takes all
      pub takes : (kept left : ℕ) → kept ≤ size_of p → ((i : ℕ) → i < m → edge_of p i (suc (sizer p)) ≤ at)
          → nat_lt (edge_of p m (sizer p)) (at + n) ≡ true → nat_lt at (edge_of p m (suc (sizer p))) ≡ true
          → left ≤ kept → left ≤ p.per * m + (p.per - 4) → (left < kept → left ≡ p.per * m + (p.per - 4)) → Leaves (fold_of p) (Overwrite at n) kept left
      unfolding meets
      takes kept left few before reached begun within below is = record {
        within = within;
        stays = λ j less. untouched (numbered_at p j)
            (λ i same. near i (before i (earlier i j (omega (arith, less, within, few)) (omega (arith, less, below)) same)));
        goes = λ j up less. gone j (omega (arith, less, few)) (omega (arith, up, less)) up (is (omega (arith, up, less)));
      }
        where
          earlier : (i j : ℕ) → j < size_of p → j < p.per * m + (p.per - 4) → numbered_at p j ≡ Of (Value i) → i < m
          earlier i j there less same = elim (cases_lt i m) [
            | inl low ↦ low
            | inr more ↦ absurd (
                let number : index_of p (Value i) ≡ j = ap (number_of p) (sym same) ∙ number_is p j there in
                let up = value_up i more in let vm = value_at m in omega (arith, number, up, vm, less))
          ]

          met : touched (Of (Value m)) ≡ true
          met = ap (λ b. (b && nat_lt at (edge_of p m (suc (sizer p)))) || false) reached ∙ ap (λ b. b || false) begun

          or_right : (a b : Bool) → b ≡ true → (a || b) ≡ true
          or_right true b h = refl
          or_right false b h = h

          gone : (j : ℕ) → j < size_of p → left < kept → left ≤ j → left ≡ p.per * m + (p.per - 4)
              → (touched (numbered_at p j) || is_from left (guard_of p (numbered_at p j))) ≡ true
          gone j there less up same =
              let vm = value_at m in
              let number = number_is p j there in
              elim (goes (numbered_at p j) (numbered_there p j there) (omega (arith, vm, number, up, same))) [
                | inl z ↦ ap (λ s. touched s || is_from left (guard_of p (numbered_at p j))) z ∙ ap (λ b. b || is_from left (guard_of p (numbered_at p j))) met
                | inr z ↦ or_right (touched (numbered_at p j)) (is_from left (guard_of p (numbered_at p j))) (
                    let left_is : left ≡ index_of p (Value m) = same ∙ sym vm in
                    ap (λ b. is_from left (if b then guard_in p (numbered_at p j) else None)) e
                    ∙ ap (λ k. is_from k (guard_in p (numbered_at p j))) left_is ∙ z)
              ]

    pub keeps : says_sizes p ≡ true → (m kept : ℕ) → kept ≤ size_of p → ((i : ℕ) → i < m → edge_of p i (suc (sizer p)) ≤ at)
        → ((i : ℕ) → m ≤ i → i < p.most → at + n ≤ edge_of p i (sizer p)) → Leaves (fold_of p) (Overwrite at n) kept kept
    keeps e m kept few before after = record {
      within = omega arith;
      stays = λ j low. untouched (numbered_at p j) (λ i same. unmet i (value_in i (subst (IsThere p) same (numbered_there p j (omega (arith, low, few))))));
      goes = λ j up low. absurd (omega (arith, up, low));
    }
      where
        value_in : (i : ℕ) → IsThere p (Of (Value i)) → i < p.most
        value_in i there = there.0

        unmet : (i : ℕ) → i < p.most → meets i ≡ false
        unmet i low = elim (cases_lt i m) [
          | inl less ↦ near i (before i less)
          | inr more ↦ far i (after i more low)
        ]
