-- Which nodes an insert, a delete or an append takes, by their numbers.
use Rattle.std.proofs.Common.{◌≡◌, ◌∙◌, ◌==◌, ◌&&◌, ◌||◌, ◌*◌, ◌/◌, ◌%◌, ℕ, suc, ◌+◌, ◌-◌, ◌<◌, ◌≤◌, nat_lt, Bool, true, false, if◌then◌else◌, [], ◌∷◌}
use Rattle.std.proofs.Common.{refl, sym, ap, inl, inr, arith}
use Rattle.std.proofs.Math.Nat.{mul-suc}
use Rattle.std.proofs.lemmas.Bool.{cases_lt}
use Rattle.std.proofs.lemmas.Bool.Decides.{nat_tests}
use Rattle.std.specs.List.{list_any}
use Rattle.ksv_bytes.specs.Uses.{is_use_touched}
use Rattle.ksv_bytes.specs.declared.uses.Change.{Change}
use Rattle.ksv_bytes.specs.declared.uses.Change.TheVariants.{Append, Insert, Delete}
use Rattle.ksv_bytes.specs.declared.uses.Use.TheVariants.{Reach, Size}
use Rattle.ksv_folds.specs.Lemmas.Numbers.{elements_some, element_at, past_elements, last_element, width_some, end_number, index_is}
use Rattle.ksv_folds.specs.Sequence.{spot_at, numbered_at, index_of, elements_size, reach_of, is_open, is_closing, uses_of, spot_uses, uses_in, is_read_past}
use Rattle.ksv_folds.specs.Sequence.{behind_at, guard_of, fold_of}
use Rattle.ksv_memo_rules.specs.Folds.{Leaves, is_from}
use Rattle.ksv_folds.specs.declared.spot.Numbered.TheVariants.{MissingHead, MissingEnd}
use Rattle.ksv_folds.specs.declared.plain_list.PlainList.{PlainList}
use Rattle.ksv_folds.specs.declared.spot.Spot.{Spot}
use Rattle.ksv_folds.specs.declared.spot.Spot.TheVariants.{ElementHead, ElementEnd, FieldHead, FieldEnd, Value}

or_false : (b : Bool) → (b || false) ≡ b
or_false true = refl
or_false false = refl

past_of : (at z : ℕ) → is_read_past at (uses_of z) ≡ nat_lt at z
past_of at z = by (z == 0) refl
  where
    by : (b : Bool) → (z == 0) ≡ b → is_read_past at (if b then [] else Reach z ∷ []) ≡ nat_lt at z
    by true e = let none : z ≡ 0 = grind (arith, nat_tests) in grind (arith, nat_tests)
    by false e = or_false (nat_lt at z)

module _ (p : PlainList) where
  -- ---- what nodes use, by their numbers

  unsized : (at : ℕ) → (is_open p && p.closed) ≡ false → (s : Spot) → is_read_past at (spot_uses p s) ≡ nat_lt at (reach_of p s)
  unsized at e (ElementHead i) = past_of at (reach_of p (ElementHead i))
  unsized at e (ElementEnd i) =
      ap (λ b. is_read_past at (if b then Size ∷ [] else uses_of (reach_of p (ElementEnd i)))) (by (is_open p) p.closed (i + 1 == p.most) e)
      ∙ past_of at (reach_of p (ElementEnd i))
    where
      by : (a b c : Bool) → (a && b) ≡ false → (a && (b && c)) ≡ false
      by true true c h = cc
      by true false c h = refl
      by false b c h = refl
  unsized at e (FieldHead i f) = past_of at (reach_of p (FieldHead i f))
  unsized at e (FieldEnd i f) = past_of at (reach_of p (FieldEnd i f))
  unsized at e (Value i) = or_false (nat_lt at (reach_of p (Value i)))

  unclosed : (i : ℕ) → suc (index_of p (ElementEnd i)) < elements_size p → (is_open p && is_closing p i) ≡ false
  unclosed i low = by (i + 1 == p.most) refl
    where
      two : (a b : Bool) → (a && (b && false)) ≡ false
      two true true = refl
      two true false = refl
      two false b = refl

      by : (b : Bool) → (i + 1 == p.most) ≡ b → (is_open p && (p.closed && b)) ≡ false
      by true e =
          absurd (let last : suc i ≡ p.most = grind (arith, nat_tests) in
          let all = ap (λ n. p.per * n) last in let more = mul-suc p.per i in
          let wide = (width_some p).0 in let at = end_number p i in omega (arith, low, all, more, wide, at))
      by false e = two (is_open p) p.closed

  spot_before : (at : ℕ) (s : Spot) → suc (index_of p s) < elements_size p → is_read_past at (spot_uses p s) ≡ nat_lt at (reach_of p s)
  spot_before at (ElementHead i) low = past_of at (reach_of p (ElementHead i))
  spot_before at (ElementEnd i) low =
      ap (λ b. is_read_past at (if b then Size ∷ [] else uses_of (reach_of p (ElementEnd i)))) (unclosed i low) ∙ past_of at (reach_of p (ElementEnd i))
  spot_before at (FieldHead i f) low = past_of at (reach_of p (FieldHead i f))
  spot_before at (FieldEnd i f) low = past_of at (reach_of p (FieldEnd i f))
  spot_before at (Value i) low = or_false (nat_lt at (reach_of p (Value i)))

  number : (j : ℕ) → index_of p (spot_at p j) ≡ j
  number j = index_is p j

  -- before the last end
  before_end : (at j : ℕ) → suc j < elements_size p → is_read_past at (uses_in p (numbered_at p j)) ≡ nat_lt at (reach_of p (spot_at p j))
  before_end at j low =
      let same = number j in
      ap (λ s. is_read_past at (uses_in p s)) (element_at p j (omega (arith, low)))
      ∙ spot_before at (spot_at p j) (omega (arith, low, same))

  past_uses : (m : Bool) (r : ℕ) → uses_in p (behind_at m p.most r) ≡ spot_uses p (ElementEnd (p.most - 1))
  past_uses false r = refl
  past_uses true r = by (r % 2 == 0)
    where
      by : (b : Bool) → uses_in p (if b then MissingHead (r / 2) else MissingEnd (r / 2)) ≡ spot_uses p (ElementEnd (p.most - 1))
      by true = refl
      by false = refl

  -- from the last end on all use the same
  from_end : (j : ℕ) → elements_size p ≤ suc j → uses_in p (numbered_at p j) ≡ spot_uses p (ElementEnd (p.most - 1))
  from_end j up = elim (cases_lt j (elements_size p)) [
    | inl low ↦ (
        let any = p.any in
        let same : j ≡ elements_size p - 1 = omega (arith, up, low) in
        ap (uses_in p) (element_at p j low) ∙ ap (λ i. spot_uses p (spot_at p i)) same
        ∙ ap (spot_uses p) (last_element p (p.most - 1) (omega (arith, any))))
    | inr more ↦ ap (uses_in p) (past_elements p j more) ∙ past_uses p.missing (j - elements_size p)
  ]

  closing_size : (is_open p && p.closed) ≡ true → spot_uses p (ElementEnd (p.most - 1)) ≡ Size ∷ []
  closing_size e =
      let any = p.any in
      let so : (p.most - 1 + 1 == p.most) ≡ true = grind (arith, nat_tests) in
      ap (λ b. if is_open p && (p.closed && b) then Size ∷ [] else uses_of (reach_of p (ElementEnd (p.most - 1)))) so
      ∙ ap (λ b. if b then Size ∷ [] else uses_of (reach_of p (ElementEnd (p.most - 1)))) (by (is_open p) p.closed e)
    where
      by : (a b : Bool) → (a && b) ≡ true → (a && (b && true)) ≡ true
      by true true h = refl
      by true false h = cc
      by false b h = cc

  -- ---- what a change leaves

  abbrev pub Stays : ℕ → ℕ → Type 0
  Stays at n = (j : ℕ) → j < n → reach_of p (spot_at p j) ≤ at

  abbrev pub Goes : ℕ → ℕ → ℕ → Type 0
  Goes at n kept = (j : ℕ) → n ≤ j → j < kept → at < reach_of p (spot_at p j)

  abbrev past : ℕ → ℕ → Bool
  past at j = is_read_past at (uses_in p (numbered_at p j))

  near : (at z : ℕ) → z ≤ at → nat_lt at z ≡ false
  near at z le = grind (arith, nat_tests)

  far : (at z : ℕ) → at < z → nat_lt at z ≡ true
  far at z less = grind (arith, nat_tests)

  -- where the last end and the rests use the file's size
  pub sized_stays : (at n : ℕ) → n < elements_size p → Stays at n → (j : ℕ) → j < n → past at j ≡ false
  sized_stays at n few stays j low = before_end at j (omega (arith, few, low)) ∙ near at (reach_of p (spot_at p j)) (stays j low)

  pub sized_goes : (at n kept : ℕ) → (is_open p && p.closed) ≡ true → ((j : ℕ) → n ≤ j → j < kept → suc j < elements_size p → at < reach_of p (spot_at p j))
      → (j : ℕ) → n ≤ j → j < kept → past at j ≡ true
  sized_goes at n kept e goes j up low = elim (cases_lt (suc j) (elements_size p)) [
    | inl less ↦ before_end at j less ∙ far at (reach_of p (spot_at p j)) (goes j up low less)
    | inr more ↦ ap (is_read_past at) (from_end j more ∙ closing_size e)
  ]

  -- where they read to the last element's end
  reads : (at j : ℕ) → (is_open p && p.closed) ≡ false → j < elements_size p → past at j ≡ nat_lt at (reach_of p (spot_at p j))
  reads at j e low =
      ap (λ s. is_read_past at (uses_in p s)) (element_at p j low) ∙ unsized at e (spot_at p j)

  last_low : elements_size p - 1 < elements_size p
  last_low = let some = elements_some p in omega (arith, some)

  reads_end : (at j : ℕ) → (is_open p && p.closed) ≡ false → elements_size p ≤ j → past at j ≡ nat_lt at (reach_of p (spot_at p (elements_size p - 1)))
  reads_end at j e up =
      ap (is_read_past at) (from_end j (omega (arith, up)) ∙ sym (from_end (elements_size p - 1) (omega arith)))
      ∙ reads at (elements_size p - 1) e last_low

  pub plain_stays : (at n : ℕ) → (is_open p && p.closed) ≡ false → n ≤ elements_size p → Stays at n → (j : ℕ) → j < n → past at j ≡ false
  plain_stays at n e few stays j low = reads at j e (omega (arith, few, low)) ∙ near at (reach_of p (spot_at p j)) (stays j low)

  -- all nodes of elements stay, and so do the rests
  pub all_stays : (at : ℕ) → (is_open p && p.closed) ≡ false → Stays at (elements_size p) → (j : ℕ) → past at j ≡ false
  all_stays at e stays j = elim (cases_lt j (elements_size p)) [
    | inl low ↦ plain_stays at (elements_size p) e (omega arith) stays j low
    | inr up ↦ reads_end at j e up ∙ near at (reach_of p (spot_at p (elements_size p - 1))) (stays (elements_size p - 1) last_low)
  ]

  pub plain_goes : (at n kept : ℕ) → (is_open p && p.closed) ≡ false → n < elements_size p
      → ((j : ℕ) → n ≤ j → j < kept → j < elements_size p → at < reach_of p (spot_at p j)) → (j : ℕ) → n ≤ j → j < kept → past at j ≡ true
  plain_goes at n kept e some goes j up low = elim (cases_lt j (elements_size p)) [
    | inl less ↦ reads at j e less ∙ far at (reach_of p (spot_at p j)) (goes j up low less)
    | inr more ↦ reads_end at j e more
        ∙ far at (reach_of p (spot_at p (elements_size p - 1))) (goes (elements_size p - 1) (omega (arith, some)) (omega (arith, more, low)) last_low)
  ]

  -- ---- appends

  abbrev added : ℕ → Bool
  added j = list_any (is_use_touched Append) (uses_in p (numbered_at p j))

  unadded : (z : ℕ) → list_any (is_use_touched Append) (uses_of z) ≡ false
  unadded z = by (z == 0)
    where
      by : (b : Bool) → list_any (is_use_touched Append) (if b then [] else Reach z ∷ []) ≡ false
      by true = refl
      by false = refl

  spot_unadded : (s : Spot) → suc (index_of p s) < elements_size p → list_any (is_use_touched Append) (spot_uses p s) ≡ false
  spot_unadded (ElementHead i) low = unadded (reach_of p (ElementHead i))
  spot_unadded (ElementEnd i) low =
      ap (λ b. list_any (is_use_touched Append) (if b then Size ∷ [] else uses_of (reach_of p (ElementEnd i)))) (unclosed i low)
      ∙ unadded (reach_of p (ElementEnd i))
  spot_unadded (FieldHead i f) low = unadded (reach_of p (FieldHead i f))
  spot_unadded (FieldEnd i f) low = unadded (reach_of p (FieldEnd i f))
  spot_unadded (Value i) low = refl

  pub append_stays : (j : ℕ) → suc j < elements_size p → added j ≡ false
  append_stays j low =
      let same = number j in
      ap (λ s. list_any (is_use_touched Append) (uses_in p s)) (element_at p j (omega (arith, low)))
      ∙ spot_unadded (spot_at p j) (omega (arith, low, same))

  pub append_goes : (is_open p && p.closed) ≡ true → (j : ℕ) → elements_size p ≤ suc j → added j ≡ true
  append_goes e j more = ap (list_any (is_use_touched Append)) (from_end j more ∙ closing_size e)

-- what nodes read past a place, an insert or a delete there takes
left_by : (p : PlainList) (change : Change) (kept left : ℕ) → left ≤ kept
    → ((j : ℕ) → j < left → list_any (is_use_touched change) (uses_in p (numbered_at p j)) ≡ false)
    → ((j : ℕ) → left ≤ j → j < kept → list_any (is_use_touched change) (uses_in p (numbered_at p j)) ≡ true) → Leaves (fold_of p) change kept left
left_by p change kept left within stays goes = record {
  within = within;
  stays = stays;
  goes = λ j up low. ap (λ b. b || is_from left (guard_of p (numbered_at p j))) (goes j up low);
}

pub insert_leaves : (p : PlainList) (at n kept left : ℕ) → left ≤ kept → ((j : ℕ) → j < left → is_read_past at (uses_in p (numbered_at p j)) ≡ false)
    → ((j : ℕ) → left ≤ j → j < kept → is_read_past at (uses_in p (numbered_at p j)) ≡ true) → Leaves (fold_of p) (Insert at n) kept left
insert_leaves p at n kept left within stays goes = left_by p (Insert at n) kept left within stays goes

pub delete_leaves : (p : PlainList) (at n kept left : ℕ) → left ≤ kept → ((j : ℕ) → j < left → is_read_past at (uses_in p (numbered_at p j)) ≡ false)
    → ((j : ℕ) → left ≤ j → j < kept → is_read_past at (uses_in p (numbered_at p j)) ≡ true) → Leaves (fold_of p) (Delete at n) kept left
delete_leaves p at n kept left within stays goes = left_by p (Delete at n) kept left within stays goes
