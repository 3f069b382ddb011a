-- Where a walk along the items of a list is, told from the place that it has, and how it goes on.
use Rattle.ksv_memo_links.proofs.Common.{◌≡◌, ◌≢◌, ◌⊎◌, inl, inr, true, false, eqb, cond, ℕ, zero, suc, ◌+◌, ◌-◌, ◌<◌, ◌≤◌, List, [], ◌∷◌, length, get_or, refl}
use Rattle.ksv_memo_links.proofs.Common.{ap, arith, eqb_tells, Item, row, at, item_at, IsListed}

-- how many of these items come from the one at a place on
abbrev pub left_from : List Item → ℕ → ℕ
left_from [] p = 0
left_from (x ∷ xs) p = cond (eqb x.at p) (suc (length xs)) (left_from xs p)

-- how many come before it
abbrev pub seen_to : List Item → ℕ → ℕ
seen_to xs p = length xs - left_from xs p

left-at : (xs : List Item) → ((i j : ℕ) → i < j → j ≤ length xs → (get_or xs i (at 0 0)).at ≢ (get_or xs j (at 0 0)).at) → (i : ℕ) → i ≤ length xs
    → left_from xs (get_or xs i (at 0 0)).at ≡ length xs - i
left-at [] h i le = omega arith
left-at (x ∷ xs) h zero le = by (eqb_tells x.at x.at)
  where
    by : ((eqb x.at x.at ≡ true) × (x.at ≡ x.at)) ⊎ ((eqb x.at x.at ≡ false) × (x.at ≢ x.at))
        → cond (eqb x.at x.at) (suc (length xs)) (left_from xs x.at) ≡ suc (length xs) - 0
    by (inl e) = omega (arith, ap (λ b. cond b (suc (length xs)) (left_from xs x.at)) e.0)
    by (inr e) = absurd (e.1 refl)
left-at (x ∷ xs) h (suc i) le = by (left-at xs (λ j k lt l. h (suc j) (suc k) (omega arith) (omega arith)) i (omega arith))
    (eqb_tells x.at (get_or xs i (at 0 0)).at)
  where
    by : left_from xs (get_or xs i (at 0 0)).at ≡ length xs - i
        → ((eqb x.at (get_or xs i (at 0 0)).at ≡ true) × (x.at ≡ (get_or xs i (at 0 0)).at)) ⊎
        ((eqb x.at (get_or xs i (at 0 0)).at ≡ false) × (x.at ≢ (get_or xs i (at 0 0)).at))
        → cond (eqb x.at (get_or xs i (at 0 0)).at) (suc (length xs)) (left_from xs (get_or xs i (at 0 0)).at) ≡ suc (length xs) - suc i
    by r (inl e) = absurd (h zero (suc i) (omega arith) le e.1)
    by r (inr e) = omega (arith, ap (λ b. cond b (suc (length xs)) (left_from xs (get_or xs i (at 0 0)).at)) e.0)

-- a walk is at the place of an item of a list, or of none after the last
abbrev pub StandsAt : List (List Item) → ℕ → ℕ → Type 0
StandsAt lists s p = p ≡ (item_at lists s (seen_to (row lists s) p)).at

-- a walk goes on from a place, where it found an item with the next place
pub record Steps (lists : List (List Item)) (s p : ℕ) (x : Item) : Type 0 where
  pub inside : seen_to (row lists s) p < length (row lists s)
  pub owner : x.owner ≡ (item_at lists s (seen_to (row lists s) p)).owner
  pub stands : StandsAt lists s x.at
  pub seen : seen_to (row lists s) x.at ≡ seen_to (row lists s) p + 1
  pub less : left_from (row lists s) x.at < left_from (row lists s) p

module _ {lists : List (List Item)} {named : List (List ℕ)} (s : ℕ) (h : IsListed lists named) where
  left-is : (i p : ℕ) → i ≤ length (row lists s) → p ≡ (item_at lists s i).at → left_from (row lists s) p ≡ length (row lists s) - i
  left-is i p le e = cc (left-at (row lists s) (h.apart s) i le)

  seen-is : (i p : ℕ) → i ≤ length (row lists s) → p ≡ (item_at lists s i).at → seen_to (row lists s) p ≡ i
  seen-is i p le e = omega (arith, left-is i p le e)

  stands-at : (i p : ℕ) → i ≤ length (row lists s) → p ≡ (item_at lists s i).at → StandsAt lists s p
  stands-at i p le e = cc (seen-is i p le e)

  -- at the first item
  pub starts : {p : ℕ} → p ≡ (item_at lists s 0).at → StandsAt lists s p × (seen_to (row lists s) p ≡ 0)
  starts {p} e = (stands-at 0 p (omega arith) e, seen-is 0 p (omega arith) e)

  -- at the next one, told from the lists as they are now, which are the same
  pub steps : {now : List (List Item)} (p : ℕ) (x : Item) → now ≡ lists → StandsAt lists s p
      → ((list i : ℕ) → p ≡ (item_at now list i).at → (i < length (row now list)) × (x.owner ≡ (item_at now list i).owner)
      × (x.at ≡ (item_at now list (i + 1)).at)) → Steps lists s p x
  steps p x same stands tells =
      let i = seen_to (row lists s) p in
      let found = (rw same at tells) s i stands in
      let before = left-is i p (omega arith) stands in
      let after = left-is (i + 1) _ (omega arith) found.2 in
      record {
        inside = found.0;
        owner = found.1;
        stands = stands-at _ _ (omega arith) found.2;
        seen = seen-is _ _ (omega arith) found.2;
        less = omega arith;
      }

  -- after the last
  pub ended : {now : List (List Item)} (p : ℕ) → now ≡ lists → StandsAt lists s p → ((list i : ℕ) → p ≡ (item_at now list i).at → length (row now list) ≤ i)
      → length (row lists s) ≤ seen_to (row lists s) p
  ended p same stands none = (rw same at none) s (seen_to (row lists s) p) stands
