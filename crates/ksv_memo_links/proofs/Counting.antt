-- The users of slots that go are no more than what those slots asked.
use Rattle.ksv_memo_links.proofs.Common.{◌≡◌, ◌≢◌, ◌⊎◌, inl, inr, true, false, cond, eqb, ℕ, suc, ◌+◌, ◌*◌, ◌<◌, ◌≤◌, List, [], ◌∷◌, length, set, get_or}
use Rattle.ksv_memo_links.proofs.Common.{Contains, refl, sym, ◌∙◌, ap, subst, arith, sum_by, AllPairs, get_or_past, get_or_default, sum_by-cons, sum_by-set}
use Rattle.ksv_memo_links.proofs.Common.{Contains-append_left, Contains-append_right, Contains-push, cases_lt, eqb_tells, row, one_if}
use Rattle.std.proofs.lemmas.List.{set_past}
use Rattle.std.proofs.lemmas.List.Sums.{sum_by-le, sum_by-le-sum_by}
use Rattle.ksv_memo_links.proofs.Edits.{row_set, row_other}
use Rattle.ksv_memo_links.proofs.Members.{none_in, first_or_later, not_later}

-- a sum in two ways
pub swapped : {X Y : Type 0} (f : X → Y → ℕ) (xs : List X) (ys : List Y) → sum_by (λ x. sum_by (f x) ys) xs ≡ sum_by (λ y. sum_by (λ x. f x y) xs) ys
swapped {X} {Y} f [] ys = sym (zeros ys)
  where
    zeros : (ys : List Y) → sum_by (λ (y : Y). 0) ys ≡ 0
    zeros [] = refl
    zeros (y ∷ ys) = sum_by-cons (λ (y : Y). 0) y ys ∙ omega (arith, zeros ys)
swapped {X} {Y} f (x ∷ xs) ys = cc (sum_by-cons (λ x. sum_by (f x) ys) x xs, swapped f xs ys, both ys)
  where
    both : (ys : List Y) → sum_by (f x) ys + sum_by (λ y. sum_by (λ x. f x y) xs) ys ≡ sum_by (λ y. sum_by (λ x. f x y) (x ∷ xs)) ys
    both [] = omega arith
    both (y ∷ ys) =
        omega (
          arith,
          sum_by-cons (f x) y ys,
          sum_by-cons (λ y. sum_by (λ x. f x y) xs) y ys,
          sum_by-cons (λ y. sum_by (λ x. f x y) (x ∷ xs)) y ys,
          sum_by-cons (λ x. f x y) x xs,
          both ys,
        )

row_emptied : (rows : List (List ℕ)) (w : ℕ) → row (set rows w []) w ≡ []
row_emptied rows w = elim (cases_lt w (length rows)) [
  | inl lt ↦ row_set _ _ _ lt
  | inr le ↦ cc (set_past rows w [] le, get_or_past rows w [] le)
]

-- one row less
sum_emptied : (g : List ℕ → ℕ) → g [] ≡ 0 → (rows : List (List ℕ)) (w : ℕ) → sum_by g (set rows w []) + g (row rows w) ≡ sum_by g rows
sum_emptied g z rows w = elim (cases_lt w (length rows)) [
  | inl lt ↦ omega (arith, sum_by-set g rows w [] [] lt)
  | inr le ↦ omega (arith, ap (sum_by g) (set_past rows w [] le), ap g (get_or_past rows w [] le))
]

less_after : (g : List ℕ → ℕ) → g [] ≡ 0 → (rows : List (List ℕ)) (w o : ℕ) → g (row (set rows w []) o) ≤ g (row rows o)
less_after g z rows w o = elim (eqb_tells o w) [
  | inl e ↦ omega (arith, ap (λ n. g (row (set rows w []) n)) e.1, ap g (row_emptied rows w))
  | inr e ↦ omega (arith, ap g (row_other rows w o [] e.1))
]

left_after : (g : List ℕ → ℕ) → g [] ≡ 0 → (rows : List (List ℕ)) (w : ℕ) (ws : List ℕ) → ((o : ℕ) → 0 < g (row rows o) → Contains (w ∷ ws) o) → (o : ℕ)
    → 0 < g (row (set rows w []) o) → Contains ws o
left_after g z rows w ws h o lt = elim (eqb_tells o w) [
  | inl e ↦ let f = ap (λ n. g (row (set rows w []) n)) e.1 in let k = ap g (row_emptied rows w) in absurd (omega arith)
  | inr e ↦ let f = ap g (row_other rows w o [] e.1) in later (first_or_later w ws o (h o (omega arith))) e.1
]
  where
    later : (w ≡ o) ⊎ Contains ws o → o ≢ w → Contains ws o
    later (inl e) ne = absurd (ne (sym e))
    later (inr c) ne = c

none_counts : (g : List ℕ → ℕ) (rows : List (List ℕ)) → ((o : ℕ) → 0 < g (row rows o) → Contains {X = ℕ} [] o) → (k : ℕ) (d : List ℕ) → k < length rows
    → g (get_or rows k d) ≤ 0
none_counts g rows h k d lt = elim (cases_lt 0 (g (row rows k))) [
  | inl p ↦ absurd (none_in k (h k p))
  | inr le ↦ omega (arith, ap g (get_or_default rows k d [] lt))
]

-- a sum over rows is one over the slots of the rows that count
pub supported : (g : List ℕ → ℕ) → g [] ≡ 0 → (ws : List ℕ) (rows : List (List ℕ)) → ((o : ℕ) → 0 < g (row rows o) → Contains ws o)
    → sum_by g rows ≤ sum_by (λ o. g (row rows o)) ws
supported g z [] rows h = let m : sum_by g rows ≤ length rows * 0 = sum_by-le g 0 rows (none_counts g rows h) in omega arith
supported g z (w ∷ ws) rows h =
    omega (
      arith,
      supported g z ws (set rows w []) (left_after g z rows w ws h),
      sum_emptied g z rows w,
      sum_by-le-sum_by (λ o. g (row (set rows w []) o)) (λ o. g (row rows o)) ws (less_after g z rows w),
      sum_by-cons (λ o. g (row rows o)) w ws,
    )

-- what isn't among the slots isn't counted
not_counted_next : (n v : ℕ) (vs : List ℕ) → (Contains (v ∷ vs) n → ⊥) → ((eqb v n ≡ true) × (v ≡ n)) ⊎ ((eqb v n ≡ false) × (v ≢ n))
    → sum_by (λ s. one_if s n) vs ≡ 0 → sum_by (λ s. one_if s n) (v ∷ vs) ≡ 0
not_counted_next n v vs k (inl e) h = absurd (k (subst (Contains (v ∷ vs)) e.1 (Contains-append_left (v ∷ []) vs v (Contains-push [] v))))
not_counted_next n v vs k (inr e) h = let t : one_if v n ≡ 0 = ap (λ b. cond b 1 0) e.0 in omega (arith, sum_by-cons (λ s. one_if s n) v vs)

not_counted : (n : ℕ) (vs : List ℕ) → (Contains vs n → ⊥) → sum_by (λ s. one_if s n) vs ≡ 0
not_counted n [] k = refl
not_counted n (v ∷ vs) k = not_counted_next n v vs k (eqb_tells v n) (not_counted n vs (λ c. k (Contains-append_right (v ∷ []) vs n c)))

one_more : (w : ℕ) (ws : List ℕ) (n : ℕ) → AllPairs (λ (a b : ℕ). a ≢ b) (w ∷ ws) → ((eqb w n ≡ true) × (w ≡ n)) ⊎ ((eqb w n ≡ false) × (w ≢ n))
    → sum_by (λ s. one_if s n) ws ≤ 1 → sum_by (λ s. one_if s n) (w ∷ ws) ≤ 1
one_more w ws n h (inl e) ih = let r =
    not_counted n ws (rw e.1 at (not_later [] ws w h)) in let t : one_if w n ≡ 1 =
    ap (λ b. cond b 1 0) e.0 in omega (arith, sum_by-cons (λ s. one_if s n) w ws)
one_more w ws n h (inr e) ih = let t : one_if w n ≡ 0 = ap (λ b. cond b 1 0) e.0 in omega (arith, sum_by-cons (λ s. one_if s n) w ws)

-- of slots that differ at most one is n
at_most_one : (ws : List ℕ) (n : ℕ) → AllPairs (λ (a b : ℕ). a ≢ b) ws → sum_by (λ s. one_if s n) ws ≤ 1
at_most_one [] n h = omega arith
at_most_one (w ∷ ws) n h = one_more w ws n h (eqb_tells w n) (at_most_one ws n (λ i j e lt l. h (suc i) (suc j) e (omega arith) (omega arith)))

-- how many of these asks go to one of these slots
abbrev pub tally : List ℕ → List ℕ → ℕ
tally ws ns = sum_by (λ s. sum_by (one_if s) ns) ws

pub tally_few : (ws ns : List ℕ) → AllPairs (λ (a b : ℕ). a ≢ b) ws → tally ws ns ≤ length ns
tally_few ws ns h =
    omega (arith, swapped one_if ws ns, sum_by-le (λ n. sum_by (λ s. one_if s n) ws) 1 ns (λ k d lt. at_most_one ws (get_or ns k d) h))

tally_none : (ws : List ℕ) → tally ws [] ≡ 0
tally_none [] = refl
tally_none (w ∷ ws) = omega (arith, sum_by-cons (λ s. sum_by (one_if s) []) w ws, tally_none ws)

-- the users of slots that go are no more than what those slots asked, where no list has more items than asks name it
pub users_few : {X : Type 0} (lists : List (List X)) (asked : List (List ℕ)) (ws : List ℕ) → AllPairs (λ (a b : ℕ). a ≢ b) ws
    → ((s : ℕ) → length (row lists s) ≤ sum_by (λ ns. sum_by (one_if s) ns) asked) → ((o : ℕ) → 0 < tally ws (row asked o) → Contains ws o)
    → sum_by (λ s. length (row lists s)) ws ≤ sum_by (λ o. length (row asked o)) ws
users_few lists asked ws apart counts closed =
    let a = sum_by-le-sum_by (λ s. length (row lists s)) (λ s. sum_by (λ ns. sum_by (one_if s) ns) asked) ws (λ s. let e = counts s in omega arith) in
    let b = swapped (λ s ns. sum_by (one_if s) ns) ws asked in
    let c = supported (tally ws) (tally_none ws) ws asked closed in
    let d = sum_by-le-sum_by (λ o. tally ws (row asked o)) (λ o. length (row asked o)) ws (λ o. tally_few ws (row asked o) apart) in
    omega arith
