-- Places that are added behind others, and the first of some places.
use Rattle.std.proofs.Common.{◌≡◌, ◌∙◌, ◌&&◌, ℕ, zero, suc, ◌+◌, ◌-◌, ◌*◌, ◌^◌, ◌<◌, ◌≤◌, true, nat_le, List, [], ◌∷◌, ◌++◌, length, take, refl, sym, ap}
use Rattle.std.proofs.Common.{subst, arith}
use Rattle.std.proofs.Math.Nat.{mul-le-mul_left}
use Rattle.std.proofs.lemmas.Bool.{and_parts}
use Rattle.std.proofs.lemmas.Bool.Decides.{nat_tests}
use Rattle.std.proofs.Common.{length-append, get_or, set}
use Rattle.ksv_expr_value.specs.Trail.{element_limit}
use Rattle.ksv_expr_value.specs.Places.{end_limit}
use Rattle.ksv_folds.proofs.Tests.{both}
use Rattle.std.proofs.Common.{nat_lt, nat_eq, Some, ◌⊎◌, inl, inr}
use Rattle.std.specs.Prelude.{Vec}
use Rattle.std.specs.declared.alloc.Global.{Global}
use Rattle.ksv_folds.proofs.Rooms.{start_room}
use Rattle.ksv_folds.specs.Lemmas.Starts.{fields_some, count_is, begins}
use Rattle.ksv_folds.specs.declared.plain_list.PlainList.{PlainList}
use Rattle.ksv_folds.specs.Parts.{nth, start_in, are_apart, are_starts}

pub apart_more : (size low : ℕ) (ss : List ℕ) (z : ℕ) → are_apart size low ss ≡ true → 0 < length ss → nth ss (length ss - 1) + size ≤ z
    → are_apart size low (ss ++ z ∷ []) ≡ true
apart_more size low [] z h some le = absurd (omega (arith, some))
apart_more size low (a ∷ []) z h some le =
    both (nat_le low a) (nat_le (a + size) z && true) (and_parts (nat_le low a) true h).0 (both (nat_le (a + size) z) true (test (a + size) z le) refl)
  where
    test : (m n : ℕ) → m ≤ n → nat_le m n ≡ true
    test m n h = grind (arith, nat_tests)
apart_more size low (a ∷ (b ∷ ss)) z h some le =
    let parts = and_parts (nat_le low a) (are_apart size (a + size) (b ∷ ss)) h in
    let same : suc (suc (length ss)) - 1 ≡ suc (suc (length ss) - 1) = omega arith in
    both (nat_le low a) (are_apart size (a + size) ((b ∷ ss) ++ z ∷ [])) parts.0 (apart_more size (a + size) (b ∷ ss) z parts.1 (omega arith)
    (subst (λ i. nth (a ∷ (b ∷ ss)) i + size ≤ z) same le))

pub apart_first : (size low n : ℕ) (ss : List ℕ) → are_apart size low ss ≡ true → are_apart size low (take n ss) ≡ true
apart_first size low zero ss h = refl
apart_first size low (suc n) [] h = refl
apart_first size low (suc n) (a ∷ ss) h =
    let parts = and_parts (nat_le low a) (are_apart size (a + size) ss) h in
    both (nat_le low a) (are_apart size (a + size) (take n ss)) parts.0 (apart_first size (a + size) n ss parts.1)

pub nth_last : (ss : List ℕ) (z : ℕ) → nth (ss ++ z ∷ []) (length ss) ≡ z
nth_last [] z = refl
nth_last (a ∷ ss) z = nth_last ss z

pub nth_first : (n : ℕ) (ss : List ℕ) (i : ℕ) → i < n → nth (take n ss) i ≡ nth ss i
nth_first zero ss i low = absurd (omega (arith, low))
nth_first (suc n) [] i low = refl
nth_first (suc n) (a ∷ ss) zero low = refl
nth_first (suc n) (a ∷ ss) (suc i) low = nth_first n ss i (omega (arith, low))

pub take_more : (ss : List ℕ) (n : ℕ) (z : ℕ) → n ≤ length ss → take n (ss ++ z ∷ []) ≡ take n ss
take_more ss zero z low = refl
take_more [] (suc n) z low = absurd (omega (arith, low))
take_more (a ∷ ss) (suc n) z low = ap (λ r. a ∷ r) (take_more ss n z (omega (arith, low)))

-- fewer elements than may have numbers
pub fewer : (per a b : ℕ) → (per + 1) * b + 2 * element_limit < 2 ^ 32 → a ≤ b → (per + 1) * a + 2 * element_limit < 2 ^ 32
fewer per a b room low = let up = mul-le-mul_left (per + 1) low in omega (arith, up, room)

pub one_apart : (size a : ℕ) → are_apart size 0 (a ∷ []) ≡ true
one_apart size a = let so : nat_le 0 a ≡ true = grind (arith, nat_tests) in ap (λ b. b && true) so

-- so the places stay so with one more
pub add_one : (size limit : ℕ) (old ss new : List ℕ) (next : ℕ) → new ≡ ss ++ next ∷ [] → 0 < length old → length ss < limit
    → nth ss (length ss - 1) + size ≤ next → next ≤ end_limit
    → (take (length old) ss ≡ old) × (length old ≤ length ss) × (length ss ≤ limit) × (are_apart size 0 ss ≡ true) × (nth ss (length ss - 1) ≤ end_limit)
    → (take (length old) new ≡ old) × (length old ≤ length new) × (length new ≤ limit) × (are_apart size 0 new ≡ true) × (nth new (length new - 1) ≤ end_limit)
add_one size limit old ss new next e some few le room h =
    let low = h.1 in
    let count : length new ≡ length ss + 1 = ap length e ∙ length-append ss (next ∷ []) in
    let at : length new - 1 ≡ length ss = omega (arith, count) in
    let last : nth new (length new - 1) ≡ next = ap (nth new) at ∙ ap (λ l. nth l (length ss)) e ∙ nth_last ss next in (
      ap (take (length old)) e ∙ take_more ss (length old) next low ∙ h.0,
      omega (arith, low, count),
      omega (arith, few, count),
      ap (are_apart size 0) e ∙ apart_more size 0 ss next h.3 (omega (arith, some, low)) le,
      omega (arith, last, room),
    )

-- a place that is there
pub nth_get : (ss : List ℕ) (i d : ℕ) → i < length ss → get_or ss i d ≡ nth ss i
nth_get [] i d low = absurd (omega (arith, low))
nth_get (a ∷ ss) zero d low = refl
nth_get (a ∷ ss) (suc i) d low = nth_get ss i d (omega (arith, low))

-- another last place
pub apart_set : (size low : ℕ) (ss : List ℕ) (i z : ℕ) → are_apart size low ss ≡ true → suc (suc i) ≡ length ss → nth ss i + size ≤ z
    → are_apart size low (set ss (suc i) z) ≡ true
apart_set size low [] i z h all le = absurd (omega (arith, all))
apart_set size low (a ∷ []) i z h all le = absurd (omega (arith, all))
apart_set size low (a ∷ (b ∷ [])) zero z h all le =
    both (nat_le low a) (nat_le (a + size) z && true) (and_parts (nat_le low a) (are_apart size (a + size) (b ∷ [])) h).0
    (both (nat_le (a + size) z) true (test (a + size) z le) refl)
  where
    test : (m n : ℕ) → m ≤ n → nat_le m n ≡ true
    test m n h = grind (arith, nat_tests)
apart_set size low (a ∷ (b ∷ (c ∷ ss))) zero z h all le = absurd (omega (arith, all))
apart_set size low (a ∷ (b ∷ ss)) (suc i) z h all le =
    let parts = and_parts (nat_le low a) (are_apart size (a + size) (b ∷ ss)) h in
    both (nat_le low a) (are_apart size (a + size) (set (b ∷ ss) (suc i) z)) parts.0
    (apart_set size (a + size) (b ∷ ss) i z parts.1 (omega (arith, all)) le)

pub nth_before : (ss : List ℕ) (j z i : ℕ) → i < j → nth (set ss j z) i ≡ nth ss i
nth_before [] j z i low = refl
nth_before (a ∷ ss) zero z i low = absurd (omega (arith, low))
nth_before (a ∷ ss) (suc j) z zero low = refl
nth_before (a ∷ ss) (suc j) z (suc i) low = nth_before ss j z i (omega (arith, low))

pub nth_set : (ss : List ℕ) (j z : ℕ) → j < length ss → nth (set ss j z) j ≡ z
nth_set [] j z low = absurd (omega (arith, low))
nth_set (a ∷ ss) zero z low = refl
nth_set (a ∷ ss) (suc j) z low = nth_set ss j z (omega (arith, low))

pub nth_kept : (old new : List ℕ) → take (length old) new ≡ old → (i : ℕ) → i < length old → nth new i ≡ nth old i
nth_kept old new e i low = sym (nth_first (length old) new i low) ∙ ap (λ l. nth l i) e

-- ---- told anew

-- the same list has these places too
pub starts_again : (old new : Vec ℕ Global) (first size most n k : ℕ) → are_starts (Some old) first size most k ≡ true → nth new.items 0 ≡ nth old.items 0
    → length new.items ≡ n + 1 → are_apart size 0 new.items ≡ true → are_starts (Some new) first size n k ≡ true
starts_again old new first size most n k h same count apart =
    both (nat_lt 1 k && nat_eq (length new.items) (n + 1)) (nat_eq (nth new.items 0) first && are_apart size 0 new.items)
    (both (nat_lt 1 k) (nat_eq (length new.items) (n + 1)) (less 1 k (fields_some old first size most k h)) (equal (length new.items) (n + 1) count))
    (both (nat_eq (nth new.items 0) first) (are_apart size 0 new.items) (equal (nth new.items 0) first (same ∙ begins old first size most k h)) apart)
  where
    less : (m n : ℕ) → m < n → nat_lt m n ≡ true
    less m n h = grind (arith, nat_tests)

    equal : (m n : ℕ) → m ≡ n → nat_eq m n ≡ true
    equal m n h = grind (arith, nat_tests)

-- all places are in the file
pub starts_room : (p : PlainList) (s : Vec ℕ Global) → p.starts ≡ Some s → (i : ℕ) → i < length s.items → nth s.items i ≤ end_limit
starts_room p s e i low =
    let h = subst (λ o. are_starts o p.first p.size p.most (length p.parts.items) ≡ true) e p.started in
    let count = count_is s p.first p.size p.most (length p.parts.items) h in
    subst (λ o. start_in o p.first p.size i ≤ end_limit) e (start_room p i (omega (arith, low, count)))

pub fewer_of : (per a b n : ℕ) → (per + 1) * a + 2 * element_limit < 2 ^ 32 → (per + 1) * b + 2 * element_limit < 2 ^ 32 → (n ≤ a) ⊎ (n ≤ b)
    → (per + 1) * n + 2 * element_limit < 2 ^ 32
fewer_of per a b n h g (inl low) = fewer per n a h low
fewer_of per a b n h g (inr low) = fewer per n b g low
