-- Where elements begin, one behind the other.
use Rattle.std.proofs.Common.{◌≡◌, ◌&&◌, ℕ, zero, suc, ◌+◌, ◌<◌, ◌≤◌, true, nat_lt, nat_le, nat_eq, List, [], ◌∷◌, length, Some, arith}
use Rattle.std.proofs.lemmas.Bool.{and_parts}
use Rattle.std.proofs.lemmas.Bool.Decides.{nat_tests}
use Rattle.std.specs.Prelude.{Vec}
use Rattle.std.specs.declared.alloc.Global.{Global}
use Rattle.ksv_folds.specs.Parts.{nth, are_apart, are_starts}

rise : (size low : ℕ) (ss : List ℕ) → are_apart size low ss ≡ true → (i : ℕ) → suc i < length ss → nth ss i + size ≤ nth ss (suc i)
rise size low [] h i few = absurd (omega (arith, few))
rise size low (a ∷ []) h i few = absurd (omega (arith, few))
rise size low (a ∷ (b ∷ ss)) h zero few =
    let rest = (and_parts (nat_le low a) (are_apart size (a + size) (b ∷ ss)) h).1 in
    let next = (and_parts (nat_le (a + size) b) (are_apart size (b + size) ss) rest).0 in le (a + size) b next
  where
    le : (m n : ℕ) → nat_le m n ≡ true → m ≤ n
    le m n e = grind (arith, nat_tests)
rise size low (a ∷ (b ∷ ss)) h (suc i) few =
    rise size (a + size) (b ∷ ss) (and_parts (nat_le low a) (are_apart size (a + size) (b ∷ ss)) h).1 i (omega (arith, few))

module _ (s : Vec ℕ Global) (first size most k : ℕ) (h : are_starts (Some s) first size most k ≡ true) where
  parts : (nat_lt 1 k ≡ true) × (nat_eq (length s.items) (most + 1) ≡ true) × (nat_eq (nth s.items 0) first ≡ true) × (are_apart size 0 s.items ≡ true)
  parts =
      let a = and_parts (nat_lt 1 k && nat_eq (length s.items) (most + 1)) (nat_eq (nth s.items 0) first && are_apart size 0 s.items) h in
      let b = and_parts (nat_lt 1 k) (nat_eq (length s.items) (most + 1)) a.0 in
      let c = and_parts (nat_eq (nth s.items 0) first) (are_apart size 0 s.items) a.1 in (b.0, b.1, c.0, c.1)

  -- there are fields, and a number for each element and one more
  pub fields_some : 1 < k
  fields_some = let e = parts.0 in grind (arith, nat_tests)

  pub count_is : length s.items ≡ most + 1
  count_is = let e = parts.1 in grind (arith, nat_tests)

  -- the first begins where the list does, and each other one behind the one before
  pub begins : nth s.items 0 ≡ first
  begins = let e = parts.2 in grind (arith, nat_tests)

  pub next_start : (i : ℕ) → i < most → nth s.items i + size ≤ nth s.items (suc i)
  next_start i low = let all = count_is in rise size 0 s.items (parts.3) i (omega (arith, low, all))
