-- The bits of two's complement: the law of operators on bits; and the same as a machine holds them in 128 bits.
use Rattle.std.proofs.Common.{◌≡◌, ℕ, zero, suc, ◌+◌, ◌-◌, ◌^◌, ◌%◌, ◌<◌, min, max, ℤ, pos, negsuc, true, false, nat_lt, arith, refl, ap, sym, ◌∙◌}
use Rattle.std.specs.Int.{bit_at}
use Rattle.std.specs.Int.Bits.{bit_and, bit_or, bit_xor, or_add_and, xor_add_and, and_self}
use Rattle.std.proofs.lemmas.Nat.{and-not, and_comm, and_le_l, and_le_r, and_assoc}
use Rattle.std.proofs.lemmas.Nat.Bits.{bit_at_and, bit_at_or, bit_at_xor, bit_at-lt}
use Rattle.std.proofs.lemmas.Bool.{ltb-true}
use Rattle.std.proofs.lemmas.Bool.Decides.{nat_tests}
use mir.Val.{sel}
use Rattle.std.proofs.lemmas.Int.{ints}
use Rattle.std.specs.Int.{cast_unsigned, cast_signed, w128}
use Rattle.ksv_expr_meaning.specs.Integers.{complement, bits_and, bits_or, bits_xor, bit, BitsAreTold}
use Rattle.ksv_expr_value.specs.Range.{in_range}

-- ---- the law

bit_below : (z : ℤ) (k : ℕ) → bit z k < 2
bit_below (pos n) k = bit_at-lt n k
bit_below (negsuc n) k = omega arith

turned_bit : (z : ℤ) (k : ℕ) → bit (complement z) k ≡ 1 - bit z k
turned_bit (pos n) k = refl
turned_bit (negsuc n) k = let s = bit_at-lt n k in omega arith

-- a number without the bits of another
less_and : (a b : ℕ) → a - bit_and a b ≡ bit_xor a (bit_and a b)
less_and a b =
    let sum = xor_add_and a (bit_and a b) in
    let same : bit_and a (bit_and a b) ≡ bit_and a b = sym (and_assoc b a a) ∙ ap (λ x. bit_and x b) (and_self a) in
    let below = and_le_l a b in
    omega arith

less_bit : (x y : ℕ) → x < 2 → y < 2 → (x + min x y) % 2 ≡ min x (1 - y)
less_bit zero zero h k = refl
less_bit zero (suc zero) h k = refl
less_bit (suc zero) zero h k = refl
less_bit (suc zero) (suc zero) h k = refl
less_bit zero (suc (suc y)) h k = absurd (omega arith)
less_bit (suc zero) (suc (suc y)) h k = absurd (omega arith)
less_bit (suc (suc x)) y h k = absurd (omega arith)

bit_less : (a b k : ℕ) → bit_at (a - bit_and a b) k ≡ min (bit_at a k) (1 - bit_at b k)
bit_less a b k = ap (λ n. bit_at n k) (less_and a b) ∙ bit_at_xor a (bit_and a b) k ∙ ap (λ x. (bit_at a k + x) % 2) (bit_at_and a b k)
    ∙ less_bit (bit_at a k) (bit_at b k) (bit_at-lt a k) (bit_at-lt b k)

both_bits : (a b : ℤ) (k : ℕ) → bit (bits_and a b) k ≡ min (bit a k) (bit b k)
both_bits (pos a) (pos b) k = bit_at_and a b k
both_bits (pos a) (negsuc b) k = bit_less a b k
both_bits (negsuc a) (pos b) k = ap (λ n. bit_at (b - n) k) (and_comm a b) ∙ bit_less b a k ∙ flipped (bit_at b k) (1 - bit_at a k)
  where
    flipped : (x y : ℕ) → min x y ≡ min y x
    flipped x y = omega arith
both_bits (negsuc a) (negsuc b) k =
    let sum = or_add_and a b in
    let below = and_le_r a b in
    let or : a + (b - bit_and a b) ≡ bit_or a b = omega arith in
    ap (λ n. 1 - bit_at n k) or ∙ ap (λ x. 1 - x) (bit_at_or a b k) ∙ turned_max (bit_at a k) (bit_at b k)
  where
    turned_max : (x y : ℕ) → 1 - max x y ≡ min (1 - x) (1 - y)
    turned_max x y = omega arith

either_bits : (a b : ℤ) (k : ℕ) → bit (bits_or a b) k ≡ max (bit a k) (bit b k)
either_bits a b k =
    turned_bit (bits_and (complement a) (complement b)) k
    ∙ ap (λ x. 1 - x) (both_bits (complement a) (complement b) k)
    ∙ ap (λ x. 1 - min x (bit (complement b) k)) (turned_bit a k)
    ∙ ap (λ y. 1 - min (1 - bit a k) y) (turned_bit b k)
    ∙ turned_min (bit a k) (bit b k) (bit_below a k) (bit_below b k)
  where
    turned_min : (x y : ℕ) → x < 2 → y < 2 → 1 - min (1 - x) (1 - y) ≡ max x y
    turned_min x y h l = omega arith

turned_sum_bit : (x y : ℕ) → x < 2 → y < 2 → 1 - (x + y) % 2 ≡ (x + (1 - y)) % 2
turned_sum_bit zero zero h k = refl
turned_sum_bit zero (suc zero) h k = refl
turned_sum_bit (suc zero) zero h k = refl
turned_sum_bit (suc zero) (suc zero) h k = refl
turned_sum_bit zero (suc (suc y)) h k = absurd (omega arith)
turned_sum_bit (suc zero) (suc (suc y)) h k = absurd (omega arith)
turned_sum_bit (suc (suc x)) y h k = absurd (omega arith)

turned_twice : (x y : ℕ) → x < 2 → y < 2 → (x + y) % 2 ≡ ((1 - x) + (1 - y)) % 2
turned_twice zero zero h k = refl
turned_twice zero (suc zero) h k = refl
turned_twice (suc zero) zero h k = refl
turned_twice (suc zero) (suc zero) h k = refl
turned_twice zero (suc (suc y)) h k = absurd (omega arith)
turned_twice (suc zero) (suc (suc y)) h k = absurd (omega arith)
turned_twice (suc (suc x)) y h k = absurd (omega arith)

one_bit : (a b : ℤ) (k : ℕ) → bit (bits_xor a b) k ≡ (bit a k + bit b k) % 2
one_bit (pos a) (pos b) k =
    let sum = xor_add_and a b in
    let low = and_le_l a b in
    let high = and_le_r a b in
    let is : bits_xor (pos a) (pos b) ≡ pos (bit_xor a b) = omega (arith, ints) in
    ap (λ z. bit z k) is ∙ bit_at_xor a b k
one_bit (pos a) (negsuc b) k =
    let sum = xor_add_and a b in
    let low = and_le_l a b in
    let high = and_le_r a b in
    let is : bits_xor (pos a) (negsuc b) ≡ negsuc (bit_xor a b) = omega (arith, ints) in
    ap (λ z. bit z k) is ∙ ap (λ x. 1 - x) (bit_at_xor a b k) ∙ turned_sum_bit (bit_at a k) (bit_at b k) (bit_at-lt a k) (bit_at-lt b k)
one_bit (negsuc a) (pos b) k =
    let sum = xor_add_and a b in
    let low = and_le_l a b in
    let high = and_le_r a b in
    let is : bits_xor (negsuc a) (pos b) ≡ negsuc (bit_xor a b) = omega (arith, ints) in
    ap (λ z. bit z k) is ∙ ap (λ x. 1 - x) (bit_at_xor a b k) ∙ ap (λ n. 1 - n % 2) (swapped (bit_at a k) (bit_at b k))
    ∙ turned_sum_bit (bit_at b k) (bit_at a k) (bit_at-lt b k) (bit_at-lt a k) ∙ ap (λ n. n % 2) (swapped (bit_at b k) (1 - bit_at a k))
  where
    swapped : (x y : ℕ) → x + y ≡ y + x
    swapped x y = omega arith
one_bit (negsuc a) (negsuc b) k =
    let sum = xor_add_and a b in
    let low = and_le_l a b in
    let high = and_le_r a b in
    let is : bits_xor (negsuc a) (negsuc b) ≡ pos (bit_xor a b) = omega (arith, ints) in
    ap (λ z. bit z k) is ∙ bit_at_xor a b k ∙ turned_twice (bit_at a k) (bit_at b k) (bit_at-lt a k) (bit_at-lt b k)

pub bits_are_told : BitsAreTold
bits_are_told a b k = record { complements = turned_bit a k; both = both_bits a b k; either = either_bits a b k; one = one_bit a b k }

-- ---- as 128 bits hold them

-- the numbers that 128 bits hold below 2^127, and those from there on
small : (n m : ℕ) → n ≡ m → m < 2 ^ 127 → cast_signed w128 n ≡ pos m
small n m e h = omega (arith, ints)

large : (n m : ℕ) → n ≡ 2 ^ 128 - suc m → m < 2 ^ 127 → cast_signed w128 n ≡ negsuc m
large n m e h =
    let above : nat_lt n (2 ^ 127) ≡ false = grind (arith, nat_tests) in
    ap (λ b. sel b (pos n) (negsuc (2 ^ 128 - suc n))) above ∙ ap negsuc (omega arith)

-- and with a number whose bits are all turned
and_turned : (a b : ℕ) → a < 2 ^ 128 → b < 2 ^ 128 → bit_and a (2 ^ 128 - suc b) ≡ a - bit_and a b
and_turned a b la lb =
    let e : 2 ^ 128 - suc b ≡ 2 ^ 128 - 1 - b = omega arith in
    let split = and-not 128 b a lb la in
    let left = and_comm (2 ^ 128 - 1 - b) a in
    let right = and_comm b a in
    ap (bit_and a) e ∙ by_sum (bit_and a (2 ^ 128 - 1 - b)) (bit_and a b) (bit_and (2 ^ 128 - 1 - b) a) (bit_and b a) a split left right
  where
    by_sum : (x y x' y' a : ℕ) → x' + y' ≡ a → x' ≡ x → y' ≡ y → x ≡ a - y
    by_sum x y x' y' a e l r = omega arith

turned_and : (a b : ℕ) → a < 2 ^ 128 → b < 2 ^ 128 → bit_and (2 ^ 128 - suc a) b ≡ b - bit_and a b
turned_and a b la lb = and_comm (2 ^ 128 - suc a) b ∙ and_turned b a lb la ∙ ap (λ x. b - x) (and_comm b a)

-- and of two such numbers
both_turned : (a b : ℕ) → a < 2 ^ 64 → b < 2 ^ 64 → bit_and (2 ^ 128 - suc a) (2 ^ 128 - suc b) ≡ 2 ^ 128 - suc (a + (b - bit_and a b))
both_turned a b la lb =
    and_turned (2 ^ 128 - suc a) b (omega arith) (omega arith)
    ∙ ap (λ x. 2 ^ 128 - suc a - x) (turned_and a b (omega arith) (omega arith))
    ∙ regroup (2 ^ 128) a b (bit_and a b)
  where
    regroup : (m a b c : ℕ) → m - suc a - (b - c) ≡ m - suc (a + (b - c))
    regroup m a b c = omega arith

-- what 128 bits hold of two numbers of the range is the same as what two's complement of any width has of them
pub seen_and : (x y : ℤ) → in_range x ≡ true → in_range y ≡ true → cast_signed w128 (bit_and (cast_unsigned w128 x) (cast_unsigned w128 y)) ≡ bits_and x y
seen_and (pos a) (pos b) h k =
    let la = ltb-true a (2 ^ 64) h in
    small (bit_and a b) (bit_and a b) refl (omega (arith, and_le_l a b))
seen_and (pos a) (negsuc b) h k =
    let la = ltb-true a (2 ^ 64) h in
    let lb = ltb-true b (2 ^ 63) k in
    small (bit_and a (2 ^ 128 - suc b)) (a - bit_and a b) (and_turned a b (omega arith) (omega arith)) (omega arith)
seen_and (negsuc a) (pos b) h k =
    let la = ltb-true a (2 ^ 63) h in
    let lb = ltb-true b (2 ^ 64) k in
    small (bit_and (2 ^ 128 - suc a) b) (b - bit_and a b) (turned_and a b (omega arith) (omega arith)) (omega arith)
seen_and (negsuc a) (negsuc b) h k =
    let la = ltb-true a (2 ^ 63) h in
    let lb = ltb-true b (2 ^ 63) k in
    large (bit_and (2 ^ 128 - suc a) (2 ^ 128 - suc b)) (a + (b - bit_and a b)) (both_turned a b (omega arith) (omega arith)) (omega arith)

pub seen_or : (x y : ℤ) → in_range x ≡ true → in_range y ≡ true → cast_signed w128 (bit_or (cast_unsigned w128 x) (cast_unsigned w128 y)) ≡ bits_or x y
seen_or (pos a) (pos b) h k =
    let la = ltb-true a (2 ^ 64) h in
    let lb = ltb-true b (2 ^ 64) k in
    let sum = or_add_and a b in
    let below = and_le_r a b in
    small (bit_or a b) (a + (b - bit_and a b)) (omega arith) (omega arith)
seen_or (pos a) (negsuc b) h k =
    let la = ltb-true a (2 ^ 64) h in
    let lb = ltb-true b (2 ^ 63) k in
    let sum = or_add_and a (2 ^ 128 - suc b) in
    let both = and_turned a b (omega arith) (omega arith) in
    let below = and_le_r a b in
    let under = and_le_l a b in
    large (bit_or a (2 ^ 128 - suc b)) (b - bit_and a b) (omega arith) (omega arith)
seen_or (negsuc a) (pos b) h k =
    let la = ltb-true a (2 ^ 63) h in
    let lb = ltb-true b (2 ^ 64) k in
    let sum = or_add_and (2 ^ 128 - suc a) b in
    let both = turned_and a b (omega arith) (omega arith) in
    let below = and_le_r a b in
    let under = and_le_l a b in
    large (bit_or (2 ^ 128 - suc a) b) (a - bit_and a b) (omega arith) (omega arith)
seen_or (negsuc a) (negsuc b) h k =
    let la = ltb-true a (2 ^ 63) h in
    let lb = ltb-true b (2 ^ 63) k in
    let sum = or_add_and (2 ^ 128 - suc a) (2 ^ 128 - suc b) in
    let both = both_turned a b (omega arith) (omega arith) in
    let below = and_le_r a b in
    let under = and_le_l a b in
    large (bit_or (2 ^ 128 - suc a) (2 ^ 128 - suc b)) (bit_and a b) (omega arith) (omega arith)

pub seen_xor : (x y : ℤ) → in_range x ≡ true → in_range y ≡ true → cast_signed w128 (bit_xor (cast_unsigned w128 x) (cast_unsigned w128 y)) ≡ bits_xor x y
seen_xor (pos a) (pos b) h k =
    let la = ltb-true a (2 ^ 64) h in
    let lb = ltb-true b (2 ^ 64) k in
    let sum = xor_add_and a b in
    let below = and_le_r a b in
    let under = and_le_l a b in
    small (bit_xor a b) (a + (b - bit_and a b) - bit_and a b) (omega arith) (omega arith) ∙ omega (arith, ints)
seen_xor (pos a) (negsuc b) h k =
    let la = ltb-true a (2 ^ 64) h in
    let lb = ltb-true b (2 ^ 63) k in
    let sum = xor_add_and a (2 ^ 128 - suc b) in
    let both = and_turned a b (omega arith) (omega arith) in
    let below = and_le_r a b in
    let under = and_le_l a b in
    large (bit_xor a (2 ^ 128 - suc b)) (b - bit_and a b + (a - bit_and a b)) (omega arith) (omega arith) ∙ omega (arith, ints)
seen_xor (negsuc a) (pos b) h k =
    let la = ltb-true a (2 ^ 63) h in
    let lb = ltb-true b (2 ^ 64) k in
    let sum = xor_add_and (2 ^ 128 - suc a) b in
    let both = turned_and a b (omega arith) (omega arith) in
    let below = and_le_r a b in
    let under = and_le_l a b in
    large (bit_xor (2 ^ 128 - suc a) b) (a - bit_and a b + (b - bit_and a b)) (omega arith) (omega arith) ∙ omega (arith, ints)
seen_xor (negsuc a) (negsuc b) h k =
    let la = ltb-true a (2 ^ 63) h in
    let lb = ltb-true b (2 ^ 63) k in
    let sum = xor_add_and (2 ^ 128 - suc a) (2 ^ 128 - suc b) in
    let both = both_turned a b (omega arith) (omega arith) in
    let below = and_le_r a b in
    let under = and_le_l a b in
    small (bit_xor (2 ^ 128 - suc a) (2 ^ 128 - suc b)) (a + (b - bit_and a b) - bit_and a b) (omega arith) (omega arith) ∙ omega (arith, ints)
