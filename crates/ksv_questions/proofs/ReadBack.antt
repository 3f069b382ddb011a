-- The bytes of an integer read as that integer.
use Rattle.ksv_questions.proofs.Common.{◌≡◌, ◌∙◌, ℕ, zero, suc, ◌+◌, ◌-◌, ◌*◌, ◌<◌, ◌≤◌, ℤ, Bool, true, false, ◌&&◌, List, length, ap, refl, arith}
use Rattle.ksv_questions.proofs.Common.{if◌then◌else◌}
use Rattle.std.proofs.Common.{◌/◌, ◌^◌, pos, negsuc}
use Rattle.std.specs.Prelude.{nat_le, int_le, int_lt, neg_ℤ, ◌-ℤ◌}
use Rattle.std.specs.Cmp.{first_so, second_so}
use Rattle.std.proofs.lemmas.Bool.Decides.{nat_tests}
use Rattle.std.proofs.lemmas.Int.{ints}
use Rattle.std.proofs.lemmas.List.{length-reverse, reverse-reverse}
use Rattle.std.proofs.lemmas.Grind.{pow_more}
use Rattle.ksv_desc.specs.declared.order.ByteOrder.{ByteOrder}
use Rattle.ksv_desc.specs.declared.order.ByteOrder.TheVariants.{Big, Little}
use Rattle.ksv_rule_meaning.specs.Integers.{integer_value, sum_of_bytes, unsigned_value}
use Rattle.ksv_expr_value.proofs.Binary.{byte_power}
use Rattle.ksv_texts.specs.Integers.{IntegerType, holds, in_order, integer_bytes, little_endian, value_count}

pub digits_length : (k n : ℕ) → length (little_endian k n) ≡ k
unfolding little_endian
digits_length zero n = refl
digits_length (suc k) n = ap suc (digits_length k (n / 256))

pub digits_sum : (k n : ℕ) → n < 256 ^ k → sum_of_bytes (little_endian k n) ≡ n
unfolding little_endian
digits_sum zero n h = omega arith
digits_sum (suc k) n h =
    let one : suc k ≡ k + 1 = omega arith in
    let all : n < 256 ^ k * 256 = omega (arith, ap (λ j. 256 ^ j) one ∙ pow_more 256 k, h) in
    omega (arith, digits_sum k (n / 256) (omega (arith, all)))

-- bytes in either order say the sum of their digits
in_order_sum : (order : ByteOrder) (bytes : List ℕ) → unsigned_value order (in_order order bytes) ≡ sum_of_bytes bytes
in_order_sum Little bytes = refl
in_order_sum Big bytes = ap sum_of_bytes (reverse-reverse bytes)

in_order_length : (order : ByteOrder) (bytes : List ℕ) → length (in_order order bytes) ≡ length bytes
in_order_length Little bytes = refl
in_order_length Big bytes = length-reverse bytes

-- an integer by its number of bytes and the number that they say
integer_by : Bool → ℕ → ℕ → ℤ
integer_by signed values n = if signed && nat_le (values / 2) n then pos n -ℤ pos values else pos n

value_is : (signed : Bool) (order : ByteOrder) (size n : ℕ) → n < 2 ^ (8 * size)
    → integer_value signed order (in_order order (little_endian size n)) ≡ integer_by signed (2 ^ (8 * size)) n
unfolding integer_value integer_by
value_is signed order size n h =
    let bound : n < 256 ^ size = omega (arith, byte_power size, h) in
    let sum = in_order_sum order (little_endian size n) ∙ digits_sum size n bound in
    rw (sum, in_order_length order (little_endian size n) ∙ digits_length size n) refl

-- two's complement among this many values
abbrev unsigned_in : ℕ → ℤ → ℕ
unsigned_in v (pos n) = n
unsigned_in v (negsuc n) = v - suc n

-- what is below half of a number is below it
halves : (v : ℕ) → v / 2 + v / 2 ≤ v
halves v = omega arith

if_true : (c : Bool) (x y : ℤ) → c ≡ true → (if c then x else y) ≡ x
if_true c x y e = rw e refl

if_false : (c : Bool) (x y : ℤ) → c ≡ false → (if c then x else y) ≡ y
if_false c x y e = rw e refl

read_at : (signed : Bool) (v : ℕ) (n : ℤ) → (if signed then int_le (neg_ℤ (pos (v / 2))) n && int_lt n (pos (v / 2)) else int_le (pos 0) n && int_lt n (pos v))
    ≡ true
    → (unsigned_in v n < v) × (integer_by signed v (unsigned_in v n) ≡ n)
unfolding integer_by
read_at true v (pos n) h =
    let low : int_lt (pos n) (pos (v / 2)) ≡ true = second_so (int_le (neg_ℤ (pos (v / 2))) (pos n)) (int_lt (pos n) (pos (v / 2))) h in
    let below : n < v / 2 = grind (arith, ints, low) in
    let half = halves v in
    let test : nat_le (v / 2) n ≡ false = grind (arith, nat_tests, below) in
    (omega (arith, below, half), if_false (nat_le (v / 2) n) (pos n -ℤ pos v) (pos n) test)
read_at true v (negsuc n) h =
    let low : int_le (neg_ℤ (pos (v / 2))) (negsuc n) ≡ true = first_so (int_le (neg_ℤ (pos (v / 2))) (negsuc n)) (int_lt (negsuc n) (pos (v / 2))) h in
    let above : suc n ≤ v / 2 = grind (arith, ints, low) in
    let half = halves v in
    let test : nat_le (v / 2) (v - suc n) ≡ true = grind (arith, nat_tests, above, half) in
    let same : pos (v - suc n) -ℤ pos v ≡ negsuc n = grind (arith, ints, above, half) in
    (omega (arith, above, half), if_true (nat_le (v / 2) (v - suc n)) (pos (v - suc n) -ℤ pos v) (pos (v - suc n)) test ∙ same)
read_at false v (pos n) h =
    let low : int_lt (pos n) (pos v) ≡ true = second_so (int_le (pos 0) (pos n)) (int_lt (pos n) (pos v)) h in
    let below : n < v = grind (arith, ints, low) in
    (below, refl)
read_at false v (negsuc n) h =
    let low : int_le (pos 0) (negsuc n) ≡ true = first_so (int_le (pos 0) (negsuc n)) (int_lt (negsuc n) (pos v)) h in
    let never : int_le (pos 0) (negsuc n) ≡ false = grind (arith, ints) in
    cc

pub read_back : (t : IntegerType) (n : ℤ) → holds t n ≡ true → integer_value t.is_signed t.order (integer_bytes t n) ≡ n
unfolding integer_bytes holds
read_back t (pos m) h = let p = read_at t.is_signed (value_count t) (pos m) h in value_is t.is_signed t.order t.size m p.0 ∙ p.1
read_back t (negsuc m) h = let p = read_at t.is_signed (value_count t) (negsuc m) h in value_is t.is_signed t.order t.size (value_count t - suc m) p.0 ∙ p.1
