-- Integers of bytes that are read one by one, and in two parts.
use Rattle.std.proofs.Common.{◌≡◌, ◌∙◌, ℕ, suc, ◌+◌, ◌-◌, ◌*◌, ◌%◌, ◌^◌, ◌<◌, ◌≤◌, List, [], ◌∷◌, ◌++◌, length, take, drop, get_or, reverse, ap}
use Rattle.std.proofs.Common.{sym, arith, lit<}
use Rattle.std.proofs.lemmas.List.{drop_more, reverse-append, take_more, length-reverse}
use Rattle.std.proofs.lemmas.Grind.{pow_more}
use Rattle.std.proofs.lemmas.Nat.{pow-add, one_shl}
use Rattle.std.proofs.Math.Nat.{pow-le-pow_right, mul-le-mul_left, mul_assoc, mul_comm}
use Rattle.ksv_expr_value.proofs.Binary.{byte_power}
use Rattle.ksv_rule_meaning.specs.Integers.{sum_of_bytes}

-- one more byte after those that were read from the front
pub front_more : (bytes : List ℕ) (i value byte : ℕ) → i < length bytes → value ≡ sum_of_bytes (reverse (take i bytes)) → byte ≡ get_or bytes i 0
    → value * 256 + byte ≡ sum_of_bytes (reverse (take (i + 1) bytes))
front_more bytes i value byte lt so_far is =
    let last = ap reverse (take_more bytes i 0 lt) ∙ reverse-append (take i bytes) (get_or bytes i 0 ∷ []) in
    omega (arith, ap sum_of_bytes last, so_far, is)

-- one more byte before those that were read from the back
pub back_more : (bytes : List ℕ) (i value byte : ℕ) → i < length bytes → value ≡ sum_of_bytes (drop (length bytes - i) bytes)
    → byte ≡ get_or bytes (length bytes - 1 - i) 0
    → value * 256 + byte ≡ sum_of_bytes (drop (length bytes - (i + 1)) bytes)
back_more bytes i value byte lt so_far is =
    let at : length bytes - (i + 1) ≡ length bytes - 1 - i = omega arith in
    let next : length bytes - 1 - i + 1 ≡ length bytes - i = omega arith in
    let cut = drop_more bytes (length bytes - 1 - i) 0 (omega arith) ∙ ap (λ k. get_or bytes (length bytes - 1 - i) 0 ∷ drop k bytes) next in
    omega (arith, ap sum_of_bytes cut, so_far, is, ap (λ k. sum_of_bytes (drop k bytes)) at)

-- there is room for one more byte after seven or fewer
pub room_for_byte : (value i : ℕ) → value < 256 ^ i → i < 8 → value * 256 + 256 ≤ 2 ^ 64
room_for_byte value i small few =
    omega (arith, small, pow-le-pow_right {n = 256} (lit< tt) {i = i} {j = 7} (omega arith))

pub small_more : (value i byte : ℕ) → value < 256 ^ i → byte < 256 → value * 256 + byte < 256 ^ (i + 1)
small_more value i byte small low = omega (arith, pow_more 256 i)

-- the same as a shift
pub byte_unit : (n : ℕ) → n ≤ 8 → 1 * 2 ^ (8 * n) % 340282366920938463463374607431768211456 ≡ 256 ^ n
byte_unit n h = one_shl (8 * n) 128 (omega arith) ∙ byte_power n

pub power_small : (n : ℕ) → n ≤ 8 → 256 ^ n ≤ 2 ^ 64
power_small n h = pow-le-pow_right {n = 256} (lit< tt) {i = n} {j = 8} h

-- a number of m bytes is in n bytes where those are as many or more
pub power_grows : (x m n : ℕ) → x < 256 ^ m → m ≤ n → x < 256 ^ n
power_grows x m n small le =
    omega (arith, small, pow-le-pow_right {n = 256} (lit< tt) {i = m} {j = n} le)

-- of two parts of at most eight bytes
pub fits_above : (x m n : ℕ) → x < 256 ^ m → n + m ≤ 8 → x < 256 ^ (8 - n)
fits_above x m n small le = power_grows x m (8 - n) small (omega arith)

-- eight bytes hold a number of this many bytes, and another above it
pub sum_fits : (low count high : ℕ) → count ≤ 8 → low < 256 ^ count → high < 256 ^ (8 - count) → low + 256 ^ count * high < 2 ^ 64
sum_fits low count high few small above =
    let eight : count + (8 - count) ≡ 8 = omega arith in
    let whole : 256 ^ count * 256 ^ (8 - count) ≡ 2 ^ 64 = sym (pow-add 256 count (8 - count)) ∙ ap (λ k. 256 ^ k) eight in
    let most : 256 ^ count * (high + 1) ≤ 256 ^ count * 256 ^ (8 - count) = mul-le-mul_left (256 ^ count) (omega (arith, above)) in
    omega (arith, small, whole, most)

shift_one : (n s : ℕ) → 256 ^ (n + 1) * s ≡ 256 * (256 ^ n * s)
shift_one n s = ap (λ x. x * s) (pow_more 256 n ∙ mul_comm (256 ^ n) 256) ∙ mul_assoc 256 (256 ^ n) s

-- the number of bytes that are cut in two
pub sum_append : (xs ys : List ℕ) → sum_of_bytes (xs ++ ys) ≡ sum_of_bytes xs + 256 ^ length xs * sum_of_bytes ys
sum_append [] ys = omega arith
sum_append (x ∷ xs) ys =
    let one : suc (length xs) ≡ length xs + 1 = omega arith in
    let more : 256 ^ suc (length xs) * sum_of_bytes ys ≡ 256 * (256 ^ length xs * sum_of_bytes ys) =
    ap (λ k. 256 ^ k * sum_of_bytes ys) one ∙ shift_one (length xs) (sum_of_bytes ys) in
    omega (arith, sum_append xs ys, more)

-- the same from their end
pub reverse_sum : (xs ys : List ℕ) → sum_of_bytes (reverse (xs ++ ys)) ≡ sum_of_bytes (reverse ys) + 256 ^ length ys * sum_of_bytes (reverse xs)
reverse_sum xs ys = ap sum_of_bytes (reverse-append xs ys) ∙ sum_append (reverse ys) (reverse xs)
    ∙ ap (λ k. sum_of_bytes (reverse ys) + 256 ^ k * sum_of_bytes (reverse xs)) (length-reverse ys)
