-- Bits that are written among others.
use Rattle.std.proofs.Common.{◌≡◌, ◌∙◌, ℕ, ◌+◌, ◌*◌, ◌/◌, ◌%◌, ◌^◌, ◌<◌, ◌≤◌, ℤ, pos, negsuc, true, false, List, length, ap, sym, arith, lit<}
use Rattle.std.specs.Prelude.{IsTrue, int_le, int_lt}
use Rattle.std.specs.Cmp.{first_so, second_so}
use Rattle.std.proofs.lemmas.Int.{ints}
use Rattle.std.proofs.lemmas.Nat.{pow-add}
use Rattle.std.proofs.Math.Nat.{add-mul, div-div-eq-div-mul, div-le_self, div-mul-le_self, mul-le-mul_right, mul_comm, pow-le-pow_right}
use Rattle.ksv_expr_value.specs.Bits.{number_of, bits_of}
use Rattle.ksv_expr_value.specs.Places.{Place, byte_in, byte_of, bit_in, bits_between, bits_left}
use Rattle.ksv_expr_value.proofs.Binary.{are_of, count_of, number_replaced}
use Rattle.ksv_expr_value.proofs.Places.{bits_cut}
use Rattle.ksv_texts.specs.Bits.{bits_hold, magnitude, replaced_bits}

-- the number of the bits that are written and of those beside them
pub replaced : (from to : Place) (n : ℕ) (bytes : List ℕ) → byte_in from + length bytes ≡ byte_of to → from.bits ≤ to.bits → n < 2 ^ bits_between from to
    → (number_of (bits_of bytes) / 2 ^ bits_left to / 2 ^ bits_between from to * 2 ^ bits_between from to + n) * 2 ^ bits_left to
    + number_of (bits_of bytes) % 2 ^ bits_left to ≡ number_of (replaced_bits from to n bytes)
unfolding replaced_bits
replaced from to n bytes met ordered small =
    let power : 2 ^ (bits_left to + bits_between from to) ≡ 2 ^ bits_left to * 2 ^ bits_between from to = pow-add 2 (bits_left to) (bits_between from to) in
    let above : number_of (bits_of bytes) / 2 ^ bits_left to / 2 ^ bits_between from to
    ≡ number_of (bits_of bytes) / 2 ^ (bits_left to + bits_between from to) =
    div-div-eq-div-mul (number_of (bits_of bytes)) (2 ^ bits_left to) (2 ^ bits_between from to) ∙ ap (λ m. number_of (bits_of bytes) / m) (sym power) in
    ap (λ m. (m * 2 ^ bits_between from to + n) * 2 ^ bits_left to + number_of (bits_of bytes) % 2 ^ bits_left to) above
    ∙ sym (number_replaced (bits_of bytes) (bit_in from) (bits_between from to) (bits_left to) n (are_of bytes)
    (count_of bytes ∙ bits_cut from to (length bytes) met ordered) small)

-- they are at most 72
pub few_bits : (from to : Place) (size : ℕ) → byte_in from + size ≡ byte_of to → from.bits ≤ to.bits → size ≤ 9 → bits_left to + bits_between from to ≤ 72
few_bits from to size met ordered few = omega (arith, bits_cut from to size met ordered, few)

pub few_numbers : (below width : ℕ) → below + width ≤ 72 → 2 ^ below * 2 ^ width ≤ 2 ^ 72
few_numbers below width few =
    let most : 2 ^ (below + width) ≤ 2 ^ 72 = pow-le-pow_right {n = 2} (lit< tt) {i = below + width} {j = 72} few in
    omega (arith, most, pow-add 2 below width)

-- a number in the place of another, with what is above and below: each step has room
pub record HasRoom (whole unit values number : ℕ) : Type 0 where
  pub above : whole / unit / values * values ≤ whole
  pub among : (whole / unit / values * values + number) * unit ≤ whole + 2 ^ 72

pub has_room : (whole unit values number : ℕ) → number < values → unit * values ≤ 2 ^ 72 → HasRoom whole unit values number
has_room whole unit values number small few =
    let high : whole / unit / values * values ≤ whole / unit = div-mul-le_self (whole / unit) values in
    let quotient : whole / unit * unit ≤ whole = div-mul-le_self whole unit in
    let first : whole / unit / values * values * unit ≤ whole / unit * unit = mul-le-mul_right unit high in
    let second : number * unit ≤ values * unit = mul-le-mul_right unit (omega (arith, small)) in
    record {
      above = omega (arith, high, div-le whole unit);
      among = omega (arith, add-mul (whole / unit / values * values) number unit, first, second, quotient, few, mul-turned values unit);
    }
  where
    div-le : (m n : ℕ) → m / n ≤ m
    div-le m n = div-le_self m n

    mul-turned : (m n : ℕ) → m * n ≡ n * m
    mul-turned m n = mul_comm m n

-- what the bits hold is below the count of their numbers
pub held : (from to : Place) (n : ℤ) → IsTrue (bits_hold from to n) → magnitude n < 2 ^ bits_between from to
unfolding bits_hold
held from to (pos n) h =
    let low : int_lt (pos n) (pos (2 ^ bits_between from to)) ≡ true = second_so (int_le (pos 0) (pos n)) (int_lt (pos n) (pos (2 ^ bits_between from to))) h in
    grind (arith, ints, low)
held from to (negsuc n) h =
    let low : int_le (pos 0) (negsuc n) ≡ true = first_so (int_le (pos 0) (negsuc n)) (int_lt (negsuc n) (pos (2 ^ bits_between from to))) h in
    let never : int_le (pos 0) (negsuc n) ≡ false = grind (arith, ints) in
    absurd (let no : true ≡ false = sym low ∙ never in cc)
