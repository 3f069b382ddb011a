-- Bits of bytes, and numbers.
use Rattle.std.proofs.Common.{◌≡◌, ◌∙◌, ℕ, zero, suc, ◌+◌, ◌*◌, ◌/◌, ◌%◌, ◌^◌, ◌<◌, ◌≤◌, ◌⊎◌, inl, inr, List, [], ◌∷◌, ◌++◌, length, take, drop, get_or, refl}
use Rattle.std.proofs.Common.{ap, sym, arith, lit<, length-append, append_assoc}
use Rattle.std.specs.List.{AllByRecursion}
use Rattle.std.proofs.lemmas.List.{take_more, take-append-drop, length-take, length-drop}
use Rattle.std.proofs.lemmas.Grind.{pow_more}
use Rattle.std.proofs.lemmas.Nat.{pow-add, div-mul-add, mod-mul-add, one_shl}
use Rattle.std.proofs.lemmas.Bool.{cases_lt}
use Rattle.std.proofs.Math.Nat.{add-mul, mod-one, mul_assoc, mul_comm, mul-le-mul_left, pow-le-pow_right}
use Rattle.ksv_expr_value.specs.Bits.{number_of, bits_of_number, bits_of, bits_from}
use Rattle.ksv_expr_value.specs.Places.{Place, byte_of, byte_in, bit_in, bits_between, bits_left}
use Rattle.ksv_expr_value.proofs.Places.{bits_cut}

-- ---- how many they are

pub count_bits : (count n : ℕ) → length (bits_of_number count n) ≡ count
unfolding bits_of_number
count_bits zero n = refl
count_bits (suc count) n = length-append (bits_of_number count (n / 2)) (n % 2 ∷ []) ∙ ap (λ k. k + 1) (count_bits count (n / 2)) ∙ omega arith

pub count_of : (bs : List ℕ) → length (bits_of bs) ≡ 8 * length bs
count_of [] = refl
count_of (b ∷ bs) = omega (arith, length-append (bits_of_number 8 b) (bits_of bs), count_bits 8 b, count_of bs)

pub bits_append : (xs ys : List ℕ) → bits_of (xs ++ ys) ≡ bits_of xs ++ bits_of ys
bits_append [] ys = refl
bits_append (x ∷ xs) ys = ap (λ zs. bits_of_number 8 x ++ zs) (bits_append xs ys) ∙ sym (append_assoc (bits_of_number 8 x) (bits_of xs) (bits_of ys))

-- ---- the numbers that they write

pub number_append : (xs ys : List ℕ) → number_of (xs ++ ys) ≡ number_of xs * 2 ^ length ys + number_of ys
number_append [] ys = omega arith
number_append (x ∷ xs) ys =
    let power : 2 ^ length (xs ++ ys) ≡ 2 ^ length xs * 2 ^ length ys = ap (λ k. 2 ^ k) (length-append xs ys) ∙ pow-add 2 (length xs) (length ys) in
    let first : x * 2 ^ length (xs ++ ys) ≡ x * 2 ^ length xs * 2 ^ length ys = ap (λ k. x * k) power ∙ sym (mul_assoc x (2 ^ length xs) (2 ^ length ys)) in
    omega (arith, first, number_append xs ys, add-mul (x * 2 ^ length xs) (number_of xs) (2 ^ length ys))

-- the lowest bits of a number that has no others write it
pub number_bits : (count n : ℕ) → n < 2 ^ count → number_of (bits_of_number count n) ≡ n
unfolding bits_of_number
number_bits zero n small = omega (arith, small)
number_bits (suc count) n small =
    let one : suc count ≡ count + 1 = omega arith in
    let power : 2 ^ suc count ≡ 2 ^ count * 2 = ap (λ k. 2 ^ k) one ∙ pow_more 2 count in
    let half : n / 2 < 2 ^ count = omega (arith, small, power) in
    omega (arith, number_append (bits_of_number count (n / 2)) (n % 2 ∷ []), number_bits count (n / 2) half)

-- ---- each of them is 0 or 1

abbrev pub AreBits : List ℕ → Type 0
AreBits xs = AllByRecursion (λ x. x < 2) xs

pub are_append : (xs ys : List ℕ) → AreBits xs → AreBits ys → AreBits (xs ++ ys)
are_append [] ys a b = b
are_append (x ∷ xs) ys a b = (a.0, are_append xs ys a.1 b)

pub are_front : (xs ys : List ℕ) → AreBits (xs ++ ys) → AreBits xs
are_front [] ys a = tt
are_front (x ∷ xs) ys a = (a.0, are_front xs ys a.1)

pub are_back : (xs ys : List ℕ) → AreBits (xs ++ ys) → AreBits ys
are_back [] ys a = a
are_back (x ∷ xs) ys a = are_back xs ys a.1

pub are_of_number : (count n : ℕ) → AreBits (bits_of_number count n)
unfolding bits_of_number
are_of_number zero n = tt
are_of_number (suc count) n = are_append (bits_of_number count (n / 2)) (n % 2 ∷ []) (are_of_number count (n / 2)) (omega arith, tt)

pub are_of : (bs : List ℕ) → AreBits (bits_of bs)
are_of [] = tt
are_of (b ∷ bs) = are_append (bits_of_number 8 b) (bits_of bs) (are_of_number 8 b) (are_of bs)

-- this many bits write a number below that power of two
pub number_small : (xs : List ℕ) → AreBits xs → number_of xs < 2 ^ length xs
number_small [] a = omega arith
number_small (x ∷ xs) a =
    let one : suc (length xs) ≡ length xs + 1 = omega arith in
    let power : 2 ^ suc (length xs) ≡ 2 ^ length xs * 2 = ap (λ k. 2 ^ k) one ∙ pow_more 2 (length xs) in
    by x a.0 (number_small xs a.1) power
  where
    by : (y : ℕ) → y < 2 → number_of xs < 2 ^ length xs → 2 ^ suc (length xs) ≡ 2 ^ length xs * 2 → y * 2 ^ length xs + number_of xs < 2 ^ suc (length xs)
    by zero low small power = omega (arith, small, power)
    by (suc zero) low small power = omega (arith, small, power)
    by (suc (suc y)) low small power = absurd (omega (arith, low))

-- ---- some of them, among others

-- a number between others: those above it are divided away, those below it too
pub number_between : (above mid below : List ℕ) → AreBits mid → AreBits below
    → number_of mid ≡ number_of (above ++ (mid ++ below)) / 2 ^ length below % 2 ^ length mid
number_between above mid below m b =
    let low = number_small below b in
    let small = number_small mid m in
    let inner = number_append mid below in
    let power : 2 ^ length (mid ++ below) ≡ 2 ^ length mid * 2 ^ length below =
    ap (λ k. 2 ^ k) (length-append mid below) ∙ pow-add 2 (length mid) (length below) in
    let outer : number_of above * 2 ^ length (mid ++ below) ≡ number_of above * 2 ^ length mid * 2 ^ length below =
    ap (λ k. number_of above * k) power ∙ sym (mul_assoc (number_of above) (2 ^ length mid) (2 ^ length below)) in
    let whole : number_of (above ++ (mid ++ below)) ≡ (number_of above * 2 ^ length mid + number_of mid) * 2 ^ length below + number_of below =
    omega (arith, number_append above (mid ++ below), inner, outer, add-mul (number_of above * 2 ^ length mid) (number_of mid) (2 ^ length below)) in
    sym (ap (λ n. n / 2 ^ length below % 2 ^ length mid) whole
    ∙ ap (λ n. n % 2 ^ length mid) (div-mul-add (number_of above * 2 ^ length mid + number_of mid) (2 ^ length below) (number_of below) low)
    ∙ mod-mul-add (number_of above) (2 ^ length mid) (number_of mid) small)

-- the same by places in a list
pub number_within : (bits : List ℕ) (k width below : ℕ) → AreBits bits → length bits ≡ k + width + below
    → number_of (take width (drop k bits)) ≡ number_of bits / 2 ^ below % 2 ^ width
number_within bits k width below are long =
    let above = take k bits in
    let rest = drop k bits in
    let mid = take width rest in
    let last = drop width rest in
    let cut : above ++ (mid ++ last) ≡ bits = ap (λ xs. above ++ xs) (take-append-drop width rest) ∙ take-append-drop k bits in
    let rests : AreBits rest = are_back above rest (rw (take-append-drop k bits) are) in
    let both : AreBits (mid ++ last) = rw (take-append-drop width rest) rests in
    let count : length last ≡ below = omega (arith, length-drop width rest, length-drop k bits) in
    let wide : length mid ≡ width = omega (arith, length-take width rest, length-drop k bits) in
    number_between above mid last (are_front mid last both) (are_back mid last both)
    ∙ ap (λ xs. number_of xs / 2 ^ length last % 2 ^ length mid) cut ∙ ap (λ n. number_of bits / 2 ^ n % 2 ^ length mid) count
    ∙ ap (λ n. number_of bits / 2 ^ below % 2 ^ n) wide

-- ---- bytes that are read one by one

-- one more byte after others
pub one_more : (bytes : List ℕ) (byte i : ℕ) → i < length bytes → byte ≡ get_or bytes i 0 → byte < 256
    → number_of (bits_of (take (i + 1) bytes)) ≡ number_of (bits_of (take i bytes)) * 256 + byte
one_more bytes byte i lt is low =
    let next : take (i + 1) bytes ≡ take i bytes ++ (byte ∷ []) = take_more bytes i 0 lt ∙ ap (λ b. take i bytes ++ (b ∷ [])) (sym is) in
    let more : bits_of (take (i + 1) bytes) ≡ bits_of (take i bytes) ++ bits_of (byte ∷ []) = ap bits_of next ∙ bits_append (take i bytes) (byte ∷ []) in
    let single : number_of (bits_of (byte ∷ [])) ≡ byte = number_append (bits_of_number 8 byte) [] ∙ omega (arith, number_bits 8 byte low) in
    let eight : length (bits_of (byte ∷ [])) ≡ 8 = count_of (byte ∷ []) in
    let whole = number_append (bits_of (take i bytes)) (bits_of (byte ∷ [])) in
    let power : 2 ^ length (bits_of (byte ∷ [])) ≡ 256 = ap (λ k. 2 ^ k) eight in
    ap number_of more ∙ whole ∙ ap (λ k. number_of (bits_of (take i bytes)) * k + number_of (bits_of (byte ∷ []))) power
    ∙ ap (λ n. number_of (bits_of (take i bytes)) * 256 + n) single

-- ---- numbers of nine bytes

-- n bytes have this many bits
pub byte_power : (n : ℕ) → 2 ^ (8 * n) ≡ 256 ^ n
byte_power zero = refl
byte_power (suc n) =
    let more : 8 * suc n ≡ 8 * n + 8 = omega arith in
    let one : suc n ≡ n + 1 = omega arith in
    ap (λ k. 2 ^ k) more ∙ pow-add 2 (8 * n) 8 ∙ ap (λ x. x * 256) (byte_power n) ∙ sym (pow_more 256 n) ∙ ap (λ k. 256 ^ k) (sym one)

-- n bytes write a number below that power
pub bytes_small : (bs : List ℕ) → number_of (bits_of bs) < 256 ^ length bs
bytes_small bs = rw (← byte_power (length bs), ← count_of bs) (number_small (bits_of bs) (are_of bs))

pub front_small : (bs : List ℕ) (i : ℕ) → i ≤ length bs → number_of (bits_of (take i bs)) < 256 ^ i
front_small bs i le =
    let count : length (take i bs) ≡ i = omega (arith, length-take i bs) in
    omega (arith, bytes_small (take i bs), ap (λ n. 256 ^ n) count)

-- there is room for one more byte
pub room_for_one : (above count i value : ℕ) → (above + 1) * 256 ^ count ≤ 2 ^ 72 → i < count → value < (above + 1) * 256 ^ i → value * 256 + 256 ≤ 2 ^ 72
room_for_one above count i value room lt small =
    let more : 256 ^ (i + 1) ≤ 256 ^ count = pow-le-pow_right {n = 256} (lit< tt) {i = i + 1} {j = count} (omega arith) in
    let most : (above + 1) * 256 ^ (i + 1) ≤ (above + 1) * 256 ^ count = mul-le-mul_left (above + 1) more in
    let next : (above + 1) * 256 ^ (i + 1) ≡ (above + 1) * 256 ^ i * 256 =
    ap (λ k. (above + 1) * k) (pow_more 256 i) ∙ sym (mul_assoc (above + 1) (256 ^ i) 256) in
    omega (arith, room, most, next, small)

-- what was read so far, of bytes after another number
pub read_so_far : (above i value number : ℕ) → number < 256 ^ i → value ≡ above * 256 ^ i + number → value < (above + 1) * 256 ^ i
read_so_far above i value number small is = omega (arith, add-mul above 1 (256 ^ i), small, is)

-- one more byte after those
pub read_one : (above i value number byte next : ℕ) → value ≡ above * 256 ^ i + number → next ≡ number * 256 + byte
    → value * 256 + byte ≡ above * 256 ^ (i + 1) + next
read_one above i value number byte next is more =
    let power : above * 256 ^ (i + 1) ≡ above * 256 ^ i * 256 = ap (λ k. above * k) (pow_more 256 i) ∙ sym (mul_assoc above (256 ^ i) 256) in
    omega (arith, power, is, more)

-- nine bytes in two parts
pub room_for_back : (number front back : ℕ) → number < 256 ^ front → front + back ≤ 9 → (number + 1) * 256 ^ back ≤ 2 ^ 72
room_for_back number front back small few =
    let whole : 256 ^ (front + back) ≡ 256 ^ front * 256 ^ back = pow-add 256 front back in
    let most : 256 ^ (front + back) ≤ 256 ^ 9 = pow-le-pow_right {n = 256} (lit< tt) {i = front + back} {j = 9} few in
    let above : 256 ^ back * (number + 1) ≤ 256 ^ back * 256 ^ front = mul-le-mul_left (256 ^ back) (omega (arith, small)) in
    omega (arith, whole, most, above, mul_comm (256 ^ back) (number + 1), mul_comm (256 ^ back) (256 ^ front))

pub bytes_joined : (front back : List ℕ) → number_of (bits_of (front ++ back)) ≡ number_of (bits_of front) * 256 ^ length back + number_of (bits_of back)
bytes_joined front back =
    ap number_of (bits_append front back) ∙ number_append (bits_of front) (bits_of back)
    ∙ ap (λ k. number_of (bits_of front) * 2 ^ k + number_of (bits_of back)) (count_of back)
    ∙ ap (λ k. number_of (bits_of front) * k + number_of (bits_of back)) (byte_power (length back))

-- ---- a field

-- the number of the bits between two places, of the bytes that they meet
pub field_number : (from to : Place) (bytes : List ℕ) → byte_in from + length bytes ≡ byte_of to
    → number_of (bits_from from to bytes) ≡ number_of (bits_of bytes) / 2 ^ bits_left to % 2 ^ bits_between from to
unfolding bits_from
field_number from to bytes meets = by (cases_lt to.bits from.bits)
  where
    by : (to.bits < from.bits) ⊎ (from.bits ≤ to.bits)
        → number_of (take (bits_between from to) (drop (bit_in from) (bits_of bytes))) ≡ number_of (bits_of bytes) / 2 ^ bits_left to % 2 ^ bits_between from
        to
    by (inr le) = number_within (bits_of bytes) (bit_in from) (bits_between from to) (bits_left to) (are_of bytes)
        (count_of bytes ∙ bits_cut from to (length bytes) meets le)
    by (inl lt) =
        let none : bits_between from to ≡ 0 = omega arith in
        ap (λ n. number_of (take n (drop (bit_in from) (bits_of bytes)))) none ∙ sym (mod-one _)
        ∙ ap (λ n. number_of (bits_of bytes) / 2 ^ bits_left to % 2 ^ n) (sym none)

-- how many numbers this many bits write, as a shift
pub count_unit : (n : ℕ) → n ≤ 72 → 1 * 2 ^ n % 340282366920938463463374607431768211456 ≡ 2 ^ n
count_unit n few = one_shl n 128 (omega arith)

-- ---- bits by their number

-- as many bits that write one number are the same
pub number_one : (xs ys : List ℕ) → AreBits xs → AreBits ys → length xs ≡ length ys → number_of xs ≡ number_of ys → xs ≡ ys
number_one [] [] a b long is = refl
number_one [] (y ∷ ys) a b long is = absurd (omega (arith, long))
number_one (x ∷ xs) [] a b long is = absurd (omega (arith, long))
number_one (x ∷ xs) (y ∷ ys) a b long is =
    let count : length xs ≡ length ys = omega (arith, long) in
    let power : 2 ^ length xs ≡ 2 ^ length ys = ap (λ k. 2 ^ k) count in
    let low = number_small xs a.1 in
    let low' : number_of ys < 2 ^ length xs = omega (arith, power, number_small ys b.1) in
    let same : x * 2 ^ length xs + number_of xs ≡ y * 2 ^ length xs + number_of ys = is ∙ ap (λ k. y * k + number_of ys) (sym power) in
    let first : x ≡ y = sym (div-mul-add x (2 ^ length xs) (number_of xs) low) ∙ ap (λ n. n / 2 ^ length xs) same
    ∙ div-mul-add y (2 ^ length xs) (number_of ys) low' in
    let rest : number_of xs ≡ number_of ys = sym (mod-mul-add x (2 ^ length xs) (number_of xs) low) ∙ ap (λ n. n % 2 ^ length xs) same
    ∙ mod-mul-add y (2 ^ length xs) (number_of ys) low' in
    ap (λ z. z ∷ xs) first ∙ ap (λ zs. y ∷ zs) (number_one xs ys a.1 b.1 count rest)

-- others in the place of some: the number that all write then
pub number_replaced : (bits : List ℕ) (k width below n : ℕ) → AreBits bits → length bits ≡ k + width + below → n < 2 ^ width
    → number_of (take k bits ++ (bits_of_number width n ++ drop (k + width) bits)) ≡ (number_of bits / 2 ^ (below + width) * 2 ^ width + n) * 2 ^ below
    + number_of bits % 2 ^ below
number_replaced bits k width below n are long small =
    let above = take k bits in
    let rest = drop k bits in
    let front = take (k + width) bits in
    let last = drop (k + width) bits in
    let count : length last ≡ below = omega (arith, length-drop (k + width) bits) in
    let rests : length rest ≡ below + width = omega (arith, length-drop k bits) in
    let low : number_of last < 2 ^ below = rw (← count) (number_small last (are_back front last (rw (take-append-drop (k + width) bits) are))) in
    let rest_low : number_of rest < 2 ^ (below + width) = rw (← rests) (number_small rest (are_back above rest (rw (take-append-drop k bits) are))) in
    let whole : number_of bits ≡ number_of above * 2 ^ (below + width) + number_of rest =
    ap number_of (sym (take-append-drop k bits)) ∙ number_append above rest ∙ ap (λ m. number_of above * 2 ^ m + number_of rest) rests in
    let whole' : number_of bits ≡ number_of front * 2 ^ below + number_of last = ap number_of (sym (take-append-drop (k + width) bits))
    ∙ number_append front last ∙ ap (λ m. number_of front * 2 ^ m + number_of last) count in
    let high : number_of bits / 2 ^ (below + width) ≡ number_of above =
    ap (λ m. m / 2 ^ (below + width)) whole ∙ div-mul-add (number_of above) (2 ^ (below + width)) (number_of rest) rest_low in
    let lowest : number_of bits % 2 ^ below ≡ number_of last =
    ap (λ m. m % 2 ^ below) whole' ∙ mod-mul-add (number_of front) (2 ^ below) (number_of last) low in
    let new = bits_of_number width n in
    let wide : length (new ++ last) ≡ width + below = omega (arith, length-append new last, count_bits width n) in
    let inner : number_of (new ++ last) ≡ n * 2 ^ below + number_of last = number_append new last ∙ ap (λ m. number_of new * 2 ^ m + number_of last) count
    ∙ ap (λ m. m * 2 ^ below + number_of last) (number_bits width n small) in
    let outer : number_of above * 2 ^ (width + below) ≡ number_of above * 2 ^ width * 2 ^ below = ap (λ m. number_of above * m) (pow-add 2 width below)
    ∙ sym (mul_assoc (number_of above) (2 ^ width) (2 ^ below)) in
    let made : number_of (above ++ (new ++ last)) ≡ (number_of above * 2 ^ width + n) * 2 ^ below + number_of last =
    omega (
      arith,
      number_append above (new ++ last) ∙ ap (λ m. number_of above * 2 ^ m + number_of (new ++ last)) wide,
      inner,
      outer,
      add-mul
          (number_of above * 2 ^ width) n (2 ^ below),
    ) in
    made ∙ ap (λ m. (m * 2 ^ width + n) * 2 ^ below + number_of last) (sym high)
    ∙ ap (λ m. (number_of bits / 2 ^ (below + width) * 2 ^ width + n) * 2 ^ below + m) (sym lowest)
