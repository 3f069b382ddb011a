-- Bits that are written: they are read as their number, and no other bit changes.
use Rattle.ksv_questions.proofs.Common.{◌≡◌, ◌∙◌, ℕ, zero, suc, ◌+◌, ◌-◌, ◌*◌, ◌<◌, ◌≤◌, List, [], ◌∷◌, ◌++◌, length, drop, Ok}
use Rattle.ksv_questions.proofs.Common.{ℤ, refl, ap, sym, arith, append_assoc}
use Rattle.std.proofs.Common.{◌/◌, ◌%◌, ◌^◌, take, reverse, length-append}
use Rattle.std.specs.Prelude.{slice_range}
use Rattle.std.proofs.lemmas.Bool.Decides.{nat_tests}
use Rattle.std.proofs.lemmas.List.{drop-drop, length-drop, length-reverse, length-take, reverse-append, take-append-drop}
use Rattle.std.proofs.lemmas.Grind.{pow_more}
use Rattle.std.proofs.Math.Seq.{drop-append-add, drop-append_seam, take-append-add, take-append_seam}
use Rattle.ksv_bytes.specs.Edits.{overwrite}
use Rattle.ksv_expr_value.specs.Bits.{number_of, bits_of_number, bits_of, bits_from}
use Rattle.ksv_expr_value.specs.Places.{Place, byte_of, byte_in, bit_in, bits_between, bits_left}
use Rattle.ksv_expr_value.proofs.Binary.{AreBits, are_append, are_back, are_front, are_of, are_of_number, bits_append, byte_power, count_bits, count_of}
use Rattle.ksv_expr_value.proofs.Binary.{number_append, number_bits, number_one, number_small}
use Rattle.ksv_expr_value.proofs.Places.{bits_cut, by_byte, bytes_ordered}
use Rattle.ksv_nodes.specs.declared.given.Leaf.{Leaf}
use Rattle.ksv_texts.specs.Bits.{magnitude, replaced_bits, with_bits}
use Rattle.ksv_texts.specs.Integers.{little_endian}
use Rattle.ksv_texts.proofs.Among.{held}
use Rattle.ksv_questions.specs.Writing.{Overwrite, BitsAreWritten, IsWritten, met_bytes}
use Rattle.ksv_questions.proofs.ReadBack.{digits_length}

-- how many bytes a range has that is in a file
pub met_length : (b : List ℕ) (f t : ℕ) → f ≤ t → t ≤ length b → f + length (slice_range b f t) ≡ t
met_length b f t le inside = omega (arith, length-take (t - f) (drop f b), length-drop f b)

-- ---- bytes that have these bits

-- the bytes that write a number write it with their bits
digits_bits : (k n : ℕ) → n < 256 ^ k → number_of (bits_of (reverse (little_endian k n))) ≡ n
unfolding little_endian
digits_bits zero n small = omega (arith, small)
digits_bits (suc k) n small =
    let one : suc k ≡ k + 1 = omega arith in
    let power : 256 ^ suc k ≡ 256 ^ k * 256 = ap (λ j. 256 ^ j) one ∙ pow_more 256 k in
    let rest : n / 256 < 256 ^ k = omega (arith, small, power) in
    let front = reverse (little_endian k (n / 256)) in
    let last : reverse (n % 256 ∷ little_endian k (n / 256)) ≡ front ++ (n % 256 ∷ []) = reverse-append (n % 256 ∷ []) (little_endian k (n / 256)) in
    let bits : bits_of (front ++ (n % 256 ∷ [])) ≡ bits_of front ++ bits_of (n % 256 ∷ []) = bits_append front (n % 256 ∷ []) in
    let eight : 2 ^ length (bits_of (n % 256 ∷ [])) ≡ 256 = ap (λ m. 2 ^ m) (count_of (n % 256 ∷ [])) in
    let single : number_of (bits_of (n % 256 ∷ [])) ≡ n % 256 =
    number_append (bits_of_number 8 (n % 256)) [] ∙ omega (arith, number_bits 8 (n % 256) (omega arith)) in
    let whole : number_of (bits_of front ++ bits_of (n % 256 ∷ [])) ≡ number_of (bits_of front) * 256 + n % 256 =
    number_append (bits_of front) (bits_of (n % 256 ∷ [])) ∙ ap (λ m. number_of (bits_of front) * m + number_of (bits_of (n % 256 ∷ []))) eight
    ∙ ap (λ m. number_of (bits_of front) * 256 + m) single in
    ap (λ bs. number_of (bits_of bs)) last ∙ ap number_of bits ∙ whole ∙ omega (arith, digits_bits k (n / 256) rest)

-- the bits beside the replaced ones stay, so they are as many
replaced_count : (from to : Place) (n : ℕ) (bytes : List ℕ) → byte_in from + length bytes ≡ byte_of to → from.bits ≤ to.bits
    → length (replaced_bits from to n bytes) ≡ 8 * length bytes
unfolding replaced_bits
replaced_count from to n bytes met ordered =
    let k = bit_in from in
    let w = bits_between from to in
    let bits = bits_of bytes in
    omega (
      arith,
      length-append (take k bits) (bits_of_number w n ++ drop (k + w) bits),
      length-append (bits_of_number w n) (drop (k + w) bits),
      count_bits w n,
      length-take k bits,
      length-drop (k + w) bits,
      count_of bytes,
      bits_cut from to (length bytes) met ordered,
    )

replaced_are : (from to : Place) (n : ℕ) (bytes : List ℕ) → AreBits (replaced_bits from to n bytes)
unfolding replaced_bits
replaced_are from to n bytes =
    let k = bit_in from in
    let w = bits_between from to in
    let bits = bits_of bytes in
    let front = are_front (take k bits) (drop k bits) (rw (take-append-drop k bits) (are_of bytes)) in
    let back = are_back (take (k + w) bits) (drop (k + w) bits) (rw (take-append-drop (k + w) bits) (are_of bytes)) in
    are_append (take k bits) (bits_of_number w n ++ drop (k + w) bits) front (are_append (bits_of_number w n) (drop (k + w) bits) (are_of_number w n) back)

with_count : (from to : Place) (n : ℕ) (bytes : List ℕ) → length (with_bits from to n bytes) ≡ length bytes
unfolding with_bits
with_count from to n bytes = length-reverse (little_endian (length bytes) (number_of (replaced_bits from to n bytes)))
    ∙ digits_length (length bytes) (number_of (replaced_bits from to n bytes))

-- what is written has these bits
with_bits_are : (from to : Place) (n : ℕ) (bytes : List ℕ) → byte_in from + length bytes ≡ byte_of to → from.bits ≤ to.bits
    → bits_of (with_bits from to n bytes) ≡ replaced_bits from to n bytes
unfolding with_bits
with_bits_are from to n bytes met ordered =
    let bits = replaced_bits from to n bytes in
    let made = reverse (little_endian (length bytes) (number_of bits)) in
    let count = replaced_count from to n bytes met ordered in
    let small : number_of bits < 256 ^ length bytes =
    omega (arith, number_small bits (replaced_are from to n bytes), ap (λ m. 2 ^ m) count ∙ byte_power (length bytes)) in
    let long : length (bits_of made) ≡ length bits = count_of made
    ∙ ap (λ m. 8 * m) (length-reverse (little_endian (length bytes) (number_of bits)) ∙ digits_length (length bytes) (number_of bits)) ∙ sym count in
    number_one (bits_of made) bits (are_of made) (replaced_are from to n bytes) long (digits_bits (length bytes) (number_of bits) small)

-- ---- lists in parts

front_of : (n : ℕ) (front mid back : List ℕ) → n ≡ length front + length mid → take n (front ++ (mid ++ back)) ≡ front ++ mid
front_of n front mid back e = rw (e, take-append-add front (mid ++ back) (length mid), take-append_seam mid back) refl

back_of : (n : ℕ) (front mid back : List ℕ) → n ≡ length front + length mid → drop n (front ++ (mid ++ back)) ≡ back
back_of n front mid back e = rw (e, drop-append-add front (mid ++ back) (length mid), drop-append_seam mid back) refl

mid_of : (k w : ℕ) (front mid back : List ℕ) → k ≡ length front → w ≡ length mid → take w (drop k (front ++ (mid ++ back))) ≡ mid
mid_of k w front mid back e f = rw (e, drop-append_seam front (mid ++ back), f, take-append_seam mid back) refl

four : (a b c d : List ℕ) → (a ++ (b ++ c)) ++ d ≡ a ++ (b ++ (c ++ d))
four a b c d = rw (append_assoc a (b ++ c) d, append_assoc b c d) refl

-- ---- the law

module _ (b : List ℕ) (from to : Place) (n : ℕ) (ordered : from.bits ≤ to.bits) (inside : byte_of to ≤ length b) (small : n < 2 ^ bits_between from to) where
  abbrev f : ℕ
  f = byte_in from

  abbrev t : ℕ
  t = byte_of to

  abbrev k : ℕ
  k = bit_in from

  abbrev w : ℕ
  w = bits_between from to

  -- the bytes before, those that the bits meet, those after, and the bytes that are written
  abbrev before : List ℕ
  before = take f b

  abbrev met : List ℕ
  met = slice_range b f t

  abbrev behind : List ℕ
  behind = drop t b

  abbrev new : List ℕ
  new = with_bits from to n met

  abbrev bits : List ℕ
  bits = bits_of met

  met_is : f + length met ≡ t
  met_is = met_length b f t (bytes_ordered from to ordered) inside

  before_long : length (bits_of before) ≡ 8 * f
  before_long = count_of before ∙ ap (λ m. 8 * m) (omega (arith, length-take f b, bytes_ordered from to ordered, inside))

  parts : b ≡ before ++ (met ++ behind)
  parts =
      let cut : met ++ drop (t - f) (drop f b) ≡ drop f b = take-append-drop (t - f) (drop f b) in
      let rest : drop (t - f) (drop f b) ≡ behind = drop_again in
      sym (ap (λ z. before ++ z) (ap (λ z. met ++ z) (sym rest) ∙ cut) ∙ take-append-drop f b)
    where
      drop_again : drop (t - f) (drop f b) ≡ drop t b
      drop_again = drop-drop (t - f) f b ∙ ap (λ m. drop m b) (omega (arith, bytes_ordered from to ordered))

  old_bits : bits_of b ≡ bits_of before ++ (bits ++ bits_of behind)
  old_bits = ap bits_of parts ∙ bits_append before (met ++ behind) ∙ ap (λ z. bits_of before ++ z) (bits_append met behind)

  abbrev after : List ℕ
  after = before ++ new ++ drop (f + length new) b

  after_is : after ≡ before ++ (new ++ behind)
  after_is = append_assoc before new (drop (f + length new) b) ∙ ap (λ m. before ++ (new ++ drop m b)) (ap (λ m. f + m) (with_count from to n met) ∙ met_is)

  new_bits : bits_of after ≡ bits_of before ++ (take k bits ++ (bits_of_number w n ++ (drop (k + w) bits ++ bits_of behind)))
  unfolding replaced_bits
  new_bits =
      ap bits_of after_is ∙ bits_append before (new ++ behind) ∙ ap (λ z. bits_of before ++ z) (bits_append new behind)
      ∙ ap (λ z. bits_of before ++ (z ++ bits_of behind)) (with_bits_are from to n met met_is ordered ∙ replaced_is)
      ∙ ap (λ z. bits_of before ++ z) (four (take k bits) (bits_of_number w n) (drop (k + w) bits) (bits_of behind))
    where
      replaced_is : replaced_bits from to n met ≡ take k bits ++ (bits_of_number w n ++ drop (k + w) bits)
      replaced_is = refl

  cut : 8 * length met ≡ k + w + bits_left to
  cut = bits_cut from to (length met) met_is ordered

  first_long : length (take k bits) ≡ k
  first_long = omega (arith, length-take k bits, count_of met, cut)

  abbrev rest : List ℕ
  rest = drop (k + w) bits ++ bits_of behind

  same_before : take from.bits (bits_of after) ≡ take from.bits (bits_of b)
  same_before =
      let place : from.bits ≡ length (bits_of before) + length (take k bits) = omega (arith, by_byte from, before_long, first_long) in
      let old : bits_of b ≡ bits_of before ++ (take k bits ++ (drop k bits ++ bits_of behind)) =
      old_bits ∙ ap (λ z. bits_of before ++ (z ++ bits_of behind)) (sym (take-append-drop k bits))
      ∙ ap (λ z. bits_of before ++ z) (append_assoc (take k bits) (drop k bits) (bits_of behind)) in
      ap (take from.bits) new_bits ∙ front_of from.bits (bits_of before) (take k bits) (bits_of_number w n ++ rest) place
      ∙ sym (front_of from.bits (bits_of before) (take k bits) (drop k bits ++ bits_of behind) place) ∙ ap (take from.bits) (sym old)

  same_behind : drop to.bits (bits_of after) ≡ drop to.bits (bits_of b)
  same_behind =
      let both : length (take k bits ++ bits_of_number w n) ≡ k + w =
      omega (arith, length-append (take k bits) (bits_of_number w n), first_long, count_bits w n) in
      let wide : length (take (k + w) bits) ≡ k + w = omega (arith, length-take (k + w) bits, count_of met, cut) in
      let place : to.bits ≡ length (bits_of before) + length (take k bits ++ bits_of_number w n) = omega (arith, by_byte from, before_long, both, ordered) in
      let place' : to.bits ≡ length (bits_of before) + length (take (k + w) bits) = omega (arith, by_byte from, before_long, wide, ordered) in
      let made : bits_of after ≡ bits_of before ++ ((take k bits ++ bits_of_number w n) ++ rest) =
      new_bits ∙ ap (λ z. bits_of before ++ z) (sym (append_assoc (take k bits) (bits_of_number w n) rest)) in
      let old : bits_of b ≡ bits_of before ++ (take (k + w) bits ++ rest) =
      old_bits ∙ ap (λ z. bits_of before ++ (z ++ bits_of behind)) (sym (take-append-drop (k + w) bits))
      ∙ ap (λ z. bits_of before ++ z) (append_assoc (take (k + w) bits) (drop (k + w) bits) (bits_of behind)) in
      ap (drop to.bits) made ∙ back_of to.bits (bits_of before) (take k bits ++ bits_of_number w n) rest place
      ∙ sym (back_of to.bits (bits_of before) (take (k + w) bits) rest place') ∙ ap (drop to.bits) (sym old)

  read_back : number_of (bits_from from to (slice_range after f t)) ≡ n
  unfolding bits_from replaced_bits
  read_back =
      let before_count : length before ≡ f = omega (arith, length-take f b, bytes_ordered from to ordered, inside) in
      let new_count : t - f ≡ length new = omega (arith, with_count from to n met, met_is) in
      let there : slice_range after f t ≡ new = ap (λ z. take (t - f) (drop f z)) after_is ∙ mid_of f (t - f) before new behind (sym before_count) new_count in
      let made : bits_of new ≡ take k bits ++ (bits_of_number w n ++ drop (k + w) bits) = with_bits_are from to n met met_is ordered in
      ap (λ z. number_of (take w (drop k (bits_of z)))) there ∙ ap (λ z. number_of (take w (drop k z))) made
      ∙ ap number_of (mid_of k w (take k bits) (bits_of_number w n) (drop (k + w) bits) (sym first_long) (sym (count_bits w n))) ∙ number_bits w n small

-- the file after an overwrite
over_is : (b h : List ℕ) (at : ℕ) (after : List ℕ) → overwrite b at h ≡ Ok after → take at b ++ h ++ drop (at + length h) b ≡ after
over_is b h at after e = grind arith

is_written : (b after : List ℕ) (l : Leaf) (n : ℤ) (o : Overwrite) → l.from.bits ≤ l.to.bits → byte_of l.to ≤ length b
    → magnitude n < 2 ^ bits_between l.from l.to
    → record { at = byte_in l.from; bytes = with_bits l.from l.to (magnitude n) (slice_range b (byte_in l.from) (byte_of l.to)) } ≡ o
    → overwrite b o.at o.bytes ≡ Ok after → IsWritten b after l n
is_written b after l n o ordered inside small is over =
    let there = over_is b (with_bits l.from l.to (magnitude n) (slice_range b (byte_in l.from) (byte_of l.to))) (byte_in l.from) after
    (ap (λ (x : Overwrite). overwrite b x.at x.bytes) is ∙ over) in
    rw (← there) (record {
      read = read_back b l.from l.to (magnitude n) ordered inside small;
      before = same_before b l.from l.to (magnitude n) ordered inside small;
      behind = same_behind b l.from l.to (magnitude n) ordered inside small;
    })

pub bits_are_written : BitsAreWritten
unfolding met_bytes
bits_are_written b after l n o e over = is_written b after l n o (grind (arith, nat_tests)) (grind (arith, nat_tests)) (held l.from l.to n (grind arith))
    (grind arith) over
