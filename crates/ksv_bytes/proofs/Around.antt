-- What is around a gap, after bytes were written in it or beside it.
use Rattle.std.proofs.Common.{◌≡◌, ℕ, ◌+◌, ◌-◌, ◌<◌, ◌≤◌, ◌⊎◌, inl, inr, List, [], ◌++◌, length, take, drop, min, max, refl, ap, ◌∙◌, sym, arith, append_assoc}
use Rattle.std.proofs.Math.Seq.{drop-append-add, take-add, take-append-add}
use Rattle.std.proofs.lemmas.Bool.{cases_lt}
use Rattle.std.proofs.lemmas.Grind.{common_steps}
use Rattle.std.proofs.lemmas.List.{append-nil, drop-append-le, drop-drop, drop-take, drop_at, length-append, length-drop, length-take-le, nil_from_length}
use Rattle.std.proofs.lemmas.List.{take-append-drop, take-append-le, take-take, take_at}
use Rattle.std.specs.List.{copy_within}
use Rattle.std.specs.Prelude.{slice_range}
use Rattle.ksv_bytes.specs.Code.{around, inserted, overwritten}

-- what is in front of a write, and what is up to its end
take_before-overwritten : (bytes h : List ℕ) (at n : ℕ) → at ≤ length bytes → n ≤ at → take n (overwritten bytes at h) ≡ take n bytes
take_before-overwritten bytes h at n held before =
    ap (take n) (append_assoc (take at bytes) h (drop (at + length h) bytes))
    ∙ take-append-le n (take at bytes) (h ++ drop (at + length h) bytes) (let le : n ≤ length (take at bytes) = grind (arith, common_steps) in le)
    ∙ take-take n at bytes before

take_end-overwritten : (bytes h : List ℕ) (at n : ℕ) → at ≤ length bytes → n ≡ at + length h → take n (overwritten bytes at h) ≡ take at bytes ++ h
take_end-overwritten bytes h at n held end = take_at (take at bytes ++ h) (drop (at + length h) bytes) n
    (let long : length (take at bytes ++ h) ≡ n = grind (arith, common_steps) in long)

-- what is from a write on, and what is after it
drop_at-overwritten : (bytes h : List ℕ) (at : ℕ) → at ≤ length bytes → drop at (overwritten bytes at h) ≡ h ++ drop (at + length h) bytes
drop_at-overwritten bytes h at held =
    ap (drop at) (append_assoc (take at bytes) h (drop (at + length h) bytes))
    ∙ drop_at (take at bytes) (h ++ drop (at + length h) bytes) at (length-take-le at bytes held)

drop_behind-overwritten : (bytes h : List ℕ) (at n : ℕ) → at ≤ length bytes → at + length h ≤ n → drop n (overwritten bytes at h) ≡ drop n bytes
drop_behind-overwritten bytes h at n held behind =
    let k : ℕ = n - (at + length h) in
    let long : length (take at bytes ++ h) ≡ at + length h = grind (arith, common_steps) in
    let sum : n ≡ (at + length h) + k = omega arith in
    ap (λ m. drop m (overwritten bytes at h)) sum
    ∙ sym (drop-drop k (at + length h) (overwritten bytes at h))
    ∙ ap (drop k) (drop_at (take at bytes ++ h) (drop (at + length h) bytes) (at + length h) long)
    ∙ drop-drop k (at + length h) bytes
    ∙ ap (λ m. drop m bytes) (sym sum)

-- lengths
length-overwritten : (bytes h : List ℕ) (at : ℕ) → at + length h ≤ length bytes → length (overwritten bytes at h) ≡ length bytes
length-overwritten bytes h at held = grind (arith, common_steps)

pub length-around : (bytes : List ℕ) (front gap : ℕ) → front + gap ≤ length bytes → length (around bytes front gap) + gap ≡ length bytes
length-around bytes front gap held = grind (arith, common_steps)

-- what is in front of the gap, and from there on
take_front-around : (bytes : List ℕ) (front gap : ℕ) → front ≤ length bytes → take front (around bytes front gap) ≡ take front bytes
take_front-around bytes front gap held = take_at (take front bytes) (drop (front + gap) bytes) front (length-take-le front bytes held)

drop_front-around : (bytes : List ℕ) (front gap : ℕ) → front ≤ length bytes → drop front (around bytes front gap) ≡ drop (front + gap) bytes
drop_front-around bytes front gap held = drop_at (take front bytes) (drop (front + gap) bytes) front (length-take-le front bytes held)

-- a copy within the bytes writes a part of them
copy-overwritten : (bytes : List ℕ) (from k to : ℕ) → from + k ≤ length bytes
    → copy_within bytes from (from + k) to ≡ overwritten bytes to (take k (drop from bytes))
copy-overwritten bytes from k to held =
    let long : length (take k (drop from bytes)) ≡ k = length-take-le k (drop from bytes) (omega (arith, length-drop from bytes)) in
    let count : from + k - from ≡ k = omega arith in
    ap (λ n. take to bytes ++ take n (drop from bytes) ++ drop (to + n) bytes) count
    ∙ ap (λ n. take to bytes ++ take k (drop from bytes) ++ drop (to + n) bytes) (sym long)

-- the gap moves to the left: the bytes that it passes are then after it
pub around-moved_left : (bytes : List ℕ) (front gap to : ℕ) → front + gap ≤ length bytes → to < front
    → around (copy_within bytes to front (to + gap)) to gap ≡ around bytes front gap
around-moved_left bytes front gap to held lt =
    let k : ℕ = front - to in
    let moved : List ℕ = take k (drop to bytes) in
    let end : front ≡ to + k = omega arith in
    let long : length moved ≡ k = length-take-le k (drop to bytes) (omega (arith, length-drop to bytes)) in
    let behind : to + gap + length moved ≡ front + gap = omega arith in
    ap (λ n. around (copy_within bytes to n (to + gap)) to gap) end
    ∙ ap (λ xs. around xs to gap) (copy-overwritten bytes to k (to + gap) (omega arith))
    ∙ ap (λ xs. xs ++ drop (to + gap) (overwritten bytes (to + gap) moved)) (take_before-overwritten bytes moved (to + gap) to (omega arith) (omega arith))
    ∙ ap (λ xs. take to bytes ++ xs) (drop_at-overwritten bytes moved (to + gap) (omega arith))
    ∙ sym (append_assoc (take to bytes) moved (drop (to + gap + length moved) bytes))
    ∙ ap (λ xs. xs ++ drop (to + gap + length moved) bytes) (sym (take-add to k bytes) ∙ ap (λ n. take n bytes) (sym end))
    ∙ ap (λ n. take front bytes ++ drop n bytes) behind

-- the gap moves to the right: the bytes that it passes are then in front of it
pub around-moved_right : (bytes : List ℕ) (front gap to : ℕ) → to + gap ≤ length bytes → front < to
    → around (copy_within bytes (front + gap) (to + gap) front) to gap ≡ around bytes front gap
around-moved_right bytes front gap to held lt =
    let k : ℕ = to - front in
    let behind : List ℕ = drop (front + gap) bytes in
    let moved : List ℕ = take k behind in
    let end : to + gap ≡ front + gap + k = omega arith in
    let long : length moved ≡ k = length-take-le k behind (omega (arith, length-drop (front + gap) bytes)) in
    ap (λ n. around (copy_within bytes (front + gap) n front) to gap) end
    ∙ ap (λ xs. around xs to gap) (copy-overwritten bytes (front + gap) k front (omega arith))
    ∙ ap (λ xs. xs ++ drop (to + gap) (overwritten bytes front moved)) (take_end-overwritten bytes moved front to (omega arith) (omega arith))
    ∙ ap (λ xs. take front bytes ++ moved ++ xs) (drop_behind-overwritten bytes moved front (to + gap) (omega arith) (omega arith))
    ∙ append_assoc (take front bytes) moved (drop (to + gap) bytes)
    ∙ ap (λ n. take front bytes ++ (moved ++ drop n bytes)) end
    ∙ ap (λ xs. take front bytes ++ (moved ++ xs)) (sym (drop-drop k (front + gap) bytes))
    ∙ ap (λ xs. take front bytes ++ xs) (take-append-drop k behind)

-- bytes written at the gap's start
pub around-filled_from_start : (bytes h : List ℕ) (front gap : ℕ) → front + gap ≤ length bytes → length h ≤ gap
    → around (overwritten bytes front h) (front + length h) (gap - length h) ≡ inserted (around bytes front gap) front h
around-filled_from_start bytes h front gap held wide =
    let le : front ≤ length bytes = omega arith in
    let same : front + length h + (gap - length h) ≡ front + gap = omega arith in
    let before : take (front + length h) (overwritten bytes front h) ≡ take front (around bytes front gap) ++ h =
    take_end-overwritten bytes h front (front + length h) le refl ∙ ap (λ xs. xs ++ h) (sym (take_front-around bytes front gap le)) in
    let behind : drop (front + length h + (gap - length h)) (overwritten bytes front h) ≡ drop front (around bytes front gap) =
    drop_behind-overwritten bytes h front (front + length h + (gap - length h)) le (omega arith)
    ∙ ap (λ n. drop n bytes) same
    ∙ sym (drop_front-around bytes front gap le) in
    ap (λ xs. xs ++ drop (front + length h + (gap - length h)) (overwritten bytes front h)) before
    ∙ ap (λ ys. take front (around bytes front gap) ++ h ++ ys) behind

-- a write in the front or the back of two lists
overwritten-append_left : (xs ys h : List ℕ) (at : ℕ) → at + length h ≤ length xs → overwritten (xs ++ ys) at h ≡ overwritten xs at h ++ ys
overwritten-append_left xs ys h at before =
    ap (λ t. t ++ h ++ drop (at + length h) (xs ++ ys)) (take-append-le at xs ys (omega arith))
    ∙ ap (λ d. take at xs ++ h ++ d) (drop-append-le (at + length h) xs ys before)
    ∙ sym (append_assoc (take at xs ++ h) (drop (at + length h) xs) ys)

overwritten-append_right : (xs ys h : List ℕ) (at n : ℕ) → at ≡ length xs + n → overwritten (xs ++ ys) at h ≡ xs ++ overwritten ys n h
overwritten-append_right xs ys h at n is =
    let end : at + length h ≡ length xs + (n + length h) = omega arith in
    ap (λ k. take k (xs ++ ys) ++ h ++ drop (at + length h) (xs ++ ys)) is
    ∙ ap (λ k. take (length xs + n) (xs ++ ys) ++ h ++ drop k (xs ++ ys)) end
    ∙ ap (λ t. t ++ h ++ drop (length xs + (n + length h)) (xs ++ ys)) (take-append-add xs ys n)
    ∙ ap (λ d. xs ++ take n ys ++ h ++ d) (drop-append-add xs ys (n + length h))
    ∙ ap (λ t. t ++ drop (n + length h) ys) (append_assoc xs (take n ys) h)
    ∙ append_assoc xs (take n ys ++ h) (drop (n + length h) ys)

-- the front or the back of what was written in it
take-overwritten : (bytes h : List ℕ) (at n : ℕ) → at + length h ≤ n → n ≤ length bytes → take n (overwritten bytes at h) ≡ overwritten (take n bytes) at h
take-overwritten bytes h at n before held =
    let short : length (take n bytes) ≡ n = length-take-le n bytes held in
    let same : length (overwritten (take n bytes) at h) ≡ n = length-overwritten (take n bytes) h at (omega arith) ∙ short in
    ap (λ xs. take n (overwritten xs at h)) (sym (take-append-drop n bytes))
    ∙ ap (take n) (overwritten-append_left (take n bytes) (drop n bytes) h at (omega arith))
    ∙ take_at (overwritten (take n bytes) at h) (drop n bytes) n same

drop-overwritten : (bytes h : List ℕ) (at n k : ℕ) → at ≡ n + k → n ≤ length bytes → drop n (overwritten bytes at h) ≡ overwritten (drop n bytes) k h
drop-overwritten bytes h at n k is held =
    let short : length (take n bytes) ≡ n = length-take-le n bytes held in
    ap (λ xs. drop n (overwritten xs at h)) (sym (take-append-drop n bytes))
    ∙ ap (drop n) (overwritten-append_right (take n bytes) (drop n bytes) h at k (omega arith))
    ∙ drop_at (take n bytes) (overwritten (drop n bytes) k h) n short

-- nothing is written
overwritten-nothing : (bytes h : List ℕ) (at : ℕ) → length h ≡ 0 → overwritten bytes at h ≡ bytes
overwritten-nothing bytes h at none =
    let empty : h ≡ [] = nil_from_length h none in
    let end : at + 0 ≡ at = omega arith in
    ap (overwritten bytes at) empty
    ∙ ap (λ xs. xs ++ drop (at + 0) bytes) (append-nil (take at bytes))
    ∙ ap (λ n. take at bytes ++ drop n bytes) end
    ∙ take-append-drop at bytes

-- a write, and one right after it
overwritten-overwritten : (bytes h more : List ℕ) (at next : ℕ) → next ≡ at + length h → at ≤ length bytes
    → overwritten (overwritten bytes at h) next more ≡ overwritten bytes at (h ++ more)
overwritten-overwritten bytes h more at next is held =
    let end : next + length more ≡ at + length (h ++ more) = omega (arith, length-append h more) in
    ap (λ t. t ++ more ++ drop (next + length more) (overwritten bytes at h)) (take_end-overwritten bytes h at next held is)
    ∙ ap (λ d. take at bytes ++ h ++ more ++ d) (drop_behind-overwritten bytes h at (next + length more) held (omega arith))
    ∙ ap (λ t. t ++ drop (next + length more) bytes) (append_assoc (take at bytes) h more)
    ∙ ap (λ n. take at bytes ++ (h ++ more) ++ drop n bytes) end

-- bytes written in front of the gap
around-overwritten_before : (bytes h : List ℕ) (front gap at : ℕ) → front + gap ≤ length bytes → at + length h ≤ front
    → around (overwritten bytes at h) front gap ≡ overwritten (around bytes front gap) at h
around-overwritten_before bytes h front gap at held before =
    let short : length (take front bytes) ≡ front = length-take-le front bytes (omega arith) in
    ap (λ xs. xs ++ drop (front + gap) (overwritten bytes at h)) (take-overwritten bytes h at front before (omega arith))
    ∙ ap (λ ys. overwritten (take front bytes) at h ++ ys) (drop_behind-overwritten bytes h at (front + gap) (omega arith) (omega arith))
    ∙ sym (overwritten-append_left (take front bytes) (drop (front + gap) bytes) h at (omega arith))

-- bytes written after it
around-overwritten_behind : (bytes h : List ℕ) (front gap at : ℕ) → at + gap ≤ length bytes → front ≤ at
    → around (overwritten bytes (at + gap) h) front gap ≡ overwritten (around bytes front gap) at h
around-overwritten_behind bytes h front gap at held behind =
    let k : ℕ = at - front in
    let short : length (take front bytes) ≡ front = length-take-le front bytes (omega arith) in
    ap (λ xs. xs ++ drop (front + gap) (overwritten bytes (at + gap) h)) (take_before-overwritten bytes h (at + gap) front held (omega arith))
    ∙ ap (λ ys. take front bytes ++ ys) (drop-overwritten bytes h (at + gap) (front + gap) k (omega arith) (omega arith))
    ∙ sym (overwritten-append_right (take front bytes) (drop (front + gap) bytes) h at k (omega arith))

-- the first of two writes ends at the gap or in front of it, and the second begins at the gap or after it; where one
-- of them doesn't, it is empty
pub around-overwritten_both : (bytes h more : List ℕ) (front gap at cut : ℕ) → front + gap ≤ length bytes → cut ≡ at + length h → cut + gap ≤ length bytes →
    (cut ≤ front) ⊎ (length h ≡ 0) → (front ≤ cut) ⊎ (length more ≡ 0) →
    around (overwritten (overwritten bytes at h) (cut + gap) more) front gap ≡ overwritten (around bytes front gap) at (h ++ more)
around-overwritten_both bytes h more front gap at cut held is inside first second =
    let written : List ℕ = overwritten bytes at h in
    let same : length written ≡ length bytes = length-overwritten bytes h at (omega arith) in
    let long : length (around bytes front gap) + gap ≡ length bytes = length-around bytes front gap held in
    let one : around written front gap ≡ overwritten (around bytes front gap) at h = elim first [
      | inl before ↦ around-overwritten_before bytes h front gap at held (omega arith)
      | inr none ↦ ap (λ xs. around xs front gap) (overwritten-nothing bytes h at none) ∙ sym (overwritten-nothing (around bytes front gap) h at none)
    ] in
    let two : around (overwritten written (cut + gap) more) front gap ≡ overwritten (around written front gap) cut more = elim second [
      | inl behind ↦ around-overwritten_behind written more front gap cut (omega arith) behind
      | inr none ↦ ap (λ xs. around xs front gap) (overwritten-nothing written more (cut + gap) none)
          ∙ sym (overwritten-nothing (around written front gap) more cut none)
    ] in
    two ∙ ap (λ xs. overwritten xs cut more) one ∙ overwritten-overwritten (around bytes front gap) h more at cut is (omega arith)

-- a window in front of the gap, after it, and on both sides of it
range-around_before : (bytes : List ℕ) (front gap from to : ℕ) → front + gap ≤ length bytes → from ≤ to → to ≤ front
    → slice_range (around bytes front gap) from to ≡ slice_range bytes from to
range-around_before bytes front gap from to held ordered before =
    let k : ℕ = to - from in
    let short : length (take front bytes) ≡ front = length-take-le front bytes (omega arith) in
    let rest : length (drop from (take front bytes)) ≡ front - from = length-drop from (take front bytes) ∙ ap (λ n. n - from) short in
    let end : from + k ≡ to = omega arith in
    ap (take k) (drop-append-le from (take front bytes) (drop (front + gap) bytes) (omega arith))
    ∙ take-append-le k (drop from (take front bytes)) (drop (front + gap) bytes) (omega arith)
    ∙ sym (drop-take from k (take front bytes))
    ∙ ap (drop from) (take-take (from + k) front bytes (omega arith))
    ∙ drop-take from k bytes

range-around_behind : (bytes : List ℕ) (front gap from to : ℕ) → front + gap ≤ length bytes → front ≤ from
    → slice_range (around bytes front gap) from to ≡ slice_range bytes (from + gap) (to + gap)
range-around_behind bytes front gap from to held behind =
    let k : ℕ = from - front in
    let short : length (take front bytes) ≡ front = length-take-le front bytes (omega arith) in
    let start : from ≡ length (take front bytes) + k = omega arith in
    let place : front + gap + k ≡ from + gap = omega arith in
    let count : to - from ≡ to + gap - (from + gap) = omega arith in
    ap (λ n. take (to - from) (drop n (around bytes front gap))) start
    ∙ ap (take (to - from)) (drop-append-add (take front bytes) (drop (front + gap) bytes) k ∙ drop-drop k (front + gap) bytes ∙ ap (λ n. drop n bytes) place)
    ∙ ap (λ n. take n (drop (from + gap) bytes)) count

range-around_both : (bytes : List ℕ) (front gap from to : ℕ) → front + gap ≤ length bytes → from ≤ front → front ≤ to
    → slice_range (around bytes front gap) from to ≡ slice_range bytes from front ++ slice_range bytes (front + gap) (to + gap)
range-around_both bytes front gap from to held before behind =
    let k : ℕ = front - from in
    let short : length (take front bytes) ≡ front = length-take-le front bytes (omega arith) in
    let rest : length (drop from (take front bytes)) ≡ k = length-drop from (take front bytes) ∙ ap (λ n. n - from) short in
    let end : from + k ≡ front = omega arith in
    let inner : drop from (take front bytes) ≡ take k (drop from bytes) = ap (λ n. drop from (take n bytes)) (sym end) ∙ drop-take from k bytes in
    let count : to - from ≡ length (drop from (take front bytes)) + (to - front) = omega arith in
    let more : to - front ≡ to + gap - (front + gap) = omega arith in
    ap (take (to - from)) (drop-append-le from (take front bytes) (drop (front + gap) bytes) (omega arith))
    ∙ ap (λ n. take n (drop from (take front bytes) ++ drop (front + gap) bytes)) count
    ∙ take-append-add (drop from (take front bytes)) (drop (front + gap) bytes) (to - front)
    ∙ ap (λ xs. xs ++ take (to - front) (drop (front + gap) bytes)) inner
    ∙ ap (λ n. take k (drop from bytes) ++ take n (drop (front + gap) bytes)) more

-- nothing is between a place and itself
range-nothing : (bytes : List ℕ) (at : ℕ) → slice_range bytes at at ≡ []
range-nothing bytes at = let none : at - at ≡ 0 = omega arith in ap (λ n. take n (drop at bytes)) none

-- the two parts of a window that is cut at the gap
pub range-around : (bytes : List ℕ) (front gap from to cut : ℕ) → front + gap ≤ length bytes → from ≤ to → cut ≡ max from (min front to)
    → slice_range bytes from cut ++ slice_range bytes (cut + gap) (to + gap) ≡ slice_range (around bytes front gap) from to
range-around bytes front gap from to cut held ordered is = elim (cases_lt to front) [
  | inl before ↦
      let at_end : cut ≡ to = omega arith in
      ap (λ n. slice_range bytes from n ++ slice_range bytes (n + gap) (to + gap)) at_end
      ∙ ap (λ xs. slice_range bytes from to ++ xs) (range-nothing bytes (to + gap))
      ∙ append-nil (slice_range bytes from to)
      ∙ sym (range-around_before bytes front gap from to held ordered (omega arith))
  | inr reached ↦ elim (cases_lt front from) [
    | inl behind ↦
        let at_start : cut ≡ from = omega arith in
        ap (λ n. slice_range bytes from n ++ slice_range bytes (n + gap) (to + gap)) at_start
        ∙ ap (λ xs. xs ++ slice_range bytes (from + gap) (to + gap)) (range-nothing bytes from)
        ∙ sym (range-around_behind bytes front gap from to held (omega arith))
    | inr inside ↦
        let at_gap : cut ≡ front = omega arith in
        ap (λ n. slice_range bytes from n ++ slice_range bytes (n + gap) (to + gap)) at_gap
        ∙ sym (range-around_both bytes front gap from to held inside reached)
  ]
]

-- a gap that takes in what is after it
pub around-wider : (bytes : List ℕ) (front gap n : ℕ) → front + gap + n ≤ length bytes
    → take front (around bytes front gap) ++ drop (front + n) (around bytes front gap) ≡ around bytes front (gap + n)
around-wider bytes front gap n held =
    let place : front + gap + n ≡ front + (gap + n) = omega arith in
    ap (λ xs. xs ++ drop (front + n) (around bytes front gap)) (take_front-around bytes front gap (omega arith))
    ∙ ap (λ xs. take front bytes ++ xs) (sym (drop-drop n front (around bytes front gap)))
    ∙ ap (λ xs. take front bytes ++ drop n xs) (drop_front-around bytes front gap (omega arith))
    ∙ ap (λ xs. take front bytes ++ xs) (drop-drop n (front + gap) bytes ∙ ap (λ k. drop k bytes) place)
