-- The words of a text, taken off its front.
use Rattle.std.proofs.Common.{◌≡◌, ◌∙◌, ℕ, zero, suc, ◌+◌, ◌<◌, ◌≤◌, Bool, true, false, true≢false, not, cond, List, [], ◌∷◌, length, take, drop, get_or, Some}
use Rattle.std.proofs.Common.{None, ap, sym, refl, arith}
use Rattle.std.specs.Prelude.{position, filter}
use Rattle.std.specs.List.{onto_first, position_or_len, slice_split}
use Rattle.std.proofs.lemmas.Grind.{common_steps}
use Rattle.std.proofs.lemmas.List.{drop_all, drop_more, length-take-le}
use Rattle.std.proofs.lemmas.List.Quantifiers.{position-Some}
use Rattle.std.proofs.lemmas.List.Splits.{slice_split_first, slice_split_none}
use Rattle.std.proofs.lemmas.List.Sums.{fails_before_first}
use Rattle.std.proofs.lemmas.Bool.{not-false, not-true}
use Rattle.ksv_lines.specs.Lines.{is_blank, is_filled, is_word_start, words_of}

-- where no byte is found, the search runs to the end
not_found : (p : ℕ → Bool) (text : List ℕ) → position p text ≡ None → length text ≤ position_or_len p text
not_found p text none = grind (arith, common_steps)

-- the first part ends where the first byte is found
split_found : (p : ℕ → Bool) (text : List ℕ) (n : ℕ) → position p text ≡ Some n → slice_split p text ≡ take n text ∷ slice_split p (drop (n + 1) text)
split_found p text n found =
    let at : position_or_len p text ≡ n = grind (arith, common_steps) in
    slice_split_first p text 0 (omega (arith, (position-Some p text n 0 found).0)) ∙ ap (λ k. take k text ∷ slice_split p (drop (k + 1) text)) at

-- a blank in front is no part of a word
blank_first : (c : ℕ) (cs : List ℕ) → is_blank c ≡ true → words_of (c ∷ cs) ≡ words_of cs
blank_first c cs h = ap (λ b. filter is_filled (cond b ([] ∷ slice_split is_blank cs) (onto_first c (slice_split is_blank cs)))) h

words_drop : (text : List ℕ) (n : ℕ) → n ≤ length text → ((k : ℕ) → k < n → is_blank (get_or text k 0) ≡ true) → words_of (drop n text) ≡ words_of text
words_drop text zero le all = refl
words_drop [] (suc n) le all = refl
words_drop (c ∷ cs) (suc n) le all = words_drop cs n (omega arith) (λ k lt. all (suc k) (omega arith)) ∙ sym (blank_first c cs (all 0 (omega arith)))

-- nothing but blanks
pub no_words : (text : List ℕ) → position (λ c. not (is_blank c)) text ≡ None → words_of text ≡ []
no_words text none =
    let all = not_found (λ c. not (is_blank c)) text none in
    sym (words_drop text (length text) (omega arith) (λ k lt. not-false _ (fails_before_first (λ c. not (is_blank c)) text k 0 (omega arith))))
    ∙ ap words_of (drop_all (length text) text (omega arith))

-- the blanks in front taken off
pub same_words : (text : List ℕ) (n : ℕ) → position (λ c. not (is_blank c)) text ≡ Some n → words_of (drop n text) ≡ words_of text
same_words text n found =
    let at = position-Some (λ c. not (is_blank c)) text n 0 found in
    words_drop text n (omega (arith, at.0)) (λ k lt. not-false _ (at.2 k lt))

pub word_starts : (text : List ℕ) (n : ℕ) → position (λ c. not (is_blank c)) text ≡ Some n → is_word_start (drop n text) ≡ true
word_starts text n found =
    let at = position-Some (λ c. not (is_blank c)) text n 0 found in
    ap is_word_start (drop_more text n 0 at.0) ∙ at.1

filled : (word : List ℕ) → 0 < length word → is_filled word ≡ true
filled [] lt = absurd (omega arith)
filled (c ∷ cs) lt = refl

keeps : (word : List ℕ) (rest : List (List ℕ)) → 0 < length word → filter is_filled (word ∷ rest) ≡ word ∷ filter is_filled rest
keeps word rest lt = ap (λ b. cond b (word ∷ filter is_filled rest) (filter is_filled rest)) (filled word lt)

pub starts_filled : (text : List ℕ) → is_word_start text ≡ true → (0 < length text) × (is_blank (get_or text 0 0) ≡ false)
starts_filled [] h = absurd (true≢false (sym h))
starts_filled (c ∷ cs) h = (omega arith, not-true _ h)

-- a word that a blank ends
pub cut_at : (text : List ℕ) (n : ℕ) → is_word_start text ≡ true → position is_blank text ≡ Some n
    → (words_of text ≡ take n text ∷ words_of (drop n text)) × (0 < length (take n text))
cut_at text n starts found =
    let first = position-Some is_blank text n 0 found in
    let begins = starts_filled text starts in
    let some : 0 < n = positive text n begins.1 first.1 in
    let long : 0 < length (take n text) = omega (arith, length-take-le n text (omega (arith, first.0))) in
    let cut = split_found is_blank text n found in
    let rest : words_of (drop n text) ≡ words_of (drop (n + 1) text) =
    ap words_of (drop_more text n 0 first.0) ∙ blank_first (get_or text n 0) (drop (n + 1) text) first.1 in
    (ap (filter is_filled) cut ∙ keeps (take n text) (slice_split is_blank (drop (n + 1) text)) long ∙ ap (λ ws. take n text ∷ ws) (sym rest), long)
  where
    positive : (text : List ℕ) (n : ℕ) → is_blank (get_or text 0 0) ≡ false → is_blank (get_or text n 0) ≡ true → 0 < n
    positive text zero other blank = absurd (true≢false (sym blank ∙ other))
    positive text (suc n) other blank = omega arith

-- a word that the end ends
pub cut_end : (text : List ℕ) → is_word_start text ≡ true → position is_blank text ≡ None → words_of text ≡ text ∷ []
cut_end text starts none =
    let begins = starts_filled text starts in
    let all = not_found is_blank text none in
    ap (filter is_filled) (slice_split_none is_blank text (λ k d lt. fails_before_first is_blank text k d (omega arith))) ∙ keeps text [] begins.0
