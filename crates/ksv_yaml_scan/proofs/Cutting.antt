-- A text is cut at its line feeds.
use Rattle.ksv_yaml_scan.proofs.Common.{◌≡◌, ℕ, zero, suc, ◌+◌, ◌<◌, ◌≤◌, Bool, true, false, cond, List, [], ◌∷◌, ◌++◌, length, take, drop, get_or, refl, sym}
use Rattle.ksv_yaml_scan.proofs.Common.{ap, ◌∙◌, subst, arith, drop-cons, add-one, ◌==◌, ◌&&◌, not, cut_lines, Line}
use Rattle.std.proofs.lemmas.Bool.{eqb-true, false_from_ne_true}
use Rattle.std.proofs.lemmas.List.{take-append-drop}
use Rattle.ksv_yaml_scan.specs.Text.{Raw, push, without_return, is_clean, is_wide_control, spaces, behind_spaces, line_of}
use Rattle.ksv_yaml_scan.proofs.Choices.{at_false}

-- no line feed is among these bytes
abbrev pub NoFeed : List ℕ → Type 0
NoFeed [] = Unit {0}
NoFeed (c ∷ cs) = ((c == 10) ≡ false) × NoFeed cs

abbrev pub raw : List ℕ → Bool → Raw
raw bytes ended = record { bytes = bytes; ended = ended }

pub cut_feed : (xs ys : List ℕ) → NoFeed xs → cut_lines (xs ++ 10 ∷ ys) ≡ raw xs true ∷ cut_lines ys
cut_feed [] ys h = refl
cut_feed (c ∷ xs) ys h = at_false (c == 10) _ _ h.0 ∙ ap (λ (rs : List Raw). push c rs) (cut_feed xs ys h.1)

pub cut_end : (c : ℕ) (xs : List ℕ) → NoFeed (c ∷ xs) → cut_lines (c ∷ xs) ≡ raw (c ∷ xs) false ∷ []
cut_end c [] h = at_false (c == 10) _ _ h.0
cut_end c (d ∷ xs) h = at_false (c == 10) _ _ h.0 ∙ ap (λ (rs : List Raw). push c rs) (cut_end d xs h.1)

-- each place before i has another byte
abbrev pub NoFeedBefore : List ℕ → ℕ → Type 0
NoFeedBefore xs i = (k : ℕ) → 0 ≤ k → k < i → ((get_or xs k 0 == 10) ≡ true) → ⊥

no_feed : (xs : List ℕ) (i : ℕ) → i ≤ length xs → NoFeedBefore xs i → NoFeed (take i xs)
no_feed [] zero b h = tt
no_feed [] (suc i) b h = absurd (omega arith)
no_feed (x ∷ xs) zero b h = tt
no_feed (x ∷ xs) (suc i) b h =
    (false_from_ne_true (x == 10) (λ e. h 0 (omega arith) (omega arith) e), no_feed xs i (omega arith) (λ k l u e. h (suc k) (omega arith) (omega arith) e))

-- the first line feed ends the first line
pub cut_first : (xs : List ℕ) (i : ℕ) → i < length xs → NoFeedBefore xs i → (get_or xs i 0 == 10) ≡ true
    → cut_lines xs ≡ raw (take i xs) true ∷ cut_lines (drop (i + 1) xs)
cut_first xs i b h e =
    ap cut_lines (sym (take-append-drop i xs) ∙ ap (λ (ys : List ℕ). take i xs ++ ys)
    (drop-cons xs i 0 b ∙ ap (λ (c : ℕ). c ∷ drop (suc i) xs) (eqb-true (get_or xs i 0) 10 e)))
    ∙ cut_feed (take i xs) (drop (suc i) xs) (no_feed xs i (omega arith) h)
    ∙ ap (λ (j : ℕ). raw (take i xs) true ∷ cut_lines (drop j xs)) (sym (add-one i))

take_length : (xs : List ℕ) → take (length xs) xs ≡ xs
take_length [] = refl
take_length (x ∷ xs) = ap (λ (ys : List ℕ). x ∷ ys) (take_length xs)

-- without a line feed there is one line
pub cut_only : (xs : List ℕ) → 0 < length xs → NoFeedBefore xs (length xs) → cut_lines xs ≡ raw xs false ∷ []
cut_only [] b h = absurd (omega arith)
cut_only (c ∷ cs) b h = cut_end c cs (subst NoFeed (take_length (c ∷ cs)) (no_feed (c ∷ cs) (length (c ∷ cs)) (omega arith) h))

-- ---- the bytes of a line

pub return_last : (xs : List ℕ) (c : ℕ) → without_return (xs ++ c ∷ []) ≡ cond (c == 13) xs (xs ++ c ∷ [])
return_last [] c = refl
return_last (x ∷ []) c = step (c == 13)
  where
    step : (b : Bool) → x ∷ cond b [] (c ∷ []) ≡ cond b (x ∷ []) (x ∷ c ∷ [])
    step true = refl
    step false = refl
return_last (x ∷ y ∷ xs) c = ap (λ (ys : List ℕ). x ∷ ys) (return_last (y ∷ xs) c) ∙ step (c == 13)
  where
    step : (b : Bool) → x ∷ cond b (y ∷ xs) (y ∷ xs ++ c ∷ []) ≡ cond b (x ∷ y ∷ xs) (x ∷ y ∷ xs ++ c ∷ [])
    step true = refl
    step false = refl

-- what comes after a byte is clean, if nothing is there that makes a control character with it
abbrev pub clean_behind : ℕ → List ℕ → Bool
clean_behind b [] = true
clean_behind b (c ∷ cs) = not (is_wide_control b c) && is_clean (c ∷ cs)

-- ---- spaces

-- what comes after the spaces is what is left without as many bytes
pub behind_drop : (xs : List ℕ) → behind_spaces xs ≡ drop (spaces xs) xs
behind_drop [] = refl
behind_drop (c ∷ cs) = step (c == 32) (behind_drop cs)
  where
    step : (b : Bool) → behind_spaces cs ≡ drop (spaces cs) cs → cond b (behind_spaces cs) (c ∷ cs) ≡ drop (cond b (suc (spaces cs)) 0) (c ∷ cs)
    step true h = h
    step false h = refl

-- the line with these bytes
pub line_at_spaces : (number indent : ℕ) (ended : Bool) (bytes content : List ℕ) → indent ≡ spaces bytes → content ≡ drop indent bytes
    → record { number = number; indent = indent; content = content; ended = ended } ≡ line_of number ended bytes
line_at_spaces number indent ended bytes content e f =
    ap (line number ended indent) (f ∙ ap (λ (k : ℕ). drop k bytes) e ∙ sym (behind_drop bytes)) ∙ ap (λ (k : ℕ). line number ended k (behind_spaces bytes)) e
  where
    line : ℕ → Bool → ℕ → List ℕ → Line
    line number ended indent content = record { number = number; indent = indent; content = content; ended = ended }
