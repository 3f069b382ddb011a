-- White space is skipped, and a comment with it.
use Rattle.ksv_yaml_scan.proofs.Common.{◌≡◌, ℕ, suc, ◌+◌, ◌<◌, ◌≤◌, length, drop, get_or, arith, drop-cons, Bool, true, false, cond, List, [], ◌∷◌, refl, sym}
use Rattle.ksv_yaml_scan.proofs.Common.{ap, ◌∙◌, ◌==◌, is_white, skip}
use Rattle.ksv_yaml_scan.proofs.Choices.{at_true, at_false, same_byte, other_byte}
use Rattle.ksv_yaml_scan.specs.Lines.{shown, columns}

-- the bytes, unless they begin with a comment
abbrev pub uncommented : List ℕ → List ℕ
uncommented [] = []
uncommented (c ∷ cs) = cond (c == 35) [] (c ∷ cs)

shown_step : (b : Bool) (c : ℕ) (cs : List ℕ) → shown cs ≡ uncommented (skip cs)
    → cond b (shown cs) (cond (c == 35) [] (c ∷ cs)) ≡ uncommented (cond b (skip cs) (c ∷ cs))
shown_step true c cs h = h
shown_step false c cs h = refl

pub shown_skip : (cs : List ℕ) → shown cs ≡ uncommented (skip cs)
shown_skip [] = refl
shown_skip (c ∷ cs) = shown_step (is_white c) c cs (shown_skip cs)

-- a comment comes after the white space
pub shown_comment : (cs ds rest : List ℕ) (c : ℕ) → ds ≡ skip cs → ds ≡ c ∷ rest → c ≡ 35 → shown cs ≡ []
shown_comment cs ds rest c e f g = shown_skip cs ∙ ap uncommented (sym e ∙ f) ∙ at_true (c == 35) [] (c ∷ rest) (same_byte c 35 g)

-- something else does
pub shown_other : (cs ds rest : List ℕ) (c : ℕ) → ds ≡ skip cs → ds ≡ c ∷ rest → (c ≡ 35 → ⊥) → shown cs ≡ ds
shown_other cs ds rest c e f g = shown_skip cs ∙ ap uncommented (sym e ∙ f) ∙ at_false (c == 35) [] (c ∷ rest) (other_byte c 35 g) ∙ sym f

-- nothing does
pub shown_nothing : (cs ds : List ℕ) → ds ≡ skip cs → ds ≡ [] → shown cs ≡ ds
shown_nothing cs ds e f = shown_skip cs ∙ ap uncommented (sym e ∙ f) ∙ sym f

columns_step : (b : Bool) (c : ℕ) (cs : List ℕ) → columns cs + length (shown cs) ≤ length cs
    → cond b (suc (columns cs)) 0 + length (cond b (shown cs) (cond (c == 35) [] (c ∷ cs))) ≤ suc (length cs)
columns_step true c cs h = omega (arith, h)
columns_step false c cs h = hash (c == 35)
  where
    hash : (e : Bool) → 0 + length (cond e [] (c ∷ cs)) ≤ suc (length cs)
    hash true = omega arith
    hash false = omega arith

-- white space, and what comes after it
pub columns_shown : (cs : List ℕ) → columns cs + length (shown cs) ≤ length cs
columns_shown [] = omega arith
columns_shown (c ∷ cs) = columns_step (is_white c) c cs (columns_shown cs)

pub columns_stop : (xs : List ℕ) (i : ℕ) → i < length xs → is_white (get_or xs i 0) ≡ false → columns (drop i xs) ≡ 0
columns_stop xs i h w = ap columns (drop-cons xs i 0 h) ∙ at_false (is_white (get_or xs i 0)) _ _ w
