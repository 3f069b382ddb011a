-- Lines have their numbers.
use Rattle.ksv_yaml_scan.proofs.Common.{◌≡◌, ℕ, suc, ◌+◌, ◌<◌, List, [], ◌∷◌, length, zero, get_or, drop, drop-cons, add-one, sym, ap, ◌∙◌, arith, inl, inr}
use Rattle.ksv_yaml_scan.proofs.Common.{line_view, lines_view, HasNumber}
use Rattle.ksv_yaml_scan.specs.declared.line.Line.{Line as CodeLine}

-- a line has the number that it has
pub number_at : (ls : List CodeLine) (i : ℕ) (l : CodeLine) → i < length ls → l ≡ get_or ls i l → HasNumber (lines_view ls) l.number
number_at [] i l h e = absurd (omega arith)
number_at (k ∷ ls) zero l h e = inl (ap (λ (l : CodeLine). l.number) (sym e))
number_at (k ∷ ls) (suc i) l h e = inr (number_at ls i l (omega arith) e)

-- the line at a place, and those after it
pub lines_at : (ls : List CodeLine) (i : ℕ) (l : CodeLine) → i < length ls → l ≡ get_or ls i l
    → lines_view (drop i ls) ≡ line_view l ∷ lines_view (drop (i + 1) ls)
lines_at ls i l h e = ap lines_view (drop-cons ls i l h) ∙ ap (λ (k : CodeLine). line_view k ∷ lines_view (drop (suc i) ls)) (sym e)
    ∙ ap (λ (j : ℕ). line_view l ∷ lines_view (drop j ls)) (sym (add-one i))
