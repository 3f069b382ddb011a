use Rattle.ksv_yaml_scan.proofs.Common.{◌≡◌, ℕ, ◌+◌, List, [], ◌∷◌, length, take, drop, ap, sym, ◌∙◌, arith, true, false, cut_lines, common_steps}
use Rattle.std.proofs.Common.{◌-◌, length-drop}
use Rattle.std.proofs.lemmas.List.{take_all}
use Rattle.ksv_yaml_scan.proofs.Cutting.{raw, cut_first, cut_only}
use Rattle.ksv_yaml_scan.proofs.cut.first_line.Goals as goal

-- after the line feed
pub returns-in-Some-clause-cut : goal.returns-in-Some-clause-cut
returns-in-Some-clause-cut c =
    let text = c.args.text.now in
    let first = raw (take c.in-Some.at text) true in
    cut_first text c.in-Some.at c.in-Some.ensures.0.high c.in-Some.ensures.0.before c.in-Some.ensures.1
    ∙ ap (λ (ys : List ℕ). first ∷ cut_lines ys) (sym (take_all (length text - (c.in-Some.at + 1)) (drop (c.in-Some.at + 1) text) (grind (arith, length-drop))))

-- after the end
pub returns-in-None-clause-cut : goal.returns-in-None-clause-cut
returns-in-None-clause-cut c =
    let text = c.args.text.now in
    cut_only text (grind (arith, common_steps)) c.in-None.ensures
    ∙ ap (λ (ys : List ℕ). raw text false ∷ cut_lines ys)
    (let e : take (length text - length text) (drop (length text) text) ≡ [] = grind (arith, common_steps) in sym e)
