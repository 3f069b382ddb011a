use Rattle.ksv_yaml_scan.proofs.Common.{◌≡◌, ℕ, ◌+◌, ◌<◌, Bool, false, List, [], ◌∷◌, length, drop, get_or, refl, ap, sym, ◌∙◌, arith, nat_le, ◌||◌, ◌&&◌, ◌==◌}
use Rattle.ksv_yaml_scan.proofs.Common.{is_nil, lines_view}
use Rattle.ksv_yaml_scan.specs.declared.line.Line.{Line as CodeLine}
use Rattle.ksv_yaml_scan.specs.Blocks.{is_level}
use Rattle.ksv_yaml_scan.proofs.Numbers.{number_at, lines_at}
use Rattle.ksv_yaml_scan.proofs.block.shallow_line.Goals as goal

not_blank : (cs : List ℕ) → (length cs == 0) ≡ false → is_nil cs ≡ false
not_blank [] h = h
not_blank (c ∷ cs) h = refl

is_shallow : (n m : ℕ) → n < m → nat_le m n ≡ false
is_shallow n m h = grind arith

not_level : (ls : List CodeLine) (i m : ℕ) (l : CodeLine) → i < length ls → l ≡ get_or ls i l → (length l.content.now == 0) ≡ false → l.indent < m
    → is_level m (lines_view (drop i ls)) ≡ false
not_level ls i m l h e b d =
    ap (is_level m) (lines_at ls i l h e)
    ∙ ap (λ (a : Bool). (a || nat_le m l.indent) && is_level m (lines_view (drop (i + 1) ls))) (not_blank l.content.now b)
    ∙ ap (λ (a : Bool). a && is_level m (lines_view (drop (i + 1) ls))) (is_shallow l.indent m d)

-- the line is before the indentation
pub returns-then-line-indent : goal.returns-then-line-indent
returns-then-line-indent c =
    let l = c.line-item.result in
    let i = c.loop-line.line-index in (
      sym c.loop-line.invariant ∙ not_level c.args.lines.now i c.args.indent l c.loop-line-test.true c.line-item.is
          (sym c.is_empty.ensures ∙ c.if-not-is_empty.true) c.if-line-indent.true,
      number_at c.args.lines.now i l c.loop-line-test.true c.line-item.is,
    )
