use Rattle.ksv_schema.proofs.Common.{ap, ◌∙◌, ◌++◌, map, map-append, flat_map, keys_of, row_of, List, Pair, arith, common_steps}
use Rattle.ksv_schema.proofs.Made.{added}
use Rattle.ksv_schema.proofs.members.check.lines_of.Goals as goal

pub loop-row-preserved : goal.loop-row-preserved
loop-row-preserved c =
    added c.args.enums.now (λ rs. map (λ p. p.line) (flat_map keys_of (map row_of rs))) _ _ _ _ _ _ c.loop-row-test.true c.row-item.is
    (λ rs. map-append (λ (p : Pair). p.line) (keys_of (row_of c.row-item.result)) (flat_map keys_of (map row_of rs)))
    (c.in_ok-add_lines.ensures ∙ ap (λ (ps : List Pair). c.loop-row.lines.items ++ map (λ p. p.line) ps) c.entries.ensures) c.loop-row.invariant

pub returns : goal.returns
returns c = grind (arith, common_steps)
