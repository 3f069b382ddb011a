use Rattle.ksv_yaml_scan.proofs.Common.{◌≡◌, ◌≤◌, ◌++◌, None, false, drop, lines_view}
use Rattle.ksv_yaml_scan.specs.Rows.{rows, rows_on, last_ended}
use Rattle.ksv_yaml_scan.proofs.block.join_rows.Given as goal

abbrev pub invariant-loop-line : goal.invariant-loop-line
invariant-loop-line l =
    (l.joined.text.items ++ rows_on l.folded l.joined.before l.joined.empty (rows l.indent (lines_view (drop l.line-index l.lines)))
    ≡ rows_on l.folded None 0 (rows l.indent (lines_view l.lines)))
    × (last_ended l.joined.ended (rows l.indent (lines_view (drop l.line-index l.lines))) ≡ last_ended false (rows l.indent (lines_view l.lines)))
    × (l.joined.empty ≤ l.line-index)
