use Rattle.ksv_yaml_scan.proofs.Common.{◌≡◌, ◌++◌, take, drop, lines_view}
use Rattle.ksv_yaml_scan.specs.Lines.{front, behind}
use Rattle.ksv_yaml_scan.specs.Blocks.{is_inner}
use Rattle.ksv_yaml_scan.proofs.quiet.block_lines.Given as goal

abbrev pub invariant-loop-i : goal.invariant-loop-i
invariant-loop-i l =
    (lines_view (take l.i l.lines) ++ front (is_inner l.column) (lines_view (drop l.i l.lines)) ≡ front (is_inner l.column) (lines_view l.lines))
    × (behind (is_inner l.column) (lines_view (drop l.i l.lines)) ≡ behind (is_inner l.column) (lines_view l.lines))
