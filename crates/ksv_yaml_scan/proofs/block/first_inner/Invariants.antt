use Rattle.ksv_yaml_scan.proofs.Common.{◌≡◌, drop, lines_view}
use Rattle.ksv_yaml_scan.specs.Blocks.{inner_indent}
use Rattle.ksv_yaml_scan.proofs.block.first_inner.Given as goal

abbrev pub invariant-loop-line : goal.invariant-loop-line
invariant-loop-line l = inner_indent (lines_view (drop l.line-index l.lines)) ≡ inner_indent (lines_view l.lines)
