use Rattle.ksv_yaml_scan.proofs.Common.{◌≡◌, ◌+◌, drop}
use Rattle.ksv_yaml_scan.specs.Lines.{columns as columns_of}
use Rattle.ksv_yaml_scan.proofs.start.columns.Given as goal

abbrev pub invariant-loop-i : goal.invariant-loop-i
invariant-loop-i l = l.i + columns_of (drop l.i l.content) ≡ columns_of l.content
