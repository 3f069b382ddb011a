use Rattle.ksv_yaml_scan.proofs.Common.{◌≡◌, drop, loud, lines_view}
use Rattle.ksv_yaml_scan.proofs.quiet.skip_quiet.Given as goal

abbrev pub invariant-loop-i : goal.invariant-loop-i
invariant-loop-i l = loud (lines_view (drop l.i l.lines)) ≡ loud (lines_view l.lines)
