use Rattle.ksv_yaml_scan.proofs.Common.{◌≡◌, drop}
use Rattle.ksv_yaml_scan.specs.Lines.{skip as behind_white}
use Rattle.ksv_yaml_scan.proofs.white.skip.Given as goal

abbrev pub invariant-loop-i : goal.invariant-loop-i
invariant-loop-i l = behind_white (drop l.i l.content) ≡ behind_white l.content
