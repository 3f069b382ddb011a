use Rattle.ksv_yaml_scan.proofs.Common.{◌≡◌, ◌+◌, drop}
use Rattle.ksv_yaml_scan.specs.Text.{spaces as spaces_of}
use Rattle.ksv_yaml_scan.proofs.cut.spaces.Given as goal

abbrev pub invariant-loop-i : goal.invariant-loop-i
invariant-loop-i l = l.i + spaces_of (drop l.i l.bytes) ≡ spaces_of l.bytes
