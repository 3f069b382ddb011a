use Rattle.ksv_yaml_scan.proofs.Common.{◌≡◌, drop}
use Rattle.ksv_yaml_scan.specs.Text.{is_clean as is_clean_of}
use Rattle.ksv_yaml_scan.proofs.Cutting.{clean_behind}
use Rattle.ksv_yaml_scan.proofs.cut.is_clean.Given as goal

abbrev pub invariant-loop-byte : goal.invariant-loop-byte
invariant-loop-byte l = clean_behind l.before (drop l.byte-index l.bytes) ≡ is_clean_of l.bytes
