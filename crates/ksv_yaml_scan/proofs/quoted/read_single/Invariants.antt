use Rattle.ksv_yaml_scan.proofs.Common.{◌≡◌, ◌≤◌, length, Between, with_bytes, inside}
use Rattle.ksv_yaml_scan.specs.Quoted.{single}
use Rattle.ksv_yaml_scan.proofs.quoted.read_single.Given as goal

abbrev pub invariant-loop-byte : goal.invariant-loop-byte
invariant-loop-byte l = (with_bytes l.text.items (inside single Between l.rest) ≡ inside single Between l.content) × (length l.rest ≤ length l.content)

abbrev pub decreases-loop-byte : goal.decreases-loop-byte
decreases-loop-byte l = length l.rest
