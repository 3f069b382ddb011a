use Rattle.std.proofs.Common.{◌≡◌, ◌<◌, ◌-◌, ◌^◌, drop, length}
use Rattle.ksv_rule_meaning.specs.Integers.{sum_of_bytes}
use Rattle.ksv_rule_meaning.proofs.integer.little_endian.Given as goal

abbrev pub invariant-loop-index : goal.invariant-loop-index
invariant-loop-index l = (l.value ≡ sum_of_bytes (drop (length l.bytes - l.index) l.bytes)) × (l.value < 256 ^ l.index)
