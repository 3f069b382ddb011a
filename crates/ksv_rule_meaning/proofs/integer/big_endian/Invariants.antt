use Rattle.std.proofs.Common.{◌≡◌, ◌<◌, ◌^◌, reverse, take}
use Rattle.ksv_rule_meaning.specs.Integers.{sum_of_bytes}
use Rattle.ksv_rule_meaning.proofs.integer.big_endian.Given as goal

abbrev pub invariant-loop-byte : goal.invariant-loop-byte
invariant-loop-byte l = (l.value ≡ sum_of_bytes (reverse (take l.byte-index l.bytes))) × (l.value < 256 ^ l.byte-index)
