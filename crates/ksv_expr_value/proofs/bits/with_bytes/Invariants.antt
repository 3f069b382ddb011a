use Rattle.std.proofs.Common.{◌≡◌, ◌+◌, ◌*◌, ◌^◌, take}
use Rattle.ksv_expr_value.specs.Bits.{number_of, bits_of}
use Rattle.ksv_expr_value.proofs.bits.with_bytes.Given as goal

abbrev pub invariant-loop-byte : goal.invariant-loop-byte
invariant-loop-byte l = l.value ≡ l.fn.above * 256 ^ l.byte-index + number_of (bits_of (take l.byte-index l.bytes))
