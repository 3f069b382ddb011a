use Rattle.std.proofs.Common.{◌<◌, arith}
use Rattle.ksv_rule_meaning.proofs.Integers.{front_more, room_for_byte, small_more}
use Rattle.ksv_rule_meaning.proofs.integer.big_endian.Goals as goal

pub overflow_mul-value : goal.overflow_mul-value
overflow_mul-value c = omega (arith, room_for_byte c.loop-byte.value c.loop-byte.byte-index c.loop-byte.invariant.1 (omega arith))

pub overflow_add-value : goal.overflow_add-value
overflow_add-value c = omega (arith, room_for_byte c.loop-byte.value c.loop-byte.byte-index c.loop-byte.invariant.1 (omega arith))

pub loop-byte-preserved : goal.loop-byte-preserved
loop-byte-preserved c =
    let i = c.loop-byte.byte-index in
    let low : c.from.result < 256 = omega (arith, c.from.ensures, c.type_inv.bytes i) in (
      front_more c.args.bytes.now i c.loop-byte.value c.from.result c.loop-byte-test.true c.loop-byte.invariant.0 c.from.ensures,
      small_more c.loop-byte.value i c.from.result c.loop-byte.invariant.1 low,
    )
