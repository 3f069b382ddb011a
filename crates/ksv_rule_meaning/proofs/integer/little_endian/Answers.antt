use Rattle.std.proofs.Common.{◌<◌, ◌-◌, length, arith}
use Rattle.ksv_rule_meaning.proofs.Integers.{back_more, room_for_byte, small_more}
use Rattle.ksv_rule_meaning.proofs.integer.little_endian.Goals as goal

pub overflow_mul-value : goal.overflow_mul-value
overflow_mul-value c = omega (arith, room_for_byte c.loop-index.value c.loop-index.index c.loop-index.invariant.1 (omega arith))

pub overflow_add-value : goal.overflow_add-value
overflow_add-value c = omega (arith, room_for_byte c.loop-index.value c.loop-index.index c.loop-index.invariant.1 (omega arith))

pub loop-index-preserved : goal.loop-index-preserved
loop-index-preserved c =
    let i = c.loop-index.index in
    let low : c.from.result < 256 = omega (arith, c.from.ensures, c.type_inv.bytes (length c.args.bytes.now - 1 - i)) in (
      back_more c.args.bytes.now i c.loop-index.value c.from.result c.loop-index-test.true c.loop-index.invariant.0 c.from.ensures,
      small_more c.loop-index.value i c.from.result c.loop-index.invariant.1 low,
    )
