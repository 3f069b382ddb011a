use Rattle.std.proofs.Common.{◌+◌, ◌<◌, length, take, arith}
use Rattle.ksv_expr_value.specs.Bits.{number_of, bits_of}
use Rattle.ksv_expr_value.proofs.Binary.{front_small, one_more, read_one, read_so_far, room_for_one}
use Rattle.ksv_expr_value.proofs.bits.with_bytes.Goals as goal

pub overflow_mul-value : goal.overflow_mul-value
overflow_mul-value c =
    let i = c.loop-byte.byte-index in
    let small = front_small c.args.bytes.now i (omega (arith, c.loop-byte-test.true)) in
    let below = read_so_far c.args.above i c.loop-byte.value (number_of (bits_of (take i c.args.bytes.now))) small c.loop-byte.invariant in
    omega (arith, room_for_one c.args.above (length c.args.bytes.now) i c.loop-byte.value c.requires c.loop-byte-test.true below)

pub overflow_add-value : goal.overflow_add-value
overflow_add-value c =
    let i = c.loop-byte.byte-index in
    let small = front_small c.args.bytes.now i (omega (arith, c.loop-byte-test.true)) in
    let below = read_so_far c.args.above i c.loop-byte.value (number_of (bits_of (take i c.args.bytes.now))) small c.loop-byte.invariant in
    omega (
      arith,
      room_for_one c.args.above (length c.args.bytes.now) i c.loop-byte.value c.requires c.loop-byte-test.true below,
      c.from.ensures,
      c.type_inv.bytes i,
    )

pub loop-byte-preserved : goal.loop-byte-preserved
loop-byte-preserved c =
    let i = c.loop-byte.byte-index in
    let low : c.from.result < 256 = omega (arith, c.from.ensures, c.type_inv.bytes i) in
    read_one c.args.above i c.loop-byte.value (number_of (bits_of (take i c.args.bytes.now))) c.from.result
    (number_of (bits_of (take (i + 1) c.args.bytes.now))) c.loop-byte.invariant
    (one_more c.args.bytes.now c.from.result i c.loop-byte-test.true c.from.ensures low)
