use Rattle.std.proofs.Common.{◌<◌, ◌+◌, ◌*◌, ◌%◌, ◌^◌}
use Rattle.ksv_rule_meaning.proofs.Integers.{sum_fits, byte_unit}
use Rattle.ksv_rule_meaning.proofs.integer.with_above.Goals as goal

pub overflow_cast-result : goal.overflow_cast-result
overflow_cast-result c =
    let bound : c.args.low + 1 * 2 ^ (8 * c.args.count) % 340282366920938463463374607431768211456 * c.args.high < 2 ^ 64 =
    rw (byte_unit c.args.count c.requires.count) (sum_fits c.args.low c.args.count c.args.high c.requires.count c.requires.low c.requires.high) in
    rw (c.from.ensures, c.from-2.ensures) (record { fits = bound })
