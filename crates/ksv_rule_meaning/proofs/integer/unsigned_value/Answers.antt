use Rattle.std.proofs.lemmas.Grind.{common_steps}
use Rattle.std.proofs.Common.{length, arith, length-append}
use Rattle.ksv_rule_meaning.proofs.Integers.{fits_above, reverse_sum, sum_append}
use Rattle.ksv_rule_meaning.proofs.integer.unsigned_value.Goals as goal

pub with_above-requires-clause-high : goal.with_above-requires-clause-high
with_above-requires-clause-high c = fits_above c.little_endian-in-Little.result (length c.args.parts.back.now) (length c.args.parts.front.now)
    c.little_endian-in-Little.ensures.small (omega (arith, length-append c.args.parts.front.now c.args.parts.back.now))

pub with_above-requires-in-Big-clause-high : goal.with_above-requires-in-Big-clause-high
with_above-requires-in-Big-clause-high c = fits_above c.big_endian-in-Big.result (length c.args.parts.front.now) (length c.args.parts.back.now)
    c.big_endian-in-Big.ensures.small (omega (arith, length-append c.args.parts.front.now c.args.parts.back.now))

pub little_endian-requires : goal.little_endian-requires
little_endian-requires c = grind (arith, common_steps)

pub little_endian-requires-in-Little : goal.little_endian-requires-in-Little
little_endian-requires-in-Little c = grind (arith, common_steps)

pub with_above-requires-clause-count : goal.with_above-requires-clause-count
with_above-requires-clause-count c = grind (arith, common_steps)

pub big_endian-requires : goal.big_endian-requires
big_endian-requires c = grind (arith, common_steps)

pub big_endian-requires-in-Big : goal.big_endian-requires-in-Big
big_endian-requires-in-Big c = grind (arith, common_steps)

pub with_above-requires-in-Big-clause-count : goal.with_above-requires-in-Big-clause-count
with_above-requires-in-Big-clause-count c = grind (arith, common_steps)

pub returns-in-Little : goal.returns-in-Little
returns-in-Little c = grind (arith, sum_append, reverse_sum, fits_above)

pub returns-in-Big : goal.returns-in-Big
returns-in-Big c = grind (arith, sum_append, reverse_sum, fits_above)
