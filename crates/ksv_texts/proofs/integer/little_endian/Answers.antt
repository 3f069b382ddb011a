use Rattle.ksv_texts.specs.Integers.{little_endian}
use Rattle.ksv_texts.proofs.Digits.{digits_end}
use Rattle.ksv_texts.proofs.integer.little_endian.Goals as goal

pub returns : goal.returns
returns c = digits_end c.loop-index.digits.items (little_endian c.args.size c.args.number) c.args.size c.loop-index._index c.loop-index.rest
    c.loop-index-test.false c.loop-index.invariant.0
