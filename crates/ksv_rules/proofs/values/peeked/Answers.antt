use Rattle.std.proofs.Common.{arith}
use Rattle.ksv_expr_value.specs.Bytes.{content}
use Rattle.ksv_rules.proofs.Peeked.{peeked_length}
use Rattle.ksv_rules.proofs.values.peeked.Goals as goal

pub returns-clause-fits : goal.returns-clause-fits
returns-clause-fits c = peeked_length c.args.from c.args.to _ _ (content c.in_ok-parts.parts) c.in_ok-parts.ensures

pub returns-clause-small : goal.returns-clause-small
returns-clause-small c = omega (arith, peeked_length c.args.from c.args.to _ _ (content c.in_ok-parts.parts) c.in_ok-parts.ensures, c.ranges.to)
