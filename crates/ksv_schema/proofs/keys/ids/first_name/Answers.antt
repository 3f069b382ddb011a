-- A name goes on up to `::`.
use Rattle.ksv_schema.proofs.Common.{sym}
use Rattle.ksv_schema.proofs.Paths.{first_stop, first_on}
use Rattle.ksv_schema.proofs.keys.ids.first_name.Goals as goal

pub returns-then-has_colons : goal.returns-then-has_colons
returns-then-has_colons c = first_stop c.args.text.now c.loop-at.at c.loop-at-test.true (sym c.if-has_colons.ensures) c.loop-at.invariant

pub loop-at-preserved : goal.loop-at-preserved
loop-at-preserved c = first_on c.args.text.now c.loop-at.at c.loop-at-test.true (sym c.if-has_colons.ensures) c.loop-at.invariant
