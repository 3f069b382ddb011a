use Rattle.std.proofs.lemmas.List.{get_or_default}
use Rattle.ksv_schema.proofs.Noted.{noted_step, noted_end}
use Rattle.ksv_schema.proofs.values.rule.note_each.Goals as goal

pub loop-ruled-preserved : goal.loop-ruled-preserved
loop-ruled-preserved c = noted_step _ _ c.args.rules.now c.loop-ruled.ruled-index _ _ _ _ c.loop-ruled-test.true
    (get_or_default c.args.rules.now c.loop-ruled.ruled-index _ _ c.loop-ruled-test.true) c.note_ruled.ensures c.loop-ruled.invariant

pub returns : goal.returns
returns c = noted_end _ _ _ _ _ _ c.loop-ruled-test.false c.loop-ruled.invariant
