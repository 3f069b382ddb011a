use Rattle.ksv_schema.proofs.Noted.{noted_step, noted_end}
use Rattle.ksv_schema.proofs.values.key.note_keys.Goals as goal

pub loop-entry-preserved : goal.loop-entry-preserved
loop-entry-preserved c = noted_step _ _ _ _ _ _ _ _ c.loop-entry-test.true c.entry-item.is c.note_key.ensures c.loop-entry.invariant

pub returns : goal.returns
returns c = noted_end _ _ _ _ _ _ c.loop-entry-test.false c.loop-entry.invariant
