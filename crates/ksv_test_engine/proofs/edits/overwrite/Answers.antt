use Rattle.ksv_bytes.proofs.Made.{made-overwrite}
use Rattle.ksv_test_engine.proofs.edits.overwrite.Goals as goal

pub returns-in-Ok : goal.returns-in-Ok
returns-in-Ok g c = c.forget.ensures.right c.args.rules.now c.args.bytes.now c.overwrite.new.self c.requires
    (made-overwrite c.args.bytes.now c.args.at c.args.new.now c.overwrite.new.self c.in-Ok.ensures)
