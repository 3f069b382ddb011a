use Rattle.ksv_bytes.proofs.Made.{made-insert}
use Rattle.ksv_test_engine.proofs.edits.insert.Goals as goal

pub returns-in-Ok : goal.returns-in-Ok
returns-in-Ok g c = c.forget.ensures.right c.args.rules.now c.args.bytes.now c.insert.new.self c.requires
    (made-insert c.args.bytes.now c.args.at c.args.new.now c.insert.new.self c.in-Ok.ensures.done)
