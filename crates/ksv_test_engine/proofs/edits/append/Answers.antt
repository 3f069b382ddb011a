use Rattle.ksv_bytes.proofs.Made.{made-append}
use Rattle.ksv_test_engine.proofs.edits.append.Goals as goal

pub returns-in-Ok : goal.returns-in-Ok
returns-in-Ok g c = c.forget.ensures.right c.args.rules.now c.args.bytes.now c.append.new.self c.requires
    (made-append c.args.bytes.now c.args.new.now c.append.new.self c.in-Ok.ensures.done)
