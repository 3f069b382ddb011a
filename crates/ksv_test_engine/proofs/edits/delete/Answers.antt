use Rattle.ksv_bytes.proofs.Made.{made-delete}
use Rattle.ksv_test_engine.proofs.edits.delete.Goals as goal

pub returns-in-Ok : goal.returns-in-Ok
returns-in-Ok g c = c.forget.ensures.right c.args.rules.now c.args.bytes.now c.delete.new.self c.requires
    (made-delete c.args.bytes.now c.args.at c.args.n c.delete.new.self c.in-Ok.ensures)
