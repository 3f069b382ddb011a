use Rattle.ksv_test_rules.proofs.near.is_asked_near.Goals as goal

-- an engine that keeps nothing is right
pub ask-requires : goal.ask-requires
ask-requires g c = c.new-engine.ensures.right c.args.rules.now c.args.bytes.now
