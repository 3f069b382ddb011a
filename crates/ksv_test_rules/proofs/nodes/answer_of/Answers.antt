use Rattle.ksv_test_rules.proofs.nodes.answer_of.Goals as goal

-- an engine that keeps nothing is right
pub ask-answer-requires : goal.ask-answer-requires
ask-answer-requires g c = c.new-engine.ensures.right c.args.rules.now c.args.bytes.now
