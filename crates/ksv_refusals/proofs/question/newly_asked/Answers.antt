use Rattle.ksv_refusals.proofs.question.newly_asked.Goals as goal

-- a new engine is right for all rules and bytes
pub asked-outcome-requires : goal.asked-outcome-requires
asked-outcome-requires g c = c.new-engine.ensures.right c.args.rules.now c.args.bytes.now
