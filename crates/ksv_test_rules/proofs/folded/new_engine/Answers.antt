use Rattle.ksv_test_rules.proofs.folded.new_engine.Goals as goal

pub returns : goal.returns
returns g c = c.new.ensures.right c.args._rules.now c.args._bytes.now
