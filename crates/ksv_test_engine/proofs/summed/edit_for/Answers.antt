use Rattle.ksv_test_engine.proofs.summed.edit_for.Goals as goal

pub returns-in-Some-clause-first : goal.returns-in-Some-clause-first
returns-in-Some-clause-first c = c.forget.ensures.right (record {}) c.args.bytes.now c.edited.new.bytes c.requires.first c.in-Some.ensures.some

pub returns-in-Some-clause-second : goal.returns-in-Some-clause-second
returns-in-Some-clause-second c = c.forget-in-Some.ensures.right (record {}) c.args.bytes.now c.edited.new.bytes c.requires.second c.in-Some.ensures.some
