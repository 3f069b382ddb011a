use Rattle.ksv_test_rules.proofs.folded.edit_for.Goals as goal

pub returns-in-Ok-Some-clause-first : goal.returns-in-Ok-Some-clause-first
returns-in-Ok-Some-clause-first g c =
    c.forget.ensures.right c.args.rules.now.first.now c.args.bytes.now c.random_edit.new.bytes c.requires.first
    (rw c.in-Ok-Some.field-0-is at c.in-Ok-Some.ensures.some)

pub returns-in-Ok-Some-clause-second : goal.returns-in-Ok-Some-clause-second
returns-in-Ok-Some-clause-second g c =
    c.forget-in-Ok-Some.ensures.right c.args.rules.now.second.now c.args.bytes.now c.random_edit.new.bytes c.requires.second
    (rw c.in-Ok-Some.field-0-is at c.in-Ok-Some.ensures.some)
