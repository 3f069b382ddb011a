use Rattle.ksv_schema.proofs.Common.{ap, ◌∙◌, as_text}
use Rattle.ksv_schema.proofs.Named.{added_step, texts_step, texts_stop, texts_end}
use Rattle.ksv_schema.proofs.members.description.add_members.Goals as goal

pub loop-member-preserved : goal.loop-member-preserved
loop-member-preserved c = record {
  added = added_step _ _ _ c.loop-member-test.true c.member-item.is _ _ _ _ (c.in-Some.ensures ∙ ap as_text c.name.ensures) c.in_ok-add-in-Some.ensures.added
      c.loop-member.invariant.added;
  texts = texts_step _ _ _ c.loop-member-test.true c.member-item.is _ c.in-Some.text.now (c.in-Some.ensures ∙ ap as_text c.name.ensures)
      c.loop-member.invariant.texts;
}

pub returns-in-None-clause-texts : goal.returns-in-None-clause-texts
returns-in-None-clause-texts c = texts_stop _ _ _ c.loop-member-test.true c.member-item.is _ (c.in-None.ensures ∙ ap as_text c.name.ensures)
    c.loop-member.invariant.texts

pub returns-clause-texts : goal.returns-clause-texts
returns-clause-texts c = texts_end _ _ _ c.loop-member-test.false c.loop-member.invariant.texts
