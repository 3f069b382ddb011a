use Rattle.std.proofs.Common.{false, refl, true}
use Rattle.ksv_session.proofs.AnswerLemmas.{at_input_broken, at_input_end}
use Rattle.ksv_session.proofs.serve.finish.Goals as goal

pub returns-in-Ok-true-clause-goes : goal.returns-in-Ok-true-clause-goes
returns-in-Ok-true-clause-goes g c d begin taken before kept s =
    at_input_end d begin taken c.args.line.now c.as_slice.result.now before _ _ g.W.Sink.tells c.args.session.now c.answer_line.new.session kept
    c.as_slice.ensures.value s
    true c.in-Ok-true.field-0 c.in-Ok-true.field-0-test c.in-Ok-true.ensures.answered

pub returns-in-Ok-false-clause-goes : goal.returns-in-Ok-false-clause-goes
returns-in-Ok-false-clause-goes g c d begin taken before kept s = (
  at_input_end d begin taken c.args.line.now c.as_slice.result.now before _ _ g.W.Sink.tells c.args.session.now c.answer_line.new.session kept
      c.as_slice.ensures.value s
      false c.in-Ok-false.field-0 c.in-Ok-false.field-0-test c.in-Ok-false.ensures.answered,
  refl,
)

pub returns-in-Err-clause-goes : goal.returns-in-Err-clause-goes
returns-in-Err-clause-goes g c d begin taken before kept s =
    at_input_broken d begin taken c.args.line.now c.as_slice.result.now before _ _ g.W.Sink.tells c.args.session.now c.answer_line.new.session kept
    c.as_slice.ensures.value s
    c.in-Err.field-0 c.in-Err.ensures.answered
