use Rattle.ksv_memo.proofs.Turns.{on_err_always}
use Rattle.ksv_questions.specs.Answers.{asks}
use Rattle.ksv_questions.specs.Writing.{put_question}
use Rattle.ksv_session.proofs.KeptLemmas.{answered_holds, refused_holds, unknown_holds}
use Rattle.ksv_session.proofs.session.Session.meant.Goals as goal

pub returns-in_err-told-clause-refused : goal.returns-in_err-told-clause-refused
returns-in_err-told-clause-refused g c m h =
    on_err_always c.from_residual.result
    (refused_holds c.self.inside.described.desc c.self.inside.buffer c.self.inside.engine c.self.inside.turns c.args.self.now c.self.view_is m h
    (λ d b. asks d b (put_question d b c.args.path.now c.args.number)) c.begin.new.self c.overwrite_for.new.engine c.begin.ensures.kept
    c.in_err-told.ensures.refused)

-- all was asked, which is some of it
pub returns-in_err-told_reply-in-Err-clause-refused : goal.returns-in_err-told_reply-in-Err-clause-refused
returns-in_err-told_reply-in-Err-clause-refused g c m h =
    on_err_always c.from_residual-in_err-told_reply-in-Err.result
    (unknown_holds c.self.inside.described.desc c.self.inside.buffer c.self.inside.engine c.self.inside.turns c.args.self.now c.self.view_is m h
    (λ d b. asks d b (put_question d b c.args.path.now c.args.number)) c.begin.new.self c.overwrite_for.new.engine c.begin.ensures.kept
    c.in_ok-told.ensures.asked)

pub returns-clause-memory : goal.returns-clause-memory
returns-clause-memory g c m h =
    answered_holds c.self.inside.described.desc c.self.inside.buffer c.self.inside.engine c.self.inside.turns c.args.self.now c.self.view_is m h
    (λ d b. asks d b (put_question d b c.args.path.now c.args.number)) c.begin.new.self c.overwrite_for.new.engine c.turns-self-inside.result
    c.begin.ensures.kept c.begin.ensures.turns c.in_ok-told.ensures.asked c.turns-self-inside.ensures
