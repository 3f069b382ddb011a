use Rattle.std.proofs.Common.{◌∙◌, ◌++◌, Err, Ok, ap, take}
use Rattle.ksv_session.proofs.AnswerLemmas.{answers}
use Rattle.ksv_session.proofs.serve.answer_line.Goals as goal

pub returns-in-Ok-clause-answered : goal.returns-in-Ok-clause-answered
returns-in-Ok-clause-answered g c =
    answers c.args.session.now c.line-reply.new.self c.args.line.now g.W.Sink.tells _ _ c.line-reply.result (Ok c.is_last.result)
    c.line-reply.ensures.answer c.line-reply.ensures.fair c.line-reply.ensures.kept c.line-reply.ensures.memory
    (c.is_last.ensures, λ told. (c.in-Ok.ensures.ok told ∙ ap (λ t. g.W.Sink.bytes c.args.writer.now ++ t) c.as_bytes.ensures, c.in-Ok.ensures.passed told))

pub returns-clause-answered : goal.returns-clause-answered
returns-clause-answered g c =
    answers c.args.session.now c.line-reply.new.self c.args.line.now g.W.Sink.tells _ _ c.line-reply.result (Err c.in-Err.failed)
    c.line-reply.ensures.answer c.line-reply.ensures.fair c.line-reply.ensures.kept c.line-reply.ensures.memory
    (λ told. let e = c.in-Err.ensures.err told in
    (e.0, e.1 ∙ ap (λ t. g.W.Sink.bytes c.args.writer.now ++ take e.0 t) c.as_bytes.ensures, c.in-Err.ensures.held told))
