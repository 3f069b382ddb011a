use Rattle.std.proofs.lemmas.Grind.{common_steps}
use Rattle.std.proofs.Common.{◌∙◌, ◌++◌, [], ◌∷◌, Err, Ok, ap, get_or, take, arith}
use Rattle.ksv_session.specs.Explored.{description_of}
use Rattle.ksv_session.specs.Runs.{took}
use Rattle.ksv_session.proofs.AnswerLemmas.{fed_at, fed_false, fed_true, more_taken, not_line_end}
use Rattle.ksv_session.proofs.RunLemmas.{moved, pushed}
use Rattle.ksv_session.proofs.serve.feed.Goals as goal
use Rattle.ksv_session.proofs.serve.feed.Goals.{then-byte-eq10+in-Ok-false, else-byte-eq10}

pub returns-in-Ok-true-clause-goes : goal.returns-in-Ok-true-clause-goes
returns-in-Ok-true-clause-goes g c d begin taken before left kept s =
    let so_far = c.loop-byte.invariant.0 d begin taken before kept s in
    fed_true _ _ _ _ _ _ _ _ _ c.in-Ok-true.field-0 c.in-Ok-true.field-0-test
    (fed_at d begin taken c.loop-byte.line c.as_slice.result.now before _ _ c.args.piece.now left c.loop-byte.byte-index g.W.Sink.tells c.loop-byte.session
    c.answer_line.new.session
    c.loop-byte-test.true c.if-byte-eq10.true (c.loop-byte.invariant.2 ∙ kept) c.as_slice.ensures.value so_far (Ok c.in-Ok-true.field-0)
    c.in-Ok-true.ensures.answered)

pub returns-in-Err-clause-goes : goal.returns-in-Err-clause-goes
returns-in-Err-clause-goes g c d begin taken before left kept s =
    let so_far = c.loop-byte.invariant.0 d begin taken before kept s in
    fed_at d begin taken c.loop-byte.line c.as_slice.result.now before _ _ c.args.piece.now left c.loop-byte.byte-index g.W.Sink.tells c.loop-byte.session
    c.answer_line.new.session
    c.loop-byte-test.true c.if-byte-eq10.true (c.loop-byte.invariant.2 ∙ kept) c.as_slice.ensures.value so_far (Err c.in-Err.failed) c.in-Err.ensures.answered

pub loop-byte-preserved : goal.loop-byte-preserved
loop-byte-preserved g c = elim c.if-byte-eq10.branch [
  | then-byte-eq10+in-Ok-false w ↦ (
    (λ d begin taken before kept s.
        let so_far = c.loop-byte.invariant.0 d begin taken before kept s in
        moved d begin _ _ _ _ _ _ before _ _ g.W.Sink.tells
        (more_taken taken c.args.piece.now c.loop-byte.byte-index c.loop-byte-test.true
        ∙ ap (λ b. (taken ++ take c.loop-byte.byte-index c.args.piece.now) ++ b ∷ []) w.if-byte-eq10.true)
        w.session-is (w.line-is ∙ w.clear.ensures) (ap (λ x. took (g.W.Sink.bytes x) (g.W.Sink.flushed x)) w.writer-is)
        (fed_false _ _ _ _ _ _ _ _ _ w.in-Ok-false.field-0 w.in-Ok-false.field-0-test
        (fed_at d begin taken c.loop-byte.line w.as_slice.result.now before _ _ c.args.piece.now [] c.loop-byte.byte-index g.W.Sink.tells c.loop-byte.session
        w.answer_line.new.session
        c.loop-byte-test.true w.if-byte-eq10.true (c.loop-byte.invariant.2 ∙ kept) w.as_slice.ensures.value so_far (Ok w.in-Ok-false.field-0)
        w.in-Ok-false.ensures.answered))),
    ap g.W.Sink.failed w.writer-is ∙ w.in-Ok-false.ensures.fault,
    ap description_of w.session-is ∙ w.in-Ok-false.ensures.answered.description ∙ c.loop-byte.invariant.2,
  )
  | else-byte-eq10 w ↦ (
    (λ d begin taken before kept s.
        let so_far = c.loop-byte.invariant.0 d begin taken before kept s in
        moved d begin _ _ _ _ _ _ before _ _ g.W.Sink.tells
        (more_taken taken c.args.piece.now c.loop-byte.byte-index c.loop-byte-test.true)
        w.session-is (w.line-is ∙ w.push.ensures) (ap (λ x. took (g.W.Sink.bytes x) (g.W.Sink.flushed x)) w.writer-is)
        (pushed d begin (taken ++ take c.loop-byte.byte-index c.args.piece.now) _ _ before _ g.W.Sink.tells (get_or c.args.piece.now c.loop-byte.byte-index 0)
        (not_line_end _ w.if-byte-eq10.false) so_far)),
    ap g.W.Sink.failed w.writer-is ∙ c.loop-byte.invariant.1,
    ap description_of w.session-is ∙ c.loop-byte.invariant.2,
  )
]

pub returns-clause-goes : goal.returns-clause-goes
returns-clause-goes g c = grind (arith, common_steps)
