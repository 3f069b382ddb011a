use Rattle.std.proofs.Common.{◌≡◌, ◌≤◌, ◌+◌, ◌∙◌, ◌++◌, List, ℕ, [], ap, append_assoc, arith, false, length, nat_eq, refl, subst, sym, take, true}
use Rattle.std.proofs.lemmas.List.{length-append, length-take-le}
use Rattle.ksv_session.specs.Explored.{description_of}
use Rattle.ksv_session.specs.Code.{Stands}
use Rattle.ksv_session.specs.Runs.{Serves, took}
use Rattle.ksv_session.proofs.AnswerLemmas.{fed_false, fed_true}
use Rattle.ksv_session.proofs.RunLemmas.{begun_stands}
use Rattle.ksv_session.proofs.serve.serve.Goals as goal

-- what was taken, with one more piece
longer : (taken piece : List ℕ) (turn count : ℕ) → turn ≤ length taken → (count ≡ 0 → ⊥) → count ≤ length piece
    → turn + 1 ≤ length (taken ++ take count piece)
longer taken piece turn count low some within = omega (arith, length-append taken (take count piece), length-take-le count piece within)

-- a number that isn't 0
is_not_zero : (n : ℕ) → (n ≡ 0 → ⊥) → nat_eq n 0 ≡ false
is_not_zero n some = grind arith

pub loop-turn-init : goal.loop-turn-init
loop-turn-init g c = (
  (λ tells. (
    [],
    refl,
    omega arith,
    subst (λ line. Stands (description_of c.args.session.now) c.args.session.now.bytes [] c.args.session.now line g.W.Sink.tells
        (took (g.W.Sink.bytes c.args.writer.now) (g.W.Sink.flushed c.args.writer.now))
        (took (g.W.Sink.bytes c.args.writer.now) (g.W.Sink.flushed c.args.writer.now)))
        (sym c.new-line.ensures)
        (begun_stands (description_of c.args.session.now) c.args.session.now
        (took (g.W.Sink.bytes c.args.writer.now) (g.W.Sink.flushed c.args.writer.now)) g.W.Sink.tells c.requires.begun),
  )),
  c.requires.reads,
  c.requires.goes_on,
  c.requires.writes,
  refl,
)

pub returns-in-Ok-true-clause-served : goal.returns-in-Ok-true-clause-served
returns-in-Ok-true-clause-served g c tells =
    let d = description_of c.args.session.now in
    let begin = c.args.session.now.bytes in
    let before = took (g.W.Sink.bytes c.args.writer.now) (g.W.Sink.flushed c.args.writer.now) in
    let inv = c.loop-turn.invariant.0 tells in
    let fed = c.in-Ok-true.ensures.goes d begin inv.0 before (g.R.Source.bytes c.read.new.self) c.loop-turn.invariant.4 inv.3 in
    subst (λ input. Serves d begin input c.feed.new.session.bytes g.W.Sink.tells before
    (took (g.W.Sink.bytes c.feed.new.writer) (g.W.Sink.flushed c.feed.new.writer)) true)
    (sym (inv.1 ∙ ap (λ t. inv.0 ++ t) (c.in-Ok.ensures.given tells)))
    (fed_true _ _ _ _ _ _ _ _ _ c.in-Ok-true.field-0 c.in-Ok-true.field-0-test fed)

pub loop-turn-preserved : goal.loop-turn-preserved
loop-turn-preserved g c = (
  (λ tells.
      let d = description_of c.args.session.now in
      let begin = c.args.session.now.bytes in
      let before = took (g.W.Sink.bytes c.args.writer.now) (g.W.Sink.flushed c.args.writer.now) in
      let left = g.R.Source.bytes c.read.new.self in
      let inv = c.loop-turn.invariant.0 tells in
      let fed = c.in-Ok-false.ensures.goes d begin inv.0 before left c.loop-turn.invariant.4 inv.3 in (
        inv.0 ++ take c.in-Ok.count c.read.new.buf,
        inv.1 ∙ ap (λ t. inv.0 ++ t) (c.in-Ok.ensures.given tells) ∙ sym (append_assoc inv.0 (take c.in-Ok.count c.read.new.buf) left),
        longer inv.0 c.read.new.buf c.loop-turn.turn c.in-Ok.count inv.2 c.if-count-eq0.false c.in-Ok.ensures.within,
        fed_false _ _ _ _ _ _ _ _ _ c.in-Ok-false.field-0 c.in-Ok-false.field-0-test fed,
      )),
  c.in-Ok.ensures.fault,
  c.in-Ok.ensures.over ∙ is_not_zero c.in-Ok.count c.if-count-eq0.false,
  c.in-Ok-false.ensures.fault,
  c.in-Ok-false.ensures.kept ∙ c.loop-turn.invariant.4,
)
