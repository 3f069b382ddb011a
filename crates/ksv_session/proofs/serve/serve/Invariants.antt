use Rattle.std.proofs.Common.{◌≡◌, ◌++◌, ◌≤◌, List, ℕ, false, length, IsTrue}
use Rattle.ksv_session.specs.Explored.{description_of}
use Rattle.ksv_session.specs.Code.{Stands}
use Rattle.ksv_session.specs.Runs.{took}
use Rattle.ksv_session.proofs.serve.serve.Given as goal

abbrev pub invariant-loop-turn : goal.invariant-loop-turn
invariant-loop-turn g l = (IsTrue g.R.Source.tells → (taken : List ℕ)
    × (g.R.Source.bytes l.fn.reader ≡ taken ++ g.R.Source.bytes l.reader)
    × (l.turn ≤ length taken)
    × Stands (description_of l.fn.session) l.fn.session.bytes taken l.session l.line g.W.Sink.tells
    (took (g.W.Sink.bytes l.fn.writer) (g.W.Sink.flushed l.fn.writer)) (took (g.W.Sink.bytes l.writer) (g.W.Sink.flushed l.writer)))
    × (g.R.Source.failed l.reader ≡ false) × (g.R.Source.ended l.reader ≡ false) × (g.W.Sink.failed l.writer ≡ false)
    × (description_of l.session ≡ description_of l.fn.session)
