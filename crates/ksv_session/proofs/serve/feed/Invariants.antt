use Rattle.std.proofs.Common.{◌≡◌, ◌++◌, List, ℕ, false, take}
use Rattle.ksv_desc.specs.Description.{Description}
use Rattle.ksv_session.specs.Explored.{description_of}
use Rattle.ksv_session.specs.Code.{Stands}
use Rattle.ksv_session.specs.Runs.{Taken, took}
use Rattle.ksv_session.proofs.serve.feed.Given as goal

abbrev pub invariant-loop-byte : goal.invariant-loop-byte
invariant-loop-byte g l = ((d : Description) (begin taken : List ℕ) (before : Taken) → description_of l.fn.session ≡ d
    → Stands d begin taken l.fn.session l.fn.line g.W.Sink.tells before (took (g.W.Sink.bytes l.fn.writer) (g.W.Sink.flushed l.fn.writer))
    → Stands d begin (taken ++ take l.byte-index l.piece) l.session l.line g.W.Sink.tells before (took (g.W.Sink.bytes l.writer) (g.W.Sink.flushed l.writer)))
    × (g.W.Sink.failed l.writer ≡ false)
    × (description_of l.session ≡ description_of l.fn.session)
