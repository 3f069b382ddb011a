use Rattle.std.proofs.Common.{◌≡◌, ◌≤◌, ◌-◌, ◌++◌, length, take, false, IsTrue}
use Rattle.ksv_lines.proofs.device.write_all.Given as goal

abbrev pub invariant-loop-done : goal.invariant-loop-done
invariant-loop-done g l = (l.done ≤ length l.text)
    × (IsTrue g.W.Sink.tells → g.W.Sink.bytes l.writer ≡ g.W.Sink.bytes l.fn.writer ++ take l.done l.text)
    × (IsTrue g.W.Sink.tells → g.W.Sink.flushed l.writer ≡ g.W.Sink.flushed l.fn.writer)
    × (g.W.Sink.failed l.writer ≡ false)

abbrev pub decreases-loop-done : goal.decreases-loop-done
decreases-loop-done g l = length l.text - l.done
