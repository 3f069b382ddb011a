use Rattle.ksv_rule_laws.proofs.Enclosing.{heads_lie_in_streams, ends_lie_in_streams}
use Rattle.ksv_rule_laws.proofs.laws.parts_lie_in_streams.Goals as goal

pub returns-clause-heads : goal.returns-clause-heads
returns-clause-heads c = heads_lie_in_streams

pub returns-clause-ends : goal.returns-clause-ends
returns-clause-ends c = ends_lie_in_streams
