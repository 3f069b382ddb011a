use Rattle.ksv_nodes.proofs.Common.{◌≡◌, drop, first_at}
use Rattle.ksv_nodes.proofs.First.{moved_on}
use Rattle.ksv_nodes.proofs.search.first_in.Given as goal

abbrev pub invariant-loop-other : goal.invariant-loop-other
invariant-loop-other l = record {
  place : l.place ≡ l.other-index;
  found : first_at l.byte l.bytes ≡ moved_on l.place (first_at l.byte (drop l.other-index l.bytes));
}
