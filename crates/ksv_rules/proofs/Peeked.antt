-- How many bytes a look at a range gives.
use Rattle.std.proofs.Common.{◌≡◌, ℕ, ◌+◌, List, length, arith}
use Rattle.std.proofs.lemmas.Bool.Decides.{nat_tests}
use Rattle.std.proofs.lemmas.Grind.{common_steps}
use Rattle.ksv_basics.specs.Plan.{Done, run}
use Rattle.ksv_nodes.specs.Rule.{peek}
use Rattle.ksv_nodes.specs.Reading.{peek_at}
use Rattle.ksv_nodes.specs.Turning.{State, turns}

pub peeked_length : (f t : ℕ) (s s' : State) (bs : List ℕ) → run turns (peek f t) s ≡ Done bs s' → f + length bs ≡ t
unfolding peek_at
peeked_length f t s s' bs e = grind (arith, nat_tests, common_steps)
