use Rattle.ksv_expr_meaning.proofs.Truths.{truth_is_met as law}
use Rattle.ksv_expr_meaning.proofs.laws.truth_is_met.Goals as goal

pub returns : goal.returns
returns c = law
