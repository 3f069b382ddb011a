use Rattle.ksv_expr_meaning.proofs.Division.{division_is_floored as law}
use Rattle.ksv_expr_meaning.proofs.laws.division_is_floored.Goals as goal

pub returns : goal.returns
returns c = law
