use Rattle.ksv_expr_value.specs.Exact.{path_exact as law}
use Rattle.ksv_expr_value.proofs.laws.equal_paths_are_same.Goals as goal

pub returns : goal.returns
returns c = law
