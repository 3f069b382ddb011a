use Rattle.ksv_expr_value.specs.Numbers.{path_number-one, path_number-below}
use Rattle.ksv_expr_value.proofs.laws.paths_are_numbered.Goals as goal

pub returns : goal.returns
returns c = record { one = path_number-one; below = path_number-below }
