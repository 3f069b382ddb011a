use Rattle.std.proofs.Common.{refl}
use Rattle.ksv_expr_value.specs.Trail.{root, same_trail, fits-none}
use Rattle.ksv_expr_value.proofs.path.Path.root.Goals as goal

pub invariant_of-result : goal.invariant_of-result
invariant_of-result c = (rw c.none.ensures fits-none, tt)

pub returns : goal.returns
returns c = same_trail _ root (rw c.none.ensures refl)
