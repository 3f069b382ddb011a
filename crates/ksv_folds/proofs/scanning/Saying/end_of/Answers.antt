use Rattle.std.proofs.Common.{arith}
use Rattle.std.proofs.lemmas.Grind.{common_steps}
use Rattle.ksv_folds.proofs.scanning.Saying.end_of.Goals as goal

pub integer_value-said-requires : goal.integer_value-said-requires
integer_value-said-requires c = grind (arith, common_steps)
