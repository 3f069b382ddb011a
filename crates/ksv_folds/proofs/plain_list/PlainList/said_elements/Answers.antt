use Rattle.std.proofs.Common.{arith}
use Rattle.std.proofs.lemmas.Grind.{common_steps}
use Rattle.ksv_folds.proofs.plain_list.PlainList.said_elements.Goals as goal

pub loop-whole-preserved : goal.loop-whole-preserved
loop-whole-preserved c = grind (arith, common_steps)
