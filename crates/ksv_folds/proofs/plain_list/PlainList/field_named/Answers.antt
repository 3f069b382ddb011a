use Rattle.std.proofs.Common.{arith}
use Rattle.std.proofs.lemmas.Grind.{elements}
use Rattle.ksv_folds.proofs.plain_list.PlainList.field_named.Goals as goal

pub returns-then-part-name-clause-some : goal.returns-then-part-name-clause-some
returns-then-part-name-clause-some c = grind (arith, elements)

pub loop-part-preserved : goal.loop-part-preserved
loop-part-preserved c = grind (arith, elements)
