use Rattle.std.proofs.Common.{arith}
use Rattle.std.proofs.lemmas.Grind.{elements}
use Rattle.ksv_folds.proofs.plain_list.PlainList.has_sized_type.Goals as goal

pub returns : goal.returns
returns c = grind (arith, elements)
