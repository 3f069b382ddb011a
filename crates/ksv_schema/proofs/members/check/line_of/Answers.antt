use Rattle.ksv_schema.proofs.Common.{arith}
use Rattle.std.proofs.lemmas.Grind.{elements}
use Rattle.ksv_schema.proofs.members.check.line_of.Goals as goal

pub returns : goal.returns
returns c = grind (arith, elements)
