use Rattle.ksv_schema_names.proofs.Common.{arith}
use Rattle.std.proofs.lemmas.Grind.{elements}
use Rattle.ksv_schema_names.proofs.members.members_at.Goals as goal

pub returns-in_err-get : goal.returns-in_err-get
returns-in_err-get c = grind (arith, elements)

pub returns : goal.returns
returns c = grind (arith, elements)
