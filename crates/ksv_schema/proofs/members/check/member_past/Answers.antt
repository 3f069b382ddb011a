use Rattle.ksv_schema.proofs.Common.{arith}
use Rattle.std.proofs.lemmas.Grind.{elements}
use Rattle.ksv_schema.proofs.members.check.member_past.Goals as goal

pub returns-in_err-get : goal.returns-in_err-get
returns-in_err-get c = grind (arith, elements)

pub returns : goal.returns
returns c = grind (arith, elements)
