use Rattle.ksv_schema.proofs.Common.{arith}
use Rattle.ksv_schema.specs.Values.{contents}
use Rattle.ksv_schema.proofs.Items as Items
use Rattle.ksv_schema.proofs.Noted as Noted
use Rattle.ksv_schema.proofs.values.value.contents.Goals as goal

pub returns-in-Some-items : goal.returns-in-Some-items
unfolding contents
returns-in-Some-items c = grind (arith, Noted.steps, Items.steps)
