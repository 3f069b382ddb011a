use Rattle.ksv_schema.proofs.Theorem.{tree_resolved}
use Rattle.ksv_schema.proofs.laws.descriptions_are_resolved.Goals as goal

pub returns : goal.returns
returns c = tree_resolved
