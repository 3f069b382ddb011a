use Rattle.ksv_schema_names.proofs.Common.{arith}
use Rattle.ksv_schema_names.specs.Types.{outer_of}
use Rattle.std.proofs.lemmas.Grind.{elements}
use Rattle.ksv_schema_names.proofs.outwards.outer_of.Goals as goal

pub returns-in_err-get : goal.returns-in_err-get
unfolding outer_of
returns-in_err-get c = grind (arith, elements)

pub returns : goal.returns
unfolding outer_of
returns c = grind (arith, elements)
