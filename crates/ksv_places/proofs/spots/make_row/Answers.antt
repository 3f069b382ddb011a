use Rattle.ksv_places.proofs.Common.{arith, common_steps}
use Rattle.std.proofs.lemmas.Grind.{elements}
use Rattle.ksv_places.proofs.spots.make_row.Goals as goal

pub returns-in_err-path-clause-roomed : goal.returns-in_err-path-clause-roomed
returns-in_err-path-clause-roomed c = grind (arith, common_steps)

pub returns-in_err-widen-clause-roomed : goal.returns-in_err-widen-clause-roomed
returns-in_err-widen-clause-roomed c = grind (arith, elements)

pub returns-clause-roomed : goal.returns-clause-roomed
returns-clause-roomed c = grind (arith, elements)
