use Rattle.ksv_rule_laws.proofs.Places.{places_are_in_file}
use Rattle.ksv_rule_laws.proofs.laws.places_are_in_file.Goals as goal

pub returns : goal.returns
returns c = places_are_in_file
