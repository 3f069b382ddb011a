use Rattle.ksv_schema.proofs.Common.{◌≡◌, [], take, drop, names_in}
use Rattle.ksv_schema.proofs.keys.ids.first_name.Given as goal

abbrev pub invariant-loop-at : goal.invariant-loop-at
invariant-loop-at l = names_in (take l.at l.text) (drop l.at l.text) ≡ names_in [] l.text
