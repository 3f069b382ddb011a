-- The entry at the place that the table has for the number is the first entry of it.
use Rattle.std.proofs.Common.{arith}
use Rattle.std.proofs.lemmas.Grind.{common_steps}
use Rattle.std.proofs.lemmas.Option.{gets}
use Rattle.ksv_desc.proofs.Numbered.{first_is}
use Rattle.ksv_desc.proofs.enums.EnumDesc.id_of.Goals as goal

pub returns-in-Some-get : goal.returns-in-Some-get
returns-in-Some-get c =
    let first = first_is c.entries.inside.list.items c.entries.inside.places c.args.number c.entries.invariant in
    grind (arith, common_steps, gets, first)

pub returns-in-None-get : goal.returns-in-None-get
returns-in-None-get c =
    let first = first_is c.entries.inside.list.items c.entries.inside.places c.args.number c.entries.invariant in
    grind (arith, common_steps, gets, first)

pub returns-in-None : goal.returns-in-None
returns-in-None c =
    let first = first_is c.entries.inside.list.items c.entries.inside.places c.args.number c.entries.invariant in
    grind (arith, common_steps, first)
