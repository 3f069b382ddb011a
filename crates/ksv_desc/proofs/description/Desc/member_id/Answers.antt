use Rattle.std.proofs.Common.{ap, rules}
use Rattle.std.specs.Prelude.{find, option_map, option_and_then}
use Rattle.std.specs.Ordering.{int_eq}
use Rattle.ksv_desc.specs.Description.{Enum}
use Rattle.ksv_desc.proofs.description.Desc.member_id.Goals as goal

pub returns-in-Some : goal.returns-in-Some
returns-in-Some c =
    let found = ap (option_and_then (λ (x : Enum). option_map (λ m. m.id) (find (λ m. int_eq c.args.number m.number) x.members))) c.in-Some.ensures in
    let id = c.id_of.ensures in
    search (rules, found, id)
