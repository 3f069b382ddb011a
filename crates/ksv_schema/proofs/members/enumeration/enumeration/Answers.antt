use Rattle.ksv_schema.proofs.Common.{◌≡◌, subst, sym, Some, map, string_bytes, arith, Enum, plain_entry, plain_enum, row_of, IsRead, enum, common_steps}
use Rattle.ksv_schema.proofs.Noted.{steps}
use Rattle.ksv_schema.proofs.members.enumeration.enumeration.Goals as goal

-- the enum that was made is of the id and the entries that were read
pub returns-in_ok-new-in-Some : goal.returns-in_ok-new-in-Some
returns-in_ok-new-in-Some c =
    let plain : Enum = record { id = string_bytes c.in-Some.id; members = map plain_entry c.in-Some.entries.items } in
    let same : plain_enum c.in_ok-new-in-Some.field-0 ≡ plain =
    (λ j. record { id = string_bytes (c.in_ok-new-in-Some.ensures.id j); members = map plain_entry (c.in_ok-new-in-Some.ensures.entries j).items }) in
    subst (λ (p : Enum). IsRead (enum (row_of c.args.row.now)) (Some p) c.args.reader.now c.constants.new.reader) (sym same)
    (grind (arith, common_steps, steps))

pub returns-in-None : goal.returns-in-None
returns-in-None c = grind (arith, steps)
