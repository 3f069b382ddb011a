use Rattle.ksv_schema.proofs.Common.{plain_enum, row_of, enum}
use Rattle.ksv_schema.proofs.Each.{each_from_read, each_from_end}
use Rattle.ksv_schema.proofs.members.enumeration.enumerations.Goals as goal

pub loop-row-preserved : goal.loop-row-preserved
loop-row-preserved c =
    each_from_read row_of (λ i. enum) c.args.enums.now _ plain_enum _ _ _ _ _ _ _ _ c.loop-row-test.true c.row-item.is c.enumeration-next.ensures
    c.in_ok-made.ensures c.loop-row.invariant

pub returns : goal.returns
returns c = each_from_end row_of (λ i. enum) c.args.enums.now _ _ _ _ _ c.loop-row-test.false c.loop-row.invariant
