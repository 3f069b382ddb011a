use Rattle.ksv_schema.proofs.Common.{pair, plain_case}
use Rattle.ksv_schema.proofs.Each.{each_from_read, each_from_end}
use Rattle.ksv_schema.proofs.values.types.cases.Goals as goal

pub loop-case-preserved : goal.loop-case-preserved
loop-case-preserved c = each_from_read pair _ c.args.cases.now _ plain_case _ _ _ _ _ _ _ _ c.loop-case-test.true c.case-item.is c.read_case-read.ensures
    c.in_ok-made.ensures c.loop-case.invariant

pub returns : goal.returns
returns c = each_from_end pair _ c.args.cases.now _ _ _ _ _ c.loop-case-test.false c.loop-case.invariant
