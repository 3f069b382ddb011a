use Rattle.ksv_schema.proofs.Common.{arith, plain_case, in_case, context_of}
use Rattle.ksv_schema.proofs.InPlace.{each_same, done_more, left_less}
use Rattle.ksv_schema.proofs.members.number.number_cases.Goals as goal

pub loop-case-preserved : goal.loop-case-preserved
loop-case-preserved c = record {
  done = done_more plain_case (in_case (context_of c.args.context.now)) c.loop-case.cases c.args.cases.now c.loop-case.case-index c.case-item.result
      c.number_case.new.case (omega arith) c.number_case.ensures c.loop-case.invariant.left c.loop-case.invariant.done;
  left = left_less plain_case (in_case (context_of c.args.context.now)) c.loop-case.cases c.args.cases.now c.loop-case.case-index c.case-item.result
      c.number_case.new.case c.loop-case.invariant.left;
}

pub returns : goal.returns
returns c = each_same _ _ _ _ c.loop-case.auto.cases (λ k below. c.loop-case.invariant.done k (omega arith))
