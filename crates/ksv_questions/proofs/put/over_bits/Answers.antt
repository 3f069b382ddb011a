use Rattle.ksv_questions.proofs.Common.{length, arith}
use Rattle.ksv_expr_value.specs.Bytes.{content}
use Rattle.ksv_expr_value.proofs.Places.{few_between}
use Rattle.ksv_questions.proofs.put.over_bits.Goals as goal

pub bits_hold-requires : goal.bits_hold-requires
bits_hold-requires c =
    omega (arith, few_between c.args.leaf.now.from c.args.leaf.now.to (length (content c.in-Some.parts)) c.in-Some.ensures.met, c.in-Some.ensures.few)
