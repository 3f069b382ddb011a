use Rattle.std.proofs.Common.{arith}
use Rattle.ksv_basics.proofs.Worth.{digits_more, number_more}
use Rattle.ksv_basics.proofs.digits.numeral.Goals as goal

pub loop-digit-preserved : goal.loop-digit-preserved
loop-digit-preserved c = record { digits = grind (arith, digits_more); number = grind (arith, number_more) }
