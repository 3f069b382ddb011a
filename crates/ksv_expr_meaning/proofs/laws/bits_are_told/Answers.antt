use Rattle.ksv_expr_meaning.proofs.Bits.{bits_are_told as law}
use Rattle.ksv_expr_meaning.proofs.laws.bits_are_told.Goals as goal

pub returns : goal.returns
returns c = law
