use Rattle.ksv_expr_meaning.proofs.Truths.{is_bounded as law}
use Rattle.ksv_expr_meaning.proofs.laws.is_bounded.Goals as goal

pub returns : goal.returns
returns c = law
