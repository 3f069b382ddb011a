use Rattle.ksv_expr_meaning.proofs.Truths.{meaning_is_direct as law}
use Rattle.ksv_expr_meaning.proofs.laws.meaning_is_direct.Goals as goal

pub returns : goal.returns
returns c = law
