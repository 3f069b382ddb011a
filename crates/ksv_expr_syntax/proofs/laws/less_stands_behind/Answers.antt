-- The two ways of the law.
use Rattle.ksv_expr_syntax.proofs.Longest.{less_is_cut}
use Rattle.ksv_expr_syntax.proofs.laws.less_stands_behind.Goals as goal

pub returns : goal.returns
returns c = less_is_cut
