-- Every longest token is the one that is cut, and each token has a shape.
use Rattle.ksv_expr_syntax.proofs.Longest.{one_longest, no_shorter}
use Rattle.ksv_expr_syntax.proofs.laws.one_longest_token.Goals as goal

pub returns-clause-alone : goal.returns-clause-alone
returns-clause-alone c = one_longest

pub returns-clause-longest : goal.returns-clause-longest
returns-clause-longest c = no_shorter
