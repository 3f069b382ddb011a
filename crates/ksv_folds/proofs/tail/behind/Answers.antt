use Rattle.std.proofs.lemmas.Slice.Eq.{strip_prefix_is}
use Rattle.ksv_folds.proofs.Steps.{step_decides}
use Rattle.ksv_folds.proofs.tail.behind.Goals as goal

pub returns : goal.returns
returns c = strip_prefix_is step_decides c.args.path.now c.args.list.now c.strip_prefix.result c.strip_prefix.ensures.cases
