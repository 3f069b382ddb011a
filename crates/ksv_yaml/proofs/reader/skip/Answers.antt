-- Fewer lines are no more to read.
use Rattle.ksv_yaml.proofs.Common.{ap, arith, weight, lines_view}
use Rattle.ksv_yaml.proofs.BlockLoops.{loud_lighter}
use Rattle.ksv_yaml.proofs.reader.skip.Goals as goal

pub returns-clause-shorter : goal.returns-clause-shorter
returns-clause-shorter c = let e = ap weight c.skip_quiet.ensures in let h = loud_lighter (lines_view c.args.lines.now) in omega arith
