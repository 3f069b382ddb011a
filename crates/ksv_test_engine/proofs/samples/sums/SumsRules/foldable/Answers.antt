use Rattle.ksv_test_engine.proofs.Summing.{are_fold, told_are_sums}
use Rattle.ksv_test_engine.proofs.samples.sums.SumsRules.foldable.Goals as goal

pub returns : goal.returns
returns c = λ root told. are_fold c.args.bytes.now c.args.nodes.now c.count_in.result c.count_in.ensures.in_size c.count_in.ensures.in_file
    (c.count_in.ensures.summed (told_are_sums c.args.bytes.now c.args.nodes.now c.args.kept c.ranges.kept.fits told))
