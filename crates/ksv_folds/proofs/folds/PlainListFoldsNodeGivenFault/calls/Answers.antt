use Rattle.std.proofs.Common.{arith}
use Rattle.ksv_folds.proofs.Adding.{calls_between}
use Rattle.ksv_folds.proofs.folds.PlainListFoldsNodeGivenFault.calls.Goals as goal

pub overflow_sub-result : goal.overflow_sub-result
overflow_sub-result c =
    let e = calls_between c.args.self.now c.args.from c.args.to c.requires.order c.requires.in_size in
    let to = c.calls_to.ensures in let from = c.calls_to-2.ensures in omega (arith, e, to, from)
