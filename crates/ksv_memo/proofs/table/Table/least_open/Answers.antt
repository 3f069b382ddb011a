use Rattle.ksv_memo.proofs.Common.{subst, AllByRecursion}
use Rattle.ksv_memo.specs.Folding.{IsNoneBelow}
use Rattle.ksv_memo.proofs.Leasts.{opens_all}
use Rattle.ksv_memo.proofs.table.Table.least_open.Goals as goal

pub returns-clause-apart : goal.returns-clause-apart
returns-clause-apart g c =
    let P = λ (n : g.row.R-Node.Denot). IsNoneBelow (g.R.Fold.Folds.fold c.args.folded.now) c.least_place.result n in
    subst (λ v. AllByRecursion (λ waiting. P waiting.node) v.opened) c.self.view_is
    (opens_all P c.self.inside.slots.entries c.self.inside.frames c.self.invariant.waits
    (subst (AllByRecursion (λ frame. P frame.node)) c.as_slice.ensures.value c.least_place.ensures.apart))
