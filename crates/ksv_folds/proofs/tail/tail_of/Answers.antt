use Rattle.std.proofs.Common.{◌++◌, ◌∙◌, ap, sym}
use Rattle.ksv_folds.proofs.Steps.{tail_is}
use Rattle.ksv_folds.proofs.tail.tail_of.Goals as goal

pub returns-in-Some : goal.returns-in-Some
returns-in-Some c =
    let rest = c.in-Some.rest.now in
    let e = sym c.steps.ensures ∙ c.in-Some.ensures ∙ ap (λ s. s ++ rest) c.steps-2.ensures in
    rw c.tail_in.ensures (tail_is c.args.list.now.upward c.args.path.now.upward rest e)
