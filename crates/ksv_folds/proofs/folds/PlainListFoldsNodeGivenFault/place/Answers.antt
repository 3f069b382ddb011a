use Rattle.std.proofs.Common.{◌∙◌, ap, sym}
use Rattle.ksv_folds.specs.Lemmas.Found.{numbered_node, numbered}
use Rattle.ksv_folds.proofs.folds.PlainListFoldsNodeGivenFault.place.Goals as goal
use Rattle.ksv_folds.specs.Sequence.{node_in, numbered_at}

pub returns-in-Some-clause-some : goal.returns-in-Some-clause-some
returns-in-Some-clause-some c =
    let p = c.args.self.now in
    let at = numbered_node p c.args.node.now c.in-Some.numbered c.in-Some.ensures.some in
    sym (at ∙ ap (λ j. node_in p (numbered_at p j)) (sym c.number.ensures.value))

pub returns-in-None-clause-none : goal.returns-in-None-clause-none
returns-in-None-clause-none c =
    let p = c.args.self.now in λ j low e. c.in-None.ensures.none (numbered_at p j) (numbered p c.args.node.now j low (sym e))
