use Rattle.std.proofs.Common.{◌∙◌, sym, arith}
use Rattle.ksv_folds.proofs.Edits.{sized_stays, sized_goes, all_stays, plain_goes}
use Rattle.ksv_folds.proofs.plain_list.PlainList.left_at.Goals as goal
use Rattle.ksv_folds.specs.Lemmas.Numbers.{elements_some}

pub returns-then-ends_with_file-clause-stays : goal.returns-then-ends_with_file-clause-stays
returns-then-ends_with_file-clause-stays c =
    let some = elements_some c.args.self.now in
    sized_stays c.args.self.now c.args.at c.border.result (omega (arith, some)) c.border.ensures.stays

pub returns-then-ends_with_file-clause-goes : goal.returns-then-ends_with_file-clause-goes
returns-then-ends_with_file-clause-goes c =
    sized_goes c.args.self.now c.args.at c.border.result c.args.kept (sym c.ends_with_file.ensures ∙ c.if-ends_with_file.true)
    (λ j up low less. c.border.ensures.goes j up (omega arith))

pub returns-then-near-elements-clause-goes : goal.returns-then-near-elements-clause-goes
returns-then-near-elements-clause-goes c =
    plain_goes c.args.self.now c.args.at c.border-near.result c.args.kept (sym c.ends_with_file.ensures ∙ c.if-ends_with_file.false) (omega arith)
    (λ j up low less. c.border-near.ensures.goes j up (omega arith))

pub returns-else-near-elements-clause-stays : goal.returns-else-near-elements-clause-stays
returns-else-near-elements-clause-stays c =
    λ j low. all_stays c.args.self.now c.args.at (sym c.ends_with_file.ensures ∙ c.if-ends_with_file.false)
    (λ i less. c.border-near.ensures.stays i (omega arith)) j
