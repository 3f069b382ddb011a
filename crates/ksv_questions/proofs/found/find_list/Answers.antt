use Rattle.std.proofs.lemmas.Grind.{common_steps}
use Rattle.ksv_questions.proofs.Common.{◌∙◌, None, subst, sym, Runs, bytes_of, desc_of, found_of, find_list, arith}
use Rattle.ksv_questions.proofs.Steps.{runs_settled}
use Rattle.ksv_questions.proofs.found.find_list.Goals as goal

pub returns-in-Some : goal.returns-in-Some
returns-in-Some g c =
    let d = desc_of c.args.file.now in
    let b = bytes_of c.args.file.now in
    subst (λ o. Runs d b (find_list d c.args.list.now o) (λ r. found_of r) c.args.engine.now c.counted.new.engine c.counted.result)
    (sym c.in-Some.is ∙ c.in_ok-first.ensures) c.counted.ensures

pub returns-in-None : goal.returns-in-None
returns-in-None g c =
    let d = desc_of c.args.file.now in
    let b = bytes_of c.args.file.now in
    subst (λ o. Runs d b (find_list d c.args.list.now o) (λ r. found_of r) c.args.engine.now c.args.engine.now c.uncounted.result)
    (sym c.in-None.is ∙ c.in_ok-first.ensures)
    (runs_settled d b (find_list d c.args.list.now None) (λ r. found_of r) c.args.engine.now c.uncounted.result c.requires c.uncounted.ensures)

pub returns-in_err-first : goal.returns-in_err-first
returns-in_err-first g c = grind (arith, common_steps)
