use Rattle.ksv_questions.proofs.Common.{◌∙◌, Err, None, subst, sym, err_from_is_err_and, Runs, bytes_of, desc_of}
use Rattle.ksv_expr_value.specs.declared.fault.FaultKind.TheVariants.{PathTooLong}
use Rattle.ksv_nodes.specs.NodeFaults.{raised_at}
use Rattle.ksv_questions.specs.Questions.{first_asked}
use Rattle.ksv_questions.proofs.AskLemmas.{asked_ended, asked_failed}
use Rattle.ksv_questions.proofs.Steps.{runs_settled, settled_fault}
use Rattle.ksv_questions.proofs.parts.first_asked.Goals as goal

pub returns-in_default : goal.returns-in_default
unfolding first_asked
returns-in_default g c =
    let d = desc_of c.args.file.now in
    let b = bytes_of c.args.file.now in
    subst (λ o. Runs d b (first_asked c.args.path.now c.args.list.now o) (λ n. n) c.args.engine.now c.args.engine.now (Err c.fault_at.result))
    (sym c.in_default.is ∙ c.in_ok-first.ensures)
    (runs_settled d b (first_asked c.args.path.now c.args.list.now None) (λ n. n) c.args.engine.now (Err c.fault_at.result) c.requires
    (settled_fault d b (raised_at c.args.list.now PathTooLong) (λ n. n) c.fault_at.result c.fault_at.ensures))

pub returns-in_err-given : goal.returns-in_err-given
unfolding first_asked
returns-in_err-given g c =
    let d = desc_of c.args.file.now in
    let b = bytes_of c.args.file.now in
    let e = err_from_is_err_and c.from_residual-in_err-given.result c.from_residual-in_err-given.ensures.1 in
    rw (e.1, e.2) (subst
    (λ o. Runs d b (first_asked c.args.path.now c.args.list.now o) (λ n. n) c.args.engine.now c.ask.new.engine (Err c.in_err-given.field-0.0))
    (sym c.in-Some.is ∙ c.in_ok-first.ensures)
    (asked_failed _ _ _ _ (λ n. n) _ c.ask.new.engine c.in_err-given.field-0.0 c.in_err-given.ensures))

pub returns : goal.returns
unfolding first_asked
returns g c =
    let d = desc_of c.args.file.now in
    let b = bytes_of c.args.file.now in
    subst (λ o. Runs d b (first_asked c.args.path.now c.args.list.now o) (λ n. n) c.args.engine.now c.ask.new.engine c.in_rest.result)
    (sym c.in-Some.is ∙ c.in_ok-first.ensures)
    (asked_ended _ _ _ _ (λ n. n) _ c.ask.new.engine c.in_ok-given.given c.in_rest.result c.in_ok-given.ensures c.in_rest.ensures)
