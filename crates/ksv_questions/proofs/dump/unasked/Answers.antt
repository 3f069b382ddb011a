use Rattle.ksv_questions.proofs.Common.{◌∙◌, [], ap, sym, err_from_is_err_and, Data, dumped, begin, unasked, written}
use Rattle.ksv_desc.specs.Whole.{plain_pieces}
use Rattle.ksv_texts.specs.Parts.{too_long_part}
use Rattle.ksv_questions.proofs.Bound.{bind_is}
use Rattle.ksv_questions.proofs.Steps.{settled_failed}
use Rattle.ksv_questions.proofs.dump.unasked.Goals as goal

pub returns-in_err-left : goal.returns-in_err-left
unfolding unasked
returns-in_err-left c =
    let d = plain_pieces c.args.desc.now in
    let e = err_from_is_err_and c.from_residual.result c.from_residual.ensures.1 in
    rw (e.1, e.2) (settled_failed d [] (begin c.args.left) (λ left. written (too_long_part d c.args.path.now) left) (λ n. n) dumped c.in_err-left.field-0.0
    c.in_err-left.ensures)

pub returns : goal.returns
unfolding unasked
returns c =
    let d = plain_pieces c.args.desc.now in
    bind_is (begin c.args.left) (λ left. written (too_long_part d c.args.path.now) left) c.in_ok-left.left c.in_ok-left.ensures
    ∙ ap (λ (json : Data). written json c.in_ok-left.left) (sym c.in_ok-json.ensures)
