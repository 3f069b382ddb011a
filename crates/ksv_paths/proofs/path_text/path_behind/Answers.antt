use Rattle.std.proofs.Common.{◌∙◌, reverse, ap, sym, Result, Ok, Err, OnErr}
use Rattle.ksv_expr_value.specs.Trail.{fits}
use Rattle.ksv_desc.specs.Whole.{plain_pieces}
use Rattle.ksv_paths.proofs.PathTexts.{behind_is, behind_some}
use Rattle.ksv_paths.proofs.path_text.path_behind.Goals as goal

-- what holds anyway holds of an error
on_err_always : {T E P : Type 0} (r : Result T E) → P → OnErr r P
on_err_always (Ok x) h = tt
on_err_always (Err e) h = h

pub from_steps-requires : goal.from_steps-requires
from_steps-requires c = ap (λ steps. fits (reverse steps)) c.as_slice.ensures ∙ c.in-Some.ensures.fits

pub returns-in_err-from_steps-in-Some-clause-refused : goal.returns-in_err-from_steps-in-Some-clause-refused
returns-in_err-from_steps-in-Some-clause-refused c =
    on_err_always c.from_residual.result
    (behind_some (plain_pieces c.args.desc.now) c.args.text.now c.in-Some.steps (sym c.is_empty.ensures ∙ c.if-is_empty.false) c.in-Some.ensures.steps
    c.in-Some.ensures.fits)

pub returns-in_ok-from_steps-in-Some-clause-path : goal.returns-in_ok-from_steps-in-Some-clause-path
returns-in_ok-from_steps-in-Some-clause-path c = behind_is (plain_pieces c.args.desc.now) c.args.text.now c.in-Some.steps c.in_ok-from_steps-in-Some.field-0
    (sym c.is_empty.ensures ∙ c.if-is_empty.false) c.in-Some.ensures.steps (c.in_ok-from_steps-in-Some.ensures ∙ ap reverse c.as_slice.ensures)
