use Rattle.std.proofs.Common.{◌≡◌, ◌∙◌, ◌++◌, ap, string_bytes, subst, sym}
use Rattle.std.specs.Prelude.{OnOk}
use Rattle.ksv_desc.specs.Whole.{plain_pieces}
use Rattle.ksv_paths.specs.PathTexts.{or_slash, steps_text}
use Rattle.ksv_texts.proofs.TextLemmas.{path_told}
use Rattle.ksv_texts.proofs.text.push_path.Goals as goal

pub returns : goal.returns
returns c =
    let d = plain_pieces c.args.desc.now in
    let some = sym c.is_empty.ensures ∙ c.if-is_empty.false in
    subst (λ t. OnOk c.push_steps.result (string_bytes c.push_steps.new.text ≡ string_bytes c.args.text.now ++ t))
    (sym (path_told d c.steps-steps.result.now some) ∙ ap (λ steps. or_slash (steps_text d steps)) c.steps-steps.ensures) c.push_steps.ensures
