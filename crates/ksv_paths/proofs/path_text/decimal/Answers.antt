use Rattle.std.proofs.Common.{◌∙◌, sym}
use Rattle.ksv_paths.proofs.Digits.{decimal_parsed, digits_are_text, is_ok_from, ok_part}
use Rattle.ksv_paths.proofs.path_text.decimal.Goals as goal

pub unwrap-requires : goal.unwrap-requires
unwrap-requires c =
    let all = sym c.are_decimal.ensures ∙ c.if-not-are_decimal.false in
    is_ok_from _ _ _ c.from_utf8.ensures.cases (λ e no. no.0 (digits_are_text c.args.text.now all))

pub returns : goal.returns
returns c =
    let all = sym c.are_decimal.ensures ∙ c.if-not-are_decimal.false in
    let text = ok_part c.from_utf8.result c.unwrap.result _ _ c.unwrap.ensures c.from_utf8.ensures.cases in
    c.ok.ensures.value ∙ decimal_parsed c.args.text.now c.unwrap.result.now c.parse.result text.0 all c.parse.ensures.value.0
