use Rattle.std.proofs.Common.{◌≡◌, ◌∙◌, ◌++◌, ap, arith, string_bytes}
use Rattle.hex.specs.Hex.{encode_lower, lower_digits}
use Rattle.ksv_texts.proofs.TextLemmas.{encoded_append}
use Rattle.ksv_texts.proofs.written.digits.Goals as goal

pub returns : goal.returns
returns c =
    let back : string_bytes c.push_str.new.self ≡ encode_lower c.parts.result.0.now ++ encode_lower c.parts.result.1.now = grind arith in
    back ∙ encoded_append lower_digits c.parts.result.0.now c.parts.result.1.now ∙ ap encode_lower (c.parts.ensures ∙ c.window.ensures.same)
