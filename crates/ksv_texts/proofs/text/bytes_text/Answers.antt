use Rattle.std.proofs.Common.{◌≡◌, ◌∙◌, ◌++◌, codes, string_bytes, ap, arith}
use Rattle.hex.specs.Hex.{encode_lower}
use Rattle.ksv_texts.proofs.TextLemmas.{digits_told}
use Rattle.ksv_texts.proofs.text.bytes_text.Goals as goal

pub returns : goal.returns
returns c =
    let front : string_bytes c.push_str.new.self ≡ codes "hex " ++ encode_lower c.parts.result.0.now = grind arith in
    let back : string_bytes c.push_str-2.new.self ≡ string_bytes c.push_str.new.self ++ encode_lower c.parts.result.1.now = grind arith in
    back ∙ ap (λ t. t ++ encode_lower c.parts.result.1.now) front
    ∙ digits_told c.args.buffer.now c.args.from c.args.to c.parts.result.0.now c.parts.result.1.now (c.parts.ensures ∙ c.window.ensures.same)
