use Rattle.std.proofs.Common.{◌<◌, length, ◌∙◌, arith}
use Rattle.ksv_test_engine.proofs.Reading.{byte-behind, byte-in_front}
use Rattle.ksv_test_engine.proofs.samples.rows.byte_at.Goals as goal

pub returns-in-empty-clause-value : goal.returns-in-empty-clause-value
returns-in-empty-clause-value c =
    let lt : c.args.place < length c.args.bytes.now = omega arith in
    c.copied.ensures ∙ c.first.ensures.value ∙ byte-behind c.parts.result.0.now c.parts.result.1.now c.args.bytes.now c.args.place c.parts.ensures lt
    c.in-empty.len_below

pub returns-in-len1-up-clause-value : goal.returns-in-len1-up-clause-value
returns-in-len1-up-clause-value c =
    let lt : c.args.place < length c.args.bytes.now = omega arith in
    byte-in_front c.parts.result.0.now c.parts.result.1.now c.args.bytes.now c.args.place c.parts.ensures lt c.in-len1-up.len_at_least
