use Rattle.std.proofs.Common.{◌∙◌, ◌++◌, ap, codes}
use Rattle.std.specs.Prelude.{decimal}
use Rattle.ksv_lines.specs.Messages.{place_text}
use Rattle.ksv_lines.proofs.Written.{five, on_ok}
use Rattle.ksv_lines.proofs.stop.say_line.Goals as goal

pub returns-clause-ok : goal.returns-clause-ok
returns-clause-ok g c tells =
    let bytes = g.W.Sink.bytes in
    let second = c.in_ok-write_three-2.ensures.ok tells
    ∙ ap (λ t. bytes c.write_three.new.sink ++ (t ++ codes ": " ++ c.args.code.now)) c.format.ensures.text in
    let fourth = c.in_ok-write_all-2.ensures.ok tells ∙ ap (λ t. bytes c.write_all.new.writer ++ t) c.as_bytes.ensures.value in
    on_ok c.write_place.result
    (λ last. five _ _ _ _ _ _ (codes "ksv: " ++ c.args.ksy.now ++ codes ": line ") (decimal c.args.line ++ codes ": " ++ c.args.code.now) (codes " ")
    c.args.text.now (place_text c.args.place)
    (c.in_ok-write_three.ensures.ok tells) second (c.in_ok-write_all.ensures.ok tells) fourth last)
    (c.write_place.ensures.ok tells)
