use Rattle.std.proofs.Common.{◌∙◌, ◌++◌, ap, codes, sym}
use Rattle.ksv_lines.specs.Messages.{place_text}
use Rattle.ksv_lines.proofs.Written.{on_ok}
use Rattle.ksv_lines.proofs.stop.write_place.Goals as goal

pub returns-in-Some-clause-ok : goal.returns-in-Some-clause-ok
returns-in-Some-clause-ok g c tells =
    let before = g.W.Sink.bytes c.args.sink.now in
    on_ok c.write_three.result
    (λ written. written ∙ ap (λ t. before ++ (codes " at " ++ t ++ codes "\n")) c.format.ensures.text ∙ ap (λ p. before ++ place_text p) (sym c.in-Some.is))
    (c.write_three.ensures.ok tells)
