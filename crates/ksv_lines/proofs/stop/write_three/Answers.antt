use Rattle.std.proofs.Common.{◌∙◌, ◌++◌, ap}
use Rattle.ksv_lines.proofs.Written.{on_ok, three}
use Rattle.ksv_lines.proofs.stop.write_three.Goals as goal

pub returns-clause-ok : goal.returns-clause-ok
returns-clause-ok g c tells =
    let bytes = g.W.Sink.bytes in
    let first = c.in_ok-write_all.ensures.ok tells ∙ ap (λ t. bytes c.args.sink.now ++ t) c.as_bytes.ensures.value in
    let second = c.in_ok-write_all-2.ensures.ok tells ∙ ap (λ t. bytes c.write_all.new.writer ++ t) c.as_bytes-2.ensures.value in
    on_ok c.write_all-3.result
    (λ third. three _ _ _ _ _ _ _ first second (third ∙ ap (λ t. bytes c.write_all-2.new.writer ++ t) c.as_bytes-3.ensures.value))
    (c.write_all-3.ensures.ok tells)
