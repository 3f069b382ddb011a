use Rattle.std.proofs.Common.{◌≡◌, ◌++◌, ℕ, length, take, sym, ◌∙◌, ap, Ok, Err}
use Rattle.std.specs.Prelude.{OnErr}
use Rattle.std.proofs.Math.Seq.{take-length}
use Rattle.ksv_lines.proofs.device.send.Goals as goal

pub returns-clause-err : goal.returns-clause-err
returns-clause-err g c tells =
    let written = c.flush.ensures.kept tells ∙ c.in_ok-write_all.ensures.ok tells in
    elim c.flush.result as (λ r. OnErr r ((n : ℕ) × (g.W.Sink.bytes c.flush.new.self ≡ g.W.Sink.bytes c.args.writer.now ++ take n c.args.text.now))) [
      | Ok u ↦ _
      | Err e ↦ (length c.args.text.now, written ∙ ap (λ t. g.W.Sink.bytes c.args.writer.now ++ t) (sym (take-length c.args.text.now)))
    ]
