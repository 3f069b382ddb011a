use Rattle.std.proofs.Common.{◌≡◌, ◌-◌, ◌++◌, List, ℕ, length, take, drop, sym, ◌∙◌, ap, arith, length-drop, append_assoc, ◌+◌}
use Rattle.std.proofs.lemmas.List.{take_all}
use Rattle.std.proofs.Math.Seq.{take-add}
use Rattle.ksv_lines.proofs.device.write_all.Goals as goal

-- all that is left of a text
rest_is : (text : List ℕ) (done : ℕ) → take (length text - done) (drop done text) ≡ drop done text
rest_is text done = take_all _ _ (omega (arith, length-drop done text))

more_written : (text before now after : List ℕ) (done n : ℕ) → now ≡ before ++ take done text
    → after ≡ now ++ take n (take (length text - done) (drop done text)) → after ≡ before ++ take (done + n) text
more_written text before now after done n so_far more =
    more ∙ ap (λ r. now ++ take n r) (rest_is text done) ∙ ap (λ v. v ++ take n (drop done text)) so_far
    ∙ append_assoc before (take done text) (take n (drop done text)) ∙ ap (λ v. before ++ v) (sym (take-add done n text))

pub loop-done-preserved : goal.loop-done-preserved
loop-done-preserved g c =
    let so_far = c.loop-done.invariant in
    let e = c.in_ok-done.ensures in (
      omega (arith, e.within, so_far.0, ap length (rest_is c.args.text.now c.loop-done.done), length-drop c.loop-done.done c.args.text.now),
      (λ tells. more_written c.args.text.now _ _ _ c.loop-done.done c.in_ok-done.field-0 (so_far.1 tells) (e.taken tells)),
      (λ tells. e.held tells ∙ so_far.2 tells),
      e.fault,
    )
