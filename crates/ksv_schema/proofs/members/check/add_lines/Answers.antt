use Rattle.ksv_schema.proofs.Common.{refl, ap, ◌∙◌, ◌++◌, ◌∷◌, [], map, pair, ℕ, arith, common_steps}
use Rattle.ksv_schema.proofs.Made.{added}
use Rattle.ksv_schema.proofs.members.check.add_lines.Goals as goal

pub loop-entry-preserved : goal.loop-entry-preserved
loop-entry-preserved c =
    added c.args.entries.now (λ es. map (λ p. p.line) (map pair es)) _ _ _ _ _ _ c.loop-entry-test.true c.entry-item.is (λ es. refl)
    (c.in_ok-push.ensures.items ∙ ap (λ (n : ℕ). c.loop-entry.lines.items ++ n ∷ []) c.line.ensures) c.loop-entry.invariant

pub returns : goal.returns
returns c = grind (arith, common_steps)
