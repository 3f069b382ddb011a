use Rattle.std.proofs.Common.{◌≡◌, ◌<◌, ◌∷◌, length, reverse, arith, ap, sym, ◌∙◌}
use Rattle.std.proofs.lemmas.List.{length-reverse}
use Rattle.ksv_expr_value.specs.Trail.{Trail, fits-more, fits-over, trail_of, trail_of-true, trail_of-false}
use Rattle.ksv_expr_value.proofs.Paths.{fits-push, reverse-push}
use Rattle.ksv_expr_value.proofs.path.Path.child.Goals as goal

pub returns-then-len-eq-MAX_STEPS : goal.returns-then-len-eq-MAX_STEPS
returns-then-len-eq-MAX_STEPS c =
    let full : length c.args.self.now.upward ≡ 64 = omega (arith, c.len-len.ensures.len) in
    sym (trail_of-false (c.args.step ∷ c.args.self.now.upward) (fits-over c.args.step c.args.self.now.upward full))

pub with-requires : goal.with-requires
with-requires c =
    let up : reverse c.self.inside.steps ≡ c.args.self.now.upward = ap (λ (t : Trail). t.upward) c.self.view_is in
    let same : length (reverse c.self.inside.steps) ≡ length c.args.self.now.upward = ap length up in
    omega (arith, c.len-len.ensures.len, c.len-len.ensures.small, c.if-len-eq-MAX_STEPS.false, length-reverse c.self.inside.steps)

pub invariant_of-result : goal.invariant_of-result
invariant_of-result c =
    let up : reverse c.self.inside.steps ≡ c.args.self.now.upward = ap (λ (t : Trail). t.upward) c.self.view_is in
    let few : length (reverse c.self.inside.steps) < 64 =
    rw up (omega (arith, c.len-len.ensures.len, c.len-len.ensures.small, c.if-len-eq-MAX_STEPS.false)) in (
      fits-push c.self.inside.steps c.args.step c.in_ok-steps.steps c.in_ok-steps.ensures
          (fits-more c.args.step (reverse c.self.inside.steps) c.requires c.self.inside.valid few),
      tt,
    )

pub returns : goal.returns
returns c =
    let up : reverse c.self.inside.steps ≡ c.args.self.now.upward = ap (λ (t : Trail). t.upward) c.self.view_is in
    let seen : reverse c.in_ok-steps.steps ≡ c.args.step ∷ c.args.self.now.upward =
    ap reverse c.in_ok-steps.ensures ∙ reverse-push c.self.inside.steps c.args.step ∙ ap (λ q. c.args.step ∷ q) up in
    sym (trail_of-true _) ∙ ap trail_of seen
