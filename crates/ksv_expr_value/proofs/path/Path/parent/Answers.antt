use Rattle.std.proofs.Common.{◌≡◌, ◌-◌, length, reverse, arith, ap, ◌∙◌}
use Rattle.std.proofs.lemmas.List.{length-reverse}
use Rattle.ksv_expr_value.specs.Trail.{Trail, fits-all_but_last, same_trail, parent, all_but_last}
use Rattle.ksv_expr_value.proofs.Paths.{parent_seen}
use Rattle.ksv_expr_value.proofs.path.Path.parent.Goals as goal
use Rattle.ksv_expr_value.proofs.path.Path.parent.Goals.{then-len-eq0, else-len-eq0}

up : (c : goal.In_ok-steps) → reverse c.self.inside.steps ≡ c.args.self.now.upward
up c = ap (λ (t : Trail). t.upward) c.self.view_is

shorter : (c : goal.In_ok-steps) → c.if-len-eq0.shorter ≡ length c.self.inside.steps - 1
shorter c =
    let same = length-reverse c.self.inside.steps in
    let seen : length (reverse c.self.inside.steps) ≡ length c.args.self.now.upward = ap length (up c) in
    elim c.if-len-eq0.branch [ then-len-eq0 w ↦ omega (arith, c.len-len.ensures.len) | else-len-eq0 w ↦ omega (arith, c.len-len.ensures.len) ]

seen : (c : goal.In_ok-steps) → reverse c.in_ok-steps.steps ≡ all_but_last c.args.self.now.upward
seen c = ap reverse c.in_ok-steps.ensures ∙ parent_seen c.self.inside.steps c.if-len-eq0.shorter (shorter c) ∙ ap all_but_last (up c)

pub invariant_of-result : goal.invariant_of-result
invariant_of-result c = (rw (seen c) (fits-all_but_last c.args.self.now.upward c.args.self.now.valid), tt)

pub returns : goal.returns
returns c = same_trail _ (parent c.args.self.now) (seen c.before)
