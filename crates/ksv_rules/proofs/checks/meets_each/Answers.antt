use Rattle.std.proofs.Common.{true, false, ap, sym, ◌∙◌, arith}
use Rattle.std.proofs.lemmas.Result.{err_from_is_err_and}
use Rattle.ksv_basics.specs.Plan.{Done}
use Rattle.ksv_rules.proofs.Conditions.{each_answers, each_halts, each_ends}
use Rattle.ksv_rules.proofs.checks.meets_each.Goals as goal

pub returns-in_err-truth_of : goal.returns-in_err-truth_of
returns-in_err-truth_of c =
    let p = err_from_is_err_and c.from_residual.result c.from_residual.ensures.1 in
    rw (p.1, p.2) (each_halts _ _ _ _ _ _ c.loop-condition-test.true c.condition-item.is c.loop-condition.invariant c.truth_of.new.turn _
    c.in_err-truth_of.ensures)

pub returns-then-not-branch : goal.returns-then-not-branch
returns-then-not-branch c = each_answers _ _ _ _ _ _ c.loop-condition-test.true c.condition-item.is c.loop-condition.invariant false c.truth_of.new.turn
    (c.in_ok-truth_of.ensures ∙ ap (λ b. Done b c.truth_of.new.turn) c.if-not-branch.true)

pub loop-condition-preserved : goal.loop-condition-preserved
loop-condition-preserved c =
    sym (each_answers _ _ _ _ _ _ c.loop-condition-test.true c.condition-item.is c.loop-condition.invariant true c.truth_of.new.turn
    (c.in_ok-truth_of.ensures ∙ ap (λ b. Done b c.truth_of.new.turn) c.if-not-branch.false))

pub returns : goal.returns
returns c = each_ends _ _ _ _ _ (omega arith) c.loop-condition.invariant
