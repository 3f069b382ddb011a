use Rattle.std.proofs.Common.{true, false, ap, sym, ◌∙◌, arith}
use Rattle.std.proofs.lemmas.Result.{err_from_is_err_and}
use Rattle.ksv_basics.specs.Plan.{Done}
use Rattle.ksv_rules.proofs.Conditions.{one_answers, one_halts, one_ends}
use Rattle.ksv_rules.proofs.checks.meets_one.Goals as goal

pub returns-in_err-truth_of : goal.returns-in_err-truth_of
returns-in_err-truth_of c =
    let p = err_from_is_err_and c.from_residual.result c.from_residual.ensures.1 in
    rw (p.1, p.2) (one_halts _ _ _ _ _ _ c.loop-condition-test.true c.condition-item.is c.loop-condition.invariant c.truth_of.new.turn _
    c.in_err-truth_of.ensures)

pub returns-then-branch : goal.returns-then-branch
returns-then-branch c = one_answers _ _ _ _ _ _ c.loop-condition-test.true c.condition-item.is c.loop-condition.invariant true c.truth_of.new.turn
    (c.in_ok-truth_of.ensures ∙ ap (λ b. Done b c.truth_of.new.turn) c.if-branch.true)

pub loop-condition-preserved : goal.loop-condition-preserved
loop-condition-preserved c =
    sym (one_answers _ _ _ _ _ _ c.loop-condition-test.true c.condition-item.is c.loop-condition.invariant false c.truth_of.new.turn
    (c.in_ok-truth_of.ensures ∙ ap (λ b. Done b c.truth_of.new.turn) c.if-branch.false))

pub returns : goal.returns
returns c = one_ends _ _ _ _ _ (omega arith) c.loop-condition.invariant
