use Rattle.ksv_yaml_scan.proofs.Common.{ap, sym, ◌∙◌}
use Rattle.ksv_yaml_scan.specs.Text.{without_return}
use Rattle.ksv_yaml_scan.proofs.Choices.{at_true, at_false, same_byte, other_byte}
use Rattle.ksv_yaml_scan.proofs.Cutting.{return_last}
use Rattle.ksv_yaml_scan.proofs.cut.without_return.Goals as goal

pub returns-then-last-eq13-clause-value : goal.returns-then-last-eq13-clause-value
returns-then-last-eq13-clause-value c =
    sym (ap without_return c.in-Some.ensures.cases.0 ∙ return_last c.in-Some.front.now c.in-Some.last.now
    ∙ at_true _ _ _ (same_byte c.in-Some.last.now 13 c.if-last-eq13.true))

pub returns-else-last-eq13-clause-value : goal.returns-else-last-eq13-clause-value
returns-else-last-eq13-clause-value c = c.in-Some.ensures.cases.0
    ∙ sym (ap without_return c.in-Some.ensures.cases.0 ∙ return_last c.in-Some.front.now c.in-Some.last.now
    ∙ at_false _ _ _ (other_byte c.in-Some.last.now 13 c.if-last-eq13.false))
