use Rattle.ksv_rule_meaning.specs.Choosing.{first_case}
use Rattle.std.proofs.Common.{arith}
use Rattle.std.proofs.lemmas.Grind.{common_steps}
use Rattle.ksv_rules.proofs.choosing.default_case.Goals as goal

pub returns-then-is_none : goal.returns-then-is_none
unfolding first_case
returns-then-is_none c = grind (arith, common_steps)

pub loop-case-preserved : goal.loop-case-preserved
unfolding first_case
loop-case-preserved c = grind (arith, common_steps)

pub returns : goal.returns
unfolding first_case
returns c = grind (arith, common_steps)
