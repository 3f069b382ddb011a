use Rattle.std.proofs.Common.{◌+◌, drop, map, arith}
use Rattle.std.proofs.lemmas.Bool.Decides.{nat_tests}
use Rattle.std.proofs.lemmas.Grind.{common_steps}
use Rattle.ksv_desc.specs.Pieces.{plain_member}
use Rattle.ksv_rules.proofs.Parameters.{no_more, none_left, one_more}
use Rattle.ksv_rules.proofs.fields.parameters_before.Goals as goal
use Rattle.ksv_rules.proofs.fields.parameters_before.Goals.{then-is_parameter, else-is_parameter}

pub returns-then-left-eq0 : goal.returns-then-left-eq0
returns-then-left-eq0 c = let none = no_more (map plain_member (drop c.loop-member.member-index c.args.members.now)) in grind (arith, nat_tests, common_steps)

pub loop-member-preserved : goal.loop-member-preserved
loop-member-preserved c =
    let more = one_more c.loop-member.left (plain_member c.member-item.result) (map plain_member (drop (c.loop-member.member-index + 1) c.args.members.now)) in
    elim c.if-is_parameter.branch [
      | then-is_parameter w ↦ grind (arith, nat_tests, common_steps)
      | else-is_parameter w ↦ grind (arith, nat_tests, common_steps)
    ]

pub returns : goal.returns
returns c = let none = none_left c.loop-member.left in grind (arith, nat_tests, common_steps)
