use Rattle.std.proofs.Common.{arith}
use Rattle.std.proofs.lemmas.Grind.{common_steps}
use Rattle.ksv_desc.proofs.Readers.{name_more}
use Rattle.ksv_desc.proofs.type_desc.names_of.Goals as goal

pub loop-member-preserved : goal.loop-member-preserved
loop-member-preserved c = name_more _ _ c.args.members.now _ _ _ c.loop-member-test.true c.member-item.is c.in_ok-push.ensures.items c.loop-member.invariant

pub returns : goal.returns
returns c = grind (arith, common_steps)
