use Rattle.std.proofs.Common.{◌≡◌, None, map, drop}
use Rattle.ksv_desc.specs.Pieces.{plain_member}
use Rattle.ksv_rule_meaning.specs.Fields.{last_attribute}
use Rattle.ksv_rule_meaning.proofs.members.last_attribute.Given as goal

abbrev pub invariant-loop-member : goal.invariant-loop-member
invariant-loop-member l = last_attribute l.last (map plain_member (drop l.member-index l.members)) ≡ last_attribute None (map plain_member l.members)
