use Rattle.std.proofs.Common.{◌≡◌, None, map, drop}
use Rattle.ksv_desc.specs.Pieces.{plain_member}
use Rattle.ksv_rule_meaning.specs.Fields.{sought}
use Rattle.ksv_rule_meaning.proofs.members.find_member.Given as goal

abbrev pub invariant-loop-member : goal.invariant-loop-member
invariant-loop-member l = (l.place ≡ l.member-index)
    × (sought l.name l.place l.before (map plain_member (drop l.member-index l.members)) ≡ sought l.name 0 None (map plain_member l.members))
