use Rattle.std.proofs.Common.{◌≡◌, ◌+◌, ◌≤◌, map, drop}
use Rattle.ksv_desc.specs.Pieces.{plain_member}
use Rattle.ksv_rule_meaning.specs.Fields.{parameters_before}
use Rattle.ksv_rules.proofs.fields.parameters_before.Given as goal

abbrev pub invariant-loop-member : goal.invariant-loop-member
invariant-loop-member l = (l.count ≤ l.member-index)
    × (l.count + parameters_before l.left (map plain_member (drop l.member-index l.members)) ≡ parameters_before l.place (map plain_member l.members))
