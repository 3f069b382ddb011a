-- What code keeps of a member that it looked for.
use Rattle.ksv_desc.specs.Pieces.{plain_kind}
use Rattle.ksv_rule_meaning.specs.declared.members.Sought.{Sought as CodeSought}
use Rattle.ksv_rule_meaning.specs.Fields.{Sought}

abbrev pub plain_sought : CodeSought → Sought
plain_sought s = record { member = s.member; before = s.before; kind = plain_kind s.kind.now }
