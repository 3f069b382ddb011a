-- What the code keeps of a case that was chosen.
use Rattle.ksv_desc.specs.Pieces.{plain_content}
use Rattle.ksv_rules.specs.declared.choosing.Chosen.{Chosen as CodeChosen}
use Rattle.ksv_rule_meaning.specs.Choosing.{Chosen}

abbrev pub plain_chosen : CodeChosen → Chosen
plain_chosen c = record { case = c.case; content = plain_content c.content.now }
