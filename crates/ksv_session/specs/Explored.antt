-- How contracts see a session.
use Rattle.std.specs.Prelude.{ℕ, List, Option, length}
use Rattle.ksv_desc.specs.declared.pieces.Pieces.{Pieces}
use Rattle.ksv_desc.specs.Description.{Description}
use Rattle.ksv_desc.specs.Whole.{plain_pieces}
use Rattle.ksv_nodes.specs.declared.node.Node.{Node}
use Rattle.ksv_session.specs.Replies.{Tally}

-- the pieces of a description, the current bytes, the kept nodes in no stated order, and the turns of the last question, which
-- aren't known after a circle or a refused memory
pub record Explored : Type 0 where
  pub pieces : Pieces
  pub bytes : List ℕ
  pub kept : List Node
  pub turns : Option ℕ

-- the description that they make
unfoldable pub description_of : Explored → Description
description_of e = plain_pieces e.pieces

-- what `stats` tells
abbrev pub tally_of : Explored → Tally
tally_of e = record { kept = length e.kept; turns = e.turns }
