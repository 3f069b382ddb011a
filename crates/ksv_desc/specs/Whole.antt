-- The plain data of a whole description in the code.
use Rattle.std.specs.Prelude.{map}
use Rattle.ksv_desc.specs.declared.pieces.Pieces.{Pieces}
use Rattle.ksv_desc.specs.Description.{Description}
use Rattle.ksv_desc.specs.Pieces.{plain_type, plain_enum}

abbrev pub plain_pieces : Pieces → Description
plain_pieces p = record { types = map plain_type p.types.items; enums = map plain_enum p.enums.items; names = p.names; known = p.known }
