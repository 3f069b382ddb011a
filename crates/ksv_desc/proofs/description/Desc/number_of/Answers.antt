use Rattle.std.proofs.Common.{sym, ap, arith, ◌∙◌}
use Rattle.std.specs.Str.{bytes_eq}
use Rattle.ksv_desc.specs.Names.{number_in}
use Rattle.ksv_desc.specs.declared.pieces.Pieces.{Pieces}
use Rattle.ksv_desc.specs.Description.{number_of_name}
use Rattle.ksv_desc.specs.Whole.{plain_pieces}
use Rattle.ksv_desc.proofs.Readers.{found_behind}
use Rattle.ksv_desc.proofs.description.Desc.number_of.Goals as goal

pub returns-else-number-self : goal.returns-else-number-self
unfolding number_in
returns-else-number-self c =
    let p = c.self.inside.pieces in
    sym (found_behind (bytes_eq c.args.text.now) 0 p.known c.in-Some.number p.names (sym c.in-Some.ensures) (omega arith))
    ∙ ap (λ (p : Pieces). number_of_name (plain_pieces p) c.args.text.now) c.self.view_is
