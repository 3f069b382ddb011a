use Rattle.std.proofs.Common.{◌∙◌, sym}
use Rattle.std.proofs.lemmas.List.{take_rest}
use Rattle.ksv_paths.specs.PathTexts.{is_slash}
use Rattle.ksv_paths.proofs.Cuts.{split_found, split_none}
use Rattle.ksv_paths.proofs.path_text.first_piece.Goals as goal

pub returns-in-Some-clause-pieces : goal.returns-in-Some-clause-pieces
returns-in-Some-clause-pieces c = rw (take_rest c.args.text.now)
    (split_found is_slash c.args.text.now c.in-Some.place 0 (sym c.slash_place.ensures ∙ c.in-Some.is))

pub returns-in-None-clause-pieces : goal.returns-in-None-clause-pieces
returns-in-None-clause-pieces c = split_none is_slash c.args.text.now (sym c.slash_place.ensures ∙ c.in-None.is)
