use Rattle.std.proofs.Common.{◌≡◌, ◌≤◌, true, length, reverse}
use Rattle.std.specs.Prelude.{option_copied}
use Rattle.std.specs.List.{slice_split}
use Rattle.ksv_expr_value.specs.Trail.{fits}
use Rattle.ksv_desc.specs.Whole.{plain_pieces}
use Rattle.ksv_paths.specs.PathTexts.{is_slash, steps_of}
use Rattle.ksv_paths.proofs.PathTexts.{behind_steps, pieces_left, size_left}
use Rattle.ksv_paths.proofs.path_text.read_steps.Given as goal

abbrev pub invariant-loop-rest : goal.invariant-loop-rest
invariant-loop-rest l =
    (steps_of (plain_pieces l.desc) (slice_split is_slash l.text) ≡ behind_steps l.steps (steps_of (plain_pieces l.desc) (pieces_left (option_copied l.rest))))
    × (length l.steps ≤ 64)
    × (fits (reverse l.steps) ≡ true)

abbrev pub decreases-loop-rest : goal.decreases-loop-rest
decreases-loop-rest l = size_left (option_copied l.rest)
