use Rattle.ksv_yaml_scan.proofs.Common.{◌≡◌, ◌+◌, ◌<◌, ◌≤◌, ◌++◌, length, cut_lines, lines_view}
use Rattle.std.specs.Option.{option_or}
use Rattle.ksv_yaml_scan.specs.Text.{number_from, stray_from}
use Rattle.ksv_yaml_scan.proofs.cut.lines.Given as goal

abbrev pub invariant-loop-first : goal.invariant-loop-first
invariant-loop-first l =
    (lines_view l.lines.items ++ number_from l.number (cut_lines l.rest) ≡ number_from 1 (cut_lines l.text))
    × (option_or l.stray (stray_from l.number (cut_lines l.rest)) ≡ stray_from 1 (cut_lines l.text))
    × (0 < l.number)
    × (l.number + length l.rest ≤ length l.text + 1)

abbrev pub decreases-loop-first : goal.decreases-loop-first
decreases-loop-first l = length l.rest
