use Rattle.ksv_yaml_scan.proofs.Common.{◌≡◌, drop, plain_text, lines_view}
use Rattle.ksv_yaml_scan.proofs.plain.continue_plain.Given as goal

abbrev pub invariant-loop-i : goal.invariant-loop-i
invariant-loop-i l = plain_text l.text.items l.column l.commented (lines_view (drop l.i l.lines))
    ≡ plain_text l.fn.text.items l.column l.fn.commented (lines_view l.lines)
