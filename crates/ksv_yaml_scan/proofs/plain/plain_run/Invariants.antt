use Rattle.ksv_yaml_scan.proofs.Common.{◌≡◌, ◌≤◌, [], take, drop, run}
use Rattle.ksv_yaml_scan.proofs.Runs.{after, joined}
use Rattle.ksv_yaml_scan.proofs.plain.plain_run.Given as goal

abbrev pub invariant-loop-i : goal.invariant-loop-i
invariant-loop-i l =
    (after (take l.i l.content) (run l.flow l.blank (drop l.i l.content)) ≡ run l.flow l.white l.content)
    × (joined (take l.i l.content) [] ≡ take l.end l.content)
    × (l.end ≤ l.i)
