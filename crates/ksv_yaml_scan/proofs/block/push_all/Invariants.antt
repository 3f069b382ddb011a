use Rattle.ksv_yaml_scan.proofs.Common.{◌≡◌, ◌++◌}
use Rattle.std.proofs.Common.{replicate}
use Rattle.ksv_yaml_scan.proofs.block.push_all.Given as goal

abbrev pub invariant-loop : goal.invariant-loop
invariant-loop l = l.text.items ≡ l.initial.text.items ++ replicate l.counter l.byte
