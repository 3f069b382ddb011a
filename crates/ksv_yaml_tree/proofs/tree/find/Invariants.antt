use Rattle.std.proofs.Common.{◌≡◌, drop, map}
use Rattle.ksv_yaml_tree.specs.Tree.{entry_at}
use Rattle.ksv_yaml_tree.specs.View.{pair}
use Rattle.ksv_yaml_tree.proofs.tree.find.Given as goal

abbrev pub invariant-loop-entry : goal.invariant-loop-entry
invariant-loop-entry l = entry_at l.key (map pair (drop l.entry-index l.entries)) ≡ entry_at l.key (map pair l.entries)
