use Rattle.ksv_schema_names.proofs.Common.{◌≡◌, ◌≤◌, drop, map, pair, row_of}
use Rattle.ksv_yaml_tree.specs.View.{view, entries_of}
use Rattle.ksv_schema_names.specs.Rows.{with_types, with_each}
use Rattle.ksv_schema_names.proofs.Weight.{weight, weights}
use Rattle.ksv_schema_names.proofs.rows.+types.Given as goal

abbrev pub decreases-add_types : goal.decreases-add_types
decreases-add_types l = weight (view l.value.now)

abbrev pub invariant-loop-name : goal.invariant-loop-name
invariant-loop-name l = record {
  all : with_each l.n (entries_of (map pair (drop l.name-index l.name-items))) (map row_of l.rows.items)
      ≡ with_types l.n (view l.value) (map row_of l.fn.rows.items);
  smaller : weights (entries_of (map pair (drop l.name-index l.name-items))) ≤ weight (view l.value);
}
