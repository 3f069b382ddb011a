-- Each call is made on fewer parts, or on as many by a lower function.
use Rattle.ksv_yaml.proofs.Common.{◌+◌, ◌*◌, ◌≤◌, length, map, view, pair, keys_of, HoldsKeys, tokens_view}
use Rattle.ksv_yaml.proofs.FlowLoops.{ItemsNow, EntriesNow}
use Rattle.ksv_yaml.proofs.flow.+flow.Given as goal

abbrev pub decreases-flow_entries : goal.decreases-flow_entries
decreases-flow_entries l = 2 * length (tokens_view l.tokens.now) + 1

abbrev pub decreases-flow_items : goal.decreases-flow_items
decreases-flow_items l = 2 * length (tokens_view l.tokens.now) + 1

abbrev pub decreases-flow_node : goal.decreases-flow_node
decreases-flow_node l = 2 * length (tokens_view l.tokens.now)

abbrev pub invariant-flow_entries-entries : goal.invariant-flow_entries-entries
invariant-flow_entries-entries l = record {
  is : EntriesNow l.depth (tokens_view l.tokens) (map pair l.entries.items) (tokens_view l.at);
  keys : HoldsKeys l.keys (keys_of (map pair l.entries.items));
  within : length (tokens_view l.at) ≤ length (tokens_view l.tokens);
}

abbrev pub decreases-flow_entries-entries : goal.decreases-flow_entries-entries
decreases-flow_entries-entries l = length (tokens_view l.at)

abbrev pub invariant-flow_items-items : goal.invariant-flow_items-items
invariant-flow_items-items l = record {
  is : ItemsNow l.depth (tokens_view l.tokens) (map view l.items.items) (tokens_view l.at);
  within : length (tokens_view l.at) ≤ length (tokens_view l.tokens);
}

abbrev pub decreases-flow_items-items : goal.decreases-flow_items-items
decreases-flow_items-items l = length (tokens_view l.at)
