-- What is left to read: the bytes of the lines and one for each line, and less for the functions that call one another on the same lines.
use Rattle.ksv_yaml.proofs.Common.{◌≡◌, ◌+◌, ◌*◌, ◌≤◌, length, map, view, pair, weight, keys_of, HoldsKeys, line_view, lines_view}
use Rattle.ksv_yaml.proofs.BlockLoops.{EntriesNow, ItemsNow}
use Rattle.ksv_yaml.proofs.reader.+reader.Given as goal

abbrev pub decreases-node : goal.decreases-node
decreases-node l = 8 * (length l.first.content.now + 1 + weight (lines_view l.rest.now)) + 3

abbrev pub decreases-mapping : goal.decreases-mapping
decreases-mapping l = 8 * (length l.first.content.now + 1 + weight (lines_view l.rest.now)) + 2

abbrev pub decreases-sequence : goal.decreases-sequence
decreases-sequence l = 8 * (length l.first.content.now + 1 + weight (lines_view l.rest.now)) + 2

abbrev pub decreases-value : goal.decreases-value
decreases-value l = 8 * weight (lines_view l.rest.now) + 4

abbrev pub decreases-item : goal.decreases-item
decreases-item l = 8 * (length l.behind.now + 1 + weight (lines_view l.rest.now)) + 4

abbrev pub invariant-mapping-entries : goal.invariant-mapping-entries
invariant-mapping-entries l = record {
  is : EntriesNow l.depth l.first.indent (line_view l.first) (lines_view l.fn.rest) (map pair l.entries.items) (line_view l.at.line) (lines_view l.at.rest.now);
  keys : HoldsKeys l.keys (keys_of (map pair l.entries.items));
  level : l.at.line.indent ≡ l.first.indent;
  shorter : weight (lines_view l.at.rest.now) + length l.at.line.content.now ≤ weight (lines_view l.fn.rest) + length l.first.content.now;
  within : weight (lines_view l.at.rest.now) ≤ weight (lines_view l.fn.rest);
}

abbrev pub decreases-mapping-entries : goal.decreases-mapping-entries
decreases-mapping-entries l = weight (lines_view l.at.rest.now) + length l.at.line.content.now

abbrev pub invariant-sequence-items : goal.invariant-sequence-items
invariant-sequence-items l = record {
  is : ItemsNow l.depth l.first.indent (line_view l.first) (lines_view l.fn.rest) (map view l.items.items) (line_view l.at.line) (lines_view l.at.rest.now);
  level : l.at.line.indent ≡ l.first.indent;
  shorter : weight (lines_view l.at.rest.now) + length l.at.line.content.now ≤ weight (lines_view l.fn.rest) + length l.first.content.now;
  within : weight (lines_view l.at.rest.now) ≤ weight (lines_view l.fn.rest);
}

abbrev pub decreases-sequence-items : goal.decreases-sequence-items
decreases-sequence-items l = weight (lines_view l.at.rest.now) + length l.at.line.content.now
