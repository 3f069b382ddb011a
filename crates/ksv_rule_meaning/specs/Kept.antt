-- What is kept of evaluations from nothing, across questions and edits, and the calls of rules that they take. Nodes are kept as a
-- list, each once; its order means nothing.
use Rattle.std.specs.Prelude.{ℕ, ◌+◌, ◌-◌, ◌^◌, min, Bool, not, List, [], ◌++◌, length, filter, Option, Some, None, if◌then◌else◌}
use Rattle.std.specs.List.{flat_map, list_any, sum_by}
use Rattle.ksv_bytes.specs.declared.uses.Change.{Change}
use Rattle.ksv_desc.specs.Description.{Description}
use Rattle.ksv_memo_rules.specs.Right.{fresh}
use Rattle.ksv_bytes.specs.Uses.{is_use_touched}
use Rattle.ksv_nodes.specs.declared.node.Node.{Node}
use Rattle.ksv_nodes.specs.Numbers.{node_number}
use Rattle.ksv_rule_meaning.specs.FromNothing.{asks, uses}
use Rattle.ksv_rule_meaning.specs.Completed.{completed, meets_circle}

-- ---- questions

-- what evaluating these nodes completes, with repeats
abbrev pub all_completed : Description → List ℕ → List Node → List Node
all_completed d bytes ns = flat_map (completed d bytes []) ns

-- the kept nodes after these were asked
unfoldable pub kept_with : Description → List ℕ → List Node → List Node → List Node
kept_with d bytes kept ns = kept ++ fresh node_number kept (all_completed d bytes ns)

-- the calls that evaluating a node takes, without those of the nodes that it asks: one, and one more after each of them
abbrev pub calls : Description → List ℕ → Node → ℕ
calls d bytes n = length (asks d bytes [] n) + 1

-- The turns of a question that asks these nodes: the calls of all nodes that it completes and that weren't kept before, each once, but at
-- most 2^64 - 1. They aren't told where a circle was met.
unfoldable pub turns_of : Description → List ℕ → List Node → List Node → Option ℕ
turns_of d bytes kept ns =
    if list_any (meets_circle d bytes []) ns then None
    else Some (min (sum_by (calls d bytes) (fresh node_number kept (all_completed d bytes ns))) (2 ^ 64 - 1))

-- ---- edits

-- whether a change touches what evaluating a node itself depends on
abbrev pub is_hit : Description → List ℕ → Change → Node → Bool
is_hit d bytes change n = list_any (is_use_touched change) (uses d bytes [] n)

-- whether it touches what evaluating a node, or a node that this completes, depends on
unfoldable pub is_touched : Description → List ℕ → Change → Node → Bool
is_touched d bytes change n = list_any (is_hit d bytes change) (completed d bytes [] n)

-- the kept nodes after an edit of these bytes
unfoldable pub kept_after : Description → List ℕ → Change → List Node → List Node
kept_after d bytes change kept = filter (λ n. not (is_touched d bytes change n)) kept
