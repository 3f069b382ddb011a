-- Laws of plain lists: what the nodes of their elements answer, ask and use from nothing, and which changes touch them. They are stated over
-- the definitions of ksv_rule_meaning, and of ksv_memo_rules what is right to keep.
use Rattle.std.specs.Prelude.{◌≡◌, ◌+◌, ◌<◌, ◌≤◌, ◌⊎◌, ℕ, Bool, true, false, ◌||◌, List, [], ◌∷◌, ◌++◌, length, Option, Some, None, Result, Ok, Err}
use Rattle.std.specs.List.{AllByRecursion, flat_map, list_any}
use Rattle.ksv_bytes.specs.declared.uses.Use.{Use}
use Rattle.ksv_bytes.specs.declared.uses.Change.{Change}
use Rattle.ksv_bytes.specs.Uses.{Makes, is_use_touched}
use Rattle.ksv_desc.specs.Description.{Description}
use Rattle.ksv_memo_rules.specs.Evaluation.{is_among}
use Rattle.ksv_memo_rules.specs.Meaning.{on}
use Rattle.ksv_memo_rules.specs.Entry.{Entry}
use Rattle.ksv_memo_rules.specs.Right.{IsRight, StandsIn, cost, fresh}
use Rattle.ksv_memo_rules.specs.Right as right
use Rattle.ksv_nodes.specs.declared.node.Node.{Node}
use Rattle.ksv_nodes.specs.declared.given.Given.{Given}
use Rattle.ksv_nodes.specs.declared.given.Given.TheVariants as givens
use Rattle.ksv_nodes.specs.declared.given.Head.TheVariants as heads
use Rattle.ksv_nodes.specs.declared.node_fault.NodeFault.{NodeFault}
use Rattle.ksv_nodes.specs.declared.node_fault.NodeFault.TheVariants as faults
use Rattle.ksv_nodes.specs.Numbers.{node_number}
use Rattle.ksv_nodes.specs.Reading.{end_in}
use Rattle.ksv_nodes.specs.Rule.{head_node}
use Rattle.ksv_rule_meaning.specs.Completed.{completed}
use Rattle.ksv_rule_meaning.specs.Described.{described}
use Rattle.ksv_rule_meaning.specs.FromNothing.{from_nothing, asks, uses}
use Rattle.ksv_rule_meaning.specs.Heads.{is_past}
use Rattle.ksv_rule_meaning.specs.Kept.{is_touched}
use Rattle.ksv_expr_value.specs.Trail.{element_limit}
use Rattle.ksv_expr_value.specs.declared.fault.Fault.{Fault}
use Rattle.ksv_list_laws.specs.Lists.{list_layout, is_named_to}
use Rattle.ksv_list_laws.specs.Nodes.{Listing, start, Which, ElementEnd, FieldHead, SizeValue, element_depends, element_of, is_in_element, node_at}
use Rattle.ksv_list_laws.specs.Nodes.{nodes_of, answer_at, asked_by, uses_at, guard_of, reach_of, SaysSize, IsPlain, IsThere, IsUpTo, IsSizedNext}

-- an answer or a fault, as evaluation gives it, which may also meet a circle
abbrev pub evaluated : Result Given Fault → Result Given NodeFault
evaluated (Ok g) = Ok g
evaluated (Err f) = Err (faults.Raised f)

-- what a node answers, asks and uses from nothing
pub record Tells (d : Description) (bytes : List ℕ) (opened : List Node) (n : Node) (a : Result Given Fault) (ns : List Node) (us : List Use) : Type 0 where
  pub answer : from_nothing d bytes opened n ≡ evaluated a
  pub asked : asks d bytes opened n ≡ ns
  pub used : uses d bytes opened n ≡ us

-- Each node of a plain list has a path, and tells what it is to.
abbrev pub NodesHavePaths : Type 0
NodesHavePaths = (d : Description) (bytes : List ℕ) (x : Listing) → IsPlain d bytes x → (k : Which) → IsThere bytes x k → (n : Node) × (node_at x k ≡ Some n)

abbrev pub NodesTell : Type 0
NodesTell = (d : Description) (bytes : List ℕ) (x : Listing) → IsPlain d bytes x → (k : Which) → IsThere bytes x k → (n : Node) → node_at x k ≡ Some n
    → Tells d bytes [] n (answer_at bytes x k) (nodes_of x (asked_by x k)) (uses_at bytes x k)

-- the list's head, or the node of this number
abbrev pub guard_node : Listing → Option Which → Option Node
guard_node x None = Some (head_node x.path)
guard_node x (Some k) = node_at x k

-- A change touches the tree of a node just where it touches that of its guard, or the farthest place to which it reads.
abbrev pub GuardsTell : Type 0
GuardsTell = (d : Description) (bytes : List ℕ) (x : Listing) → IsPlain d bytes x → (k : Which) → IsThere bytes x k → (n m : Node) → node_at x k ≡ Some n
    → guard_node x (guard_of x k) ≡ Some m
    → (change : Change) → is_touched d bytes change n ≡ (is_touched d bytes change m || list_any (is_use_touched change) (reach_of bytes x k))

-- What evaluating a node completes is what each node that it asks completes, and then it.
abbrev pub TreesAreAsked : Type 0
TreesAreAsked = (d : Description) (bytes : List ℕ) (n : Node) (a : Result Given Fault) (ns : List Node) (us : List Use) → Tells d bytes [] n a ns us
    → completed d bytes [] n ≡ flat_map (completed d bytes []) ns ++ n ∷ []

-- at most one use
abbrev pub IsSingle : List Use → Type 0
IsSingle [] = Unit {0}
IsSingle (u ∷ []) = Unit {0}
IsSingle (u ∷ v ∷ us) = ⊥

-- What a node tells is right for an engine to keep, where all that it asks is kept.
abbrev pub EntriesAreRight : Type 0
EntriesAreRight = (d : Description) (bytes : List ℕ) (kept : List Node) (n : Node) (a : Result Given Fault) (ns : List Node) (us : List Use)
    → Tells d bytes [] n a ns us → IsSingle us
    → AllByRecursion (λ m. is_among node_number kept m ≡ true) ns → StandsIn (on (described d) bytes) kept
    (record { node = n; answer = a; asked = ns; uses = us })

-- all nodes but the values that say sizes, which are some nodes' guards
abbrev pub is_folded : Which → Bool
is_folded (SizeValue i) = false
is_folded _ = true

-- An entry that names a node's guard alone, and has the farthest place as its only use, stands in for the node, where its guard is kept and
-- all that it asks. So an engine needn't hold what such a node asked.
abbrev pub FoldedStandIn : Type 0
FoldedStandIn = (d : Description) (bytes : List ℕ) (x : Listing) → IsPlain d bytes x → (k : Which) → IsThere bytes x k → is_folded k ≡ true → (n m : Node)
    → node_at x k ≡ Some n → guard_node x (guard_of x k) ≡ Some m
    → (kept : List Node) → AllByRecursion (λ o. is_among node_number kept o ≡ true) (nodes_of x (asked_by x k)) → is_among node_number kept m ≡ true
    → StandsIn (on (described d) bytes) kept (record { node = n; answer = answer_at bytes x k; asked = m ∷ []; uses = reach_of bytes x k })

-- A question for a node completes it alone, by one call more than it asks, where an engine keeps all that it asks.
pub record Grows (d : Description) (bytes : List ℕ) (es : List (Entry Node (Result Given Fault))) (n : Node) (ns : List Node) : Type 0 where
  pub alone : fresh node_number (right.nodes_of es) (completed d bytes [] n) ≡ n ∷ []
  pub calls : cost (on (described d) bytes) n ≡ length ns + 1

-- So an engine that is right may keep the nodes of a plain list one after the other, with what they tell.
abbrev pub NodesGrow : Type 0
NodesGrow = (d : Description) (bytes : List ℕ) (x : Listing) → IsPlain d bytes x → (k : Which) → IsThere bytes x k → (n : Node) → node_at x k ≡ Some n
    → (es : List (Entry Node (Result Given Fault))) → IsRight (on (described d) bytes) es
    → AllByRecursion (λ o. is_among node_number (right.nodes_of es) o ≡ true) (nodes_of x (asked_by x k)) → is_among node_number (right.nodes_of es) n ≡ false
    → Grows d bytes es n (nodes_of x (asked_by x k))

-- And it may do so before they are asked: a question for an element's end completes all nodes of that element and of those before it, but rests.
abbrev pub EarlierAreCompleted : Type 0
EarlierAreCompleted = (d : Description) (bytes : List ℕ) (x : Listing) → IsPlain d bytes x → (k : Which) → IsThere bytes x k → is_in_element k ≡ true
    → (m : ℕ) → element_of k ≤ m → m < x.count → (n e : Node) → node_at x k ≡ Some n → node_at x (ElementEnd m) ≡ Some e
    → is_among node_number (completed d bytes [] e) n ≡ true

-- ---- in order

-- A question for a node completes all nodes up to it, but rests, if it is no value, and the field behind the one that says sizes is the first
-- of such a size.
abbrev pub UpToAreCompleted : Type 0
UpToAreCompleted = (d : Description) (bytes : List ℕ) (x : Listing) → IsPlain d bytes x → IsSizedNext x.layout → (k m : Which) → IsThere bytes x k
    → IsThere bytes x m → is_in_element k ≡ true → is_in_element m ≡ true → is_folded m ≡ true → IsUpTo x k m → (n o : Node) → node_at x k ≡ Some n
    → node_at x m ≡ Some o → is_among node_number (completed d bytes [] o) n ≡ true

-- One for a value completes the value, and all nodes up to its field's head. The end of its field is none of these.
abbrev pub ValuesComplete : Type 0
ValuesComplete = (d : Description) (bytes : List ℕ) (x : Listing) → IsPlain d bytes x → (k : Which) (i : ℕ) → IsThere bytes x k → IsThere bytes x (SizeValue i)
    → is_in_element k ≡ true → (k ≡ SizeValue i) ⊎ IsUpTo x k (FieldHead i x.layout.sizer) → (n o : Node) → node_at x k ≡ Some n
    → node_at x (SizeValue i) ≡ Some o → is_among node_number (completed d bytes [] o) n ≡ true

-- ---- by answers

-- What a value that says sizes answers is what its bytes write, if its field's head answers what it is to.
abbrev pub ValuesAreWritten : Type 0
ValuesAreWritten = (d : Description) (bytes : List ℕ) (x : Listing) → list_layout d x.list ≡ Some x.layout → is_named_to x.layout x.layout.last ≡ true
    → (i : ℕ) (h v : Node) → node_at x (FieldHead i x.layout.sizer) ≡ Some h → node_at x (SizeValue i) ≡ Some v
    → from_nothing d bytes [] h ≡ evaluated (answer_at bytes x (FieldHead i x.layout.sizer))
    → from_nothing d bytes [] v ≡ evaluated (answer_at bytes x (SizeValue i))
    → SaysSize bytes x i

-- So a list that is plain with none of its elements is so with the first c, if these end in its stream, its count excludes none of them, and
-- each says its size.
abbrev pub WrittenArePlain : Type 0
WrittenArePlain = (d : Description) (bytes : List ℕ) (x : Listing) (c : ℕ) → IsPlain d bytes (record x { count = 0 }) → c ≤ element_limit
    → start x c ≤ end_in bytes x.list.stream.to → ((i : ℕ) → i < c → is_past x.list.count i ≡ false)
    → ((i : ℕ) → i < c → is_named_to x.layout x.layout.last ≡ true → SaysSize bytes x i) → IsPlain d bytes (record x { count = c })

-- ---- edits

-- After an edit that touches nothing on which the first c elements depend, and not the answer of the list's head, the list of these is plain.
abbrev pub ShorterStaysPlain : Type 0
ShorterStaysPlain = (d : Description) (change : Change) (before after : List ℕ) (x : Listing) (c : ℕ) → IsPlain d before x → Makes change before after
    → c ≤ x.count → ((i : ℕ) → i < c → list_any (is_use_touched change) (element_depends x i) ≡ false)
    → from_nothing d after [] (head_node x.path) ≡ Ok (givens.Head (heads.List x.list)) → IsPlain d after (record x { count = c })
