-- What an edit takes from the kept nodes: each node that has a touched use anywhere in its tree, on the bytes before
-- the edit. All of it is said of evaluation from nothing, and names nothing that an engine stores.
use Rattle.std.specs.Prelude.{Bool, not, List, [], filter, Any}
use Rattle.std.specs.List.{list_any}
use Rattle.ksv_bytes.specs.declared.uses.Change.{Change}
use Rattle.ksv_bytes.specs.Uses.{Touches, is_use_touched}
use Rattle.ksv_memo_rules.specs.Meaning.{Standing}
use Rattle.ksv_memo_rules.specs.Evaluation.{tells, done}

-- the tree of a node: the node itself, and all that evaluation of it completes
abbrev pub tree : {N A : Type 0} → Standing N A → N → List N
tree w n = done w [] n

-- a change touches some use that evaluation of some node of the tree makes
abbrev pub IsTouched : {N A : Type 0} → Standing N A → Change → N → Type 0
IsTouched w change n = Any (λ m. Any (Touches change) (tells w [] m).uses) (tree w n)

-- whether evaluation of a node itself makes a touched use
abbrev pub is_hit : {N A : Type 0} → Standing N A → Change → N → Bool
is_hit w change n = list_any (is_use_touched change) (tells w [] n).uses

-- whether a node has a touched use anywhere in its tree: `IsTouched`, as a test
abbrev pub is_touched : {N A : Type 0} → Standing N A → Change → N → Bool
is_touched w change n = list_any (is_hit w change) (tree w n)

-- the nodes of a list that an edit on these bytes leaves
abbrev pub left_after : {N A : Type 0} → Standing N A → Change → List N → List N
left_after w change ns = filter (λ n. not (is_touched w change n)) ns
