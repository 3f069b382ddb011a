-- What an engine keeps, and which turns it has taken, after a question has asked nodes of it.
use Rattle.std.specs.Prelude.{◌≡◌, ℕ, Bool, true, false, ◌||◌, List, [], ◌∷◌, ◌++◌, Option, None, Result, if◌then◌else◌}
use Rattle.std.specs.List.{flat_map}
use Rattle.ksv_desc.specs.Description.{Description}
use Rattle.ksv_memo_rules.specs.Entry.{Memo}
use Rattle.ksv_memo_rules.specs.Evaluation.{done, tells}
use Rattle.ksv_memo_rules.specs.Meaning.{Standing, on}
use Rattle.ksv_memo_rules.specs.Right.{AreBetween, AreExactly, IsRight, costs, counted, fresh, nodes_of}
use Rattle.ksv_memo_rules.specs.declared.rules.Outcome.{Outcome}
use Rattle.ksv_memo_rules.specs.declared.rules.Outcome.TheVariants.{Answered, Circle}
use Rattle.ksv_expr_value.specs.declared.fault.Fault.{Fault}
use Rattle.ksv_nodes.specs.declared.given.Given.{Given}
use Rattle.ksv_nodes.specs.declared.node.Node.{Node}
use Rattle.ksv_rule_meaning.specs.Described.{described}

-- what an engine keeps of a node: what its rule ended in
abbrev pub Ruled : Type 0
Ruled = Result Given Fault

-- a description on some bytes, as an engine sees it
abbrev pub world : Description → List ℕ → Standing Node Ruled
world d b = on (described d) b

-- the nodes that evaluating these nodes completes, with repeats
abbrev pub completed_by : {N A : Type 0} → Standing N A → List N → List N
completed_by w ns = flat_map (done w []) ns

abbrev pub is_circle : {N A : Type 0} → Outcome N A → Bool
is_circle (Answered a) = false
is_circle (Circle n) = true

-- whether evaluating one of these nodes meets a circle
unfoldable pub meets_circle : {N A : Type 0} → Standing N A → List N → Bool
meets_circle w [] = false
meets_circle w (n ∷ ns) = is_circle (tells w [] n).outcome || meets_circle w ns

-- The turns after these nodes are asked: each node that was not kept and is completed takes one, and one more after each node that it
-- asks. After a circle they are not counted.
unfoldable pub turns_with : {N A : Type 0} → Standing N A → List N → List N → Option ℕ → Option ℕ
turns_with w kept ns turns = if meets_circle w ns then None else counted (costs w (fresh w.number kept (completed_by w ns))) turns

-- after a question asked these nodes
pub record HasAsked {N A : Type 0} (w : Standing N A) (ns : List N) (old new : Memo N A) : Type 0 where
  pub right : IsRight w new.kept
  pub kept : AreExactly w (nodes_of new.kept) (nodes_of old.kept ++ completed_by w ns)
  pub turns : new.turns ≡ turns_with w (nodes_of old.kept) ns old.turns

-- after memory was refused while it asked them: some may not have been asked
pub record HasAskedSome {N A : Type 0} (w : Standing N A) (ns : List N) (old new : Memo N A) : Type 0 where
  pub right : IsRight w new.kept
  pub kept : AreBetween w (nodes_of old.kept) (nodes_of new.kept) (nodes_of old.kept ++ completed_by w ns)
