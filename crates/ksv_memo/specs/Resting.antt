-- An engine between two calls: no node is open, and what is kept ends by its reach. Only the engine's own contracts use
-- it.
use Rattle.std.specs.Prelude.{◌≡◌, ℕ, min, []}
use Rattle.ksv_bytes.specs.declared.uses.Change.{Change}
use Rattle.ksv_bytes.specs.declared.uses.Change.TheVariants.{Overwrite, Insert, Delete, Append}
use Rattle.ksv_memo.specs.Nodes.{Nodes}
use Rattle.ksv_memo.specs.Behind.{AllEndBy}

pub record IsResting {N A : Type 0} (nodes : Nodes N A) (reach : ℕ) : Type 0 where
  pub opened : nodes.opened ≡ []
  pub ends : AllEndBy reach nodes.kept

-- what a change leaves ends by its place, unless it is an overwrite or an append
abbrev pub left_reach : Change → ℕ → ℕ
left_reach (Overwrite at n) reach = reach
left_reach (Insert at n) reach = min reach at
left_reach (Delete at n) reach = min reach at
left_reach Append reach = reach
