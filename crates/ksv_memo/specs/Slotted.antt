-- What contracts see of the slots: the nodes with what is in their slots, the looks so far, and what the numbers of nodes are
-- found by. Only the table's own contracts use it.
use Rattle.std.specs.Prelude.{ℕ, List}
use Rattle.ksv_memo_rules.specs.declared.replies.Slot.{Slot}

pub record Slotted (N P V F : Type 0) : Type 0 where
  pub entries : List (N × Slot V F)
  pub looks : ℕ
  pub places : P
