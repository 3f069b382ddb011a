-- How the slots that are to be taken are emptied. Only the table's own contracts use it.
use Rattle.std.specs.Prelude.{◌≡◌, ℕ, ◌+◌, ◌*◌, ◌≤◌, List, [], ◌++◌, length, sum_by, None, Contains}
use Rattle.ksv_memo_links.specs.Shelved.{row}
use Rattle.ksv_memo_links.specs.Touching.{pages_in}
use Rattle.ksv_memo_links.specs.Links.{Linked}
use Rattle.ksv_memo_rules.specs.declared.replies.Slot.{Slot}
use Rattle.ksv_memo_rules.specs.Slots.{answer_at}
use Rattle.ksv_memo.specs.Layout.{slots_of, node_at, IsOpen}

-- the asks and the pages of these slots in all
abbrev pub parts_of : Linked → List ℕ → ℕ
parts_of l ss = sum_by (λ s. 4 * length (row l.asked s) + 4 * length (pages_in (row l.uses s))) ss

-- these slots were taken and emptied, and no others changed
pub record IsTaken {N V F : Type 0} (ps qs : List (N × Slot V F)) (l m : Linked) (taken : List ℕ) (count last : ℕ) : Type 0 where
  pub split : l.waits ≡ m.waits ++ taken
  pub nodes : (i : ℕ) → node_at qs i ≡ node_at ps i
  pub out : (i : ℕ) → Contains taken i → answer_at (slots_of qs) i ≡ None
  pub same : (i : ℕ) → (Contains taken i → ⊥) → answer_at (slots_of qs) i ≡ answer_at (slots_of ps) i
  pub asked : (i : ℕ) → (Contains taken i → ⊥) → row m.asked i ≡ row l.asked i
  pub uses : (i : ℕ) → (Contains taken i → ⊥) → row m.uses i ≡ row l.uses i
  pub kept : m.kept ≡ l.kept
  pub slots : length qs ≡ length ps
  pub opens : (i : ℕ) → IsOpen qs i → IsOpen ps i
  pub most : m.looks + count ≤ l.looks + last + 5 * length taken + parts_of l taken
  pub least : l.marked ≤ m.marked

-- all were; the looks at slots went from one count to another
pub record IsEmptied {N V F : Type 0} (ps qs : List (N × Slot V F)) (l m : Linked) (from count : ℕ) : Type 0 where
  pub taken : IsTaken ps qs l m l.waits count (from + 1)
  pub done : m.waits ≡ []
