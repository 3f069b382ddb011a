-- What each move of the table does to slots and frames. Only the table's own contracts use it.
use Rattle.std.specs.Prelude.{◌≡◌, ℕ, zero, suc, Some, Bool, false, List, [], ◌∷◌, ◌++◌, length, take, slice_get}
use Rattle.std.specs.List.{list_any}
use Rattle.ksv_memo_rules.specs.declared.replies.Slot.{Slot}
use Rattle.ksv_memo_rules.specs.declared.replies.Slot.TheVariants.{Empty as emptied, Open as opened}
use Rattle.ksv_memo.specs.declared.frames.Frame.{Frame}
use Rattle.ksv_memo.specs.declared.frames.Frames.{Frames}
use Rattle.ksv_memo.specs.declared.frames.Part.{Part}
use Rattle.ksv_memo.specs.declared.slots.Known.{Known}
use Rattle.ksv_memo.specs.declared.slots.Known.TheVariants.{New, Empty, Open, Kept}
use Rattle.ksv_memo.specs.Layout.{IsKept}
use Rattle.ksv_bytes.specs.declared.uses.Use.{Use}
use Rattle.ksv_memo_links.specs.Links.{Linked, Keeps}
use Rattle.ksv_memo_rules.specs.Right.{HasEachOnce}

-- a slot is kept, with what it asked and each of these uses once
pub record KeepsOnce (old new : Linked) (slot : ℕ) (asks : List ℕ) (uses : List Use) : Type 0 where
  pub once : List Use
  pub each : HasEachOnce once uses
  pub keeps : Keeps old new slot asks once

-- the nodes and their slots, with this in the slot of a number
abbrev pub with_slot : {N X : Type 0} → List (N × X) → ℕ → X → List (N × X)
with_slot [] i s = []
with_slot (p ∷ ps) zero s = (p.0, s) ∷ ps
with_slot (p ∷ ps) (suc i) s = p ∷ with_slot ps i s

-- the slot of a number is that of a node, and this is in it
abbrev pub IsTheSlot : {N V F : Type 0} → List (N × Slot V F) → N → ℕ → Slot V F → Type 0
IsTheSlot ps n i s = slice_get ps i ≡ Some (n, s)

-- nothing is in the slot of a number
abbrev pub IsVacant : {N V F : Type 0} → List (N × Slot V F) → ℕ → Type 0
IsVacant {N} {V} {F} ps i = (n : N) × IsTheSlot ps n i emptied

-- what the slots have of a node
abbrev pub Knows : {N V F : Type 0} → (N → N → Bool) → List (N × Slot V F) → N → Known → Type 0
Knows {N} {V} {F} eq ps n New = list_any (λ (p : N × Slot V F). eq n p.0) ps ≡ false
Knows {N} {V} {F} eq ps n (Empty i) = IsTheSlot ps n i emptied
Knows {N} {V} {F} eq ps n Open = (i : ℕ) × IsTheSlot ps n i opened
Knows {N} {V} {F} eq ps n (Kept i) = ((s : Slot V F) × IsTheSlot ps n i s) × IsKept ps i

-- the frames, what open nodes asked, and their uses are the same
pub record SameFrames {N : Type 0} (old new : Frames N) : Type 0 where
  pub frames : new.frames.items ≡ old.frames.items
  pub asked : new.asked.items ≡ old.asked.items
  pub uses : new.uses.items ≡ old.uses.items

-- the last open node got a reply more
pub record Heard {N : Type 0} (i : ℕ) (old new : Frames N) : Type 0 where
  pub frames : new.frames.items ≡ old.frames.items
  pub asked : new.asked.items ≡ old.asked.items ++ i ∷ []
  pub uses : new.uses.items ≡ old.uses.items

-- the part of a node that is opened now, in the slot of this number
pub record IsPart {N : Type 0} (i : ℕ) (frames : Frames N) (p : Part) : Type 0 where
  pub slot : p.slot ≡ i
  pub asked : p.asked ≡ length frames.asked.items
  pub uses : p.uses ≡ length frames.uses.items

-- the frame of a node that is opened now, in the slot of this number
pub record IsNewFrame {N : Type 0} (i : ℕ) (n : N) (frames : Frames N) (f : Frame N) : Type 0 where
  pub node : f.node ≡ n
  pub slot : f.slot ≡ i
  pub asked : f.asked ≡ length frames.asked.items
  pub uses : f.uses ≡ length frames.uses.items

-- a list's last element
abbrev pub EndsWith : {X : Type 0} → X → List X → Type 0
EndsWith {X} x xs = (front : List X) × (xs ≡ front ++ x ∷ [])

-- a node was opened, in the slot of this number
pub record Framed {N : Type 0} (i : ℕ) (n : N) (old new : Frames N) : Type 0 where
  pub frame : Frame N
  pub is_new : IsNewFrame i n old frame
  pub frames : new.frames.items ≡ old.frames.items ++ frame ∷ []
  pub asked : new.asked.items ≡ old.asked.items
  pub uses : new.uses.items ≡ old.uses.items

-- the last open node was taken out
pub record Popped {N : Type 0} (f : Frame N) (old new : Frames N) : Type 0 where
  pub frames : old.frames.items ≡ new.frames.items ++ f ∷ []
  pub asked : new.asked.items ≡ take f.asked old.asked.items
  pub uses : new.uses.items ≡ take f.uses old.uses.items
