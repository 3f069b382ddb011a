-- What forgetting does to the links. Only the private parts' own contracts use it.
use Rattle.std.specs.Prelude.{◌≡◌, ◌≢◌, ℕ, zero, suc, ◌+◌, ◌-◌, ◌*◌, ◌<◌, ◌≤◌, max, Bool, true, false, List, [], ◌++◌, length, take, sum_by, slice_set, slice_index_or, Contains}
use Rattle.std.specs.List.{AllPairs}
use Rattle.ksv_bytes.specs.declared.uses.Use.{Use}
use Rattle.ksv_bytes.specs.declared.uses.Change.{Change}
use Rattle.ksv_memo_links.specs.declared.blocks.Item.{Item}
use Rattle.ksv_memo_links.specs.declared.parts.Parts.{Parts}
use Rattle.ksv_memo_links.specs.Shelved.{row}
use Rattle.ksv_memo_links.specs.Touching.{pages_in, AreWithin}
use Rattle.ksv_memo_links.specs.Placed.{end_lists, page_lists}
use Rattle.ksv_memo_links.specs.Linked.{item_at, at}
use Rattle.ksv_memo_links.specs.Marking.{is_kept, IsCounted, IsMarking}
use Rattle.ksv_memo_links.specs.Links.{Linked, is_hit, IsHit, GoesItself, Reaches, IsOverwrite, IsMove, first_page, pages_met, met_by, pages_behind, behind_by, ended_by, asks_of}

-- each slot has a row everywhere, and no row after them asked or uses something
pub record IsShaped (p : Parts) : Type 0 where
  pub asks : length p.marks.kept ≤ length p.asks.named
  pub lists : length p.marks.kept ≤ length p.asks.lists
  pub uses : length p.marks.kept ≤ length p.uses.rows
  pub asked_in : (s : ℕ) → 0 < length (row p.asks.named s) → s < length p.marks.kept
  pub used_in : (s : ℕ) → 0 < length (row p.uses.rows s) → s < length p.marks.kept

-- only marks and looks differ
pub record SameLinks (p q : Parts) : Type 0 where
  pub asks : q.asks.named ≡ p.asks.named
  pub ask_lists : q.asks.lists ≡ p.asks.lists
  pub uses : q.uses.rows ≡ p.uses.rows
  pub use_lists : q.uses.lists ≡ p.uses.lists

abbrev pub looks : Parts → ℕ
looks p = p.asks.looks + p.uses.looks + p.marks.looks

-- what slots go for: a change, and slots that go whatever it touches
pub record Cause : Type 0 where
  pub change : Change
  pub also : List ℕ

-- why a slot goes
abbrev pub Why : Parts → List Bool → Cause → ℕ → Type 0
Why p first cause = Reaches p.asks.named (GoesItself cause.change cause.also first p.uses.rows)

-- slots were marked for a reason that P gives, and nothing else was done
pub record MarksMore (p q : Parts) (P : List Bool → Cause → Type 0) : Type 0 where
  pub same : SameLinks p q
  pub same_length : length q.marks.kept ≡ length p.marks.kept
  pub fewer : (s : ℕ) → is_kept q.marks.kept s ≡ true → is_kept p.marks.kept s ≡ true
  pub marking : (first : List Bool) (x : Cause) → P first x → IsMarking first (Why p first x) p.marks.kept p.marks.work → IsMarking first (Why p first x) q.marks.kept q.marks.work
  pub grows : (more : List ℕ) × (q.marks.work ≡ p.marks.work ++ more)
  pub least : (from : ℕ) → IsCounted from p.marks → IsCounted from q.marks
  pub rises : looks p ≤ looks q

-- slots go for this change, or for being among these
abbrev pub IsEdit : Change → List Bool → Cause → Type 0
IsEdit change first x = x.change ≡ change

abbrev pub AreAlso : List ℕ → List Bool → Cause → Type 0
AreAlso slots first x = x.also ≡ slots

-- the first n of these slots, which were kept, were marked, and the others are kept still
pub record MarksFirst (p q : Parts) (slots : List ℕ) (n : ℕ) : Type 0 where
  pub more : MarksMore p q (AreAlso slots)
  pub out : (i : ℕ) → i < n → is_kept q.marks.kept (slice_index_or slots i 0) ≡ false
  pub left : (i : ℕ) → n ≤ i → i < length slots → is_kept q.marks.kept (slice_index_or slots i 0) ≡ true
  pub looks : looks q + 2 * length p.marks.work ≤ looks p + 2 * length q.marks.work

-- a slot has been looked at
pub record HitsSlot (p q : Parts) (change : Change) (slot : ℕ) : Type 0 where
  pub more : MarksMore p q (IsEdit change)
  pub out : is_hit change p.uses.rows slot ≡ true → is_kept q.marks.kept slot ≡ false
  pub looks : looks q + 2 * length p.marks.work ≤ looks p + 2 + 2 * length q.marks.work

-- the owners of the first n of these items have been looked at
pub record HitsRow (p q : Parts) (change : Change) (items : List Item) (n last : ℕ) : Type 0 where
  pub more : MarksMore p q (IsEdit change)
  pub out : (i : ℕ) → i < n → is_hit change p.uses.rows (slice_index_or items i (at 0 0)).owner ≡ true → is_kept q.marks.kept (slice_index_or items i (at 0 0)).owner ≡ false
  pub within : n ≤ length items
  pub looks : looks q + 2 * length p.marks.work ≤ looks p + last + 3 * n + 2 * length q.marks.work

-- the first n users of a slot have been marked
pub record HitsUsers (p q : Parts) (slot n last : ℕ) : Type 0 where
  pub more : MarksMore p q (λ first x. Why p first x slot)
  pub out : (i : ℕ) → i < n → is_kept q.marks.kept (item_at p.asks.lists slot i).owner ≡ false
  pub within : n ≤ length (row p.asks.lists slot)
  pub looks : looks q + 2 * length p.marks.work ≤ looks p + last + 2 * n + 2 * length q.marks.work

-- the items of the first n rows
abbrev pub sizes : {X : Type 0} → List (List X) → ℕ → ℕ
sizes rows zero = 0
sizes rows (suc n) = sizes rows n + length (row rows n)

-- the lists from first up to last have been looked at
pub record HitsRows (p q : Parts) (change : Change) (lists : List (List Item)) (first last : ℕ) : Type 0 where
  pub more : MarksMore p q (IsEdit change)
  pub out : (g i : ℕ) → first ≤ g → g < last → i < length (row lists g) → is_hit change p.uses.rows (item_at lists g i).owner ≡ true → is_kept q.marks.kept (item_at lists g i).owner ≡ false
  pub looks : looks q + first + 3 * sizes lists first + 2 * length p.marks.work ≤ looks p + max first last + 3 * sizes lists (max first last) + 2 * length q.marks.work

-- the lists of ends of the size and after a place, and the pages there, have been looked at
pub record HitsBehind (p q : Parts) (change : Change) (place pages : ℕ) : Type 0 where
  pub more : MarksMore p q (IsEdit change)
  pub sized : (i : ℕ) → i < length (row (end_lists p.uses.lists) 0) → is_hit change p.uses.rows (item_at (end_lists p.uses.lists) 0 i).owner ≡ true → is_kept q.marks.kept (item_at (end_lists p.uses.lists) 0 i).owner ≡ false
  pub ended : (l i : ℕ) → first_page place < l → l ≤ pages → i < length (row (end_lists p.uses.lists) l) → is_hit change p.uses.rows (item_at (end_lists p.uses.lists) l i).owner ≡ true → is_kept q.marks.kept (item_at (end_lists p.uses.lists) l i).owner ≡ false
  pub met : (g i : ℕ) → first_page place ≤ g → g < pages → i < length (row (page_lists p.uses.lists) g) → is_hit change p.uses.rows (item_at (page_lists p.uses.lists) g i).owner ≡ true → is_kept q.marks.kept (item_at (page_lists p.uses.lists) g i).owner ≡ false
  pub looks : looks q + 3 * sizes (end_lists p.uses.lists) (first_page place + 1) + 3 * sizes (page_lists p.uses.lists) (first_page place) + 2 * length p.marks.work ≤ looks p + 1 + 2 * (pages - first_page place) + 3 * sizes (end_lists p.uses.lists) 1 + 3 * sizes (end_lists p.uses.lists) (max (first_page place + 1) (pages + 1)) + 3 * sizes (page_lists p.uses.lists) (max (first_page place) pages) + 2 * length q.marks.work

-- the lengths of these rows in all
abbrev pub lengths : {X : Type 0} → List (List X) → List ℕ → ℕ
lengths rows ss = sum_by (λ s. length (row rows s)) ss

-- the users of the first n slots of the worklist have been marked
pub record Spreads (p q : Parts) (n last : ℕ) : Type 0 where
  pub more : MarksMore p q (λ first x. Unit {0})
  pub within : n ≤ length q.marks.work
  pub out : (j i : ℕ) → j < n → i < length (row p.asks.lists (slice_index_or q.marks.work j 0)) → is_kept q.marks.kept (item_at p.asks.lists (slice_index_or q.marks.work j 0) i).owner ≡ false
  pub looks : looks q + 2 * length p.marks.work ≤ looks p + last + 2 * n + 2 * lengths p.asks.lists (take n q.marks.work) + 2 * length q.marks.work

-- what a kept slot asked is kept; a slot that isn't kept, and isn't to be taken, has nothing; a slot that is to be taken isn't
-- kept, and is to be taken once
pub record IsWhole (p : Parts) : Type 0 where
  pub shaped : IsShaped p
  pub asked_kept : (s k : ℕ) → is_kept p.marks.kept s ≡ true → k < length (row p.asks.named s) → is_kept p.marks.kept (slice_index_or (row p.asks.named s) k 0) ≡ true
  pub vacant : (s : ℕ) → is_kept p.marks.kept s ≡ false → (Contains p.marks.work s → ⊥) → (row p.asks.named s ≡ []) × (row p.uses.rows s ≡ [])
  pub waits : (s : ℕ) → Contains p.marks.work s → is_kept p.marks.kept s ≡ false
  pub apart : AllPairs (λ (a b : ℕ). a ≢ b) p.marks.work

-- the slots that the change touches were marked, by a look at no more than this many pages
pub record HitsTouched (p q : Parts) (change : Change) (pages : ℕ) : Type 0 where
  pub more : MarksMore p q (IsEdit change)
  pub hits : (s : ℕ) → IsHit change p.marks.kept p.uses.rows s → is_kept q.marks.kept s ≡ false
  pub near : IsOverwrite change → looks q + 2 * length p.marks.work ≤ looks p + pages_met change + 3 * sum_by (met_by change) p.uses.rows + 2 * length q.marks.work
  pub behind : IsMove change → looks q + 2 * length p.marks.work ≤ looks p + 1 + 2 * pages_behind change pages + 3 * sum_by (behind_by change) p.uses.rows + 3 * sum_by (ended_by change) p.uses.rows + 2 * length q.marks.work

-- the links, as the engine sees them
abbrev pub linked_of : Parts → Linked
linked_of p = record { kept = p.marks.kept; asked = p.asks.named; uses = p.uses.rows; waits = p.marks.work; looks = looks p; marked = p.marks.looks }

-- an overwrite took this many looks at most
abbrev pub IsNear : Change → Parts → Parts → Type 0
IsNear change p q = IsOverwrite change → looks q ≤ looks p + pages_met change + 3 * sum_by (met_by change) p.uses.rows + 1 + 4 * length q.marks.work + 2 * asks_of p.asks.named q.marks.work

-- an insert, a delete or an append did
abbrev pub IsBehind : Change → ℕ → Parts → Parts → Type 0
IsBehind change pages p q = IsMove change → looks q ≤ looks p + 2 * pages_behind change pages + 3 * sum_by (behind_by change) p.uses.rows + 3 * sum_by (ended_by change) p.uses.rows + 2 + 4 * length q.marks.work + 2 * asks_of p.asks.named q.marks.work

-- the uses of the kept slots are within this many pages
abbrev pub AreAllWithin : ℕ → Parts → Type 0
AreAllWithin pages p = (s : ℕ) → is_kept p.marks.kept s ≡ true → AreWithin pages (row p.uses.rows s)

-- the rows of a slot are empty now
pub record Clears (p q : Parts) (slot : ℕ) : Type 0 where
  pub asks : q.asks.named ≡ slice_set p.asks.named slot []
  pub uses : q.uses.rows ≡ slice_set p.uses.rows slot []
  pub ask_lists : length q.asks.lists ≡ length p.asks.lists
  pub marks : q.marks ≡ p.marks
  pub most : looks q ≤ looks p + 3 + 4 * length (row p.asks.named slot) + 4 * length (pages_in (row p.uses.rows slot))
  pub rises : looks p ≤ looks q
  pub least : q.marks.looks ≡ p.marks.looks

-- as before, but for the order of items in lists, the number of lists of uses, and the looks
pub record IsAsBefore (p q : Parts) : Type 0 where
  pub asks : q.asks.named ≡ p.asks.named
  pub uses : q.uses.rows ≡ p.uses.rows
  pub marks : q.marks ≡ p.marks
  pub ask_lists : length q.asks.lists ≡ length p.asks.lists

-- a slot has nothing
pub record IsVacant (p : Parts) (slot : ℕ) : Type 0 where
  pub asks : row p.asks.named slot ≡ []
  pub uses : row p.uses.rows slot ≡ []

-- the slot has these asks and uses now
pub record Fills (p q : Parts) (slot : ℕ) (asked : List ℕ) (us : List Use) : Type 0 where
  pub asks : q.asks.named ≡ slice_set p.asks.named slot asked
  pub uses : q.uses.rows ≡ slice_set p.uses.rows slot us
  pub marks : q.marks ≡ p.marks
  pub ask_lists : length q.asks.lists ≡ length p.asks.lists
