-- The links between slots, as the engine sees them, and what a change reaches along them.
use Rattle.std.specs.Prelude.{◌≡◌, ◌≢◌, ◌↔◌, ◌/◌, ◌-◌, ℕ, ◌+◌, ◌*◌, ◌<◌, ◌≤◌, max, ◌⊎◌, Bool, true, false, ◌&&◌, ◌||◌, nat_eq, nat_lt, nat_le, List, [], ◌∷◌, ◌++◌, length, sum_by, count_by, slice_set, slice_index_or, Contains}
use Rattle.std.specs.List.{AllPairs, list_any}
use Rattle.ksv_bytes.specs.declared.uses.Use.{Use}
use Rattle.ksv_bytes.specs.declared.uses.Change.{Change}
use Rattle.ksv_bytes.specs.declared.uses.Change.TheVariants.{Overwrite, Insert, Delete, Append}
use Rattle.ksv_memo_links.specs.Shelved.{row, HasSameRows}
use Rattle.ksv_bytes.specs.Uses.{is_use_touched}
use Rattle.ksv_memo_links.specs.Touching.{pages_in, ends_in}
use Rattle.ksv_memo_links.specs.Marking.{is_kept, HasMore}

-- which slots are kept, what each asked and uses, the slots that are to be taken, the looks, and those of them that went
-- to which slots are kept and to be taken
pub record Linked : Type 0 where
  pub kept : List Bool
  pub asked : List (List ℕ)
  pub uses : List (List Use)
  pub waits : List ℕ
  pub looks : ℕ
  pub marked : ℕ

-- whether a change touches one of a slot's uses
abbrev pub is_hit : Change → List (List Use) → ℕ → Bool
is_hit change uses s = list_any (is_use_touched change) (row uses s)

-- a kept slot has a touched use
pub record IsHit (change : Change) (kept : List Bool) (uses : List (List Use)) (s : ℕ) : Type 0 where
  pub was_kept : is_kept kept s ≡ true
  pub touched : is_hit change uses s ≡ true

-- a slot from which one that goes by itself is reached along what was asked
pub data Reaches (asked : List (List ℕ)) (goes : ℕ → Type 0) : ℕ → Type 0 where
  here : (s : ℕ) → goes s → Reaches asked goes s
  through : (s k : ℕ) → k < length (row asked s) → Reaches asked goes (slice_index_or (row asked s) k 0) → Reaches asked goes s

-- a slot goes by itself: it is kept and has a touched use, or is one of these
abbrev pub GoesItself : Change → List ℕ → List Bool → List (List Use) → ℕ → Type 0
GoesItself change also kept uses s = IsHit change kept uses s ⊎ Contains also s

-- a kept slot goes if one that goes by itself is reached from it
pub record Goes (old : Linked) (change : Change) (also : List ℕ) (s : ℕ) : Type 0 where
  pub was_kept : is_kept old.kept s ≡ true
  pub reaches : Reaches old.asked (GoesItself change also old.kept old.uses) s

-- exactly the slots that go are to be taken, each once, and are kept no more
pub record Forgets (old new : Linked) (change : Change) (also : List ℕ) : Type 0 where
  pub asked : new.asked ≡ old.asked
  pub uses : new.uses ≡ old.uses
  pub exact : (s : ℕ) → Contains new.waits s ↔ Goes old change also s
  pub apart : AllPairs (λ (a b : ℕ). a ≢ b) new.waits
  pub slots : length new.kept ≡ length old.kept
  pub went : (s : ℕ) → is_kept old.kept s ≡ true → is_kept new.kept s ≡ false → Contains new.waits s
  pub kept : (s : ℕ) → (is_kept new.kept s ≡ true) ↔ ((is_kept old.kept s ≡ true) × (Contains new.waits s → ⊥))

-- nothing that the engine sees has changed, but for the looks
pub record IsUnchanged (old new : Linked) : Type 0 where
  pub kept : new.kept ≡ old.kept
  pub asked : new.asked ≡ old.asked
  pub uses : new.uses ≡ old.uses
  pub waits : new.waits ≡ old.waits

-- a slot is kept, with what it asked and its uses
pub record Keeps (old new : Linked) (slot : ℕ) (asks : List ℕ) (us : List Use) : Type 0 where
  pub kept : new.kept ≡ slice_set old.kept slot true
  pub asked : new.asked ≡ slice_set old.asked slot asks
  pub uses : new.uses ≡ slice_set old.uses slot us
  pub in_asked : slot < length old.asked
  pub in_uses : slot < length old.uses
  pub waits : new.waits ≡ old.waits

-- a slot was taken; it has nothing now
pub record Takes (old new : Linked) (slot : ℕ) : Type 0 where
  pub kept : new.kept ≡ old.kept
  pub asked : new.asked ≡ slice_set old.asked slot []
  pub uses : new.uses ≡ slice_set old.uses slot []
  pub waits : old.waits ≡ new.waits ++ slot ∷ []
  pub inside : slot < length old.kept
  pub most : new.looks ≤ old.looks + 4 + 4 * length (row old.asked slot) + 4 * length (pages_in (row old.uses slot))
  pub grows : old.looks ≤ new.looks
  pub least : old.marked ≤ new.marked

-- nothing was to be taken
pub record IsDone (old new : Linked) : Type 0 where
  pub kept : new.kept ≡ old.kept
  pub asked : new.asked ≡ old.asked
  pub uses : new.uses ≡ old.uses
  pub waits : old.waits ≡ []
  pub done : new.waits ≡ []
  pub most : new.looks ≤ old.looks + 1
  pub grows : old.looks ≤ new.looks
  pub least : old.marked ≤ new.marked

-- there are as many slots or more, and each is as it was; a new one has nothing
pub record Grows (old new : Linked) : Type 0 where
  pub kept : HasMore old.kept new.kept
  pub asked : HasSameRows old.asked new.asked
  pub uses : HasSameRows old.uses new.uses
  pub waits : new.waits ≡ old.waits

-- the first page of a change, and the page after its last one
abbrev pub first_page : ℕ → ℕ
first_page at = at / 64

abbrev pub end_page : ℕ → ℕ → ℕ
end_page at n = (at + max n 1 - 1) / 64 + 1

-- how many pages an overwrite meets
abbrev pub pages_met : Change → ℕ
pages_met (Overwrite at n) = end_page at n - first_page at
pages_met (Insert at n) = 0
pages_met (Delete at n) = 0
pages_met Append = 0

-- how many of these pages an overwrite meets
abbrev pub met_of : Change → List ℕ → ℕ
met_of (Overwrite at n) pages = count_by (λ g. nat_le (first_page at) g && nat_lt g (end_page at n)) pages
met_of (Insert at n) pages = 0
met_of (Delete at n) pages = 0
met_of Append pages = 0

-- the pairs of a use and a page that both it and the overwrite meet
abbrev pub met_by : Change → List Use → ℕ
met_by change us = met_of change (pages_in us)

-- the change is an overwrite
abbrev pub IsOverwrite : Change → Type 0
IsOverwrite (Overwrite at n) = Unit {0}
IsOverwrite (Insert at n) = ⊥
IsOverwrite (Delete at n) = ⊥
IsOverwrite Append = ⊥

-- the change is an insert, a delete or an append
abbrev pub IsMove : Change → Type 0
IsMove (Overwrite at n) = ⊥
IsMove (Insert at n) = Unit {0}
IsMove (Delete at n) = Unit {0}
IsMove Append = Unit {0}

-- how many of this many pages are after an insert or a delete, with the page of its place; an append is after all
abbrev pub pages_behind : Change → ℕ → ℕ
pages_behind (Overwrite at n) pages = 0
pages_behind (Insert at n) pages = pages - first_page at
pages_behind (Delete at n) pages = pages - first_page at
pages_behind Append pages = 0

-- how many of these pages are
abbrev pub behind_of : Change → List ℕ → ℕ
behind_of (Overwrite at n) pages = 0
behind_of (Insert at n) pages = count_by (nat_le (first_page at)) pages
behind_of (Delete at n) pages = count_by (nat_le (first_page at)) pages
behind_of Append pages = 0

-- the pairs of a use of bytes and a page after the change that it meets
abbrev pub behind_by : Change → List Use → ℕ
behind_by change us = behind_of change (pages_in us)

-- how many of these ends are the size, or after an insert or a delete
abbrev pub ended_of : Change → List ℕ → ℕ
ended_of (Overwrite at n) ends = 0
ended_of (Insert at n) ends = count_by (λ l. nat_eq l 0 || nat_lt (first_page at) l) ends
ended_of (Delete at n) ends = count_by (λ l. nat_eq l 0 || nat_lt (first_page at) l) ends
ended_of Append ends = count_by (λ l. nat_eq l 0) ends

-- 1 if one of these uses is of the size, or reaches a page after an insert or a delete; else 0
abbrev pub ended_by : Change → List Use → ℕ
ended_by change us = ended_of change (ends_in us)

-- the asks of these slots in all
abbrev pub asks_of : List (List ℕ) → List ℕ → ℕ
asks_of asked ss = sum_by (λ s. length (row asked s)) ss
