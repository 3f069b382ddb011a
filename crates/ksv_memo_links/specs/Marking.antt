-- Which slots are kept, and which wait to be taken.
use Rattle.std.specs.Prelude.{◌≡◌, ◌≢◌, ℕ, ◌+◌, ◌-◌, ◌^◌, ◌<◌, ◌≤◌, min, Bool, true, false, List, [], ◌∷◌, ◌++◌, length, slice_index_or, count_by, Contains, if◌then◌else◌}
use Rattle.std.specs.List.{AllPairs}
use Rattle.ksv_memo_links.specs.Shelved.{Celled}

pub record Marked : Type 0 where
  pub kept : List Bool
  pub work : List ℕ
  pub looks : ℕ

-- the worklist has room for all slots; what waits isn't kept; this many are kept
pub record HasRoom (kept : Celled Bool) (work : Celled ℕ) (count : ℕ) : Type 0 where
  pub for_work : length kept.items ≤ work.room
  pub inside : (j : ℕ) → j < length work.items → slice_index_or work.items j 0 < length kept.items
  pub counted : count ≡ count_by (λ b. b) kept.items
  pub few : length work.items + count ≤ length kept.items
  pub fits : length kept.items < 2 ^ 32

-- each slot that waits was looked at since there were this many looks, as far as these are counted
abbrev pub IsCounted : ℕ → Marked → Type 0
IsCounted from marks = min (from + length marks.work) (2 ^ 64 - 1) ≤ marks.looks

abbrev pub is_kept : List Bool → ℕ → Bool
is_kept kept s = slice_index_or kept s false

-- there are as many slots or more, and each is as it was; a new one isn't kept
pub record HasMore (old new : List Bool) : Type 0 where
  pub more : length old ≤ length new
  pub each : (s : ℕ) → is_kept new s ≡ is_kept old s
  pub count : count_by (λ b. b) new ≡ count_by (λ b. b) old

-- after one more mark
abbrev pub marked_work : List Bool → List ℕ → ℕ → List ℕ
marked_work kept work s = if is_kept kept s then work ++ s ∷ [] else work

-- those that were kept at first and aren't any more stand in the worklist, each once and for a reason
pub record IsMarking (first : List Bool) (why : ℕ → Type 0) (kept : List Bool) (work : List ℕ) : Type 0 where
  pub same_length : length kept ≡ length first
  pub less : (s : ℕ) → is_kept kept s ≡ true → is_kept first s ≡ true
  pub gone : (j : ℕ) → j < length work → (is_kept first (slice_index_or work j 0) ≡ true) × (is_kept kept (slice_index_or work j 0) ≡ false) × why (slice_index_or work j 0)
  pub out : (s : ℕ) → is_kept first s ≡ true → is_kept kept s ≡ false → Contains work s
  pub apart : AllPairs (λ a b. a ≢ b) work
