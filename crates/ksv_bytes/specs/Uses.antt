-- Uses of bytes and changes of them: what an answer depends on, and what an edit may have changed of it. The rule
-- of what an edit touches is this project's own.
use Rattle.std.specs.Prelude.{◌≡◌, ℕ, ◌+◌, ◌<◌, ◌≤◌, Bool, true, false, ◌&&◌, nat_lt, List, ◌++◌, length, take, drop, slice_range}
use Rattle.ksv_bytes.specs.declared.uses.Use.{Use}
use Rattle.ksv_bytes.specs.declared.uses.Use.TheVariants.{Bytes, Reach, Size}
use Rattle.ksv_bytes.specs.declared.uses.Change.{Change}
use Rattle.ksv_bytes.specs.declared.uses.Change.TheVariants.{Overwrite, Insert, Delete, Append}

-- a reading of the bytes can have this use: a range isn't empty, and the places are within the bytes
abbrev pub CanUse : List ℕ → Use → Type 0
CanUse bytes (Bytes from to) = (from < to) × (to ≤ length bytes)
CanUse bytes (Reach to) = to ≤ length bytes
CanUse bytes Size = Unit {0}

-- two lists of bytes are the same for a use
abbrev pub AgreeOn : List ℕ → List ℕ → Use → Type 0
AgreeOn bytes others (Bytes from to) = (to ≤ length bytes) × (to ≤ length others) × (slice_range others from to ≡ slice_range bytes from to)
AgreeOn bytes others (Reach to) = (to ≤ length bytes) × (to ≤ length others)
AgreeOn bytes others Size = length others ≡ length bytes

-- an edit of this change makes the second list of the first
abbrev pub Makes : Change → List ℕ → List ℕ → Type 0
Makes (Overwrite at n) before after = (new : List ℕ) × (length new ≡ n) × (at + n ≤ length before) × (after ≡ take at before ++ new ++ drop (at + n) before)
Makes (Insert at n) before after = (new : List ℕ) × (length new ≡ n) × (at ≤ length before) × (after ≡ take at before ++ new ++ drop at before)
Makes (Delete at n) before after = (at + n ≤ length before) × (after ≡ take at before ++ drop (at + n) before)
Makes Append before after = (new : List ℕ) × (after ≡ before ++ new)

-- the change touches the use: an overwrite the ranges that it meets, an insert or a delete what ends after its
-- place and the size, an append the size alone
abbrev pub Touches : Change → Use → Type 0
Touches (Overwrite at n) (Bytes from to) = (from < at + n) × (at < to)
Touches (Overwrite at n) (Reach to) = ⊥
Touches (Overwrite at n) Size = ⊥
Touches (Insert at n) (Bytes from to) = at < to
Touches (Insert at n) (Reach to) = at < to
Touches (Insert at n) Size = Unit {0}
Touches (Delete at n) (Bytes from to) = at < to
Touches (Delete at n) (Reach to) = at < to
Touches (Delete at n) Size = Unit {0}
Touches Append (Bytes from to) = ⊥
Touches Append (Reach to) = ⊥
Touches Append Size = Unit {0}

-- whether a change touches a use: `Touches`, as a test
abbrev pub is_use_touched : Change → Use → Bool
is_use_touched (Overwrite at n) (Bytes from to) = nat_lt from (at + n) && nat_lt at to
is_use_touched (Overwrite at n) (Reach to) = false
is_use_touched (Overwrite at n) Size = false
is_use_touched (Insert at n) (Bytes from to) = nat_lt at to
is_use_touched (Insert at n) (Reach to) = nat_lt at to
is_use_touched (Insert at n) Size = true
is_use_touched (Delete at n) (Bytes from to) = nat_lt at to
is_use_touched (Delete at n) (Reach to) = nat_lt at to
is_use_touched (Delete at n) Size = true
is_use_touched Append (Bytes from to) = false
is_use_touched Append (Reach to) = false
is_use_touched Append Size = true

-- for each edit with this change, the bytes before and after it agree on the use
abbrev pub Keeps : Change → Use → Type 0
Keeps change used = (before after : List ℕ) → Makes change before after → CanUse before used → AgreeOn before after used
