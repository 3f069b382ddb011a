-- Edits of a file's bytes, as equations of lists. Refusals are checked in the order in which they are written here;
-- numbers do not wrap.
use Rattle.std.specs.Prelude.{ℕ, ◌≡◌, ◌+◌, ◌==◌, nat_lt, List, ◌++◌, length, take, drop, Result, Ok, Err, IsOk, if◌then◌else◌}
use Rattle.ksv_bytes.specs.declared.edit.EditRefusal.{EditRefusal}
use Rattle.ksv_bytes.specs.declared.edit.EditRefusal.TheVariants.{NoMemory, NothingToDo, Outside, TooLarge}

-- the most bytes that a file may have: 16 MiB
abbrev pub file_limit : ℕ
file_limit = 16777216

-- h written over the bytes from a place on
abbrev pub overwrite : List ℕ → ℕ → List ℕ → Result (List ℕ) EditRefusal
overwrite b at h =
    if nat_lt (length b) (at + length h) then Err Outside
    else if length h == 0 then Err NothingToDo
    else Ok (take at b ++ h ++ drop (at + length h) b)

-- h put before the byte at a place, or after the last one
abbrev pub insert : List ℕ → ℕ → List ℕ → Result (List ℕ) EditRefusal
insert b at h =
    if nat_lt (length b) at then Err Outside
    else if length h == 0 then Err NothingToDo
    else if nat_lt file_limit (length b + length h) then Err TooLarge
    else Ok (take at b ++ h ++ drop at b)

-- n bytes from a place on, taken out
abbrev pub delete : List ℕ → ℕ → ℕ → Result (List ℕ) EditRefusal
delete b at n =
    if nat_lt (length b) (at + n) then Err Outside
    else if n == 0 then Err NothingToDo
    else Ok (take at b ++ drop (at + n) b)

-- h after the last byte
abbrev pub append : List ℕ → List ℕ → Result (List ℕ) EditRefusal
append b h =
    if length h == 0 then Err NothingToDo
    else if nat_lt file_limit (length b + length h) then Err TooLarge
    else Ok (b ++ h)

-- memory is refused only where the edit would be done; any other refusal is the edit's own
abbrev pub IsRefusedAs : EditRefusal → Result (List ℕ) EditRefusal → Type 0
IsRefusedAs NoMemory edited = IsOk edited
IsRefusedAs Outside edited = edited ≡ Err Outside
IsRefusedAs NothingToDo edited = edited ≡ Err NothingToDo
IsRefusedAs TooLarge edited = edited ≡ Err TooLarge
