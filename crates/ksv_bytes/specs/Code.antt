-- Bytes with a gap among them. What is in the gap means nothing.
use Rattle.std.specs.Prelude.{ℕ, ◌+◌, List, ◌++◌, length, take, drop}

-- the bytes before a gap and those after it, where the gap begins at a place and is this many bytes long
abbrev pub around : List ℕ → ℕ → ℕ → List ℕ
around bytes front gap = take front bytes ++ drop (front + gap) bytes

-- h put before the byte at a place
abbrev pub inserted : List ℕ → ℕ → List ℕ → List ℕ
inserted bytes at h = take at bytes ++ h ++ drop at bytes

-- h written over the bytes from a place on
abbrev pub overwritten : List ℕ → ℕ → List ℕ → List ℕ
overwritten bytes at h = take at bytes ++ h ++ drop (at + length h) bytes
