-- Readings: the ways in which rules read the bytes of a file, with what each depends on. A stream goes from one
-- place to another, or on to the end of the file. Streams are those of the Kaitai Struct User Guide; what a reading
-- depends on is this project's own.
use Rattle.std.specs.Prelude.{ℕ, suc, ◌+◌, List, [], ◌∷◌, ◌++◌, length, slice_range, Bool, true, false, ◌&&◌, nat_lt, nat_le, ◌==◌, Option, Some, None, option_map, if◌then◌else◌}
use Rattle.ksv_bytes.specs.declared.uses.Use.{Use}
use Rattle.ksv_bytes.specs.declared.uses.Use.TheVariants as uses
use Rattle.ksv_expr_value.specs.Places.{Place, byte_in}
use Rattle.ksv_expr_value.specs.declared.value.Stream.{Stream}
use Rattle.ksv_nodes.specs.declared.turn.readings.Found.{Found}
use Rattle.ksv_nodes.specs.declared.turn.readings.Found.TheVariants as founds

-- A reading: that a stream goes on to a byte's number; with which it ends; whether a place is at the end of a stream;
-- the bytes of a range; the first byte of a value from a byte of a stream on.
pub data Reading : Type 0 where
  Reach : Stream → ℕ → Reading
  Finish : Stream → Reading
  Done : Stream → Place → Reading
  Peek : (from to : ℕ) → Reading
  Find : Stream → ℕ → (byte : ℕ) → Reading

-- what it gives
abbrev pub Seen : Reading → Type 0
Seen (Reach w t) = Unit {0}
Seen (Finish w) = ℕ
Seen (Done w t) = Bool
Seen (Peek f t) = List ℕ
Seen (Find w s b) = Found

-- The result of a reading: what it gives, or None if the bytes end too early; and what this depends on.
pub record Look (A : Type 0) : Type 0 where
  pub seen : Option A
  pub uses : List Use

-- it gives this, and depends on these uses
abbrev pub gives : {A : Type 0} → A → List Use → Look A
gives a us = record { seen = Some a; uses = us }

-- the bytes end too early
abbrev pub ends_before : {A : Type 0} → List Use → Look A
ends_before us = record { seen = None; uses = us }

-- that the file goes on to a place
unfoldable pub reach_file : List ℕ → ℕ → Look (Unit {0})
reach_file bytes t = if nat_le t (length bytes) then gives tt (uses.Reach t ∷ []) else ends_before (uses.Size ∷ [])

unfoldable pub reach_within : List ℕ → Option ℕ → ℕ → Look (Unit {0})
reach_within bytes None t = reach_file bytes t
reach_within bytes (Some end) t = if nat_lt end t then ends_before [] else reach_file bytes t

-- where a stream ends
unfoldable pub finish_of : List ℕ → Option ℕ → Look ℕ
finish_of bytes None = gives (length bytes) (uses.Size ∷ [])
finish_of bytes (Some end) = gives end []

-- whether a place in the byte t is at the end of a stream or after it: as streams end where a byte begins, just where that byte is
unfoldable pub done_at : List ℕ → Option ℕ → ℕ → Look Bool
done_at bytes None t = if nat_lt t (length bytes) then gives false (uses.Reach (t + 1) ∷ []) else gives true (uses.Size ∷ [])
done_at bytes (Some end) t = gives (nat_le end t) []

-- what a range depends on if its bytes aren't all there
unfoldable pub cut_uses : List ℕ → ℕ → List Use
cut_uses bytes f = if nat_lt f (length bytes) then uses.Size ∷ uses.Bytes f (length bytes) ∷ [] else uses.Size ∷ []

-- the bytes of a range; of an empty one none, wherever it is
unfoldable pub peek_at : List ℕ → ℕ → ℕ → Look (List ℕ)
peek_at bytes f t = if f == t then gives [] []
    else if nat_le t (length bytes) && nat_lt f t then gives (slice_range bytes f t) (uses.Bytes f t ∷ [])
    else ends_before (cut_uses bytes f)

-- the place of the first such byte of a list
abbrev pub first_at : ℕ → List ℕ → Option ℕ
first_at b [] = None
first_at b (x ∷ xs) = if x == b then Some 0 else option_map suc (first_at b xs)

-- where a stream ends in these bytes
abbrev pub end_in : List ℕ → Option ℕ → ℕ
end_in bytes None = length bytes
end_in bytes (Some end) = end

-- if there is no such byte, all bytes of the stream from the place on were read
unfoldable pub found_none : List ℕ → Option ℕ → ℕ → Look (List ℕ) → Look Found
found_none bytes to end look = record { seen = option_map (λ bs. founds.Missing end) look.seen; uses = (finish_of bytes to).uses ++ look.uses }

unfoldable pub found_from : List ℕ → Option ℕ → ℕ → ℕ → Option ℕ → Look Found
found_from bytes to s end (Some i) = gives (founds.At (s + i)) (uses.Bytes s (s + i + 1) ∷ [])
found_from bytes to s end None = found_none bytes to end (peek_at bytes s end)

-- the first byte of a value from a place on, before the stream's end
unfoldable pub find_at : List ℕ → Option ℕ → ℕ → ℕ → Look Found
find_at bytes to s b = found_from bytes to s (end_in bytes to) (first_at b (slice_range bytes s (end_in bytes to)))

-- the result of a reading on these bytes
abbrev pub look : (r : Reading) → List ℕ → Look (Seen r)
look (Reach w t) bytes = reach_within bytes w.to t
look (Finish w) bytes = finish_of bytes w.to
look (Done w p) bytes = done_at bytes w.to (byte_in p)
look (Peek f t) bytes = peek_at bytes f t
look (Find w s b) bytes = find_at bytes w.to s b
