-- The bytes of hexadecimal digits on a line.
use Rattle.std.specs.Prelude.{ℕ, ◌≡◌, ◌≤◌, List, [], length, Option, is_some, true, unwrap_or}
use Rattle.std.specs.Result.{result_ok}
use Rattle.hex.specs.Hex.{decode_of}
use Rattle.ksv_lines.specs.Lines.{line_limit}

-- an even number of hexadecimal digits of either case
abbrev pub bytes_of : List ℕ → Option (List ℕ)
bytes_of word = result_ok (decode_of word)

-- the bytes that digits stand for, where they do
abbrev pub written : List ℕ → List ℕ
written digits = unwrap_or (bytes_of digits) []

-- digits that stand for bytes, as many as a line has room for
pub record IsEdit (digits : List ℕ) : Type 0 where
  pub reads : is_some (bytes_of digits) ≡ true
  pub short : length digits ≤ line_limit
