-- A fault of a description is a line and the number of a code, S1 to S10. The least is the one on the lowest line;
-- of those on one line, the one with the lowest number.
use Rattle.std.specs.Prelude.{◌≡◌, ℕ, Bool, false, if◌then◌else◌, nat_lt, ◌==◌, ◌||◌, ◌&&◌, List, [], ◌∷◌, Option, Some, None, fold, All, Contains}

pub record Fault : Type 0 where
  pub line : ℕ
  pub number : ℕ

-- ---- the codes

abbrev pub unknown_key : ℕ
unknown_key = 1

abbrev pub missing_key : ℕ
missing_key = 2

abbrev pub keys_against : ℕ
keys_against = 3

abbrev pub unknown_name : ℕ
unknown_name = 4

abbrev pub no_byte_order : ℕ
no_byte_order = 5

-- also a node of the wrong kind
abbrev pub bad_value : ℕ
bad_value = 6

abbrev pub wrong_count : ℕ
wrong_count = 7

abbrev pub left_out : ℕ
left_out = 8

abbrev pub over_limit : ℕ
over_limit = 9

abbrev pub no_expression : ℕ
no_expression = 10

-- ---- faults

-- one fault, and one if something is wrong
abbrev pub fault : ℕ → ℕ → List Fault
fault line number = record { line = line; number = number } ∷ []

abbrev pub fault_if : Bool → ℕ → ℕ → List Fault
fault_if wrong line number = if wrong then fault line number else []

-- a lower line, or on the same line a lower number
unfoldable pub is_below : Fault → Fault → Bool
is_below f g = nat_lt f.line g.line || ((f.line == g.line) && nat_lt f.number g.number)

-- one of these faults, with none below it
pub record IsLeast (f : Fault) (fs : List Fault) : Type 0 where
  pub among : Contains fs f
  pub none_below : All (λ g. is_below g f ≡ false) fs

-- the lesser of the least so far and a fault, and of a list of faults
abbrev pub lesser : Option Fault → Fault → Option Fault
lesser None f = Some f
lesser (Some g) f = if is_below f g then Some f else Some g

unfoldable pub noted : Option Fault → List Fault → Option Fault
noted o fs = fold lesser o fs
