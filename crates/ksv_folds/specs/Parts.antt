-- The fields of an element, by numbers, and where elements are.
use Rattle.std.specs.Prelude.{ℕ, zero, suc, ◌+◌, ◌*◌, ◌^◌, nat_lt, nat_le, nat_eq, Bool, true, ◌&&◌, not, List, [], ◌∷◌, length, unwrap_or, slice_get}
use Rattle.std.specs.Prelude.{Option, Some, None, Vec}
use Rattle.std.specs.List.{list_any}
use Rattle.std.specs.declared.alloc.Global.{Global}
use Rattle.ksv_folds.specs.declared.part.Part.{Part}

-- the field of this number
abbrev pub part : List Part → ℕ → Part
part ps f = unwrap_or (slice_get ps f) (record { name = 0; member = 0; to = 0 })

-- how many bytes of the element are before it
abbrev pub edge : List Part → ℕ → ℕ
edge ps zero = 0
edge ps (suc f) = (part ps f).to

-- no field ends before the one before, from a place on, or at the start of the element, and the last not after another place; and names are numbers of 32 bits
abbrev pub is_rising : ℕ → ℕ → List Part → Bool
is_rising low size [] = nat_le low size
is_rising low size (p ∷ ps) = ((nat_le low p.to && nat_lt 0 p.to) && nat_lt p.name (2 ^ 32)) && is_rising p.to size ps

-- one of these fields has this name
abbrev pub has_name : ℕ → List Part → Bool
has_name name ps = list_any (λ p. nat_eq p.name name) ps

-- each field has a name of its own
abbrev pub have_own_names : List Part → Bool
have_own_names [] = true
have_own_names (p ∷ ps) = not (has_name p.name ps) && have_own_names ps

-- ---- where elements are

-- None where they are of one size; else the numbers of the bytes where each begins and the last ends
abbrev pub Starts : Type 0
Starts = Option (Vec ℕ Global)

-- so many nodes has an element of so many fields: one more where it says a size
abbrev pub nodes_in : Starts → ℕ → ℕ
nodes_in None k = 2 + 2 * k
nodes_in (Some s) k = 3 + 2 * k

abbrev pub start_in : Starts → ℕ → ℕ → ℕ → ℕ
start_in None first size i = first + size * i
start_in (Some s) first size i = unwrap_or (slice_get s.items i) 0

-- the number of this place
abbrev pub nth : List ℕ → ℕ → ℕ
nth ss i = unwrap_or (slice_get ss i) 0

-- from a place on, each is at least so many bytes behind the one before
abbrev pub are_apart : ℕ → ℕ → List ℕ → Bool
are_apart size low [] = true
are_apart size low (a ∷ rest) = nat_le low a && are_apart size (a + size) rest

-- there is a number for each element, and one more; and an element has a field besides the one whose size it says
abbrev pub are_starts : Starts → ℕ → ℕ → ℕ → ℕ → Bool
are_starts None first size most k = true
are_starts (Some s) first size most k =
    (nat_lt 1 k && nat_eq (length s.items) (most + 1)) && (nat_eq (unwrap_or (slice_get s.items 0) 0) first && are_apart size 0 s.items)
