-- The types that the language itself has.
use Rattle.std.specs.Prelude.{ℕ, ◌-◌, Bool, true, false, nat_le, nat_lt, ◌==◌, ◌&&◌, ◌||◌, if◌then◌else◌, List, [], ◌∷◌, length, drop, take, slice_index, codes, Option, Some, None, is_none, option_map, option_and_then}
use Rattle.std.specs.List.{list_all}
use Rattle.std.specs.Char.{is_ascii_digit}
use Rattle.std.specs.Str.{bytes_eq}
use Rattle.std.specs.Str.Parse.{digits_value}
use Rattle.ksv_desc.specs.declared.order.ByteOrder.{ByteOrder}
use Rattle.ksv_schema_names.specs.Types.{order_named}
pub use Rattle.ksv_schema_names.specs.declared.built_ins.BuiltIn.{BuiltIn}
pub use Rattle.ksv_schema_names.specs.declared.built_ins.BuiltIn.TheVariants.{Integer, Bits, Str, Strz, NotHere}

-- ---- numbers: `u`, `s` or `f` (with a fraction, which is unsupported), how many bytes, and their order or nothing

-- the sizes of these kinds; one byte has no order
abbrev pub has_size : ℕ → Option ByteOrder → Bool
has_size size order = size == 1 && is_none order || size == 2 || size == 4 || size == 8

abbrev pub of_kind : ℕ → ℕ → Option ByteOrder → Option BuiltIn
of_kind kind size order =
    if kind == 117 && has_size size order then Some (Integer false size order)
    else if kind == 115 && has_size size order then Some (Integer true size order)
    else if kind == 102 && (size == 4 || size == 8) then Some NotHere
    else None

abbrev pub order_suffix : List ℕ → Option (Option ByteOrder)
order_suffix [] = Some None
order_suffix (c ∷ cs) = option_map (λ (order : ByteOrder). Some order) (order_named (c ∷ cs))

abbrev pub number_type : List ℕ → Option BuiltIn
number_type [] = None
number_type (kind ∷ []) = None
number_type (kind ∷ digit ∷ suffix) = option_and_then (of_kind kind (digit - 48)) (order_suffix suffix)

-- ---- integers of 1 to 64 bits: `b`, how many bits, and the end by which those of a byte are read, `be` or `le`, or nothing

-- a decimal from 1 to 64 that doesn't begin with 0
abbrev pub is_width : List ℕ → Bool
is_width [] = false
is_width (c ∷ cs) = list_all is_ascii_digit (c ∷ cs) && nat_lt 48 c && nat_le (length cs) 1 && nat_le (digits_value 10 (c ∷ cs)) 64

-- whether the lowest bit of a byte is the first one, as `le` at the end says
abbrev pub is_little : List ℕ → Bool
is_little cs = bytes_eq (drop (length cs - 2) cs) (codes "le")

-- what comes before `le` or `be` at the end
abbrev pub before_order : List ℕ → List ℕ
before_order cs =
    let suffix = drop (length cs - 2) cs in
    if bytes_eq suffix (codes "le") || bytes_eq suffix (codes "be") then take (length cs - 2) cs else cs

unfoldable pub is_bits : List ℕ → Bool
is_bits name = slice_index name 0 == 98 && is_width (before_order (drop 1 name))

-- the type that such a name is
abbrev pub bits_type : List ℕ → BuiltIn
bits_type name = Bits (digits_value 10 (before_order (drop 1 name))) (is_little name)

-- ---- all of them

-- the type of the language that a name is
unfoldable pub built_in : List ℕ → Option BuiltIn
built_in name =
    if is_bits name then Some (bits_type name)
    else if bytes_eq name (codes "str") then Some Str
    else if bytes_eq name (codes "strz") then Some Strz
    else number_type name

-- the same for a path, which has one name
abbrev pub built_in_at : List (List ℕ) → Option BuiltIn
built_in_at [] = None
built_in_at (name ∷ []) = built_in name
built_in_at (name ∷ next ∷ names) = None
