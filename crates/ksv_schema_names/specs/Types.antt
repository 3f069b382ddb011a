-- Names that are looked up from a type outwards, and byte order and encoding in force.
--
-- A name is looked up in the type where it is used, then in the types around it, the nearest first; the root is
-- also found by its own id, last. `a::b` is `b` in the type that is found in this way for `a`. Byte order and
-- encoding are inherited.
use Rattle.std.specs.Prelude.{ℕ, zero, suc, if◌then◌else◌, List, [], ◌∷◌, ◌++◌, length, find, is_some, codes, Option, Some, None, option_and_then, slice_get}
use Rattle.std.specs.Option.{option_map_or}
use Rattle.std.specs.Str.{bytes_eq}
use Rattle.ksv_yaml_tree.specs.Tree.{Pair}
use Rattle.ksv_yaml_tree.specs.Keys.{entries_at, text_at}
use Rattle.ksv_desc.specs.declared.order.ByteOrder.{ByteOrder}
use Rattle.ksv_desc.specs.declared.order.ByteOrder.TheVariants as orders
use Rattle.ksv_schema_names.specs.Rows.{Row, keys_of, row_in}

-- the keys of the type n, or the entries of the enum n
unfoldable pub keys_at : List Row → ℕ → List Pair
keys_at rows n = option_map_or keys_of (slice_get rows n) []

-- ---- looking outwards

unfoldable pub outer_of : List Row → ℕ → Option ℕ
outer_of types n = option_and_then (λ r. r.within) (slice_get types n)

-- the type n and then the types around it, the nearest first: at most k of them
abbrev pub around : ℕ → List Row → ℕ → List ℕ
around zero types n = []
around (suc k) types n = n ∷ option_map_or (around k types) (outer_of types n) []

-- no type is within more types than there are
unfoldable pub from : List Row → ℕ → List ℕ
from types n = around (length types) types n

-- what is found in the nearest of these types that has it
abbrev pub outwards : {A : Type 0} → (ℕ → Option A) → List ℕ → Option A
outwards f ns = option_and_then f (find (λ n. is_some (f n)) ns)

-- ---- types and enums by their names

-- the nearest row of this name, from the type n outwards
unfoldable pub nearest_row : List Row → List Row → List ℕ → ℕ → Option ℕ
nearest_row types rows name n = outwards (row_in rows name) (from types n)

-- the root, by its own id
abbrev pub root_named : List Row → List ℕ → Option ℕ
root_named [] name = None
root_named (root ∷ types) name = if bytes_eq root.id name then Some 0 else None

-- the type to which a path of names leads from the type n inwards
abbrev pub type_along : List Row → ℕ → List (List ℕ) → Option ℕ
type_along types n [] = Some n
type_along types n (name ∷ names) = option_and_then (λ m. type_along types m names) (row_in types name n)

-- the type that a path of names means where it is used in the type n
unfoldable pub type_named : List Row → ℕ → List (List ℕ) → Option ℕ
type_named types n [] = None
type_named types n (name ∷ names) = option_and_then (λ m. type_along types m names) (option_map_or Some (nearest_row types types name n) (root_named types name))

-- the enum of this name that such a path leads to, or the nearest one where there is no path
unfoldable pub enum_behind : List Row → List Row → ℕ → List (List ℕ) → List ℕ → Option ℕ
enum_behind types enums n [] name = nearest_row types enums name n
enum_behind types enums n (first ∷ path) name = option_and_then (row_in enums name) (type_named types n (first ∷ path))

-- the enum that a path of names means where it is used in the type n: types, and last the enum
abbrev pub enum_from : List Row → List Row → ℕ → List (List ℕ) → List (List ℕ) → Option ℕ
enum_from types enums n path [] = None
enum_from types enums n path (name ∷ []) = enum_behind types enums n path name
enum_from types enums n path (name ∷ next ∷ names) = enum_from types enums n (path ++ name ∷ []) (next ∷ names)

-- ---- byte order and encoding in force

abbrev pub order_named : List ℕ → Option ByteOrder
order_named text = if bytes_eq text (codes "le") then Some orders.Little
    else if bytes_eq text (codes "be") then Some orders.Big
    else None

-- the text at a key of the `meta` of the type n
abbrev pub setting : List ℕ → List Row → ℕ → Option (List ℕ)
setting key types n = text_at key (entries_at (codes "meta") (keys_at types n))

-- the byte order that the type n itself sets; another text sets none
abbrev pub order_in : List Row → ℕ → Option ByteOrder
order_in types n = option_and_then order_named (setting (codes "endian") types n)

unfoldable pub order_of : List Row → ℕ → Option ByteOrder
order_of types n = outwards (order_in types) (from types n)

-- the name of the encoding in force in the type n
unfoldable pub encoding_of : List Row → ℕ → Option (List ℕ)
encoding_of types n = outwards (setting (codes "encoding") types) (from types n)
