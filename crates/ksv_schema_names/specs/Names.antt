-- What is wrong with the names of an expression at its place.
--
-- A bare name must be a member of the type that the expression is in; a name after a dot needn't be one. A type and
-- an enum's member are looked up from that type outwards. `_root` and `_parent` are allowed anywhere; the others
-- only at the keys that are named here.
use Rattle.std.specs.Prelude.{ℕ, Bool, true, false, not, if◌then◌else◌, ◌&&◌, ◌||◌, ◌==◌, List, [], ◌∷◌, ◌++◌, codes, Option, Some, None, is_some, is_none, option_and_then, fold}
use Rattle.std.specs.Str.{bytes_eq}
use Rattle.ksv_expr_tree.specs.declared.tree.SpecialName.{SpecialName}
use Rattle.ksv_expr_tree.specs.declared.tree.SpecialName.TheVariants as specials
use Rattle.ksv_expr_tree.specs.Tree.{Tree, literal, named, special, member, unary, binary, logical, choice, field, special_field, call, index, cast, Arguments, no_arguments, argument, MemberPath, TypePath}
use Rattle.ksv_schema_names.specs.Types.{type_named, enum_from}
use Rattle.ksv_schema_names.specs.Members.{member_named}
use Rattle.ksv_schema_names.specs.Enums.{number_of_id}
use Rattle.ksv_schema_names.specs.Rows.{Declared}
use Rattle.ksv_desc.specs.Resolved.{count}
use Rattle.ksv_schema_names.specs.declared.position.Site.{Site}
use Rattle.ksv_schema_names.specs.declared.position.Site.TheVariants as sites
use Rattle.ksv_schema_names.specs.declared.position.Position.{Position}
use Rattle.ksv_schema_names.specs.declared.position.NameFault.{NameFault}
use Rattle.ksv_schema_names.specs.declared.position.NameFault.TheVariants.{Unknown, LeftOut}
use Rattle.ksv_schema_names.specs.BuiltIn.{built_in_at}

abbrev pub wrong_if : Bool → NameFault → List NameFault
wrong_if b k = if b then k ∷ [] else []

-- ---- which names of the language are allowed where

-- `_io.pos` and `_io.eof` are allowed where an attribute of a `seq` has a current place
abbrev pub has_place : Site → Bool
has_place sites.Condition = true
has_place sites.Size = true
has_place sites.Count = true
has_place sites.Until = true
has_place sites.Switch = true
has_place _ = false

-- `_index` is allowed where each element is read or checked
abbrev pub is_of_element : Site → Bool
is_of_element sites.Size = true
is_of_element sites.Until = true
is_of_element sites.Switch = true
is_of_element sites.Argument = true
is_of_element sites.Valid = true
is_of_element sites.ValidExpr = true
is_of_element _ = false

-- `_` is allowed in `repeat-until` and in the `expr` of `valid`
abbrev pub has_value : Site → Bool
has_value sites.Until = true
has_value sites.ValidExpr = true
has_value _ = false

-- `io` has a stream
abbrev pub is_stream : Site → Bool
is_stream sites.Stream = true
is_stream _ = false

-- What follows a part of an expression: a dot and a name; nothing, if the part is the whole expression; or
-- something else, which includes an operator of which the part is an operand.
pub data Behind : Type 0 where
  Dot : List ℕ → Behind
  Nothing : Behind
  Other : Behind

-- `_io` must be followed by `.size`, `.pos` or `.eof`, or be the whole of `io`
abbrev pub is_own_stream_fit : Position → Behind → Bool
is_own_stream_fit p (Dot name) = bytes_eq name (codes "size") || p.in_sequence && has_place p.site && (bytes_eq name (codes "pos") || bytes_eq name (codes "eof"))
is_own_stream_fit p Nothing = is_stream p.site
is_own_stream_fit p Other = false

-- the stream of another object must be followed by `.size`, or end the whole of `io`
abbrev pub is_stream_fit : Position → Behind → Bool
is_stream_fit p (Dot name) = bytes_eq name (codes "size")
is_stream_fit p Nothing = is_stream p.site
is_stream_fit p Other = false

-- a name of the language alone
unfoldable pub special_faults : Position → Behind → SpecialName → List NameFault
special_faults p b specials.Root = []
special_faults p b specials.Parent = []
special_faults p b specials.Io = wrong_if (not (is_own_stream_fit p b)) LeftOut
special_faults p b specials.Index = wrong_if (not (p.is_repeated && is_of_element p.site)) Unknown
special_faults p b specials.Element = wrong_if (not (has_value p.site)) Unknown

-- and after a dot
unfoldable pub special_field_faults : Position → Behind → SpecialName → List NameFault
special_field_faults p b specials.Root = []
special_field_faults p b specials.Parent = []
special_field_faults p b specials.Io = wrong_if (not (is_stream_fit p b)) LeftOut
special_field_faults p b specials.Index = Unknown ∷ []
special_field_faults p b specials.Element = Unknown ∷ []

-- ---- members of enums, casts, calls

-- the number of the enum of a path of an enum's member, and whether there is such a member
unfoldable pub enum_at : Declared → ℕ → MemberPath → Option ℕ
enum_at d n m = enum_from d.types d.enums n [] m.path

unfoldable pub is_member : Declared → ℕ → MemberPath → Bool
is_member d n m = is_some (option_and_then (λ e. number_of_id d.enums e m.name) (enum_at d n m))

-- a cast to a type of the language is unsupported
unfoldable pub cast_faults : Declared → ℕ → TypePath → List NameFault
cast_faults d n t =
    if is_some (built_in_at t.path) then LeftOut ∷ []
    else wrong_if (is_none (type_named d.types n t.path)) Unknown

-- the calls that exist: `.substring` with two arguments, `.to_i` and `.to_s` with one
unfoldable pub is_call : List ℕ → ℕ → Bool
is_call name n = bytes_eq name (codes "substring") && n == 2 || (bytes_eq name (codes "to_i") || bytes_eq name (codes "to_s")) && n == 1

-- ---- expressions

unfoldable mutual
  -- the faults of a part in the type n, by what follows it
  pub part_faults : Declared → ℕ → Position → Behind → Tree → List NameFault
  part_faults d n p b (literal c) = []
  part_faults d n p b (named w) = wrong_if (is_none (member_named d.types n w.text)) Unknown
  part_faults d n p b (special s) = special_faults p b s
  part_faults d n p b (member m) = wrong_if (not (is_member d n m)) Unknown
  part_faults d n p b (unary op x) = part_faults d n p Other x
  part_faults d n p b (binary op x y) = part_faults d n p Other x ++ part_faults d n p Other y
  part_faults d n p b (logical op x y) = part_faults d n p Other x ++ part_faults d n p Other y
  part_faults d n p b (choice x y z) = part_faults d n p Other x ++ part_faults d n p Other y ++ part_faults d n p Other z
  part_faults d n p b (field x w) = part_faults d n p (Dot w.text) x
  part_faults d n p b (special_field x s) = part_faults d n p Other x ++ special_field_faults p b s
  part_faults d n p b (call x m es) = wrong_if (not (is_call m (count es))) Unknown ++ part_faults d n p Other x ++ list_faults d n p es
  part_faults d n p b (index x y) = part_faults d n p Other x ++ part_faults d n p Other y
  part_faults d n p b (cast x t) = part_faults d n p Other x ++ cast_faults d n t

  -- the faults of arguments
  pub list_faults : Declared → ℕ → Position → Arguments → List NameFault
  list_faults d n p no_arguments = []
  list_faults d n p (argument e es) = part_faults d n p Other e ++ list_faults d n p es

-- the faults of an expression
unfoldable pub name_faults : Declared → ℕ → Position → Tree → List NameFault
name_faults d n p e = part_faults d n p Nothing e

-- ---- the least of them: an unknown name comes before one that may not be used in this way

abbrev pub lesser : Option NameFault → NameFault → Option NameFault
lesser None k = Some k
lesser (Some Unknown) k = Some Unknown
lesser (Some LeftOut) k = Some k

unfoldable pub least : Option NameFault → List NameFault → Option NameFault
least o ks = fold lesser o ks
