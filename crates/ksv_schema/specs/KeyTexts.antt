-- What the values of a description's keys mean.
use Rattle.std.specs.Prelude.{ℕ, ◌^◌, Bool, true, false, not, nat_le, ◌==◌, ◌&&◌, ◌||◌, if◌then◌else◌, nat_abs, List, [], ◌∷◌, ◌++◌, drop, codes, slice_index, Option, Some, None, option_map, option_and_then}
use Rattle.std.specs.List.{list_all}
use Rattle.std.specs.Option.{option_map_or}
use Rattle.ksv_yaml_tree.specs.Tree.{Tree, Text, Seq, Map, Pair, text_of, entry_at}
use Rattle.ksv_expr_tree.specs.declared.tree.UnaryOperator.TheVariants as unaries
use Rattle.ksv_expr_tree.specs.declared.tree.SpecialName.TheVariants as specials
use Rattle.ksv_expr_tree.specs.Tree.{TypePath, Arguments, TypeTree}
use Rattle.ksv_expr_tree.specs.Tree as expressions
use Rattle.ksv_yaml_tree.specs.Keys.{text_at, says}
use Rattle.ksv_yaml_tree.specs.declared.numeral.Numeral.{Numeral}
use Rattle.ksv_yaml_tree.specs.declared.numeral.Numeral.TheVariants.{Whole, LeadingZero, NoNumeral}
use Rattle.ksv_basics.specs.Numerals.{is_numeral}
use Rattle.ksv_yaml_tree.specs.Numerals.{plain_number}
use Rattle.ksv_schema_names.specs.declared.built_ins.BuiltIn.{BuiltIn}
use Rattle.ksv_schema_names.specs.declared.built_ins.BuiltIn.TheVariants.{Integer, Bits, Str, Strz}
use Rattle.ksv_schema_names.specs.BuiltIn.{built_in_at}
use Rattle.ksv_expr_value.specs.declared.encoding.Encoding.{Encoding}
use Rattle.ksv_expr_value.specs.Encodings as encodings
use Rattle.ksv_schema.specs.Expressions.{type_of}
use Rattle.ksv_schema.specs.Keys.{is_id}

-- ---- encodings

-- ASCII and UTF-8, in any letter case
unfoldable pub encoding_named : List ℕ → Option Encoding
encoding_named name = encodings.encoding_named name

-- ---- types

-- what the text of a type is: no type's text, a type of the language, or a type of the description; with its
-- arguments
pub data TypeText : Type 0 where
  Unspelled : TypeText
  OfLanguage : BuiltIn → Arguments → TypeText
  OfDescription : TypePath → Arguments → TypeText

abbrev pub of_name : TypeTree → Option BuiltIn → TypeText
of_name t None = OfDescription t.name t.arguments
of_name t (Some b) = OfLanguage b t.arguments

abbrev pub of_type : Option TypeTree → TypeText
of_type None = Unspelled
of_type (Some t) = of_name t (built_in_at t.name.path)

unfoldable pub type_text : List ℕ → TypeText
type_text text = of_type (type_of text)

-- an integer of bytes or of bits, and one of bits
abbrev pub is_integer : TypeText → Bool
is_integer (OfLanguage (Integer signed bytes order) es) = true
is_integer (OfLanguage (Bits width is_little) es) = true
is_integer _ = false

abbrev pub is_bits : TypeText → Bool
is_bits (OfLanguage (Bits width is_little) es) = true
is_bits _ = false

abbrev pub is_str : TypeText → Bool
is_str (OfLanguage Str es) = true
is_str _ = false

abbrev pub is_strz : TypeText → Bool
is_strz (OfLanguage Strz es) = true
is_strz _ = false

-- the type whose text is at an entry, and the one at the key `type`
abbrev pub type_at : Pair → Option TypeText
type_at p = option_map type_text (text_of p.value)

abbrev pub own_type : List Pair → Option TypeText
own_type es = option_and_then type_at (entry_at (codes "type") es)

-- whether there is a type, and it is of this kind
abbrev pub is_a : (TypeText → Bool) → Option TypeText → Bool
is_a kind t = option_map_or kind t false

-- ---- numbers of one byte

unfoldable pub byte_number : List ℕ → Numeral
byte_number text = plain_number 255 text

-- the number at a key, if it is one from 0 to 255
abbrev pub byte_in : Numeral → Option ℕ
byte_in (Whole n) = Some (nat_abs n)
byte_in LeadingZero = None
byte_in NoNumeral = None

unfoldable pub byte_at : List ℕ → List Pair → Option ℕ
byte_at key es = option_and_then (λ text. byte_in (byte_number text)) (text_at key es)

-- ---- contents

-- a text in the form of a plain number: digits, or hexadecimal ones after `0x`
unfoldable pub looks_like_number : List ℕ → Bool
looks_like_number text = is_numeral 10 text || slice_index text 0 == 48 && slice_index text 1 == 120 && is_numeral 16 (drop 2 text)

-- what an item of `contents` is: bytes, a number that is too large or a node of the wrong kind, or one with a leading zero
pub data Piece : Type 0 where
  Bytes : List ℕ → Piece
  BadPiece : Piece
  LeftOutPiece : Piece

abbrev pub number_piece : Numeral → Piece
number_piece (Whole n) = Bytes (nat_abs n ∷ [])
number_piece LeadingZero = LeftOutPiece
number_piece NoNumeral = BadPiece

-- an item of a list: a plain number from 0 to 255, or a text
unfoldable pub piece_of : Tree → Piece
piece_of (Text line quoted text) = if not quoted && looks_like_number text then number_piece (byte_number text) else Bytes text
piece_of (Seq line ts) = BadPiece
piece_of (Map line es) = BadPiece

-- ---- keys of `cases`

-- the kinds of expression that a key of `cases` may be: a number, truth value or text, a number after `-`, a
-- member, or `_`
pub data CaseKey : Type 0 where
  Constant : expressions.Constant → CaseKey
  Negative : ℕ → CaseKey
  OfEnum : expressions.MemberPath → CaseKey
  Default : CaseKey
  NoKey : CaseKey

unfoldable pub case_key : expressions.Tree → CaseKey
case_key (expressions.literal c) = Constant c
case_key (expressions.unary unaries.Negate (expressions.literal (expressions.integer n))) = if nat_le n (2 ^ 63) then Negative n else NoKey
case_key (expressions.member m) = OfEnum m
case_key (expressions.special specials.Element) = Default
case_key _ = NoKey

-- ---- paths of enums

-- the names between the `::` of a text; the first of them begins with these bytes
abbrev pub names_in : List ℕ → List ℕ → List (List ℕ)
names_in name [] = name ∷ []
names_in name (c ∷ []) = (name ++ c ∷ []) ∷ []
names_in name (c ∷ d ∷ cs) = if c == 58 && d == 58 then name ∷ names_in [] cs else names_in (name ++ c ∷ []) (d ∷ cs)

-- ids with `::` between them
unfoldable pub ids_of : List ℕ → Option (List (List ℕ))
ids_of text = let names = names_in [] text in if list_all is_id names then Some names else None

-- ---- flags

-- whether a key is `true`, and whether one that defaults to `true` is
abbrev pub is_true : List ℕ → List Pair → Bool
is_true key es = says key (codes "true") es

abbrev pub is_not_false : List ℕ → List Pair → Bool
is_not_false key es = not (says key (codes "false") es)

-- `size-eos: true`, and whether an attribute is repeated
abbrev pub is_to_end : List Pair → Bool
is_to_end es = is_true (codes "size-eos") es

abbrev pub is_repeated : List Pair → Bool
is_repeated es = says (codes "repeat") (codes "eos") es || says (codes "repeat") (codes "expr") es || says (codes "repeat") (codes "until") es
