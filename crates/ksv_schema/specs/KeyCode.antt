-- The plain data of the code's values.
use Rattle.std.specs.declared.alloc.Global.{Global}
use Rattle.std.specs.Prelude.{◌≡◌, ◌≢◌, ◌≤◌, ◌+◌, ◌^◌, ◌==◌, ◌&&◌, false, take, drop, length, Vec, String, string_bytes, nat_le, if◌then◌else◌, ℤ, pos, ℕ, Bool, List, [], ◌∷◌, map, Option, Some, None, option_map, Result, Ok, Err}
use Rattle.ksv_expr_syntax.specs.declared.fault.ExprFault.{ExprFault}
use Rattle.ksv_expr_tree.specs.declared.tree.Expr.{Expr}
use Rattle.ksv_expr_tree.specs.declared.tree.TypeRef.{TypeRef}
use Rattle.ksv_expr_tree.specs.Tree.{view, view_type}
use Rattle.ksv_expr_tree.specs.Tree as expressions
use Rattle.ksv_schema.specs.declared.keys.texts.TypeText as type_texts
use Rattle.ksv_schema.specs.declared.keys.texts.TypeText.TheVariants as type_text
use Rattle.ksv_schema.specs.declared.keys.texts.TypeKind.{TypeKind}
use Rattle.ksv_schema.specs.declared.keys.texts.TypeKind.TheVariants as kind
use Rattle.ksv_schema.specs.declared.keys.texts.Piece as pieces
use Rattle.ksv_schema.specs.declared.keys.texts.Piece.TheVariants as piece
use Rattle.ksv_schema.specs.declared.keys.texts.CaseKey as case_keys
use Rattle.ksv_schema.specs.declared.keys.texts.CaseKey.TheVariants as case_key
use Rattle.ksv_schema.specs.KeyTexts.{TypeText, Unspelled, OfLanguage, OfDescription, is_integer, is_bits, is_str, is_strz, Piece, Bytes, BadPiece, LeftOutPiece, names_in, CaseKey, Constant, Negative, OfEnum, Default, NoKey}
use Rattle.ksv_schema.specs.declared.keys.forms.Key.{Key as KeyOfCode}
use Rattle.ksv_schema.specs.Keys.{Key, key}

-- ---- keys

abbrev pub seen_key : KeyOfCode → Key
seen_key k = key k.0 k.1.now k.2

-- ---- texts

-- the expression, and the type, that was read
abbrev pub seen_expression : Result Expr ExprFault → Option expressions.Tree
seen_expression (Ok e) = Some (view e)
seen_expression (Err f) = None

abbrev pub seen_type : Result TypeRef ExprFault → Option expressions.TypeTree
seen_type (Ok t) = Some (view_type t)
seen_type (Err f) = None

-- ---- values

abbrev pub seen_type_text : type_texts.TypeText → TypeText
seen_type_text (type_text.Unspelled f) = Unspelled
seen_type_text (type_text.OfLanguage b es) = OfLanguage b (expressions.arguments_of (map view es.items))
seen_type_text (type_text.OfDescription t es) = OfDescription (expressions.path_of t) (expressions.arguments_of (map view es.items))

abbrev pub seen_type_at : Option type_texts.TypeText → Option TypeText
seen_type_at o = option_map seen_type_text o

-- whether a type is of a kind
abbrev pub kind_test : TypeKind → TypeText → Bool
kind_test kind.Integer = is_integer
kind_test kind.Bits = is_bits
kind_test kind.Str = is_str
kind_test kind.Strz = is_strz

-- a number from 0 to a bound
pub record IsUpTo (most : ℕ) (n : ℤ) : Type 0 where
  pub value : ℕ
  pub is : n ≡ pos value
  pub bound : value ≤ most

abbrev pub seen_piece : pieces.Piece → Piece
seen_piece (piece.Byte b) = Bytes (b ∷ [])
seen_piece (piece.Text text) = Bytes text.now
seen_piece piece.Bad = BadPiece
seen_piece piece.LeftOut = LeftOutPiece

-- what a constant, and an expression, means after `-`
abbrev pub negative_constant : expressions.Constant → CaseKey
negative_constant (expressions.integer n) = if nat_le n (2 ^ 63) then Negative n else NoKey
negative_constant (expressions.truth b) = NoKey
negative_constant (expressions.string text) = NoKey

abbrev pub negative_key : expressions.Tree → CaseKey
negative_key (expressions.literal c) = negative_constant c
negative_key _ = NoKey

abbrev pub seen_case_key : case_keys.CaseKey → CaseKey
seen_case_key (case_key.Constant l) = Constant (expressions.literal_of l.now)
seen_case_key (case_key.Negative n) = Negative n
seen_case_key (case_key.OfEnum m) = OfEnum (expressions.member_of m.now)
seen_case_key case_key.Default = Default
seen_case_key case_key.NoKey = NoKey

-- ---- paths of ids

abbrev pub seen_path : Option (Vec (String Global) Global) → Option (List (List ℕ))
seen_path o = option_map (λ v. map string_bytes v.items) o

-- whether `::` is first
abbrev pub begins_with_colons : List ℕ → Bool
begins_with_colons [] = false
begins_with_colons (c ∷ []) = false
begins_with_colons (c ∷ d ∷ cs) = c == 58 && d == 58

-- the first of the names of a text ends at this place, where the text ends or `::` is
pub record IsFirstName (text : List ℕ) (n : ℕ) : Type 0 where
  pub is : names_in [] text ≡ take n text ∷ (if n == length text then [] else names_in [] (drop (n + 2) text))
  pub bound : n ≤ length text
  pub behind : n ≢ length text → n + 2 ≤ length text
