-- What is read at a key, by the form of its value: an expression, the path of an enum, contents, a type with its
-- arguments, or a switch over types.
use Rattle.std.specs.Prelude.{ℕ, Bool, true, false, not, if◌then◌else◌, ◌&&◌, ◌||◌, ◌==◌, List, [], ◌∷◌, ◌++◌, length, codes, Option, Some, None, is_some, option_map, option_to_list}
use Rattle.std.specs.Option.{option_map_or}
use Rattle.ksv_yaml_tree.specs.Tree.{Tree, Pair, line_of, text_of, is_quoted, mapping_of, list_of, entry_at}
use Rattle.ksv_yaml_tree.specs.Keys.{text_at}
use Rattle.ksv_expr_syntax.specs.Reading.{◌>>=◌}
use Rattle.ksv_expr_tree.specs.Tree.{Arguments}
use Rattle.ksv_expr_tree.specs.Tree as expressions
use Rattle.ksv_schema_names.specs.declared.members.Role.{Role}
use Rattle.ksv_schema_names.specs.declared.members.Role.TheVariants.{Parameter, Attribute, Instance}
use Rattle.ksv_schema_names.specs.Rows.{Declared}
use Rattle.ksv_schema_names.specs.Types.{type_named, enum_from, order_of, encoding_of}
use Rattle.ksv_schema_names.specs.Members.{parameters_within}
use Rattle.ksv_schema_names.specs.declared.position.Site.{Site}
use Rattle.ksv_schema_names.specs.declared.position.Site.TheVariants as sites
use Rattle.ksv_schema_names.specs.declared.position.Position.{Position}
use Rattle.ksv_schema_names.specs.declared.position.NameFault.{NameFault}
use Rattle.ksv_schema_names.specs.declared.position.NameFault.TheVariants.{Unknown, LeftOut}
use Rattle.ksv_schema_names.specs.declared.built_ins.BuiltIn.{BuiltIn}
use Rattle.ksv_schema_names.specs.declared.built_ins.BuiltIn.TheVariants.{Integer, Bits as BitsType, Str, Strz, NotHere}
use Rattle.ksv_schema_names.specs.Names.{name_faults, list_faults, least}
use Rattle.ksv_schema_names.specs.Numbered.{given_member}
use Rattle.ksv_desc.specs.declared.order.ByteOrder.{ByteOrder}
use Rattle.ksv_desc.specs.declared.order.ByteOrder.TheVariants as orders
use Rattle.ksv_desc.specs.Names.{dotted, all_dotted}
use Rattle.ksv_desc.specs.Resolved.{count}
use Rattle.ksv_desc.specs.Description.{Content, Fixed, Bytes, Number, Bits, Characters, Object, CaseValue, Literal, Negated, EnumValue, Case, Choice, Always, Switch}
use Rattle.ksv_expr_value.specs.declared.encoding.Encoding.{Encoding}
use Rattle.ksv_schema.specs.declared.keys.forms.MappingKind.TheVariants as kinds
use Rattle.ksv_schema.specs.Expressions.{expression_of}
use Rattle.ksv_schema.specs.KeyTexts.{encoding_named, TypeText, Unspelled, OfLanguage, OfDescription, type_text, is_integer, is_bits, is_str, is_strz, looks_like_number, Piece, Bytes as BytesPiece, BadPiece, LeftOutPiece, piece_of, CaseKey, Constant, Negative, OfEnum, Default, NoKey, case_key, ids_of, is_repeated}
use Rattle.ksv_schema.specs.Faults.{Fault, fault_if, unknown_name, no_byte_order, bad_value, wrong_count, left_out, no_expression}
use Rattle.ksv_schema.specs.Reading.{Reading, gives, wrong, found, also, made, both, each, perhaps, must, text, mapping}
use Rattle.ksv_schema.specs.Rules.{keys_faults, Says, claimed, against, line_of_key, at_if}

-- where a mapping is: in which type, whether in its `seq`, and whether it is of something repeated
pub record Home : Type 0 where
  pub declared : Declared
  pub within : ℕ
  pub in_sequence : Bool
  pub is_repeated : Bool

abbrev pub is_attribute : Role → Bool
is_attribute Parameter = false
is_attribute Attribute = true
is_attribute Instance = false

abbrev pub home_of : Declared → ℕ → Role → List Pair → Home
home_of d n role es = record { declared = d; within = n; in_sequence = is_attribute role; is_repeated = is_repeated es }

-- the same of what isn't repeated, whatever its keys are
abbrev pub once : Home → Home
once h = record { declared = h.declared; within = h.within; in_sequence = h.in_sequence; is_repeated = false }

-- ---- expressions

abbrev pub position_at : Home → Site → Position
position_at h site = record { site = site; in_sequence = h.in_sequence; is_repeated = h.is_repeated }

abbrev pub name_fault : ℕ → NameFault → Fault
name_fault line Unknown = record { line = line; number = unknown_name }
name_fault line LeftOut = record { line = line; number = left_out }

-- the least of the faults of names, all of which are on one line
abbrev pub least_name : ℕ → List NameFault → List Fault
least_name line ks = option_to_list (option_map (name_fault line) (least None ks))

-- an expression at this place, and the arguments of a type
unfoldable pub of_expression : Home → Site → ℕ → Option expressions.Tree → Reading expressions.Tree
of_expression h at line None = wrong line no_expression
of_expression h at line (Some e) = record { faults = least_name line (name_faults h.declared h.within (position_at h at) e); words = dotted e; value = Some e }

unfoldable pub expression : Home → Site → Pair → Reading expressions.Tree
expression h site p = text (λ line text. of_expression h site line (expression_of text)) p

unfoldable pub arguments : Home → ℕ → Arguments → Reading Arguments
arguments h line es = record { faults = least_name line (list_faults h.declared h.within (position_at h sites.Argument) es); words = all_dotted es; value = Some es }

-- ---- enums

abbrev pub of_path : Home → ℕ → Option (List (List ℕ)) → Reading ℕ
of_path h line None = wrong line bad_value
of_path h line (Some path) = found line unknown_name (enum_from h.declared.types h.declared.enums h.within [] path)

-- the enum that the path at a key means
unfoldable pub enumeration : Home → Pair → Reading ℕ
enumeration h p = text (λ line text. of_path h line (ids_of text)) p

-- the enum at the key `enum`
abbrev pub own_enum : Home → List Pair → Reading (Option ℕ)
own_enum h es = perhaps (enumeration h) (entry_at (codes "enum") es)

-- ---- contents

abbrev pub of_piece : ℕ → Piece → Reading (List ℕ)
of_piece line (BytesPiece bs) = gives bs
of_piece line BadPiece = wrong line bad_value
of_piece line LeftOutPiece = wrong line left_out

-- an item of a list: a plain number from 0 to 255, or a text
unfoldable pub item : Tree → Reading (List ℕ)
item t = of_piece (line_of t) (piece_of t)

abbrev pub items : List Tree → Reading (List ℕ)
items [] = gives []
items (t ∷ ts) = made (λ p. p.0 ++ p.1) (both (item t) (items ts))

-- a text, of which a plain number alone is unsupported, or a list
unfoldable pub contents : Pair → Reading (List ℕ)
contents p =
    option_map_or (λ text. if not (is_quoted p.value) && looks_like_number text then wrong p.line left_out else gives text) (text_of p.value)
    (option_map_or items (list_of p.value) (wrong p.line bad_value))

-- ---- types

-- the keys of what is read, and what their values depend on: where their mapping is, the number of the enum at `enum`, and
-- the keys that the type of a case must fit to
pub record FieldKeys : Type 0 where
  pub home : Home
  pub entries : List Pair
  pub beside : List Pair
  pub enum : Option ℕ

-- the order of an integer, its own or the one in force; one byte has any
unfoldable pub order_at : Home → ℕ → Option ByteOrder → Option ByteOrder
order_at h bytes (Some order) = Some order
order_at h bytes None = if bytes == 1 then Some orders.Little else order_of h.declared.types h.within

-- the encoding of an attribute of these keys, its own or the one in force
unfoldable pub encoding_at : Home → List Pair → Option Encoding
encoding_at h es = option_map_or Some (text_at (codes "encoding") es) (encoding_of h.declared.types h.within) >>= encoding_named

-- a type of the language; that a text has an encoding is a need of the attribute, and bits have no byte order: the highest
-- bit of a byte is the first, the other end is unsupported
abbrev pub of_language : FieldKeys → ℕ → BuiltIn → Reading Content
of_language k line (Integer signed bytes order) = made (λ order. Number signed bytes order k.enum) (found line no_byte_order (order_at k.home bytes order))
of_language k line (BitsType width is_little) = if is_little then wrong line left_out else gives (Bits width k.enum)
of_language k line Str = record { faults = []; words = []; value = option_map Characters (encoding_at k.home k.entries) }
of_language k line Strz = record { faults = []; words = []; value = option_map Characters (encoding_at k.home k.entries) }
of_language k line NotHere = wrong line left_out

-- whether a type has other parameters than this many arguments; an unknown type has a fault of its own
abbrev pub counts_differ : Home → ℕ → Option ℕ → Bool
counts_differ h given None = false
counts_differ h given (Some t) = not (length (parameters_within h.declared.types t) == given)

-- the text of a type, among these keys: a type of the language has no arguments, one of the description has as many as it
-- has parameters
unfoldable pub of_type : FieldKeys → ℕ → TypeText → Reading Content
of_type k line Unspelled = wrong line no_expression
of_type k line (OfLanguage b given) = also (fault_if (not (count given == 0)) line wrong_count) (made (λ p. p.1) (both (arguments k.home line given) (of_language k line b)))
of_type k line (OfDescription t given) =
    let n = type_named k.home.declared.types k.home.within t.path in
    also (fault_if (counts_differ k.home (count given) n) line wrong_count) (made (λ p. Object p.0 p.1) (both (found line unknown_name n) (arguments k.home line given)))

-- ---- switches

-- a key of `cases`
unfoldable pub of_case_key : Home → ℕ → CaseKey → Reading (Option CaseValue)
of_case_key h line (Constant c) = gives (Some (Literal c))
of_case_key h line (Negative n) = gives (Some (Negated n))
of_case_key h line (OfEnum m) = made (λ g. Some (EnumValue g)) (found line unknown_name (given_member h.declared h.within m))
of_case_key h line Default = gives None
of_case_key h line NoKey = wrong line bad_value

unfoldable pub case_value : Home → ℕ → Option expressions.Tree → Reading (Option CaseValue)
case_value h line None = wrong line no_expression
case_value h line (Some e) = of_case_key h line (case_key e)

-- a type that the description declares
abbrev pub is_declared : Home → TypeText → Bool
is_declared h Unspelled = false
is_declared h (OfLanguage b es) = false
is_declared h (OfDescription t es) = is_some (type_named h.declared.types h.within t.path)

-- what doesn't fit to a type of a case on this line, in an attribute of these keys: `str`, `strz` and bits; a key that
-- bounds an integer; a terminator of a type of the description
unfoldable pub case_against : Home → List Pair → ℕ → TypeText → List Fault
case_against h es line t =
    let case = if is_integer t then Some line else None in
    fault_if (is_str t || is_strz t) line left_out
    ++ fault_if (is_bits t) line left_out
    ++ against case (line_of_key (entry_at (codes "size") es))
    ++ against case (line_of_key (claimed None es (Says (codes "size-eos") (codes "true"))))
    ++ against case (line_of_key (entry_at (codes "terminator") es))
    ++ at_if (is_declared h t) (entry_at (codes "terminator") es) left_out

-- a case, whose type must fit to the keys beside it
unfoldable pub case : FieldKeys → Pair → Reading Case
case k p =
    made (λ p. record { value = p.0; content = p.1 })
    (both (case_value k.home p.line (expression_of p.key))
    (text (λ line text. let t = type_text text in also (case_against k.home k.beside line t) (of_type k line t)) p))

-- the mapping at `type`
unfoldable pub switch : FieldKeys → ℕ → List Pair → Reading Choice
switch k line es =
    also (keys_faults kinds.Switch es)
    (made (λ p. Switch p.0 p.1)
    (both (must line (expression k.home sites.Switch) (entry_at (codes "switch-on") es))
    (must line (mapping (each (case k))) (entry_at (codes "cases") es))))

-- what is at `type`: a text, or a switch
unfoldable pub typed : FieldKeys → Pair → Reading Choice
typed k p =
    option_map_or (switch k (line_of p.value)) (mapping_of p.value)
    (made Always (text (λ line text. of_type k line (type_text text)) p))

abbrev pub content_or_type : Option (List ℕ) × Option Choice → Choice
content_or_type (Some bytes, choice) = Always (Fixed bytes)
content_or_type (None, Some choice) = choice
content_or_type (None, None) = Always Bytes

-- what these keys read: without contents and a type it is bytes
unfoldable pub choice : FieldKeys → Reading Choice
choice k = made content_or_type (both (perhaps contents (entry_at (codes "contents") k.entries)) (perhaps (typed k) (entry_at (codes "type") k.entries)))
