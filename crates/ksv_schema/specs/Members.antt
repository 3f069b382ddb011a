-- What is read of a member: a parameter, an attribute, a parse instance or a value instance.
use Rattle.std.specs.Prelude.{ℕ, Bool, true, false, not, if◌then◌else◌, ◌&&◌, ◌||◌, ◌==◌, List, [], ◌++◌, length, codes, Option, Some, None, is_some, option_map}
use Rattle.std.specs.Option.{option_map_or}
use Rattle.ksv_yaml_tree.specs.Tree.{Tree, Pair, line_of, mapping_of, entry_at}
use Rattle.ksv_yaml_tree.specs.Keys.{entries_in, has, says, text_at}
use Rattle.ksv_expr_tree.specs.Tree as expressions
use Rattle.ksv_schema_names.specs.declared.members.Role.{Role}
use Rattle.ksv_schema_names.specs.declared.members.Role.TheVariants.{Parameter, Attribute, Instance}
use Rattle.ksv_schema_names.specs.Rows.{Declared}
use Rattle.ksv_schema_names.specs.Types.{encoding_of}
use Rattle.ksv_schema_names.specs.Members.{Member, member_named}
use Rattle.ksv_schema_names.specs.declared.position.Site.TheVariants as sites
use Rattle.ksv_desc.specs.Description as desc
use Rattle.ksv_desc.specs.Description.{Extent, Sized, SizeEos, ByItself, Terminator, Repeat, Once, Eos, Expr, Until, Valid, Field, MemberKind}
use Rattle.ksv_schema.specs.declared.keys.forms.MappingKind.{MappingKind}
use Rattle.ksv_schema.specs.declared.keys.forms.MappingKind.TheVariants as kinds
use Rattle.ksv_schema.specs.Keys.{kind_of, is_id}
use Rattle.ksv_schema.specs.KeyTexts.{TypeText, is_str, is_strz, own_type, is_a, byte_at, is_true, is_not_false, is_to_end}
use Rattle.ksv_schema.specs.Faults.{Fault, fault, fault_if, missing_key, keys_against, bad_value, left_out}
use Rattle.ksv_schema.specs.Reading.{Reading, gives, wrong, also, valueless, chosen, made, both, after, perhaps, must}
use Rattle.ksv_schema.specs.Rules.{keys_faults, missing, at_if, together}
use Rattle.ksv_schema.specs.Values.{Home, home_of, once, FieldKeys, expression, own_enum, is_declared, choice}
use Rattle.ksv_schema.specs.Valid.{own_valid}

-- ---- conditions

-- whether it is there, and what its value must meet
abbrev pub conditioned : Home → List Pair → Reading (Option expressions.Tree × Option Valid)
conditioned h es = both (perhaps (expression h sites.Condition) (entry_at (codes "if") es)) (own_valid h es)

-- ---- attributes and parse instances

-- how often it is read, with these expressions
unfoldable pub repeat_of : List Pair → Option expressions.Tree → Option expressions.Tree → Option Repeat
repeat_of es count until =
    if says (codes "repeat") (codes "eos") es then Some Eos
    else if says (codes "repeat") (codes "expr") es then option_map Expr count
    else if says (codes "repeat") (codes "until") es then option_map Until until
    else Some Once

unfoldable pub repeated : Home → List Pair → Reading Repeat
repeated h es =
    chosen (λ p. repeat_of es p.0 p.1)
    (both (perhaps (expression h sites.Count) (entry_at (codes "repeat-expr") es)) (perhaps (expression h sites.Until) (entry_at (codes "repeat-until") es)))

-- whether and how often it is read, and what it must meet
abbrev pub timed : Home → List Pair → Reading ((Option expressions.Tree × Option Valid) × Repeat)
timed h es = both (conditioned h es) (repeated h es)

-- where it ends
abbrev pub extent_of : List Pair → Option expressions.Tree → Extent
extent_of es (Some size) = Sized size
extent_of es None = if is_to_end es then SizeEos else ByItself

abbrev pub extent : Home → List Pair → Reading Extent
extent h es = made (extent_of es) (perhaps (expression h sites.Size) (entry_at (codes "size") es))

abbrev pub terminated_by : List Pair → ℕ → Terminator
terminated_by es byte = record {
  byte = byte;
  is_consumed = is_not_false (codes "consume") es;
  is_included = is_true (codes "include") es;
  is_required = is_not_false (codes "eos-error") es;
}

-- the byte that is written, or 0 for `strz`
unfoldable pub terminator_of : Option TypeText → List Pair → Option Terminator
terminator_of typed es = option_map (terminated_by es) (if is_a is_strz typed then Some 0 else byte_at (codes "terminator") es)

-- what these keys state
unfoldable pub parts : FieldKeys → Reading Field
parts k =
    made (λ p. record {
      condition = p.0.0.0.0;
      repeat = p.0.0.1;
      choice = p.0.1;
      extent = p.1;
      terminator = terminator_of (own_type k.entries) k.entries;
      valid = p.0.0.0.1;
    })
    (both (both (timed k.home k.entries) (choice k)) (extent k.home k.entries))

-- ---- what an attribute or a parse instance needs

-- the text of an encoding, the attribute's own or the one in force
abbrev pub has_encoding : Home → List Pair → Bool
has_encoding h es = is_some (text_at (codes "encoding") es) || is_some (encoding_of h.declared.types h.within)

abbrev pub is_bounded : List Pair → Bool
is_bounded es = has (codes "size") es || is_to_end es || has (codes "terminator") es

-- what an attribute is, where a text ends, and in which encoding
unfoldable pub needs : Home → ℕ → Option TypeText → List Pair → List Fault
needs h line typed es =
    fault_if (not (has (codes "type") es || is_bounded es || has (codes "contents") es)) line missing_key
    ++ fault_if (is_a is_str typed && not (is_bounded es)) line missing_key
    ++ fault_if ((is_a is_str typed || is_a is_strz typed) && not (has_encoding h es)) line missing_key

-- a terminator of a type of the description, or of `strz` another one than 0
unfoldable pub unsupported : Home → Option TypeText → List Pair → List Fault
unsupported h typed es =
    let is_other = option_map_or (λ b. not (b == 0)) (byte_at (codes "terminator") es) false in
    at_if (is_a (is_declared h) typed) (entry_at (codes "terminator") es) left_out
    ++ at_if (is_a is_strz typed && is_other) (entry_at (codes "terminator") es) left_out

unfoldable pub field : Home → MappingKind → ℕ → Option ℕ → Option TypeText → List Pair → Reading Field
field h kind line enum typed es =
    also (together kind line typed es ++ needs h line typed es ++ unsupported h typed es) (parts (record { home = h; entries = es; beside = es; enum = enum }))

-- ---- members, by their kinds

-- with the enum that was read, if it was
abbrev pub enum_in : Reading (Option ℕ) → Option ℕ
enum_in r = option_map_or (λ e. e) r.value None

abbrev pub own_field : Home → MappingKind → ℕ → List Pair → Reading Field
own_field h kind line es = after (own_enum h es) (field h kind line (enum_in (own_enum h es)) (own_type es) es)

unfoldable pub attribute : Home → ℕ → List Pair → Reading MemberKind
attribute h line es = made desc.Attribute (own_field h kinds.Attribute line es)

unfoldable pub parse_instance : Home → ℕ → List Pair → Reading MemberKind
parse_instance h line es =
    made (λ p. desc.ParseInstance p.0.0 p.0.1 p.1)
    (both (both (must line (expression h sites.Place) (entry_at (codes "pos") es)) (perhaps (expression h sites.Stream) (entry_at (codes "io") es)))
    (own_field h kinds.ParseInstance line es))

unfoldable pub value_instance : Home → ℕ → List Pair → Reading MemberKind
value_instance h line es =
    also (together kinds.Value line None es)
    (made (λ p. desc.ValueInstance (record { condition = p.0.0.0; value = p.0.1; enum = p.1; valid = p.0.0.1 }))
    (both (both (conditioned h es) (must line (expression h sites.Value) (entry_at (codes "value") es))) (own_enum h es)))

-- an instance without a place and a value is unsupported, whatever its keys are together
unfoldable pub placeless : Home → ℕ → List Pair → Reading MemberKind
placeless h name_line es =
    also (fault name_line left_out)
    (valueless (both (both (perhaps (expression h sites.Stream) (entry_at (codes "io") es)) (own_enum h es)) (parts (record { home = h; entries = es; beside = []; enum = enum_in (own_enum h es) }))))

-- a member whose name is on this line, with this first line and these keys
unfoldable pub by_kind : Home → MappingKind → ℕ → ℕ → List Pair → Reading MemberKind
by_kind h kinds.Parameter name_line line es = also (missing (codes "id") line es) (gives desc.Parameter)
by_kind h kinds.Attribute name_line line es = attribute h line es
by_kind h kinds.ParseInstance name_line line es = parse_instance h line es
by_kind h kinds.Value name_line line es = value_instance (once h) line es
by_kind h kinds.Placeless name_line line es = placeless h name_line es
by_kind h _ name_line line es = gives desc.Parameter

unfoldable pub member_keys : Declared → ℕ → Member → List Pair → Reading MemberKind
member_keys d n m es =
    let kind = kind_of m.role es in
    also (keys_faults kind es) (by_kind (home_of d n m.role es) kind m.line (line_of m.value) es)

-- ---- members, with their names

-- the name of an instance is a key
abbrev pub is_instance : Role → Bool
is_instance Parameter = false
is_instance Attribute = false
is_instance Instance = true

-- the line of an `id`, or this one
abbrev pub id_line : Tree → ℕ → ℕ
id_line t line = option_map_or (λ p. p.line) (entry_at (codes "id") (entries_in t)) line

-- the line of a member's name
unfoldable pub name_line : Member → ℕ
name_line m = if is_instance m.role then m.line else id_line m.value m.line

-- a name that an earlier member of the same type has; a parameter without an id has no name
unfoldable pub is_named_again : Declared → ℕ → ℕ → Member → Bool
is_named_again d n i m = not (length m.name == 0) && not (option_map_or (λ k. k == i) (member_named d.types n m.name) false)

-- the member of the number i in the type n
unfoldable pub member : Declared → ℕ → ℕ → Member → Reading MemberKind
member d n i m =
    also (fault_if (is_instance m.role && not (is_id m.name)) m.line bad_value ++ fault_if (is_named_again d n i m) (name_line m) keys_against)
    (option_map_or (member_keys d n m) (mapping_of m.value) (wrong m.line bad_value))
