-- What is read of a whole tree: the faults of its types and what is past a limit, its enums, and the members of its types;
-- and the description that it states, in which each name has its number.
use Rattle.std.specs.Prelude.{ℕ, ◌+◌, ℤ, Bool, true, false, not, if◌then◌else◌, ◌&&◌, ◌==◌, nat_lt, nat_le, min, List, [], ◌∷◌, ◌++◌, length, map, filter, take, flat_map, fold, codes, Option, Some, None, is_none, option_map, option_to_list, slice_get}
use Rattle.std.specs.List.{list_any, list_all}
use Rattle.std.specs.Option.{option_map_or}
use Rattle.std.specs.Str.{is_utf8}
use Rattle.ksv_yaml_tree.specs.Tree.{Tree, Pair, line_of, text_of, mapping_of, entry_at}
use Rattle.ksv_yaml_tree.specs.declared.numeral.Numeral.{Numeral}
use Rattle.ksv_yaml_tree.specs.declared.numeral.Numeral.TheVariants.{Whole, LeadingZero, NoNumeral}
use Rattle.ksv_yaml_tree.specs.Numerals.{signed_number}
use Rattle.ksv_expr_syntax.specs.Reading.{◌>>=◌}
use Rattle.ksv_expr_tree.specs.Tree as expressions
use Rattle.ksv_schema_names.specs.Rows.{Row, keys_of, Declared, declared_in}
use Rattle.ksv_schema_names.specs.Members.{Member, members_of}
use Rattle.ksv_schema_names.specs.Enums.{number_of, id_of, is_numbered, is_named}
use Rattle.ksv_schema_names.specs.Numbered.{numbered, all_numbered}
use Rattle.ksv_desc.specs.Names.{distinct, distinct_behind, number_in}
use Rattle.ksv_desc.specs.Description.{Content, Bytes, Fixed, Number, Bits, Characters, Object, Case, Choice, Always, Switch, Extent, Sized, SizeEos, ByItself, Repeat, Once, Eos, Expr, Until, Valid, AnyOf, AllOf, Field, MemberKind, Parameter, Attribute, ParseInstance, ValueInstance, MemberOfType, TypeOfObjects, Numbered, Enum, Description, as_text}
use Rattle.ksv_schema.specs.declared.keys.forms.MappingKind.TheVariants as kinds
use Rattle.ksv_schema.specs.Keys.{is_id}
use Rattle.ksv_schema.specs.Faults.{Fault, fault, fault_if, keys_against, bad_value, left_out, over_limit}
use Rattle.ksv_schema.specs.Reading.{Reading, gives, wrong, also, made, both, each, each_from, must, text, mapping}
use Rattle.ksv_schema.specs.Rules.{keys_faults, missing, at_if}
use Rattle.ksv_schema.specs.Members.{id_line, member}

-- ---- enums

abbrev pub whole : ℕ → Numeral → Reading ℤ
whole line (Whole n) = gives n
whole line LeadingZero = wrong line left_out
whole line NoNumeral = wrong line bad_value

-- a text that must be an id
abbrev pub id_text : ℕ → List ℕ → Reading (List ℕ)
id_text line name = if is_id name then gives name else wrong line bad_value

abbrev pub id : Pair → Reading (List ℕ)
id p = text id_text p

-- the value of an entry: an id, or a mapping with an id
unfoldable pub entry_id : Pair → Reading (List ℕ)
entry_id p =
    option_map_or (id_text p.line) (text_of p.value)
    (mapping (λ es. also (keys_faults kinds.Constant es) (must (line_of p.value) id (entry_at (codes "id") es))) p)

-- a number, and an id, that one of these entries has
unfoldable pub is_number_again : List Pair → Pair → Bool
is_number_again before p = option_map_or (λ n. list_any (is_numbered n) before) (number_of p) false

unfoldable pub is_id_again : List Pair → Pair → Bool
is_id_again before p = option_map_or (λ name. list_any (is_named name) before) (id_of p) false

-- an entry, after these entries of the same enum
unfoldable pub constant : List Pair → Pair → Reading Numbered
constant before p =
    also (fault_if (is_number_again before p) p.line keys_against ++ fault_if (is_id_again before p) (id_line p.value p.line) keys_against)
    (made (λ x. record { number = x.0; id = x.1 }) (both (whole p.line (signed_number p.key)) (entry_id p)))

-- an enum: its name, that it is a mapping, and its entries
abbrev pub enum : Row → Reading Enum
enum r =
    made (λ p. record { id = p.0; members = p.1 })
    (both (id_text r.line r.id)
    (also (fault_if (is_none (mapping_of r.value)) r.line bad_value) (each_from (λ i. constant (take i (keys_of r))) 0 (keys_of r))))

-- ---- types, whose members are read by themselves

abbrev pub is_root : ℕ → Bool
is_root n = n == 0

unfoldable pub meta_faults : ℕ → Pair → List Fault
meta_faults n p =
    option_map_or (λ es. if is_root n then keys_faults kinds.RootMeta es ++ missing (codes "id") (line_of p.value) es else keys_faults kinds.Meta es) (mapping_of p.value) []

-- the root has a `meta`, and no parameters
unfoldable pub type_keys_faults : ℕ → ℕ → List Pair → List Fault
type_keys_faults n line es =
    (if is_root n then keys_faults kinds.Root es ++ missing (codes "meta") line es ++ at_if true (entry_at (codes "params") es) left_out else keys_faults kinds.Type es)
    ++ option_map_or (meta_faults n) (entry_at (codes "meta") es) []

unfoldable pub type_faults : ℕ → Row → List Fault
type_faults n r =
    option_map_or (type_keys_faults n r.line) (mapping_of r.value) (fault r.line bad_value)
    ++ fault_if (not (is_root n) && not (is_id r.id)) r.line bad_value

abbrev pub all_types_faults : ℕ → List Row → List Fault
all_types_faults n [] = []
all_types_faults n (r ∷ rs) = type_faults n r ++ all_types_faults (n + 1) rs

-- ---- limits

-- the most types, members of a type, and entries of all enums
abbrev pub most_types : ℕ
most_types = 1024

abbrev pub most_members : ℕ
most_members = 256

abbrev pub most_entries : ℕ
most_entries = 65536

-- what is past a limit, on this line
abbrev pub past : Option ℕ → List Fault
past line = map (λ line. record { line = line; number = over_limit }) (option_to_list line)

-- the line of the first of these past a limit
abbrev pub line_at : {A : Type 0} → (A → ℕ) → ℕ → List A → Option ℕ
line_at line limit xs = option_map line (slice_get xs limit)

-- the lowest line up to which there are more of these lines than the limit
abbrev pub lower : Option ℕ → ℕ → Option ℕ
lower None line = Some line
lower (Some other) line = Some (min other line)

unfoldable pub line_past : ℕ → List ℕ → Option ℕ
line_past limit lines = fold lower None (filter (λ line. nat_lt limit (length (filter (λ other. nat_le other line) lines))) lines)

-- ---- a whole tree

-- the members of the type n, and of each type
unfoldable pub members : Declared → ℕ → List Member → Reading (List MemberKind)
members d n ms = also (past (line_at (λ m. m.line) most_members ms)) (each_from (member d n) 0 ms)

unfoldable pub all_members : Declared → Reading (List (List MemberKind))
all_members d = each_from (members d) 0 (map members_of d.types)

unfoldable pub all_enums : Declared → Reading (List Enum)
all_enums d = each enum d.enums

unfoldable pub faults_of : Declared → List Fault
faults_of d =
    past (line_at (λ r. r.line) most_types d.types)
    ++ past (line_past most_entries (map (λ p. p.line) (flat_map keys_of d.enums)))
    ++ all_types_faults 0 d.types
    ++ (all_members d).faults
    ++ (all_enums d).faults

-- the faults of a tree
unfoldable pub faults : Tree → List Fault
faults t = faults_of (declared_in t)

-- ---- numbers of names

-- where the names of an expression get their numbers: what is declared, the names, and the type that it is in
pub record Context : Type 0 where
  pub declared : Declared
  pub names : List (List ℕ)
  pub within : ℕ

abbrev pub in_tree : Context → expressions.Tree → expressions.Tree
in_tree c e = numbered c.declared c.names c.within e

abbrev pub in_content : Context → Content → Content
in_content c Bytes = Bytes
in_content c (Fixed bytes) = Fixed bytes
in_content c (Number signed bytes order enum) = Number signed bytes order enum
in_content c (Bits width enum) = Bits width enum
in_content c (Characters encoding) = Characters encoding
in_content c (Object t es) = Object t (all_numbered c.declared c.names c.within es)

abbrev pub in_case : Context → Case → Case
in_case c case = record { value = case.value; content = in_content c case.content }

abbrev pub in_choice : Context → Choice → Choice
in_choice c (Always content) = Always (in_content c content)
in_choice c (Switch on cases) = Switch (in_tree c on) (map (in_case c) cases)

abbrev pub in_extent : Context → Extent → Extent
in_extent c (Sized e) = Sized (in_tree c e)
in_extent c SizeEos = SizeEos
in_extent c ByItself = ByItself

abbrev pub in_repeat : Context → Repeat → Repeat
in_repeat c Once = Once
in_repeat c Eos = Eos
in_repeat c (Expr e) = Expr (in_tree c e)
in_repeat c (Until e) = Until (in_tree c e)

abbrev pub in_valid : Context → Valid → Valid
in_valid c (AnyOf conditions) = AnyOf (map (in_tree c) conditions)
in_valid c (AllOf conditions) = AllOf (map (in_tree c) conditions)

abbrev pub in_field : Context → Field → Field
in_field c f = record f { condition = option_map (in_tree c) f.condition; repeat = in_repeat c f.repeat; choice = in_choice c f.choice; extent = in_extent c f.extent; valid = option_map (in_valid c) f.valid }

abbrev pub in_kind : Context → MemberKind → MemberKind
in_kind c Parameter = Parameter
in_kind c (Attribute f) = Attribute (in_field c f)
in_kind c (ParseInstance place stream f) = ParseInstance (in_tree c place) (option_map (in_tree c) stream) (in_field c f)
in_kind c (ValueInstance v) = ValueInstance (record { condition = option_map (in_tree c) v.condition; value = in_tree c v.value; enum = v.enum; valid = option_map (in_valid c) v.valid })

-- ---- a description

-- the names: those of members, and then those after dots
abbrev pub names_in : List Member → List (List ℕ)
names_in ms = map (λ m. m.name) ms

unfoldable pub member_names : Declared → List (List ℕ)
member_names d = distinct (flat_map names_in (map members_of d.types))

unfoldable pub names_of : Declared → List (List ℕ)
names_of d = distinct_behind (member_names d) (all_members d).words

-- the results for all of a list with those of another beside them, if each has one
abbrev pub each_of : {A B C : Type 0} → (A → B → Option C) → List A → List B → Option (List C)
each_of f [] ys = Some []
each_of f (x ∷ xs) [] = None
each_of f (x ∷ xs) (y ∷ ys) = do
  z ← f x y
  zs ← each_of f xs ys
  Some (z ∷ zs)

-- a member with its name's number
unfoldable pub member_of : Context → Member → MemberKind → Option MemberOfType
member_of c m kind = do
  text ← as_text m.name
  name ← number_in c.names text
  Some (record { name = name; kind = in_kind c kind })

unfoldable pub type_of : Declared → List (List ℕ) → ℕ → Row → List MemberKind → Option TypeOfObjects
type_of d names n r kinds = do
  text ← as_text r.id
  ms ← each_of (member_of (record { declared = d; names = names; within = n })) (members_of r) kinds
  Some (record { id = text; members = ms })

-- the types, the first of which has the number n
abbrev pub types_of : Declared → List (List ℕ) → ℕ → List Row → List (List MemberKind) → Option (List TypeOfObjects)
types_of d names n [] kinds = Some []
types_of d names n (r ∷ rs) [] = None
types_of d names n (r ∷ rs) (ks ∷ kinds) = do
  t ← type_of d names n r ks
  ts ← types_of d names (n + 1) rs kinds
  Some (t ∷ ts)

unfoldable pub are_texts : List Member → Bool
are_texts members = list_all (λ m. is_utf8 m.name) members

-- what is stated with these names, the first of which are those of members
unfoldable pub described : Declared → List (List ℕ) → ℕ → Option Description
described d names known = do
  kinds ← (all_members d).value
  types ← types_of d names 0 d.types kinds
  enums ← (all_enums d).value
  Some (record { types = types; enums = enums; names = names; known = known })

unfoldable pub stated_by : Declared → Option Description
stated_by d = if list_all are_texts (map members_of d.types) then described d (names_of d) (length (member_names d)) else None

unfoldable pub stated : Tree → Option Description
stated t = stated_by (declared_in t)
