-- The plain data of the code's values, and what it means that code reads something.
--
-- A function that reads has one clause, `Reads reading view old new result`: where memory suffices, it gives the value
-- of the reading, notes its faults in the reader, and adds its words to the reader's names. A function that only
-- notes faults has the least fault alone: `seen_fault least.new ≡ noted (seen_fault least.old) faults`; it is called
-- with `&mut reader.least`.
use Rattle.std.specs.declared.alloc.Global.{Global}
use Rattle.std.specs.Prelude.{◌≡◌, ◌++◌, ℕ, Bool, not, ◌&&◌, if◌then◌else◌, List, [], ◌∷◌, map, Vec, Option, Some, None, option_map, option_and_then, Result, Ok, Err, codes}
use Rattle.ksv_expr_syntax.specs.Faults as expressions
use Rattle.ksv_schema_names.specs.Table.{declared}
use Rattle.ksv_yaml_tree.specs.View.{pair}
use Rattle.ksv_schema.specs.KeyTexts.{looks_like_number}
use Rattle.ksv_desc.specs.Names.{distinct_behind}
use Rattle.ksv_schema.specs.declared.values.fault.DescFault.{DescFault}
use Rattle.ksv_schema.specs.declared.values.fault.DescFaultKind.{DescFaultKind}
use Rattle.ksv_schema.specs.declared.values.fault.DescFaultKind.TheVariants as kinds
use Rattle.ksv_schema.specs.declared.values.reader.FieldKeys.{FieldKeys as FieldKeysOfCode}
use Rattle.ksv_schema.specs.declared.values.reader.Home.{Home as HomeOfCode}
use Rattle.ksv_schema.specs.declared.values.reader.Reader.{Reader}
use Rattle.ksv_schema.specs.declared.values.rule.Claim as claims
use Rattle.ksv_schema.specs.declared.values.rule.Claim.TheVariants as claim
use Rattle.ksv_schema.specs.declared.values.rule.Rule as rules
use Rattle.ksv_schema.specs.declared.values.rule.Rule.TheVariants as rule
use Rattle.ksv_schema.specs.declared.values.rule.Ruled.{Ruled as RuledOfCode}
use Rattle.ksv_schema.specs.Faults.{Fault, noted, unknown_key, missing_key, keys_against, unknown_name, no_byte_order, bad_value, wrong_count, left_out, over_limit, no_expression}
use Rattle.ksv_schema.specs.Reading.{Reading, gives, wrong}
use Rattle.ksv_schema.specs.Rules.{Claim, Has, Says, IsInteger, Rule, Excludes, Needs, Attends, Ruled, ruled}
use Rattle.ksv_schema.specs.Values.{Home, FieldKeys}

-- ---- faults

-- the number of a code
abbrev pub number_of : DescFaultKind → ℕ
number_of kinds.UnknownKey = unknown_key
number_of kinds.MissingKey = missing_key
number_of kinds.KeysAgainst = keys_against
number_of kinds.UnknownName = unknown_name
number_of kinds.NoByteOrder = no_byte_order
number_of kinds.BadValue = bad_value
number_of kinds.WrongCount = wrong_count
number_of kinds.LeftOut = left_out
number_of kinds.OverLimit = over_limit
number_of (kinds.NoExpression f) = no_expression
number_of kinds.NoMemory = 11

-- the code by which a message names a fault
abbrev pub code_of : DescFaultKind → List ℕ
code_of kinds.UnknownKey = codes "S1"
code_of kinds.MissingKey = codes "S2"
code_of kinds.KeysAgainst = codes "S3"
code_of kinds.UnknownName = codes "S4"
code_of kinds.NoByteOrder = codes "S5"
code_of kinds.BadValue = codes "S6"
code_of kinds.WrongCount = codes "S7"
code_of kinds.LeftOut = codes "S8"
code_of kinds.OverLimit = codes "S9"
code_of (kinds.NoExpression f) = codes "S10"
code_of kinds.NoMemory = codes "S11"

-- what a fault says in words
abbrev pub text_of : DescFaultKind → List ℕ
text_of kinds.UnknownKey = codes "unknown key"
text_of kinds.MissingKey = codes "missing key"
text_of kinds.KeysAgainst = codes "keys against each other"
text_of kinds.UnknownName = codes "unknown name"
text_of kinds.NoByteOrder = codes "no byte order"
text_of kinds.BadValue = codes "bad name or value"
text_of kinds.WrongCount = codes "wrong count of arguments"
text_of kinds.LeftOut = codes "left-out feature"
text_of kinds.OverLimit = codes "over a limit"
text_of (kinds.NoExpression f) = expressions.text_of f.kind
text_of kinds.NoMemory = codes "no memory"

-- a fault as a line and the number of a code, without what is wrong with an expression's text
abbrev pub plain : DescFault → Fault
plain f = record { line = f.line; number = number_of f.kind }

abbrev pub seen_fault : Option DescFault → Option Fault
seen_fault o = option_map plain o

-- ---- where a mapping is

abbrev pub seen_home : HomeOfCode → Home
seen_home h = record { declared = declared h.scopes.now; within = h.within; in_sequence = h.in_sequence; is_repeated = h.is_repeated }

abbrev pub seen_keys : FieldKeysOfCode → FieldKeys
seen_keys k = record { home = seen_home k.home.now; entries = map pair k.entries.now; beside = map pair k.beside.now; enum = k.enumeration }

-- ---- what is read

-- a reading was read with this value: its faults are noted, and its words are among the names
pub record IsRead {A : Type 0} (r : Reading A) (got : Option A) (old new : Reader) : Type 0 where
  pub value : got ≡ r.value
  pub faults : seen_fault new.least ≡ noted (seen_fault old.least) r.faults
  pub words : new.names ≡ distinct_behind old.names r.words

-- the same of a result with its value seen by view; without memory nothing is said
abbrev pub Reads : {X A E : Type 0} → Reading A → (X → A) → Reader → Reader → Result (Option X) E → Type 0
Reads r view old new (Ok o) = IsRead r (option_map view o) old new
Reads r view old new (Err e) = Unit {0}

-- two parts, if both are there
abbrev pub paired : {A B : Type 0} → Option A → Option B → Option (A × B)
paired one other = option_and_then (λ x. option_map (λ y. (x, y)) other) one

abbrev pub both_of : {A B E : Type 0} → Option A → Result (Option B) E → Result (Option (A × B)) E
both_of one (Ok other) = Ok (paired one other)
both_of one (Err e) = Err e

-- a part, if the one before it is there too
abbrev pub after : {A B E : Type 0} → Option A → Result (Option B) E → Result (Option B) E
after one (Ok part) = Ok (option_and_then (λ x. part) one)
after one (Err e) = Err e

-- a part at a key that may be absent, where it isn't
abbrev pub present : {A E : Type 0} → Result (Option A) E → Result (Option (Option A)) E
present (Ok part) = Ok (option_map Some part)
present (Err e) = Err e

-- a part, if what it needs was done
abbrev pub kept_if : {A B E : Type 0} → A → Result B E → Result (Option A) E
kept_if x (Ok done) = Ok (Some x)
kept_if x (Err e) = Err e

-- what was made, if all of it was
abbrev pub kept_where : {A : Type 0} → Bool → A → Option A
kept_where all made = if all then Some made else None

abbrev pub whole_if : {A E : Type 0} → A → Result Bool E → Result (Option A) E
whole_if made (Ok all) = Ok (kept_where all made)
whole_if made (Err e) = Err e

-- what was made so far, and then the others
abbrev pub onto : {A : Type 0} → List A → Option (List A) → Option (List A)
onto so_far None = None
onto so_far (Some xs) = Some (so_far ++ xs)

-- the items of a list, and one more after them, if it was read
abbrev pub items_of : {A : Type 0} → Option (Vec A Global) → Option (List A)
items_of o = option_map (λ v. v.items) o

abbrev pub pushed : {A : Type 0} → Option (List A) → Option A → Option (List A)
pushed made next = option_and_then (λ xs. option_map (λ x. xs ++ x ∷ []) next) made

abbrev pub Pushes : {A E : Type 0} → Option (List A) → Result (Option A) E → Option (List A) → Type 0
Pushes made (Ok next) all = all ≡ pushed made next
Pushes made (Err e) all = ⊥

abbrev pub joined : {A : Type 0} → Option (List A) → Option (List A) → Option (List A)
joined made next = option_and_then (λ xs. option_map (λ ys. xs ++ ys) next) made

-- the bytes of a text; a plain number alone is unsupported
abbrev pub text_bytes : ℕ → Bool → List ℕ → Reading (List ℕ)
text_bytes line is_quoted text = if not is_quoted && looks_like_number text then wrong line left_out else gives text

-- ---- keys together

abbrev pub seen_claim : claims.Claim → Claim
seen_claim (claim.Has name) = Has name.now
seen_claim (claim.Says name text) = Says name.now text.now
seen_claim claim.IsInteger = IsInteger

abbrev pub seen_rule : rules.Rule → Rule
seen_rule (rule.Excludes one other) = Excludes (seen_claim one) (seen_claim other)
seen_rule (rule.Needs one other) = Needs (seen_claim one) (seen_claim other)
seen_rule (rule.Attends one other) = Attends (seen_claim one) (seen_claim other)

abbrev pub seen_ruled : RuledOfCode → Ruled
seen_ruled r = ruled r.0 (seen_rule r.1)
