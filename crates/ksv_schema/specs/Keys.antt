-- Which keys each mapping of a description may have, and what is at each of them.
use Rattle.std.specs.Prelude.{ℕ, Bool, true, false, if◌then◌else◌, nat_le, ◌&&◌, ◌||◌, ◌==◌, List, [], ◌∷◌, codes, Option, option_map}
use Rattle.std.specs.List.{find, list_all}
use Rattle.std.specs.Str.{bytes_eq}
use Rattle.ksv_yaml_tree.specs.Tree.{Pair}
use Rattle.ksv_yaml_tree.specs.Keys.{has}
use Rattle.ksv_schema_names.specs.declared.members.Role.{Role}
use Rattle.ksv_schema_names.specs.declared.members.Role.TheVariants.{Parameter, Attribute, Instance}
use Rattle.ksv_schema.specs.declared.keys.forms.MappingKind.{MappingKind}
use Rattle.ksv_schema.specs.declared.keys.forms.MappingKind.TheVariants as kinds
use Rattle.ksv_schema.specs.declared.keys.forms.Group.{Group}
use Rattle.ksv_schema.specs.declared.keys.forms.Group.TheVariants as groups
use Rattle.ksv_schema.specs.declared.keys.forms.Form.{Form}
use Rattle.ksv_schema.specs.declared.keys.forms.Form.TheVariants.{Ignored, NotHere, Mapping, Listing, Id, Flag, Repeat, Endian, BitEndian, Coding, ParameterType, AnyText, Byte, Stated}

-- ---- mappings

-- the mappings that have something in common
abbrev pub is_in : Group → MappingKind → Bool
is_in groups.Types kinds.Root = true
is_in groups.Types kinds.Type = true
is_in groups.Metas kinds.RootMeta = true
is_in groups.Metas kinds.Meta = true
is_in groups.Named kinds.RootMeta = true
is_in groups.Named kinds.Meta = true
is_in groups.Named kinds.Parameter = true
is_in groups.Named kinds.Attribute = true
is_in groups.Named kinds.Constant = true
is_in groups.Parameters kinds.Parameter = true
is_in groups.Places kinds.ParseInstance = true
is_in groups.Places kinds.Placeless = true
is_in groups.Fields kinds.Attribute = true
is_in groups.Fields kinds.ParseInstance = true
is_in groups.Fields kinds.Placeless = true
is_in groups.Read kinds.Attribute = true
is_in groups.Read kinds.ParseInstance = true
is_in groups.Values kinds.Value = true
is_in groups.Switches kinds.Switch = true
is_in groups.Checks kinds.Check = true
is_in _ _ = false

-- what the mapping of a member is: an instance has a value or a place, or neither
abbrev pub kind_of : Role → List Pair → MappingKind
kind_of Parameter es = kinds.Parameter
kind_of Attribute es = kinds.Attribute
kind_of Instance es = if has (codes "value") es then kinds.Value else if has (codes "pos") es then kinds.ParseInstance else kinds.Placeless

-- ---- the keys

-- a key: which mappings have it, its name, and what is at it
pub record Key : Type 0 where
  pub group : Group
  pub name : List ℕ
  pub form : Form

abbrev pub key : Group → List ℕ → Form → Key
key group name form = record { group = group; name = name; form = form }

-- the keys of a value that are ignored are what `value` excludes
abbrev pub keys : List Key
keys =
    key groups.Types (codes "meta") Mapping ∷
    key groups.Types (codes "params") Listing ∷
    key groups.Types (codes "seq") Listing ∷
    key groups.Types (codes "types") Mapping ∷
    key groups.Types (codes "instances") Mapping ∷
    key groups.Types (codes "enums") Mapping ∷
    key groups.Named (codes "id") Id ∷
    key groups.Metas (codes "endian") Endian ∷
    key groups.Metas (codes "encoding") Coding ∷
    key groups.Metas (codes "bit-endian") BitEndian ∷
    key groups.Metas (codes "title") Ignored ∷
    key groups.Metas (codes "application") Ignored ∷
    key groups.Metas (codes "file-extension") Ignored ∷
    key groups.Metas (codes "license") Ignored ∷
    key groups.Metas (codes "xref") Ignored ∷
    key groups.Metas (codes "ks-version") Ignored ∷
    key groups.Metas (codes "tags") Ignored ∷
    key groups.Metas (codes "imports") NotHere ∷
    key groups.Metas (codes "ks-opaque-types") NotHere ∷
    key groups.Parameters (codes "type") ParameterType ∷
    key groups.Parameters (codes "enum") AnyText ∷
    key groups.Places (codes "pos") Stated ∷
    key groups.Places (codes "io") Stated ∷
    key groups.Fields (codes "type") Stated ∷
    key groups.Fields (codes "size") Stated ∷
    key groups.Fields (codes "size-eos") Flag ∷
    key groups.Fields (codes "contents") Stated ∷
    key groups.Fields (codes "encoding") Coding ∷
    key groups.Fields (codes "terminator") Byte ∷
    key groups.Fields (codes "consume") Flag ∷
    key groups.Fields (codes "include") Flag ∷
    key groups.Fields (codes "eos-error") Flag ∷
    key groups.Fields (codes "repeat") Repeat ∷
    key groups.Fields (codes "repeat-expr") Stated ∷
    key groups.Fields (codes "repeat-until") Stated ∷
    key groups.Fields (codes "if") Stated ∷
    key groups.Fields (codes "enum") Stated ∷
    key groups.Fields (codes "process") NotHere ∷
    key groups.Fields (codes "pad-right") NotHere ∷
    key groups.Fields (codes "valid") Stated ∷
    key groups.Values (codes "value") Stated ∷
    key groups.Values (codes "if") Stated ∷
    key groups.Values (codes "enum") Stated ∷
    key groups.Values (codes "process") NotHere ∷
    key groups.Values (codes "pad-right") NotHere ∷
    key groups.Values (codes "valid") Stated ∷
    key groups.Values (codes "pos") Ignored ∷
    key groups.Values (codes "io") Ignored ∷
    key groups.Values (codes "type") Ignored ∷
    key groups.Values (codes "size") Ignored ∷
    key groups.Values (codes "repeat") Ignored ∷
    key groups.Switches (codes "switch-on") Stated ∷
    key groups.Switches (codes "cases") Stated ∷
    key groups.Checks (codes "eq") Stated ∷
    key groups.Checks (codes "any-of") Stated ∷
    key groups.Checks (codes "expr") Stated ∷
    key groups.Checks (codes "min") Stated ∷
    key groups.Checks (codes "max") Stated ∷
    key groups.Checks (codes "in-enum") NotHere ∷ []

unfoldable pub form_among : List Key → MappingKind → List ℕ → Option Form
form_among keys kind name = option_map (λ k. k.form) (find (λ k. is_in k.group kind && bytes_eq name k.name) keys)

-- the form of a key, if such a mapping may have it
unfoldable pub form_in : MappingKind → List ℕ → Option Form
form_in kind name = form_among keys kind name

-- keys without a meaning in any of these mappings: `doc`, `doc-ref`, and those that begin with `-`
unfoldable pub is_ignored : List ℕ → Bool
is_ignored [] = false
is_ignored (c ∷ cs) = c == 45 || bytes_eq (c ∷ cs) (codes "doc") || bytes_eq (c ∷ cs) (codes "doc-ref")

-- ---- ids

abbrev pub is_letter : ℕ → Bool
is_letter c = nat_le 97 c && nat_le c 122

abbrev pub is_id_byte : ℕ → Bool
is_id_byte c = is_letter c || nat_le 48 c && nat_le c 57 || c == 95

-- `[a-z][a-z0-9_]*`
unfoldable pub is_id : List ℕ → Bool
is_id [] = false
is_id (c ∷ cs) = is_letter c && list_all is_id_byte cs
