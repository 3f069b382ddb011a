-- Without faults the names of members and the ids of types are texts.
use Rattle.ksv_schema.proofs.Common.{◌≡◌, ℕ, ◌+◌, Bool, true, false, cond, List, [], ◌∷◌, ◌++◌, length, subst, refl, Option, Some, None, arith, codes, not}
use Rattle.ksv_schema.proofs.Common.{◌==◌, ◌&&◌, slice_get, bytes_eq, is_utf8, not-false, nat_tests, Tree, Pair, mapping_of, list_of, text_at, entries_at, Row}
use Rattle.ksv_schema.proofs.Common.{keys_of, Member, members_of, MappingKind, form_among, form_in, is_ignored, is_id, bad_value, form_faults, keys_faults}
use Rattle.ksv_schema.proofs.Common.{type_faults, all_types_faults, Each}
use Rattle.std.proofs.Common.{rules as known_rules}
use Rattle.std.specs.Prelude.{map, flat_map, unwrap_or, decimal}
use Rattle.std.proofs.lemmas.Str.{is_utf8-from_IsUtf8, IsUtf8-from_ascii, IsUtf8-append}
use Rattle.std.proofs.lemmas.Str.Ascii.{IsAscii-nil, IsAscii-from_all}
use Rattle.std.proofs.DigitsParse.{digits-IsUtf8}
use Rattle.ksv_yaml_tree.specs.Tree.{Map, Entries, no_entries, entry}
use Rattle.ksv_yaml_tree.specs.Keys.{entries_in}
use Rattle.ksv_schema_names.specs.declared.members.Role.{Role}
use Rattle.ksv_schema_names.specs.declared.members.Role.TheVariants.{Parameter, Attribute, Instance}
use Rattle.ksv_schema_names.specs.Rows.{with_types, with_key, with_named, with_each, root_row, types_of}
use Rattle.ksv_schema_names.specs.Members.{unnamed, items_from, instance, members_at_key}
use Rattle.ksv_schema.specs.declared.keys.forms.Form.TheVariants as forms
use Rattle.ksv_schema.specs.declared.keys.forms.MappingKind.TheVariants as kinds
use Rattle.ksv_schema.specs.Keys.{kind_of}
use Rattle.ksv_schema.proofs.Paths.{id_is_utf8}
use Rattle.ksv_schema.specs.Members.{is_instance}
use Rattle.ksv_schema.proofs.Good.{front, back, not_if, each_and, each_mapped}
use Rattle.ksv_schema.proofs.FaultlessKeys.{text_fits, meta_faultless}

-- ---- texts

id_is_text : (bs : List ℕ) → is_id bs ≡ true → is_utf8 bs ≡ true
id_is_text bs h = is_utf8-from_IsUtf8 bs (id_is_utf8 bs h)

no_text : is_utf8 [] ≡ true
no_text = is_utf8-from_IsUtf8 [] (IsUtf8-from_ascii [] IsAscii-nil)

unnamed_is_text : (role : Role) (k : ℕ) → is_utf8 (unnamed role k) ≡ true
unnamed_is_text Parameter k = no_text
unnamed_is_text Instance k = no_text
unnamed_is_text Attribute k = is_utf8-from_IsUtf8 _
    (IsUtf8-append (codes "_unnamed") (decimal k) (IsUtf8-from_ascii _ (IsAscii-from_all (codes "_unnamed") (search known_rules)))
    (digits-IsUtf8 10 false k (omega arith) (omega arith)))

-- the id at a key, or another text
id_or : (kind : MappingKind) (es : List Pair) (other : List ℕ) → form_in kind (codes "id") ≡ Some forms.Id → keys_faults kind es ≡ [] → is_utf8 other ≡ true
    → is_utf8 (unwrap_or (text_at (codes "id") es) other) ≡ true
unfolding is_ignored form_faults
id_or kind es other f k u = go (text_at (codes "id") es)
    (λ text t. id_is_text text (text_fits kind (codes "id") forms.Id is_id bad_value es text (λ p. refl) refl f k t))
  where
    go : (o : Option (List ℕ)) → ((text : List ℕ) → o ≡ Some text → is_utf8 text ≡ true) → is_utf8 (unwrap_or o other) ≡ true
    go None t = u
    go (Some text) t = t text refl

-- ---- names of members

-- how a member that is no instance came to its name
abbrev pub HasOwnName : Member → Type 0
HasOwnName m = is_instance m.role ≡ false → (k : ℕ) × (m.name ≡ unwrap_or (text_at (codes "id") (entries_in m.value)) (unnamed m.role k))

items_own : (role : Role) (k : ℕ) (ts : List Tree) → Each HasOwnName (items_from role k ts)
items_own role k [] = tt
items_own role k (t ∷ ts) = ((λ e. (k, refl)), items_own role (k + 1) ts)

key_own : (p : Pair) → Each HasOwnName (members_at_key p)
unfolding members_at_key
key_own p = go (bytes_eq p.key (codes "params")) (bytes_eq p.key (codes "seq")) (bytes_eq p.key (codes "instances"))
  where
    go : (a b c : Bool) → Each HasOwnName
        (cond a (items_from Parameter 0 (unwrap_or (list_of p.value) []))
        (cond b (items_from Attribute 0 (unwrap_or (list_of p.value) [])) (cond c (map instance (unwrap_or (mapping_of p.value) [])) [])))
    go true b c = items_own Parameter 0 (unwrap_or (list_of p.value) [])
    go false true c = items_own Attribute 0 (unwrap_or (list_of p.value) [])
    go false false true = each_mapped HasOwnName instance (unwrap_or (mapping_of p.value) []) (λ p e. absurd cc)
    go false false false = tt

pub members_own : (r : Row) → Each HasOwnName (members_of r)
unfolding members_of
members_own r = of_keys (keys_of r)
  where
    of_keys : (ps : List Pair) → Each HasOwnName (flat_map members_at_key ps)
    of_keys [] = tt
    of_keys (p ∷ ps) = each_and HasOwnName (members_at_key p) (flat_map members_at_key ps) (key_own p) (of_keys ps)

-- the name of a member without faults is a text
pub name_is_text : (role : Role) (name : List ℕ) (t : Tree) (es : List Pair) → HasOwnName (record { role = role; line = 0; name = name; value = t })
    → (is_instance role && not (is_id name)) ≡ false → mapping_of t ≡ Some es → keys_faults (kind_of role es) es ≡ [] → is_utf8 name ≡ true
unfolding form_in form_among
name_is_text Instance name t es own i e k = id_is_text name (not-false (is_id name) i)
name_is_text Parameter name t es own i e k = let n = own refl in rw (n.1, e) (id_or kinds.Parameter es _ refl k (unnamed_is_text Parameter n.0))
name_is_text Attribute name t es own i e k = let n = own refl in rw (n.1, e) (id_or kinds.Attribute es _ refl k (unnamed_is_text Attribute n.0))

-- ---- ids of types

-- the first type stays the first one
module _ (r : Row) where
  abbrev IsFirst : List Row → Type 0
  IsFirst rows = slice_get rows 0 ≡ Some r

  behind : (rows more : List Row) → IsFirst rows → IsFirst (rows ++ more)
  behind [] more h = absurd cc
  behind (row ∷ rows) more h = h

  either : (b : Bool) (xs ys : List Row) → IsFirst xs → IsFirst ys → IsFirst (cond b xs ys)
  either true xs ys x y = x
  either false xs ys x y = y

  mutual
    types_keep : (n : ℕ) (t : Tree) (rows : List Row) → IsFirst rows → IsFirst (with_types n t rows)
    types_keep n (Map _ es) rows h = key_keeps n es rows h
    types_keep n _ rows h = h

    key_keeps : (n : ℕ) (es : Entries) (rows : List Row) → IsFirst rows → IsFirst (with_key n es rows)
    key_keeps n no_entries rows h = h
    key_keeps n (entry line key value es) rows h = either (bytes_eq key (codes "types")) (with_named n value rows) (with_key n es rows)
        (named_keep n value rows h) (key_keeps n es rows h)

    named_keep : (n : ℕ) (t : Tree) (rows : List Row) → IsFirst rows → IsFirst (with_named n t rows)
    named_keep n (Map _ es) rows h = each_keeps n es rows h
    named_keep n _ rows h = h

    each_keeps : (n : ℕ) (es : Entries) (rows : List Row) → IsFirst rows → IsFirst (with_each n es rows)
    each_keeps n no_entries rows h = h
    each_keeps n (entry line id value es) rows h = each_keeps n es _ (types_keep (length rows) value _ (behind rows _ h))

-- the ids of types are texts in UTF-8
abbrev pub AreTyped : List Row → Type 0
AreTyped rs = Each (λ r. is_utf8 r.id ≡ true) rs

-- the ids of types after the root
later_texts : (n : ℕ) (rs : List Row) → all_types_faults (n + 1) rs ≡ [] → AreTyped rs
unfolding type_faults
later_texts n [] k = tt
later_texts n (r ∷ rs) k = (
  id_is_text r.id (later n (is_id r.id) (not_if (not (n + 1 == 0) && not (is_id r.id)) r.line bad_value (back _ _ (front _ _ k)))),
  later_texts (n + 1) rs
      (back _ _ k),
)
  where
    later : (n : ℕ) (b : Bool) → (not (n + 1 == 0) && not b) ≡ false → b ≡ true
    later n b h = grind (arith, nat_tests)

pub ids_are_texts : (t : Tree) → all_types_faults 0 (types_of t) ≡ [] → AreTyped (types_of t)
unfolding types_of form_in form_among
ids_are_texts t k = go (with_types 0 t (root_row t ∷ [])) (types_keep (root_row t) 0 t (root_row t ∷ []) refl) k
  where
    root_text : type_faults 0 (root_row t) ≡ [] → is_utf8 (root_row t).id ≡ true
    root_text k = id_or kinds.RootMeta (entries_at (codes "meta") (entries_in t)) [] refl (meta_faultless 0 (root_row t) k) no_text

    go : (rows : List Row) → IsFirst (root_row t) rows → all_types_faults 0 rows ≡ [] → AreTyped rows
    go [] h k = tt
    go (r ∷ rs) h k = let same : root_row t ≡ r = cc in subst (λ (r : Row). type_faults 0 r ≡ [] → AreTyped (r ∷ rs)) same
        (λ k1. (root_text k1, later_texts 0 rs (back _ _ k))) (front _ _ k)
