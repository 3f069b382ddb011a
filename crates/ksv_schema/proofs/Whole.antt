-- Without faults each encoding in force is one that there is, and each enum has the numbers of its entries.
use Rattle.ksv_schema.proofs.Common.{◌≡◌, ℕ, zero, suc, ◌+◌, Bool, true, false, cond, List, [], ◌∷◌, sym, ap, ◌∙◌, refl, Option, Some, None, codes, is_some}
use Rattle.ksv_schema.proofs.Common.{option_and_then, slice_get, option_map_or, Pair, line_of, text_of, entry_at, Whole, LeadingZero, NoNumeral, text_at}
use Rattle.ksv_schema.proofs.Common.{entries_at, Row, keys_of, Declared, is_bound, form_among, form_in, is_ignored, is_id, bad_value, left_out, form_faults}
use Rattle.ksv_schema.proofs.Common.{constant, enum, type_faults, all_types_faults, all_enums, distinct_behind, Description, Enum, IsThere}
use Rattle.std.proofs.Common.{ℤ}
use Rattle.std.specs.Prelude.{find, take}
use Rattle.std.specs.Ordering.{int_eq}
use Rattle.std.proofs.lemmas.Bool.{both_ways}
use Rattle.std.proofs.lemmas.Bool.Decides.{Decides-int_eq}
use Rattle.ksv_yaml_tree.specs.declared.numeral.Numeral.{Numeral}
use Rattle.ksv_yaml_tree.specs.Numerals.{signed_number}
use Rattle.ksv_schema_names.specs.Types.{keys_at, setting, encoding_of}
use Rattle.ksv_schema_names.specs.Enums.{whole_of, number_of, is_named, number_of_id}
use Rattle.ksv_schema_names.specs.Numbered.{enum_member}
use Rattle.ksv_schema.specs.declared.keys.forms.Form.TheVariants as forms
use Rattle.ksv_schema.specs.declared.keys.forms.MappingKind.TheVariants as kinds
use Rattle.ksv_schema.specs.KeyTexts.{encoding_named}
use Rattle.ksv_schema.specs.Description.{whole, id_text, id, entry_id, is_root}
use Rattle.ksv_desc.specs.Description.{Numbered}
use Rattle.ksv_desc.specs.Resolved.{IsMemberOf}
use Rattle.ksv_desc.proofs.Tabled.{is_table}
use Rattle.ksv_schema.proofs.Good.{front, back, IsGood, gives_good, wrong_good, also_good, made_good, both_good, if_good, or_good, must_good, text_good}
use Rattle.ksv_schema.proofs.Good.{mapping_good, there_map, there_bind, EachOf, each_at, each_there, each_good, each_from_good}
use Rattle.ksv_schema.proofs.FaultlessKeys.{text_fits, meta_faultless}
use Rattle.ksv_schema.proofs.Fields.{AreEncodings}

-- ---- encodings in force

-- the encoding that a type without faults sets
type_encoding : (n : ℕ) (r : Row) (text : List ℕ) → type_faults n r ≡ [] → text_at (codes "encoding") (entries_at (codes "meta") (keys_of r)) ≡ Some text
    → is_some (encoding_named text) ≡ true
unfolding is_ignored form_faults form_in form_among
type_encoding n r text k t = text_fits (cond (is_root n) kinds.RootMeta kinds.Meta) (codes "encoding") forms.Coding (λ text. is_some (encoding_named text))
    left_out _ text (λ p. refl) refl (coded (is_root n)) (meta_faultless n r k) t
  where
    coded : (b : Bool) → form_in (cond b kinds.RootMeta kinds.Meta) (codes "encoding") ≡ Some forms.Coding
    coded true = refl
    coded false = refl

faultless_at : (k : ℕ) (rs : List Row) (i : ℕ) (r : Row) → all_types_faults k rs ≡ [] → slice_get rs i ≡ Some r → (n : ℕ) × (type_faults n r ≡ [])
faultless_at k [] i r h e = absurd cc
faultless_at k (y ∷ ys) zero r h e = let same : y ≡ r = cc in (k, ap (type_faults k) (sym same) ∙ front (type_faults k y) (all_types_faults (k + 1) ys) h)
faultless_at k (y ∷ ys) (suc i) r h e = faultless_at (k + 1) ys i r (back (type_faults k y) (all_types_faults (k + 1) ys) h) e

pub are_encodings : (d : Declared) → all_types_faults 0 d.types ≡ [] → AreEncodings d
unfolding encoding_of keys_at
are_encodings d k n text e =
    let r = is_bound (setting (codes "encoding") d.types) _ text e in
    go (slice_get d.types r.0) (faultless_at 0 d.types r.0) r.2
  where
    go : (o : Option Row) → ((r : Row) → all_types_faults 0 d.types ≡ [] → o ≡ Some r → (n : ℕ) × (type_faults n r ≡ []))
        → text_at (codes "encoding") (entries_at (codes "meta") (option_map_or keys_of o [])) ≡ Some text → is_some (encoding_named text) ≡ true
    go None f t = absurd cc
    go (Some r) f t = let g = f r k refl in type_encoding g.0 r text g.1 t

-- ---- enums

-- what is read of an entry has its number
abbrev pub HasNumber : Pair → Numbered → Type 0
HasNumber p x = number_of p ≡ Some x.number

abbrev pub HasNumbers : Row → Enum → Type 0
HasNumbers r e = EachOf (λ i. HasNumber) 0 (keys_of r) e.members

abbrev Exists : {A : Type 0} → Option A → Type 0
Exists o = IsThere (λ x. Unit {0}) o

-- the number of an entry is one of those that are read
number_stated : (test : Pair → Bool) (n : ℕ) (cs : List Pair) (ms : List Numbered) (c : Pair) (z : ℤ) → EachOf (λ i. HasNumber) n cs ms → find test cs ≡ Some c
    → number_of c ≡ Some z → Exists (find (λ m. int_eq z m.number) ms)
number_stated test n [] ms c z s f e = absurd cc
number_stated test n (y ∷ ys) [] c z s f e = absurd s
number_stated test n (y ∷ ys) (m ∷ ms) c z s f e = go (test y) (int_eq z m.number) refl f (number_stated test (n + 1) ys ms c z s.1)
  where
    go : (b same : Bool) → int_eq z m.number ≡ same → cond b (Some y) (find test ys) ≡ Some c
        → (find test ys ≡ Some c → number_of c ≡ Some z → Exists (find (λ m. int_eq z m.number) ms))
        → Exists (cond same (Some m) (find (λ m. int_eq z m.number) ms))
    go b true q f later = tt
    go true false q f later =
        let same : y ≡ c = cc in
        let both : Some z ≡ Some m.number = sym e ∙ ap number_of (sym same) ∙ s.0 in
        let number : z ≡ m.number = cc in
        absurd (both_ways (int_eq z m.number) q ((Decides-int_eq z m.number).1 number))
    go false false q f later = later f e

-- a member of an enum that is found is one of those that are read
pub member_stated : (enums : List Row) (x : Description) → EachOf (λ i. HasNumbers) 0 enums x.enums → (e : ℕ) (id : List ℕ) (z : ℤ)
    → number_of_id enums e id ≡ Some z → IsMemberOf x (enum_member e z)
unfolding number_of_id keys_at
member_stated enums x s e id z h = at (slice_get enums e) refl h
  where
    at : (o : Option Row) → slice_get enums e ≡ o → option_and_then number_of (find (is_named id) (option_map_or keys_of o [])) ≡ Some z
        → IsMemberOf x (enum_member e z)
    at None g h = absurd cc
    at (Some r) g h =
        let c = is_bound number_of (find (is_named id) (keys_of r)) z h in
        there_bind (λ (y : Enum). (k : ℕ) × HasNumbers r y) (λ (id : List ℕ). Unit {0}) _ (slice_get x.enums e)
        (λ y n. there_map (λ (m : Numbered). Unit {0}) (λ (id : List ℕ). Unit {0}) (λ m. m.id) (find (λ m. int_eq z m.number) y.members) (λ m u. tt)
        (number_stated (is_named id) 0 (keys_of r) y.members c.0 z n.1 c.1 c.2))
        (each_at (λ i. HasNumbers) 0 enums x.enums e r s g)

module _ (names : List (List ℕ)) where
  whole_good : (line : ℕ) (n : Numeral) → IsGood names (λ z. whole_of n ≡ Some z) (whole line n)
  whole_good line (Whole n) = gives_good n refl
  whole_good line LeadingZero = wrong_good line left_out
  whole_good line NoNumeral = wrong_good line bad_value

  id_good : (line : ℕ) (name : List ℕ) → IsGood names (λ x. Unit {0}) (id_text line name)
  id_good line name = if_good (is_id name) _ _ (λ b. gives_good name tt) (λ b. wrong_good line bad_value)

  entry_id_good : (p : Pair) → IsGood names (λ x. Unit {0}) (entry_id p)
  unfolding entry_id
  entry_id_good p =
      or_good (id_text p.line) (text_of p.value) _ (λ text t. id_good p.line text)
      (λ t. mapping_good _ p
      (λ es. also_good _ _
      (λ k. must_good (line_of p.value) id (entry_at (codes "id") es) (λ p. text_good (id_text p.line) p (λ text t. id_good p.line text)))))

  constant_good : (before : List Pair) (p : Pair) → IsGood names (HasNumber p) (constant before p)
  unfolding constant number_of
  constant_good before p = also_good _ _ (λ k. made_good _ (both_good (whole_good p.line (signed_number p.key)) (entry_id_good p)) (λ x g. g.0))

  enum_good : (r : Row) → IsGood names (HasNumbers r) (enum r)
  enum_good r =
      made_good _
      (both_good (id_good r.line r.id)
      (also_good _ _ (λ k. each_from_good (λ p. Unit {0}) (λ i. constant (take i (keys_of r))) 0 (keys_of r) (each_there (keys_of r))
      (λ i p u. constant_good (take i (keys_of r)) p))))
      (λ p g. g.1)

-- whatever the names are
pub enums_there : (d : Declared) → (all_enums d).faults ≡ [] → IsThere (EachOf (λ i. HasNumbers) 0 d.enums) (all_enums d).value
unfolding all_enums
enums_there d k =
    let words = (all_enums d).words in
    let names = distinct_behind [] words in
    (each_good enum d.enums (enum_good names)).is k (is_table [] words).has_added
