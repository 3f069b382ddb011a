-- Without faults each member and type is stated, and leads somewhere.
use Rattle.ksv_schema.proofs.Common.{◌≡◌, ℕ, zero, suc, ◌+◌, ◌<◌, Bool, true, false, cond, List, [], ◌∷◌, ◌++◌, length, sym, ap, subst, ◌∙◌, refl, arith}
use Rattle.ksv_schema.proofs.Common.{is_some, slice_get, list_all, option_map_or, bytes_eq, is_utf8, and_parts, map-append, line_of, mapping_of, Row, Declared}
use Rattle.ksv_schema.proofs.Common.{Member, members_of, bad_value, member, Context, members, all_enums, are_texts, distinct_behind, Enum, Description, Each}
use Rattle.ksv_schema.proofs.Common.{IsThere, distinct_append}
use Rattle.std.proofs.Common.{append_assoc}
use Rattle.std.specs.Prelude.{map, flat_map, filter}
use Rattle.std.specs.List.{list_any}
use Rattle.std.proofs.lemmas.List.{length-append, append-nil}
use Rattle.ksv_schema_names.specs.Members.{is_in_params, is_parameter, members_within, parameters_within}
use Rattle.ksv_schema_names.specs.Members as scope
use Rattle.ksv_schema_names.specs.Resolved.{Fits}
use Rattle.ksv_schema_names.proofs.Found.{some_is, place_within}
use Rattle.ksv_schema.specs.Values.{home_of}
use Rattle.ksv_schema.proofs.Texts.{as_text_is}
use Rattle.ksv_schema.specs.Members.{member_keys}
use Rattle.ksv_schema.specs.Description.{all_members, faults_of, names_in, member_names, names_of, each_of, member_of, type_of, types_of, described, stated_by}
use Rattle.ksv_desc.specs.Names.{distinct, number_in, has_names, AreDistinct}
use Rattle.ksv_desc.specs.Description.{MemberKind, MemberOfType, TypeOfObjects}
use Rattle.ksv_desc.specs.Resolved as resolved
use Rattle.ksv_desc.specs.Resolved.{IsResolvedMember, IsResolved}
use Rattle.ksv_desc.proofs.Tabled.{is_table, position_append}
use Rattle.ksv_schema.proofs.Good.{front, back, not_if, has_both, there_next, is_there, IsGood, wrong_good, also_good, weaker, or_good, EachOf, each_passes}
use Rattle.ksv_schema.proofs.Good.{each_from_good, as_many, each_second, each_mapped}
use Rattle.ksv_schema.proofs.Fields.{AreEncodings, IsKind, kind_good}
use Rattle.ksv_schema.proofs.OwnNames.{HasOwnName, members_own, name_is_text, AreTyped}
use Rattle.ksv_schema.proofs.Whole.{are_encodings, HasNumbers, member_stated, enums_there}

-- ---- what is read of members

-- where the members of a type stand
abbrev within : Declared → ℕ → Context
within d n = record { declared = d; names = names_of d; within = n }

-- a member leads somewhere, and its name is a text
pub record IsMember (d : Declared) (n : ℕ) (m : Member) (k : MemberKind) : Type 0 where
  pub kind : IsKind (within d n) (is_in_params m.role) k
  pub text : is_utf8 m.name ≡ true

abbrev AreMembers : Declared → ℕ → ℕ → List Member → List MemberKind → Type 0
AreMembers d n i ms ks = EachOf (λ i. IsMember d n) i ms ks

member_good : (d : Declared) (n i : ℕ) (m : Member) → AreEncodings d → HasOwnName m → IsGood (names_of d) (IsMember d n m) (member d n i m)
unfolding member member_keys
member_good d n i m a own = also_good _ _ (λ k.
    or_good (member_keys d n m) (mapping_of m.value) _
    (λ es e. also_good _ _ (λ f.
    weaker (kind_good (names_of d) (home_of d n m.role es) m.role m.line (line_of m.value) es a f)
    (λ x g. record { kind = g; text = name_is_text m.role m.name m.value es own (not_if _ m.line bad_value (front _ _ k)) e f })))
    (λ e. wrong_good m.line bad_value))

all_good : (d : Declared) → AreEncodings d → IsGood (names_of d) (EachOf (λ n. AreMembers d n 0) 0 (map members_of d.types)) (all_members d)
unfolding all_members members
all_good d a =
    each_from_good (Each HasOwnName) (members d) 0 (map members_of d.types) (each_mapped (Each HasOwnName) members_of d.types members_own)
    (λ n ms own. also_good _ _ (λ k. each_from_good HasOwnName (member d n) 0 ms own (λ i m o. member_good d n i m a o)))

-- their names are texts
are_all_texts : (d : Declared) (mss : List (List Member)) (kss : List (List MemberKind)) → EachOf (λ n. AreMembers d n 0) 0 mss kss
    → list_all are_texts mss ≡ true
unfolding are_texts
are_all_texts d mss kss = each_passes (λ n. AreMembers d n 0) are_texts 0 mss kss
    (λ n ms ks. each_passes (λ i. IsMember d n) (λ m. is_utf8 m.name) 0 ms ks (λ i m k g. g.text))

-- ---- names

-- the names of members of these types
abbrev own_names : List Row → List (List ℕ)
own_names rs = flat_map names_in (map members_of rs)

same_names : (rs : List Row) → own_names rs ≡ map (λ m. m.name) (scope.all_members rs)
same_names [] = refl
same_names (r ∷ rs) = ap (λ (ws : List (List ℕ)). names_in (members_of r) ++ ws) (same_names rs)
    ∙ sym (map-append (λ (m : Member). m.name) (members_of r) (scope.all_members rs))

-- the names are those of members and the words
record HasNames (d : Declared) : Type 0 where
  known : has_names (member_names d) (own_names d.types) ≡ true
  all : has_names (names_of d) (own_names d.types ++ (all_members d).words) ≡ true
  distinct : AreDistinct (names_of d)

has_all_names : (d : Declared) → HasNames d
unfolding names_of member_names distinct
has_all_names d =
    let own = own_names d.types in
    let words = (all_members d).words in
    let all = is_table [] (own ++ words) in
    record {
      known = (is_table [] own).has_added;
      all = ap (λ (ns : List (List ℕ)). has_names ns (own ++ words)) (sym (distinct_append [] own words)) ∙ all.has_added;
      distinct = subst AreDistinct (distinct_append [] own words) (all.stays_distinct (λ k w h. absurd cc));
    }

-- names are added after the others
added_behind : (before added : List (List ℕ)) → (more : List (List ℕ)) × (distinct_behind before added ≡ before ++ more)
added_behind before [] = ([], sym (append-nil before))
added_behind before (n ∷ ns) = go (list_any (bytes_eq n) before) (added_behind (cond (list_any (bytes_eq n) before) before (before ++ n ∷ [])) ns)
  where
    go : (b : Bool) → (more : List (List ℕ)) × (distinct_behind (cond b before (before ++ n ∷ [])) ns ≡ cond b before (before ++ n ∷ []) ++ more)
        → (more : List (List ℕ)) × (distinct_behind (cond b before (before ++ n ∷ [])) ns ≡ before ++ more)
    go true h = h
    go false h = (n ∷ h.0, h.1 ∙ append_assoc before (n ∷ []) h.0)

-- the number of a member's name
kept_number : (d : Declared) (name : List ℕ) → is_some (number_in (member_names d) name) ≡ true
    → IsThere (λ k. k < length (member_names d)) (number_in (names_of d) name)
unfolding names_of number_in
kept_number d name h =
    let k = some_is (number_in (member_names d) name) h in
    let more = added_behind (member_names d) (all_members d).words in
    rw (more.1, position_append (bytes_eq name) 0 k.0 (member_names d) more.0 k.1) (place_within (bytes_eq name) (member_names d) k.0 k.1)

-- ---- members with the numbers of their names

-- what holds in each description of these names that knows those of members and fits what is declared
abbrev Known : {A : Type 0} → Declared → (Description → A → Type 0) → A → Type 0
Known d Q x = (y : Description) → y.names ≡ names_of d → Fits d y → y.known ≡ length (member_names d) → Q y x

record IsStated (d : Declared) (m : Member) (r : MemberOfType) : Type 0 where
  known : Known d IsResolvedMember r
  given : is_parameter m ≡ resolved.is_parameter r

member_there : (d : Declared) (n : ℕ) (m : Member) (k : MemberKind) → IsMember d n m k → is_some (number_in (member_names d) m.name) ≡ true
    → IsThere (IsStated d m) (member_of (within d n) m k)
unfolding member_of
member_there d n m k g h = rw (as_text_is m.name g.text) (there_next (λ j. j < length (member_names d)) (IsStated d m) _ (number_in (names_of d) m.name)
    (λ j t. record { known = λ y s fits known. (omega (arith, t, known), g.kind.leads y s fits); given = sym (g.kind.given j) })
    (kept_number d m.name h))

record AreStated (d : Declared) (ms : List Member) (rs : List MemberOfType) : Type 0 where
  known : Known d (λ y. Each (IsResolvedMember y)) rs
  given : length (filter is_parameter ms) ≡ length (filter resolved.is_parameter rs)

members_there : (d : Declared) (n i : ℕ) (ms : List Member) (ks : List MemberKind) → AreMembers d n i ms ks → has_names (member_names d) (names_in ms) ≡ true
    → IsThere (AreStated d ms) (each_of (member_of (within d n)) ms ks)
members_there d n i [] ks g h = record { known = λ y s fits known. tt; given = refl }
members_there d n i (m ∷ ms) [] g h = absurd g
members_there d n i (m ∷ ms) (k ∷ ks) g h =
    let hs = and_parts (is_some (number_in (member_names d) m.name)) (has_names (member_names d) (names_in ms)) h in
    there_next (IsStated d m) (AreStated d (m ∷ ms)) _ (member_of (within d n) m k)
    (λ r x. there_next (AreStated d ms) (AreStated d (m ∷ ms)) _ (each_of (member_of (within d n)) ms ks)
    (λ rs xs. record { known = λ y s fits known. (x.known y s fits known, xs.known y s fits known); given = grind (arith, x.given, xs.given) })
    (members_there d n (i + 1) ms ks g.1 hs.1))
    (member_there d n m k g.0 hs.0)

-- ---- types

type_there : (d : Declared) (n : ℕ) (r : Row) (ks : List MemberKind) → is_utf8 r.id ≡ true → AreMembers d n 0 (members_of r) ks
    → has_names (member_names d) (names_in (members_of r)) ≡ true → IsThere (λ t. AreStated d (members_of r) t.members) (type_of d (names_of d) n r ks)
unfolding type_of
type_there d n r ks v g h = rw (as_text_is r.id v)
    (there_next (AreStated d (members_of r)) (λ (t : TypeOfObjects). AreStated d (members_of r) t.members) _
    (each_of (member_of (within d n)) (members_of r) ks) (λ ms x. x) (members_there d n 0 (members_of r) ks g h))

abbrev AreTypes : Declared → ℕ → List Row → List TypeOfObjects → Type 0
AreTypes d n rs ts = EachOf (λ n r t. AreStated d (members_of r) t.members) n rs ts

types_there : (d : Declared) (n : ℕ) (rs : List Row) (kss : List (List MemberKind)) → AreTyped rs → EachOf (λ n. AreMembers d n 0) n (map members_of rs) kss
    → has_names (member_names d) (own_names rs) ≡ true → IsThere (AreTypes d n rs) (types_of d (names_of d) n rs kss)
types_there d n [] kss v g h = tt
types_there d n (r ∷ rs) [] v g h = absurd g
types_there d n (r ∷ rs) (ks ∷ kss) v g h =
    let hs = has_both (member_names d) (names_in (members_of r)) (own_names rs) h in
    there_next (λ (t : TypeOfObjects). AreStated d (members_of r) t.members) (AreTypes d n (r ∷ rs)) _ (type_of d (names_of d) n r ks)
    (λ t x. there_next (AreTypes d (n + 1) rs) (AreTypes d n (r ∷ rs)) _ (types_of d (names_of d) (n + 1) rs kss) (λ ts xs. (x, xs))
    (types_there d (n + 1) rs kss v.1 g.1 hs.1))
    (type_there d n r ks v.0 g.0 hs.0)

-- types have as many parameters as are declared
as_declared : (d : Declared) (n : ℕ) (rs : List Row) (ts : List TypeOfObjects) (i : ℕ) → AreTypes d n rs ts
    → length (filter is_parameter (option_map_or members_of (slice_get rs i) []))
    ≡ length (option_map_or (λ y. filter resolved.is_parameter y.members) (slice_get ts i) [])
as_declared d n [] [] i g = refl
as_declared d n (r ∷ rs) (t ∷ ts) zero g = g.0.given
as_declared d n (r ∷ rs) (t ∷ ts) (suc i) g = as_declared d (n + 1) rs ts i g.1
as_declared d n _ _ i g = absurd g

-- ---- a description

resolved_with : (d : Declared) (ts : List TypeOfObjects) (es : List Enum) → AreTypes d 0 d.types ts → EachOf (λ i. HasNumbers) 0 d.enums es
    → IsResolved (record { types = ts; enums = es; names = names_of d; known = length (member_names d) })
unfolding names_of members_within parameters_within
resolved_with d ts es t e =
    let names = has_all_names d in
    let more = added_behind (member_names d) (all_members d).words in
    let x : Description = record { types = ts; enums = es; names = names_of d; known = length (member_names d) } in
    let fits : Fits d x = record {
      types = as_many (λ n r t. AreStated d (members_of r) t.members) 0 d.types ts t;
      enums = as_many (λ i. HasNumbers) 0 d.enums es e;
      parameters = λ i l. as_declared d 0 d.types ts i t;
      members = ap (has_names (names_of d)) (sym (same_names d.types)) ∙ (has_both (names_of d) (own_names d.types) (all_members d).words names.all).0;
      entries = member_stated d.enums x e;
    } in
    record {
      distinct = names.distinct;
      known = omega (arith, ap length more.1, length-append (member_names d) more.0);
      members = each_second
          (λ n r t. AreStated d (members_of r) t.members) (λ t. Each (IsResolvedMember x) t.members) 0 d.types ts (λ n r t g. g.known x refl fits refl) t;
    }

pub declared_good : (d : Declared) → AreTyped d.types → faults_of d ≡ [] → IsThere IsResolved (stated_by d)
unfolding faults_of stated_by described
declared_good d v k =
    let names = has_all_names d in
    let words = (has_both (names_of d) (own_names d.types) (all_members d).words names.all).1 in
    let ks = is_there (EachOf (λ n. AreMembers d n 0) 0 (map members_of d.types)) (all_members d).value
    ((all_good d (are_encodings d (back _ _ (front _ _ (front _ _ k))))).is (back _ _ (front _ _ k)) words) in
    rw (are_all_texts d (map members_of d.types) ks.0 ks.2, ks.1) (there_next (AreTypes d 0 d.types) IsResolved _ (types_of d (names_of d) 0 d.types ks.0)
    (λ ts t. there_next (EachOf (λ i. HasNumbers) 0 d.enums) IsResolved _ (all_enums d).value (λ es e. resolved_with d ts es t e) (enums_there d (back _ _ k)))
    (types_there d 0 d.types ks.0 v ks.2 names.known))
