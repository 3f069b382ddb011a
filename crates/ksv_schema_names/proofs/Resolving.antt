-- An expression of which nothing is wrong leads somewhere with each name that is numbered.
use Rattle.ksv_schema_names.proofs.Common.{◌≡◌, ℕ, zero, suc, ◌<◌, Bool, true, false, cond, List, [], ◌∷◌, ◌++◌, map, Option, Some, None, is_none, refl, sym}
use Rattle.ksv_schema_names.proofs.Common.{ap, ◌∙◌, arith, length, option_map_or, bytes_eq, Tree, members_of, Row, Declared, NameFault, Unknown, Other}
use Rattle.ksv_schema_names.proofs.Common.{part_faults, numbered_word, numbered}
use Rattle.std.proofs.Common.{ℤ, not, is_some, slice_get, option_and_then, option_map, subst}
use Rattle.std.specs.List.{list_all}
use Rattle.std.proofs.lemmas.List.{map-append}
use Rattle.std.proofs.lemmas.Bool.{and_parts, not-false}
use Rattle.std.proofs.lemmas.List.Folds.{list_all-append}
use Rattle.ksv_expr_tree.specs.Tree.{literal, named, special, member, unary, binary, logical, choice, field, special_field, call, index, cast, Arguments}
use Rattle.ksv_expr_tree.specs.Tree.{no_arguments, argument, Word, MemberPath, TypePath}
use Rattle.ksv_schema_names.specs.Members.{Member, all_members, members_within, member_named}
use Rattle.ksv_schema_names.specs.Types.{type_named}
use Rattle.ksv_schema_names.specs.Enums.{number_of_id}
use Rattle.ksv_schema_names.specs.declared.position.NameFault.TheVariants.{LeftOut}
use Rattle.ksv_schema_names.specs.declared.position.Position.{Position}
use Rattle.ksv_schema_names.specs.BuiltIn.{built_in_at}
use Rattle.ksv_schema_names.specs.Names.{Behind, Dot, wrong_if, special_field_faults, enum_at, is_member, cast_faults, is_call, list_faults}
use Rattle.ksv_desc.specs.Resolved.{count}
use Rattle.ksv_schema_names.specs.Numbered.{enum_member, given_member, all_numbered}
use Rattle.ksv_desc.specs.Names.{number_in, dotted, all_dotted}
use Rattle.ksv_expr_tree.specs.declared.tree.EnumMember.{EnumMember}
use Rattle.ksv_desc.specs.Description.{Description}
use Rattle.ksv_desc.specs.Resolved.{IsThere, IsNamed, IsType, IsMemberOf, IsResolvedTree, AreResolvedTrees}
use Rattle.ksv_schema_names.specs.Resolved.{Fits}
use Rattle.ksv_desc.specs.Names.{has_names}
use Rattle.ksv_schema_names.proofs.Found.{some_is, not_none, both_empty, one_passes, get_map, place_of, is_bound, type_within, same_text}

not_wrong : (b : Bool) (k : NameFault) → wrong_if b k ≡ [] → b ≡ false
not_wrong true k h = absurd (cc)
not_wrong false k h = refl

-- ---- one name, one type, one member

is_there : {A : Type 0} (P : A → Type 0) (o : Option A) (y : A) → o ≡ Some y → P y → IsThere P o
is_there P o y e p = subst (IsThere P) (sym e) p

is_named : (x : Description) (w : Word) → is_some (number_in x.names w.text) ≡ true → IsNamed x (numbered_word x.names w)
unfolding number_in
is_named x w h =
    let found = some_is (number_in x.names w.text) h in
    let place = place_of (bytes_eq w.text) 0 x.names found.0 found.1 in
    let same : w.text ≡ place.item = same_text w.text place.item place.passes in
    let at : found.0 ≡ place.offset = omega arith in
    is_there (λ n. slice_get x.names n ≡ Some w.text) (number_in x.names w.text) found.0 found.1 (ap (slice_get x.names) at ∙ place.there ∙ ap Some (sym same))

-- the members of a type are among all of them
passes_within : (p : List ℕ → Bool) (types : List Row) (n : ℕ) → list_all p (map (λ m. m.name) (all_members types)) ≡ true
    → list_all p (map (λ m. m.name) (members_within types n)) ≡ true
unfolding members_within
passes_within p [] n h = refl
passes_within p (r ∷ rs) n h =
    let two = and_parts _ _
    (sym (list_all-append p (map (λ m. m.name) (members_of r)) (map (λ m. m.name) (all_members rs)))
    ∙ ap (list_all p) (sym (map-append (λ (m : Member). m.name) (members_of r) (all_members rs))) ∙ h) in
    go n two.0 (λ k. passes_within p rs k two.1)
  where
    go : (n : ℕ) → list_all p (map (λ m. m.name) (members_of r)) ≡ true
        → ((k : ℕ) → list_all p (map (λ m. m.name) (option_map_or members_of (slice_get rs k) [])) ≡ true)
        → list_all p (map (λ m. m.name) (option_map_or members_of (slice_get (r ∷ rs) n) [])) ≡ true
    go zero here later = here
    go (suc k) here later = later k

-- the name of a member has a number
has_number : (d : Declared) (names : List (List ℕ)) (n : ℕ) (text : List ℕ) → has_names names (map (λ m. m.name) (all_members d.types)) ≡ true
    → is_none (member_named d.types n text) ≡ false → is_some (number_in names text) ≡ true
unfolding member_named
has_number d names n text all known =
    let ms = members_within d.types n in
    let found = not_none (member_named d.types n text) known in
    let place = place_of (λ m. bytes_eq m.name text) 0 ms found.0 found.1 in
    let same : place.item.name ≡ text = same_text place.item.name text place.passes in
    let there = get_map (λ (m : Member). m.name) ms place.offset place.item place.there in
    ap (λ (t : List ℕ). is_some (number_in names t)) (sym same)
    ∙ one_passes (λ w. is_some (number_in names w)) (map (λ m. m.name) ms) place.offset place.item.name
    (passes_within (λ w. is_some (number_in names w)) d.types n all) there

is_typed : (d : Declared) (x : Description) (n : ℕ) (t : TypePath) → length x.types ≡ length d.types → cast_faults d n t ≡ []
    → IsThere (IsType x) (type_named d.types n t.path)
unfolding cast_faults
is_typed d x n t as_many h = by_language (is_some (built_in_at t.path)) h where
  by_language : (b : Bool) → cond b (LeftOut ∷ []) (wrong_if (is_none (type_named d.types n t.path)) Unknown) ≡ []
      → IsThere (IsType x) (type_named d.types n t.path)
  by_language true wrong = absurd (cc)
  by_language false right =
      let found = not_none (type_named d.types n t.path) (not_wrong _ _ right) in
      let below : found.0 < length d.types = type_within d.types n t.path found.0 found.1 in
      is_there (IsType x) _ found.0 found.1 (omega (arith, below, as_many))

-- what an enum's member stands for
pub given_leads : (d : Declared) (x : Description) → Fits d x → (n : ℕ) (m : MemberPath) (g : EnumMember) → given_member d n m ≡ Some g → IsMemberOf x g
unfolding given_member
given_leads d x fits n m g h =
    let e = is_bound (λ e. option_map (enum_member e) (number_of_id d.enums e m.name)) (enum_at d n m) g h in
    by_number e.0 (number_of_id d.enums e.0 m.name) refl e.2
  where
    by_number : (e : ℕ) (o : Option ℤ) → number_of_id d.enums e m.name ≡ o → option_map (enum_member e) o ≡ Some g → IsMemberOf x g
    by_number e None at found = absurd (cc)
    by_number e (Some z) at found = let same : enum_member e z ≡ g = cc in subst (IsMemberOf x) same (fits.entries e m.name z at)

pub member_given : (d : Declared) (n : ℕ) (m : MemberPath) → is_member d n m ≡ true → (g : EnumMember) × (given_member d n m ≡ Some g)
unfolding is_member given_member
member_given d n m h = by_enum (enum_at d n m) h where
  by_number : (e : ℕ) (o : Option ℤ) → is_some o ≡ true → (g : EnumMember) × (option_map (enum_member e) o ≡ Some g)
  by_number e None found = absurd (cc)
  by_number e (Some z) found = (enum_member e z, refl)

  by_enum : (o : Option ℕ) → is_some (option_and_then (λ e. number_of_id d.enums e m.name) o) ≡ true
      → (g : EnumMember) × (option_and_then (λ e. option_map (enum_member e) (number_of_id d.enums e m.name)) o ≡ Some g)
  by_enum None found = absurd (cc)
  by_enum (Some e) found = by_number e (number_of_id d.enums e m.name) found

-- ---- expressions

module _ (d : Declared) (x : Description) (n : ℕ) (p : Position) (fits : Fits d x) where
  abbrev names : List (List ℕ)
  names = x.names

  -- the names of two parts
  two : (xs ys : List (List ℕ)) → has_names names (xs ++ ys) ≡ true → (has_names names xs ≡ true) × (has_names names ys ≡ true)
  two xs ys h = and_parts (has_names names xs) (has_names names ys) (sym (list_all-append (λ w. is_some (number_in names w)) xs ys) ∙ h)

  mutual
    unfolding part_faults dotted numbered

    pub resolved : (b : Behind) (e : Tree) → has_names names (dotted e) ≡ true → part_faults d n p b e ≡ [] → IsResolvedTree x (numbered d names n e)
    resolved b (literal c) has h = tt
    resolved b (named w) has h = is_named x w (has_number d names n w.text fits.members (not_wrong _ _ h))
    resolved b (special s) has h = tt
    resolved b (member m) has h = let g = member_given d n m (not-false _ (not_wrong _ _ h)) in is_there (IsMemberOf x) _ g.0 g.1
        (given_leads d x fits n m g.0 g.1)
    resolved b (unary op v) has h = resolved Other v has h
    resolved b (binary op v y) has h =
        let hs = two (dotted v) (dotted y) has in
        let fs = both_empty (part_faults d n p Other v) (part_faults d n p Other y) h in
        (resolved Other v hs.0 fs.0, resolved Other y hs.1 fs.1)
    resolved b (logical op v y) has h =
        let hs = two (dotted v) (dotted y) has in
        let fs = both_empty (part_faults d n p Other v) (part_faults d n p Other y) h in
        (resolved Other v hs.0 fs.0, resolved Other y hs.1 fs.1)
    resolved b (choice v y z) has h =
        let hs = two (dotted v ++ dotted y) (dotted z) has in
        let gs = two (dotted v) (dotted y) hs.0 in
        let fs = both_empty (part_faults d n p Other v ++ part_faults d n p Other y) (part_faults d n p Other z) h in
        let es = both_empty (part_faults d n p Other v) (part_faults d n p Other y) fs.0 in
        (resolved Other v gs.0 es.0, resolved Other y gs.1 es.1, resolved Other z hs.1 fs.1)
    resolved b (field v w) has h =
        let hs = two (dotted v) (w.text ∷ []) has in
        (resolved (Dot w.text) v hs.0 h, is_named x w (and_parts (is_some (number_in names w.text)) true hs.1).0)
    resolved b (special_field v s) has h = resolved Other v has (both_empty (part_faults d n p Other v) (special_field_faults p b s) h).0
    resolved b (call v m es) has h =
        let hs = two (dotted v) (all_dotted es) has in
        let fs = both_empty (wrong_if (not (is_call m (count es))) Unknown ++ part_faults d n p Other v) (list_faults d n p es) h in
        let gs = both_empty (wrong_if (not (is_call m (count es))) Unknown) (part_faults d n p Other v) fs.0 in
        (resolved Other v hs.0 gs.1, all_resolved es hs.1 fs.1)
    resolved b (index v y) has h =
        let hs = two (dotted v) (dotted y) has in
        let fs = both_empty (part_faults d n p Other v) (part_faults d n p Other y) h in
        (resolved Other v hs.0 fs.0, resolved Other y hs.1 fs.1)
    resolved b (cast v t) has h =
        let fs = both_empty (part_faults d n p Other v) (cast_faults d n t) h in
        (resolved Other v has fs.0, is_typed d x n t fits.types fs.1)

    pub all_resolved : (es : Arguments) → has_names names (all_dotted es) ≡ true → list_faults d n p es ≡ [] → AreResolvedTrees x (all_numbered d names n es)
    all_resolved no_arguments has h = tt
    all_resolved (argument e es) has h =
        let hs = two (dotted e) (all_dotted es) has in
        let fs = both_empty (part_faults d n p Other e) (list_faults d n p es) h in
        (resolved Other e hs.0 fs.0, all_resolved es hs.1 fs.1)
