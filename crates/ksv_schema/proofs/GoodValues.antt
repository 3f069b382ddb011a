-- What is read at a key is good: it leads somewhere once its names have their numbers.
use Rattle.ksv_schema.proofs.Common.{◌≡◌, ℕ, suc, ◌+◌, ◌<◌, Bool, true, List, [], ◌∷◌, ◌++◌, length, sym, ap, ◌∙◌, refl, Option, Some, None, arith, codes}
use Rattle.ksv_schema.proofs.Common.{is_some, not, ◌==◌, ◌&&◌, ◌||◌, not-false, Tree, Pair, line_of, text_of, mapping_of, list_of, entry_at, Row, is_bound}
use Rattle.ksv_schema.proofs.Common.{Description, Each, IfAny, IsThere, IsResolvedTree, expression_of, BadPiece, piece_of, fault_if, bad_value, left_out, each}
use Rattle.ksv_schema.proofs.Common.{Home, expression, items, Context, in_tree, in_case}
use Rattle.std.specs.Prelude.{option_map, option_to_list, map}
use Rattle.std.proofs.lemmas.Bool.{both_ways}
use Rattle.std.proofs.lemmas.Bool.Decides.{Decides-eqb}
use Rattle.ksv_yaml_tree.specs.Tree.{is_quoted}
use Rattle.ksv_expr_tree.specs.Tree as expressions
use Rattle.ksv_expr_value.specs.declared.encoding.Encoding.{Encoding}
use Rattle.ksv_schema_names.specs.Rows.{row_in}
use Rattle.ksv_schema_names.specs.Types.{type_named, enum_behind, enum_from}
use Rattle.ksv_schema_names.specs.Members.{parameters_within}
use Rattle.ksv_schema_names.specs.declared.position.Site.{Site}
use Rattle.ksv_schema_names.specs.declared.position.Site.TheVariants as sites
use Rattle.ksv_schema_names.specs.declared.position.NameFault.{NameFault}
use Rattle.ksv_schema_names.specs.declared.position.NameFault.TheVariants.{Unknown, LeftOut}
use Rattle.ksv_schema_names.specs.declared.built_ins.BuiltIn.{BuiltIn}
use Rattle.ksv_schema_names.specs.declared.built_ins.BuiltIn.TheVariants.{Integer, Bits as BitsType, Str, Strz, NotHere}
use Rattle.ksv_schema_names.specs.Names.{Nothing, name_faults, least}
use Rattle.ksv_schema_names.specs.Numbered.{all_numbered, given_member}
use Rattle.ksv_schema_names.specs.Resolved.{Fits}
use Rattle.ksv_schema_names.proofs.Found.{row_within, nearest_within, type_within}
use Rattle.ksv_schema_names.proofs.Resolving.{given_leads, resolved, all_resolved}
use Rattle.ksv_desc.specs.Description.{Content, Number, Bits, Characters, Object, EnumValue, Choice, Always, Switch}
use Rattle.ksv_desc.specs.Resolved.{count, IsEnum, AreResolvedTrees, IsResolvedContent, IsResolvedValue, IsResolvedCase, IsResolvedChoice}
use Rattle.ksv_schema.specs.KeyTexts.{TypeText, Unspelled, OfLanguage, OfDescription, type_text, is_str, is_strz, looks_like_number, Piece, Bytes as BytesPiece}
use Rattle.ksv_schema.specs.KeyTexts.{LeftOutPiece, CaseKey, Constant, Negative, OfEnum, Default, NoKey, case_key, ids_of}
use Rattle.ksv_schema.specs.Faults.{unknown_name, no_byte_order, wrong_count, no_expression}
use Rattle.ksv_schema.specs.Values.{FieldKeys, position_at, name_fault, least_name, of_expression, arguments, of_path, enumeration, of_piece, item, contents}
use Rattle.ksv_schema.specs.Values.{order_at, encoding_at, of_language, counts_differ, of_type, of_case_key, case_value, case_against, case, switch, typed}
use Rattle.ksv_schema.specs.Values.{content_or_type, choice}
use Rattle.ksv_schema.specs.Description.{in_content, in_choice}
use Rattle.ksv_schema.proofs.Good.{front, not_if, IsGood, gives_good, wrong_good, found_good, also_good, made_good, both_good, if_good, or_good, perhaps_good}
use Rattle.ksv_schema.proofs.Good.{must_good, weaker, text_good, mapping_good, EachOf, each_good}

-- ---- what leads somewhere

-- it holds in each description that fits what is declared and has these names
abbrev pub Leads : {A : Type 0} → Context → (Description → A → Type 0) → A → Type 0
Leads c Q x = (y : Description) → y.names ≡ c.names → Fits c.declared y → Q y x

-- something optional leads somewhere if it is there
pub any_leads : {A B : Type 0} (c : Context) (Q : Description → B → Type 0) (f : A → B) (o : Option A) → IfAny (λ x. Leads c Q (f x)) o
    → Leads c (λ y. IfAny (Q y)) (option_map f o)
any_leads c Q f None g y s fits = tt
any_leads c Q f (Some x) g y s fits = g y s fits

each_leads : {A B X : Type 0} (c : Context) (Q : Description → B → Type 0) (f : A → B) (n : ℕ) (ps : List X) (xs : List A)
    → EachOf (λ i p x. Leads c Q (f x)) n ps xs → Leads c (λ y. Each (Q y)) (map f xs)
each_leads c Q f n [] [] g y s fits = tt
each_leads c Q f n (p ∷ ps) (x ∷ xs) g y s fits = (g.0 y s fits, each_leads c Q f (n + 1) ps xs g.1 y s fits)
each_leads c Q f n _ _ g y s fits = absurd g

-- where a mapping is, and the names
abbrev pub in_home : List (List ℕ) → Home → Context
in_home names h = record { declared = h.declared; names = names; within = h.within }

abbrev pub IsTree : Context → expressions.Tree → Type 0
IsTree c e = Leads c IsResolvedTree (in_tree c e)

abbrev pub IsEnumThere : Context → ℕ → Type 0
IsEnumThere c e = Leads c IsEnum e

abbrev pub IsContent : Context → Content → Type 0
IsContent c x = Leads c IsResolvedContent (in_content c x)

abbrev pub IsChoice : Context → Choice → Type 0
IsChoice c x = Leads c IsResolvedChoice (in_choice c x)

pub any_enum : (c : Context) (e : Option ℕ) → IfAny (IsEnumThere c) e → Leads c (λ y. IfAny (IsEnum y)) e
any_enum c None g y s fits = tt
any_enum c (Some e) g y s fits = g y s fits

-- a type whose value is a text
abbrev pub is_text : TypeText → Bool
is_text t = is_str t || is_strz t

-- ---- numbers of enums

behind_within : (types enums : List Row) (n : ℕ) (path : List (List ℕ)) (name : List ℕ) (e : ℕ) → enum_behind types enums n path name ≡ Some e
    → e < length enums
unfolding enum_behind
behind_within types enums n [] name e h = nearest_within types enums name n e h
behind_within types enums n (first ∷ path) name e h = let m =
    is_bound (row_in enums name) (type_named types n (first ∷ path)) e h in row_within enums name m.0 e m.2

enum_within : (types enums : List Row) (n : ℕ) (before path : List (List ℕ)) (e : ℕ) → enum_from types enums n before path ≡ Some e → e < length enums
enum_within types enums n before [] e h = absurd cc
enum_within types enums n before (name ∷ []) e h = behind_within types enums n before name e h
enum_within types enums n before (name ∷ next ∷ names) e h = enum_within types enums n (before ++ name ∷ []) (next ∷ names) e h

-- ---- the least fault of names

some_least : (k : NameFault) (ks : List NameFault) → (j : NameFault) × (least (Some k) ks ≡ Some j)
unfolding least
some_least k [] = (k, refl)
some_least Unknown (l ∷ ls) = some_least Unknown ls
some_least LeftOut (l ∷ ls) = some_least l ls

no_names : (line : ℕ) (ks : List NameFault) → least_name line ks ≡ [] → ks ≡ []
unfolding least
no_names line [] h = refl
no_names line (k ∷ ks) h =
    let r = some_least k ks in
    let e : [] ≡ name_fault line r.0 ∷ [] = sym h ∙ ap (λ (o : Option NameFault). option_to_list (option_map (name_fault line) o)) r.1 in absurd cc

count_kept : (c : Context) (es : expressions.Arguments) → count (all_numbered c.declared c.names c.within es) ≡ count es
unfolding all_numbered
count_kept c expressions.no_arguments = refl
count_kept c (expressions.argument e es) = ap suc (count_kept c es)

-- ---- what is read in a mapping

module _ (names : List (List ℕ)) (h : Home) where
  abbrev c : Context
  c = in_home names h

  -- expressions

  pub of_expression_good : (at : Site) (line : ℕ) (o : Option expressions.Tree) → IsGood names (IsTree c) (of_expression h at line o)
  unfolding of_expression name_faults
  of_expression_good at line None = wrong_good line no_expression
  of_expression_good at line (Some e) =
      record { is = λ k w y s fits. rw (← s) (resolved h.declared y h.within (position_at h at) fits Nothing e (rw (← s) at w) (no_names line _ k)) }

  pub expression_good : (site : Site) (p : Pair) → IsGood names (IsTree c) (expression h site p)
  unfolding expression
  expression_good site p = text_good _ p (λ text t. of_expression_good site p.line (expression_of text))

  arguments_good : (line : ℕ) (es : expressions.Arguments)
      → IsGood names (λ fs. (fs ≡ es) × Leads c AreResolvedTrees (all_numbered h.declared names h.within fs)) (arguments h line es)
  unfolding arguments
  arguments_good line es =
      record {
        is = λ k w.
            (refl, λ y s fits. rw (← s) (all_resolved h.declared y h.within (position_at h sites.Argument) fits es (rw (← s) at w) (no_names line _ k)));
      }

  -- enums

  of_path_good : (line : ℕ) (o : Option (List (List ℕ))) → IsGood names (IsEnumThere c) (of_path h line o)
  of_path_good line None = wrong_good line bad_value
  of_path_good line (Some path) = found_good line unknown_name _
      (λ e f y s fits. let l = enum_within h.declared.types h.declared.enums h.within [] path e f in omega (arith, l, fits.enums))

  pub enumeration_good : (p : Pair) → IsGood names (IsEnumThere c) (enumeration h p)
  unfolding enumeration
  enumeration_good p = text_good _ p (λ text t. of_path_good p.line (ids_of text))

  -- contents

  piece_good : (line : ℕ) (p : Piece) → IsGood names (λ bs. Unit {0}) (of_piece line p)
  piece_good line (BytesPiece bs) = gives_good bs tt
  piece_good line BadPiece = wrong_good line bad_value
  piece_good line LeftOutPiece = wrong_good line left_out

  items_good : (ts : List Tree) → IsGood names (λ bs. Unit {0}) (items ts)
  unfolding item
  items_good [] = gives_good [] tt
  items_good (t ∷ ts) = made_good (λ p. p.0 ++ p.1) (both_good (piece_good (line_of t) (piece_of t)) (items_good ts)) (λ p g. tt)

  contents_good : (p : Pair) → IsGood names (λ bs. Unit {0}) (contents p)
  unfolding contents
  contents_good p =
      or_good _ (text_of p.value) _
      (λ text t. if_good (not (is_quoted p.value) && looks_like_number text) _ _ (λ b. wrong_good p.line left_out) (λ b. gives_good text tt))
      (λ t. or_good items (list_of p.value) _ (λ ts l. items_good ts) (λ l. wrong_good p.line bad_value))

  -- types

  -- an attribute of these keys has an encoding
  abbrev pub IsEncoded : List Pair → Type 0
  IsEncoded es = is_some (encoding_at h es) ≡ true

  -- one that is read as a text has
  abbrev pub HasText : List Pair → Type 0
  HasText es = (p : Pair) (text : List ℕ) → entry_at (codes "type") es ≡ Some p → text_of p.value ≡ Some text → is_text (type_text text) ≡ true → IsEncoded es

  characters : (o : Option Encoding) → is_some o ≡ true → IsThere (IsContent c) (option_map Characters o)
  characters None i = absurd cc
  characters (Some e) i = λ y s fits. tt

  abbrev keys_of : List Pair → Option ℕ → List Pair → FieldKeys
  keys_of beside enum es = record { home = h; entries = es; beside = beside; enum = enum }

  of_language_good : (beside : List Pair) (enum : Option ℕ) (es : List Pair) (line : ℕ) (b : BuiltIn) (given : expressions.Arguments)
      → IfAny (IsEnumThere c) enum → (is_text (OfLanguage b given) ≡ true → IsEncoded es)
      → IsGood names (IsContent c) (of_language (keys_of beside enum es) line b)
  of_language_good beside enum es line (Integer signed bytes order) given e t =
      made_good (λ order. Number signed bytes order enum) (found_good {G = λ order. Unit {0}} line no_byte_order (order_at h bytes order) (λ order f. tt))
      (λ order g. any_enum c enum e)
  of_language_good beside enum es line (BitsType width is_little) given e t =
      if_good is_little _ _ (λ b. wrong_good line left_out) (λ b. gives_good (Bits width enum) (any_enum c enum e))
  of_language_good beside enum es line Str given e t = record { is = λ k w. characters (encoding_at h es) (t refl) }
  of_language_good beside enum es line Strz given e t = record { is = λ k w. characters (encoding_at h es) (t refl) }
  of_language_good beside enum es line NotHere given e t = wrong_good line left_out

  -- as many arguments as parameters
  as_many : (given line t : ℕ) (n : Option ℕ) → fault_if (counts_differ h given n) line wrong_count ≡ [] → n ≡ Some t
      → length (parameters_within h.declared.types t) ≡ given
  as_many given line t n k e =
      (Decides-eqb (length (parameters_within h.declared.types t)) given).0
      (not-false (length (parameters_within h.declared.types t) == given)
      (ap (counts_differ h given) (sym e) ∙ not_if (counts_differ h given n) line wrong_count k))

  of_type_good : (beside : List Pair) (enum : Option ℕ) (es : List Pair) (line : ℕ) (t : TypeText) → IfAny (IsEnumThere c) enum
      → (is_text t ≡ true → IsEncoded es) → IsGood names (IsContent c) (of_type (keys_of beside enum es) line t)
  unfolding of_type
  of_type_good beside enum es line Unspelled e i = wrong_good line no_expression
  of_type_good beside enum es line (OfLanguage b given) e i =
      also_good _ _ (λ k. made_good (λ p. p.1) (both_good (arguments_good line given) (of_language_good beside enum es line b given e i)) (λ p g. g.1))
  of_type_good beside enum es line (OfDescription t given) e i = also_good _ _ (λ k.
      made_good (λ p. Object p.0 p.1)
      (both_good (found_good line unknown_name (type_named h.declared.types h.within t.path) (λ n f. f)) (arguments_good line given))
      (λ p g y s fits.
      let below = type_within h.declared.types h.within t.path p.0 g.0 in
      record {
        type = omega (arith, below, fits.types);
        as_many = count_kept c p.1 ∙ ap count g.1.0 ∙ sym (as_many (count given) line p.0 _ k g.0)
            ∙ fits.parameters p.0 below;
        arguments = g.1.1 y s fits;
      }))

  -- switches

  of_case_key_good : (line : ℕ) (v : CaseKey) → IsGood names (Leads c (λ y. IfAny (IsResolvedValue y))) (of_case_key h line v)
  unfolding of_case_key
  of_case_key_good line (Constant k) = gives_good _ (λ y s fits. tt)
  of_case_key_good line (Negative n) = gives_good _ (λ y s fits. tt)
  of_case_key_good line (OfEnum m) = made_good (λ g. Some (EnumValue g)) (found_good line unknown_name (given_member h.declared h.within m) (λ g f. f))
      (λ g f y s fits. given_leads h.declared y fits h.within m g f)
  of_case_key_good line Default = gives_good None (λ y s fits. tt)
  of_case_key_good line NoKey = wrong_good line bad_value

  case_value_good : (line : ℕ) (o : Option expressions.Tree) → IsGood names (Leads c (λ y. IfAny (IsResolvedValue y))) (case_value h line o)
  unfolding case_value
  case_value_good line None = wrong_good line no_expression
  case_value_good line (Some e) = of_case_key_good line (case_key e)

  -- a case has no text
  no_text : (es : List Pair) (line : ℕ) (t : TypeText) → case_against h es line t ≡ [] → is_text t ≡ true → ⊥
  unfolding case_against
  no_text es line t k = both_ways (is_text t) (not_if (is_text t) line left_out (front _ _ (front _ _ (front _ _ (front _ _ (front _ _ k))))))

  case_good : (beside : List Pair) (enum : Option ℕ) (es : List Pair) (p : Pair) → IfAny (IsEnumThere c) enum
      → IsGood names (λ x. Leads c IsResolvedCase (in_case c x)) (case (keys_of beside enum es) p)
  unfolding case
  case_good beside enum es p e =
      made_good _ (both_good (case_value_good p.line (expression_of p.key))
      (text_good _ p (λ text t. also_good _ _
      (λ k. of_type_good beside enum es p.line (type_text text) e (λ b. absurd (no_text beside p.line (type_text text) k b))))))
      (λ p g y s fits. (g.0 y s fits, g.1 y s fits))

  switch_good : (beside : List Pair) (enum : Option ℕ) (es : List Pair) (line : ℕ) (keys : List Pair) → IfAny (IsEnumThere c) enum
      → IsGood names (IsChoice c) (switch (keys_of beside enum es) line keys)
  unfolding switch
  switch_good beside enum es line keys e = also_good _ _ (λ k.
      made_good (λ p. Switch p.0 p.1)
      (both_good (must_good line (expression h sites.Switch) (entry_at (codes "switch-on") keys) (expression_good sites.Switch))
      (must_good line _ (entry_at (codes "cases") keys) (λ p. mapping_good _ p (λ ps. has_cases ps))))
      (λ p g y s fits. (g.0 y s fits, g.1 y s fits)))
    where
      has_cases : (ps : List Pair) → IsGood names (λ cs. Leads c (λ y. Each (IsResolvedCase y)) (map (in_case c) cs)) (each (case (keys_of beside enum es)) ps)
      has_cases ps = weaker (each_good (case (keys_of beside enum es)) ps (λ p. case_good beside enum es p e))
          (λ cs g. each_leads c IsResolvedCase (in_case c) 0 ps cs g)

  -- what an attribute reads: if its type is a text, it has an encoding
  typed_good : (beside : List Pair) (enum : Option ℕ) (es : List Pair) (p : Pair) → IfAny (IsEnumThere c) enum
      → ((text : List ℕ) → text_of p.value ≡ Some text → is_text (type_text text) ≡ true → IsEncoded es)
      → IsGood names (IsChoice c) (typed (keys_of beside enum es) p)
  unfolding typed
  typed_good beside enum es p e i =
      or_good _ (mapping_of p.value) _ (λ keys m. switch_good beside enum es (line_of p.value) keys e)
      (λ m. made_good Always (text_good _ p (λ text t. of_type_good beside enum es p.line (type_text text) e (i text t))) (λ x g. g))

  chosen_leads : (p : Option (List ℕ) × Option Choice) → IfAny (IsChoice c) p.1 → IsChoice c (content_or_type p)
  chosen_leads (Some bytes, o) g y s fits = tt
  chosen_leads (None, Some x) g y s fits = g y s fits
  chosen_leads (None, None) g y s fits = tt

  pub choice_good : (beside : List Pair) (enum : Option ℕ) (es : List Pair) → IfAny (IsEnumThere c) enum → HasText es
      → IsGood names (IsChoice c) (choice (keys_of beside enum es))
  unfolding choice
  choice_good beside enum es e i =
      made_good content_or_type
      (both_good (perhaps_good contents (entry_at (codes "contents") es) (λ p t. contents_good p))
      (perhaps_good (typed (keys_of beside enum es)) (entry_at (codes "type") es) (λ p t. typed_good beside enum es p e (λ text. i p text t))))
      (λ p g. chosen_leads p g.1.0)
