-- What is read of a member is good: it leads somewhere, and it is a parameter or isn't.
use Rattle.ksv_schema.proofs.Common.{◌≡◌, ℕ, Bool, true, false, cond, List, [], refl, Option, Some, None, codes, ◌||◌, is_some, option_map_or, Pair, entry_at}
use Rattle.ksv_schema.proofs.Common.{text_at, ◌>>=◌, Declared, IfAny, IsThere, IsResolvedTree, MappingKind, form_among, form_in, is_ignored, missing_key}
use Rattle.ksv_schema.proofs.Common.{left_out, form_faults, keys_faults, Home, expression, Context, in_tree}
use Rattle.std.specs.Prelude.{option_map}
use Rattle.ksv_yaml_tree.specs.Keys.{has, says}
use Rattle.ksv_expr_tree.specs.Tree as expressions
use Rattle.ksv_schema_names.specs.declared.members.Role.{Role}
use Rattle.ksv_schema_names.specs.declared.members.Role.TheVariants as roles
use Rattle.ksv_schema_names.specs.Members.{is_in_params}
use Rattle.ksv_schema_names.specs.Types.{encoding_of}
use Rattle.ksv_schema_names.specs.declared.position.Site.TheVariants as sites
use Rattle.ksv_desc.specs.Description.{Extent, SizeEos, ByItself, Repeat, Once, Eos, Expr, Until, Valid, Field, MemberKind, Parameter}
use Rattle.ksv_desc.specs.Resolved.{is_parameter, IsResolvedExtent, IsResolvedRepeat, IsResolvedValid, IsResolvedField, IsResolvedKind}
use Rattle.ksv_schema.specs.declared.keys.forms.Form.TheVariants as forms
use Rattle.ksv_schema.specs.declared.keys.forms.MappingKind.TheVariants as kinds
use Rattle.ksv_schema.specs.declared.keys.forms.Group.TheVariants as groups
use Rattle.ksv_schema.specs.Keys.{is_in, kind_of}
use Rattle.ksv_schema.specs.KeyTexts.{encoding_named, is_str, is_strz, own_type, is_a, is_to_end}
use Rattle.ksv_schema.specs.Values.{once, enumeration, own_enum, encoding_at}
use Rattle.ksv_schema.specs.Members.{conditioned, parts, repeat_of, repeated, extent_of, extent, has_encoding, needs, field, own_field, attribute}
use Rattle.ksv_schema.specs.Members.{parse_instance, value_instance, placeless, by_kind}
use Rattle.ksv_schema.specs.Description.{in_valid, in_extent, in_repeat, in_field, in_kind}
use Rattle.ksv_schema.proofs.Good.{front, back, implies, there_map, IsGood, gives_good, also_good, chosen_good, made_good, after_good, both_good, weaker}
use Rattle.ksv_schema.proofs.Good.{perhaps_good, must_good}
use Rattle.ksv_schema.proofs.FaultlessKeys.{text_fits, HasRepeat, has_repeat}
use Rattle.ksv_schema.proofs.GoodValues.{Leads, any_leads, in_home, IsTree, IsEnumThere, any_enum, expression_good, enumeration_good, HasText, choice_good}
use Rattle.ksv_schema.proofs.GoodValid.{IsValid, own_valid_good}

-- each encoding in force is one of those that there are
abbrev pub AreEncodings : Declared → Type 0
AreEncodings d = (n : ℕ) (text : List ℕ) → encoding_of d.types n ≡ Some text → is_some (encoding_named text) ≡ true

-- a member leads somewhere, and is a parameter or isn't
pub record IsKind (c : Context) (is_given : Bool) (k : MemberKind) : Type 0 where
  pub leads : Leads c IsResolvedKind (in_kind c k)
  pub given : (name : ℕ) → is_parameter (record { name = name; kind = in_kind c k }) ≡ is_given

module _ (names : List (List ℕ)) (h : Home) where
  abbrev c : Context
  c = in_home names h

  -- ---- encodings

  -- an attribute has an encoding if its type is a text
  is_encoded : (kind : MappingKind) (line : ℕ) (es : List Pair) → AreEncodings h.declared → form_in kind (codes "encoding") ≡ Some forms.Coding
      → keys_faults kind es ≡ [] → needs h line (own_type es) es ≡ [] → HasText names h es
  unfolding needs encoding_at form_faults is_ignored
  is_encoded kind line es a f k n p text e t b =
      go (text_at (codes "encoding") es) (encoding_of h.declared.types h.within)
      (λ text t. text_fits kind (codes "encoding") forms.Coding (λ text. is_some (encoding_named text)) left_out es text (λ p. refl) refl f k t)
      (a h.within)
      (implies (is_a is_str (own_type es) || is_a is_strz (own_type es)) (has_encoding h es) line missing_key (back _ _ n) (rw (e, t) b))
    where
      go : (own outer : Option (List ℕ)) → ((text : List ℕ) → own ≡ Some text → is_some (encoding_named text) ≡ true)
          → ((text : List ℕ) → outer ≡ Some text → is_some (encoding_named text) ≡ true) → (is_some own || is_some outer) ≡ true
          → is_some (option_map_or (λ (text : List ℕ). let r : Option (List ℕ) = Some text in r) own outer >>= encoding_named) ≡ true
      go (Some text) outer f g x = f text refl
      go None (Some text) f g x = g text refl
      go None None f g x = absurd cc

  -- ---- conditions

  abbrev AreConditions : Option expressions.Tree × Option Valid → Type 0
  AreConditions p = IfAny (IsTree c) p.0 × IfAny (IsValid c) p.1

  conditioned_good : (es : List Pair) → IsGood names AreConditions (conditioned h es)
  conditioned_good es =
      weaker (both_good (perhaps_good (expression h sites.Condition) (entry_at (codes "if") es) (λ p e. expression_good names h sites.Condition p))
      (own_valid_good names h es)) (λ p g. (g.0.0, g.1))

  -- ---- parts

  abbrev IsRepeat : Repeat → Type 0
  IsRepeat r = Leads c IsResolvedRepeat (in_repeat c r)

  repeated_good : (es : List Pair) → HasRepeat es → IsGood names IsRepeat (repeated h es)
  unfolding repeated repeat_of
  repeated_good es r =
      chosen_good _
      (both_good (perhaps_good _ (entry_at (codes "repeat-expr") es) (λ p e. expression_good names h sites.Count p))
      (perhaps_good _ (entry_at (codes "repeat-until") es) (λ p e. expression_good names h sites.Until p)))
      (λ p g. go p.0 p.1 (says (codes "repeat") (codes "eos") es) (says (codes "repeat") (codes "expr") es) (says (codes "repeat") (codes "until") es)
      (λ x. g.0.1 (r.count x)) (λ x. g.1.1 (r.until x)))
    where
      go : (count until : Option expressions.Tree) (eos by_count by_end : Bool) → (by_count ≡ true → IsThere (IsTree c) count)
          → (by_end ≡ true → IsThere (IsTree c) until)
          → IsThere IsRepeat (cond eos (Some Eos) (cond by_count (option_map Expr count) (cond by_end (option_map Until until) (Some Once))))
      go count until true by_count by_end x y = λ y s fits. tt
      go count until false true by_end x y = there_map (IsTree c) IsRepeat Expr count (λ e g. g) (x refl)
      go count until false false true x y = there_map (IsTree c) IsRepeat Until until (λ e g. g) (y refl)
      go count until false false false x y = λ y s fits. tt

  abbrev IsExtent : Extent → Type 0
  IsExtent e = Leads c IsResolvedExtent (in_extent c e)

  extent_good : (es : List Pair) → IsGood names IsExtent (extent h es)
  extent_good es = made_good (extent_of es) (perhaps_good _ (entry_at (codes "size") es) (λ p e. expression_good names h sites.Size p)) (λ o g. leads o g.0)
    where
      at_end : (b : Bool) → IsExtent (cond b SizeEos ByItself)
      at_end true y s fits = tt
      at_end false y s fits = tt

      leads : (o : Option expressions.Tree) → IfAny (IsTree c) o → IsExtent (extent_of es o)
      leads (Some e) g = g
      leads None g = at_end (is_to_end es)

  abbrev IsField : Field → Type 0
  IsField f = Leads c IsResolvedField (in_field c f)

  parts_good : (enum : Option ℕ) (es : List Pair) → IfAny (IsEnumThere c) enum → HasText names h es → HasRepeat es
      → IsGood names IsField (parts (record { home = h; entries = es; beside = es; enum = enum }))
  unfolding parts
  parts_good enum es e i r =
      made_good _
      (both_good (both_good (both_good (conditioned_good es) (repeated_good es r)) (choice_good names h es enum es e i))
      (extent_good es))
      (λ p g y s fits. record {
        condition = any_leads c IsResolvedTree (in_tree c) p.0.0.0.0 g.0.0.0.0 y s fits;
        repeat = g.0.0.1 y s fits;
        choice = g.0.1 y s fits;
        extent = g.1 y s fits;
        valid = any_leads c IsResolvedValid (in_valid c) p.0.0.0.1 g.0.0.0.1 y s fits;
      })

  -- ---- fields

  -- a mapping of what is read
  record HasFieldKeys (kind : MappingKind) : Type 0 where
    encoding : form_in kind (codes "encoding") ≡ Some forms.Coding
    read : is_in groups.Read kind ≡ true

  field_good : (kind : MappingKind) (line : ℕ) (enum : Option ℕ) (es : List Pair) → HasFieldKeys kind → AreEncodings h.declared → keys_faults kind es ≡ []
      → IfAny (IsEnumThere c) enum → IsGood names IsField (field h kind line enum (own_type es) es)
  unfolding field
  field_good kind line enum es f a k e = also_good _ _ (λ n.
      parts_good enum es e (is_encoded kind line es a f.encoding k (back _ _ (front _ _ n)))
      (has_repeat kind line (own_type es) es f.read (front _ _ (front _ _ n))))

  -- ---- kinds of members

  own_enum_good : (es : List Pair) → IsGood names (λ e. IfAny (IsEnumThere c) e) (own_enum h es)
  own_enum_good es = weaker (perhaps_good (enumeration h) (entry_at (codes "enum") es) (λ p e. enumeration_good names h p)) (λ e g. g.0)

  enum_there : (o : Option (Option ℕ)) → IsThere (λ e. IfAny (IsEnumThere c) e) o → IfAny (IsEnumThere c) (option_map_or (λ e. e) o None)
  enum_there None g = absurd g
  enum_there (Some e) g = g

  own_field_good : (kind : MappingKind) (line : ℕ) (es : List Pair) → HasFieldKeys kind → AreEncodings h.declared → keys_faults kind es ≡ []
      → IsGood names IsField (own_field h kind line es)
  own_field_good kind line es f a k = after_good (own_enum_good es) (λ e. field_good kind line _ es f a k (enum_there (own_enum h es).value e))

  attribute_good : (line : ℕ) (es : List Pair) → AreEncodings h.declared → keys_faults kinds.Attribute es ≡ []
      → IsGood names (IsKind c false) (attribute h line es)
  unfolding attribute form_in form_among
  attribute_good line es a k = made_good _ (own_field_good kinds.Attribute line es (record { encoding = refl; read = refl }) a k)
      (λ p g. record { leads = g; given = λ name. refl })

  parse_instance_good : (line : ℕ) (es : List Pair) → AreEncodings h.declared → keys_faults kinds.ParseInstance es ≡ []
      → IsGood names (IsKind c false) (parse_instance h line es)
  unfolding parse_instance form_in form_among
  parse_instance_good line es a k =
      made_good _
      (both_good
      (both_good (must_good line (expression h sites.Place) (entry_at (codes "pos") es) (λ p. expression_good names h sites.Place p))
      (perhaps_good (expression h sites.Stream) (entry_at (codes "io") es) (λ p e. expression_good names h sites.Stream p)))
      (own_field_good kinds.ParseInstance line es (record { encoding = refl; read = refl }) a k))
      (λ p g. record {
        leads = λ y s fits. (g.0.0 y s fits, any_leads c IsResolvedTree (in_tree c) p.0.1 g.0.1.0 y s fits, g.1 y s fits);
        given = λ name.
            refl;
      })

  value_instance_good : (line : ℕ) (es : List Pair) → IsGood names (IsKind c false) (value_instance h line es)
  unfolding value_instance
  value_instance_good line es = also_good _ _ (λ k.
      made_good _
      (both_good
      (both_good (conditioned_good es) (must_good line (expression h sites.Value) (entry_at (codes "value") es) (λ p. expression_good names h sites.Value p)))
      (own_enum_good es))
      (λ p g. record {
        leads = λ y s fits. (
          any_leads c IsResolvedTree (in_tree c) p.0.0.0 g.0.0.0 y s fits,
          g.0.1 y s fits,
          any_enum c p.1 g.1 y s fits,
          any_leads c IsResolvedValid
              (in_valid c) p.0.0.1 g.0.0.1 y s fits,
        );
        given = λ name. refl;
      }))

  placeless_good : (name_line : ℕ) (es : List Pair) → IsGood names (IsKind c false) (placeless h name_line es)
  unfolding placeless
  placeless_good name_line es = record { is = λ k w. absurd cc }

module _ (names : List (List ℕ)) (h : Home) where
  pub kind_good : (role : Role) (name_line line : ℕ) (es : List Pair) → AreEncodings h.declared → keys_faults (kind_of role es) es ≡ []
      → IsGood names (IsKind (in_home names h) (is_in_params role)) (by_kind h (kind_of role es) name_line line es)
  unfolding by_kind
  kind_good roles.Parameter name_line line es a k = also_good _ _ (λ n. gives_good Parameter (record { leads = λ y s fits. tt; given = λ name. refl }))
  kind_good roles.Attribute name_line line es a k = attribute_good names h line es a k
  kind_good roles.Instance name_line line es a k = go (has (codes "value") es) (has (codes "pos") es) k
    where
      go : (v p : Bool) → keys_faults (cond v kinds.Value (cond p kinds.ParseInstance kinds.Placeless)) es ≡ []
          → IsGood names (IsKind (in_home names h) false) (by_kind h (cond v kinds.Value (cond p kinds.ParseInstance kinds.Placeless)) name_line line es)
      go true p k = value_instance_good names (once h) line es
      go false true k = parse_instance_good names h line es a k
      go false false k = placeless_good names h name_line es
