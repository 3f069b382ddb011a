-- What is read at `valid` is good: it leads somewhere once its names have their numbers.
use Rattle.ksv_schema.proofs.Common.{ℕ, List, [], ◌∷◌, Option, Some, None, codes, Tree, Pair, line_of, text_of, mapping_of, list_of, entry_at, Each, IfAny}
use Rattle.ksv_schema.proofs.Common.{IsResolvedTree, expression_of, bad_value, Home, Context, in_tree}
use Rattle.std.specs.Prelude.{◌++◌, map, option_to_list}
use Rattle.ksv_expr_tree.specs.Tree as expressions
use Rattle.ksv_expr_tree.specs.declared.tree.BinaryOperator.{BinaryOperator}
use Rattle.ksv_expr_tree.specs.declared.tree.BinaryOperator.TheVariants.{Equal, GreaterOrEqual, LessOrEqual}
use Rattle.ksv_schema_names.specs.declared.position.Site.TheVariants as sites
use Rattle.ksv_schema_names.specs.Numbered.{numbered}
use Rattle.ksv_desc.specs.Description.{Valid, AnyOf}
use Rattle.ksv_desc.specs.Resolved.{IsResolvedValid}
use Rattle.ksv_schema.specs.Valid.{compared, comparison, alternative, some_alternatives, alternatives, one_or_some, any_of, in_order, all_of, any_or_all}
use Rattle.ksv_schema.specs.Valid.{conditions, valid, own_valid}
use Rattle.ksv_schema.specs.Description.{in_valid}
use Rattle.ksv_schema.proofs.Good.{IsGood, wrong_good, also_good, made_good, both_good, or_good, perhaps_good, weaker, each_good, each_second, each_and}
use Rattle.ksv_schema.proofs.GoodValues.{Leads, in_home, IsTree, of_expression_good, expression_good}

-- each of these conditions leads somewhere
abbrev AreTrees : Context → List expressions.Tree → Type 0
AreTrees c es = Each (IsTree c) es

abbrev pub IsValid : Context → Valid → Type 0
IsValid c v = Leads c IsResolvedValid (in_valid c v)

compared_leads : (c : Context) (operator : BinaryOperator) (e : expressions.Tree) → IsTree c e → IsTree c (compared operator e)
unfolding numbered
compared_leads c operator e g y s fits = (tt, g y s fits)

trees_lead : (c : Context) (es : List expressions.Tree) → AreTrees c es → Leads c (λ y. Each (IsResolvedTree y)) (map (in_tree c) es)
trees_lead c [] g y s fits = tt
trees_lead c (e ∷ es) g y s fits = (g.0 y s fits, trees_lead c es g.1 y s fits)

one_or_some_lead : (c : Context) (p : Option expressions.Tree × Option (List expressions.Tree)) → IfAny (IsTree c) p.0 → IfAny (AreTrees c) p.1
    → IfAny (AreTrees c) (one_or_some p)
one_or_some_lead c (Some e, es) g h = (g, tt)
one_or_some_lead c (None, es) g h = h

optional_leads : (c : Context) (o : Option expressions.Tree) → IfAny (IsTree c) o → AreTrees c (option_to_list o)
optional_leads c None g = tt
optional_leads c (Some e) g = (g, tt)

in_order_lead : (c : Context) (p : Option expressions.Tree × (Option expressions.Tree × Option expressions.Tree)) → IfAny (IsTree c) p.0
    → IfAny (IsTree c) p.1.0 → IfAny (IsTree c) p.1.1 → AreTrees c (in_order p)
in_order_lead c p g h k =
    each_and (IsTree c) (option_to_list p.0 ++ option_to_list p.1.0) (option_to_list p.1.1)
    (each_and (IsTree c) (option_to_list p.0) (option_to_list p.1.0) (optional_leads c p.0 g) (optional_leads c p.1.0 h)) (optional_leads c p.1.1 k)

any_or_all_leads : (c : Context) (p : Option (List expressions.Tree) × List expressions.Tree) → IfAny (AreTrees c) p.0 → AreTrees c p.1
    → IsValid c (any_or_all p)
any_or_all_leads c (Some any, all) g h = trees_lead c any g
any_or_all_leads c (None, all) g h = trees_lead c all h

module _ (names : List (List ℕ)) (h : Home) where
  abbrev c : Context
  c = in_home names h

  comparison_good : (operator : BinaryOperator) (p : Pair) → IsGood names (IsTree c) (comparison h operator p)
  comparison_good operator p = made_good (compared operator) (expression_good names h sites.Valid p) (compared_leads c operator)

  -- ---- one of some

  alternative_good : (t : Tree) → IsGood names (IsTree c) (alternative h t)
  unfolding alternative
  alternative_good t =
      made_good (compared Equal)
      (or_good _ (text_of t) _ (λ text e. of_expression_good names h sites.Valid (line_of t) (expression_of text)) (λ e. wrong_good (line_of t) bad_value))
      (compared_leads c Equal)

  some_good : (line : ℕ) (ts : List Tree) → IsGood names (AreTrees c) (some_alternatives h line ts)
  some_good line [] = wrong_good line bad_value
  some_good line (t ∷ ts) = weaker (each_good (alternative h) (t ∷ ts) alternative_good)
      (λ es g. each_second (λ i (t : Tree). IsTree c) (IsTree c) 0 (t ∷ ts) es (λ i t e g. g) g)

  alternatives_good : (p : Pair) → IsGood names (AreTrees c) (alternatives h p)
  unfolding alternatives
  alternatives_good p = or_good _ (list_of p.value) _ (λ ts e. some_good p.line ts) (λ e. wrong_good p.line bad_value)

  any_good : (es : List Pair) → IsGood names (λ o. IfAny (AreTrees c) o) (any_of h es)
  any_good es =
      made_good one_or_some
      (both_good (perhaps_good _ (entry_at (codes "eq") es) (λ p e. comparison_good Equal p))
      (perhaps_good _ (entry_at (codes "any-of") es) (λ p e. alternatives_good p)))
      (λ p g. one_or_some_lead c p g.0.0 g.1.0)

  -- ---- all of some

  all_good : (es : List Pair) → IsGood names (AreTrees c) (all_of h es)
  all_good es =
      made_good in_order
      (both_good (perhaps_good _ (entry_at (codes "expr") es) (λ p e. expression_good names h sites.ValidExpr p))
      (both_good (perhaps_good _ (entry_at (codes "min") es) (λ p e. comparison_good GreaterOrEqual p))
      (perhaps_good _ (entry_at (codes "max") es) (λ p e. comparison_good LessOrEqual p))))
      (λ p g. in_order_lead c p g.0.0 g.1.0.0 g.1.1.0)

  -- ---- at the key

  conditions_good : (line : ℕ) (es : List Pair) → IsGood names (IsValid c) (conditions h line es)
  unfolding conditions
  conditions_good line es = also_good _ _ (λ k. made_good any_or_all (both_good (any_good es) (all_good es)) (λ p g. any_or_all_leads c p g.0 g.1))

  valid_good : (p : Pair) → IsGood names (IsValid c) (valid h p)
  unfolding valid
  valid_good p =
      or_good _ (mapping_of p.value) _ (λ es e. conditions_good (line_of p.value) es)
      (λ e. made_good (λ e. AnyOf (e ∷ [])) (comparison_good Equal p) (λ e g. trees_lead c (e ∷ []) (g, tt)))

  pub own_valid_good : (es : List Pair) → IsGood names (λ o. IfAny (IsValid c) o) (own_valid h es)
  own_valid_good es = weaker (perhaps_good (valid h) (entry_at (codes "valid") es) (λ p e. valid_good p)) (λ o g. g.0)
