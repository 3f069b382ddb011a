-- What is read at `valid`: what a value must meet, as conditions in which `_` is that value.
use Rattle.std.specs.Prelude.{ℕ, Bool, List, [], ◌∷◌, ◌++◌, codes, Option, Some, None, option_to_list}
use Rattle.std.specs.List.{list_all}
use Rattle.std.specs.Option.{option_map_or}
use Rattle.ksv_yaml_tree.specs.Tree.{Tree, Pair, line_of, text_of, mapping_of, list_of, entry_at}
use Rattle.ksv_expr_tree.specs.declared.tree.BinaryOperator.{BinaryOperator}
use Rattle.ksv_expr_tree.specs.declared.tree.BinaryOperator.TheVariants.{Equal, GreaterOrEqual, LessOrEqual}
use Rattle.ksv_expr_tree.specs.declared.tree.SpecialName.TheVariants.{Element}
use Rattle.ksv_expr_tree.specs.Tree as expressions
use Rattle.ksv_schema_names.specs.declared.position.Site.TheVariants as sites
use Rattle.ksv_desc.specs.Description.{Valid, AnyOf, AllOf}
use Rattle.ksv_schema.specs.declared.keys.forms.MappingKind.TheVariants as kinds
use Rattle.ksv_schema.specs.Keys.{is_ignored}
use Rattle.ksv_schema.specs.Expressions.{expression_of}
use Rattle.ksv_schema.specs.Faults.{fault_if, missing_key, bad_value}
use Rattle.ksv_schema.specs.Reading.{Reading, wrong, also, made, both, each, perhaps}
use Rattle.ksv_schema.specs.Rules.{keys_faults, together}
use Rattle.ksv_schema.specs.Values.{Home, of_expression, expression}

-- ---- one condition

-- the value, compared with an expression
abbrev pub compared : BinaryOperator → expressions.Tree → expressions.Tree
compared operator e = expressions.binary operator (expressions.special Element) e

-- the expression at a key, with which the value is compared; in what is written there `_` has no meaning
abbrev pub comparison : Home → BinaryOperator → Pair → Reading expressions.Tree
comparison h operator p = made (compared operator) (expression h sites.Valid p)

-- ---- one of some conditions

-- an item of `any-of`
unfoldable pub alternative : Home → Tree → Reading expressions.Tree
alternative h t =
    made (compared Equal)
    (option_map_or (λ text. of_expression h sites.Valid (line_of t) (expression_of text)) (text_of t) (wrong (line_of t) bad_value))

-- a list of one or more, at a key on this line
abbrev pub some_alternatives : Home → ℕ → List Tree → Reading (List expressions.Tree)
some_alternatives h line [] = wrong line bad_value
some_alternatives h line (t ∷ ts) = each (alternative h) (t ∷ ts)

unfoldable pub alternatives : Home → Pair → Reading (List expressions.Tree)
alternatives h p = option_map_or (some_alternatives h p.line) (list_of p.value) (wrong p.line bad_value)

-- `eq` is one condition, and `any-of` some
abbrev pub one_or_some : Option expressions.Tree × Option (List expressions.Tree) → Option (List expressions.Tree)
one_or_some (Some e, es) = Some (e ∷ [])
one_or_some (None, es) = es

abbrev pub any_of : Home → List Pair → Reading (Option (List expressions.Tree))
any_of h es = made one_or_some (both (perhaps (comparison h Equal) (entry_at (codes "eq") es)) (perhaps (alternatives h) (entry_at (codes "any-of") es)))

-- ---- all of some conditions

-- `min` comes before `max`, in whichever order they are written
abbrev pub bounds : Home → List Pair → Reading (Option expressions.Tree × Option expressions.Tree)
bounds h es = both (perhaps (comparison h GreaterOrEqual) (entry_at (codes "min") es)) (perhaps (comparison h LessOrEqual) (entry_at (codes "max") es))

abbrev pub in_order : Option expressions.Tree × (Option expressions.Tree × Option expressions.Tree) → List expressions.Tree
in_order p = option_to_list p.0 ++ option_to_list p.1.0 ++ option_to_list p.1.1

-- `expr`, in which `_` is the value, or the bounds
abbrev pub all_of : Home → List Pair → Reading (List expressions.Tree)
all_of h es = made in_order (both (perhaps (expression h sites.ValidExpr) (entry_at (codes "expr") es)) (bounds h es))

-- ---- at the key

-- no key but ignored ones
abbrev pub has_no_key : List Pair → Bool
has_no_key es = list_all (λ p. is_ignored p.key) es

abbrev pub any_or_all : Option (List expressions.Tree) × List expressions.Tree → Valid
any_or_all (Some any, all) = AnyOf any
any_or_all (None, all) = AllOf all

-- a mapping of this line: exactly one of `eq`, `any-of`, `expr`, and `min` or `max` or both
unfoldable pub conditions : Home → ℕ → List Pair → Reading Valid
conditions h line es =
    also (keys_faults kinds.Check es ++ fault_if (has_no_key es) line missing_key ++ together kinds.Check line None es)
    (made any_or_all (both (any_of h es) (all_of h es)))

-- a text is that of `eq`
unfoldable pub valid : Home → Pair → Reading Valid
valid h p =
    option_map_or (conditions h (line_of p.value)) (mapping_of p.value)
    (made (λ e. AnyOf (e ∷ [])) (comparison h Equal p))

-- what is at the key `valid`
abbrev pub own_valid : Home → List Pair → Reading (Option Valid)
own_valid h es = perhaps (valid h) (entry_at (codes "valid") es)
