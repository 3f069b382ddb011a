-- What reading a text answers is what the text is taken for.
use Rattle.ksv_schema.proofs.Common.{◌≡◌, ℕ, List, Option, Some, None, refl, sym, expression_of}
use Rattle.ksv_expr_tree.specs.Tree.{Tree, TypeTree}
use Rattle.ksv_expr_syntax.specs.Text.{SpellsText, SpellsTypeText}
use Rattle.ksv_schema.specs.Expressions.{type_of}
use Rattle.ksv_schema.proofs.Expressions.{expression_is_spelled, spelled_is_expression, type_is_spelled, spelled_is_type}

pub expression_is : (text : List ℕ) (e : Tree) → SpellsText text e → Some e ≡ expression_of text
expression_is text e s = sym (spelled_is_expression text e s)

pub expression_is_none : (text : List ℕ) → ((e : Tree) → SpellsText text e → ⊥) → None ≡ expression_of text
expression_is_none text h = by_cases (expression_of text) refl
  where
    by_cases : (o : Option Tree) → expression_of text ≡ o → None ≡ expression_of text
    by_cases None k = sym k
    by_cases (Some e) k = absurd (h e (expression_is_spelled text e k))

pub type_is : (text : List ℕ) (t : TypeTree) → SpellsTypeText text t → Some t ≡ type_of text
type_is text t s = sym (spelled_is_type text t s)

pub type_is_none : (text : List ℕ) → ((t : TypeTree) → SpellsTypeText text t → ⊥) → None ≡ type_of text
type_is_none text h = by_cases (type_of text) refl
  where
    by_cases : (o : Option TypeTree) → type_of text ≡ o → None ≡ type_of text
    by_cases None k = sym k
    by_cases (Some t) k = absurd (h t (type_is_spelled text t k))
