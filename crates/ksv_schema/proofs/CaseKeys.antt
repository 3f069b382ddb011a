-- What the forms of an expression are as keys of `cases`.
use Rattle.ksv_schema.proofs.Common.{◌≡◌, refl}
use Rattle.ksv_expr_tree.specs.declared.tree.UnaryOperator.TheVariants as unaries
use Rattle.ksv_expr_tree.specs.Tree.{Tree, literal, integer, unary}
use Rattle.ksv_schema.specs.KeyTexts.{case_key}
use Rattle.ksv_schema.specs.KeyCode.{negative_key}

pub key_negated : (e : Tree) → case_key (unary unaries.Negate e) ≡ negative_key e
unfolding case_key
key_negated (literal (integer n)) = refl
key_negated _ = refl
