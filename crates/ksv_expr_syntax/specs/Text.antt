-- What a text spells: its tokens are the longest cuts, and these spell the tree within the limits.
use Rattle.std.specs.Prelude.{ℕ, false, List}
use Rattle.ksv_expr_tree.specs.Tree.{Tree, TypeTree}
use Rattle.ksv_expr_syntax.specs.Lexemes.{Lexeme}
use Rattle.ksv_expr_syntax.specs.Grammar.{IsExpr, SpellsType}
use Rattle.ksv_expr_syntax.specs.Tokens.{Tokens}

-- this text spells that expression
pub record SpellsText (text : List ℕ) (e : Tree) : Type 0 where
  pub tokens : List Lexeme
  pub cut : Tokens false text tokens
  pub spelled : IsExpr tokens e

-- this text spells that type with its arguments
pub record SpellsTypeText (text : List ℕ) (t : TypeTree) : Type 0 where
  pub tokens : List Lexeme
  pub cut : Tokens false text tokens
  pub spelled : SpellsType tokens t
