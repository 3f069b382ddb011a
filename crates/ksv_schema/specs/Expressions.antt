-- The expression, and the type with its arguments, of a text, if it has one.
use Rattle.std.specs.Prelude.{ℕ, zero, suc, Bool, false, List, [], ◌∷◌, length, Option, Some, None, option_map}
use Rattle.ksv_expr_tree.specs.Tree.{Tree, TypeTree}
use Rattle.ksv_expr_syntax.specs.Lexemes.{Lexeme}
use Rattle.ksv_expr_syntax.specs.Grammar.{Whole}
use Rattle.ksv_expr_syntax.specs.Tokens.{skip, mark, is_dot}
use Rattle.ksv_expr_syntax.specs.Cutting.{cut}
use Rattle.ksv_expr_syntax.specs.Reading.{◌>>=◌, read, path_at}
use Rattle.ksv_expr_syntax.specs.Code.{type_list}

-- at most n tokens of a text without white space in front, after a dot or not
abbrev pub tokens_to : ℕ → Bool → List ℕ → Option (List Lexeme)
tokens_to n dot [] = Some []
tokens_to zero dot (c ∷ cs) = None
tokens_to (suc n) dot (c ∷ cs) = cut (c ∷ cs) >>= λ x. option_map (λ ts. mark dot x ∷ ts) (tokens_to n (is_dot (mark dot x)) (skip x.rest))

-- the tokens of a text
unfoldable pub tokens_of : List ℕ → Option (List Lexeme)
tokens_of text = tokens_to (length text) false (skip text)

-- a tree after which no token is left
abbrev pub tree_alone : Tree → List Lexeme → Option Tree
tree_alone e [] = Some e
tree_alone e (t ∷ ts) = None

abbrev pub type_alone : TypeTree → List Lexeme → Option TypeTree
type_alone e [] = Some e
type_alone e (t ∷ ts) = None

unfoldable pub expression_of : List ℕ → Option Tree
expression_of text = do
  ts ← tokens_of text
  x ← read Whole 32 ts 256
  tree_alone x.tree x.rest

-- `a::b` or `a::b(E, E)`
unfoldable pub type_of : List ℕ → Option TypeTree
type_of text = do
  ts ← tokens_of text
  x ← path_at ts
  y ← type_list x.behind 256
  type_alone (record { name = record { path = x.what; number = None }; arguments = y.arguments }) y.rest
