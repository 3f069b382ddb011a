-- Tokens, independent of memory and of their places in the text.
use Rattle.std.specs.Prelude.{ℕ, List, map, string_bytes}
use Rattle.ksv_expr_syntax.specs.declared.token.Symbol.{Symbol}
use Rattle.ksv_expr_syntax.specs.declared.token.Token.{Token}
use Rattle.ksv_expr_syntax.specs.declared.token.Token.TheVariants as tokens
use Rattle.ksv_expr_syntax.specs.declared.token.Placed.{Placed}
use Rattle.ksv_expr_tree.specs.Tree.{Constant, literal_of}

-- a number, text or truth value; a name; anything else
pub data Lexeme : Type 0 where
  constant : Constant → Lexeme
  word : List ℕ → Lexeme
  symbol : Symbol → Lexeme

-- a token of the code
abbrev pub lexeme_of : Token → Lexeme
lexeme_of (tokens.Literal l) = constant (literal_of l)
lexeme_of (tokens.Name w) = word (string_bytes w)
lexeme_of (tokens.Symbol s) = symbol s

-- the tokens of a list in which each has its place
abbrev pub lexemes : List Placed → List Lexeme
lexemes ts = map (λ t. lexeme_of t.token) ts
