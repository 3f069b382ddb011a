-- Symbols: how each is written, by which bytes it is found, and which operator it is. A new operator has a row in each of three
-- tables: its spelling, its bytes, and its tier.
use Rattle.std.specs.Prelude.{ℕ, Bool, true, false, ◌==◌, ◌&&◌, List, Option, Some, None, codes, if◌then◌else◌}
use Rattle.ksv_expr_tree.specs.declared.tree.UnaryOperator.{UnaryOperator}
use Rattle.ksv_expr_tree.specs.declared.tree.UnaryOperator.TheVariants as unaries
use Rattle.ksv_expr_tree.specs.declared.tree.BinaryOperator.{BinaryOperator}
use Rattle.ksv_expr_tree.specs.declared.tree.BinaryOperator.TheVariants as binaries
use Rattle.ksv_expr_tree.specs.declared.tree.LogicalOperator.TheVariants as logicals
use Rattle.ksv_expr_syntax.specs.declared.token.Symbol.{Symbol}
use Rattle.ksv_expr_syntax.specs.declared.token.Symbol.TheVariants as tok
use Rattle.ksv_expr_syntax.specs.declared.token.Precedence.{Precedence}
use Rattle.ksv_expr_syntax.specs.declared.token.Precedence.TheVariants as tier
use Rattle.ksv_expr_syntax.specs.declared.token.Infix.{Infix}
use Rattle.ksv_expr_syntax.specs.declared.token.Infix.TheVariants as infixes
use Rattle.ksv_expr_syntax.specs.Lexemes.{Lexeme, symbol}

-- ---- how symbols are written

abbrev pub spelling : Symbol → List ℕ
spelling tok.Plus = codes "+"
spelling tok.Minus = codes "-"
spelling tok.Star = codes "*"
spelling tok.Slash = codes "/"
spelling tok.Percent = codes "%"
spelling tok.Tilde = codes "~"
spelling tok.Ampersand = codes "&"
spelling tok.Bar = codes "|"
spelling tok.Caret = codes "^"
spelling tok.ShiftLeft = codes "<<"
spelling tok.ShiftRight = codes ">>"
spelling tok.Less = codes "<"
spelling tok.LessOrEqual = codes "<="
spelling tok.Greater = codes ">"
spelling tok.GreaterOrEqual = codes ">="
spelling tok.Equal = codes "=="
spelling tok.NotEqual = codes "!="
spelling tok.Question = codes "?"
spelling tok.Colon = codes ":"
spelling tok.ColonColon = codes "::"
spelling tok.OpenParenthesis = codes "("
spelling tok.CloseParenthesis = codes ")"
spelling tok.OpenBracket = codes "["
spelling tok.CloseBracket = codes "]"
spelling tok.Comma = codes ","
spelling tok.Dot = codes "."
spelling tok.And = codes "and"
spelling tok.Or = codes "or"
spelling tok.Not = codes "not"
spelling tok.As = codes "as"

-- a symbol that is spelled as a name
abbrev pub is_word : Symbol → Bool
is_word tok.And = true
is_word tok.Or = true
is_word tok.Not = true
is_word tok.As = true
is_word s = false

-- ---- by which bytes they are found

-- the symbol of two bytes that these are
abbrev pub two_bytes : ℕ → ℕ → Option Symbol
two_bytes c d = if c == 60 && d == 60 then Some tok.ShiftLeft
    else if c == 62 && d == 62 then Some tok.ShiftRight
    else if c == 60 && d == 61 then Some tok.LessOrEqual
    else if c == 62 && d == 61 then Some tok.GreaterOrEqual
    else if c == 61 && d == 61 then Some tok.Equal
    else if c == 33 && d == 61 then Some tok.NotEqual
    else if c == 58 && d == 58 then Some tok.ColonColon
    else None

-- the symbol of one byte that this is
abbrev pub one_byte : ℕ → Option Symbol
one_byte c = if c == 43 then Some tok.Plus
    else if c == 45 then Some tok.Minus
    else if c == 42 then Some tok.Star
    else if c == 47 then Some tok.Slash
    else if c == 37 then Some tok.Percent
    else if c == 126 then Some tok.Tilde
    else if c == 38 then Some tok.Ampersand
    else if c == 124 then Some tok.Bar
    else if c == 94 then Some tok.Caret
    else if c == 60 then Some tok.Less
    else if c == 62 then Some tok.Greater
    else if c == 63 then Some tok.Question
    else if c == 58 then Some tok.Colon
    else if c == 40 then Some tok.OpenParenthesis
    else if c == 41 then Some tok.CloseParenthesis
    else if c == 91 then Some tok.OpenBracket
    else if c == 93 then Some tok.CloseBracket
    else if c == 44 then Some tok.Comma
    else if c == 46 then Some tok.Dot
    else None

-- ---- which operators they are

-- the operator of the tier that a token is
abbrev pub operator : Precedence → Lexeme → Option Infix
operator tier.Or (symbol tok.Or) = Some (infixes.Logical logicals.Or)
operator tier.And (symbol tok.And) = Some (infixes.Logical logicals.And)
operator tier.BitOr (symbol tok.Bar) = Some (infixes.Binary binaries.BitOr)
operator tier.BitXor (symbol tok.Caret) = Some (infixes.Binary binaries.BitXor)
operator tier.BitAnd (symbol tok.Ampersand) = Some (infixes.Binary binaries.BitAnd)
operator tier.Shift (symbol tok.ShiftLeft) = Some (infixes.Binary binaries.ShiftLeft)
operator tier.Shift (symbol tok.ShiftRight) = Some (infixes.Binary binaries.ShiftRight)
operator tier.Sum (symbol tok.Plus) = Some (infixes.Binary binaries.Add)
operator tier.Sum (symbol tok.Minus) = Some (infixes.Binary binaries.Subtract)
operator tier.Term (symbol tok.Star) = Some (infixes.Binary binaries.Multiply)
operator tier.Term (symbol tok.Slash) = Some (infixes.Binary binaries.Divide)
operator tier.Term (symbol tok.Percent) = Some (infixes.Binary binaries.Remainder)
operator k t = None

-- the comparison that a token is
abbrev pub comparison : Lexeme → Option BinaryOperator
comparison (symbol tok.Less) = Some binaries.Less
comparison (symbol tok.LessOrEqual) = Some binaries.LessOrEqual
comparison (symbol tok.Greater) = Some binaries.Greater
comparison (symbol tok.GreaterOrEqual) = Some binaries.GreaterOrEqual
comparison (symbol tok.Equal) = Some binaries.Equal
comparison (symbol tok.NotEqual) = Some binaries.NotEqual
comparison t = None

-- the prefix operator that a token is, except `not`
abbrev pub prefix : Lexeme → Option UnaryOperator
prefix (symbol tok.Minus) = Some unaries.Negate
prefix (symbol tok.Tilde) = Some unaries.Complement
prefix (symbol tok.Plus) = Some unaries.Plus
prefix t = None
