-- The results of the parser's functions.
use Rattle.std.specs.Prelude.{◌≡◌, ◌≢◌, ℕ, ◌<◌, List, ◌∷◌, length, map, IfOk, if◌then◌else◌, Option, Some, None, Result, Ok, Err, string_bytes}
use Rattle.ksv_expr_tree.specs.declared.tree.Expr.{Expr}
use Rattle.std.specs.declared.alloc.Global.{Global}
use Rattle.std.specs.Prelude.{Vec, String}
use Rattle.ksv_expr_syntax.specs.declared.fault.ExprFault.{ExprFault}
use Rattle.ksv_expr_syntax.specs.declared.fault.ExprFaultKind.{ExprFaultKind}
use Rattle.ksv_expr_syntax.specs.declared.token.Token.{Token}
use Rattle.ksv_expr_syntax.specs.Tokens.{Cut, Tokens}
use Rattle.ksv_expr_syntax.specs.Cutting.{cut_at, quoted}
use Rattle.ksv_expr_syntax.specs.declared.lexer.Scan.{Scan}
use Rattle.std.specs.Prelude.{MatchOption, false}
use Rattle.ksv_expr_syntax.specs.Lexemes.{lexeme_of}
use Rattle.std.proofs.Common.{Bor}
use Rattle.ksv_expr_syntax.specs.declared.fault.ExprFaultKind.TheVariants as kinds
use Rattle.ksv_expr_syntax.specs.declared.cursor.Rest.{Rest}
use Rattle.ksv_expr_syntax.specs.declared.token.Operand.{Operand}
use Rattle.ksv_expr_syntax.specs.declared.token.Operand.TheVariants as operands
use Rattle.ksv_expr_syntax.specs.declared.parser.Opening.{Opening}
use Rattle.ksv_expr_syntax.specs.declared.parser.Opening.TheVariants as openings
use Rattle.ksv_expr_syntax.specs.declared.token.Symbol.{Symbol}
use Rattle.ksv_expr_syntax.specs.declared.token.Symbol.TheVariants as tok
use Rattle.ksv_expr_tree.specs.Tree.{Constant, Tree, literal, choice, call, index, cast, Arguments, no_arguments, view, arguments_of}
use Rattle.ksv_expr_syntax.specs.Lexemes.{Lexeme, word, lexemes}
use Rattle.ksv_expr_syntax.specs.Grammar.{Level, Whole, Joined, Negation, Prefix, select_tree, is_left_out}
use Rattle.ksv_expr_syntax.specs.Reading.{Next, next, Found, FoundList, found, found_list, ◌>>=◌, choose, spend, after, read, read_list, path_at, path_tree}

-- a function returned what is found, unless memory was refused
abbrev pub Gives : Option Found → Result (Expr × Rest) ExprFault → Type 0
Gives o (Ok x) = o ≡ found (view x.0) (lexemes x.1.tokens.now) x.1.parts
Gives o (Err e) = e.kind ≢ kinds.NoMemory → o ≡ None

-- fewer tokens than this are left
abbrev pub IsWithin : ℕ → Result (Expr × Rest) ExprFault → Type 0
IsWithin n r = IfOk r (λ x. length x.1.tokens.now < n)

-- one level and one part fewer
abbrev pub inside : ℕ → ℕ → Option (ℕ × ℕ)
inside d p = spend d (λ d. spend p (λ p. Some (d, p)))

-- one level fewer, and the tokens after a parenthesis
abbrev pub opened : ℕ → List Lexeme → Option (Next ℕ)
opened d ts = after tok.OpenParenthesis ts >>= λ us. spend d (λ d. next d us)

-- the level of a precedence's operands
abbrev pub level_of : Operand → Level
level_of (operands.Joined k) = Joined k
level_of operands.Negation = Negation
level_of operands.Prefix = Prefix

-- what is found with another tree
abbrev pub with_tree : (Tree → Tree) → Option Found → Option Found
with_tree f o = o >>= λ a. found (f a.tree) a.rest a.left

abbrev pub with_list : (Arguments → Tree) → Option FoundList → Option Found
with_list f o = o >>= λ a. found (f a.arguments) a.rest a.left

-- what is found, and this symbol after it
abbrev pub closing : Symbol → Option Found → Option Found
closing s o = o >>= λ a. after s a.rest >>= λ us. found a.tree us a.left

-- what is after an operator
abbrev pub right_at : Level → ℕ → List Lexeme → ℕ → Option Found
right_at l d ts p = spend p (λ p. read l d ts p)

-- what is after an opening bracket
abbrev pub place_at : ℕ → List Lexeme → ℕ → Option Found
place_at d ts p = inside d p >>= λ x. closing tok.CloseBracket (read Whole x.0 ts x.1)

-- what is after the parenthesis of a call
abbrev pub list_at : ℕ → List Lexeme → ℕ → Option FoundList
list_at d ts p = inside d p >>= λ x. read_list x.0 ts x.1

-- both arms of a choice after this condition
abbrev pub arms_at : Tree → ℕ → List Lexeme → ℕ → Option Found
arms_at e d ts p = spend d (λ d. spend p (λ p. read Whole d ts p >>= λ a. after tok.Colon a.rest >>= λ us. read Whole d us a.left >>= λ b. found (choice e a.tree b.tree) b.rest b.left))

-- the same for both arms
abbrev pub GivesArms : (Tree → Option Found) → Result (Expr × Expr × Rest) ExprFault → Type 0
GivesArms f (Ok x) = (e : Tree) → f e ≡ found (choice e (view x.0) (view x.1)) (lexemes x.2.tokens.now) x.2.parts
GivesArms f (Err g) = g.kind ≢ kinds.NoMemory → (e : Tree) → f e ≡ None

-- the same for arguments and their closing parenthesis
abbrev pub GivesList : Option FoundList → Result (Vec Expr Global × Rest) ExprFault → Type 0
GivesList o (Ok x) = o ≡ found_list (arguments_of (map view x.0.items)) (lexemes x.1.tokens.now) x.1.parts
GivesList o (Err e) = e.kind ≢ kinds.NoMemory → o ≡ None

-- the same for names with `::` between them
abbrev pub GivesPath : List Lexeme → Result (Vec (String Global) Global × Rest) ExprFault → Type 0
GivesPath ts (Ok x) = path_at ts ≡ next (map string_bytes x.0.items) (lexemes x.1.tokens.now)
GivesPath ts (Err e) = e.kind ≢ kinds.NoMemory → path_at ts ≡ None

-- a cast of this tree
abbrev pub cast_at : Tree → List Lexeme → ℕ → Option Found
cast_at e ts p = after tok.As ts >>= λ us. after tok.Less us >>= λ vs. path_at vs >>= λ x. after tok.Greater x.behind >>= λ ws. found (cast e (record { path = x.what; number = None })) ws p

-- a member or a cast of this tree
abbrev pub member_on : Tree → List Lexeme → ℕ → Option Found
member_on e (word w ∷ ts) p = found (select_tree e w) ts p
member_on e ts p = cast_at e ts p

abbrev pub member_at : Tree → List Lexeme → ℕ → Option Found
member_at e ts p = spend p (λ p. member_on e ts p)

-- a literal before these tokens
abbrev pub literal_at : Constant → List Lexeme → ℕ → Option Found
literal_at c ts p = spend p (λ p. found (literal c) ts p)

-- a name or an enum's member, where these tokens begin with this name
abbrev pub word_at : List ℕ → List Lexeme → ℕ → Option Found
word_at w ts p = if is_left_out w then None else (path_at ts >>= λ x. spend p (λ p. found (path_tree x.what) x.behind p))

-- no call is first
abbrev pub IsNoCall : List Lexeme → Type 0
IsNoCall ts = (w : List ℕ) (us : List Lexeme) → ts ≡ word w ∷ us → after tok.OpenParenthesis us ≡ None

-- what is first after a dot, with these tokens after it
abbrev pub SelectsWith : Opening → List Lexeme → List Lexeme → Type 0
SelectsWith openings.Member ts us = (ts ≡ us) × IsNoCall us
SelectsWith (openings.Call text from) ts us = (ts ≡ word text.now ∷ lexemes from.now) × (after tok.OpenParenthesis (lexemes from.now) ≡ Some us)
SelectsWith openings.Place ts us = ⊥

-- what continues a postfix expression is first, with these tokens after it
abbrev pub OpensWith : Opening → List Lexeme → List Lexeme → Type 0
OpensWith openings.Member ts us = (after tok.Dot ts ≡ Some us) × IsNoCall us
OpensWith (openings.Call text from) ts us = (after tok.Dot ts ≡ Some (word text.now ∷ lexemes from.now)) × (after tok.OpenParenthesis (lexemes from.now) ≡ Some us)
OpensWith openings.Place ts us = (after tok.Dot ts ≡ None) × (after tok.OpenBracket ts ≡ Some us)

-- the expression with what continues it
abbrev pub suffix_step : Opening → Tree → ℕ → List Lexeme → ℕ → Option Found
suffix_step openings.Member e d ts p = member_at e ts p
suffix_step (openings.Call text from) e d ts p = with_list (λ es. call e text.now es) (list_at d ts p)
suffix_step openings.Place e d ts p = with_tree (λ i. index e i) (place_at d ts p)

-- the names of a cast of any tree
abbrev pub GivesCastType : List Lexeme → ℕ → Result (Vec (String Global) Global × Rest) ExprFault → Type 0
GivesCastType ts p (Ok x) = (e : Tree) → cast_at e ts p ≡ found (cast e (record { path = map string_bytes x.0.items; number = None })) (lexemes x.1.tokens.now) x.1.parts
GivesCastType ts p (Err f) = f.kind ≢ kinds.NoMemory → (e : Tree) → cast_at e ts p ≡ None

-- a function returned the token at the front and the bytes after it, unless memory was refused
abbrev pub GivesCut : Option Cut → Result (Token × Bor (List ℕ)) ExprFaultKind → Type 0
GivesCut o (Ok x) = o ≡ cut_at (lexeme_of x.0) x.1.now
GivesCut o (Err k) = k ≢ kinds.NoMemory → o ≡ None

-- the same for the bytes of a text up to its closing quote, and those after it
abbrev pub GivesQuoted : List ℕ → Result (Vec ℕ Global × Bor (List ℕ)) ExprFaultKind → Type 0
GivesQuoted bs (Ok x) = quoted bs ≡ Some (record { bytes = x.0.items; rest = x.1.now })
GivesQuoted bs (Err k) = k ≢ kinds.NoMemory → quoted bs ≡ None

-- the tokens of a text, or a fault if it has none, unless memory was refused
abbrev pub GivesTokens : List ℕ → Result Scan ExprFault → Type 0
GivesTokens bs (Ok s) = MatchOption s.fault (Tokens false bs (lexemes s.tokens.items)) (λ _. (ts : List Lexeme) → Tokens false bs ts → ⊥)
GivesTokens bs (Err e) = e.kind ≢ kinds.NoMemory → (ts : List Lexeme) → Tokens false bs ts → ⊥

-- the arguments of a type, if it has any
abbrev pub type_list : List Lexeme → ℕ → Option FoundList
type_list ts p = choose (after tok.OpenParenthesis ts) (found_list no_arguments ts p) (λ us. read_list 31 us p)
