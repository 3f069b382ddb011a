-- Reading tokens from front to back, one token ahead, with a bound on the nested calls. The grammar is in
-- Grammar.antt; proofs/ shows that what is read here is exactly what is spelled there.
use Rattle.std.specs.Prelude.{ℕ, zero, suc, ◌+◌, ◌*◌, List, [], ◌∷◌, length, Option, Some, None, if◌then◌else◌}
use Rattle.ksv_expr_tree.specs.declared.tree.UnaryOperator.{UnaryOperator}
use Rattle.ksv_expr_tree.specs.declared.tree.UnaryOperator.TheVariants as unaries
use Rattle.ksv_expr_tree.specs.declared.tree.BinaryOperator.{BinaryOperator}
use Rattle.ksv_expr_syntax.specs.declared.token.Symbol.{Symbol}
use Rattle.ksv_expr_syntax.specs.declared.token.Symbol.TheVariants as tok
use Rattle.ksv_expr_syntax.specs.contracts.token.SymbolPartialEq.TheImpl.{ghosts as symbol_tests}
use Rattle.ksv_expr_syntax.specs.declared.token.Precedence.{Precedence}
use Rattle.ksv_expr_syntax.specs.declared.token.Precedence.TheVariants as tier
use Rattle.ksv_expr_syntax.specs.declared.token.Infix.{Infix}
use Rattle.ksv_expr_tree.specs.Tree.{Tree, literal, member, unary, binary, choice, call, index, cast, Arguments, no_arguments, argument}
use Rattle.ksv_expr_syntax.specs.Symbols.{operator, comparison, prefix}
use Rattle.ksv_expr_syntax.specs.Lexemes.{Lexeme, constant, word, symbol}
use Rattle.ksv_expr_syntax.specs.Grammar.{Level, Whole, Joined, Negation, Comparison, Prefix, Postfix, Primary, tighter, join_tree, name_tree, select_tree, is_left_out}

-- what was read at the front, and the tokens after it
pub record Next (A : Type 0) : Type 0 where
  pub what : A
  pub behind : List Lexeme

-- a tree, the tokens after it, and how many parts may still come
pub record Found : Type 0 where
  pub tree : Tree
  pub rest : List Lexeme
  pub left : ℕ

-- the same for arguments
pub record FoundList : Type 0 where
  pub arguments : Arguments
  pub rest : List Lexeme
  pub left : ℕ

abbrev pub found : Tree → List Lexeme → ℕ → Option Found
found e ts p = Some (record { tree = e; rest = ts; left = p })

abbrev pub found_list : Arguments → List Lexeme → ℕ → Option FoundList
found_list es ts p = Some (record { arguments = es; rest = ts; left = p })

abbrev pub next : {A : Type 0} → A → List Lexeme → Option (Next A)
next x ts = Some (record { what = x; behind = ts })

-- goes on with what was found
infixl 10 ◌>>=◌
abbrev pub ◌>>=◌ : {A B : Type 0} → Option A → (A → Option B) → Option B
None >>= f = None
(Some x) >>= f = f x

-- goes on in one of two ways
abbrev pub choose : {A B : Type 0} → Option A → B → (A → B) → B
choose None y f = y
choose (Some x) y f = f x

-- one part or level fewer
abbrev pub spend : {A : Type 0} → ℕ → (ℕ → Option A) → Option A
spend zero f = None
spend (suc n) f = f n

-- the tokens after this symbol, if it is first
abbrev pub after : Symbol → List Lexeme → Option (List Lexeme)
after s (symbol x ∷ ts) = if symbol_tests.eq x s then Some ts else None
after s _ = None

-- the operator that is first
abbrev pub operator_at : Precedence → List Lexeme → Option (Next Infix)
operator_at k [] = None
operator_at k (t ∷ ts) = operator k t >>= λ op. next op ts

abbrev pub comparison_at : List Lexeme → Option (Next BinaryOperator)
comparison_at [] = None
comparison_at (t ∷ ts) = comparison t >>= λ op. next op ts

abbrev pub prefix_at : List Lexeme → Option (Next UnaryOperator)
prefix_at [] = None
prefix_at (t ∷ ts) = prefix t >>= λ op. next op ts

-- names with `::` between them
abbrev mutual
  pub path_at : List Lexeme → Option (Next (List (List ℕ)))
  path_at (word w ∷ ts) = path_on w ts
  path_at _ = None

  -- after a name
  pub path_on : List ℕ → List Lexeme → Option (Next (List (List ℕ)))
  path_on w (symbol x ∷ ts) = if symbol_tests.eq x tok.ColonColon then (path_at ts >>= λ x. next (w ∷ x.what) x.behind) else next (w ∷ []) (symbol x ∷ ts)
  path_on w ts = next (w ∷ []) ts

-- the names except the last, and the last
abbrev pub all_but_last : List (List ℕ) → List (List ℕ)
all_but_last [] = []
all_but_last (w ∷ []) = []
all_but_last (w ∷ v ∷ ws) = w ∷ all_but_last (v ∷ ws)

abbrev pub last_name : List (List ℕ) → List ℕ
last_name [] = []
last_name (w ∷ []) = w
last_name (w ∷ v ∷ ws) = last_name (v ∷ ws)

-- a name, or an enum's member
abbrev pub path_tree : List (List ℕ) → Tree
path_tree (w ∷ v ∷ ws) = member (record { path = all_but_last (w ∷ v ∷ ws); name = last_name (w ∷ v ∷ ws); given = None })
path_tree ws = name_tree (last_name ws)

abbrev mutual
  -- an expression of a level at the front, at depth d, with at most p parts
  pub reads : ℕ → Level → ℕ → List Lexeme → ℕ → Option Found
  reads zero l d ts p = None
  reads (suc n) Whole d ts p = reads n (Joined tier.Or) d ts p >>= λ a. picks n a.tree d a.rest a.left
  reads (suc n) (Joined k) d ts p = reads n (tighter k) d ts p >>= λ a. joins n k a.tree d a.rest a.left
  reads (suc n) Negation d ts p = choose (after tok.Not ts) (reads n Comparison d ts p) (λ us. negates n d us p)
  reads (suc n) Comparison d ts p = reads n (Joined tier.BitOr) d ts p >>= λ a. compares n a.tree d a.rest a.left
  reads (suc n) Prefix d ts p = choose (prefix_at ts) (reads n Postfix d ts p) (λ x. prefixes n x.what d x.behind p)
  reads (suc n) Postfix d ts p = reads n Primary d ts p >>= λ a. goes_on n a.tree d a.rest a.left
  reads (suc n) Primary d [] p = None
  reads (suc n) Primary d (constant c ∷ ts) p = spend p (λ p. found (literal c) ts p)
  reads (suc n) Primary d (word w ∷ ts) p = if is_left_out w then None else (path_on w ts >>= λ x. spend p (λ p. found (path_tree x.what) x.behind p))
  reads (suc n) Primary d (symbol s ∷ ts) p = after tok.OpenParenthesis (symbol s ∷ ts) >>= λ us. groups n d us p

  -- after a condition
  pub picks : ℕ → Tree → ℕ → List Lexeme → ℕ → Option Found
  picks zero e d ts p = None
  picks (suc n) e d ts p = choose (after tok.Question ts) (found e ts p) (λ us. arms n e d us p)

  -- after a question mark
  pub arms : ℕ → Tree → ℕ → List Lexeme → ℕ → Option Found
  arms zero e d ts p = None
  arms (suc n) e d ts p = spend d (λ d. spend p (λ p. reads n Whole d ts p >>= λ a. after tok.Colon a.rest >>= λ us. reads n Whole d us a.left >>= λ b. found (choice e a.tree b.tree) b.rest b.left))

  -- after an operand
  pub joins : ℕ → Precedence → Tree → ℕ → List Lexeme → ℕ → Option Found
  joins zero k e d ts p = None
  joins (suc n) k e d ts p = choose (operator_at k ts) (found e ts p) (λ x. spend p (λ p. reads n (tighter k) d x.behind p >>= λ a. joins n k (join_tree x.what e a.tree) d a.rest a.left))

  -- after `not`
  pub negates : ℕ → ℕ → List Lexeme → ℕ → Option Found
  negates zero d ts p = None
  negates (suc n) d ts p = spend d (λ d. spend p (λ p. reads n Negation d ts p >>= λ a. found (unary unaries.Not a.tree) a.rest a.left))

  -- after the left side of a comparison
  pub compares : ℕ → Tree → ℕ → List Lexeme → ℕ → Option Found
  compares zero e d ts p = None
  compares (suc n) e d ts p = choose (comparison_at ts) (found e ts p) (λ x. spend p (λ p. reads n (Joined tier.BitOr) d x.behind p >>= λ a. found (binary x.what e a.tree) a.rest a.left))

  -- after a prefix operator
  pub prefixes : ℕ → UnaryOperator → ℕ → List Lexeme → ℕ → Option Found
  prefixes zero op d ts p = None
  prefixes (suc n) op d ts p = spend d (λ d. spend p (λ p. reads n Prefix d ts p >>= λ a. found (unary op a.tree) a.rest a.left))

  -- after a postfix expression
  pub goes_on : ℕ → Tree → ℕ → List Lexeme → ℕ → Option Found
  goes_on zero e d ts p = None
  goes_on (suc n) e d ts p = choose (after tok.Dot ts) (choose (after tok.OpenBracket ts) (found e ts p) (λ us. places n e d us p >>= λ a. goes_on n a.tree d a.rest a.left)) (λ us. selects n e d us p >>= λ a. goes_on n a.tree d a.rest a.left)

  -- after a bracket
  pub places : ℕ → Tree → ℕ → List Lexeme → ℕ → Option Found
  places zero e d ts p = None
  places (suc n) e d ts p = spend d (λ d. spend p (λ p. reads n Whole d ts p >>= λ a. after tok.CloseBracket a.rest >>= λ us. found (index e a.tree) us a.left))

  -- after a dot
  pub selects : ℕ → Tree → ℕ → List Lexeme → ℕ → Option Found
  selects zero e d ts p = None
  selects (suc n) e d [] p = None
  selects (suc n) e d (constant c ∷ ts) p = None
  selects (suc n) e d (word w ∷ ts) p = spend p (λ p. choose (after tok.OpenParenthesis ts) (found (select_tree e w) ts p) (λ us. spend d (λ d. reads_list n d us p >>= λ a. found (call e w a.arguments) a.rest a.left)))
  selects (suc n) e d (symbol s ∷ ts) p = spend p (λ p. after tok.As (symbol s ∷ ts) >>= λ us. after tok.Less us >>= λ vs. path_at vs >>= λ x. after tok.Greater x.behind >>= λ ws. found (cast e (record { path = x.what; number = None })) ws p)

  -- after a parenthesis
  pub groups : ℕ → ℕ → List Lexeme → ℕ → Option Found
  groups zero d ts p = None
  groups (suc n) d ts p = spend d (λ d. reads n Whole d ts p >>= λ a. after tok.CloseParenthesis a.rest >>= λ us. found a.tree us a.left)

  -- arguments and the closing parenthesis
  pub reads_list : ℕ → ℕ → List Lexeme → ℕ → Option FoundList
  reads_list zero d ts p = None
  reads_list (suc n) d ts p = choose (after tok.CloseParenthesis ts) (reads_more n d ts p) (λ us. found_list no_arguments us p)

  -- one or more arguments and the closing parenthesis
  pub reads_more : ℕ → ℕ → List Lexeme → ℕ → Option FoundList
  reads_more zero d ts p = None
  reads_more (suc n) d ts p = reads n Whole d ts p >>= λ a. choose (after tok.Comma a.rest) (after tok.CloseParenthesis a.rest >>= λ us. found_list (argument a.tree no_arguments) us a.left) (λ us. reads_more n d us a.left >>= λ b. found_list (argument a.tree b.arguments) b.rest b.left)

-- enough nested calls to read a level of these tokens
abbrev pub room : Level → List Lexeme → ℕ
room Whole ts = 32 * length ts + 15
room (Joined tier.Or) ts = 32 * length ts + 14
room (Joined tier.And) ts = 32 * length ts + 13
room Negation ts = 32 * length ts + 12
room Comparison ts = 32 * length ts + 11
room (Joined tier.BitOr) ts = 32 * length ts + 10
room (Joined tier.BitXor) ts = 32 * length ts + 9
room (Joined tier.BitAnd) ts = 32 * length ts + 8
room (Joined tier.Shift) ts = 32 * length ts + 7
room (Joined tier.Sum) ts = 32 * length ts + 6
room (Joined tier.Term) ts = 32 * length ts + 5
room Prefix ts = 32 * length ts + 4
room Postfix ts = 32 * length ts + 3
room Primary ts = 32 * length ts + 2

-- enough to go on
abbrev pub wide : List Lexeme → ℕ
wide ts = 32 * length ts + 20

-- what is read with enough calls
unfoldable pub read : Level → ℕ → List Lexeme → ℕ → Option Found
read l d ts p = reads (room l ts) l d ts p

unfoldable pub read_list : ℕ → List Lexeme → ℕ → Option FoundList
read_list d ts p = reads_list (wide ts) d ts p

unfoldable pub place_on : Tree → ℕ → List Lexeme → ℕ → Option Found
place_on e d ts p = places (wide ts) e d ts p

unfoldable pub select_on : Tree → ℕ → List Lexeme → ℕ → Option Found
select_on e d ts p = selects (wide ts) e d ts p
