-- The grammar of expressions, one case for each rule: these tokens are that tree. A list of tokens may be split
-- anywhere. The source is the Kaitai Struct User Guide's expression language, in the form that docs/REFERENCE.md
-- has.
use Rattle.std.specs.Prelude.{◌≡◌, ℕ, suc, ◌+◌, ◌≤◌, ◌<◌, Bool, false, ◌||◌, List, [], ◌∷◌, ◌++◌, length, Option, Some, None, codes, bytes_eq, if◌then◌else◌}
use Rattle.ksv_expr_tree.specs.declared.tree.UnaryOperator.{UnaryOperator}
use Rattle.ksv_expr_tree.specs.declared.tree.UnaryOperator.TheVariants as unaries
use Rattle.ksv_expr_tree.specs.declared.tree.BinaryOperator.{BinaryOperator}
use Rattle.ksv_expr_tree.specs.declared.tree.SpecialName.{SpecialName}
use Rattle.ksv_expr_tree.specs.declared.tree.SpecialName.TheVariants as specials
use Rattle.ksv_expr_syntax.specs.declared.token.Symbol.TheVariants as tok
use Rattle.ksv_expr_syntax.specs.declared.token.Precedence.{Precedence}
use Rattle.ksv_expr_syntax.specs.declared.token.Precedence.TheVariants as tier
use Rattle.ksv_expr_syntax.specs.declared.token.Infix.{Infix}
use Rattle.ksv_expr_syntax.specs.declared.token.Infix.TheVariants as infixes
use Rattle.ksv_expr_tree.specs.Tree.{Constant, Word, Tree, literal, named, special, member, unary, binary, logical, choice, field, special_field, call, index, cast, Arguments, no_arguments, argument, TypeTree}
use Rattle.ksv_expr_syntax.specs.Lexemes.{Lexeme, constant, word, symbol}
use Rattle.ksv_expr_syntax.specs.Symbols.{operator, comparison, prefix}

-- ---- limits

abbrev mutual
  -- how many literals, names, members, operators, calls, indices and casts a tree has
  pub parts : Tree → ℕ
  parts (literal c) = 1
  parts (named w) = 1
  parts (special n) = 1
  parts (member m) = 1
  parts (unary op a) = parts a + 1
  parts (binary op a b) = parts a + parts b + 1
  parts (logical op a b) = parts a + parts b + 1
  parts (choice a b c) = parts a + parts b + parts c + 1
  parts (field a w) = parts a + 1
  parts (special_field a n) = parts a + 1
  parts (call a w es) = parts a + all_parts es + 1
  parts (index a b) = parts a + parts b + 1
  parts (cast a t) = parts a + 1

  pub all_parts : Arguments → ℕ
  all_parts no_arguments = 0
  all_parts (argument e es) = parts e + all_parts es

-- ---- names

-- a name's special meaning
abbrev pub special_of : List ℕ → Option SpecialName
special_of w = if bytes_eq w (codes "_root") then Some specials.Root
    else if bytes_eq w (codes "_parent") then Some specials.Parent
    else if bytes_eq w (codes "_io") then Some specials.Io
    else if bytes_eq w (codes "_index") then Some specials.Index
    else if bytes_eq w (codes "_") then Some specials.Element
    else None

-- a name that begins an unsupported form of Kaitai
abbrev pub is_left_out : List ℕ → Bool
is_left_out w = bytes_eq w (codes "sizeof") || bytes_eq w (codes "bitsizeof")

-- a name without a number
abbrev pub new_word : List ℕ → Word
new_word w = record { text = w; number = None }

-- a name alone
abbrev pub name_tree : List ℕ → Tree
name_tree w = elim (special_of w) [ None ↦ named (new_word w) | Some n ↦ special n ]

-- a name after a dot
abbrev pub select_tree : Tree → List ℕ → Tree
select_tree e w = elim (special_of w) [ None ↦ field e (new_word w) | Some n ↦ special_field e n ]

-- the tokens of names with `::` between them
abbrev pub path_tokens : List (List ℕ) → List Lexeme
path_tokens [] = []
path_tokens (w ∷ []) = word w ∷ []
path_tokens (w ∷ v ∷ ws) = word w ∷ symbol tok.ColonColon ∷ path_tokens (v ∷ ws)

-- ---- levels

-- the levels of the grammar, from the loosest to the tightest
pub data Level : Type 0 where
  Whole : Level
  Joined : Precedence → Level
  Negation : Level
  Comparison : Level
  Prefix : Level
  Postfix : Level
  Primary : Level

-- the level of a tier's operands
abbrev pub tighter : Precedence → Level
tighter tier.Or = Joined tier.And
tighter tier.And = Negation
tighter tier.BitOr = Joined tier.BitXor
tighter tier.BitXor = Joined tier.BitAnd
tighter tier.BitAnd = Joined tier.Shift
tighter tier.Shift = Joined tier.Sum
tighter tier.Sum = Joined tier.Term
tighter tier.Term = Prefix

-- an operator between two trees
abbrev pub join_tree : Infix → Tree → Tree → Tree
join_tree (infixes.Logical op) a b = logical op a b
join_tree (infixes.Binary op) a b = binary op a b

-- ---- the grammar

mutual
  -- these tokens are an expression of this level, with at most d nested parentheses, brackets, arms of `?:` and
  -- unary operators
  pub data Spells : ℕ → Level → List Lexeme → Tree → Type 0 where
    -- condition ? yes : no
    pick : {d : ℕ} {ts : List Lexeme} {a b c : Tree} (xs ys zs : List Lexeme) → ts ≡ xs ++ symbol tok.Question ∷ (ys ++ symbol tok.Colon ∷ zs) → Spells (suc d) (Joined tier.Or) xs a → Spells d Whole ys b → Spells d Whole zs c → Spells (suc d) Whole ts (choice a b c)
    no_pick : {d : ℕ} {ts : List Lexeme} {e : Tree} → Spells d (Joined tier.Or) ts e → Spells d Whole ts e
    -- operands of a tier, joined from the left
    join : {d : ℕ} {k : Precedence} {ts : List Lexeme} {op : Infix} {a b : Tree} (xs : List Lexeme) (x : Lexeme) (ys : List Lexeme) → operator k x ≡ Some op → ts ≡ xs ++ x ∷ ys → Spells d (Joined k) xs a → Spells d (tighter k) ys b → Spells d (Joined k) ts (join_tree op a b)
    no_join : {d : ℕ} {k : Precedence} {ts : List Lexeme} {e : Tree} → Spells d (tighter k) ts e → Spells d (Joined k) ts e
    -- not E
    negation : {d : ℕ} {ts : List Lexeme} {e : Tree} → Spells d Negation ts e → Spells (suc d) Negation (symbol tok.Not ∷ ts) (unary unaries.Not e)
    no_negation : {d : ℕ} {ts : List Lexeme} {e : Tree} → Spells d Comparison ts e → Spells d Negation ts e
    -- one comparison, not a chain of them
    compare : {d : ℕ} {ts : List Lexeme} {op : BinaryOperator} {a b : Tree} (xs : List Lexeme) (x : Lexeme) (ys : List Lexeme) → comparison x ≡ Some op → ts ≡ xs ++ x ∷ ys → Spells d (Joined tier.BitOr) xs a → Spells d (Joined tier.BitOr) ys b → Spells d Comparison ts (binary op a b)
    no_compare : {d : ℕ} {ts : List Lexeme} {e : Tree} → Spells d (Joined tier.BitOr) ts e → Spells d Comparison ts e
    -- -E, ~E, +E
    prefixed : {d : ℕ} {ts : List Lexeme} {op : UnaryOperator} {e : Tree} (x : Lexeme) → prefix x ≡ Some op → Spells d Prefix ts e → Spells (suc d) Prefix (x ∷ ts) (unary op e)
    no_prefix : {d : ℕ} {ts : List Lexeme} {e : Tree} → Spells d Postfix ts e → Spells d Prefix ts e
    -- E.name
    selected : {d : ℕ} {ts : List Lexeme} {e : Tree} (xs : List Lexeme) (w : List ℕ) → ts ≡ xs ++ symbol tok.Dot ∷ word w ∷ [] → Spells d Postfix xs e → Spells d Postfix ts (select_tree e w)
    -- E.name(E, ..)
    called : {d : ℕ} {ts : List Lexeme} {e : Tree} {es : Arguments} (xs : List Lexeme) (w : List ℕ) (ys : List Lexeme) → ts ≡ xs ++ symbol tok.Dot ∷ word w ∷ symbol tok.OpenParenthesis ∷ (ys ++ symbol tok.CloseParenthesis ∷ []) → Spells (suc d) Postfix xs e → SpellsArguments d ys es → Spells (suc d) Postfix ts (call e w es)
    -- E.as<name::name>
    converted : {d : ℕ} {ts : List Lexeme} {e : Tree} (xs : List Lexeme) (ws : List (List ℕ)) → 0 < length ws → ts ≡ xs ++ symbol tok.Dot ∷ symbol tok.As ∷ symbol tok.Less ∷ (path_tokens ws ++ symbol tok.Greater ∷ []) → Spells d Postfix xs e → Spells d Postfix ts (cast e (record { path = ws; number = None }))
    -- E[E]
    indexed : {d : ℕ} {ts : List Lexeme} {e i : Tree} (xs ys : List Lexeme) → ts ≡ xs ++ symbol tok.OpenBracket ∷ (ys ++ symbol tok.CloseBracket ∷ []) → Spells (suc d) Postfix xs e → Spells d Whole ys i → Spells (suc d) Postfix ts (index e i)
    no_postfix : {d : ℕ} {ts : List Lexeme} {e : Tree} → Spells d Primary ts e → Spells d Postfix ts e
    -- a literal, a name, a::b::m, (E)
    literal_alone : {d : ℕ} {c : Constant} → Spells d Primary (constant c ∷ []) (literal c)
    name_alone : {d : ℕ} (w : List ℕ) → is_left_out w ≡ false → Spells d Primary (word w ∷ []) (name_tree w)
    enum_member : {d : ℕ} {ts : List Lexeme} (w : List ℕ) (ws : List (List ℕ)) (m : List ℕ) → is_left_out w ≡ false → ts ≡ path_tokens (w ∷ (ws ++ m ∷ [])) → Spells d Primary ts (member (record { path = w ∷ ws; name = m; given = None }))
    group : {d : ℕ} {ts : List Lexeme} {e : Tree} (xs : List Lexeme) → ts ≡ symbol tok.OpenParenthesis ∷ (xs ++ symbol tok.CloseParenthesis ∷ []) → Spells d Whole xs e → Spells (suc d) Primary ts e

  -- these tokens are expressions with commas between them, or none
  pub data SpellsArguments : ℕ → List Lexeme → Arguments → Type 0 where
    empty : {d : ℕ} → SpellsArguments d [] no_arguments
    listed : {d : ℕ} {ts : List Lexeme} {es : Arguments} → SpellsList d ts es → SpellsArguments d ts es

  -- these tokens are one or more expressions with commas between them
  pub data SpellsList : ℕ → List Lexeme → Arguments → Type 0 where
    last_one : {d : ℕ} {ts : List Lexeme} {e : Tree} → Spells d Whole ts e → SpellsList d ts (argument e no_arguments)
    one_more : {d : ℕ} {ts : List Lexeme} {e : Tree} {es : Arguments} (xs ys : List Lexeme) → ts ≡ xs ++ symbol tok.Comma ∷ ys → Spells d Whole xs e → SpellsList d ys es → SpellsList d ts (argument e es)

-- these tokens are an expression within the two limits
pub record IsExpr (ts : List Lexeme) (e : Tree) : Type 0 where
  pub spelled : Spells 32 Whole ts e
  pub size : parts e ≤ 256

-- these tokens are a type's name, alone or with arguments in parentheses, within the two limits
pub data SpellsType : List Lexeme → TypeTree → Type 0 where
  bare : {ts : List Lexeme} (ws : List (List ℕ)) → 0 < length ws → ts ≡ path_tokens ws → SpellsType ts (record { name = record { path = ws; number = None }; arguments = no_arguments })
  applied : {ts : List Lexeme} {es : Arguments} (ws : List (List ℕ)) (ys : List Lexeme) → 0 < length ws → ts ≡ path_tokens ws ++ symbol tok.OpenParenthesis ∷ (ys ++ symbol tok.CloseParenthesis ∷ []) → SpellsArguments 31 ys es → all_parts es ≤ 256 → SpellsType ts (record { name = record { path = ws; number = None }; arguments = es })
