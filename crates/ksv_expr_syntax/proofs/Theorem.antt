-- What the tokens spell is what is read, and it is one tree.
use Rattle.ksv_expr_syntax.proofs.Common.{◌≡◌, ℕ, ◌<◌, Bool, true, false, List, [], ◌∷◌, ◌++◌, length, Option, Some, None, refl, sym, ap, subst, ◌∙◌, arith}
use Rattle.ksv_expr_syntax.proofs.Common.{append-nil, Tree, Arguments, no_arguments, Lexeme, symbol, parts, all_parts, Whole, Spells, path_tokens}
use Rattle.ksv_expr_syntax.proofs.Common.{Next, next, Found, FoundList, found, found_list, after, path_at, room, wide, read, read_list, ◌==◌, Placed, lexemes}
use Rattle.std.proofs.Common.{◌-◌}
use Rattle.ksv_expr_syntax.specs.declared.token.Symbol.TheVariants as tok
use Rattle.ksv_expr_tree.specs.Tree.{TypeTree}
use Rattle.ksv_expr_syntax.specs.Grammar.{IsExpr, SpellsType, bare, applied}
use Rattle.ksv_expr_syntax.specs.Tokens.{Tokens}
use Rattle.ksv_expr_syntax.specs.Text.{SpellsText, SpellsTypeText}
use Rattle.ksv_expr_syntax.proofs.Steps.{found_is, path_some, after_some, with_choice}
use Rattle.ksv_expr_syntax.proofs.Sound.{reads_sound, list_sound}
use Rattle.ksv_expr_syntax.proofs.Complete.{goal, whole, goal_arguments}
use Rattle.ksv_expr_syntax.proofs.Scan.{one_cutting}
use Rattle.ksv_expr_syntax.proofs.Loops.{read_path}
use Rattle.ksv_expr_syntax.specs.Code.{type_list}
use Rattle.ksv_expr_syntax.specs.declared.fault.ExprFault.{ExprFault}
use Rattle.std.specs.Prelude.{MatchOption}

pub spelled : (ts : List Lexeme) (e : Tree) (us : List Lexeme) (q : ℕ) → us ≡ [] → read Whole 32 ts 256 ≡ found e us q → IsExpr ts e
unfolding read
spelled ts e us q z r =
    let s = reads_sound (room Whole ts) Whole 32 ts 256 (record { tree = e; rest = us; left = q }) r in
    let cut : s.front ≡ ts = sym (s.cut ∙ ap (λ (us : List Lexeme). s.front ++ us) z ∙ append-nil s.front) in
    record { spelled = subst (λ ts. Spells 32 Whole ts e) cut s.spelled; size = omega (arith, s.spent) }

-- what is spelled is read
pub is_read : (ts : List Lexeme) (e : Tree) → IsExpr ts e → read Whole 32 ts 256 ≡ found e [] (256 - parts e)
is_read ts e x = ap (λ us. read Whole 32 us 256) (sym (append-nil ts)) ∙ whole (goal x.spelled) [] (256 - parts e) 256 (omega (arith, x.size)) tt

pub not_read : (ts : List Lexeme) → read Whole 32 ts 256 ≡ None → (e : Tree) → IsExpr ts e → ⊥
not_read ts r e x = absurd (let k : None ≡ found e [] (256 - parts e) = sym r ∙ is_read ts e x in cc)

pub rest_read : (ts : List Lexeme) (f : Tree) (us : List Lexeme) (q : ℕ) → (us ≡ [] → ⊥) → read Whole 32 ts 256 ≡ found f us q → (e : Tree) → IsExpr ts e → ⊥
rest_read ts f us q z r e x = z (ap (λ (x : Found). x.rest) (found_is (sym r ∙ is_read ts e x)))

-- no tokens spell two trees
pub one_tree : (ts : List Lexeme) (e f : Tree) → IsExpr ts e → IsExpr ts f → e ≡ f
one_tree ts e f x y = ap (λ (x : Found). x.tree) (found_is (sym (is_read ts e x) ∙ is_read ts f y))

-- no text spells two trees
pub one_expression : (text : List ℕ) (e f : Tree) → SpellsText text e → SpellsText text f → e ≡ f
one_expression text e f x y = one_tree y.tokens e f (subst (λ ts. IsExpr ts e) (one_cutting false text x.tokens y.tokens x.cut y.cut) x.spelled) y.spelled

-- a text whose tokens spell nothing spells nothing
pub no_expression : (text : List ℕ) (ts : List Lexeme) → Tokens false text ts → ((e : Tree) → IsExpr ts e → ⊥) → (e : Tree) → SpellsText text e → ⊥
no_expression text ts t h e x = h e (subst (λ ts. IsExpr ts e) (one_cutting false text x.tokens ts x.cut t) x.spelled)

-- a text without tokens spells nothing
pub no_tokens : (text : List ℕ) → ((ts : List Lexeme) → Tokens false text ts → ⊥) → (e : Tree) → SpellsText text e → ⊥
no_tokens text h e x = h x.tokens x.cut

-- a test of emptiness, of tokens with their places
pub no_more : (us : List Placed) (b : Bool) → b ≡ true → b ≡ (length us == 0) → lexemes us ≡ []
no_more [] b h k = refl
no_more (v ∷ us) b h k = absurd (grind (arith, h, k))

pub some_more : (us : List Placed) (b : Bool) → b ≡ false → b ≡ (length us == 0) → lexemes us ≡ [] → ⊥
some_more [] b h k z = absurd (grind (arith, h, k))
some_more (v ∷ us) b h k z = absurd (let k = z in cc)

-- ---- types with arguments

-- a type's tree
abbrev pub type_tree : List (List ℕ) → Arguments → TypeTree
type_tree ws es = record { name = record { path = ws; number = None }; arguments = es }

list_is : (es fs : Arguments) (us vs : List Lexeme) (p q : ℕ) → found_list es us p ≡ found_list fs vs q → (es ≡ fs) × (us ≡ vs)
list_is es fs us vs p q h =
    let e : record { arguments = es; rest = us; left = p } ≡ record { arguments = fs; rest = vs; left = q } = cc in
    (ap (λ (x : FoundList). x.arguments) e, ap (λ (x : FoundList). x.rest) e)

pub type_spelled : (ts : List Lexeme) (ws : List (List ℕ)) (us : List Lexeme) (es : Arguments) (vs : List Lexeme) (q : ℕ) → path_at ts ≡ next ws us
    → type_list us 256 ≡ found_list es vs q → vs ≡ [] → SpellsType ts (type_tree ws es)
unfolding read_list
type_spelled ts ws us es vs q h k z =
    let x = path_some ts (record { what = ws; behind = us }) h in
    let some : 0 < length ws = omega (arith, ap length x.names) in
    let cut : ts ≡ path_tokens ws ++ us = x.cut ∙ ap (λ ws. path_tokens ws ++ us) (sym x.names) in
    with_choice (after tok.OpenParenthesis us) _ _ _ k
    (λ c i. let e = list_is no_arguments es us vs 256 q i in
    rw (← e.0) (bare ws some (cut ∙ ap (λ us. path_tokens ws ++ us) (e.1 ∙ z) ∙ append-nil (path_tokens ws))))
    (λ r c i. let s = list_sound (wide r) 31 r 256 (record { arguments = es; rest = vs; left = q }) i in
    applied ws s.front some
    (cut ∙ ap (λ us. path_tokens ws ++ us)
    (after_some tok.OpenParenthesis us r c ∙ ap (λ us. symbol tok.OpenParenthesis ∷ us) (s.cut ∙ ap (λ vs. s.front ++ symbol tok.CloseParenthesis ∷ vs) z)))
    s.spelled (omega (arith, s.spent)))

-- what a type that is spelled is read as
pub record TypeRead (ts : List Lexeme) (t : TypeTree) : Type 0 where
  pub rest : List Lexeme
  pub left : ℕ
  pub path : path_at ts ≡ next t.name.path rest
  pub list : type_list rest 256 ≡ found_list t.arguments [] left

pub type_read : (ts : List Lexeme) (t : TypeTree) → SpellsType ts t → TypeRead ts t
type_read ts t (bare [] h is) = absurd (omega arith)
type_read ts t (bare (w ∷ ws) h is) = record {
  rest = [];
  left = 256;
  path = ap path_at (is ∙ sym (append-nil (path_tokens (w ∷ ws)))) ∙ read_path w ws [] refl;
  list = refl;
}
type_read ts t (applied [] ys h is s l) = absurd (omega arith)
type_read ts t (applied {es = es} (w ∷ ws) ys h is s l) = record {
  rest = symbol tok.OpenParenthesis ∷ (ys ++ symbol tok.CloseParenthesis ∷ []);
  left = 256 - all_parts es;
  path = ap path_at is ∙ read_path w ws (symbol tok.OpenParenthesis ∷ (ys ++ symbol tok.CloseParenthesis ∷ [])) refl;
  list = (goal_arguments s).step [] (256 - all_parts es) 256 (omega arith);
}

same_next : (ws vs : List (List ℕ)) (us xs : List Lexeme) → next ws us ≡ next vs xs → (ws ≡ vs) × (us ≡ xs)
same_next ws vs us xs h =
    let e : record { what = ws; behind = us } ≡ record { what = vs; behind = xs } = cc in
    (ap (λ (x : Next (List (List ℕ))). x.what) e, ap (λ (x : Next (List (List ℕ))). x.behind) e)

-- no number is given to a type that is spelled
type_is : (ts : List Lexeme) (t : TypeTree) → SpellsType ts t → t ≡ type_tree t.name.path t.arguments
type_is ts t (bare ws h is) = refl
type_is ts t (applied ws ys h is s l) = refl

one_type_tree : (ts : List Lexeme) (t u : TypeTree) → SpellsType ts t → SpellsType ts u → t ≡ u
one_type_tree ts t u a b =
    let x = type_read ts t a in
    let y = type_read ts u b in
    let e = same_next t.name.path u.name.path x.rest y.rest (sym x.path ∙ y.path) in
    let f = list_is t.arguments u.arguments [] [] x.left y.left (sym x.list ∙ ap (λ us. type_list us 256) e.1 ∙ y.list) in
    type_is ts t a ∙ ap (λ ws. type_tree ws t.arguments) e.0 ∙ ap (λ es. type_tree u.name.path es) f.0 ∙ sym (type_is ts u b)

-- no text spells two types
pub one_type : (text : List ℕ) (t u : TypeTree) → SpellsTypeText text t → SpellsTypeText text u → t ≡ u
one_type text t u x y = one_type_tree y.tokens t u (subst (λ ts. SpellsType ts t) (one_cutting false text x.tokens y.tokens x.cut y.cut) x.spelled) y.spelled

pub no_type_path : (ts : List Lexeme) → path_at ts ≡ None → (t : TypeTree) → SpellsType ts t → ⊥
no_type_path ts h t x = let r = type_read ts t x in absurd (let k : None ≡ next t.name.path r.rest = sym h ∙ r.path in cc)

pub no_type_list : (ts : List Lexeme) (ws : List (List ℕ)) (us : List Lexeme) → path_at ts ≡ next ws us → type_list us 256 ≡ None → (t : TypeTree)
    → SpellsType ts t → ⊥
no_type_list ts ws us h k t x =
    let r = type_read ts t x in
    let e = (same_next ws t.name.path us r.rest (sym h ∙ r.path)).1 in
    absurd (let k : None ≡ found_list t.arguments [] r.left = sym k ∙ ap (λ us. type_list us 256) e ∙ r.list in cc)

pub no_type_end : (ts : List Lexeme) (ws : List (List ℕ)) (us : List Lexeme) (es : Arguments) (vs : List Lexeme) (q : ℕ) → path_at ts ≡ next ws us
    → type_list us 256 ≡ found_list es vs q → (vs ≡ [] → ⊥) → (t : TypeTree) → SpellsType ts t → ⊥
no_type_end ts ws us es vs q h k z t x =
    let r = type_read ts t x in
    let e = (same_next ws t.name.path us r.rest (sym h ∙ r.path)).1 in
    z (list_is es t.arguments vs [] q r.left (sym k ∙ ap (λ us. type_list us 256) e ∙ r.list)).1

pub no_type : (text : List ℕ) (ts : List Lexeme) → Tokens false text ts → ((t : TypeTree) → SpellsType ts t → ⊥) → (t : TypeTree) → SpellsTypeText text t → ⊥
no_type text ts s h t x = h t (subst (λ ts. SpellsType ts t) (one_cutting false text x.tokens ts x.cut s) x.spelled)

pub no_type_tokens : (text : List ℕ) → ((ts : List Lexeme) → Tokens false text ts → ⊥) → (t : TypeTree) → SpellsTypeText text t → ⊥
no_type_tokens text h t x = h x.tokens x.cut

-- ---- a text that is refused, whatever is wrong after its tokens

pub refused_text : (text : List ℕ) (ts : List Lexeme) (o : Option ExprFault)
    → MatchOption o (Tokens false text ts) (λ _. (us : List Lexeme) → Tokens false text us → ⊥) → ((e : Tree) → IsExpr ts e → ⊥) → (e : Tree)
    → SpellsText text e → ⊥
refused_text text ts None m h e x = no_expression text ts m h e x
refused_text text ts (Some f) m h e x = no_tokens text m e x

pub refused_type : (text : List ℕ) (ts : List Lexeme) (o : Option ExprFault)
    → MatchOption o (Tokens false text ts) (λ _. (us : List Lexeme) → Tokens false text us → ⊥) → ((t : TypeTree) → SpellsType ts t → ⊥) → (t : TypeTree)
    → SpellsTypeText text t → ⊥
refused_type text ts None m h t x = no_type text ts m h t x
refused_type text ts (Some f) m h t x = no_type_tokens text m t x
