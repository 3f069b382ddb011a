-- What a text is taken for is what it spells.
use Rattle.ksv_schema.proofs.Common.{◌≡◌, ℕ, zero, suc, ◌≤◌, Bool, false, List, [], ◌∷◌, length, Option, Some, None, refl, sym, ap, subst, ◌∙◌, arith, ◌>>=◌}
use Rattle.ksv_schema.proofs.Common.{expression_of}
use Rattle.std.specs.Prelude.{option_map}
use Rattle.ksv_expr_tree.specs.Tree.{Tree, TypeTree, Arguments}
use Rattle.ksv_expr_syntax.specs.Lexemes.{Lexeme}
use Rattle.ksv_expr_syntax.specs.Grammar.{Whole, IsExpr, SpellsType, bare, applied}
use Rattle.ksv_expr_syntax.specs.Tokens.{Cut, skip, mark, is_dot, Tokens, finished, token}
use Rattle.ksv_expr_syntax.specs.Cutting.{cut}
use Rattle.ksv_expr_syntax.specs.Reading.{Next, Found, FoundList, read, path_at}
use Rattle.ksv_expr_syntax.specs.Code.{type_list}
use Rattle.ksv_expr_syntax.specs.Text.{SpellsText, SpellsTypeText}
use Rattle.ksv_expr_syntax.proofs.Longest.{cut_is_longest}
use Rattle.ksv_expr_syntax.proofs.Scan.{scan_shorter}
use Rattle.ksv_expr_syntax.proofs.Theorem.{spelled, is_read, type_spelled, type_read}
use Rattle.ksv_expr_syntax.proofs.Steps.{bind_some}
use Rattle.ksv_schema.specs.Expressions.{tokens_to, tokens_of, tree_alone, type_alone, type_of}

map_found : {A B : Type 0} (g : A → B) (o : Option A) (y : B) → option_map g o ≡ Some y → (x : A) × (o ≡ Some x) × (g x ≡ y)
map_found g None y h = absurd cc
map_found g (Some x) y h = (x, refl, cc)

-- ---- tokens

cut_nothing : (x : Cut) → cut [] ≡ Some x → ⊥
cut_nothing x h = absurd (let k : None ≡ Some x = h in cc)

tokens_sound : (n : ℕ) (dot : Bool) (bs us : List ℕ) (ts : List Lexeme) → us ≡ skip bs → tokens_to n dot us ≡ Some ts → Tokens dot bs ts
tokens_sound n dot bs [] ts e h = let k : [] ≡ ts = cc in subst (λ ts. Tokens dot bs ts) k (finished (sym e))
tokens_sound zero dot bs (c ∷ cs) ts e h = absurd cc
tokens_sound (suc n) dot bs (c ∷ cs) ts e h =
    let x = bind_some (cut (c ∷ cs)) (λ x. option_map (λ ts. mark dot x ∷ ts) (tokens_to n (is_dot (mark dot x)) (skip x.rest))) ts h in
    let y = map_found (λ ts. mark dot x.0 ∷ ts) (tokens_to n (is_dot (mark dot x.0)) (skip x.0.rest)) ts x.2 in
    subst (λ ts. Tokens dot bs ts) y.2
    (token x.0 ((cut_is_longest (skip bs) x.0).0 (ap cut (sym e) ∙ x.1)) (tokens_sound n (is_dot (mark dot x.0)) x.0.rest (skip x.0.rest) y.0 refl y.1))

one_token : (n : ℕ) (dot : Bool) (us : List ℕ) (x : Cut) → cut us ≡ Some x
    → tokens_to (suc n) dot us ≡ option_map (λ ts. mark dot x ∷ ts) (tokens_to n (is_dot (mark dot x)) (skip x.rest))
one_token n dot [] x h = absurd (cut_nothing x h)
one_token n dot (c ∷ cs) x h = ap (λ (o : Option Cut). o >>= λ x. option_map (λ ts. mark dot x ∷ ts) (tokens_to n (is_dot (mark dot x)) (skip x.rest))) h

tokens_complete : (n : ℕ) (dot : Bool) (bs : List ℕ) (ts : List Lexeme) → Tokens dot bs ts → length bs ≤ n → tokens_to n dot (skip bs) ≡ Some ts
tokens_complete n dot bs ts (finished h) l = ap (tokens_to n dot) h
tokens_complete zero dot bs ts (token x h s) l = absurd (omega (arith, scan_shorter bs x ((cut_is_longest (skip bs) x).1 h)))
tokens_complete (suc n) dot bs ts (token {ts = vs} x h s) l =
    one_token n dot (skip bs) x ((cut_is_longest (skip bs) x).1 h)
    ∙ ap (option_map (λ ts. mark dot x ∷ ts))
    (tokens_complete n (is_dot (mark dot x)) x.rest vs s (omega (arith, scan_shorter bs x ((cut_is_longest (skip bs) x).1 h))))

-- ---- expressions

alone_is : (e f : Tree) (us : List Lexeme) → tree_alone e us ≡ Some f → (us ≡ []) × (e ≡ f)
alone_is e f [] h = (refl, cc)
alone_is e f (u ∷ us) h = absurd cc

pub expression_is_spelled : (text : List ℕ) (e : Tree) → expression_of text ≡ Some e → SpellsText text e
unfolding expression_of tokens_of
expression_is_spelled text e h =
    let t = bind_some (tokens_of text) (λ ts. read Whole 32 ts 256 >>= λ x. tree_alone x.tree x.rest) e h in
    let x = bind_some (read Whole 32 t.0 256) (λ x. tree_alone x.tree x.rest) e t.2 in
    let a = alone_is x.0.tree e x.0.rest x.2 in
    record {
      tokens = t.0;
      cut = tokens_sound (length text) false text (skip text) t.0 refl t.1;
      spelled = subst (λ e. IsExpr t.0 e) a.1 (spelled t.0 x.0.tree x.0.rest x.0.left a.0 x.1);
    }

pub spelled_is_expression : (text : List ℕ) (e : Tree) → SpellsText text e → expression_of text ≡ Some e
unfolding expression_of tokens_of
spelled_is_expression text e s =
    ap (λ (o : Option (List Lexeme)). o >>= λ ts. read Whole 32 ts 256 >>= λ x. tree_alone x.tree x.rest)
    (tokens_complete (length text) false text s.tokens s.cut (omega arith))
    ∙ ap (λ (o : Option Found). o >>= λ x. tree_alone x.tree x.rest) (is_read s.tokens e s.spelled)

-- ---- types

type_alone_is : (t u : TypeTree) (us : List Lexeme) → type_alone t us ≡ Some u → (us ≡ []) × (t ≡ u)
type_alone_is t u [] h = (refl, cc)
type_alone_is t u (v ∷ us) h = absurd cc

abbrev made : List (List ℕ) → Arguments → TypeTree
made ws es = record { name = record { path = ws; number = None }; arguments = es }

pub type_is_spelled : (text : List ℕ) (t : TypeTree) → type_of text ≡ Some t → SpellsTypeText text t
unfolding type_of tokens_of
type_is_spelled text t h =
    let s = bind_some (tokens_of text) (λ ts. path_at ts >>= λ x. type_list x.behind 256 >>= λ y. type_alone (made x.what y.arguments) y.rest) t h in
    let x = bind_some (path_at s.0) (λ x. type_list x.behind 256 >>= λ y. type_alone (made x.what y.arguments) y.rest) t s.2 in
    let y = bind_some (type_list x.0.behind 256) (λ y. type_alone (made x.0.what y.arguments) y.rest) t x.2 in
    let a = type_alone_is (made x.0.what y.0.arguments) t y.0.rest y.2 in
    record {
      tokens = s.0;
      cut = tokens_sound (length text) false text (skip text) s.0 refl s.1;
      spelled = subst (λ t. SpellsType s.0 t) a.1 (type_spelled s.0 x.0.what x.0.behind y.0.arguments y.0.rest y.0.left x.1 y.1 a.0);
    }

made_again : (ts : List Lexeme) (t : TypeTree) → SpellsType ts t → made t.name.path t.arguments ≡ t
made_again ts t (bare ws h c) = refl
made_again ts t (applied ws ys h c s l) = refl

pub spelled_is_type : (text : List ℕ) (t : TypeTree) → SpellsTypeText text t → type_of text ≡ Some t
unfolding type_of tokens_of
spelled_is_type text t s =
    let r = type_read s.tokens t s.spelled in
    ap (λ (o : Option (List Lexeme)). o >>= λ ts. path_at ts >>= λ x. type_list x.behind 256 >>= λ y. type_alone (made x.what y.arguments) y.rest)
    (tokens_complete (length text) false text s.tokens s.cut (omega arith))
    ∙ ap (λ (o : Option (Next (List (List ℕ)))). o >>= λ x. type_list x.behind 256 >>= λ y. type_alone (made x.what y.arguments) y.rest) r.path
    ∙ ap (λ (o : Option FoundList). o >>= λ y. type_alone (made t.name.path y.arguments) y.rest) r.list
    ∙ ap (λ (t : TypeTree). let o : Option TypeTree = Some t in o) (made_again s.tokens t s.spelled)
