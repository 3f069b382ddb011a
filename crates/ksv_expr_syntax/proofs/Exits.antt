-- What each exit of the parser's functions says of reading.
use Rattle.ksv_expr_syntax.proofs.Common.{◌==◌, ◌≡◌, ◌≢◌, ℕ, zero, suc, ◌<◌, Bool, false, List, [], ◌∷◌, ◌++◌, map, Option, Some, None, refl, ap, ◌∙◌}
use Rattle.ksv_expr_syntax.proofs.Common.{arith, Symbol, BinaryOperator, Precedence, Infix, Tree, binary, choice}
use Rattle.ksv_expr_syntax.proofs.Common.{call, index, Arguments, no_arguments, argument, Lexeme, constant, word, symbol, Level, Whole, Joined}
use Rattle.ksv_expr_syntax.proofs.Common.{Comparison, Primary, tighter, join_tree, next, Found, found, found_list, ◌>>=◌}
use Rattle.ksv_expr_syntax.proofs.Common.{choose, spend, after, operator_at, comparison_at, room, read, read_list, view}
use Rattle.ksv_expr_syntax.proofs.Common.{arguments_of, map-append, ◌≤◌}
use Rattle.ksv_expr_syntax.specs.declared.token.Symbol.TheVariants as tok
use Rattle.ksv_expr_syntax.specs.declared.token.Precedence.TheVariants as tier
use Rattle.ksv_expr_syntax.specs.declared.token.Infix.TheVariants as infixes
use Rattle.ksv_expr_syntax.specs.Reading.{place_on, select_on}
use Rattle.ksv_expr_syntax.specs.declared.parser.Opening.{Opening}
use Rattle.ksv_expr_syntax.specs.declared.parser.Opening.TheVariants as openings
use Rattle.ksv_expr_syntax.specs.Code.{GivesArms, IsWithin, inside, opened, with_tree, with_list, closing, right_at, place_at, list_at}
use Rattle.ksv_expr_syntax.specs.Code.{arms_at, cast_at, member_on, member_at, suffix_step, IsNoCall, OpensWith}
use Rattle.ksv_expr_tree.specs.declared.tree.Expr.{Expr}
use Rattle.ksv_expr_syntax.specs.declared.cursor.Rest.{Rest}
use Rattle.ksv_expr_syntax.specs.declared.fault.ExprFault.{ExprFault}
use Rattle.std.proofs.Common.{Result, Ok, Err}
use Rattle.ksv_expr_syntax.proofs.Same.{spend_same}
use Rattle.ksv_expr_syntax.proofs.Flow.{join_on, suffix_on, more_on, join_on_is}
use Rattle.ksv_expr_syntax.proofs.Flow.{read_comparison, compare_on_is, suffix_on_is}
use Rattle.ksv_expr_syntax.proofs.Flow.{group_on, place_on_is, select_word, select_symbol, select_constant, select_end}
use Rattle.ksv_expr_syntax.proofs.Flow.{primary_symbol, group_on_is, read_list_is, more_on_is}

-- how many calls lead to a level at one token, for the measures
abbrev pub rank : Level → ℕ
rank l = room l []

-- arguments put in front of those that are read
abbrev pub append_arguments : Arguments → Arguments → Arguments
append_arguments no_arguments es = es
append_arguments (argument e ds) es = argument e (append_arguments ds es)

-- these arguments were read, and one or more are still to come
pub record ListNow (d : ℕ) (ts : List Lexeme) (p : ℕ) (done : Arguments) (us : List Lexeme) (q : ℕ) : Type 0 where
  pub is : read_list d ts p ≡ (more_on d us q >>= λ b. found_list (append_arguments done b.arguments) b.rest b.left)

-- a test of emptiness that is false
pub not_zero : (n : ℕ) (b : Bool) → b ≡ false → b ≡ (n == 0) → 0 < n
not_zero zero b h k = absurd cc
not_zero (suc n) b h k = omega arith

-- ---- steps

-- one level and one part fewer, in either order
pub inside_is : {A : Type 0} (d p : ℕ) (f : ℕ → ℕ → Option A) (o : Option (ℕ × ℕ)) → inside d p ≡ o
    → spend d (λ d. spend p (λ p. f d p)) ≡ (o >>= λ x. f x.0 x.1)
inside_is (suc d) (suc p) f o h = ap (λ o. o >>= λ x. f x.0 x.1) h
inside_is _ _ f o h = ap (λ o. o >>= λ x. f x.0 x.1) h

pub both_less : (d p e q : ℕ) → inside d p ≡ Some (e, q) → (d ≡ suc e) × (p ≡ suc q)
both_less (suc d) (suc p) e q h =
    let i : (let x : ℕ × ℕ = (d, p) in x) ≡ (e, q) = cc in (ap (λ (x : ℕ × ℕ). suc x.0) i, ap (λ (x : ℕ × ℕ). suc x.1) i)
both_less _ _ e q h = absurd cc

pub inside_swapped : {A : Type 0} (d p : ℕ) (f : ℕ → ℕ → Option A) (o : Option (ℕ × ℕ)) → inside d p ≡ o
    → spend p (λ p. spend d (λ d. f d p)) ≡ (o >>= λ x. f x.0 x.1)
inside_swapped zero zero f o h = ap (λ o. o >>= λ x. f x.0 x.1) h
inside_swapped zero (suc p) f o h = ap (λ o. o >>= λ x. f x.0 x.1) h
inside_swapped (suc d) zero f o h = ap (λ o. o >>= λ x. f x.0 x.1) h
inside_swapped (suc d) (suc p) f o h = ap (λ o. o >>= λ x. f x.0 x.1) h

-- ---- an expression and a symbol after it

pub bind_both : {A B C : Type 0} (o : Option A) (f : A → Option B) (g : B → Option C) → (o >>= λ x. f x >>= g) ≡ ((o >>= f) >>= g)
bind_both None f g = refl
bind_both (Some x) f g = refl

closing_then : (s : Symbol) (o : Option Found) (g : Tree → List Lexeme → ℕ → Option Found)
    → (o >>= λ a. after s a.rest >>= λ us. g a.tree us a.left) ≡ (closing s o >>= λ a. g a.tree a.rest a.left)
closing_then s None g = refl
closing_then s (Some a) g = bind_both (after s a.rest) (λ us. found a.tree us a.left) (λ a. g a.tree a.rest a.left)

-- ---- choices

pub arms_first : (d : ℕ) (ts : List Lexeme) (p c q : ℕ) (o : Option Found) (e : Tree) → inside d p ≡ Some (c, q) → closing tok.Colon (read Whole c ts q) ≡ o
    → arms_at e d ts p ≡ (o >>= λ a. read Whole c a.rest a.left >>= λ b. found (choice e a.tree b.tree) b.rest b.left)
arms_first d ts p c q o e x h = inside_is d p _ (Some (c, q)) x
    ∙ closing_then tok.Colon (read Whole c ts q) (λ a us r. read Whole c us r >>= λ b. found (choice e a b.tree) b.rest b.left) ∙ rw h

-- ---- operators between operands

join_flow : (q : ℕ) (r : ℕ → Option Found) (f : Tree → Tree) (g : Tree → List Lexeme → ℕ → Option Found)
    → spend q (λ p. r p >>= λ a. g (f a.tree) a.rest a.left) ≡ (with_tree f (spend q r) >>= λ a. g a.tree a.rest a.left)
join_flow zero r f g = refl
join_flow (suc q) r f g = elim (r q) as (λ o. (o >>= λ a. g (f a.tree) a.rest a.left) ≡ (with_tree f o >>= λ a. g a.tree a.rest a.left))
    [ None ↦ refl | Some a ↦ refl ]

pub join_step : (k : Precedence) (l : Level) (e : Tree) (d : ℕ) (us : List Lexeme) (q : ℕ) (op : Infix) (vs : List Lexeme) (o : Option Found) → l ≡ tighter k
    → operator_at k us ≡ next op vs → with_tree (λ b. join_tree op e b) (right_at l d vs q) ≡ o
    → join_on k e d us q ≡ (o >>= λ a. join_on k a.tree d a.rest a.left)
join_step k l e d us q op vs o z n i = rw (join_on_is, n, ← z) (join_flow q (λ p. read l d vs p) (λ b. join_tree op e b) (λ a ts p. join_on k a d ts p) ∙ rw i)

-- ---- not

-- ---- comparisons

spend_with : (q : ℕ) (r : ℕ → Option Found) (f : Tree → Tree) → spend q (λ p. with_tree f (r p)) ≡ with_tree f (spend q r)
spend_with zero r f = refl
spend_with (suc q) r f = refl

pub compare_step : (d : ℕ) (ts : List Lexeme) (p : ℕ) (e : Tree) (us : List Lexeme) (q : ℕ) (op : BinaryOperator) (vs : List Lexeme)
    → read (Joined tier.BitOr) d ts p ≡ found e us q → comparison_at us ≡ next op vs
    → read Comparison d ts p ≡ with_tree (λ b. join_tree (infixes.Binary op) e b) (right_at (Joined tier.BitOr) d vs q)
compare_step d ts p e us q op vs h n = rw (read_comparison, h, compare_on_is, n) (spend_with q (λ p. read (Joined tier.BitOr) d vs p) (λ b. binary op e b))

-- ---- operators in front

-- ---- what goes on with a postfix expression

-- what no call is, after a dot
pub member_is : (e : Tree) (d : ℕ) (ts : List Lexeme) (p : ℕ) → IsNoCall ts → select_on e d ts p ≡ member_at e ts p
member_is e d (word w ∷ ts) p n = rw select_word (spend_same p _ _ (λ p. rw (n w ts refl)))
member_is e d (symbol s ∷ ts) p n = select_symbol e d s ts p
member_is e d (constant c ∷ ts) zero n = select_constant e d ts zero c
member_is e d (constant c ∷ ts) (suc p) n = select_constant e d ts (suc p) c
member_is e d [] zero n = select_end e d zero
member_is e d [] (suc p) n = select_end e d (suc p)

pub member_cast : (e : Tree) (ts : List Lexeme) (p : ℕ) → ((w : List ℕ) (rest : List Lexeme) → ts ≢ word w ∷ rest) → member_on e ts p ≡ cast_at e ts p
member_cast e (word w ∷ ts) p n = absurd (n w ts refl)
member_cast e _ p n = refl

place_in : (o : Option (ℕ × ℕ)) (e : Tree) (ts : List Lexeme)
    → (o >>= λ x. read Whole x.0 ts x.1 >>= λ a. after tok.CloseBracket a.rest >>= λ us. found (index e a.tree) us a.left)
    ≡ with_tree (λ i. index e i) (o >>= λ x. closing tok.CloseBracket (read Whole x.0 ts x.1))
place_in None e ts = refl
place_in (Some x) e ts = closing_then tok.CloseBracket (read Whole x.0 ts x.1) (λ a us r. found (index e a) us r)

place_is : (e : Tree) (d : ℕ) (ts : List Lexeme) (p : ℕ) → place_on e d ts p ≡ with_tree (λ i. index e i) (place_at d ts p)
place_is e d ts p = place_on_is e d ts p ∙ inside_is d p _ (inside d p) refl ∙ place_in (inside d p) e ts

call_is : (e : Tree) (w : List ℕ) (d : ℕ) (ts : List Lexeme) (p : ℕ)
    → spend p (λ p. spend d (λ d. read_list d ts p >>= λ a. found (call e w a.arguments) a.rest a.left)) ≡ with_list (λ es. call e w es) (list_at d ts p)
call_is e w d ts p = inside_swapped d p _ (inside d p) refl ∙ bind_both (inside d p) (λ x. read_list x.0 ts x.1) _

pub suffix_go : (o : Opening) (e : Tree) (d : ℕ) (us : List Lexeme) (q : ℕ) (vs : List Lexeme) (s : Option Found) → OpensWith o us vs
    → suffix_step o e d vs q ≡ s → suffix_on e d us q ≡ (s >>= λ a. suffix_on a.tree d a.rest a.left)
suffix_go openings.Member e d us q vs s n k = rw (suffix_on_is, n.0, member_is e d vs q n.1, k)
suffix_go (openings.Call text from) e d us q vs s n k = rw (suffix_on_is, n.0, select_word, n.1, call_is e text.now d vs q, k)
suffix_go openings.Place e d us q vs s n k = rw (suffix_on_is, n.0, n.1, place_is e d vs q, k)

-- ---- arguments

append_one : (ds : Arguments) (e : Tree) (es : Arguments)
    → append_arguments (append_arguments ds (argument e no_arguments)) es ≡ append_arguments ds (argument e es)
append_one no_arguments e es = refl
append_one (argument d ds) e es = ap (λ es. argument d es) (append_one ds e es)

pub list_start : (d : ℕ) (ts : List Lexeme) (p : ℕ) → after tok.CloseParenthesis ts ≡ None → ListNow d ts p no_arguments ts p
list_start d ts p h = record {
  is = rw (read_list_is, h)
      (elim (more_on d ts p) as (λ o. o ≡ (o >>= λ b. found_list (append_arguments no_arguments b.arguments) b.rest b.left)) [ None ↦ refl | Some b ↦ refl ]);
}

list_step : {d p q : ℕ} {ts us : List Lexeme} {done : Arguments} (o : Option Found) → ListNow d ts p done us q → read Whole d us q ≡ o
    → read_list d ts p ≡ ((o >>= λ a. choose (after tok.Comma a.rest)
    (after tok.CloseParenthesis a.rest >>= λ us. found_list (argument a.tree no_arguments) us a.left)
    (λ us. more_on d us a.left >>= λ b. found_list (argument a.tree b.arguments) b.rest b.left))
    >>= λ b. found_list (append_arguments done b.arguments) b.rest b.left)
list_step o n h = rw (n.is, more_on_is, h)

pub list_fails : {d p q : ℕ} {ts us : List Lexeme} {done : Arguments} → ListNow d ts p done us q → read Whole d us q ≡ None → read_list d ts p ≡ None
list_fails n h = list_step None n h

pub list_open : {d p q : ℕ} {ts us : List Lexeme} {done : Arguments} (e : Tree) (vs : List Lexeme) (r : ℕ) → ListNow d ts p done us q
    → read Whole d us q ≡ found e vs r → after tok.Comma vs ≡ None → after tok.CloseParenthesis vs ≡ None → read_list d ts p ≡ None
list_open e vs r n h x y = list_step (found e vs r) n h ∙ rw (x, y)

pub list_ends : {d p q : ℕ} {ts us : List Lexeme} {done all : Arguments} (e : Tree) (vs : List Lexeme) (r : ℕ) (ws : List Lexeme) → ListNow d ts p done us q
    → read Whole d us q ≡ found e vs r → after tok.Comma vs ≡ None → after tok.CloseParenthesis vs ≡ Some ws
    → all ≡ append_arguments done (argument e no_arguments) → read_list d ts p ≡ found_list all ws r
list_ends e vs r ws n h x y z = list_step (found e vs r) n h ∙ rw (x, y, z)

pub list_goes_on : {d p q : ℕ} {ts us : List Lexeme} {done all : Arguments} (e : Tree) (vs : List Lexeme) (r : ℕ) (ws : List Lexeme) → ListNow d ts p done us q
    → read Whole d us q ≡ found e vs r → after tok.Comma vs ≡ Some ws → all ≡ append_arguments done (argument e no_arguments) → ListNow d ts p all ws r
list_goes_on {d} {done = done} {all} e vs r ws n h x z = record {
  is = list_step (found e vs r) n h ∙ rw (x, z) (elim (more_on d ws r) as
      (λ o. ((o >>= λ b. found_list (argument e b.arguments) b.rest b.left) >>= λ b. found_list (append_arguments done b.arguments) b.rest b.left)
      ≡ (o >>= λ b. found_list (append_arguments (append_arguments done (argument e no_arguments)) b.arguments) b.rest b.left))
      [ None ↦ refl | Some b ↦ rw (append_one done e b.arguments) ]);
}

-- ---- primary expressions

group_in : (d : ℕ) (us : List Lexeme) (p : ℕ) → spend d (λ d. closing tok.CloseParenthesis (read Whole d us p))
    ≡ (spend d (λ d. next d us) >>= λ x. closing tok.CloseParenthesis (read Whole x.what x.behind p))
group_in zero us p = refl
group_in (suc d) us p = refl

group_all : (o : Option (List Lexeme)) (d p : ℕ) → (o >>= λ us. group_on d us p)
    ≡ ((o >>= λ us. spend d (λ d. next d us)) >>= λ x. closing tok.CloseParenthesis (read Whole x.what x.behind p))
group_all None d p = refl
group_all (Some us) d p = group_on_is d us p ∙ group_in d us p

pub group_is : (d : ℕ) (ts : List Lexeme) (p : ℕ) (s : Symbol) (us : List Lexeme) → ts ≡ symbol s ∷ us
    → read Primary d ts p ≡ (opened d ts >>= λ x. closing tok.CloseParenthesis (read Whole x.what x.behind p))
group_is d ts p s us z = rw (z, primary_symbol) (group_all (after tok.OpenParenthesis (symbol s ∷ us)) d p)

-- ---- tokens as the code holds them

pub within_more : (m n : ℕ) (r : Result (Expr × Rest) ExprFault) → m ≤ n → IsWithin m r → IsWithin n r
within_more m n (Ok x) h w = omega arith
within_more m n (Err f) h w = tt

pub gives_arms : (f g : Tree → Option Found) (r : Result (Expr × Expr × Rest) ExprFault) → ((e : Tree) → f e ≡ g e) → GivesArms g r → GivesArms f r
gives_arms f g (Ok x) h k = λ e. h e ∙ k e
gives_arms f g (Err y) h k = λ n e. h e ∙ k n e

arguments_append : (xs : List Tree) (e : Tree) → arguments_of (xs ++ e ∷ []) ≡ append_arguments (arguments_of xs) (argument e no_arguments)
arguments_append [] e = refl
arguments_append (x ∷ xs) e = ap (λ es. argument x es) (arguments_append xs e)

pub arguments_push : (xs ys : List Expr) (e : Expr) → ys ≡ xs ++ e ∷ []
    → arguments_of (map view ys) ≡ append_arguments (arguments_of (map view xs)) (argument (view e) no_arguments)
arguments_push xs ys e h = rw (h, map-append) (arguments_append (map view xs) (view e))
