-- What a step of reading that found something says.
use Rattle.ksv_expr_syntax.proofs.Common.{◌≡◌, ℕ, zero, suc, Bool, true, false, List, [], ◌∷◌, ◌++◌, Option, Some, None, refl, ap}
use Rattle.ksv_expr_syntax.proofs.Common.{if◌then◌else◌, Symbol, UnaryOperator, BinaryOperator, Precedence, Infix, Tree, Arguments, operator, comparison}
use Rattle.ksv_expr_syntax.proofs.Common.{prefix, Lexeme, constant, word, symbol, path_tokens, Next, Found, FoundList, found, found_list, next, ◌>>=◌, choose}
use Rattle.ksv_expr_syntax.proofs.Common.{spend, after, operator_at, comparison_at, prefix_at, path_at, path_on, all_but_last, last_name}
use Rattle.std.proofs.Common.{rules}
use denote.Enum.Bare.{same_true}
use Rattle.ksv_expr_syntax.specs.contracts.token.Symbol.{the_type}
use Rattle.ksv_expr_syntax.specs.contracts.token.SymbolPartialEq.TheImpl.{ghosts as symbol_tests}
use Rattle.ksv_expr_syntax.specs.declared.token.Symbol.TheVariants as tok

pub bind_some : {A B : Type 0} (r : Option A) (f : A → Option B) (y : B) → (r >>= f) ≡ Some y → (x : A) × (r ≡ Some x) × (f x ≡ Some y)
bind_some None f y h = absurd cc
bind_some (Some x) f y h = (x, refl, h)

-- the same three, with what follows of a step as an argument
pub with_bind : {A B P : Type 0} (r : Option A) (f : A → Option B) (y : B) → (r >>= f) ≡ Some y → ((x : A) → r ≡ Some x → f x ≡ Some y → P) → P
with_bind None f y h k = absurd cc
with_bind (Some x) f y h k = k x refl h

pub with_spend : {A P : Type 0} (n : ℕ) (f : ℕ → Option A) (y : A) → spend n f ≡ Some y → ((m : ℕ) → n ≡ suc m → f m ≡ Some y → P) → P
with_spend zero f y h k = absurd cc
with_spend (suc n) f y h k = k n refl h

pub with_choice : {A B P : Type 0} (o : Option A) (x : Option B) (f : A → Option B) (y : B) → choose o x f ≡ Some y → (o ≡ None → x ≡ Some y → P)
    → ((a : A) → o ≡ Some a → f a ≡ Some y → P) → P
with_choice None x f y h none some = none refl h
with_choice (Some a) x f y h none some = some a refl h

-- by a test, and by whether there is something
pub by_test : {P : Type 0} (b : Bool) → (b ≡ true → P) → (b ≡ false → P) → P
by_test true f g = f refl
by_test false f g = g refl

pub by_option : {A P : Type 0} (o : Option A) → (o ≡ None → P) → ((a : A) → o ≡ Some a → P) → P
by_option None f g = f refl
by_option (Some a) f g = g a refl

pub if_some : {A : Type 0} (b : Bool) (x y : A) → (if b then Some x else None) ≡ Some y → (b ≡ true) × (x ≡ y)
if_some true x y h = (refl, cc)
if_some false x y h = absurd cc

-- a test of symbols that is true
pub same_symbol : (a b : Symbol) → symbol_tests.eq a b ≡ true → a ≡ b
same_symbol a b h = same_true the_type (search rules) a b h

pub next_is : {A : Type 0} {a : A} {ts : List Lexeme} {x : Next A} → next a ts ≡ Some x → record { what = a; behind = ts } ≡ x
next_is h = cc

pub after_some : (s : Symbol) (ts us : List Lexeme) → after s ts ≡ Some us → ts ≡ symbol s ∷ us
after_some s [] us h = absurd cc
after_some s (constant c ∷ ts) us h = absurd cc
after_some s (word w ∷ ts) us h = absurd cc
after_some s (symbol x ∷ ts) us h = let e = if_some (symbol_tests.eq x s) ts us h in let i = same_symbol x s e.0 in cc

next_some : {A : Type 0} (o : Option A) (t : Lexeme) (ts : List Lexeme) (x : Next A) → (o >>= λ a. next a ts) ≡ Some x
    → (t ∷ ts ≡ t ∷ x.behind) × (o ≡ Some x.what)
next_some None t ts x h = absurd cc
next_some {A} (Some a) t ts x h = let e = next_is h in (ap (λ (x : Next A). t ∷ x.behind) e, ap (λ (x : Next A). Some x.what) e)

pub operator_some : (k : Precedence) (ts : List Lexeme) (x : Next Infix) → operator_at k ts ≡ Some x
    → (t : Lexeme) × (ts ≡ t ∷ x.behind) × (operator k t ≡ Some x.what)
operator_some k [] x h = absurd cc
operator_some k (t ∷ ts) x h = let b = next_some (operator k t) t ts x h in (t, b.0, b.1)

pub comparison_some : (ts : List Lexeme) (x : Next BinaryOperator) → comparison_at ts ≡ Some x
    → (t : Lexeme) × (ts ≡ t ∷ x.behind) × (comparison t ≡ Some x.what)
comparison_some [] x h = absurd cc
comparison_some (t ∷ ts) x h = let b = next_some (comparison t) t ts x h in (t, b.0, b.1)

pub prefix_some : (ts : List Lexeme) (x : Next UnaryOperator) → prefix_at ts ≡ Some x → (t : Lexeme) × (ts ≡ t ∷ x.behind) × (prefix t ≡ Some x.what)
prefix_some [] x h = absurd cc
prefix_some (t ∷ ts) x h = let b = next_some (prefix t) t ts x h in (t, b.0, b.1)

-- ---- names with `::` between them

-- what was read of such names
pub record Path (ts : List Lexeme) (x : Next (List (List ℕ))) : Type 0 where
  pub first : List ℕ
  pub others : List (List ℕ)
  pub names : x.what ≡ first ∷ others
  pub cut : ts ≡ path_tokens (first ∷ others) ++ x.behind

-- one name alone
path_end : (w : List ℕ) (ts : List Lexeme) (x : Next (List (List ℕ))) → next (w ∷ []) ts ≡ Some x → Path (word w ∷ ts) x
path_end w ts x h = rw (← (next_is h)) (record { first = w; others = []; names = refl; cut = refl })

-- a name more
path_more : (w : List ℕ) (ts : List Lexeme) (y x : Next (List (List ℕ))) → Path ts y → next (w ∷ y.what) y.behind ≡ Some x
    → Path (word w ∷ symbol tok.ColonColon ∷ ts) x
path_more w ts y x s h = rw (← (next_is h)) (record {
  first = w;
  others = s.first ∷ s.others;
  names = ap (λ ws. w ∷ ws) s.names;
  cut = ap (λ ts. word w ∷ symbol tok.ColonColon ∷ ts) s.cut;
})

mutual
  pub path_some : (ts : List Lexeme) (x : Next (List (List ℕ))) → path_at ts ≡ Some x → Path ts x
  path_some (word w ∷ ts) x h = path_on_some w ts x h
  path_some _ x h = absurd cc

  pub path_on_some : (w : List ℕ) (ts : List Lexeme) (x : Next (List (List ℕ))) → path_on w ts ≡ Some x → Path (word w ∷ ts) x
  path_on_some w (symbol s ∷ ts) x h = by_test (symbol_tests.eq s tok.ColonColon)
      (λ e. with_bind (path_at ts) (λ x. next (w ∷ x.what) x.behind) x (rw e at h) (λ y r h.
      rw (same_symbol s tok.ColonColon e) (path_more w ts y x (path_some ts y r) h))) (λ e. path_end w (symbol s ∷ ts) x (rw e at h))
  path_on_some w ts x h = path_end w ts x h

-- names taken apart at the last are the names
pub split_names : (w : List ℕ) (ws : List (List ℕ)) → all_but_last (w ∷ ws) ++ last_name (w ∷ ws) ∷ [] ≡ w ∷ ws
split_names w [] = refl
split_names w (v ∷ ws) = ap (λ ws. w ∷ ws) (split_names v ws)

-- ---- trees

pub found_is : {e : Tree} {ts : List Lexeme} {p : ℕ} {x : Found} → found e ts p ≡ Some x → record { tree = e; rest = ts; left = p } ≡ x
found_is h = cc

pub list_is : {es : Arguments} {ts : List Lexeme} {p : ℕ} {x : FoundList} → found_list es ts p ≡ Some x → record { arguments = es; rest = ts; left = p } ≡ x
list_is h = cc
