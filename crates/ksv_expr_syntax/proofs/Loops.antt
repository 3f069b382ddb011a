-- Where the parser's loops stand.
use Rattle.ksv_expr_syntax.proofs.Common.{◌≡◌, ℕ, List, [], ◌∷◌, ◌++◌, Some, None, refl, ◌∙◌, append_assoc, Lexeme}
use Rattle.ksv_expr_syntax.proofs.Common.{word, symbol, next, ◌>>=◌, choose, after, path_at, path_on}
use Rattle.ksv_expr_syntax.specs.contracts.token.SymbolPartialEq.TheImpl.{ghosts as symbol_tests}
use Rattle.ksv_expr_syntax.proofs.Common.{path_tokens}
use Rattle.ksv_expr_syntax.proofs.Steps.{by_test}
use Rattle.ksv_expr_syntax.specs.declared.token.Symbol.TheVariants as tok

-- after a name, by what is there
pub path_on_is : (w : List ℕ) (ts : List Lexeme) → path_on w ts
    ≡ choose (after tok.ColonColon ts) (next (w ∷ []) ts) (λ us. path_at us >>= λ x. next (w ∷ x.what) x.behind)
path_on_is w (symbol s ∷ ts) = by_test (symbol_tests.eq s tok.ColonColon) (λ e. rw e) (λ e. rw e)
path_on_is w _ = refl

pub read_path : (w : List ℕ) (ws : List (List ℕ)) (rest : List Lexeme) → after tok.ColonColon rest ≡ None
    → path_at (path_tokens (w ∷ ws) ++ rest) ≡ next (w ∷ ws) rest
read_path w [] rest h = path_on_is w rest ∙ rw h
read_path w (v ∷ ws) rest h = rw (read_path v ws rest h)

-- these names were read, and reading goes on from these tokens
pub record PathNow (ts : List Lexeme) (done : List (List ℕ)) (us : List Lexeme) : Type 0 where
  pub is : path_at ts ≡ (path_at us >>= λ x. next (done ++ x.what) x.behind)

pub path_goes_on : {ts : List Lexeme} {done all : List (List ℕ)} {us : List Lexeme} (w : List ℕ) (vs zs : List Lexeme) → PathNow ts done us → us ≡ word w ∷ vs
    → after tok.ColonColon vs ≡ Some zs → all ≡ done ++ w ∷ [] → PathNow ts all zs
path_goes_on {done = done} w vs zs n e h a = record {
  is = n.is ∙ rw (e, path_on_is w vs, h, a) (elim (path_at zs) as
      (λ o. ((o >>= λ x. next (w ∷ x.what) x.behind) >>= λ x. next (done ++ x.what) x.behind) ≡ (o >>= λ x. next ((done ++ w ∷ []) ++ x.what) x.behind))
      [ None ↦ refl | Some x ↦ rw append_assoc ]);
}
