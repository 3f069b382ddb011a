-- Cutting a text from front to back gives its tokens.
use Rattle.ksv_expr_syntax.proofs.Common.{◌≡◌, ℕ, ◌<◌, ◌≤◌, Bool, true, false, List, [], ◌∷◌, ◌++◌, length, Some, None, refl, sym, ap, subst, ◌∙◌, append_assoc}
use Rattle.ksv_expr_syntax.proofs.Common.{arith, length-append, ◌==◌, take_while, append-nil, Symbol, spelling, Lexeme, cut}
use Rattle.std.proofs.Common.{length-drop}
use Rattle.ksv_expr_syntax.specs.declared.token.Symbol.TheVariants as tok
use Rattle.ksv_expr_syntax.specs.Tokens.{Cut, is_space, skip, begun, number_prefix, IsToken, name, number, single, double, sign, mark}
use Rattle.ksv_expr_syntax.specs.Tokens.{is_dot, Tokens, finished, token}
use Rattle.ksv_expr_syntax.proofs.Longest.{cut_is_longest, first_digit, is_cut}
use Rattle.ksv_expr_syntax.proofs.Symbols.{IsFound, by_one, by_two, is_found}

no_cut : cut [] ≡ None
no_cut = refl

-- these tokens were cut, and cutting goes on here
pub record ScanNow (text : List ℕ) (done : List Lexeme) (dot : Bool) (rest : List ℕ) : Type 0 where
  pub forth : (ts : List Lexeme) → Tokens dot rest ts → Tokens false text (done ++ ts)
  pub back : (ts : List Lexeme) → Tokens false text ts → (us : List Lexeme) × (ts ≡ done ++ us) × Tokens dot rest us

pub scan_ends : {text : List ℕ} {done : List Lexeme} {dot : Bool} {rest : List ℕ} → ScanNow text done dot rest → skip rest ≡ [] → Tokens false text done
scan_ends {text} {done} s h = subst (λ ts. Tokens false text ts) (append-nil done) (s.forth [] (finished h))

stuck : (dot : Bool) (rest : List ℕ) (us : List Lexeme) → Tokens dot rest us → (skip rest ≡ [] → ⊥) → cut (skip rest) ≡ None → ⊥
stuck dot rest us (finished h) n e = n h
stuck dot rest us (token x h s) n e = absurd (let k : Some x ≡ None = sym (is_cut (skip rest) x h) ∙ e in cc)

pub scan_stuck : {text : List ℕ} {done : List Lexeme} {dot : Bool} {rest : List ℕ} → ScanNow text done dot rest → (skip rest ≡ [] → ⊥) → cut (skip rest) ≡ None
    → (ts : List Lexeme) → Tokens false text ts → ⊥
scan_stuck {dot = dot} {rest} s n e ts k = let b = s.back ts k in stuck dot rest b.0 b.2 n e

-- the rest after a token that is known
next_token : (dot : Bool) (rest : List ℕ) (us : List Lexeme) (y : Cut) → Tokens dot rest us → cut (skip rest) ≡ Some y
    → (vs : List Lexeme) × (us ≡ mark dot y ∷ vs) × Tokens (is_dot (mark dot y)) y.rest vs
next_token dot rest us y (finished h) e = absurd (let k : None ≡ Some y = sym no_cut ∙ ap cut (sym h) ∙ e in cc)
next_token dot rest us y (token {ts = ts} x h s) e =
    let k : x ≡ y = (let i : Some x ≡ Some y = sym (is_cut (skip rest) x h) ∙ e in cc) in
    (ts, ap (λ x. mark dot x ∷ ts) k, subst (λ x. Tokens (is_dot (mark dot x)) x.rest ts) k s)

pub scan_on : {text : List ℕ} {done : List Lexeme} {dot : Bool} {rest : List ℕ} (y : Cut) (all : List Lexeme) (m : Lexeme) (d : Bool)
    → ScanNow text done dot rest → cut (skip rest) ≡ Some y → m ≡ mark dot y → d ≡ is_dot m → all ≡ done ++ m ∷ [] → ScanNow text all d y.rest
scan_on {text} {done} {dot} {rest} y all m d s e g i a =
    let dots : d ≡ is_dot (mark dot y) = i ∙ ap is_dot g in
    let alls : all ≡ done ++ mark dot y ∷ [] = a ∙ ap (λ m. done ++ m ∷ []) g in
    record {
      forth = λ ts k. subst (λ us. Tokens false text us) (sym (ap (λ (us : List Lexeme). us ++ ts) alls ∙ append_assoc done (mark dot y ∷ []) ts))
          (s.forth (mark dot y ∷ ts) (token y ((cut_is_longest (skip rest) y).0 e) (subst (λ d. Tokens d y.rest ts) dots k)));
      back = λ ts k.
          let b = s.back ts k in
          let n = next_token dot rest b.0 y b.2 e in (
            n.0,
            b.1 ∙ ap (λ (us : List Lexeme). done ++ us) n.1
                ∙ sym (ap (λ (us : List Lexeme). us ++ n.0) alls ∙ append_assoc done (mark dot y ∷ []) n.0),
            subst (λ d. Tokens d y.rest n.0) (sym dots) n.2,
          );
    }

-- a text has one list of tokens
pub one_cutting : (dot : Bool) (bs : List ℕ) (ts us : List Lexeme) → Tokens dot bs ts → Tokens dot bs us → ts ≡ us
one_cutting dot bs ts us (finished h) (finished k) = refl
one_cutting dot bs ts us (finished h) (token x e s) = absurd (let k : None ≡ Some x = sym no_cut ∙ ap cut (sym h) ∙ is_cut (skip bs) x e in cc)
one_cutting dot bs ts us (token {ts = vs} x e s) t =
    let n = next_token dot bs us x t (is_cut (skip bs) x e) in
    ap (λ ws. mark dot x ∷ ws) (one_cutting (is_dot (mark dot x)) x.rest vs n.0 s n.2) ∙ sym n.1

-- ---- a token takes a byte at least

skip_shorter : (bs : List ℕ) → length (skip bs) ≤ length bs
skip_shorter bs = omega (arith, length-drop (length (take_while is_space bs)) bs)

found_length : {s : Symbol} {bs : List ℕ} → IsFound s bs → 0 < length bs
found_length (by_one c e h) = omega arith
found_length (by_two c d h) = omega arith

spelling_length : (s : Symbol) → 0 < length (spelling s)
spelling_length tok.And = omega arith
spelling_length tok.Or = omega arith
spelling_length tok.Not = omega arith
spelling_length tok.As = omega arith
spelling_length s = found_length (is_found s refl)

token_length : (piece : List ℕ) (t : Lexeme) → IsToken piece t → 0 < length piece
token_length piece t (name (begun h k)) = omega arith
token_length piece t (number r ds k p b e) = let f = first_digit r ds k in omega (arith, ap length e, length-append (number_prefix r) ds, ap length f.2)
token_length piece t (single bs k u e) = omega (arith, ap length e)
token_length piece t (double bs cs k u e) = omega (arith, ap length e)
token_length piece t (sign s w) = spelling_length s

cut_shrinks : (bs : List ℕ) (x : Cut) → cut bs ≡ Some x → length x.rest < length bs
cut_shrinks bs x h =
    let l = (cut_is_longest bs x).0 h in
    omega (arith, token_length l.piece x.lexeme l.means, ap length l.split, length-append l.piece x.rest)

-- after white space too
pub scan_shorter : (bs : List ℕ) (x : Cut) → cut (skip bs) ≡ Some x → length x.rest < length bs
scan_shorter bs x h = omega (arith, cut_shrinks (skip bs) x h, skip_shorter bs)

pub empty_is : (bs : List ℕ) (b : Bool) → b ≡ true → b ≡ (length bs == 0) → bs ≡ []
empty_is [] b h k = refl
empty_is (c ∷ cs) b h k = absurd (grind (arith, h, k))

pub not_empty : (bs : List ℕ) (b : Bool) → b ≡ false → b ≡ (length bs == 0) → bs ≡ [] → ⊥
not_empty bs b h k z = let e : length bs ≡ 0 = ap length z in absurd (grind (arith, h, k, e))
