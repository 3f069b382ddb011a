-- Symbols: each is found where it is written, and how tightly tokens bind. A new symbol has a row in `is_found`, and in `one_found`
-- or `two_found`; an operator that isn't a comparison also in `own_strength` and `operator_strength`.
use Rattle.ksv_expr_syntax.proofs.Common.{◌≡◌, ℕ, ◌<◌, true, false, ◌&&◌, List, [], ◌∷◌, Option, Some, None, refl, sym, ap, subst, ◌∙◌, arith, if◌then◌else◌}
use Rattle.ksv_expr_syntax.proofs.Common.{◌==◌, and_parts, UnaryOperator, BinaryOperator, Symbol, Precedence, Infix, Lexeme, symbol, spelling, operator}
use Rattle.ksv_expr_syntax.proofs.Common.{comparison, prefix, Level, Whole, Joined, Negation, Comparison, Prefix, Postfix, Primary, cut_at, cut}
use Rattle.std.proofs.lemmas.Bool.{eqb-true}
use Rattle.ksv_expr_syntax.specs.declared.token.Symbol.TheVariants as tok
use Rattle.ksv_expr_syntax.specs.declared.token.Precedence.TheVariants as tier
use Rattle.ksv_expr_syntax.specs.Symbols.{is_word, two_bytes, one_byte}
use Rattle.ksv_expr_syntax.specs.Cutting.{cut_symbol}

-- ---- by which bytes

-- two bytes that are a symbol, and one byte
pub record TwoBytes (c d : ℕ) (s : Symbol) : Type 0 where
  pub plain : is_word s ≡ false
  pub spelled : spelling s ≡ c ∷ d ∷ []
  pub there : 0 < d

pub record OneByte (c : ℕ) (s : Symbol) : Type 0 where
  pub plain : is_word s ≡ false
  pub spelled : spelling s ≡ c ∷ []

two_step : (c d a b : ℕ) (t : Symbol) (o : Option Symbol) (s : Symbol) → TwoBytes a b t → (if c == a && d == b then Some t else o) ≡ Some s
    → (o ≡ Some s → TwoBytes c d s) → TwoBytes c d s
two_step c d a b t o s w h f =
    elim (c == a && d == b) as (λ v. (c == a && d == b) ≡ v → (if v then Some t else o) ≡ Some s → TwoBytes c d s) [
      | true ↦ λ e h.
          let k = and_parts (c == a) (d == b) e in
          let i : t ≡ s = cc in
          let P : Symbol → Type 0 = λ s. TwoBytes c d s in
          subst P i (record {
            plain = w.plain;
            spelled = w.spelled ∙ ap (λ a. a ∷ b ∷ []) (sym (eqb-true c a k.0))
                ∙ ap (λ b. c ∷ b ∷ []) (sym (eqb-true d b k.1));
            there = (let m = eqb-true d b k.1 in let n = w.there in omega arith);
          })
      | false ↦ λ e h. f h
    ] refl h

one_step : (c a : ℕ) (t : Symbol) (o : Option Symbol) (s : Symbol) → OneByte a t → (if c == a then Some t else o) ≡ Some s → (o ≡ Some s → OneByte c s)
    → OneByte c s
one_step c a t o s w h f =
    elim (c == a) as (λ v. (c == a) ≡ v → (if v then Some t else o) ≡ Some s → OneByte c s) [
      | true ↦ λ e h.
          let i : t ≡ s = cc in
          let P : Symbol → Type 0 = λ s. OneByte c s in
          subst P i (record { plain = w.plain; spelled = w.spelled ∙ ap (λ a. a ∷ []) (sym (eqb-true c a e)) })
      | false ↦ λ e h. f h
    ] refl h

pub two_found : (c d : ℕ) (s : Symbol) → two_bytes c d ≡ Some s → TwoBytes c d s
two_found c d s h =
    two_step c d 60 60 tok.ShiftLeft _ s (record { plain = refl; spelled = refl; there = omega arith }) h (λ h.
    two_step c d 62 62 tok.ShiftRight _ s (record { plain = refl; spelled = refl; there = omega arith }) h (λ h.
    two_step c d 60 61 tok.LessOrEqual _ s (record { plain = refl; spelled = refl; there = omega arith }) h (λ h.
    two_step c d 62 61 tok.GreaterOrEqual _ s (record { plain = refl; spelled = refl; there = omega arith }) h (λ h.
    two_step c d 61 61 tok.Equal _ s (record { plain = refl; spelled = refl; there = omega arith }) h (λ h.
    two_step c d 33 61 tok.NotEqual _ s (record { plain = refl; spelled = refl; there = omega arith }) h (λ h.
    two_step c d 58 58 tok.ColonColon _ s (record { plain = refl; spelled = refl; there = omega arith }) h (λ h. absurd cc)))))))

pub one_found : (c : ℕ) (s : Symbol) → one_byte c ≡ Some s → OneByte c s
one_found c s h =
    one_step c 43 tok.Plus _ s (record { plain = refl; spelled = refl }) h (λ h.
    one_step c 45 tok.Minus _ s (record { plain = refl; spelled = refl }) h (λ h.
    one_step c 42 tok.Star _ s (record { plain = refl; spelled = refl }) h (λ h.
    one_step c 47 tok.Slash _ s (record { plain = refl; spelled = refl }) h (λ h.
    one_step c 37 tok.Percent _ s (record { plain = refl; spelled = refl }) h (λ h.
    one_step c 126 tok.Tilde _ s (record { plain = refl; spelled = refl }) h (λ h.
    one_step c 38 tok.Ampersand _ s (record { plain = refl; spelled = refl }) h (λ h.
    one_step c 124 tok.Bar _ s (record { plain = refl; spelled = refl }) h (λ h.
    one_step c 94 tok.Caret _ s (record { plain = refl; spelled = refl }) h (λ h.
    one_step c 60 tok.Less _ s (record { plain = refl; spelled = refl }) h (λ h.
    one_step c 62 tok.Greater _ s (record { plain = refl; spelled = refl }) h (λ h.
    one_step c 63 tok.Question _ s (record { plain = refl; spelled = refl }) h (λ h.
    one_step c 58 tok.Colon _ s (record { plain = refl; spelled = refl }) h (λ h.
    one_step c 40 tok.OpenParenthesis _ s (record { plain = refl; spelled = refl }) h (λ h.
    one_step c 41 tok.CloseParenthesis _ s (record { plain = refl; spelled = refl }) h (λ h.
    one_step c 91 tok.OpenBracket _ s (record { plain = refl; spelled = refl }) h (λ h.
    one_step c 93 tok.CloseBracket _ s (record { plain = refl; spelled = refl }) h (λ h.
    one_step c 44 tok.Comma _ s (record { plain = refl; spelled = refl }) h (λ h.
    one_step c 46 tok.Dot _ s (record { plain = refl; spelled = refl }) h (λ h. absurd cc)))))))))))))))))))

-- how a symbol that isn't a word is found: by its byte, unless two bytes are a symbol; or by its two bytes
pub data IsFound : Symbol → List ℕ → Type 0 where
  by_one : {s : Symbol} (c : ℕ) → one_byte c ≡ Some s → ((r : List ℕ) → cut (c ∷ r) ≡ cut_symbol (c ∷ r)) → IsFound s (c ∷ [])
  by_two : {s : Symbol} (c d : ℕ) → ((r : List ℕ) → cut (c ∷ d ∷ r) ≡ cut_at (symbol s) r) → IsFound s (c ∷ d ∷ [])

pub is_found : (s : Symbol) → is_word s ≡ false → IsFound s (spelling s)
is_found tok.Plus w = by_one 43 refl (λ r. refl)
is_found tok.Minus w = by_one 45 refl (λ r. refl)
is_found tok.Star w = by_one 42 refl (λ r. refl)
is_found tok.Slash w = by_one 47 refl (λ r. refl)
is_found tok.Percent w = by_one 37 refl (λ r. refl)
is_found tok.Tilde w = by_one 126 refl (λ r. refl)
is_found tok.Ampersand w = by_one 38 refl (λ r. refl)
is_found tok.Bar w = by_one 124 refl (λ r. refl)
is_found tok.Caret w = by_one 94 refl (λ r. refl)
is_found tok.ShiftLeft w = by_two 60 60 (λ r. refl)
is_found tok.ShiftRight w = by_two 62 62 (λ r. refl)
is_found tok.Less w = by_one 60 refl (λ r. refl)
is_found tok.LessOrEqual w = by_two 60 61 (λ r. refl)
is_found tok.Greater w = by_one 62 refl (λ r. refl)
is_found tok.GreaterOrEqual w = by_two 62 61 (λ r. refl)
is_found tok.Equal w = by_two 61 61 (λ r. refl)
is_found tok.NotEqual w = by_two 33 61 (λ r. refl)
is_found tok.Question w = by_one 63 refl (λ r. refl)
is_found tok.Colon w = by_one 58 refl (λ r. refl)
is_found tok.ColonColon w = by_two 58 58 (λ r. refl)
is_found tok.OpenParenthesis w = by_one 40 refl (λ r. refl)
is_found tok.CloseParenthesis w = by_one 41 refl (λ r. refl)
is_found tok.OpenBracket w = by_one 91 refl (λ r. refl)
is_found tok.CloseBracket w = by_one 93 refl (λ r. refl)
is_found tok.Comma w = by_one 44 refl (λ r. refl)
is_found tok.Dot w = by_one 46 refl (λ r. refl)
is_found _ w = absurd (let k = w in cc)

-- ---- how tightly

-- how tightly a level binds
abbrev pub rank : Level → ℕ
rank Whole = 1
rank (Joined tier.Or) = 2
rank (Joined tier.And) = 3
rank Negation = 4
rank Comparison = 5
rank (Joined tier.BitOr) = 6
rank (Joined tier.BitXor) = 7
rank (Joined tier.BitAnd) = 8
rank (Joined tier.Shift) = 9
rank (Joined tier.Sum) = 10
rank (Joined tier.Term) = 11
rank Prefix = 12
rank Postfix = 13
rank Primary = 14

-- the loosest level that a token goes on with, if it is no comparison, and if it is any token
abbrev own_strength : Lexeme → ℕ
own_strength (symbol tok.Question) = 1
own_strength (symbol tok.Or) = 2
own_strength (symbol tok.And) = 3
own_strength (symbol tok.Bar) = 6
own_strength (symbol tok.Caret) = 7
own_strength (symbol tok.Ampersand) = 8
own_strength (symbol tok.ShiftLeft) = 9
own_strength (symbol tok.ShiftRight) = 9
own_strength (symbol tok.Plus) = 10
own_strength (symbol tok.Minus) = 10
own_strength (symbol tok.Star) = 11
own_strength (symbol tok.Slash) = 11
own_strength (symbol tok.Percent) = 11
own_strength (symbol tok.Dot) = 13
own_strength (symbol tok.OpenBracket) = 13
own_strength (symbol tok.OpenParenthesis) = 14
own_strength (symbol tok.ColonColon) = 14
own_strength _ = 0

abbrev pub strength : Lexeme → ℕ
strength v = elim (comparison v) [ Some op ↦ 5 | None ↦ own_strength v ]

-- the tightest level that begins with a token, 0 where none does: if it is no prefix operator, and if it is any token
abbrev own_opening : Lexeme → ℕ
own_opening (symbol tok.OpenParenthesis) = 14
own_opening (symbol tok.Not) = 4
own_opening (symbol s) = 0
own_opening _ = 14

abbrev pub opening : Lexeme → ℕ
opening v = elim (prefix v) [ Some op ↦ 12 | None ↦ own_opening v ]

pub operator_strength : (k : Precedence) (v : Lexeme) (op : Infix) → operator k v ≡ Some op → strength v ≡ rank (Joined k)
operator_strength tier.Or (symbol tok.Or) op h = refl
operator_strength tier.And (symbol tok.And) op h = refl
operator_strength tier.BitOr (symbol tok.Bar) op h = refl
operator_strength tier.BitXor (symbol tok.Caret) op h = refl
operator_strength tier.BitAnd (symbol tok.Ampersand) op h = refl
operator_strength tier.Shift (symbol tok.ShiftLeft) op h = refl
operator_strength tier.Shift (symbol tok.ShiftRight) op h = refl
operator_strength tier.Sum (symbol tok.Plus) op h = refl
operator_strength tier.Sum (symbol tok.Minus) op h = refl
operator_strength tier.Term (symbol tok.Star) op h = refl
operator_strength tier.Term (symbol tok.Slash) op h = refl
operator_strength tier.Term (symbol tok.Percent) op h = refl
operator_strength k v op h = absurd cc

pub comparison_strength : (v : Lexeme) (op : BinaryOperator) → comparison v ≡ Some op → strength v ≡ 5
comparison_strength v op h = ap (λ (o : Option BinaryOperator). elim o [ Some op ↦ 5 | None ↦ own_strength v ]) h

pub prefix_opening : (v : Lexeme) (op : UnaryOperator) → prefix v ≡ Some op → opening v ≡ 12
prefix_opening v op h = ap (λ (o : Option UnaryOperator). elim o [ Some op ↦ 12 | None ↦ own_opening v ]) h
