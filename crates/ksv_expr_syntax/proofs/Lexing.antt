-- Facts about cutting a text.
use Rattle.ksv_expr_syntax.proofs.Common.{◌≡◌, ◌≢◌, ℕ, zero, suc, ◌+◌, ◌*◌, ◌<◌, ◌≤◌, Bool, true, false, ◌&&◌, List, [], ◌∷◌, ◌++◌, length, take, Option, Some}
use Rattle.ksv_expr_syntax.proofs.Common.{None, refl, sym, ap, ◌∙◌, append_assoc, arith, ◌==◌, take_while, IsUtf8, encode_utf8}
use Rattle.ksv_expr_syntax.proofs.Common.{inl, inr, string, constant, is_name_byte, natural, cut_at, put, quoted, ◌>>=◌}
use Rattle.std.proofs.Common.{◌^◌, drop}
use Rattle.std.specs.Prelude.{slice_index, All, MatchOption}
use Rattle.std.specs.Str.{is_utf8}
use Rattle.std.proofs.lemmas.Str.{IsUtf8-from_is_utf8, is_utf8-from_IsUtf8, IsUtf8-from_ascii}
use Rattle.std.proofs.lemmas.Str.Ascii.{IsAscii-from_all}
use Rattle.std.proofs.lemmas.List.Sums.{take_while-cons}
use Rattle.std.proofs.lemmas.Bool.{ne_eqb}
use Rattle.std.proofs.lemmas.Bool.Decides.{nat_tests}
use Rattle.ksv_expr_syntax.proofs.Steps.{by_test}
use Rattle.std.specs.Option.{SomeIff}
use Rattle.std.specs.Char.{IsScalar, InScalarRange, OutOfScalarRange, is_ascii_hexdigit}
use Rattle.ksv_expr_syntax.specs.Tokens.{unicode_of, four_digits, is_surrogate, base, digit_value}
use Rattle.ksv_expr_syntax.specs.Cutting.{text_of, Quoted, escaped, unicode}
use Rattle.ksv_expr_syntax.specs.declared.lexer.Radix.{Radix}
use Rattle.ksv_expr_syntax.specs.declared.lexer.Radix.TheVariants as radices

pub take_run : (p : ℕ → Bool) (bs : List ℕ) → take (length (take_while p bs)) bs ≡ take_while p bs
take_run p [] = refl
take_run p (c ∷ cs) = by_test (p c) (λ h. rw (take_while-cons, h, take_run p cs)) (λ h. rw (take_while-cons, h))

name_byte_small : (c : ℕ) → is_name_byte c ≡ true → c < 128
name_byte_small c h = grind (arith, nat_tests, h)

pub all_cons : (P : ℕ → Type 0) (c : ℕ) (cs : List ℕ) → P c → All P cs → All P (c ∷ cs)
all_cons P c cs h t zero d k = h
all_cons P c cs h t (suc n) d k = t n d (omega arith)

pub all_none : (P : ℕ → Type 0) → All P []
all_none P k d h = absurd (omega arith)

pub all_of_run : (P : ℕ → Type 0) (p : ℕ → Bool) → ((c : ℕ) → p c ≡ true → P c) → (bs : List ℕ) → All P (take_while p bs)
all_of_run P p f [] = all_none P
all_of_run P p f (c ∷ cs) =
    by_test (p c) (λ h. rw (take_while-cons, h) (all_cons P c (take_while p cs) (f c h) (all_of_run P p f cs))) (λ h. rw (take_while-cons, h) (all_none P))

pub names_utf8 : (bs : List ℕ) → IsUtf8 (take_while is_name_byte bs)
names_utf8 bs = IsUtf8-from_ascii _ (IsAscii-from_all _ (all_of_run (λ c. c < 128) is_name_byte name_byte_small bs))

pub text_is : (bs rest : List ℕ) → IsUtf8 bs → text_of bs rest ≡ cut_at (constant (string bs)) rest
text_is bs rest h = rw (is_utf8-from_IsUtf8 bs h)

pub text_none : (bs rest : List ℕ) → ¬ (IsUtf8 bs) → text_of bs rest ≡ None
text_none bs rest h = by_test (is_utf8 bs) (λ e. absurd (h (IsUtf8-from_is_utf8 bs e))) (λ e. rw e)

-- ---- texts with escapes

put_put : (xs bs cs : List ℕ) (o : Option Quoted) → cs ≡ xs ++ bs → put xs (put bs o) ≡ put cs o
put_put xs bs cs None h = refl
put_put xs bs cs (Some q) h = rw (h, append_assoc)

pub quoted_byte : (o : Option Quoted) (done us : List ℕ) (c : ℕ) (vs all : List ℕ) → o ≡ put done (quoted us) → us ≡ c ∷ vs → c ≢ 34 → c ≢ 92
    → all ≡ done ++ c ∷ [] → o ≡ put all (quoted vs)
quoted_byte o done us c vs all h z a b e = rw (h, z, ne_eqb c 34 a, ne_eqb c 92 b) (put_put done (c ∷ []) all (quoted vs) e)

quoted_backslash : (o : Option Quoted) (done us : List ℕ) (c : ℕ) (vs : List ℕ) → o ≡ put done (quoted us) → us ≡ c ∷ vs → c ≡ 92 → o ≡ put done (escaped vs)
quoted_backslash o done us c vs h z e = rw (h, z, e)

pub quoted_escape : (o : Option Quoted) (done us : List ℕ) (c : ℕ) (vs bs ws all : List ℕ) → o ≡ put done (quoted us) → us ≡ c ∷ vs → c ≡ 92
    → escaped vs ≡ put bs (quoted ws) → all ≡ done ++ bs → o ≡ put all (quoted ws)
quoted_escape o done us c vs bs ws all h z e k a = quoted_backslash o done us c vs h z e ∙ rw k (put_put done bs all (quoted ws) a)

pub unicode_is : (bs : List ℕ) → 4 ≤ length bs → unicode bs
    ≡ (unicode_of (slice_index bs 0) (slice_index bs 1) (slice_index bs 2) (slice_index bs 3) >>= λ u. put (encode_utf8 u) (quoted (drop 4 bs)))
unicode_is (a ∷ b ∷ c ∷ d ∷ cs) h = refl
unicode_is _ h = absurd (omega arith)

-- ---- numbers

natural_more : (r : Radix) (n c : ℕ) → n ≤ n * base r + digit_value c
natural_more radices.Binary n c = omega arith
natural_more _ n c = omega arith

natural_least : (r : Radix) (n : ℕ) (bs : List ℕ) → n ≤ natural r n bs
natural_least r n [] = omega arith
natural_least r n (c ∷ cs) = by_test (c == 95) (λ e. rw e (natural_least r n cs))
    (λ e. rw e (omega (arith, natural_least r (n * base r + digit_value c) cs, natural_more r n c)))

pub number_over : (r : Radix) (all n c : ℕ) (us cs : List ℕ) → all ≡ natural r n us → us ≡ c ∷ cs → c ≢ 95 → 2 ^ 64 ≤ n * base r + digit_value c → 2 ^ 64 ≤ all
number_over r all n c us cs h z k l = rw (h, z, ne_eqb c 95 k) (omega (arith, natural_least r (n * base r + digit_value c) cs, l))

-- ---- characters by their numbers

pub character_made : (n : ℕ) (o : Option ℕ) → is_surrogate n ≡ false → n < 0x110000 → MatchOption o (OutOfScalarRange n) (λ _. InScalarRange n)
    → SomeIff o (IsScalar n) n → o ≡ Some n
character_made n None f l (inl r) s = absurd (grind (arith, nat_tests, r, f))
character_made n None f l (inr k) s = absurd (omega arith)
character_made n (Some x) f l m s = ap Some s.1

pub unicode_final : (a b c d n : ℕ) (h s : Bool) (o : Option ℕ) → h ≡ (is_ascii_hexdigit a && is_ascii_hexdigit b && is_ascii_hexdigit c && is_ascii_hexdigit d)
    → h ≡ true → n ≡ four_digits a b c d → s ≡ is_surrogate n → s ≡ false → n < 0x110000 → MatchOption o (OutOfScalarRange n) (λ _. InScalarRange n)
    → SomeIff o (IsScalar n) n → o ≡ unicode_of a b c d
unicode_final a b c d n h s o e f z g k l m i = character_made n o (sym g ∙ k) l m i ∙ rw (sym e ∙ f, ← z, sym g ∙ k)

pub unicode_read : (bs : List ℕ) (a b c d u : ℕ) (rest : List ℕ) → 4 ≤ length bs → a ≡ slice_index bs 0 → b ≡ slice_index bs 1 → c ≡ slice_index bs 2
    → d ≡ slice_index bs 3 → Some u ≡ unicode_of a b c d → rest ≡ drop 4 bs → unicode bs ≡ put (encode_utf8 u) (quoted rest)
unicode_read bs a b c d u rest l ea eb ec ed e z = unicode_is bs l ∙ rw (← ea, ← eb, ← ec, ← ed, ← e, ← z)
