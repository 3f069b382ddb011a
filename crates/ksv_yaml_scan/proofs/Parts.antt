-- What a reader of parts needs: each step goes forward, a quiet line has no part, and another has one.
use Rattle.ksv_yaml_scan.proofs.Common.{◌≡◌, ℕ, zero, suc, ◌+◌, ◌≤◌, ◌<◌, Bool, true, false, cond, List, [], ◌∷◌, ◌++◌, length, Option, Some, None, refl, sym}
use Rattle.ksv_yaml_scan.proofs.Common.{ap, subst, ◌∙◌, append_assoc, arith, ◌==◌, ◌&&◌, ◌||◌, not, is_white, skip, white_or_end, Ending, Run, stop, run_by}
use Rattle.ksv_yaml_scan.proofs.Common.{run, Quote, Between, double, with_bytes, inside, Token, both}
use Rattle.std.proofs.Common.{◌*◌}
use Rattle.ksv_yaml_scan.specs.Plain.{is_bracket, is_special, is_lone, starts_plain, Colon, Bracket, Comment, End}
use Rattle.ksv_yaml_scan.specs.Quoted.{Place, AtQuote, Escaped, Digits, Step, Ends, Fails, Adds, single, letter_of, letter, escape, is_surrogate, digit}
use Rattle.ksv_yaml_scan.specs.Quoted.{hex_digit, utf8, act, at_end, quote_of}
use Rattle.ksv_yaml_scan.specs.Tokens.{Cut, Bad, Over, White, Part, quoted_part, quoted_cut, plain_cut, cut, with_token, line_by, line_tokens}
use Rattle.std.proofs.lemmas.Bool.{and_right, or_parts}
use Rattle.ksv_yaml_scan.proofs.Choices.{at_false, not_first}

by_test : {A : Type 0} (P : A → Type 0) (b : Bool) (x y : A) → (b ≡ true → P x) → (b ≡ false → P y) → P (cond b x y)
by_test P true x y f g = f refl
by_test P false x y f g = g refl

-- ---- steps go forward

skip_short : (cs : List ℕ) → length (skip cs) ≤ length cs
skip_short [] = omega arith
skip_short (c ∷ cs) = let h = skip_short cs in by_test (λ (r : List ℕ). length r ≤ suc (length cs)) (is_white c) (skip cs) (c ∷ cs) (λ e. omega arith)
    (λ e. omega arith)

abbrev EndsWithin : ℕ → Ending → Type 0
EndsWithin n (Colon rest) = length rest ≤ n
EndsWithin n (Bracket rest) = length rest ≤ n
EndsWithin n Comment = Unit {0}
EndsWithin n End = Unit {0}

ends_more : (n : ℕ) (e : Ending) → EndsWithin n e → EndsWithin (suc n) e
ends_more n (Colon rest) h = omega arith
ends_more n (Bracket rest) h = omega arith
ends_more n Comment h = tt
ends_more n End h = tt

-- what is after the byte at which a run ends is no longer than this
abbrev StopsWithin : ℕ → Option Ending → Type 0
StopsWithin n None = Unit {0}
StopsWithin n (Some e) = EndsWithin n e

stop_short : (flow w : Bool) (cs : List ℕ) → StopsWithin (length cs) (stop flow w cs)
stop_short flow w [] = tt
stop_short flow w (c ∷ cs) =
    let P = StopsWithin (suc (length cs)) in
    by_test P (w && (c == 35)) _ _ (λ e. tt)
    (λ e. by_test P ((c == 58) && white_or_end cs) _ _ (λ e. omega arith)
    (λ e. by_test P (flow && is_bracket c) _ _ (λ e. omega arith) (λ e. tt)))

run_by_short : (n c : ℕ) (o : Option Ending) (r : Run) → StopsWithin n o → EndsWithin n r.ending → EndsWithin n (run_by o c r).ending
run_by_short n c (Some e) r h k = h
run_by_short n c None r h k = k

run_short : (flow w : Bool) (cs : List ℕ) → EndsWithin (length cs) (run flow w cs).ending
run_short flow w [] = tt
run_short flow w (c ∷ cs) = run_by_short (suc (length cs)) c (stop flow w (c ∷ cs)) (run flow (is_white c) cs) (stop_short flow w (c ∷ cs))
    (ends_more (length cs) (run flow (is_white c) cs).ending (run_short flow (is_white c) cs))

abbrev StepWithin : ℕ → Step → Type 0
StepWithin n (Ends rest) = length rest ≤ n
StepWithin n s = Unit {0}

single_short : (m : Place) (c : ℕ) (cs : List ℕ) → StepWithin (suc (length cs)) (single m c cs)
single_short AtQuote c cs = by_test (StepWithin (suc (length cs))) (c == 39) _ _ (λ e. tt) (λ e. omega arith)
single_short m c cs = by_test (StepWithin (suc (length cs))) (c == 39) _ _ (λ e. tt) (λ e. tt)

-- a step that never ends
abbrev IsOn : Step → Type 0
IsOn (Ends rest) = ⊥
IsOn s = Unit {0}

on_within : (n : ℕ) (s : Step) → IsOn s → StepWithin n s
on_within n (Ends rest) h = absurd h
on_within n Fails h = tt
on_within n (Adds bs m) h = tt

letter_on : (o : Option ℕ) → IsOn (letter o)
letter_on None = tt
letter_on (Some b) = tt

escape_on : (c : ℕ) → IsOn (escape c)
escape_on c = by_test IsOn (c == 120) _ _ (λ e. tt) (λ e. by_test IsOn (c == 117) _ _ (λ e. tt) (λ e. letter_on (letter_of c)))

digit_on : (k n : ℕ) (o : Option ℕ) → IsOn (digit k n o)
digit_on k n None = tt
digit_on zero n (Some x) = tt
digit_on (suc zero) n (Some x) = by_test IsOn (is_surrogate (n * 16 + x)) Fails (Adds (utf8 (n * 16 + x)) Between) (λ e. tt) (λ e. tt)
digit_on (suc (suc k)) n (Some x) = tt

double_short : (m : Place) (c : ℕ) (cs : List ℕ) → StepWithin (suc (length cs)) (double m c cs)
double_short Escaped c cs = on_within _ (escape c) (escape_on c)
double_short (Digits k n) c cs = on_within _ (digit k n (hex_digit c)) (digit_on k n (hex_digit c))
double_short m c cs = by_test (StepWithin (suc (length cs))) (c == 34) _ _ (λ e. omega arith)
    (λ e. by_test (StepWithin (suc (length cs))) (c == 92) _ _ (λ e. tt) (λ e. tt))

abbrev QuoteWithin : ℕ → Option Quote → Type 0
QuoteWithin n None = Unit {0}
QuoteWithin n (Some q) = length q.rest ≤ n

with_within : (n : ℕ) (bs : List ℕ) (o : Option Quote) → QuoteWithin n o → QuoteWithin (suc n) (with_bytes bs o)
with_within n bs None h = tt
with_within n bs (Some q) h = omega arith

act_within : (n : ℕ) (s : Step) (f : Place → Option Quote) → StepWithin (suc n) s → ((m : Place) → QuoteWithin n (f m)) → QuoteWithin (suc n) (act s f)
act_within n (Ends rest) f h g = h
act_within n Fails f h g = tt
act_within n (Adds bs m) f h g = with_within n bs (f m) (g m)

end_within : (m : Place) → QuoteWithin 0 (at_end m)
end_within AtQuote = omega arith
end_within Between = tt
end_within Escaped = tt
end_within (Digits k n) = tt

inside_within : (step : Place → ℕ → List ℕ → Step) → ((m : Place) (c : ℕ) (cs : List ℕ) → StepWithin (suc (length cs)) (step m c cs))
    → (cs : List ℕ) (m : Place) → QuoteWithin (length cs) (inside step m cs)
inside_within step s [] m = end_within m
inside_within step s (c ∷ cs) m = act_within (length cs) (step m c cs) (λ n. inside step n cs) (s m c cs) (λ n. inside_within step s cs n)

-- what comes after a quote is shorter than its line from its first byte
pub quote_short : (c : ℕ) (cs : List ℕ) → QuoteWithin (length cs) (quote_of (c ∷ cs))
quote_short c cs = by_test (QuoteWithin (length cs)) (c == 39) _ _ (λ e. inside_within single single_short cs Between)
    (λ e. by_test (QuoteWithin (length cs)) (c == 34) _ _ (λ e. inside_within double double_short cs Between) (λ e. tt))

abbrev pub CutWithin : ℕ → Cut → Type 0
CutWithin n (White rest) = length rest ≤ n
CutWithin n (Part t rest) = length rest ≤ n
CutWithin n k = Unit {0}

quoted_within : (number n : ℕ) (o : Option Quote) → QuoteWithin n o → CutWithin n (quoted_cut number o)
quoted_within number n None h = tt
quoted_within number n (Some q) h = part (skip q.rest) (skip_short q.rest)
  where
    part : (rs : List ℕ) → length rs ≤ length q.rest → CutWithin n (quoted_part number q rs)
    part [] g = omega arith
    part (c ∷ cs) g = by_test (CutWithin n) (c == 58) _ _ (λ e. omega arith) (λ e. h)

plain_within : (number n : ℕ) (text : List ℕ) (e : Ending) → EndsWithin n e → CutWithin n (plain_cut number text e)
plain_within number n text (Colon rest) h = h
plain_within number n text (Bracket rest) h = h
plain_within number n text Comment h = omega arith
plain_within number n text End h = omega arith

no_colon_bits : (a b c w : Bool) → not ((a || (b || c)) && w) ≡ true → (c && w) ≡ false
no_colon_bits a b false w h = refl
no_colon_bits a b true false h = refl
no_colon_bits true b true true h = absurd cc
no_colon_bits false true true true h = absurd cc
no_colon_bits false false true true h = absurd cc

-- no run ends at the first byte of a plain scalar
pub plain_stop : (flow : Bool) (c : ℕ) (cs : List ℕ) → starts_plain (c ∷ cs) ≡ true → stop flow false (c ∷ cs) ≡ None
plain_stop flow c cs h =
    let p = not_first (is_special c) (not (is_lone c && white_or_end cs)) h in
    at_false ((c == 58) && white_or_end cs) _ _ (no_colon_bits (c == 45) (c == 63) (c == 58) (white_or_end cs) p.1)
    ∙ at_false (flow && is_bracket c) _ _ (and_right flow (is_bracket c) (or_parts (is_bracket c) _ p.0).0)

-- a plain run in a flow node takes its first byte
plain_run_short : (c : ℕ) (cs : List ℕ) → starts_plain (c ∷ cs) ≡ true → EndsWithin (length cs) (run true false (c ∷ cs)).ending
plain_run_short c cs h = subst (λ (o : Option Ending). EndsWithin (length cs) (run_by o c (run true (is_white c) cs)).ending) (sym (plain_stop true c cs h))
    (run_short true (is_white c) cs)

pub cut_short : (number : ℕ) (w : Bool) (c : ℕ) (cs : List ℕ) → CutWithin (length cs) (cut number w (c ∷ cs))
cut_short number w c cs =
    let P = CutWithin (length cs) in
    by_test P (is_white c) _ _ (λ e. omega arith)
    (λ e. by_test P (c == 35) _ _ (λ e. by_test P w _ _ (λ e. tt) (λ e. tt))
    (λ e. by_test P (c == 91) _ _ (λ e. omega arith)
    (λ e. by_test P (c == 93) _ _ (λ e. omega arith) (λ e. by_test P (c == 123) _ _ (λ e. omega arith)
    (λ e. by_test P (c == 125) _ _ (λ e. omega arith)
    (λ e. by_test P (c == 44) _ _ (λ e. omega arith)
    (λ e. by_test P ((c == 39) || (c == 34)) _ _ (λ e. quoted_within number (length cs) (quote_of (c ∷ cs)) (quote_short c cs))
    (λ e. by_test P (starts_plain (c ∷ cs)) _ _
    (λ e. plain_within number (length cs) (run true false (c ∷ cs)).text (run true false (c ∷ cs)).ending (plain_run_short c cs e)) (λ e. tt)))))))))

-- ---- the bound doesn't matter

line_same : (k : Cut) (n : ℕ) (f g : Bool → List ℕ → Option (List Token)) → CutWithin n k → ((w : Bool) (cs : List ℕ) → length cs ≤ n → f w cs ≡ g w cs)
    → line_by k f ≡ line_by k g
line_same Bad n f g h e = refl
line_same Over n f g h e = refl
line_same (White cs) n f g h e = e true cs h
line_same (Part t cs) n f g h e = ap (with_token t) (e false cs h)

pub tokens_enough : (f g number : ℕ) (w : Bool) (cs : List ℕ) → length cs < f → length cs < g → line_tokens f number w cs ≡ line_tokens g number w cs
tokens_enough zero g number w cs h k = absurd (omega arith)
tokens_enough (suc f) zero number w cs h k = absurd (omega arith)
tokens_enough (suc f) (suc g) number w [] h k = refl
tokens_enough (suc f) (suc g) number w (c ∷ cs) h k =
    line_same (cut number w (c ∷ cs)) (length cs) (λ w cs. line_tokens f number w cs) (λ w cs. line_tokens g number w cs) (cut_short number w c cs)
    (λ w ds e. tokens_enough f g number w ds (omega arith) (omega arith))

-- ---- from one part to the next

-- what is after is shorter than this
abbrev CutBelow : ℕ → Cut → Type 0
CutBelow n (White rest) = length rest < n
CutBelow n (Part t rest) = length rest < n
CutBelow n k = Unit {0}

below : (n : ℕ) (k : Cut) → CutWithin n k → CutBelow (suc n) k
below n Bad h = tt
below n Over h = tt
below n (White rest) h = omega (arith, h)
below n (Part t rest) h = omega (arith, h)

cut_below : (number : ℕ) (w : Bool) (cs : List ℕ) → CutBelow (length cs) (cut number w cs)
cut_below number w [] = tt
cut_below number w (c ∷ cs) = below (length cs) (cut number w (c ∷ cs)) (cut_short number w c cs)

pub white_shorter : (number : ℕ) (w : Bool) (cs ds : List ℕ) → cut number w cs ≡ White ds → length ds < length cs
white_shorter number w cs ds e = subst (CutBelow (length cs)) e (cut_below number w cs)

pub part_shorter : (number : ℕ) (w : Bool) (cs ds : List ℕ) (t : Token) → cut number w cs ≡ Part t ds → length ds < length cs
part_shorter number w cs ds t e = subst (CutBelow (length cs)) e (cut_below number w cs)

-- the parts on the rest of a line
abbrev pub rest_tokens : ℕ → Bool → List ℕ → Option (List Token)
rest_tokens number w cs = line_tokens (suc (length cs)) number w cs

rest_by : (number : ℕ) (w : Bool) (cs : List ℕ) (k : Cut) → cut number w cs ≡ k
    → rest_tokens number w cs ≡ line_by k (λ w ds. line_tokens (length cs) number w ds)
rest_by number w cs k e = ap (λ (k : Cut). line_by k (λ w ds. line_tokens (length cs) number w ds)) e

pub rest_white : (number : ℕ) (w : Bool) (cs ds : List ℕ) → cut number w cs ≡ White ds → rest_tokens number w cs ≡ rest_tokens number true ds
rest_white number w cs ds e =
    let h = white_shorter number w cs ds e in
    rest_by number w cs (White ds) e ∙ tokens_enough (length cs) (suc (length ds)) number true ds h (omega arith)

pub rest_part : (number : ℕ) (w : Bool) (cs ds : List ℕ) (t : Token) → cut number w cs ≡ Part t ds
    → rest_tokens number w cs ≡ with_token t (rest_tokens number false ds)
rest_part number w cs ds t e =
    let h = part_shorter number w cs ds t e in
    rest_by number w cs (Part t ds) e ∙ ap (with_token t) (tokens_enough (length cs) (suc (length ds)) number false ds h (omega arith))

pub both_token : (ts : List Token) (t : Token) (o : Option (List Token)) → both (Some ts) (with_token t o) ≡ both (Some (ts ++ t ∷ [])) o
both_token ts t None = refl
both_token ts t (Some us) = ap (λ (r : List Token). let some : List Token → Option (List Token) = λ x. Some x in some r) (sym (append_assoc ts (t ∷ []) us))

pub both_assoc : (a b c : Option (List Token)) → both a (both b c) ≡ both (both a b) c
both_assoc None b c = refl
both_assoc (Some ts) None c = refl
both_assoc (Some ts) (Some us) None = refl
both_assoc (Some ts) (Some us) (Some vs) = ap (λ (r : List Token). let some : List Token → Option (List Token) = λ x. Some x in some r)
    (sym (append_assoc ts us vs))

pub both_nothing : (o : Option (List Token)) → both (Some []) o ≡ o
both_nothing None = refl
both_nothing (Some ts) = refl
