-- One thing alone begins on a line.
use Rattle.ksv_yaml_scan.proofs.Common.{◌≡◌, ℕ, Bool, true, false, cond, List, [], ◌∷◌, Option, Some, None, refl, sym, ap, subst, ◌∙◌, inl, inr, ◌==◌, ◌&&◌}
use Rattle.ksv_yaml_scan.proofs.Common.{◌||◌, not, is_nil, is_white, skip, white_or_end, Ending, Run, stop, run_by, run, Quote}
use Rattle.std.proofs.Common.{◌⊎◌}
use Rattle.std.proofs.lemmas.Bool.{eqb-true, and_parts, or_cases, or_parts}
use Rattle.ksv_yaml_scan.specs.Lines.{shown, is_clear}
use Rattle.ksv_yaml_scan.specs.Plain.{is_bracket, is_special, starts_plain, Colon, Bracket, Comment, End, plain_of_run}
use Rattle.ksv_yaml_scan.specs.Quoted.{quote_of}
use Rattle.ksv_yaml_scan.specs.Starts.{InlineKind, Quoted, Flowing, Dashed, Dash, Key, Inline, Refused, starts_quote, dash_of, key_at_colon, key_of_quote}
use Rattle.ksv_yaml_scan.specs.Starts.{key_of_run, key_of, plain_kind, quoted_kind, block_kind, kind_of, start_by, start_of, is_dash}
use Rattle.ksv_yaml_scan.proofs.Choices.{chosen, at_true, at_false, not_first}

-- ---- what `start_of` found

start_dash_by : (b : Bool) (o : Option Dashed) (k : Option (List ℕ × List ℕ)) (i : Option InlineKind) (x : Dashed) → start_by b o k i ≡ Dash x → o ≡ Some x
start_dash_by true o k i x h = absurd cc
start_dash_by false (Some d) k i x h = cc
start_dash_by false None (Some k) i x h = absurd cc
start_dash_by false None None (Some i) x h = absurd cc
start_dash_by false None None None x h = absurd cc

start_key_by : (b : Bool) (o : Option Dashed) (k : Option (List ℕ × List ℕ)) (i : Option InlineKind) (key rest : List ℕ) → start_by b o k i ≡ Key key rest
    → k ≡ Some (key, rest)
start_key_by true o k i key rest h = absurd cc
start_key_by false (Some d) k i key rest h = absurd cc
start_key_by false None (Some k) i key rest h = let e : k.0 ≡ key = cc in let f : k.1 ≡ rest =
    cc in ap (λ (a : List ℕ). let some : List ℕ × List ℕ → Option (List ℕ × List ℕ) = λ x. Some x in some (a, k.1)) e
    ∙ ap (λ (b : List ℕ). let some : List ℕ × List ℕ → Option (List ℕ × List ℕ) = λ x. Some x in some (key, b)) f
start_key_by false None None (Some i) key rest h = absurd cc
start_key_by false None None None key rest h = absurd cc

start_inline_by : (b : Bool) (o : Option Dashed) (k : Option (List ℕ × List ℕ)) (i : Option InlineKind) (x : InlineKind) → start_by b o k i ≡ Inline x
    → i ≡ Some x
start_inline_by true o k i x h = absurd cc
start_inline_by false (Some d) k i x h = absurd cc
start_inline_by false None (Some k) i x h = absurd cc
start_inline_by false None None (Some i) x h = cc
start_inline_by false None None None x h = absurd cc

pub start_dash : (cs : List ℕ) (x : Dashed) → start_of cs ≡ Dash x → dash_of cs ≡ Some x
start_dash cs x h = start_dash_by (is_nil (shown cs)) (dash_of cs) (key_of cs) (kind_of cs) x h

pub start_key : (cs key rest : List ℕ) → start_of cs ≡ Key key rest → key_of cs ≡ Some (key, rest)
start_key cs key rest h = start_key_by (is_nil (shown cs)) (dash_of cs) (key_of cs) (kind_of cs) key rest h

pub start_inline : (cs : List ℕ) (x : InlineKind) → start_of cs ≡ Inline x → kind_of cs ≡ Some x
start_inline cs x h = start_inline_by (is_nil (shown cs)) (dash_of cs) (key_of cs) (kind_of cs) x h

-- ---- what is at the front

at_byte : (k c : ℕ) (P : ℕ → Type 0) → (c == k) ≡ true → P k → P c
at_byte k c P h p = subst P (sym (eqb-true c k h)) p

no_dash_bits : (a r w : Bool) → not ((a || r) && w) ≡ true → (a && w) ≡ false
no_dash_bits true r true h = absurd cc
no_dash_bits true r false h = refl
no_dash_bits false r w h = refl

then_some : {A : Type 0} (b : Bool) (x y : A) → (let some : A → Option A = λ x. Some x in cond b (some x) None ≡ some y) → b ≡ true
then_some true x y h = refl
then_some false x y h = absurd cc

-- neither quiet nor a dash
record IsOther (cs : List ℕ) : Type 0 where
  loud : is_nil (shown cs) ≡ false
  dash : dash_of cs ≡ None

plain_other : (cs : List ℕ) → starts_plain cs ≡ true → IsOther cs
plain_other [] h = absurd cc
plain_other (c ∷ cs) h =
    let p = not_first (is_special c) (not (((c == 45) || ((c == 63) || (c == 58))) && white_or_end cs)) h in
    let s = (or_parts (is_bracket c) _ p.0).1 in
    record {
      loud = ap is_nil (at_false (is_white c) (shown cs) _ (or_parts (is_white c) _ s).0
          ∙ at_false (c == 35) [] (c ∷ cs) (or_parts (c == 35) _ (or_parts (is_white c) _ s).1).0);
      dash = at_false ((c == 45) && white_or_end cs) _ _ (no_dash_bits (c == 45) ((c == 63) || (c == 58)) (white_or_end cs) p.1);
    }

-- no plain scalar, and no quote
record IsMarked (cs : List ℕ) : Type 0 where
  other : IsOther cs
  plain : starts_plain cs ≡ false

abbrev quote_by : Bool → Bool → Option Quote → Option Quote → Option Quote
quote_by a b x y = cond a x (cond b y None)

quote_cases : (a b : Bool) (x y : Option Quote) (q : Quote) → quote_by a b x y ≡ Some q → (a ≡ true) ⊎ (b ≡ true)
quote_cases true b x y q h = inl refl
quote_cases false true x y q h = inr refl
quote_cases false false x y q h = absurd cc

quote_marked : (cs : List ℕ) (q : Quote) → quote_of cs ≡ Some q → IsMarked cs
quote_marked [] q h = absurd cc
quote_marked (c ∷ cs) q h = elim (quote_cases (c == 39) (c == 34) _ _ q h) [
  | inl e ↦ at_byte 39 c (λ (c : ℕ). IsMarked (c ∷ cs)) e (record { other = record { loud = refl; dash = refl }; plain = refl })
  | inr e ↦ at_byte 34 c (λ (c : ℕ). IsMarked (c ∷ cs)) e (record { other = record { loud = refl; dash = refl }; plain = refl })
]

-- ---- what each of the three says

pub dash_start : (cs : List ℕ) (x : Dashed) → dash_of cs ≡ Some x → start_of cs ≡ Dash x
dash_start [] x h = absurd cc
dash_start (c ∷ cs) x h =
    let b = then_some ((c == 45) && white_or_end cs) _ x h in
    let l : is_nil (shown (c ∷ cs)) ≡ false = at_byte 45 c (λ (c : ℕ). is_nil (shown (c ∷ cs)) ≡ false) (and_parts (c == 45) (white_or_end cs) b).0 refl in
    ap (λ (b : Bool). start_by b (dash_of (c ∷ cs)) (key_of (c ∷ cs)) (kind_of (c ∷ cs))) l
    ∙ ap (λ (o : Option Dashed). start_by false o (key_of (c ∷ cs)) (kind_of (c ∷ cs))) h

as_key : (cs key rest : List ℕ) → IsOther cs → key_of cs ≡ Some (key, rest) → start_of cs ≡ Key key rest
as_key cs key rest o h =
    ap (λ (b : Bool). start_by b (dash_of cs) (key_of cs) (kind_of cs)) o.loud
    ∙ ap (λ (d : Option Dashed). start_by false d (key_of cs) (kind_of cs)) o.dash
    ∙ ap (λ (k : Option (List ℕ × List ℕ)). start_by false None k (kind_of cs)) h

as_inline : (cs : List ℕ) (x : InlineKind) → IsOther cs → key_of cs ≡ None → kind_of cs ≡ Some x → start_of cs ≡ Inline x
as_inline cs x o k h =
    ap (λ (b : Bool). start_by b (dash_of cs) (key_of cs) (kind_of cs)) o.loud
    ∙ ap (λ (d : Option Dashed). start_by false d (key_of cs) (kind_of cs)) o.dash
    ∙ ap (λ (k : Option (List ℕ × List ℕ)). start_by false None k (kind_of cs)) k
    ∙ ap (λ (i : Option InlineKind). start_by false None None i) h

some_quote : (o : Option Quote) (x : List ℕ × List ℕ) → key_of_quote o ≡ Some x → (q : Quote) × (o ≡ Some q)
some_quote None x h = absurd cc
some_quote (Some q) x h = (q, refl)

pub key_start : (cs key rest : List ℕ) → key_of cs ≡ Some (key, rest) → start_of cs ≡ Key key rest
key_start cs key rest h =
    elim (chosen (starts_plain cs) (key_of_run (run false false cs).text (run false false cs).ending) (key_of_quote (quote_of cs)) (Some (key, rest)) h) [
      | inl a ↦ as_key cs key rest (plain_other cs a.0) h
      | inr a ↦ (let q = some_quote (quote_of cs) (key, rest) a.1 in as_key cs key rest (quote_marked cs q.0 q.1).other h)
    ]

-- a run that a value is has no colon
run_no_key : (text : List ℕ) (e : Ending) (x : InlineKind) → plain_kind (plain_of_run text e) ≡ Some x → key_of_run text e ≡ None
run_no_key text (Colon rest) x h = absurd cc
run_no_key text (Bracket rest) x h = refl
run_no_key text Comment x h = refl
run_no_key text End x h = refl

-- what only a comment follows is no key
clear_skip : (b e : Bool) (c : ℕ) (cs key : List ℕ) → (c == 35) ≡ e → (is_nil (shown cs) ≡ true → key_at_colon key (skip cs) ≡ None)
    → is_nil (cond b (shown cs) (cond e [] (c ∷ cs))) ≡ true → key_at_colon key (cond b (skip cs) (c ∷ cs)) ≡ None
clear_skip true e c cs key ec f h = f h
clear_skip false true c cs key ec f h = at_byte 35 c (λ (c : ℕ). key_at_colon key (c ∷ cs) ≡ None) ec refl
clear_skip false false c cs key ec f h = absurd cc

shown_no_key : (key cs : List ℕ) → is_nil (shown cs) ≡ true → key_at_colon key (skip cs) ≡ None
shown_no_key key [] h = refl
shown_no_key key (c ∷ cs) h = clear_skip (is_white c) (c == 35) c cs key refl (shown_no_key key cs) h

clear_step : (b : Bool) (c : ℕ) (cs key : List ℕ) → (b && is_nil (shown cs)) ≡ true → key_at_colon key (cond b (skip cs) (c ∷ cs)) ≡ None
clear_step true c cs key h = shown_no_key key cs h
clear_step false c cs key h = absurd cc

clear_no_key : (key cs : List ℕ) → is_clear cs ≡ true → key_at_colon key (skip cs) ≡ None
clear_no_key key [] h = refl
clear_no_key key (c ∷ cs) h = clear_step (is_white c) c cs key h

quoted_no_key : (o : Option Quote) (x : InlineKind) → quoted_kind o ≡ Some x → key_of_quote o ≡ None
quoted_no_key None x h = refl
quoted_no_key (Some q) x h = clear_no_key q.text q.rest (then_some (is_clear q.rest) (Quoted q.text) x h)

quoted_some : (o : Option Quote) (x : InlineKind) → quoted_kind o ≡ Some x → (q : Quote) × (o ≡ Some q)
quoted_some None x h = absurd cc
quoted_some (Some q) x h = (q, refl)

-- a byte at which a flow node or a block scalar begins
record IsAlone (cs : List ℕ) : Type 0 where
  other : IsOther cs
  key : key_of cs ≡ None

alone : (k c : ℕ) (cs : List ℕ) → (c == k) ≡ true → IsAlone (k ∷ cs) → IsAlone (c ∷ cs)
alone k c cs h p = at_byte k c (λ (c : ℕ). IsAlone (c ∷ cs)) h p

alone_start : (cs : List ℕ) (x : InlineKind) → IsAlone cs → kind_of cs ≡ Some x → start_of cs ≡ Inline x
alone_start cs x a h = as_inline cs x a.other a.key h

pub kind_start : (cs : List ℕ) (x : InlineKind) → kind_of cs ≡ Some x → start_of cs ≡ Inline x
kind_start [] x h = absurd cc
kind_start (c ∷ cs) x h =
    elim (chosen (starts_plain (c ∷ cs)) _ _ (Some x) h) [
      | inl a ↦ as_inline (c ∷ cs) x (plain_other (c ∷ cs) a.0)
          (at_true (starts_plain (c ∷ cs)) _ _ a.0 ∙ run_no_key (run false false (c ∷ cs)).text (run false false (c ∷ cs)).ending x a.1) h
      | inr a ↦ elim (chosen ((c == 39) || (c == 34)) (quoted_kind (quote_of (c ∷ cs))) _ (Some x) a.1) [
        | inl b ↦ (let q = quoted_some (quote_of (c ∷ cs)) x b.1 in as_inline (c ∷ cs) x (quote_marked (c ∷ cs) q.0 q.1).other
            (at_false (starts_plain (c ∷ cs)) _ _ a.0 ∙ quoted_no_key (quote_of (c ∷ cs)) x b.1) h)
        | inr b ↦ elim (chosen ((c == 91) || (c == 123)) (Some Flowing) _ (Some x) b.1) [
          | inl d ↦ elim (or_cases (c == 91) (c == 123) d.0) [
            | inl e ↦ alone_start (c ∷ cs) x (alone 91 c cs e (record { other = record { loud = refl; dash = refl }; key = refl })) h
            | inr e ↦ alone_start (c ∷ cs) x (alone 123 c cs e (record { other = record { loud = refl; dash = refl }; key = refl })) h
          ]
          | inr d ↦ elim (chosen (c == 124) (block_kind false cs) _ (Some x) d.1) [
            | inl e ↦ alone_start (c ∷ cs) x (alone 124 c cs e.0 (record { other = record { loud = refl; dash = refl }; key = refl })) h
            | inr e ↦ alone_start (c ∷ cs) x
                (alone 62 c cs (then_kind (c == 62) (block_kind true cs) x e.1) (record { other = record { loud = refl; dash = refl }; key = refl })) h
          ]
        ]
      ]
    ]
  where
    then_kind : (b : Bool) (o : Option InlineKind) (x : InlineKind) → cond b o None ≡ Some x → b ≡ true
    then_kind true o x h = refl
    then_kind false o x h = absurd cc

-- ---- whether a dash begins

no_dash_by : (b : Bool) (k : Option (List ℕ × List ℕ)) (i : Option InlineKind) → is_dash (start_by b None k i) ≡ false
no_dash_by true k i = refl
no_dash_by false (Some k) i = refl
no_dash_by false None (Some i) = refl
no_dash_by false None None = refl

pub dash_at : (c : ℕ) (cs : List ℕ) (b : Bool) → ((c == 45) && white_or_end cs) ≡ b → is_dash (start_of (c ∷ cs)) ≡ b
dash_at c cs true e = ap is_dash (dash_start (c ∷ cs) _ (at_true ((c == 45) && white_or_end cs) _ _ e))
dash_at c cs false e = ap (λ (o : Option Dashed). is_dash (start_by (is_nil (shown (c ∷ cs))) o (key_of (c ∷ cs)) (kind_of (c ∷ cs))))
    (at_false ((c == 45) && white_or_end cs) _ _ e) ∙ no_dash_by (is_nil (shown (c ∷ cs))) (key_of (c ∷ cs)) (kind_of (c ∷ cs))

-- ---- what the reader found

pub start_refused : (cs : List ℕ) → is_nil (shown cs) ≡ false → dash_of cs ≡ None → key_of cs ≡ None → kind_of cs ≡ None → start_of cs ≡ Refused
start_refused cs l d k i =
    ap (λ (b : Bool). start_by b (dash_of cs) (key_of cs) (kind_of cs)) l
    ∙ ap (λ (d : Option Dashed). start_by false d (key_of cs) (kind_of cs)) d
    ∙ ap (λ (k : Option (List ℕ × List ℕ)). start_by false None k (kind_of cs)) k
    ∙ ap (λ (i : Option InlineKind). start_by false None None i) i

-- outside flow nodes no run ends at a bracket
no_bracket_by : (o : Option Ending) (c : ℕ) (r : Run) (rest : List ℕ)
    → ((rest : List ℕ) → (let some : Ending → Option Ending = λ e. Some e in o ≡ some (Bracket rest)) → ⊥) → (r.ending ≡ Bracket rest → ⊥)
    → (run_by o c r).ending ≡ Bracket rest → ⊥
no_bracket_by (Some e) c r rest f g h = f rest (ap (λ (e : Ending). let some : Ending → Option Ending = λ e. Some e in some e) h)
no_bracket_by None c r rest f g h = g h

no_bracket_stop : (a b : Bool) (cs rest : List ℕ)
    → (let some : Ending → Option Ending = λ e. Some e in cond a (some Comment) (cond b (some (Colon cs)) None) ≡ some (Bracket rest)) → ⊥
no_bracket_stop true b cs rest h = cc
no_bracket_stop false true cs rest h = cc
no_bracket_stop false false cs rest h = cc

pub no_bracket : (w : Bool) (cs rest : List ℕ) → (run false w cs).ending ≡ Bracket rest → ⊥
no_bracket w [] rest h = cc
no_bracket w (c ∷ cs) rest h = no_bracket_by (stop false w (c ∷ cs)) c (run false (is_white c) cs) rest
    (λ rest e. no_bracket_stop (w && (c == 35)) ((c == 58) && white_or_end cs) cs rest e) (no_bracket (is_white c) cs rest) h

-- ---- quotes

quote_plain : (cs : List ℕ) → starts_quote cs ≡ true → IsMarked cs
quote_plain [] h = absurd cc
quote_plain (c ∷ cs) h = elim (or_cases (c == 39) (c == 34) h) [
  | inl e ↦ at_byte 39 c (λ (c : ℕ). IsMarked (c ∷ cs)) e (record { other = record { loud = refl; dash = refl }; plain = refl })
  | inr e ↦ at_byte 34 c (λ (c : ℕ). IsMarked (c ∷ cs)) e (record { other = record { loud = refl; dash = refl }; plain = refl })
]

quote_key_of : (cs : List ℕ) → starts_quote cs ≡ true → key_of cs ≡ key_of_quote (quote_of cs)
quote_key_of cs h = at_false (starts_plain cs) _ _ (quote_plain cs h).plain

quote_kind_of : (cs : List ℕ) → starts_quote cs ≡ true → kind_of cs ≡ quoted_kind (quote_of cs)
quote_kind_of [] h = absurd cc
quote_kind_of (c ∷ cs) h = at_false (starts_plain (c ∷ cs)) _ _ (quote_plain (c ∷ cs) h).plain ∙ at_true ((c == 39) || (c == 34)) _ _ h

pub quote_refused : (cs : List ℕ) (q : Quote) → starts_quote cs ≡ true → quote_of cs ≡ Some q → key_at_colon q.text (skip q.rest) ≡ None
    → is_clear q.rest ≡ false → start_of cs ≡ Refused
quote_refused cs q h e k i = let m = (quote_plain cs h).other in start_refused cs m.loud m.dash (quote_key_of cs h ∙ ap key_of_quote e ∙ k)
    (quote_kind_of cs h ∙ ap quoted_kind e ∙ at_false (is_clear q.rest) _ _ i)
