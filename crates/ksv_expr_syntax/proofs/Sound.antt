-- What is read is spelled so.
use Rattle.ksv_expr_syntax.proofs.Common.{◌≡◌, ℕ, zero, suc, ◌+◌, false, List, [], ◌∷◌, ◌++◌, length, Some, None, refl, sym, ap, subst, ◌∙◌, append_assoc}
use Rattle.ksv_expr_syntax.proofs.Common.{arith, if◌then◌else◌, append-nil, UnaryOperator, Precedence, Infix, Tree}
use Rattle.ksv_expr_syntax.proofs.Common.{prefix, Lexeme, constant, word}
use Rattle.ksv_expr_syntax.proofs.Common.{symbol, parts, all_parts, Level, Whole, Joined, Negation, Comparison, Prefix, Postfix, Primary, tighter, join_tree}
use Rattle.ksv_expr_syntax.proofs.Common.{select_tree, is_left_out, path_tokens, Spells, pick, no_pick, join, no_join, negation, no_negation, compare}
use Rattle.ksv_expr_syntax.proofs.Common.{no_compare, prefixed, no_prefix, selected, called, converted, indexed, no_postfix, literal_alone, name_alone}
use Rattle.ksv_expr_syntax.proofs.Common.{enum_member, group, Next, Found, FoundList, found, ◌>>=◌, spend, after, operator_at}
use Rattle.ksv_expr_syntax.proofs.Common.{comparison_at, prefix_at, path_at, path_on, path_tree, all_but_last, last_name, reads, picks, arms, joins, negates}
use Rattle.ksv_expr_syntax.proofs.Common.{compares, prefixes, goes_on, places, selects, groups, reads_list, reads_more}
use Rattle.ksv_expr_syntax.specs.declared.token.Symbol.TheVariants as tok
use Rattle.ksv_expr_syntax.specs.declared.token.Precedence.TheVariants as tier
use Rattle.ksv_expr_syntax.specs.declared.token.Infix.TheVariants as infixes
use Rattle.ksv_expr_tree.specs.Tree.{named, special}
use Rattle.ksv_expr_syntax.specs.Grammar.{name_tree, special_of, SpellsArguments, empty, listed, SpellsList, last_one, one_more}
use Rattle.ksv_expr_syntax.proofs.Steps.{with_bind, with_spend, with_choice, after_some, operator_some, comparison_some, prefix_some, Path, path_some}
use Rattle.ksv_expr_syntax.proofs.Steps.{path_on_some, split_names, found_is, list_is, by_test}

-- a tree was read from the front
pub record Sound (l : Level) (d : ℕ) (ts : List Lexeme) (p : ℕ) (x : Found) : Type 0 where
  pub front : List Lexeme
  pub cut : ts ≡ front ++ x.rest
  pub spelled : Spells d l front x.tree
  pub spent : p ≡ x.left + parts x.tree

-- the tree e of the tokens before became a larger one
pub record Onward (l : Level) (d : ℕ) (before : List Lexeme) (e : Tree) (ts : List Lexeme) (p : ℕ) (x : Found) : Type 0 where
  pub front : List Lexeme
  pub cut : ts ≡ front ++ x.rest
  pub spelled : Spells d l (before ++ front) x.tree
  pub spent : p + parts e ≡ x.left + parts x.tree

-- arguments and a closing parenthesis were read
pub record SoundList (d : ℕ) (ts : List Lexeme) (p : ℕ) (x : FoundList) : Type 0 where
  pub front : List Lexeme
  pub cut : ts ≡ front ++ symbol tok.CloseParenthesis ∷ x.rest
  pub spelled : SpellsArguments d front x.arguments
  pub spent : p ≡ x.left + all_parts x.arguments

-- the same, at least one argument
pub record SoundMore (d : ℕ) (ts : List Lexeme) (p : ℕ) (x : FoundList) : Type 0 where
  pub front : List Lexeme
  pub cut : ts ≡ front ++ symbol tok.CloseParenthesis ∷ x.rest
  pub spelled : SpellsList d front x.arguments
  pub spent : p ≡ x.left + all_parts x.arguments

-- an operand, and then what is after it
both : {m l : Level} {d : ℕ} {ts : List Lexeme} {p : ℕ} (a x : Found) → Sound m d ts p a
    → ((front : List Lexeme) → Spells d m front a.tree → Onward l d front a.tree a.rest a.left x) → Sound l d ts p x
both {l = l} {d = d} {ts = ts} {p = p} a x s next = joined s.front s.cut s.spent (next s.front s.spelled)
  where
    joined : (front : List Lexeme) → ts ≡ front ++ a.rest → p ≡ a.left + parts a.tree → Onward l d front a.tree a.rest a.left x → Sound l d ts p x
    joined front cut spent o = record {
      front = front ++ o.front;
      cut = cut ∙ ap (λ (r : List Lexeme). front ++ r) o.cut ∙ sym (append_assoc front o.front x.rest);
      spelled = o.spelled;
      spent = omega (arith, spent, o.spent);
    }

-- some tokens more before the rest
extend : {l : Level} {d : ℕ} (before mid : List Lexeme) (e f : Tree) {rest : List Lexeme} {ts : List Lexeme} {p q : ℕ} {x : Found} → ts ≡ mid ++ rest
    → p + parts e ≡ q + parts f → Onward l d (before ++ mid) f rest q x → Onward l d before e ts p x
extend {l} {d} before mid e f {x = x} cut spent o = record {
  front = mid ++ o.front;
  cut = cut ∙ ap (λ (r : List Lexeme). mid ++ r) o.cut ∙ sym (append_assoc mid o.front x.rest);
  spelled = subst (λ (r : List Lexeme). Spells d l r x.tree) (append_assoc before mid o.front) o.spelled;
  spent = omega (arith, spent, o.spent);
}

-- one step after a tree, and then the others
chain : {l : Level} {d : ℕ} (before : List Lexeme) (e : Tree) {ts : List Lexeme} {p : ℕ} (a x : Found) → Onward l d before e ts p a
    → ((front : List Lexeme) → Spells d l front a.tree → Onward l d front a.tree a.rest a.left x) → Onward l d before e ts p x
chain before e a x o next = extend before o.front e a.tree o.cut o.spent (next (before ++ o.front) o.spelled)

-- nothing goes on
stays : {l : Level} {d : ℕ} (before : List Lexeme) (e : Tree) (ts : List Lexeme) (p : ℕ) (x : Found) → found e ts p ≡ Some x → Spells d l before e
    → Onward l d before e ts p x
stays before e ts p x h s = rw (← (found_is h)) (record { front = []; cut = refl; spelled = rw append-nil s; spent = refl })

-- a token more in front
behind : (v : Lexeme) {ts us : List Lexeme} → ts ≡ us → v ∷ ts ≡ v ∷ us
behind v e = ap (λ (ts : List Lexeme). v ∷ ts) e

-- a closing token after the front
closed : {ts r us : List Lexeme} (front : List Lexeme) (v : Lexeme) → ts ≡ front ++ r → r ≡ v ∷ us → ts ≡ (front ++ v ∷ []) ++ us
closed {us = us} front v e f = e ∙ ap (λ (r : List Lexeme). front ++ r) f ∙ sym (append_assoc front (v ∷ []) us)

-- the middle of a choice
two_arms : {ts r us : List Lexeme} (ys zs r2 : List Lexeme) → ts ≡ ys ++ r → r ≡ symbol tok.Colon ∷ us → us ≡ zs ++ r2
    → ts ≡ (ys ++ symbol tok.Colon ∷ zs) ++ r2
two_arms ys zs r2 e f g = e ∙ ap (λ (r : List Lexeme). ys ++ r) (f ∙ behind (symbol tok.Colon) g) ∙ sym (append_assoc ys (symbol tok.Colon ∷ zs) r2)

pub parts_join : (op : Infix) (a b : Tree) → parts (join_tree op a b) ≡ parts a + parts b + 1
parts_join (infixes.Logical op) a b = refl
parts_join (infixes.Binary op) a b = refl

pub parts_name : (w : List ℕ) → parts (name_tree w) ≡ 1
parts_name w = elim (special_of w) as (λ o. parts (elim o [ None ↦ named (record { text = w; number = None }) | Some n ↦ special n ]) ≡ 1)
    [ None ↦ refl | Some n ↦ refl ]

pub parts_select : (e : Tree) (w : List ℕ) → parts (select_tree e w) ≡ parts e + 1
parts_select e w = elim (special_of w) as
    (λ o. parts (elim o [ None ↦ Tree.field e (record { text = w; number = None }) | Some n ↦ Tree.special_field e n ]) ≡ parts e + 1)
    [ None ↦ refl | Some n ↦ refl ]

pub parts_path : (ws : List (List ℕ)) → parts (path_tree ws) ≡ 1
parts_path [] = parts_name []
parts_path (w ∷ []) = parts_name w
parts_path (w ∷ v ∷ ws) = refl

-- a name or a member
named_or_member : (d : ℕ) (w : List ℕ) (ws : List (List ℕ)) → is_left_out w ≡ false → Spells d Primary (path_tokens (w ∷ ws)) (path_tree (w ∷ ws))
named_or_member d w [] h = name_alone w h
named_or_member d w (v ∷ ws) h = enum_member w (all_but_last (v ∷ ws)) (last_name (v ∷ ws)) h (ap (λ us. path_tokens (w ∷ us)) (sym (split_names v ws)))

-- a path's first name is the first token
path_first : (w : List ℕ) (ts : List Lexeme) (v : List ℕ) (vs : List (List ℕ)) (us : List Lexeme) → word w ∷ ts ≡ path_tokens (v ∷ vs) ++ us → w ≡ v
path_first w ts v [] us h = cc
path_first w ts v (u ∷ vs) us h = cc

path_sound : (w : List ℕ) (ts : List Lexeme) (d p q : ℕ) (y : Next (List (List ℕ))) → is_left_out w ≡ false → Path (word w ∷ ts) y → p ≡ suc q
    → Sound Primary d (word w ∷ ts) p (record { tree = path_tree y.what; rest = y.behind; left = q })
path_sound w ts d p q y h s e = record {
  front = path_tokens (s.first ∷ s.others);
  cut = s.cut;
  spelled = subst (λ ws. Spells d Primary (path_tokens (s.first ∷ s.others)) (path_tree ws)) (sym s.names)
      (named_or_member d s.first s.others (ap is_left_out (sym (path_first w ts s.first s.others y.behind s.cut)) ∙ h));
  spent = omega (arith, e, parts_path y.what);
}

-- ---- what each rule makes of what was read

word_sound : (w : List ℕ) (ts : List Lexeme) (d p : ℕ) (x : Found)
    → (if is_left_out w then None else (path_on w ts >>= λ y. spend p (λ p. found (path_tree y.what) y.behind p))) ≡ Some x → Sound Primary d (word w ∷ ts) p x
word_sound w ts d p x h = by_test (is_left_out w) (λ e. absurd (let i = rw e at h in cc)) (λ e.
    with_bind (path_on w ts) (λ y. spend p (λ p. found (path_tree y.what) y.behind p)) x (rw e at h) (λ y r h.
    with_spend p _ x h (λ q i h. rw (← (found_is h)) (path_sound w ts d p q y e (path_on_some w ts y r) i))))

mutual
  pub reads_sound : (n : ℕ) (l : Level) (d : ℕ) (ts : List Lexeme) (p : ℕ) (x : Found) → reads n l d ts p ≡ Some x → Sound l d ts p x
  reads_sound zero l d ts p x h = absurd cc
  reads_sound (suc n) Whole d ts p x h =
      with_bind (reads n (Joined tier.Or) d ts p) _ x h (λ a r h.
      both a x (reads_sound n (Joined tier.Or) d ts p a r) (λ front s. picks_sound n front a.tree d a.rest a.left x s h))
  reads_sound (suc n) (Joined k) d ts p x h =
      with_bind (reads n (tighter k) d ts p) _ x h (λ a r h.
      both a x (reads_sound n (tighter k) d ts p a r) (λ front s. joins_sound n k front a.tree d a.rest a.left x (no_join s) h))
  reads_sound (suc n) Negation d ts p x h =
      with_choice (after tok.Not ts) _ _ x h
      (λ c h. let s = reads_sound n Comparison d ts p x h in
      record { front = s.front; cut = s.cut; spelled = no_negation s.spelled; spent = s.spent })
      (λ us c h. rw (after_some tok.Not ts us c) (negates_sound n d us p x h))
  reads_sound (suc n) Comparison d ts p x h =
      with_bind (reads n (Joined tier.BitOr) d ts p) _ x h (λ a r h.
      both a x (reads_sound n (Joined tier.BitOr) d ts p a r) (λ front s. compares_sound n front a.tree d a.rest a.left x s h))
  reads_sound (suc n) Prefix d ts p x h =
      with_choice (prefix_at ts) _ _ x h
      (λ c h. let s = reads_sound n Postfix d ts p x h in
      record { front = s.front; cut = s.cut; spelled = no_prefix s.spelled; spent = s.spent })
      (λ y c h. let o = prefix_some ts y c in rw o.1 (prefixes_sound n o.0 y.what d y.behind p x o.2 h))
  reads_sound (suc n) Postfix d ts p x h =
      with_bind (reads n Primary d ts p) _ x h (λ a r h.
      both a x (reads_sound n Primary d ts p a r) (λ front s. goes_on_sound n front a.tree d a.rest a.left x (no_postfix s) h))
  reads_sound (suc n) Primary d [] p x h = absurd cc
  reads_sound (suc n) Primary d (constant v ∷ ts) p x h = with_spend p _ x h (λ q i h.
      rw (← (found_is h)) (record { front = constant v ∷ []; cut = refl; spelled = literal_alone; spent = omega (arith, i) }))
  reads_sound (suc n) Primary d (word w ∷ ts) p x h = word_sound w ts d p x h
  reads_sound (suc n) Primary d (symbol s ∷ ts) p x h =
      with_bind (after tok.OpenParenthesis (symbol s ∷ ts)) _ x h (λ us c h.
      rw (after_some tok.OpenParenthesis (symbol s ∷ ts) us c) (groups_sound n d us p x h))

  picks_sound : (n : ℕ) (before : List Lexeme) (e : Tree) (d : ℕ) (ts : List Lexeme) (p : ℕ) (x : Found) → Spells d (Joined tier.Or) before e
      → picks n e d ts p ≡ Some x → Onward Whole d before e ts p x
  picks_sound zero before e d ts p x s h = absurd cc
  picks_sound (suc n) before e d ts p x s h =
      with_choice (after tok.Question ts) _ _ x h (λ c h. stays before e ts p x h (no_pick s))
      (λ us c h. rw (after_some tok.Question ts us c) (arms_sound n before e d us p x s h))

  arms_sound : (n : ℕ) (before : List Lexeme) (e : Tree) (d : ℕ) (ts : List Lexeme) (p : ℕ) (x : Found) → Spells d (Joined tier.Or) before e
      → arms n e d ts p ≡ Some x → Onward Whole d before e (symbol tok.Question ∷ ts) p x
  arms_sound zero before e d ts p x s h = absurd cc
  arms_sound (suc n) before e d ts p x s h =
      with_spend d _ x h (λ g i h. with_spend p _ x h (λ q j h. with_bind (reads n Whole g ts q) _ x h (λ a r h.
      with_bind (after tok.Colon a.rest) _ x h (λ us c h. with_bind (reads n Whole g us a.left) _ x h (λ b t h.
      let y = reads_sound n Whole g ts q a r in
      let z = reads_sound n Whole g us a.left b t in
      rw (i, ← (found_is h)) (record {
        front = symbol tok.Question ∷ (y.front ++ symbol tok.Colon ∷ z.front);
        cut = behind (symbol tok.Question) (two_arms y.front z.front b.rest y.cut (after_some tok.Colon a.rest us c) z.cut);
        spelled = pick before y.front z.front refl (rw i at s) y.spelled z.spelled;
        spent = omega (arith, j, y.spent, z.spent);
      }))))))

  joins_sound : (n : ℕ) (k : Precedence) (before : List Lexeme) (e : Tree) (d : ℕ) (ts : List Lexeme) (p : ℕ) (x : Found) → Spells d (Joined k) before e
      → joins n k e d ts p ≡ Some x → Onward (Joined k) d before e ts p x
  joins_sound zero k before e d ts p x s h = absurd cc
  joins_sound (suc n) k before e d ts p x s h =
      with_choice (operator_at k ts) _ _ x h (λ c h. stays before e ts p x h s) (λ y c h.
      let o = operator_some k ts y c in
      with_spend p _ x h (λ q j h. with_bind (reads n (tighter k) d y.behind q) _ x h (λ a r h.
      let z = reads_sound n (tighter k) d y.behind q a r in
      extend before (o.0 ∷ z.front) e (join_tree y.what e a.tree) (o.1 ∙ behind o.0 z.cut) (omega (arith, j, z.spent, parts_join y.what e a.tree))
      (joins_sound n k (before ++ o.0 ∷ z.front) (join_tree y.what e a.tree) d a.rest a.left x (join before o.0 z.front o.2 refl s z.spelled) h))))

  negates_sound : (n : ℕ) (d : ℕ) (ts : List Lexeme) (p : ℕ) (x : Found) → negates n d ts p ≡ Some x → Sound Negation d (symbol tok.Not ∷ ts) p x
  negates_sound zero d ts p x h = absurd cc
  negates_sound (suc n) d ts p x h =
      with_spend d _ x h (λ e i h. with_spend p _ x h (λ q j h. with_bind (reads n Negation e ts q) _ x h (λ a r h.
      let s = reads_sound n Negation e ts q a r in
      rw (i, ← (found_is h))
      (record { front = symbol tok.Not ∷ s.front; cut = behind (symbol tok.Not) s.cut; spelled = negation s.spelled; spent = omega (arith, j, s.spent) }))))

  compares_sound : (n : ℕ) (before : List Lexeme) (e : Tree) (d : ℕ) (ts : List Lexeme) (p : ℕ) (x : Found) → Spells d (Joined tier.BitOr) before e
      → compares n e d ts p ≡ Some x → Onward Comparison d before e ts p x
  compares_sound zero before e d ts p x s h = absurd cc
  compares_sound (suc n) before e d ts p x s h =
      with_choice (comparison_at ts) _ _ x h (λ c h. stays before e ts p x h (no_compare s)) (λ y c h.
      let o = comparison_some ts y c in
      with_spend p _ x h (λ q j h. with_bind (reads n (Joined tier.BitOr) d y.behind q) _ x h (λ a r h.
      let z = reads_sound n (Joined tier.BitOr) d y.behind q a r in
      rw (← (found_is h)) (record {
        front = o.0 ∷ z.front;
        cut = o.1 ∙ behind o.0 z.cut;
        spelled = compare before o.0 z.front o.2 refl s z.spelled;
        spent = omega (arith, j, z.spent);
      }))))

  prefixes_sound : (n : ℕ) (v : Lexeme) (op : UnaryOperator) (d : ℕ) (ts : List Lexeme) (p : ℕ) (x : Found) → prefix v ≡ Some op → prefixes n op d ts p ≡ Some x
      → Sound Prefix d (v ∷ ts) p x
  prefixes_sound zero v op d ts p x o h = absurd cc
  prefixes_sound (suc n) v op d ts p x o h =
      with_spend d _ x h (λ e i h. with_spend p _ x h (λ q j h. with_bind (reads n Prefix e ts q) _ x h (λ a r h.
      let s = reads_sound n Prefix e ts q a r in
      rw (i, ← (found_is h)) (record { front = v ∷ s.front; cut = behind v s.cut; spelled = prefixed v o s.spelled; spent = omega (arith, j, s.spent) }))))

  goes_on_sound : (n : ℕ) (before : List Lexeme) (e : Tree) (d : ℕ) (ts : List Lexeme) (p : ℕ) (x : Found) → Spells d Postfix before e
      → goes_on n e d ts p ≡ Some x → Onward Postfix d before e ts p x
  goes_on_sound zero before e d ts p x s h = absurd cc
  goes_on_sound (suc n) before e d ts p x s h =
      with_choice (after tok.Dot ts) _ _ x h
      (λ c h. with_choice (after tok.OpenBracket ts) _ _ x h (λ c h. stays before e ts p x h s)
      (λ us c h. with_bind (places n e d us p) _ x h (λ a r h.
      rw (after_some tok.OpenBracket ts us c)
      (chain before e a x (places_sound n before e d us p a s r) (λ front s. goes_on_sound n front a.tree d a.rest a.left x s h)))))
      (λ us c h. with_bind (selects n e d us p) _ x h (λ a r h.
      rw (after_some tok.Dot ts us c)
      (chain before e a x (selects_sound n before e d us p a s r) (λ front s. goes_on_sound n front a.tree d a.rest a.left x s h))))

  places_sound : (n : ℕ) (before : List Lexeme) (e : Tree) (d : ℕ) (ts : List Lexeme) (p : ℕ) (x : Found) → Spells d Postfix before e
      → places n e d ts p ≡ Some x → Onward Postfix d before e (symbol tok.OpenBracket ∷ ts) p x
  places_sound zero before e d ts p x s h = absurd cc
  places_sound (suc n) before e d ts p x s h =
      with_spend d _ x h (λ g i h. with_spend p _ x h (λ q j h. with_bind (reads n Whole g ts q) _ x h (λ a r h.
      with_bind (after tok.CloseBracket a.rest) _ x h (λ us c h.
      let y = reads_sound n Whole g ts q a r in
      rw (i, ← (found_is h)) (record {
        front = symbol tok.OpenBracket ∷ (y.front ++ symbol tok.CloseBracket ∷ []);
        cut = behind (symbol tok.OpenBracket) (closed y.front (symbol tok.CloseBracket) y.cut (after_some tok.CloseBracket a.rest us c));
        spelled = indexed before y.front refl (rw i at s) y.spelled;
        spent = omega (arith, j, y.spent);
      })))))

  selects_sound : (n : ℕ) (before : List Lexeme) (e : Tree) (d : ℕ) (ts : List Lexeme) (p : ℕ) (x : Found) → Spells d Postfix before e
      → selects n e d ts p ≡ Some x → Onward Postfix d before e (symbol tok.Dot ∷ ts) p x
  selects_sound (suc n) before e d (word w ∷ ts) p x s h =
      with_spend p _ x h (λ q j h. with_choice (after tok.OpenParenthesis ts) _ _ x h
      (λ c h. rw (← (found_is h))
      (record { front = symbol tok.Dot ∷ word w ∷ []; cut = refl; spelled = selected before w refl s; spent = omega (arith, j, parts_select e w) }))
      (λ us c h. with_spend d _ x h (λ g i h. with_bind (reads_list n g us q) _ x h (λ a r h.
      let y = list_sound n g us q a r in
      rw (i, after_some tok.OpenParenthesis ts us c, ← (found_is h)) (record {
        front = symbol tok.Dot ∷ word w ∷ symbol tok.OpenParenthesis ∷ (y.front ++ symbol tok.CloseParenthesis ∷ []);
        cut = behind (symbol tok.Dot) (behind (word w) (behind (symbol tok.OpenParenthesis) (closed y.front (symbol tok.CloseParenthesis) y.cut refl)));
        spelled = called before w y.front refl (rw i at s) y.spelled;
        spent = omega (arith, j, y.spent);
      })))))
  selects_sound (suc n) before e d (symbol v ∷ ts) p x s h =
      with_spend p _ x h (λ q j h. with_bind (after tok.As (symbol v ∷ ts)) _ x h (λ us u h. with_bind (after tok.Less us) _ x h (λ vs l h.
      with_bind (path_at vs) _ x h (λ m y h. with_bind (after tok.Greater m.behind) _ x h (λ ws g h.
      let z = path_some vs m y in
      rw (after_some tok.As (symbol v ∷ ts) us u, after_some tok.Less us vs l, ← (found_is h)) (record {
        front = symbol tok.Dot ∷ symbol tok.As ∷ symbol tok.Less ∷ (path_tokens m.what ++ symbol tok.Greater ∷ []);
        cut = behind (symbol tok.Dot) (behind (symbol tok.As) (behind (symbol tok.Less) (closed (path_tokens m.what) (symbol tok.Greater)
            (z.cut ∙ ap (λ ws. path_tokens ws ++ m.behind) (sym z.names)) (after_some tok.Greater m.behind ws g))));
        spelled = converted before m.what (omega (arith, ap length z.names)) refl s;
        spent = omega (arith, j);
      }))))))
  selects_sound _ before e d ts p x s h = absurd cc

  groups_sound : (n : ℕ) (d : ℕ) (ts : List Lexeme) (p : ℕ) (x : Found) → groups n d ts p ≡ Some x → Sound Primary d (symbol tok.OpenParenthesis ∷ ts) p x
  groups_sound zero d ts p x h = absurd cc
  groups_sound (suc n) d ts p x h =
      with_spend d _ x h (λ e i h. with_bind (reads n Whole e ts p) _ x h (λ a r h. with_bind (after tok.CloseParenthesis a.rest) _ x h (λ us c h.
      let s = reads_sound n Whole e ts p a r in
      rw (i, ← (found_is h)) (record {
        front = symbol tok.OpenParenthesis ∷ (s.front ++ symbol tok.CloseParenthesis ∷ []);
        cut = behind (symbol tok.OpenParenthesis) (closed s.front (symbol tok.CloseParenthesis) s.cut (after_some tok.CloseParenthesis a.rest us c));
        spelled = group s.front refl s.spelled;
        spent = s.spent;
      }))))

  pub list_sound : (n : ℕ) (d : ℕ) (ts : List Lexeme) (p : ℕ) (x : FoundList) → reads_list n d ts p ≡ Some x → SoundList d ts p x
  list_sound zero d ts p x h = absurd cc
  list_sound (suc n) d ts p x h =
      with_choice (after tok.CloseParenthesis ts) _ _ x h
      (λ c h. let s = more_sound n d ts p x h in record { front = s.front; cut = s.cut; spelled = listed s.spelled; spent = s.spent })
      (λ us c h. rw (← (list_is h)) (record { front = []; cut = after_some tok.CloseParenthesis ts us c; spelled = empty; spent = omega arith }))

  more_sound : (n : ℕ) (d : ℕ) (ts : List Lexeme) (p : ℕ) (x : FoundList) → reads_more n d ts p ≡ Some x → SoundMore d ts p x
  more_sound zero d ts p x h = absurd cc
  more_sound (suc n) d ts p x h =
      with_bind (reads n Whole d ts p) _ x h (λ a r h.
      let s = reads_sound n Whole d ts p a r in
      with_choice (after tok.Comma a.rest) _ _ x h
      (λ c h. with_bind (after tok.CloseParenthesis a.rest) _ x h (λ us c h.
      rw (← (list_is h)) (record {
        front = s.front;
        cut = s.cut ∙ ap (λ (r : List Lexeme). s.front ++ r) (after_some tok.CloseParenthesis a.rest us c);
        spelled = last_one s.spelled;
        spent = omega (arith, s.spent);
      })))
      (λ us c h. with_bind (reads_more n d us a.left) _ x h (λ b t h.
      let r = more_sound n d us a.left b t in
      rw (← (list_is h)) (record {
        front = s.front ++ symbol tok.Comma ∷ r.front;
        cut = s.cut ∙ ap (λ (r : List Lexeme). s.front ++ r) (after_some tok.Comma a.rest us c ∙ behind (symbol tok.Comma) r.cut)
            ∙ sym (append_assoc s.front (symbol tok.Comma ∷ r.front) (symbol tok.CloseParenthesis ∷ b.rest));
        spelled = one_more s.front r.front refl s.spelled r.spelled;
        spent = omega (arith, s.spent, r.spent);
      }))))
