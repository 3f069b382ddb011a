-- With enough nested calls, more of them read nothing else.
use Rattle.ksv_expr_syntax.proofs.Common.{◌≡◌, ℕ, zero, suc, ◌+◌, ◌*◌, ◌≤◌, ◌<◌, List, [], ◌∷◌, ◌++◌, length, length-append, Option, Some, None, refl, ap, ◌∙◌}
use Rattle.ksv_expr_syntax.proofs.Common.{arith, Symbol, UnaryOperator, Precedence, Tree}
use Rattle.ksv_expr_syntax.proofs.Common.{Lexeme, constant, word, symbol, Level, Whole, Joined, Negation, Comparison, Prefix, Postfix, Primary}
use Rattle.ksv_expr_syntax.proofs.Common.{tighter, join_tree, path_tokens, Spells, pick, no_pick, join, no_join, negation, no_negation, compare}
use Rattle.ksv_expr_syntax.proofs.Common.{no_compare, prefixed, no_prefix, selected, called, converted, indexed, no_postfix, literal_alone, name_alone}
use Rattle.ksv_expr_syntax.proofs.Common.{enum_member, group, Next, Found, FoundList, ◌>>=◌, choose, spend, after, operator_at}
use Rattle.ksv_expr_syntax.proofs.Common.{comparison_at, prefix_at, path_at, reads, picks, arms, joins, negates, compares, prefixes, goes_on, places, selects}
use Rattle.ksv_expr_syntax.proofs.Common.{groups, reads_list, reads_more, room, wide}
use Rattle.ksv_expr_syntax.specs.declared.token.Symbol.TheVariants as tok
use Rattle.ksv_expr_syntax.specs.declared.token.Precedence.TheVariants as tier
use Rattle.ksv_expr_syntax.proofs.Steps.{with_bind, with_spend, with_choice, after_some, operator_some, comparison_some, prefix_some, path_some, found_is}
use Rattle.ksv_expr_syntax.proofs.Sound.{reads_sound, list_sound}

-- ---- what is read has a token

-- names with `::` between them are one token at least
pub path_long : (w : List ℕ) (ws : List (List ℕ)) → 0 < length (path_tokens (w ∷ ws))
path_long w [] = omega arith
path_long w (v ∷ ws) = omega arith

pub some_tokens : {d : ℕ} {l : Level} {ts : List Lexeme} {e : Tree} → Spells d l ts e → 0 < length ts
some_tokens (pick xs ys zs is a b c) = omega (arith, ap length is, length-append xs (symbol tok.Question ∷ (ys ++ symbol tok.Colon ∷ zs)))
some_tokens (no_pick s) = some_tokens s
some_tokens (join xs x ys is e a b) = omega (arith, ap length e, length-append xs (x ∷ ys))
some_tokens (no_join s) = some_tokens s
some_tokens (negation s) = omega arith
some_tokens (no_negation s) = some_tokens s
some_tokens (compare xs x ys is e a b) = omega (arith, ap length e, length-append xs (x ∷ ys))
some_tokens (no_compare s) = some_tokens s
some_tokens (prefixed x is s) = omega arith
some_tokens (no_prefix s) = some_tokens s
some_tokens (selected xs w is s) = omega (arith, ap length is, length-append xs (symbol tok.Dot ∷ word w ∷ []))
some_tokens (called xs w ys is s es) =
    omega (arith, ap length is, length-append xs (symbol tok.Dot ∷ word w ∷ symbol tok.OpenParenthesis ∷ (ys ++ symbol tok.CloseParenthesis ∷ [])))
some_tokens (converted xs ws h is s) =
    omega (arith, ap length is, length-append xs (symbol tok.Dot ∷ symbol tok.As ∷ symbol tok.Less ∷ (path_tokens ws ++ symbol tok.Greater ∷ [])))
some_tokens (indexed xs ys is s i) = omega (arith, ap length is, length-append xs (symbol tok.OpenBracket ∷ (ys ++ symbol tok.CloseBracket ∷ [])))
some_tokens (no_postfix s) = some_tokens s
some_tokens literal_alone = omega arith
some_tokens (name_alone w h) = omega arith
some_tokens (enum_member w [] m h is) = omega (arith, ap length is)
some_tokens (enum_member w (v ∷ ws) m h is) = omega (arith, ap length is)
some_tokens (group xs is s) = omega (arith, ap length is)

pub shrinks : (n : ℕ) (l : Level) (d : ℕ) (ts : List Lexeme) (p : ℕ) (x : Found) → reads n l d ts p ≡ Some x → length x.rest < length ts
shrinks n l d ts p x h = let s = reads_sound n l d ts p x h in omega (arith, ap length s.cut, length-append s.front x.rest, some_tokens s.spelled)

pub list_shrinks : (n : ℕ) (d : ℕ) (ts : List Lexeme) (p : ℕ) (x : FoundList) → reads_list n d ts p ≡ Some x → length x.rest < length ts
list_shrinks n d ts p x h = let s = list_sound n d ts p x h in omega (arith, ap length s.cut, length-append s.front (symbol tok.CloseParenthesis ∷ x.rest))

pub after_shrinks : (s : Symbol) (ts us : List Lexeme) → after s ts ≡ Some us → length ts ≡ length us + 1
after_shrinks s ts us h = omega (arith, ap length (after_some s ts us h))

pub path_shrinks : (ts : List Lexeme) (x : Next (List (List ℕ))) → path_at ts ≡ Some x → length x.behind < length ts
path_shrinks ts x h = let s = path_some ts x h in omega
    (arith, ap length s.cut, length-append (path_tokens (s.first ∷ s.others)) x.behind, path_long s.first s.others)

pub places_shrinks : (n : ℕ) (e : Tree) (d : ℕ) (ts : List Lexeme) (p : ℕ) (x : Found) → places n e d ts p ≡ Some x → length x.rest < length ts
places_shrinks zero e d ts p x h = absurd cc
places_shrinks (suc n) e d ts p x h =
    with_spend d _ x h (λ g i h. with_spend p _ x h (λ q i h. with_bind (reads n Whole g ts q) _ x h (λ a i h. with_bind (after tok.CloseBracket a.rest) _ x h
    (λ us j h. rw (← (found_is h)) (omega (arith, shrinks n Whole g ts q a i, after_shrinks tok.CloseBracket a.rest us j))))))

pub selects_shrinks : (n : ℕ) (e : Tree) (d : ℕ) (ts : List Lexeme) (p : ℕ) (x : Found) → selects n e d ts p ≡ Some x → length x.rest < length ts
selects_shrinks (suc n) e d (word w ∷ ts) p x h =
    with_spend p _ x h (λ q i h. with_choice (after tok.OpenParenthesis ts) _ _ x h
    (λ c h. rw (← (found_is h)) (omega arith))
    (λ us j h. with_spend d _ x h (λ g i h. with_bind (reads_list n g us q) _ x h (λ a i h.
    rw (← (found_is h)) (omega (arith, list_shrinks n g us q a i, after_shrinks tok.OpenParenthesis ts us j))))))
selects_shrinks (suc n) e d (symbol v ∷ ts) p x h =
    with_spend p _ x h (λ q i h. with_bind (after tok.As (symbol v ∷ ts)) _ x h (λ us j h. with_bind (after tok.Less us) _ x h (λ vs k h.
    with_bind (path_at vs) _ x h (λ m l h. with_bind (after tok.Greater m.behind) _ x h (λ ws g h.
    rw (← (found_is h)) (omega (
      arith,
      after_shrinks tok.As (symbol v ∷ ts) us j,
      after_shrinks tok.Less us vs k,
      path_shrinks vs m l,
      after_shrinks tok.Greater m.behind ws g,
    )))))))
selects_shrinks _ e d ts p x h = absurd cc

-- ---- two ways on that are the same

pub bind_same : {A B : Type 0} (r s : Option A) (f g : A → Option B) → r ≡ s → ((a : A) → r ≡ Some a → f a ≡ g a) → (r >>= f) ≡ (s >>= g)
bind_same None s f g e h = ap (λ s. s >>= g) e
bind_same (Some a) s f g e h = h a refl ∙ ap (λ s. s >>= g) e

pub choose_same : {A B : Type 0} (o : Option A) (x y : B) (f g : A → B) → x ≡ y → ((a : A) → o ≡ Some a → f a ≡ g a) → choose o x f ≡ choose o y g
choose_same None x y f g e h = e
choose_same (Some a) x y f g e h = h a refl

pub spend_same : {A : Type 0} (p : ℕ) (f g : ℕ → Option A) → ((q : ℕ) → f q ≡ g q) → spend p f ≡ spend p g
spend_same zero f g h = refl
spend_same (suc p) f g h = h p

pub room_tighter : (k : Precedence) (ts : List Lexeme) → room (tighter k) ts + 1 ≡ room (Joined k) ts
room_tighter tier.Or ts = omega arith
room_tighter _ ts = omega arith

pub room_least : (l : Level) (ts : List Lexeme) → 32 * length ts + 2 ≤ room l ts
room_least (Joined tier.Or) ts = omega arith
room_least _ ts = omega arith

pub room_most : (l : Level) (ts : List Lexeme) → room l ts ≤ 32 * length ts + 15
room_most (Joined tier.Or) ts = omega arith
room_most _ ts = omega arith

pub operator_shrinks : (k : Precedence) (ts : List Lexeme) (x : Next _) → operator_at k ts ≡ Some x → length ts ≡ length x.behind + 1
operator_shrinks k ts x h = let o = operator_some k ts x h in omega (arith, ap length o.1)

pub comparison_shrinks : (ts : List Lexeme) (x : Next _) → comparison_at ts ≡ Some x → length ts ≡ length x.behind + 1
comparison_shrinks ts x h = let o = comparison_some ts x h in omega (arith, ap length o.1)

pub prefix_shrinks : (ts : List Lexeme) (x : Next _) → prefix_at ts ≡ Some x → length ts ≡ length x.behind + 1
prefix_shrinks ts x h = let o = prefix_some ts x h in omega (arith, ap length o.1)

mutual
  pub same_reads : (n m : ℕ) (l : Level) (d : ℕ) (ts : List Lexeme) (p : ℕ) → room l ts ≤ n → room l ts ≤ m → reads n l d ts p ≡ reads m l d ts p
  same_reads (suc n) (suc m) Whole d ts p h k =
      bind_same _ _ _ _
      (same_reads n m (Joined tier.Or) d ts p (omega arith) (omega arith))
      (λ a e. let s = shrinks n (Joined tier.Or) d ts p a e in same_picks n m a.tree d a.rest a.left (omega arith) (omega arith))
  same_reads (suc n) (suc m) (Joined t) d ts p h k =
      let r = room_tighter t ts in let least = room_least (Joined t) ts in
      bind_same _ _ _ _
      (same_reads n m (tighter t) d ts p (omega arith) (omega arith))
      (λ a e. let s = shrinks n (tighter t) d ts p a e in same_joins n m t a.tree d a.rest a.left (omega arith) (omega arith))
  same_reads (suc n) (suc m) Negation d ts p h k =
      choose_same (after tok.Not ts) _ _ _ _ (same_reads n m Comparison d ts p (omega arith) (omega arith))
      (λ us e. let s = after_shrinks tok.Not ts us e in same_negates n m d us p (omega arith) (omega arith))
  same_reads (suc n) (suc m) Comparison d ts p h k =
      bind_same _ _ _ _
      (same_reads n m (Joined tier.BitOr) d ts p (omega arith) (omega arith))
      (λ a e. let s = shrinks n (Joined tier.BitOr) d ts p a e in same_compares n m a.tree d a.rest a.left (omega arith) (omega arith))
  same_reads (suc n) (suc m) Prefix d ts p h k =
      choose_same (prefix_at ts) _ _ _ _
      (same_reads n m Postfix d ts p (omega arith) (omega arith))
      (λ x e. let s = prefix_shrinks ts x e in same_prefixes n m x.what d x.behind p (omega arith) (omega arith))
  same_reads (suc n) (suc m) Postfix d ts p h k =
      bind_same _ _ _ _ (same_reads n m Primary d ts p (omega arith) (omega arith))
      (λ a e. let s = shrinks n Primary d ts p a e in same_goes_on n m a.tree d a.rest a.left (omega arith) (omega arith))
  same_reads (suc n) (suc m) Primary d [] p h k = refl
  same_reads (suc n) (suc m) Primary d (constant c ∷ ts) p h k = refl
  same_reads (suc n) (suc m) Primary d (word w ∷ ts) p h k = refl
  same_reads (suc n) (suc m) Primary d (symbol s ∷ ts) p h k =
      bind_same (after tok.OpenParenthesis (symbol s ∷ ts)) _ _ _ refl
      (λ us e. let t = after_shrinks tok.OpenParenthesis (symbol s ∷ ts) us e in same_groups n m d us p (omega arith) (omega arith))
  same_reads _ _ l d ts p h k = absurd (omega (arith, h, k, room_least l ts))

  pub same_picks : (n m : ℕ) (e : Tree) (d : ℕ) (ts : List Lexeme) (p : ℕ) → wide ts ≤ n → wide ts ≤ m → picks n e d ts p ≡ picks m e d ts p
  same_picks (suc n) (suc m) e d ts p h k =
      choose_same (after tok.Question ts) _ _ _ _ refl
      (λ us i. let s = after_shrinks tok.Question ts us i in same_arms n m e d us p (omega arith) (omega arith))
  same_picks _ _ e d ts p h k = absurd (omega arith)

  pub same_arms : (n m : ℕ) (e : Tree) (d : ℕ) (ts : List Lexeme) (p : ℕ) → wide ts ≤ n → wide ts ≤ m → arms n e d ts p ≡ arms m e d ts p
  same_arms (suc n) (suc m) e d ts p h k =
      spend_same d _ _ (λ d. spend_same p _ _ (λ p.
      bind_same _ _ _
      _
      (same_reads n m Whole d ts p (omega arith) (omega arith))
      (λ a i. let s = shrinks n Whole d ts p a i in
      bind_same (after tok.Colon a.rest) _ _
      _ refl
      (λ us j. let t = after_shrinks tok.Colon a.rest us j in rw (same_reads n m Whole d us a.left (omega arith) (omega arith))))))
  same_arms _ _ e d ts p h k = absurd (omega arith)

  pub same_joins : (n m : ℕ) (k : Precedence) (e : Tree) (d : ℕ) (ts : List Lexeme) (p : ℕ) → wide ts ≤ n → wide ts ≤ m
      → joins n k e d ts p ≡ joins m k e d ts p
  same_joins (suc n) (suc m) t e d ts p h k =
      choose_same (operator_at t ts) _ _ _
      _ refl
      (λ x i. let s = operator_shrinks t ts x i in let r = room_most (tighter t) x.behind in
      spend_same p _ _ (λ p. bind_same _ _ _
      _ (same_reads n m (tighter t) d x.behind p (omega arith) (omega arith))
      (λ a j. let u = shrinks n (tighter t) d x.behind p a j in same_joins n m t (join_tree x.what e a.tree) d a.rest a.left (omega arith) (omega arith))))
  same_joins _ _ t e d ts p h k = absurd (omega arith)

  pub same_negates : (n m : ℕ) (d : ℕ) (ts : List Lexeme) (p : ℕ) → wide ts ≤ n → wide ts ≤ m → negates n d ts p ≡ negates m d ts p
  same_negates (suc n) (suc m) d ts p h k =
      spend_same d _ _ (λ d. spend_same p _ _
      (λ p. rw (same_reads n m Negation d ts p (omega arith) (omega arith))))
  same_negates _ _ d ts p h k = absurd (omega arith)

  pub same_compares : (n m : ℕ) (e : Tree) (d : ℕ) (ts : List Lexeme) (p : ℕ) → wide ts ≤ n → wide ts ≤ m → compares n e d ts p ≡ compares m e d ts p
  same_compares (suc n) (suc m) e d ts p h k =
      choose_same (comparison_at ts) _ _ _
      _ refl
      (λ x i. let s = comparison_shrinks ts x i in
      spend_same p _ _ (λ p. rw (same_reads n m (Joined tier.BitOr) d x.behind p (omega arith) (omega arith))))
  same_compares _ _ e d ts p h k = absurd (omega arith)

  pub same_prefixes : (n m : ℕ) (op : UnaryOperator) (d : ℕ) (ts : List Lexeme) (p : ℕ) → wide ts ≤ n → wide ts ≤ m
      → prefixes n op d ts p ≡ prefixes m op d ts p
  same_prefixes (suc n) (suc m) op d ts p h k =
      spend_same d _ _ (λ d. spend_same p _ _
      (λ p. rw (same_reads n m Prefix d ts p (omega arith) (omega arith))))
  same_prefixes _ _ op d ts p h k = absurd (omega arith)

  pub same_goes_on : (n m : ℕ) (e : Tree) (d : ℕ) (ts : List Lexeme) (p : ℕ) → wide ts ≤ n → wide ts ≤ m → goes_on n e d ts p ≡ goes_on m e d ts p
  same_goes_on (suc n) (suc m) e d ts p h k =
      choose_same (after tok.Dot ts) _ _ _
      _
      (choose_same (after tok.OpenBracket ts) _ _ _
      _ refl
      (λ us i. let s = after_shrinks tok.OpenBracket ts us i in
      bind_same _ _ _ _ (same_places n m e d us p (omega arith) (omega arith))
      (λ a j. let t = places_shrinks n e d us p a j in same_goes_on n m a.tree d a.rest a.left (omega arith) (omega arith))))
      (λ us i. let s = after_shrinks tok.Dot ts us i in
      bind_same _ _ _ _ (same_selects n m e d us p (omega arith) (omega arith))
      (λ a j. let t = selects_shrinks n e d us p a j in same_goes_on n m a.tree d a.rest a.left (omega arith) (omega arith)))
  same_goes_on _ _ e d ts p h k = absurd (omega arith)

  pub same_places : (n m : ℕ) (e : Tree) (d : ℕ) (ts : List Lexeme) (p : ℕ) → wide ts ≤ n → wide ts ≤ m → places n e d ts p ≡ places m e d ts p
  same_places (suc n) (suc m) e d ts p h k =
      spend_same d _ _ (λ d. spend_same p _ _
      (λ p. rw (same_reads n m Whole d ts p (omega arith) (omega arith))))
  same_places _ _ e d ts p h k = absurd (omega arith)

  pub same_selects : (n m : ℕ) (e : Tree) (d : ℕ) (ts : List Lexeme) (p : ℕ) → wide ts ≤ n → wide ts ≤ m → selects n e d ts p ≡ selects m e d ts p
  same_selects (suc n) (suc m) e d [] p h k = refl
  same_selects (suc n) (suc m) e d (constant c ∷ ts) p h k = refl
  same_selects (suc n) (suc m) e d (word w ∷ ts) p h k =
      spend_same p _ _ (λ p. choose_same (after tok.OpenParenthesis ts) _ _
      _
      _ refl
      (λ us i. let s = after_shrinks tok.OpenParenthesis ts us i in spend_same d _ _
      (λ d. rw (same_list n m d us p (omega arith) (omega arith)))))
  same_selects (suc n) (suc m) e d (symbol v ∷ ts) p h k = refl
  same_selects _ _ e d ts p h k = absurd (omega arith)

  pub same_groups : (n m : ℕ) (d : ℕ) (ts : List Lexeme) (p : ℕ) → wide ts ≤ n → wide ts ≤ m → groups n d ts p ≡ groups m d ts p
  same_groups (suc n) (suc m) d ts p h k =
      spend_same d _ _ (λ d. rw (same_reads n m Whole d ts p (omega arith) (omega arith)))
  same_groups _ _ d ts p h k = absurd (omega arith)

  pub same_list : (n m : ℕ) (d : ℕ) (ts : List Lexeme) (p : ℕ) → wide ts ≤ n → wide ts ≤ m → reads_list n d ts p ≡ reads_list m d ts p
  same_list (suc n) (suc m) d ts p h k = choose_same (after tok.CloseParenthesis ts) _ _ _
      _ (same_more n m d ts p (omega arith) (omega arith)) (λ us i. refl)
  same_list _ _ d ts p h k = absurd (omega arith)

  pub same_more : (n m : ℕ) (d : ℕ) (ts : List Lexeme) (p : ℕ) → 32 * length ts + 19 ≤ n → 32 * length ts + 19 ≤ m → reads_more n d ts p ≡ reads_more m d ts p
  same_more (suc n) (suc m) d ts p h k =
      bind_same _ _ _
      _
      (same_reads n m Whole d ts p (omega arith) (omega arith))
      (λ a i. let s = shrinks n Whole d ts p a i in
      choose_same (after tok.Comma a.rest) _ _ _
      _ refl
      (λ us j. let t = after_shrinks tok.Comma a.rest us j in rw (same_more n m d us a.left (omega arith) (omega arith))))
  same_more _ _ d ts p h k = absurd (omega arith)
