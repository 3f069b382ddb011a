-- What is spelled so is read, whatever follows that doesn't go on with it.
use Rattle.ksv_expr_syntax.proofs.Common.{◌≡◌, ℕ, suc, ◌+◌, ◌<◌, ◌≤◌, List, [], ◌∷◌, ◌++◌, length, Option, None, refl, ap, ◌∙◌}
use Rattle.ksv_expr_syntax.proofs.Common.{append_assoc, arith, if◌then◌else◌, Symbol, Precedence, Tree}
use Rattle.ksv_expr_syntax.proofs.Common.{Arguments, operator, comparison, prefix, Lexeme}
use Rattle.ksv_expr_syntax.proofs.Common.{word, symbol, parts, all_parts, Level, Joined, Postfix, Primary}
use Rattle.ksv_expr_syntax.proofs.Common.{tighter, is_left_out, path_tokens, Spells, pick, no_pick, join, no_join, negation}
use Rattle.ksv_expr_syntax.proofs.Common.{no_negation, compare, no_compare, prefixed, no_prefix, selected, called, converted, indexed, no_postfix}
use Rattle.ksv_expr_syntax.proofs.Common.{literal_alone, name_alone, enum_member, group, Found, found, found_list, next, ◌>>=◌, spend}
use Rattle.ksv_expr_syntax.proofs.Common.{after, operator_at, comparison_at, prefix_at, path_at, path_on, path_tree, all_but_last, last_name, read, read_list}
use Rattle.ksv_expr_syntax.specs.declared.token.Symbol.TheVariants as tok
use Rattle.ksv_expr_syntax.specs.declared.token.Precedence.TheVariants as tier
use Rattle.ksv_expr_tree.specs.Tree.{member}
use Rattle.ksv_expr_syntax.specs.Grammar.{SpellsArguments, empty, listed, SpellsList, last_one, one_more}
use Rattle.ksv_expr_syntax.proofs.Steps.{after_some, by_option}
use Rattle.ksv_expr_syntax.proofs.Loops.{path_on_is, read_path}
use Rattle.ksv_expr_syntax.proofs.Symbols.{rank, strength, opening, operator_strength, comparison_strength, prefix_opening}
use Rattle.ksv_expr_syntax.proofs.Sound.{parts_join, parts_name, parts_select}
use Rattle.ksv_expr_syntax.proofs.Flow.{join_on, suffix_on, more_on, read_whole, pick_on_is, arm_on_is, read_joined, join_on_is}
use Rattle.ksv_expr_syntax.proofs.Flow.{read_negation, negate_on_is, read_comparison, compare_on_is, read_prefix, prefix_on_is, read_postfix, suffix_on_is}
use Rattle.ksv_expr_syntax.proofs.Flow.{place_on_is, select_word, select_symbol, primary_constant, primary_word, primary_symbol, group_on_is, read_list_is}
use Rattle.ksv_expr_syntax.proofs.Flow.{more_on_is}

-- the tokens begin with none that goes on with a level this tight
abbrev pub Stops : ℕ → List Lexeme → Type 0
Stops r [] = Unit {0}
Stops r (v ∷ ts) = strength v < r

stops_more : (r s : ℕ) (ts : List Lexeme) → r ≤ s → Stops r ts → Stops s ts
stops_more r s [] h k = tt
stops_more r s (v ∷ ts) h k = omega arith

-- the tokens begin with one that begins this level
abbrev pub Begins : ℕ → List Lexeme → Type 0
Begins r [] = ⊥
Begins r (v ∷ ts) = r ≤ opening v

begins_looser : (r s : ℕ) (ts : List Lexeme) → r ≤ s → Begins s ts → Begins r ts
begins_looser r s [] h b = b
begins_looser r s (v ∷ ts) h b = omega arith

begins_append : (r : ℕ) (xs ys : List Lexeme) → Begins r xs → Begins r (xs ++ ys)
begins_append r [] ys b = absurd b
begins_append r (v ∷ xs) ys b = b

begins_cut : (r s : ℕ) {ts : List Lexeme} (xs ys : List Lexeme) → ts ≡ xs ++ ys → r ≤ s → Begins s xs → Begins r ts
begins_cut r s xs ys e h b = rw e (begins_append r xs ys (begins_looser r s xs h b))

-- ---- what isn't there

-- a symbol that goes on with a level doesn't stand where this level stops
no_after : (s : Symbol) (r : ℕ) (ts : List Lexeme) → r ≤ strength (symbol s) → Stops r ts → after s ts ≡ None
no_after s r ts h k = by_option (after s ts) (λ e. e) (λ us e. let i : Stops r (symbol s ∷ us) = rw (after_some s ts us e) at k in absurd (omega (arith, i, h)))

-- a symbol that begins no level as tight doesn't stand where this level begins
not_begun : (s : Symbol) (r : ℕ) (ts us : List Lexeme) → opening (symbol s) < r → Begins r ts → after s (ts ++ us) ≡ None
not_begun s r [] us h b = absurd b
not_begun s r (v ∷ ts) us h b = by_option (after s (v ∷ (ts ++ us))) (λ e. e)
    (λ vs e. let i : v ≡ symbol s = (let j = after_some s (v ∷ (ts ++ us)) vs e in cc) in absurd (omega (arith, h, b, ap opening i)))

no_operator : (k : Precedence) (ts : List Lexeme) → Stops (rank (Joined k)) ts → operator_at k ts ≡ None
no_operator k [] h = refl
no_operator k (v ∷ ts) h = by_option (operator k v) (λ e. rw e) (λ op e. absurd (omega (arith, h, operator_strength k v op e)))

no_comparison : (ts : List Lexeme) → Stops 5 ts → comparison_at ts ≡ None
no_comparison [] h = refl
no_comparison (v ∷ ts) h = by_option (comparison v) (λ e. rw e) (λ op e. absurd (omega (arith, h, comparison_strength v op e)))

not_prefixed : (ts us : List Lexeme) → Begins 13 ts → prefix_at (ts ++ us) ≡ None
not_prefixed [] us h = absurd h
not_prefixed (v ∷ ts) us h = by_option (prefix v) (λ e. rw e) (λ op e. absurd (omega (arith, h, prefix_opening v op e)))

-- ---- names with `::` between them

path_alone : (w : List ℕ) (rest : List Lexeme) → Stops 14 rest → path_on w rest ≡ next (w ∷ []) rest
path_alone w rest h = path_on_is w rest ∙ rw (no_after tok.ColonColon 14 rest (omega arith) h)

pub path_read : (w : List ℕ) (ws : List (List ℕ)) (rest : List Lexeme) → Stops 14 rest → path_at (path_tokens (w ∷ ws) ++ rest) ≡ next (w ∷ ws) rest
path_read w ws rest h = read_path w ws rest (no_after tok.ColonColon 14 rest (omega arith) h)

names_back : (ws : List (List ℕ)) (m : List ℕ) → all_but_last (ws ++ m ∷ []) ≡ ws
names_back [] m = refl
names_back (w ∷ []) m = refl
names_back (w ∷ v ∷ ws) m = ap (λ ws. w ∷ ws) (names_back (v ∷ ws) m)

last_back : (ws : List (List ℕ)) (m : List ℕ) → last_name (ws ++ m ∷ []) ≡ m
last_back [] m = refl
last_back (w ∷ []) m = refl
last_back (w ∷ v ∷ ws) m = last_back (v ∷ ws) m

pub path_tree_is : (ws : List (List ℕ)) (m : List ℕ) → 0 < length ws → path_tree (ws ++ m ∷ []) ≡ member (record { path = ws; name = m; given = None })
path_tree_is [] m h = absurd (omega arith)
path_tree_is (w ∷ []) m h = refl
path_tree_is (w ∷ v ∷ ws) m h = ap (λ (x : List (List ℕ) × List ℕ). member (record { path = w ∷ x.0; name = x.1; given = None }))
    (λ i. (names_back (v ∷ ws) m i, last_back (v ∷ ws) m i))

-- ---- what a derivation says of reading

-- the level whose reading must stop at the rest, for a level's own loop to begin there
abbrev below : Level → ℕ
below (Joined k) = rank (tighter k)
below Postfix = 14
below l = rank l

-- what a level's reading does once it has a tree
abbrev go : Level → Tree → ℕ → List Lexeme → ℕ → Option Found
go (Joined k) e d ts p = join_on k e d ts p
go Postfix e d ts p = suffix_on e d ts p
go l e d ts p = found e ts p

-- the tokens of a level are read as its tree, and then its own loop begins
pub record Goal (l : Level) (d : ℕ) (front : List Lexeme) (e : Tree) : Type 0 where
  pub begins : Begins (rank l) front
  pub step : (rest : List Lexeme) (p q : ℕ) → q ≡ parts e + p → Stops (below l) rest → read l d (front ++ rest) q ≡ go l e d rest p

-- the tokens of arguments are read as these, up to the closing parenthesis
pub record GoalList (d : ℕ) (front : List Lexeme) (es : Arguments) : Type 0 where
  pub step : (rest : List Lexeme) (p q : ℕ) → q ≡ all_parts es + p → read_list d (front ++ symbol tok.CloseParenthesis ∷ rest) q ≡ found_list es rest p

pub record GoalMore (d : ℕ) (front : List Lexeme) (es : Arguments) : Type 0 where
  pub begins : Begins 1 front
  pub step : (rest : List Lexeme) (p q : ℕ) → q ≡ all_parts es + p → more_on d (front ++ symbol tok.CloseParenthesis ∷ rest) q ≡ found_list es rest p

go_stops : (l : Level) (e : Tree) (d : ℕ) (ts : List Lexeme) (p : ℕ) → Stops (rank l) ts → go l e d ts p ≡ found e ts p
go_stops (Joined k) e d ts p h = rw (join_on_is, no_operator k ts h)
go_stops Postfix e d ts p h = rw (suffix_on_is, no_after tok.Dot 13 ts (omega arith) h, no_after tok.OpenBracket 13 ts (omega arith) h)
go_stops _ e d ts p h = refl

rank_tighter : (k : Precedence) → rank (tighter k) ≡ rank (Joined k) + 1
rank_tighter tier.Or = refl
rank_tighter _ = refl

rank_below : (l : Level) → rank l ≤ below l
rank_below (Joined k) = omega (arith, rank_tighter k)
rank_below _ = omega arith

-- the reading of a level with its own loop over
pub whole : {l : Level} {d : ℕ} {front : List Lexeme} {e : Tree} → Goal l d front e → (rest : List Lexeme) (p q : ℕ) → q ≡ parts e + p → Stops (rank l) rest
    → read l d (front ++ rest) q ≡ found e rest p
whole {l} {d} {e = e} g rest p q h s = g.step rest p q h (stops_more (rank l) (below l) rest (rank_below l) s) ∙ go_stops l e d rest p s

path_begins : (w : List ℕ) (ws : List (List ℕ)) → Begins 14 (path_tokens (w ∷ ws))
path_begins w [] = omega arith
path_begins w (v ∷ ws) = omega arith

primary_path : (w : List ℕ) (ws : List (List ℕ)) (rest : List Lexeme) (d p : ℕ) → read Primary d (path_tokens (w ∷ ws) ++ rest) p
    ≡ (if is_left_out w then None else (path_at (path_tokens (w ∷ ws) ++ rest) >>= λ x. spend p (λ p. found (path_tree x.what) x.behind p)))
primary_path w [] rest d p = primary_word d w rest p
primary_path w (v ∷ ws) rest d p = primary_word d w (symbol tok.ColonColon ∷ (path_tokens (v ∷ ws) ++ rest)) p

mutual
  pub goal : {d : ℕ} {l : Level} {ts : List Lexeme} {e : Tree} → Spells d l ts e → Goal l d ts e
  goal (pick {b = b} {c = c} xs ys zs is x y z) =
      let gx = goal x in
      let gy = goal y in
      let gz = goal z in
      record {
        begins = begins_cut 1 2 xs _ is (omega arith) gx.begins;
        step = λ rest p q h s. rw (
          is,
          append_assoc,
          append_assoc,
          read_whole,
          whole gx (symbol tok.Question ∷ (ys ++ symbol tok.Colon ∷ (zs ++ rest))) (suc (parts b + (parts c + p))) q (omega (arith, h)) (omega arith),
          pick_on_is,
          arm_on_is,
          whole gy (symbol tok.Colon ∷ (zs ++ rest)) (parts c + p) (parts b + (parts c + p)) refl (omega arith),
          whole gz rest p (parts c + p) refl s,
        );
      }
  goal (no_pick {ts = ts} x) =
      let g = goal x in
      record {
        begins = begins_looser 1 2 ts (omega arith) g.begins;
        step = λ rest p q h s.
            rw (read_whole, whole g rest p q h (stops_more 1 2 rest (omega arith) s), pick_on_is, no_after tok.Question 1 rest (omega arith) s);
      }
  goal (join {k = k} {op = op} {a = a} {b = b} xs v ys o is x y) =
      let gx = goal x in
      let gy = goal y in
      record {
        begins = begins_cut (rank (Joined k)) (rank (Joined k)) xs (v ∷ ys) is (omega arith) gx.begins;
        step = λ rest p q h s. rw (
          is,
          append_assoc,
          gx.step (v ∷ (ys ++ rest)) (suc (parts b + p)) q (omega (arith, h, parts_join op a b)) (omega (arith, operator_strength k v op o, rank_tighter k)),
          join_on_is,
          o,
          whole gy rest p (parts b + p) refl s,
        );
      }
  goal (no_join {k = k} {ts = ts} x) =
      let g = goal x in
      record {
        begins = begins_looser (rank (Joined k)) (rank (tighter k)) ts (omega (arith, rank_tighter k)) g.begins;
        step = λ rest p q h s. rw (read_joined, whole g rest p q h s);
      }
  goal (negation {e = e} x) =
      let g = goal x in
      record {
        begins = omega arith;
        step = λ rest p q h s.
            let k : q ≡ suc (parts e + p) = omega (arith, h) in rw (k, read_negation, negate_on_is, whole g rest p (parts e + p) refl s);
      }
  goal (no_negation {ts = ts} x) =
      let g = goal x in
      record {
        begins = begins_looser 4 5 ts (omega arith) g.begins;
        step = λ rest p q h s. rw (read_negation, not_begun tok.Not 5 ts rest (omega arith) g.begins) (whole g rest p q h (stops_more 4 5 rest (omega arith)
            s));
      }
  goal (compare {op = op} {b = b} xs v ys o is x y) =
      let gx = goal x in
      let gy = goal y in
      record {
        begins = begins_cut 5 6 xs (v ∷ ys) is (omega arith) gx.begins;
        step = λ rest p q h s. rw (
          is,
          append_assoc,
          read_comparison,
          whole gx (v ∷ (ys ++ rest)) (suc (parts b + p)) q (omega (arith, h)) (omega (arith, comparison_strength v op o)),
          compare_on_is,
          o,
          whole gy rest p (parts b + p) refl (stops_more 5 6 rest (omega arith) s),
        );
      }
  goal (no_compare {ts = ts} x) =
      let g = goal x in
      record {
        begins = begins_looser 5 6 ts (omega arith) g.begins;
        step = λ rest p q h s. rw (read_comparison, whole g rest p q h (stops_more 5 6 rest (omega arith) s), compare_on_is, no_comparison rest s);
      }
  goal (prefixed {op = op} {e = e} v o x) =
      let g = goal x in
      record {
        begins = omega (arith, prefix_opening v op o);
        step = λ rest p q h s.
            let k : q ≡ suc (parts e + p) = omega (arith, h) in rw (k, read_prefix, o, prefix_on_is, whole g rest p (parts e + p) refl s);
      }
  goal (no_prefix {ts = ts} x) =
      let g = goal x in
      record {
        begins = begins_looser 12 13 ts (omega arith) g.begins;
        step = λ rest p q h s. rw (read_prefix, not_prefixed ts rest g.begins) (whole g rest p q h (stops_more 12 13 rest (omega arith) s));
      }
  goal (selected {e = e} xs w is x) =
      let g = goal x in
      record {
        begins = begins_cut 13 13 xs _ is (omega arith) g.begins;
        step = λ rest p q h s. rw (
          is,
          append_assoc,
          g.step (symbol tok.Dot ∷ word w ∷ rest) (suc p) q (omega (arith, h, parts_select e w)) (omega arith),
          suffix_on_is,
          select_word,
          no_after tok.OpenParenthesis 14 rest (omega arith) s,
        );
      }
  goal (called {es = es} xs w ys is x y) =
      let g = goal x in
      let gs = goal_arguments y in
      record {
        begins = begins_cut 13 13 xs _ is (omega arith) g.begins;
        step = λ rest p q h s.
            let us : List Lexeme = symbol tok.Dot ∷ word w ∷ symbol tok.OpenParenthesis ∷ (ys ++ symbol tok.CloseParenthesis ∷ rest) in rw (
              is,
              append_assoc,
              append_assoc,
              g.step us (suc (all_parts es + p)) q (omega (arith, h)) (omega arith),
              suffix_on_is,
              select_word,
              gs.step rest p (all_parts es + p) refl,
            );
      }
  goal (converted xs [] l is x) = absurd (omega arith)
  goal (converted xs (w ∷ ws) l is x) =
      let g = goal x in
      record {
        begins = begins_cut 13 13 xs _ is (omega arith) g.begins;
        step = λ rest p q h s.
            let us : List Lexeme = symbol tok.Dot ∷ symbol tok.As ∷ symbol tok.Less ∷ (path_tokens (w ∷ ws) ++ symbol tok.Greater ∷ rest) in rw (
              is,
              append_assoc,
              append_assoc,
              g.step us (suc p) q (omega (arith, h)) (omega arith),
              suffix_on_is,
              select_symbol,
              path_read w ws (symbol tok.Greater ∷ rest) (omega arith),
            );
      }
  goal (indexed {i = i} xs ys is x y) =
      let gx = goal x in
      let gy = goal y in
      record {
        begins = begins_cut 13 13 xs _ is (omega arith) gx.begins;
        step = λ rest p q h s. rw (
          is,
          append_assoc,
          append_assoc,
          gx.step (symbol tok.OpenBracket ∷ (ys ++ symbol tok.CloseBracket ∷ rest)) (suc (parts i + p)) q (omega (arith, h)) (omega arith),
          suffix_on_is,
          place_on_is,
          whole gy (symbol tok.CloseBracket ∷ rest) p (parts i + p) refl (omega arith),
        );
      }
  goal (no_postfix {ts = ts} x) =
      let g = goal x in
      record { begins = begins_looser 13 14 ts (omega arith) g.begins; step = λ rest p q h s. rw (read_postfix, whole g rest p q h s) }
  goal literal_alone = record { begins = omega arith; step = λ rest p q h s. let k : q ≡ suc p = omega (arith, h) in rw (k, primary_constant) }
  goal (name_alone w o) = record {
    begins = omega arith;
    step = λ rest p q h s. let k : q ≡ suc p = omega (arith, h, parts_name w) in rw (k, primary_word, o, path_alone w rest s);
  }
  goal (enum_member w ws m o is) = record {
    begins = rw is (path_begins w (ws ++ m ∷ []));
    step = λ rest p q h s.
        let k : q ≡ suc p = omega (arith, h) in
        rw (k, is, primary_path w (ws ++ m ∷ []), o, path_read w (ws ++ m ∷ []) rest s, path_tree_is (w ∷ ws) m (omega arith));
  }
  goal (group xs is x) =
      let g = goal x in
      record {
        begins = rw is (omega arith);
        step = λ rest p q h s.
            rw (is, append_assoc, primary_symbol, group_on_is, whole g (symbol tok.CloseParenthesis ∷ rest) p q h (omega arith));
      }

  pub goal_arguments : {d : ℕ} {ts : List Lexeme} {es : Arguments} → SpellsArguments d ts es → GoalList d ts es
  goal_arguments empty = record { step = λ rest p q h. let k : q ≡ p = omega (arith, h) in rw (k, read_list_is) }
  goal_arguments (listed {ts = ts} x) =
      let g = goal_more x in
      record {
        step = λ rest p q h.
            rw (read_list_is, not_begun tok.CloseParenthesis 1 ts (symbol tok.CloseParenthesis ∷ rest) (omega arith) g.begins) (g.step rest p q h);
      }

  pub goal_more : {d : ℕ} {ts : List Lexeme} {es : Arguments} → SpellsList d ts es → GoalMore d ts es
  goal_more (last_one x) =
      let g = goal x in
      record { begins = g.begins; step = λ rest p q h. rw (more_on_is, whole g (symbol tok.CloseParenthesis ∷ rest) p q (omega (arith, h)) (omega arith)) }
  goal_more (one_more {es = es} xs ys is x y) =
      let g = goal x in
      let gs = goal_more y in
      record {
        begins = begins_cut 1 1 xs (symbol tok.Comma ∷ ys) is (omega arith) g.begins;
        step = λ rest p q h.
            let us : List Lexeme = symbol tok.Comma ∷ (ys ++ symbol tok.CloseParenthesis ∷ rest) in
            rw (is, append_assoc, more_on_is, whole g us (all_parts es + p) q (omega (arith, h)) (omega arith), gs.step rest p (all_parts es + p) refl);
      }
