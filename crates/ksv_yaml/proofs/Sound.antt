-- What is read is spelled so.
use Rattle.ksv_yaml.proofs.Common.{◌≡◌, ℕ, zero, suc, ◌≤◌, ◌<◌, Bool, true, false, cond, List, [], ◌∷◌, ◌++◌, length, Option, Some, None, refl, sym, ap, subst}
use Rattle.ksv_yaml.proofs.Common.{arith, ◌⊎◌, inl, inr, ◌==◌, ◌&&◌, nat_lt, Tree, Text, Seq, Items, no_items, item, Entries, no_entries, entry, AreQuiet}
use Rattle.ksv_yaml.proofs.Common.{at_column, from_here, Node, is_among, inlined, unless_level, node, node_by, entries, entries_by, more_entries, value}
use Rattle.ksv_yaml.proofs.Common.{value_below, value_here, items, items_by, more_items, item_at, item_below, Got, got, Line, shown, loud, InlineKind}
use Rattle.ksv_yaml.proofs.Common.{Dashed, Start, Nothing, Dash, start_of, is_dash, is_key}
use Rattle.std.proofs.lemmas.Bool.{eqb-true, ltb-true, and_parts}
use Rattle.ksv_yaml.specs.Grammar.{map, seq, inline, Mapping, last, more, Value, empty, below, level, here, Sequence, only, then, Item, none, under, compact}
use Rattle.ksv_yaml.specs.Grammar.{tabbed}
use Rattle.ksv_yaml_scan.specs.Lines.{columns, has_tab, white_or_end}
use Rattle.ksv_yaml_scan.specs.Starts.{Key, Inline, Refused, dash_of, key_of}
use Rattle.ksv_yaml.proofs.Steps.{bind_some, with_bind, with_deeper, got_is, Took, took_as, took_then, took_first, loud_took}
use Rattle.ksv_yaml_scan.proofs.Choices.{picked, pick_guard}
use Rattle.ksv_yaml.proofs.Distinct.{AreClear, clear_distinct}
use Rattle.ksv_yaml_scan.proofs.Starts.{start_dash, start_key, start_inline}
use Rattle.ksv_yaml.proofs.InlineSound.{inlined_sound}

-- nothing, or more of a block
pub record NoMore {A : Type 0} (none : A) (ls : List Line) (x : Got Line A) : Type 0 where
  pub value : x.value ≡ none
  pub rest : x.rest ≡ ls

abbrev pub Fine : ℕ → ℕ → List (List ℕ) → Line → List Line → Got Line Entries → Type 0
Fine d m seen l ls x = Took Line ls x.rest (λ xs. Mapping d m (l ∷ xs) x.value) × AreClear seen x.value

abbrev pub FineMore : ℕ → ℕ → List (List ℕ) → List Line → Got Line Entries → Type 0
FineMore d m seen ls x = NoMore no_entries ls x ⊎ (Took Line ls x.rest (λ xs. Mapping d m xs x.value) × AreClear seen x.value)

abbrev pub MoreItems : ℕ → ℕ → List Line → Got Line Items → Type 0
MoreItems d m ls x = NoMore no_items ls x ⊎ Took Line ls x.rest (λ xs. Sequence d m xs x.value)

-- a first entry, and what more there is
entries_join : {d m : ℕ} (seen : List (List ℕ)) {l : Line} {ls : List Line} {key rest : List ℕ} {v : Got Line Tree} (es : Got Line Entries) → l.indent ≡ m
    → key_of l.content ≡ Some (key, rest) → is_among key seen ≡ false → Took Line ls v.rest (λ xs. Value d l rest xs v.value)
    → FineMore d m (seen ++ key ∷ []) v.rest es → Fine d m seen l ls (record { value = entry l.number key v.value es.value; rest = es.rest })
entries_join {d} {m} seen {l} {ls} {key} {rest} {v} es em ek ec t (inl n) = (
  subst (λ (r : List Line). Took Line ls r (λ xs. Mapping d m (l ∷ xs) (entry l.number key v.value es.value))) (sym n.rest)
      (took_as _ (λ xs w. subst (λ (es : Entries). Mapping d m (l ∷ xs) (entry l.number key v.value es)) (sym n.value) (last em ek w)) t),
  (ec, subst (λ (es : Entries). AreClear (seen ++ key ∷ []) es) (sym n.value) tt),
)
entries_join seen es em ek ec t (inr n) = (took_then _ t n.0 (more t.front n.0.front em refl ek t.is n.0.is), (ec, n.1))

items_join : {d m : ℕ} {l : Line} {ls : List Line} {k : Dashed} {v : Got Line Tree} (is : Got Line Items) → l.indent ≡ m → dash_of l.content ≡ Some k
    → Took Line ls v.rest (λ xs. Item d l k.columns k.tab k.behind xs v.value) → MoreItems d m v.rest is
    → Took Line ls is.rest (λ xs. Sequence d m (l ∷ xs) (item v.value is.value))
items_join {d} {m} {l} {ls} {v = v} is em ek t (inl n) =
    subst (λ (r : List Line). Took Line ls r (λ xs. Sequence d m (l ∷ xs) (item v.value is.value))) (sym n.rest)
    (took_as _ (λ xs w. subst (λ (is : Items). Sequence d m (l ∷ xs) (item v.value is)) (sym n.value) (only em ek w)) t)
items_join is em ek t (inr n) = took_then _ t n (then t.front n.front em refl ek t.is n.is)

level_some : {A : Type 0} (m : ℕ) (ls : List Line) (o : Option A) (x : A) → unless_level m ls o ≡ Some x → o ≡ Some x
level_some m [] o x h = h
level_some m (l ∷ ls) o x h = elim (picked (nat_lt l.indent m) _ _ _ h) [ inl a ↦ a.1 | inr a ↦ absurd cc ]

here_some : (b : Start) (d : ℕ) (l : Line) (cs : List ℕ) (ls : List Line) (x : Got Line Tree) → value_here b d l cs ls ≡ Some x
    → (k : InlineKind) × (b ≡ Inline k) × (inlined d (suc l.indent) k (from_here l cs) ls ≡ Some x)
here_some (Inline k) d l cs ls x h = (k, refl, h)
here_some b d l cs ls x h = absurd cc

-- ---- dashes

shown_short : (cs : List ℕ) → length (shown cs) ≤ length cs
shown_short [] = omega arith
shown_short (c ∷ cs) = short_step _ _ c cs (shown_short cs)
  where
    short_step : (b e : Bool) (c : ℕ) (cs : List ℕ) → length (shown cs) ≤ length cs → length (cond b (shown cs) (cond e [] (c ∷ cs))) ≤ suc (length cs)
    short_step true e c cs h = omega arith
    short_step false true c cs h = omega arith
    short_step false false c cs h = omega arith

-- a dash takes a column, and its line is longer than what comes after it
pub record IsDash (cs : List ℕ) (x : Dashed) : Type 0 where
  pub wide : 0 < x.columns
  pub short : length x.behind < length cs

dash_step : (b : Bool) (c : ℕ) (cs : List ℕ) (x : Dashed)
    → cond b (Some (record { columns = suc (columns cs); tab = has_tab cs; behind = shown cs })) None ≡ Some x → IsDash (c ∷ cs) x
dash_step false c cs x h = absurd cc
dash_step true c cs x h = subst (λ (x : Dashed). IsDash (c ∷ cs) x) (some_dash _ x h) (record { wide = omega arith; short = omega (arith, shown_short cs) })
  where
    some_dash : (x y : Dashed) → (let some : Dashed → Option Dashed = λ x. Some x in some x ≡ some y) → x ≡ y
    some_dash x y h = cc

pub dash_of_is : (cs : List ℕ) (x : Dashed) → dash_of cs ≡ Some x → IsDash cs x
dash_of_is [] x h = absurd cc
dash_of_is (c ∷ cs) x h = dash_step ((c == 45) && white_or_end cs) c cs x h

-- ---- blocks

mutual
  pub node_sound : (f d n : ℕ) (l : Line) (ls : List Line) (x : Got Line Tree) → n ≤ l.indent → node f d n l ls ≡ Some x
      → Took Line ls x.rest (λ xs. Node d n (l ∷ xs) x.value)
  node_sound zero d n l ls x s h = absurd cc
  node_sound (suc f) d n l ls x s h = node_by_sound f (start_of l.content) d n l ls x refl s h

  node_by_sound : (f : ℕ) (b : Start) (d n : ℕ) (l : Line) (ls : List Line) (x : Got Line Tree) → start_of l.content ≡ b → n ≤ l.indent
      → node_by f b d n l ls ≡ Some x → Took Line ls x.rest (λ xs. Node d n (l ∷ xs) x.value)
  node_by_sound zero b d n l ls x eb s h = absurd cc
  node_by_sound (suc f) (Dash y) d n l ls x eb s h =
      with_deeper d _ x h (λ m e h. with_bind (items f m l.indent l ls) _ x h (λ is i h.
      rw (e, ← (got_is (level_some l.indent is.rest (got (Seq l.number is.value) is.rest) x h)))
      (took_as _ (λ xs w. seq s w) (items_sound f m l.indent l ls is refl i))))
  node_by_sound (suc f) (Key key rest) d n l ls x eb s h =
      with_deeper d _ x h (λ m e h. with_bind (entries f m l.indent [] l ls) _ x h (λ es i h.
      let t = entries_sound f m l.indent [] l ls es refl i in
      rw (e, ← (got_is h)) (took_as _ (λ xs w. map s w (clear_distinct [] es.value t.1)) t.0)))
  node_by_sound (suc f) (Inline k) d n l ls x eb s h = took_as _ (λ xs w. inline s (start_inline l.content k eb) w) (inlined_sound d n k l ls x h)
  node_by_sound (suc f) Nothing d n l ls x eb s h = absurd cc
  node_by_sound (suc f) Refused d n l ls x eb s h = absurd cc

  entries_sound : (f d m : ℕ) (seen : List (List ℕ)) (l : Line) (ls : List Line) (x : Got Line Entries) → l.indent ≡ m → entries f d m seen l ls ≡ Some x
      → Fine d m seen l ls x
  entries_sound zero d m seen l ls x em h = absurd cc
  entries_sound (suc f) d m seen l ls x em h = entries_by_sound f (start_of l.content) d m seen l ls x refl em h

  entries_by_sound : (f : ℕ) (b : Start) (d m : ℕ) (seen : List (List ℕ)) (l : Line) (ls : List Line) (x : Got Line Entries) → start_of l.content ≡ b
      → l.indent ≡ m → entries_by f b d m seen l ls ≡ Some x → Fine d m seen l ls x
  entries_by_sound zero b d m seen l ls x eb em h = absurd cc
  entries_by_sound (suc f) (Key key rest) d m seen l ls x eb em h =
      let g = pick_guard (is_among key seen)
      _ x h in
      let v = bind_some (value f d l rest ls) _ x
      g.1 in
      let es = bind_some (more_entries f d m (seen ++ key ∷ []) v.0.rest) _ x v.2 in
      rw (← (got_is es.2))
      (entries_join seen es.0 em (start_key l.content key rest eb) g.0 (value_sound f d l rest ls v.0 v.1)
      (more_entries_sound f d m (seen ++ key ∷ []) v.0.rest es.0 es.1))
  entries_by_sound (suc f) b d m seen l ls x eb em h = absurd cc

  more_entries_sound : (f d m : ℕ) (seen : List (List ℕ)) (ls : List Line) (x : Got Line Entries) → more_entries f d m seen ls ≡ Some x → FineMore d m seen ls x
  more_entries_sound zero d m seen ls x h = absurd cc
  more_entries_sound (suc f) d m seen [] x h = inl (rw (← (got_is h)) (record { value = refl; rest = refl }))
  more_entries_sound (suc f) d m seen (l ∷ ls) x h =
      let on : Bool = (l.indent == m) && is_key (start_of l.content) in
      elim (picked (nat_lt l.indent m) _ _ _ h) [
        | inl a ↦ inl (rw (← (got_is a.1)) (record { value = refl; rest = refl }))
        | inr a ↦ elim (picked on _ _ _ a.1) [
          | inl b ↦ (let t = entries_sound f d m seen l ls x (eqb-true l.indent m (and_parts (l.indent == m) (is_key (start_of l.content)) b.0).0) b.1 in inr
              (took_first l _ (λ xs w. w) t.0, t.1))
          | inr b ↦ absurd cc
        ]
      ]

  value_sound : (f d : ℕ) (l : Line) (rest : List ℕ) (ls : List Line) (x : Got Line Tree) → value f d l rest ls ≡ Some x
      → Took Line ls x.rest (λ xs. Value d l rest xs x.value)
  value_sound zero d l rest ls x h = absurd cc
  value_sound (suc f) d l [] ls x h = value_below_sound f d l ls (loud ls) x (loud_took ls) h
  value_sound (suc f) d l (c ∷ cs) ls x h = let e =
      here_some (start_of (c ∷ cs)) d l (c ∷ cs) ls x h in took_as _ (λ xs w. here (start_inline (c ∷ cs) e.0 e.1) w)
      (inlined_sound d (suc l.indent) e.0 (from_here l (c ∷ cs)) ls x e.2)

  value_below_sound : (f d : ℕ) (l : Line) (ls us : List Line) (x : Got Line Tree) → Took Line ls us AreQuiet → value_below f d l us ≡ Some x
      → Took Line ls x.rest (λ xs. Value d l [] xs x.value)
  value_below_sound zero d l ls us x q h = absurd cc
  value_below_sound (suc f) d l ls [] x q h = rw (← (got_is h)) (took_as _ (λ xs a. empty a) q)
  value_below_sound (suc f) d l ls (h ∷ us) x q r =
      let stop : got (Text l.number false []) (h ∷ us) ≡ Some x
      → Took Line ls x.rest (λ xs. Value d l [] xs x.value) =
      λ e. rw (← (got_is e))
      (took_as _ (λ xs a. empty a) q) in
      elim (picked (nat_lt l.indent h.indent) _
      _ _ r) [
        | inl a ↦ (let t = took_first h (λ zs. Node d (suc l.indent) zs x.value) (λ xs w. w)
            (node_sound f d (suc l.indent) h us x (ltb-true l.indent h.indent a.0) a.1) in took_then _ q t (below q.front t.front refl q.is t.is))
        | inr a ↦ elim (picked ((h.indent == l.indent) && is_dash (start_of h.content)) _ _ _ a.1) [
          | inr b ↦ stop b.1
          | inl b ↦
              let em = eqb-true h.indent l.indent (and_parts (h.indent == l.indent) (is_dash (start_of h.content)) b.0).0 in
              with_deeper d _ x b.1 (λ m e r. with_bind (items f m l.indent h us) _ x r (λ is i r.
              let t = took_first h (λ zs. (ys : List Line) × (zs ≡ h ∷ ys) × Sequence m l.indent (h ∷ ys) is.value) (λ xs w. (xs, refl, w))
              (items_sound f m l.indent h us is em i) in
              rw (e, ← (got_is r)) (took_then _ q t (level q.front t.is.0 (ap (λ (r : List Line). q.front ++ r) t.is.1) q.is em t.is.2))))
        ]
      ]

  items_sound : (f d m : ℕ) (l : Line) (ls : List Line) (x : Got Line Items) → l.indent ≡ m → items f d m l ls ≡ Some x
      → Took Line ls x.rest (λ xs. Sequence d m (l ∷ xs) x.value)
  items_sound zero d m l ls x em h = absurd cc
  items_sound (suc f) d m l ls x em h = items_by_sound f (start_of l.content) d m l ls x refl em h

  items_by_sound : (f : ℕ) (b : Start) (d m : ℕ) (l : Line) (ls : List Line) (x : Got Line Items) → start_of l.content ≡ b → l.indent ≡ m
      → items_by f b d m l ls ≡ Some x → Took Line ls x.rest (λ xs. Sequence d m (l ∷ xs) x.value)
  items_by_sound zero b d m l ls x eb em h = absurd cc
  items_by_sound (suc f) (Dash k) d m l ls x eb em h =
      let v = bind_some (item_at f d l k.columns k.tab k.behind ls) _ x h in
      let is = bind_some (more_items f d m v.0.rest) _ x v.2 in
      rw (← (got_is is.2))
      (items_join is.0 em (start_dash l.content k eb)
      (item_at_sound f d l k.columns k.tab k.behind ls v.0 (dash_of_is l.content k (start_dash l.content k eb)).wide v.1)
      (more_items_sound f d m v.0.rest is.0 is.1))
  items_by_sound (suc f) b d m l ls x eb em h = absurd cc

  more_items_sound : (f d m : ℕ) (ls : List Line) (x : Got Line Items) → more_items f d m ls ≡ Some x → MoreItems d m ls x
  more_items_sound zero d m ls x h = absurd cc
  more_items_sound (suc f) d m [] x h = inl (rw (← (got_is h)) (record { value = refl; rest = refl }))
  more_items_sound (suc f) d m (l ∷ ls) x h =
      let stop : got no_items (l ∷ ls) ≡ Some x → MoreItems d m (l ∷ ls) x =
      λ e. inl (rw (← (got_is e)) (record { value = refl; rest = refl })) in
      elim (picked (nat_lt l.indent m) _ _ _ h) [
        | inl a ↦ stop a.1
        | inr a ↦ elim (picked (l.indent == m) _ _ _ a.1) [
          | inl b ↦ elim (picked (is_dash (start_of l.content)) _ _ _ b.1) [
            | inl c ↦ inr (took_first l _ (λ xs w. w) (items_sound f d m l ls x (eqb-true l.indent m b.0) c.1))
            | inr c ↦ stop c.1
          ]
          | inr b ↦ absurd cc
        ]
      ]

  item_at_sound : (f d : ℕ) (l : Line) (k : ℕ) (tab : Bool) (rest : List ℕ) (ls : List Line) (x : Got Line Tree) → 0 < k → item_at f d l k tab rest ls ≡ Some x
      → Took Line ls x.rest (λ xs. Item d l k tab rest xs x.value)
  item_at_sound zero d l k tab rest ls x p h = absurd cc
  item_at_sound (suc f) d l k tab [] ls x p h = item_below_sound f d l k tab ls (loud ls) x (loud_took ls) h
  item_at_sound (suc f) d l k false (c ∷ cs) ls x p h =
      took_as _ (λ xs w. compact w) (node_sound f d (suc l.indent) (at_column l k (c ∷ cs)) ls x (omega arith) h)
  item_at_sound (suc f) d l k true (c ∷ cs) ls x p h = let e =
      here_some (start_of (c ∷ cs)) d l (c ∷ cs) ls x h in took_as _ (λ xs w. tabbed (start_inline (c ∷ cs) e.0 e.1) w)
      (inlined_sound d (suc l.indent) e.0 (from_here l (c ∷ cs)) ls x e.2)

  item_below_sound : (f d : ℕ) (l : Line) (k : ℕ) (tab : Bool) (ls us : List Line) (x : Got Line Tree) → Took Line ls us AreQuiet → item_below f d l us ≡ Some x
      → Took Line ls x.rest (λ xs. Item d l k tab [] xs x.value)
  item_below_sound zero d l k tab ls us x q h = absurd cc
  item_below_sound (suc f) d l k tab ls [] x q h = rw (← (got_is h)) (took_as _ (λ xs a. none a) q)
  item_below_sound (suc f) d l k tab ls (h ∷ us) x q r =
      elim (picked (nat_lt l.indent h.indent) _ _ _ r) [
        | inl a ↦ (let t = took_first h (λ zs. Node d (suc l.indent) zs x.value) (λ xs w. w)
            (node_sound f d (suc l.indent) h us x (ltb-true l.indent h.indent a.0) a.1) in took_then _ q t (under q.front t.front refl q.is t.is))
        | inr a ↦ rw (← (got_is a.1))
            (took_as _ (λ xs a. none a) q)
      ]
