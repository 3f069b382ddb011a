-- What is spelled so is read, whatever follows that doesn't go on with it.
use Rattle.ksv_yaml.proofs.Common.{◌≡◌, ℕ, zero, suc, ◌+◌, ◌*◌, ◌≤◌, ◌<◌, Bool, true, false, List, [], ◌∷◌, ◌++◌, length, Option, Some, refl, sym, ap, subst}
use Rattle.ksv_yaml.proofs.Common.{◌∙◌, append_assoc, arith, ◌⊎◌, inl, inr, ◌==◌, ◌&&◌, nat_lt, Tree, Text, Seq, Map, Items, no_items, item, Entries}
use Rattle.ksv_yaml.proofs.Common.{no_entries, entry, AreDistinct, AreQuiet, Inlined, at_column, from_here, Node, is_among, node, entries, entries_by}
use Rattle.ksv_yaml.proofs.Common.{more_entries, value, value_below, items, items_by, more_items, item_at, item_below, weight}
use Rattle.ksv_yaml.proofs.Common.{got, Line, is_nil, shown, is_quiet, loud, InlineKind, Dashed, Start, Nothing, Dash, start_of, is_dash, is_key}
use Rattle.ksv_yaml.proofs.Common.{pick_true, pick_false}
use Rattle.std.proofs.lemmas.Bool.{lt-ltb, le-ltb, and_left, and_right}
use Rattle.ksv_yaml.specs.Grammar.{map, seq, inline, Mapping, last, more, Value, empty, below, level, here, Sequence, only, then, Item, none, under, compact}
use Rattle.ksv_yaml.specs.Grammar.{tabbed}
use Rattle.ksv_yaml_scan.specs.Starts.{Key, dash_of, key_of, kind_of, start_by}
use Rattle.ksv_yaml.proofs.Steps.{one_less, two_less, not_level, Loud, loud_behind}
use Rattle.ksv_yaml.proofs.Distinct.{AreClear, distinct_clear}
use Rattle.ksv_yaml.proofs.Sound.{dash_of_is}
use Rattle.ksv_yaml.proofs.BlockLoops.{EndsBefore, node_step, level_left, level_down, no_more_entries, level_key, no_more_items, other_items, level_items}
use Rattle.ksv_yaml_scan.proofs.Starts.{dash_start, key_start, kind_start}
use Rattle.ksv_yaml.proofs.InlineComplete.{Before, before_loud, inlined_complete}

pub weight-append : (xs ys : List Line) → weight (xs ++ ys) ≡ weight xs + weight ys
weight-append [] ys = omega arith
weight-append (x ∷ xs) ys = omega (arith, weight-append xs ys)

-- the next line says something, and is before this column, or there and is no item
abbrev pub NoItem : ℕ → List Line → Type 0
NoItem m [] = Unit {0}
NoItem m (l ∷ ls) = (is_quiet l ≡ false) × ((l.indent < m) ⊎ ((l.indent ≡ m) × (is_dash (start_of l.content) ≡ false)))

no_item_before : (m : ℕ) (ls : List Line) → NoItem m ls → Before (suc m) ls
no_item_before m [] h = tt
no_item_before m (l ∷ ls) (q, inl h) = (q, omega arith)
no_item_before m (l ∷ ls) (q, inr h) = (q, omega (arith, h.0))

no_item_loud : (m : ℕ) (ls : List Line) → NoItem m ls → Loud ls
no_item_loud m [] h = tt
no_item_loud m (l ∷ ls) h = h.0

before_no_item : (n m : ℕ) (ls : List Line) → n ≤ m → Before n ls → NoItem m ls
before_no_item n m [] k h = tt
before_no_item n m (l ∷ ls) k h = (h.0, inl (omega (arith, h.1)))

before_more : (n m : ℕ) (ls : List Line) → n ≤ m → Before n ls → Before m ls
before_more n m [] k h = tt
before_more n m (l ∷ ls) k h = (h.0, omega (arith, h.1))

-- ---- what begins on a line

abbrev IsLoud : Start → Type 0
IsLoud Nothing = ⊥
IsLoud s = Unit {0}

loud_start : (b : Bool) (o : Option Dashed) (k : Option (List ℕ × List ℕ)) (i : Option InlineKind) → IsLoud (start_by b o k i) → b ≡ false
loud_start true o k i h = absurd h
loud_start false o k i h = refl

loud_of : (cs : List ℕ) (s : Start) → start_of cs ≡ s → IsLoud s → is_nil (shown cs) ≡ false
loud_of cs s e h = loud_start (is_nil (shown cs)) (dash_of cs) (key_of cs) (kind_of cs) (subst IsLoud (sym e) h)

head_is : {a b : Line} {us bs : List Line} → a ∷ us ≡ b ∷ bs → a ≡ b
head_is h = cc

tail_is : {a b : Line} {us bs : List Line} → a ∷ us ≡ b ∷ bs → us ≡ bs
tail_is h = cc

same_front : {A : Type 0} {a b : Line} {us bs : List Line} (F : Line → List Line → A) → a ∷ us ≡ b ∷ bs → F a us ≡ F b bs
same_front F h = rw (head_is h, tail_is h)

ends_before : (m : ℕ) (ls : List Line) → Before m ls → EndsBefore m ls
ends_before m [] h = tt
ends_before m (l ∷ ls) h = h.1

-- ---- blocks

pub record NodeOk (d n : ℕ) (ls : List Line) (t : Tree) : Type 0 where
  pub first : Line
  pub others : List Line
  pub is : ls ≡ first ∷ others
  pub deep : n ≤ first.indent
  pub loud : is_quiet first ≡ false
  pub reads : (rest : List Line) (f : ℕ) → Before n rest → 8 * weight (first ∷ (others ++ rest)) + 8 ≤ f → node f d n first (others ++ rest) ≡ got t rest

pub record MapOk (d m : ℕ) (ls : List Line) (es : Entries) : Type 0 where
  pub first : Line
  pub others : List Line
  pub is : ls ≡ first ∷ others
  pub level : first.indent ≡ m
  pub key : List ℕ
  pub behind : List ℕ
  pub key_is : start_of first.content ≡ Key key behind
  pub reads : (rest : List Line) (f : ℕ) (seen : List (List ℕ)) → Before m rest → AreClear seen es → 8 * weight (first ∷ (others ++ rest)) + 5 ≤ f
      → entries f d m seen first (others ++ rest) ≡ got es rest

pub record SeqOk (d m : ℕ) (ls : List Line) (is : Items) : Type 0 where
  pub first : Line
  pub others : List Line
  pub split : ls ≡ first ∷ others
  pub level : first.indent ≡ m
  pub dash : Dashed
  pub dash_is : start_of first.content ≡ Dash dash
  pub reads : (rest : List Line) (f : ℕ) → NoItem m rest → 8 * weight (first ∷ (others ++ rest)) + 5 ≤ f → items f d m first (others ++ rest) ≡ got is rest

pub record ValueOk (d : ℕ) (l : Line) (behind : List ℕ) (ls : List Line) (t : Tree) : Type 0 where
  pub reads : (rest : List Line) (f : ℕ) → NoItem l.indent rest → 8 * weight (ls ++ rest) + 10 ≤ f → value f d l behind (ls ++ rest) ≡ got t rest

pub record ItemOk (d : ℕ) (l : Line) (k : ℕ) (tab : Bool) (behind : List ℕ) (ls : List Line) (t : Tree) : Type 0 where
  pub reads : (rest : List Line) (f : ℕ) → Before (suc l.indent) rest → 8 * (length behind + weight (ls ++ rest)) + 18 ≤ f
      → item_at f d l k tab behind (ls ++ rest) ≡ got t rest

-- a first entry, and what more there is
entries_turn : (f d m : ℕ) (seen : List (List ℕ)) (l : Line) (ls : List Line) {key behind : List ℕ} {t : Tree} {mid : List Line} {es : Entries}
    {rest : List Line} → start_of l.content ≡ Key key behind → is_among key seen ≡ false → value f d l behind ls ≡ got t mid
    → more_entries f d m (seen ++ key ∷ []) mid ≡ got es rest → entries (suc (suc f)) d m seen l ls ≡ got (entry l.number key t es) rest
entries_turn f d m seen l ls {key} ek ea ev em =
    ap (λ (s : Start). entries_by (suc f) s d m seen l ls) ek ∙ pick_false (is_among key seen) _ _ ea ∙ rw (ev, em)

items_turn : (f d m : ℕ) (l : Line) (ls : List Line) {k : Dashed} {t : Tree} {mid : List Line} {is : Items} {rest : List Line} → start_of l.content ≡ Dash k
    → item_at f d l k.columns k.tab k.behind ls ≡ got t mid → more_items f d m mid ≡ got is rest → items (suc (suc f)) d m l ls ≡ got (item t is) rest
items_turn f d m l ls ek ev em = ap (λ (s : Start). items_by (suc f) s d m l ls) ek ∙ rw (ev, em)

more_items_stop : (f d m : ℕ) (ls : List Line) → 0 < f → NoItem m ls → more_items f d m ls ≡ got no_items ls
more_items_stop f d m [] p h = no_more_items f d m [] p tt
more_items_stop f d m (l ∷ ls) p (q, inl h) = no_more_items f d m (l ∷ ls) p h
more_items_stop f d m (l ∷ ls) p (q, inr h) = other_items f d m l ls p h.0 h.1

ok_last : {d m : ℕ} {l : Line} {ls : List Line} (key behind : List ℕ) {t : Tree} → l.indent ≡ m → key_of l.content ≡ Some (key, behind)
    → ValueOk d l behind ls t → MapOk d m (l ∷ ls) (entry l.number key t no_entries)
ok_last {d} {m} {l} {ls} key behind el ek0 v =
    let ek = key_start l.content key behind ek0 in
    record {
      first = l;
      others = ls;
      is = refl;
      level = el;
      key = key;
      behind = behind;
      key_is = ek;
      reads = λ rest f seen h c g.
          let i = two_less f (omega arith) in
          rw i.1 (entries_turn i.0 d m seen l (ls ++ rest) ek c.0 (v.reads rest i.0 (rw el (before_no_item m m rest (omega arith) h)) (omega (arith, i.1, g)))
          (no_more_entries i.0 d m (seen ++ key ∷ []) rest (omega (arith, i.1, g)) (ends_before m rest h)));
    }

ok_more : {d m : ℕ} {l : Line} {ls : List Line} (key behind : List ℕ) {t : Tree} {es : Entries} (xs ys : List Line) → l.indent ≡ m → ls ≡ xs ++ ys
    → key_of l.content ≡ Some (key, behind) → ValueOk d l behind xs t → MapOk d m ys es → MapOk d m (l ∷ ls) (entry l.number key t es)
ok_more {d} {m} {l} {ls} key behind xs ys el split ek0 v o =
    let ek = key_start l.content key behind ek0 in
    record {
      first = l;
      others = ls;
      is = refl;
      level = el;
      key = key;
      behind = behind;
      key_is = ek;
      reads = λ rest f seen h c g.
          let us : List Line = o.first ∷ (o.others ++ rest) in
          let whole : ls ++ rest ≡ xs ++ us = rw (split, append_assoc) (ap (λ (r : List Line). xs ++ (r ++ rest)) o.is) in
          let w : weight (ls ++ rest) ≡ weight xs + weight us = ap weight whole ∙ weight-append xs us in
          let i = two_less f (omega arith) in
          let j = one_less i.0 (omega (arith, i.1, g)) in
          rw (whole, i.1) (entries_turn i.0 d m seen l (xs ++ us) ek c.0
          (v.reads us i.0 (loud_of o.first.content _ o.key_is tt, inr (o.level ∙ sym el, ap is_dash o.key_is)) (omega (arith, i.1, g, ap weight whole)))
          (ap (λ (f : ℕ). more_entries f d m (seen ++ key ∷ []) us) j.1
          ∙ level_key j.0 d m (seen ++ key ∷ []) o.first (o.others ++ rest) o.level (ap is_key o.key_is)
          ∙ o.reads rest j.0 (seen ++ key ∷ []) h c.1 (omega (arith, i.1, j.1, g, w))));
    }

ok_only : {d m : ℕ} {l : Line} {ls : List Line} (k : Dashed) {t : Tree} → l.indent ≡ m → dash_of l.content ≡ Some k → ItemOk d l k.columns k.tab k.behind ls t
    → SeqOk d m (l ∷ ls) (item t no_items)
ok_only {d} {m} {l} {ls} k el ek0 v =
    let ek = dash_start l.content k ek0 in
    record {
      first = l;
      others = ls;
      split = refl;
      level = el;
      dash = k;
      dash_is = ek;
      reads = λ rest f h g.
          let i = two_less f (omega arith) in
          rw i.1 (items_turn i.0 d m l (ls ++ rest) ek (v.reads rest i.0 (rw el (no_item_before m rest h)) (omega (
            arith,
            i.1,
            g,
            (dash_of_is l.content k
                ek0).short,
          )))
          (more_items_stop i.0 d m rest (omega (arith, i.1, g)) h));
    }

ok_then : {d m : ℕ} {l : Line} {ls : List Line} (k : Dashed) {t : Tree} {is : Items} (xs ys : List Line) → l.indent ≡ m → ls ≡ xs ++ ys
    → dash_of l.content ≡ Some k → ItemOk d l k.columns k.tab k.behind xs t → SeqOk d m ys is → SeqOk d m (l ∷ ls) (item t is)
ok_then {d} {m} {l} {ls} k xs ys el split ek0 v o =
    let ek = dash_start l.content k ek0 in
    record {
      first = l;
      others = ls;
      split = refl;
      level = el;
      dash = k;
      dash_is = ek;
      reads = λ rest f h g.
          let us : List Line = o.first ∷ (o.others ++ rest) in
          let whole : ls ++ rest ≡ xs ++ us = rw (split, append_assoc) (ap (λ (r : List Line). xs ++ (r ++ rest)) o.split) in
          let w : weight (ls ++ rest) ≡ weight xs + weight us = ap weight whole ∙ weight-append xs us in
          let i = two_less f (omega arith) in
          let j = one_less i.0 (omega (arith, i.1, g)) in
          rw (whole, i.1) (items_turn i.0 d m l (xs ++ us) ek
          (v.reads us i.0 (loud_of o.first.content _ o.dash_is tt, omega (arith, o.level, el))
          (omega (arith, i.1, g, ap weight whole, (dash_of_is l.content k ek0).short)))
          (ap (λ (f : ℕ). more_items f d m us) j.1 ∙ level_items j.0 d m o.first (o.others ++ rest) o.level (ap is_dash o.dash_is)
          ∙ o.reads rest j.0 h (omega (arith, i.1, j.1, g, w))));
    }

-- ---- after a key or a dash

value_stop : (f d : ℕ) (l : Line) (ls : List Line) → 0 < f → NoItem l.indent ls → value_below f d l ls ≡ got (Text l.number false []) ls
value_stop zero d l ls p h = absurd (omega arith)
value_stop (suc f) d l [] p h = refl
value_stop (suc f) d l (h ∷ ls) p (q, inl k) = pick_false (nat_lt l.indent h.indent) _ _ (le-ltb l.indent h.indent (omega arith))
    ∙ pick_false ((h.indent == l.indent) && is_dash (start_of h.content)) _ _ (and_left (h.indent == l.indent) _ (not_level h.indent l.indent k))
value_stop (suc f) d l (h ∷ ls) p (q, inr k) = pick_false (nat_lt l.indent h.indent) _ _ (le-ltb l.indent h.indent (omega arith))
    ∙ pick_false ((h.indent == l.indent) && is_dash (start_of h.content)) _ _ (and_right (h.indent == l.indent) _ k.1)

item_stop : (f d : ℕ) (l : Line) (ls : List Line) → 0 < f → Before (suc l.indent) ls → item_below f d l ls ≡ got (Text l.number false []) ls
item_stop zero d l ls p h = absurd (omega arith)
item_stop (suc f) d l [] p h = refl
item_stop (suc f) d l (h ∷ ls) p k = pick_false (nat_lt l.indent h.indent) _ _ (le-ltb l.indent h.indent (omega arith))

ok_empty : {d : ℕ} (l : Line) {ls : List Line} → AreQuiet ls → ValueOk d l [] ls (Text l.number false [])
ok_empty {d} l {ls} q = record {
  reads = λ rest f h g.
      let i = one_less f (omega arith) in
      rw i.1 (ap (λ (r : List Line). value_below i.0 d l r) (loud_behind ls rest q (no_item_loud l.indent rest h))
      ∙ value_stop i.0 d l rest (omega (arith, i.1, g)) h);
}

-- quiet lines, and then a node
record Hushed (ls rest us : List Line) : Type 0 where
  is : loud (ls ++ rest) ≡ us
  light : weight us ≤ weight (ls ++ rest)

hushed : {ls : List Line} (rest : List Line) (xs ys : List Line) (h : Line) (os : List Line) → ls ≡ xs ++ ys → AreQuiet xs → ys ≡ h ∷ os → is_quiet h ≡ false
    → Hushed ls rest (h ∷ (os ++ rest))
hushed {ls} rest xs ys h os split q e k =
    let w : ls ++ rest ≡ xs ++ (h ∷ (os ++ rest)) = rw (split, append_assoc, e) in
    record {
      is = ap loud w ∙ loud_behind xs (h ∷ (os ++ rest)) q k;
      light = omega (arith, ap weight w, weight-append xs (h ∷ (os ++ rest)));
    }

ok_below : {d : ℕ} (l : Line) {ls : List Line} {t : Tree} (xs ys : List Line) → ls ≡ xs ++ ys → AreQuiet xs → NodeOk d (suc l.indent) ys t → ValueOk d l [] ls t
ok_below {d} l xs ys split q o = record {
  reads = λ rest f h g.
      let i = two_less f (omega arith) in
      let u = hushed rest xs ys o.first o.others split q o.is o.loud in
      rw i.1 (ap (λ (r : List Line). value_below (suc i.0) d l r) u.is ∙ pick_true (nat_lt l.indent o.first.indent) _ _ (lt-ltb l.indent o.first.indent o.deep)
      ∙ o.reads rest i.0 (no_item_before l.indent rest h) (omega (arith, i.1, g, u.light)));
}

ok_level : {d : ℕ} (l h : Line) {ls : List Line} {is : Items} (xs ys : List Line) → ls ≡ xs ++ h ∷ ys → AreQuiet xs → h.indent ≡ l.indent
    → SeqOk d l.indent (h ∷ ys) is → ValueOk (suc d) l [] ls (Seq h.number is)
ok_level {d} l h xs ys split q el o = record {
  reads = λ rest f hr g.
      let i = two_less f (omega arith) in
      let k : start_of h.content ≡ Dash o.dash = ap (λ (l : Line). start_of l.content) (head_is o.split) ∙ o.dash_is in
      let u = hushed rest xs (h ∷ ys) h ys split q refl (loud_of h.content _ k tt) in
      let w : weight (h ∷ (ys ++ rest)) ≡ weight (o.first ∷ (o.others ++ rest)) = ap (λ (r : List Line). weight (r ++ rest)) o.split in
      rw i.1 (ap (λ (r : List Line). value_below (suc i.0) (suc d) l r) u.is ∙ level_down (suc d) l h (ys ++ rest) i.0 el (ap is_dash k)
      ∙ rw (same_front (λ a us. items i.0 d l.indent a (us ++ rest)) o.split, o.reads rest i.0 hr (omega (arith, i.1, g, w, u.light))));
}

ok_here : {d : ℕ} (c : ℕ) (l : Line) (cs : List ℕ) {ls : List Line} {k : InlineKind} {t : Tree} → kind_of (c ∷ cs) ≡ Some k
    → Inlined d (suc l.indent) k (from_here l (c ∷ cs)) ls t → ValueOk d l (c ∷ cs) ls t
ok_here c l cs {k = k} e0 w = record {
  reads = λ rest f h g.
      let i = one_less f (omega arith) in rw (i.1, kind_start (c ∷ cs) k e0) (inlined_complete w rest (no_item_before l.indent rest h));
}

ok_none : {d : ℕ} (k : ℕ) (b : Bool) (l : Line) {ls : List Line} → AreQuiet ls → ItemOk d l k b [] ls (Text l.number false [])
ok_none {d} k b l {ls} q = record {
  reads = λ rest f h g.
      let i = one_less f (omega arith) in
      rw i.1 (ap (λ (r : List Line). item_below i.0 d l r) (loud_behind ls rest q (before_loud (suc l.indent) rest h))
      ∙ item_stop i.0 d l rest (omega (arith, i.1, g)) h);
}

ok_under : {d : ℕ} (k : ℕ) (b : Bool) (l : Line) {ls : List Line} {t : Tree} (xs ys : List Line) → ls ≡ xs ++ ys → AreQuiet xs → NodeOk d (suc l.indent) ys t
    → ItemOk d l k b [] ls t
ok_under {d} k b l xs ys split q o = record {
  reads = λ rest f h g.
      let i = two_less f (omega arith) in
      let u = hushed rest xs ys o.first o.others split q o.is o.loud in
      rw i.1 (ap (λ (r : List Line). item_below (suc i.0) d l r) u.is ∙ pick_true (nat_lt l.indent o.first.indent) _ _ (lt-ltb l.indent o.first.indent o.deep)
      ∙ o.reads rest i.0 h (omega (arith, i.1, g, u.light)));
}

ok_compact : {d : ℕ} (k c : ℕ) (l : Line) (cs : List ℕ) {ls : List Line} {t : Tree} → NodeOk d (suc l.indent) (at_column l k (c ∷ cs) ∷ ls) t
    → ItemOk d l k false (c ∷ cs) ls t
ok_compact {d} k c l cs {ls} o = record {
  reads = λ rest f h g.
      let i = one_less f (omega arith) in
      let w : weight (at_column l k (c ∷ cs) ∷ (ls ++ rest)) ≡ weight (o.first ∷ (o.others ++ rest)) = ap (λ (r : List Line). weight (r ++ rest)) o.is in
      rw (i.1, same_front (λ a us. node i.0 d (suc l.indent) a (us ++ rest)) o.is) (o.reads rest i.0 h (omega (arith, i.1, g, w)));
}

ok_tabbed : {d : ℕ} (k c : ℕ) (l : Line) (cs : List ℕ) {ls : List Line} {i : InlineKind} {t : Tree} → kind_of (c ∷ cs) ≡ Some i
    → Inlined d (suc l.indent) i (from_here l (c ∷ cs)) ls t → ItemOk d l k true (c ∷ cs) ls t
ok_tabbed k c l cs {i = i} e0 w = record {
  reads = λ rest f h g. let j = one_less f (omega arith) in rw (j.1, kind_start (c ∷ cs) i e0) (inlined_complete w rest h);
}

-- ---- nodes

ok_inline : {d n : ℕ} {l : Line} {ls : List Line} {k : InlineKind} {t : Tree} → n ≤ l.indent → kind_of l.content ≡ Some k → Inlined d n k l ls t
    → NodeOk d n (l ∷ ls) t
ok_inline {d} {n} {l} {ls} {k} deep e0 w =
    let e = kind_start l.content k e0 in
    record {
      first = l;
      others = ls;
      is = refl;
      deep = deep;
      loud = loud_of l.content _ e tt;
      reads = λ rest f h g. let i = two_less f (omega arith) in rw i.1 (node_step i.0 d n l (ls ++ rest) e ∙ inlined_complete w rest h);
    }

ok_map : {d n : ℕ} (l : Line) {ls : List Line} {es : Entries} → n ≤ l.indent → AreDistinct es → MapOk d l.indent (l ∷ ls) es
    → NodeOk (suc d) n (l ∷ ls) (Map l.number es)
ok_map {d} {n} l {ls} {es} deep distinct o =
    let ek : start_of l.content ≡ Key o.key o.behind = ap (λ (l : Line). start_of l.content) (head_is o.is) ∙ o.key_is in
    record {
      first = l;
      others = ls;
      is = refl;
      deep = deep;
      loud = loud_of l.content _ ek tt;
      reads = λ rest f h g.
          let i = two_less f (omega arith) in
          let w : weight (l ∷ (ls ++ rest)) ≡ weight (o.first ∷ (o.others ++ rest)) = ap (λ (r : List Line). weight (r ++ rest)) o.is in
          rw i.1 (node_step i.0 (suc d) n l (ls ++ rest) ek ∙ rw (
            same_front (λ a us. entries i.0 d l.indent [] a (us ++ rest)) o.is,
            o.reads rest i.0 [] (before_more n l.indent rest deep h) (distinct_clear [] es distinct (λ j e. absurd cc)) (omega (arith, i.1, g, w)),
          ));
    }

ok_seq : {d n : ℕ} (l : Line) {ls : List Line} {is : Items} → n ≤ l.indent → SeqOk d l.indent (l ∷ ls) is → NodeOk (suc d) n (l ∷ ls) (Seq l.number is)
ok_seq {d} {n} l {ls} {is} deep o =
    let ek : start_of l.content ≡ Dash o.dash = ap (λ (l : Line). start_of l.content) (head_is o.split) ∙ o.dash_is in
    record {
      first = l;
      others = ls;
      is = refl;
      deep = deep;
      loud = loud_of l.content _ ek tt;
      reads = λ rest f h g.
          let i = two_less f (omega arith) in
          let w : weight (l ∷ (ls ++ rest)) ≡ weight (o.first ∷ (o.others ++ rest)) = ap (λ (r : List Line). weight (r ++ rest)) o.split in
          rw i.1 (node_step i.0 (suc d) n l (ls ++ rest) ek ∙ rw (
            same_front (λ a us. items i.0 d l.indent a (us ++ rest)) o.split,
            o.reads rest i.0 (before_no_item n l.indent rest deep h) (omega (arith, i.1, g, w)),
          ) (level_left l.indent rest (got (Seq l.number is) rest) (ends_before l.indent rest (before_more n l.indent rest deep h))));
    }

mutual
  pub node_ok : {d n : ℕ} {ls : List Line} {t : Tree} → Node d n ls t → NodeOk d n ls t
  node_ok (map {l = l} deep m distinct) = ok_map l deep distinct (map_ok m)
  node_ok (seq {l = l} deep s) = ok_seq l deep (seq_ok s)
  node_ok (inline deep e w) = ok_inline deep e w

  pub map_ok : {d m : ℕ} {ls : List Line} {es : Entries} → Mapping d m ls es → MapOk d m ls es
  map_ok (last {key = key} {rest = behind} el ek v) = ok_last key behind el ek (value_ok v)
  map_ok (more {key = key} {rest = behind} xs ys el split ek v m) = ok_more key behind xs ys el split ek (value_ok v) (map_ok m)

  pub value_ok : {d : ℕ} {l : Line} {behind : List ℕ} {ls : List Line} {t : Tree} → Value d l behind ls t → ValueOk d l behind ls t
  value_ok (empty {l = l} q) = ok_empty l q
  value_ok (below {l = l} xs ys split q n) = ok_below l xs ys split q (node_ok n)
  value_ok (level {l = l} {h = h} xs ys split q el s) = ok_level l h xs ys split q el (seq_ok s)
  value_ok (here {c = c} {l = l} {cs = cs} e w) = ok_here c l cs e w

  pub seq_ok : {d m : ℕ} {ls : List Line} {is : Items} → Sequence d m ls is → SeqOk d m ls is
  seq_ok (only {k = k} el ek v) = ok_only k el ek (item_ok v)
  seq_ok (then {k = k} xs ys el split ek v s) = ok_then k xs ys el split ek (item_ok v) (seq_ok s)

  pub item_ok : {d : ℕ} {l : Line} {k : ℕ} {b : Bool} {behind : List ℕ} {ls : List Line} {t : Tree} → Item d l k b behind ls t → ItemOk d l k b behind ls t
  item_ok (none {k = k} {b = b} {l = l} q) = ok_none k b l q
  item_ok (under {k = k} {b = b} {l = l} xs ys split q n) = ok_under k b l xs ys split q (node_ok n)
  item_ok (compact {k = k} {c = c} {l = l} {cs = cs} n) = ok_compact k c l cs (node_ok n)
  item_ok (tabbed {k = k} {c = c} {l = l} {cs = cs} e w) = ok_tabbed k c l cs e w
