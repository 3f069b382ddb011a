-- Where the reader of blocks is.
use Rattle.ksv_yaml.proofs.Common.{◌≡◌, ℕ, zero, suc, ◌+◌, ◌-◌, ◌*◌, ◌≤◌, ◌<◌, Bool, true, false, List, [], ◌∷◌, ◌++◌, length, Option, None, ◌≢◌, refl, sym, ap}
use Rattle.ksv_yaml.proofs.Common.{subst, ◌∙◌, arith, ◌==◌, ◌&&◌, nat_lt, Tree, Text, Seq, Map, Items, no_items, item, Entries, no_entries, entry, Pair}
use Rattle.ksv_yaml.proofs.Common.{items_of, entries_of, view, at_column, from_here, deeper, is_among, inlined, unless_level, value_here, node, node_by}
use Rattle.ksv_yaml.proofs.Common.{entries, entries_by, more_entries, value, value_below, items, items_by, more_items, weight, keys_of}
use Rattle.ksv_yaml.proofs.Common.{pick_true, pick_false, Got, got, ◌>>=◌, Line, is_quiet, loud, InlineKind, Dashed, Start, Nothing, Dash}
use Rattle.ksv_yaml.proofs.Common.{start_of, is_dash, is_key, lines_view}
use Rattle.std.proofs.Common.{Result, Ok, Err, IfOk}
use Rattle.std.specs.Borrow.{Bor}
use Rattle.std.proofs.lemmas.Bool.{eq-eqb, lt-ltb, and_from, and_left, and_right, le-ltb}
use Rattle.ksv_yaml.specs.declared.fault.ReadFault.{ReadFault}
use Rattle.ksv_yaml_tree.specs.declared.tree.Yaml.{Yaml}
use Rattle.ksv_yaml.specs.Code.{GivesInline, GivesHere, NodeIs, EntriesIs, ValueIs, ItemsIs, ItemIs}
use Rattle.ksv_yaml.proofs.Steps.{one_less, two_less, three_less, five_less, not_level, Took, by_test}
use Rattle.ksv_yaml.proofs.Answering.{gives_on}
use Rattle.ksv_yaml.proofs.InlineSound.{inlined_sound}
use Rattle.ksv_yaml.proofs.Joins.{with_items, with_entries, with_no_items, with_no_entries, regroup_items, regroup_entries, last_items, last_entries, keys_push}
use Rattle.ksv_yaml_scan.specs.declared.line.Line.{Line as CodeLine}
use Rattle.ksv_yaml_scan.specs.Starts.{Key, Inline, Refused}

-- ---- what is left is no more than what there was

pub loud_lighter : (ls : List Line) → weight (loud ls) ≤ weight ls
loud_lighter [] = omega arith
loud_lighter (l ∷ ls) = let h = loud_lighter ls in by_test (is_quiet l) (λ e. rw (e, loud) (omega arith)) (λ e. rw (e, loud) (omega arith))

behind_lighter : (xs ys : List Line) → weight ys ≤ weight (xs ++ ys)
behind_lighter [] ys = omega arith
behind_lighter (l ∷ xs) ys = omega (arith, behind_lighter xs ys)

took_lighter : {P : List Line → Type 0} (ls rest : List Line) → Took Line ls rest P → weight rest ≤ weight ls
took_lighter ls rest t = omega (arith, behind_lighter t.front rest, ap weight t.cut)

pub inline_lighter : (d n : ℕ) (k : InlineKind) (l : Line) (ls : List Line) (r : Result (Yaml × Bor (List CodeLine)) ReadFault) → GivesInline d n k l ls r
    → IfOk r (λ x. weight (lines_view x.1.now) ≤ weight ls)
inline_lighter d n k l ls (Ok x) h = took_lighter ls (lines_view x.1.now) (inlined_sound d n k l ls (record { value = view x.0; rest = lines_view x.1.now }) h)
inline_lighter d n k l ls (Err e) h = tt

-- ---- nodes

-- all next lines, if any, stand before the column
abbrev pub EndsBefore : ℕ → List Line → Type 0
EndsBefore m [] = Unit {0}
EndsBefore m (l ∷ ls) = l.indent < m

pub before_first : (m : ℕ) (ls : List Line) (l : Line) (rest : List Line) → ls ≡ l ∷ rest → l.indent < m → EndsBefore m ls
before_first m ls l rest e h = rw e h

pub before_end : (m : ℕ) (ls : List Line) → ls ≡ [] → EndsBefore m ls
before_end m ls e = rw e tt

pub level_left : {A : Type 0} (m : ℕ) (ls : List Line) (o : Option A) → EndsBefore m ls → unless_level m ls o ≡ o
level_left m [] o h = refl
level_left m (l ∷ ls) o h = pick_true (nat_lt l.indent m) o None (lt-ltb l.indent m h)

level_stays : {A : Type 0} (m : ℕ) (ls : List Line) (o : Option A) (l : Line) (rest : List Line) → ls ≡ l ∷ rest → m ≤ l.indent → unless_level m ls o ≡ None
level_stays {A} m ls o l rest e h = rw e (pick_false (nat_lt l.indent m) o None (le-ltb l.indent m h))

-- by what begins on the line
pub node_step : {s : Start} (f d n : ℕ) (l : Line) (ls : List Line) → start_of l.content ≡ s → node (suc (suc f)) d n l ls ≡ node_by (suc f) s d n l ls
node_step f d n l ls e = ap (λ (s : Start). node_by (suc f) s d n l ls) e

pub node_items : {d n : ℕ} {l : Line} {ls : List Line} (k : Dashed) (o : Option (Got Line Items)) → start_of l.content ≡ Dash k → d ≢ 0
    → ItemsIs (d - 1) l.indent l ls o → NodeIs d n l ls (o >>= λ is. unless_level l.indent is.rest (got (Seq l.number is.value) is.rest))
node_items {d} {n} {l} {ls} k o e d0 r = record {
  is = λ f g.
      let i = two_less f (omega arith) in
      let k : d ≡ suc (d - 1) = omega arith in rw i.1 (node_step i.0 d n l ls e ∙ rw (k, r.is i.0 (omega (arith, i.1, g))));
}

pub node_items_end : {d n : ℕ} {l : Line} {ls : List Line} (k : Dashed) (is : Items) (left : List Line) → start_of l.content ≡ Dash k → d ≢ 0
    → EndsBefore l.indent left → ItemsIs (d - 1) l.indent l ls (got is left) → NodeIs d n l ls (got (Seq l.number is) left)
node_items_end {d} {n} {l} {ls} k is left e d0 b r = subst (λ o. NodeIs d n l ls o) (level_left l.indent left _ b) (node_items k (got is left) e d0 r)

pub node_items_stay : {d n : ℕ} {l : Line} {ls : List Line} (k : Dashed) (is : Items) (left : List Line) (h : Line) (hs : List Line)
    → start_of l.content ≡ Dash k → d ≢ 0 → left ≡ h ∷ hs → l.indent ≤ h.indent → ItemsIs (d - 1) l.indent l ls (got is left) → NodeIs d n l ls None
node_items_stay {d} {n} {l} {ls} k is left h hs e d0 z b r =
    subst (λ o. NodeIs d n l ls o) (level_stays l.indent left (got (Seq l.number is) left) h hs z b) (node_items k (got is left) e d0 r)

pub node_items_limit : {d n : ℕ} {l : Line} {ls : List Line} (k : Dashed) → start_of l.content ≡ Dash k → d ≡ 0 → NodeIs d n l ls None
node_items_limit {d} {n} {l} {ls} k e d0 = record { is = λ f g. let i = two_less f (omega arith) in rw i.1 (node_step i.0 d n l ls e ∙ rw d0) }

pub node_entries : {d n : ℕ} {l : Line} {ls : List Line} (key behind : List ℕ) (o : Option (Got Line Entries)) → start_of l.content ≡ Key key behind → d ≢ 0
    → EntriesIs (d - 1) l.indent l ls o → NodeIs d n l ls (o >>= λ es. got (Map l.number es.value) es.rest)
node_entries {d} {n} {l} {ls} key behind o e d0 r = record {
  is = λ f g.
      let i = two_less f (omega arith) in
      let k : d ≡ suc (d - 1) = omega arith in rw i.1 (node_step i.0 d n l ls e ∙ rw (k, r.is i.0 (omega (arith, i.1, g))));
}

pub node_entries_limit : {d n : ℕ} {l : Line} {ls : List Line} (key behind : List ℕ) → start_of l.content ≡ Key key behind → d ≡ 0 → NodeIs d n l ls None
node_entries_limit {d} {n} {l} {ls} key behind e d0 =
    record { is = λ f g. let i = two_less f (omega arith) in rw i.1 (node_step i.0 d n l ls e ∙ rw d0) }

pub node_inline : {d n : ℕ} {l : Line} {ls : List Line} (k : InlineKind) (o : Option (Got Line Tree)) → start_of l.content ≡ Inline k → inlined d n k l ls ≡ o
    → NodeIs d n l ls o
node_inline {d} {n} {l} {ls} k o e r = record { is = λ f g. let i = two_less f (omega arith) in rw i.1 (node_step i.0 d n l ls e ∙ r) }

pub node_nothing : {d n : ℕ} {l : Line} {ls : List Line} → start_of l.content ≡ Nothing → NodeIs d n l ls None
node_nothing {d} {n} {l} {ls} e = record { is = λ f g. let i = two_less f (omega arith) in rw i.1 (node_step i.0 d n l ls e) }

pub node_refused : {d n : ℕ} {l : Line} {ls : List Line} → start_of l.content ≡ Refused → NodeIs d n l ls None
node_refused {d} {n} {l} {ls} e = record { is = λ f g. let i = two_less f (omega arith) in rw i.1 (node_step i.0 d n l ls e) }

-- ---- values

pub value_on_line : {d : ℕ} {l : Line} {behind : List ℕ} {ls : List Line} (o : Option (Got Line Tree)) → (behind ≡ [] → ⊥)
    → value_here (start_of behind) d l behind ls ≡ o → ValueIs d l behind ls o
value_on_line {behind = []} o h r = absurd (h refl)
value_on_line {behind = c ∷ cs} o h r = record { is = λ f g. let i = one_less f (omega arith) in rw i.1 r }

below_lighter : (ls below : List Line) (h : Line) (hs : List Line) → below ≡ loud ls → below ≡ h ∷ hs → weight (h ∷ hs) ≤ weight ls
below_lighter ls below h hs z e = omega (arith, loud_lighter ls, ap weight z, ap weight e)

pub level_down : (d : ℕ) (l : Line) (h : Line) (hs : List Line) (f : ℕ) → h.indent ≡ l.indent → is_dash (start_of h.content) ≡ true
    → value_below (suc f) d l (h ∷ hs) ≡ deeper d (λ d. items f d l.indent h hs >>= λ is. got (Seq h.number is.value) is.rest)
level_down d l h hs f a b = pick_false (nat_lt l.indent h.indent) _ _ (le-ltb l.indent h.indent (omega (arith, a)))
    ∙ pick_true ((h.indent == l.indent) && is_dash (start_of h.content)) _ _ (and_from (h.indent == l.indent) _ (eq-eqb h.indent l.indent a) b)

-- what is below, after the quiet lines
module _ {d : ℕ} {l : Line} {behind : List ℕ} {ls below : List Line} (e : behind ≡ []) (z : below ≡ loud ls) where
  pub value_end : below ≡ [] → ValueIs d l behind ls (got (Text l.number false []) below)
  value_end w = record { is = λ f g. let i = two_less f (omega arith) in rw (i.1, e, ← z, w) }

  module _ {h : Line} {hs : List Line} (w : below ≡ h ∷ hs) where
    pub value_deep : (o : Option (Got Line Tree)) → l.indent < h.indent → NodeIs d (l.indent + 1) h hs o → ValueIs d l behind ls o
    value_deep o deep r = record {
      is = λ f g.
          let i = two_less f (omega arith) in
          let s : suc l.indent ≡ l.indent + 1 = omega arith in
          rw (i.1, e, ← z, w) (pick_true (nat_lt l.indent h.indent) _ _ (lt-ltb l.indent h.indent deep)
          ∙ rw (s, r.is i.0 (omega (arith, i.1, g, below_lighter ls below h hs z w))));
    }

    pub value_above : h.indent < l.indent → ValueIs d l behind ls (got (Text l.number false []) below)
    value_above a = record {
      is = λ f g.
          let i = two_less f (omega arith) in
          rw (i.1, e, ← z, w) (pick_false (nat_lt l.indent h.indent) _ _ (le-ltb l.indent h.indent (omega arith))
          ∙ pick_false ((h.indent == l.indent) && is_dash (start_of h.content)) _ _ (and_left (h.indent == l.indent) _ (not_level h.indent l.indent a)));
    }

    pub value_beside : h.indent ≤ l.indent → is_dash (start_of h.content) ≡ false → ValueIs d l behind ls (got (Text l.number false []) below)
    value_beside a b = record {
      is = λ f g.
          let i = two_less f (omega arith) in
          rw (i.1, e, ← z, w) (pick_false (nat_lt l.indent h.indent) _ _ (le-ltb l.indent h.indent a)
          ∙ pick_false ((h.indent == l.indent) && is_dash (start_of h.content)) _ _ (and_right (h.indent == l.indent) _ b));
    }

    pub value_level : (o : Option (Got Line Items)) → h.indent ≡ l.indent → is_dash (start_of h.content) ≡ true → d ≢ 0 → ItemsIs (d - 1) h.indent h hs o
        → ValueIs d l behind ls (o >>= λ is. got (Seq h.number is.value) is.rest)
    value_level o a b d0 r = record {
      is = λ f g.
          let i = two_less f (omega arith) in
          let k : d ≡ suc (d - 1) = omega arith in
          rw (i.1, e, ← z, w, level_down d l h hs i.0 a b, k, ← a, r.is i.0 (omega (arith, i.1, g, below_lighter ls below h hs z w)));
    }

    pub value_limit : h.indent ≡ l.indent → is_dash (start_of h.content) ≡ true → d ≡ 0 → ValueIs d l behind ls None
    value_limit a b d0 = record { is = λ f g. let i = two_less f (omega arith) in rw (i.1, e, ← z, w, level_down d l h hs i.0 a b, d0) }

-- ---- items

pub item_on_line : {d : ℕ} {l : Line} {k : ℕ} {tab : Bool} {behind : List ℕ} {ls : List Line} (o : Option (Got Line Tree)) → (behind ≡ [] → ⊥) → tab ≡ false
    → NodeIs d (l.indent + 1) (at_column l k behind) ls o → ItemIs d l k tab behind ls o
item_on_line {behind = []} o h e r = absurd (h refl)
item_on_line {l = l} {behind = c ∷ cs} o h e r = record {
  is = λ f g.
      let i = one_less f (omega arith) in let s : suc l.indent ≡ l.indent + 1 = omega arith in rw (i.1, e, s, r.is i.0 (omega (arith, i.1, g)));
}

pub item_behind_tab : {d : ℕ} {l : Line} {k : ℕ} {tab : Bool} {behind : List ℕ} {ls : List Line} (o : Option (Got Line Tree)) → (behind ≡ [] → ⊥) → tab ≡ true
    → value_here (start_of behind) d l behind ls ≡ o → ItemIs d l k tab behind ls o
item_behind_tab {behind = []} o h e r = absurd (h refl)
item_behind_tab {behind = c ∷ cs} o h e r = record { is = λ f g. let i = one_less f (omega arith) in rw (i.1, e) r }

module _ {d : ℕ} {l : Line} {k : ℕ} {tab : Bool} {behind : List ℕ} {ls below : List Line} (e : behind ≡ []) (z : below ≡ loud ls) where
  pub item_end : below ≡ [] → ItemIs d l k tab behind ls (got (Text l.number false []) below)
  item_end w = record { is = λ f g. let i = two_less f (omega arith) in rw (i.1, e, ← z, w) }

  pub item_deep : {h : Line} {hs : List Line} → below ≡ h ∷ hs → (o : Option (Got Line Tree)) → l.indent < h.indent → NodeIs d (l.indent + 1) h hs o
      → ItemIs d l k tab behind ls o
  item_deep {h} {hs} w o deep r = record {
    is = λ f g.
        let i = two_less f (omega arith) in
        let s : suc l.indent ≡ l.indent + 1 = omega arith in
        rw (i.1, e, ← z, w) (pick_true (nat_lt l.indent h.indent) _ _ (lt-ltb l.indent h.indent deep)
        ∙ rw (s, r.is i.0 (omega (arith, i.1, g, below_lighter ls below h hs z w))));
  }

  pub item_beside : {h : Line} {hs : List Line} → below ≡ h ∷ hs → h.indent ≤ l.indent → ItemIs d l k tab behind ls (got (Text l.number false []) below)
  item_beside {h} {hs} w a = record {
    is = λ f g.
        let i = two_less f (omega arith) in rw (i.1, e, ← z, w) (pick_false (nat_lt l.indent h.indent) _ _ (le-ltb l.indent h.indent a));
  }

-- ---- the loop over entries

-- reading the entries is reading these, and then the ones from this line on
pub record EntriesNow (d m : ℕ) (first : Line) (rest : List Line) (so_far : List Pair) (l : Line) (ls : List Line) : Type 0 where
  pub is : (f : ℕ) → 8 * weight (first ∷ rest) + 5 ≤ f
      → (g : ℕ) × (8 * weight (l ∷ ls) + 5 ≤ g) × (entries f d m [] first rest ≡ with_entries so_far (entries g d m (keys_of so_far) l ls))

pub entries_start : {d : ℕ} {first : Line} {rest : List Line} (so_far : List Pair) → so_far ≡ [] → EntriesNow d first.indent first rest so_far first rest
entries_start {d} {first} {rest} so_far z = record { is = λ f g. (f, g, rw z (with_no_entries (entries f d first.indent [] first rest))) }

no_entry : (f d m : ℕ) (seen : List (List ℕ)) (l : Line) (ls : List Line) (s : Start) → start_of l.content ≡ s → is_key s ≡ false
    → entries (suc (suc f)) d m seen l ls ≡ None
no_entry f d m seen l ls (Key key behind) e h = absurd cc
no_entry f d m seen l ls s e h = ap (λ (s : Start). entries_by (suc f) s d m seen l ls) e

pub no_more_entries : (f d m : ℕ) (seen : List (List ℕ)) (ls : List Line) → 0 < f → EndsBefore m ls → more_entries f d m seen ls ≡ got no_entries ls
no_more_entries zero d m seen ls p h = absurd (omega arith)
no_more_entries (suc f) d m seen [] p h = refl
no_more_entries (suc f) d m seen (l ∷ ls) p h = pick_true (nat_lt l.indent m) _ _ (lt-ltb l.indent m h)

not_equal : (a b : ℕ) → b < a → (a == b) ≡ false
not_equal a b h = grind arith

deeper_entries : (f d m : ℕ) (seen : List (List ℕ)) (n : Line) (ns : List Line) → 0 < f → m < n.indent → more_entries f d m seen (n ∷ ns) ≡ None
deeper_entries zero d m seen n ns p h = absurd (omega arith)
deeper_entries (suc f) d m seen n ns p h = pick_false (nat_lt n.indent m) _ _ (le-ltb n.indent m (omega arith))
    ∙ pick_false ((n.indent == m) && is_key (start_of n.content)) _ _ (and_left (n.indent == m) _ (not_equal n.indent m h))

pub level_key : (f d m : ℕ) (seen : List (List ℕ)) (n : Line) (ns : List Line) → n.indent ≡ m → is_key (start_of n.content) ≡ true
    → more_entries (suc f) d m seen (n ∷ ns) ≡ entries f d m seen n ns
level_key f d m seen n ns e h =
    pick_false (nat_lt n.indent m) _ _ (le-ltb n.indent m (omega (arith, e)))
    ∙ pick_true ((n.indent == m) && is_key (start_of n.content)) _ _ (and_from (n.indent == m) _ (eq-eqb n.indent m e) h)

-- at the block's own column reading goes on, key or not
level_entries : (f d m : ℕ) (seen : List (List ℕ)) (n : Line) (ns : List Line) (b : Bool) → n.indent ≡ m → is_key (start_of n.content) ≡ b
    → more_entries (suc (suc (suc f))) d m seen (n ∷ ns) ≡ entries (suc (suc f)) d m seen n ns
level_entries f d m seen n ns true e h = level_key (suc (suc f)) d m seen n ns e h
level_entries f d m seen n ns false e h =
    pick_false (nat_lt n.indent m) _ _ (le-ltb n.indent m (omega (arith, e)))
    ∙ pick_false ((n.indent == m) && is_key (start_of n.content)) _ _ (and_right (n.indent == m) _ h)
    ∙ sym (no_entry f d m seen n ns (start_of n.content) refl h)

module _ {d m : ℕ} {first : Line} {rest : List Line} {so_far : List Pair} {l : Line} {ls : List Line} (now : EntriesNow d m first rest so_far l ls) where
  pub entries_no_key : is_key (start_of l.content) ≡ false → EntriesIs d m first rest None
  entries_no_key e = record {
    is = λ f h.
        let i = now.is f h in
        let j = two_less i.0 (omega (arith, i.1)) in
        i.2 ∙ rw (j.1, no_entry j.0 d m (keys_of so_far) l ls (start_of l.content) refl e);
  }

  -- a turn at a key
  module _ {key behind : List ℕ} (e : start_of l.content ≡ Key key behind) where
    entries_turn : (f : ℕ) → 8 * weight (first ∷ rest) + 5 ≤ f →
        (g : ℕ) × (8 * weight (l ∷ ls) + 5 ≤ suc (suc (suc (suc (suc g)))))
        × (entries f d m [] first rest ≡ with_entries so_far
        (elim (is_among key (keys_of so_far)) [
          | true ↦ None
          | false ↦ value (suc (suc (suc g))) d l behind ls >>= λ v. more_entries (suc (suc (suc g))) d m (keys_of so_far ++ key ∷ []) v.rest
              >>= λ es. got (entry l.number key v.value es.value) es.rest
        ]))
    entries_turn f h =
        let i = now.is f h in
        let j = five_less i.0 (omega (arith, i.1)) in (
          j.0,
          omega (arith, i.1, j.1),
          i.2 ∙ ap (λ (g : ℕ). with_entries so_far (entries g d m (keys_of so_far) l ls)) j.1
              ∙ ap (λ (s : Start). with_entries so_far (entries_by (suc (suc (suc (suc j.0)))) s d m (keys_of so_far) l ls)) e,
        )

    pub entries_twice : is_among key (keys_of so_far) ≡ true → EntriesIs d m first rest None
    entries_twice a = record { is = λ f h. (entries_turn f h).2 ∙ rw a }

    module _ (a : is_among key (keys_of so_far) ≡ false) where
      -- a turn whose value is known
      entries_value : (o : Option (Got Line Tree)) → ValueIs d l behind ls o → (f : ℕ) → 8 * weight (first ∷ rest) + 5 ≤ f →
          (g : ℕ) × (8 * weight (l ∷ ls) + 5 ≤ suc (suc (suc (suc (suc g)))))
          × (entries f d m [] first rest ≡ with_entries so_far
          (o >>= λ v. more_entries (suc (suc (suc g))) d m (keys_of so_far ++ key ∷ []) v.rest >>= λ es. got (entry l.number key v.value es.value) es.rest))
      entries_value o v f h = let i = entries_turn f h in (i.0, i.1, i.2 ∙ rw (a, v.is (suc (suc (suc i.0))) (omega (arith, i.1))))

      pub entries_fail : ValueIs d l behind ls None → EntriesIs d m first rest None
      entries_fail v = record { is = λ f h. (entries_value None v f h).2 }

      module _ {t : Tree} {left : List Line} (v : ValueIs d l behind ls (got t left)) where
        -- what more entries there are is known
        entries_more : (o : Option (Got Line Entries)) →
            ((g : ℕ) → 0 < g → more_entries g d m (keys_of so_far ++ key ∷ []) left ≡ o) → (f : ℕ) → 8 * weight (first ∷ rest) + 5 ≤ f
            → entries f d m [] first rest ≡ with_entries so_far (o >>= λ es. got (entry l.number key t es.value) es.rest)
        entries_more o k f h = let i = entries_value (got t left) v f h in i.2 ∙ rw (k (suc (suc (suc i.0))) (omega arith))

        pub entries_end : {all : List Pair} → all ≡ so_far ++ record { line = l.number; key = key; value = t } ∷ [] → EndsBefore m left
            → EntriesIs d m first rest (got (entries_of all) left)
        entries_end {all} z b = record {
          is = λ f h.
              entries_more (got no_entries left) (λ g s. no_more_entries g d m (keys_of so_far ++ key ∷ []) left s b) f h
              ∙ last_entries left so_far all (record { line = l.number; key = key; value = t }) z;
        }

        module _ {n : Line} {ns : List Line} (zn : left ≡ n ∷ ns) where
          pub entries_deeper : m < n.indent → EntriesIs d m first rest None
          entries_deeper b = record { is = λ f h. entries_more None (λ g s. rw zn (deeper_entries g d m (keys_of so_far ++ key ∷ []) n ns s b)) f h }

          pub entries_on : {all : List Pair} → all ≡ so_far ++ record { line = l.number; key = key; value = t } ∷ [] → n.indent ≡ m → weight left ≤ weight ls
              → EntriesNow d m first rest all n ns
          entries_on {all} z en w = record {
            is = λ f h.
                let p : Pair = record { line = l.number; key = key; value = t } in
                let i = entries_value (got t left) v f h in (
                  suc (suc i.0),
                  omega (arith, i.1, w, ap weight zn),
                  i.2 ∙ rw (ap (λ (ls : List Line). more_entries (suc (suc (suc i.0))) d m (keys_of so_far ++ key ∷ []) ls) zn
                      ∙ level_entries i.0 d m (keys_of so_far ++ key ∷ []) n ns (is_key (start_of n.content)) en refl)
                      (regroup_entries (entries (suc (suc i.0)) d m (keys_of so_far ++ key ∷ []) n ns) so_far all p z
                      ∙ ap (λ (ks : List (List ℕ)). with_entries all (entries (suc (suc i.0)) d m ks n ns)) (sym (keys_push so_far p) ∙ ap keys_of (sym z))),
                );
          }

-- ---- the loop over items

pub record ItemsNow (d m : ℕ) (first : Line) (rest : List Line) (so_far : List Tree) (l : Line) (ls : List Line) : Type 0 where
  pub is : (f : ℕ) → 8 * weight (first ∷ rest) + 5 ≤ f
      → (g : ℕ) × (8 * weight (l ∷ ls) + 5 ≤ g) × (items f d m first rest ≡ with_items so_far (items g d m l ls))

pub items_start : {d : ℕ} {first : Line} {rest : List Line} (so_far : List Tree) → so_far ≡ [] → ItemsNow d first.indent first rest so_far first rest
items_start {d} {first} {rest} so_far z = record { is = λ f g. (f, g, rw z (with_no_items (items f d first.indent first rest))) }

no_item_here : (f d m : ℕ) (l : Line) (ls : List Line) (s : Start) → start_of l.content ≡ s → is_dash s ≡ false → items (suc (suc f)) d m l ls ≡ None
no_item_here f d m l ls (Dash k) e h = absurd cc
no_item_here f d m l ls s e h = ap (λ (s : Start). items_by (suc f) s d m l ls) e

pub no_more_items : (f d m : ℕ) (ls : List Line) → 0 < f → EndsBefore m ls → more_items f d m ls ≡ got no_items ls
no_more_items zero d m ls p h = absurd (omega arith)
no_more_items (suc f) d m [] p h = refl
no_more_items (suc f) d m (l ∷ ls) p h = pick_true (nat_lt l.indent m) _ _ (lt-ltb l.indent m h)

pub other_items : (f d m : ℕ) (n : Line) (ns : List Line) → 0 < f → n.indent ≡ m → is_dash (start_of n.content) ≡ false
    → more_items f d m (n ∷ ns) ≡ got no_items (n ∷ ns)
other_items zero d m n ns p e h = absurd (omega arith)
other_items (suc f) d m n ns p e h =
    pick_false (nat_lt n.indent m) _ _ (le-ltb n.indent m (omega (arith, e))) ∙ pick_true (n.indent == m) _ _ (eq-eqb n.indent m e)
    ∙ pick_false (is_dash (start_of n.content)) _ _ h

deeper_items : (f d m : ℕ) (n : Line) (ns : List Line) → 0 < f → m < n.indent → more_items f d m (n ∷ ns) ≡ None
deeper_items zero d m n ns p h = absurd (omega arith)
deeper_items (suc f) d m n ns p h = pick_false (nat_lt n.indent m) _ _ (le-ltb n.indent m (omega arith))
    ∙ pick_false (n.indent == m) _ _ (not_equal n.indent m h)

pub level_items : (f d m : ℕ) (n : Line) (ns : List Line) → n.indent ≡ m → is_dash (start_of n.content) ≡ true → more_items (suc f) d m (n ∷ ns) ≡ items f d
    m n ns
level_items f d m n ns e h = pick_false (nat_lt n.indent m) _ _ (le-ltb n.indent m (omega (arith, e))) ∙ pick_true (n.indent == m) _ _ (eq-eqb n.indent m e)
    ∙ pick_true (is_dash (start_of n.content)) _ _ h

module _ {d m : ℕ} {first : Line} {rest : List Line} {so_far : List Tree} {l : Line} {ls : List Line} (now : ItemsNow d m first rest so_far l ls) where
  pub items_no_dash : is_dash (start_of l.content) ≡ false → ItemsIs d m first rest None
  items_no_dash e = record {
    is = λ f h.
        let i = now.is f h in
        let j = two_less i.0 (omega (arith, i.1)) in
        i.2 ∙ rw (j.1, no_item_here j.0 d m l ls (start_of l.content) refl e);
  }

  module _ {k : Dashed} (e : start_of l.content ≡ Dash k) (s : length k.behind < length l.content) where
    items_value : (o : Option (Got Line Tree)) → ItemIs d l k.columns k.tab k.behind ls o → (f : ℕ) → 8 * weight (first ∷ rest) + 5 ≤ f →
        (g : ℕ) × (8 * weight (l ∷ ls) + 5 ≤ suc (suc (suc g)))
        × (items f d m first rest ≡ with_items so_far (o >>= λ t. more_items (suc g) d m t.rest >>= λ is. got (item t.value is.value) is.rest))
    items_value o v f h =
        let i = now.is f h in
        let j = three_less i.0 (omega (arith, i.1)) in (
          j.0,
          omega (arith, i.1, j.1),
          i.2 ∙ ap (λ (g : ℕ). with_items so_far (items g d m l ls)) j.1
              ∙ ap (λ (s : Start). with_items so_far (items_by (suc (suc j.0)) s d m l ls)) e ∙ rw (v.is (suc j.0) (omega (arith, i.1, j.1, s))),
        )

    pub items_fail : ItemIs d l k.columns k.tab k.behind ls None → ItemsIs d m first rest None
    items_fail v = record { is = λ f h. (items_value None v f h).2 }

    module _ {t : Tree} {left : List Line} (v : ItemIs d l k.columns k.tab k.behind ls (got t left)) where
      -- what more items there are is known
      items_more : (o : Option (Got Line Items)) →
          ((g : ℕ) → 0 < g → more_items g d m left ≡ o) → (f : ℕ) → 8 * weight (first ∷ rest) + 5 ≤ f
          → items f d m first rest ≡ with_items so_far (o >>= λ is. got (item t is.value) is.rest)
      items_more o u f h = let i = items_value (got t left) v f h in i.2 ∙ rw (u (suc i.0) (omega arith))

      pub items_end : {all : List Tree} → all ≡ so_far ++ t ∷ [] → EndsBefore m left → ItemsIs d m first rest (got (items_of all) left)
      items_end {all} z b = record {
        is = λ f h. items_more (got no_items left) (λ g p. no_more_items g d m left p b) f h ∙ last_items left so_far all t z;
      }

      module _ {n : Line} {ns : List Line} (zn : left ≡ n ∷ ns) where
        -- a line at the column that is no item
        pub items_beside : {all : List Tree} → all ≡ so_far ++ t ∷ [] → n.indent ≡ m → is_dash (start_of n.content) ≡ false
            → ItemsIs d m first rest (got (items_of all) left)
        items_beside {all} z en h = record {
          is = λ f u. items_more (got no_items left) (λ g p. rw zn (other_items g d m n ns p en h)) f u ∙ last_items left so_far all t z;
        }

        pub items_deeper : m < n.indent → ItemsIs d m first rest None
        items_deeper b = record { is = λ f h. items_more None (λ g p. rw zn (deeper_items g d m n ns p b)) f h }

        pub items_on : {all : List Tree} → all ≡ so_far ++ t ∷ [] → n.indent ≡ m → is_dash (start_of n.content) ≡ true → weight left ≤ weight ls
            → ItemsNow d m first rest all n ns
        items_on {all} z en h w = record {
          is = λ f u.
              let i = items_value (got t left) v f u in (
                i.0,
                omega (arith, i.1, w, ap weight zn),
                i.2 ∙ rw (ap (λ (ls : List Line). more_items (suc i.0) d m ls) zn ∙ level_items i.0 d m n ns en h)
                    (regroup_items (items i.0 d m n ns) so_far all t z),
              );
        }

-- ---- on the entry's own line

pub here_read : (d : ℕ) (l : Line) (behind : List ℕ) (ls : List Line) (k : InlineKind) (r : Result (Yaml × Bor (List CodeLine)) ReadFault)
    → start_of behind ≡ Inline k → GivesInline d (l.indent + 1) k (from_here l behind) ls r → GivesHere d l behind ls r
here_read d l behind ls k r e h =
    let s : suc l.indent ≡ l.indent + 1 = omega arith in
    gives_on (λ (o : Option (Got Line Tree)). inlined d (l.indent + 1) k (from_here l behind) ls ≡ o)
    (λ (o : Option (Got Line Tree)). value_here (start_of behind) d l behind ls ≡ o) view lines_view r
    (λ o w. ap (λ (s : Start). value_here s d l behind ls) e ∙ ap (λ (n : ℕ). inlined d n k (from_here l behind) ls) s ∙ w) h
