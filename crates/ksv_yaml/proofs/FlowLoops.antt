-- Where the reader of flow nodes is.
use Rattle.ksv_yaml.proofs.Common.{◌≡◌, ℕ, suc, ◌+◌, ◌-◌, ◌*◌, ◌≤◌, ◌<◌, true, false, List, [], ◌∷◌, ◌++◌, length, Option, Some, None, ◌≢◌, refl, sym, ap, ◌∙◌}
use Rattle.ksv_yaml.proofs.Common.{arith, Tree, Seq, Map, Items, item, Entries, entry, Pair, items_of, entries_of, is_among, flow}
use Rattle.ksv_yaml.proofs.Common.{flow_items, flow_more, flow_entries, flow_others, keys_of, Got, got, ◌>>=◌, Token, Open, Close}
use Rattle.ksv_yaml.proofs.Common.{OpenMap, CloseMap, Comma, Key}
use Rattle.ksv_yaml.specs.Code.{behind_close, behind_close_map, behind_comma, key_at, FlowIs, FlowItemsIs, FlowEntriesIs}
use Rattle.ksv_yaml.proofs.Steps.{one_less, two_less}
use Rattle.ksv_yaml.proofs.Joins.{with_items, with_entries, with_no_items, with_no_entries, regroup_items, regroup_entries, last_items, last_entries, end_items}
use Rattle.ksv_yaml.proofs.Joins.{end_entries, keys_push}

-- ---- one node

pub node_items : {d : ℕ} {ts : List Token} (k : ℕ) (rest : List Token) (o : Option (Got Token Items)) → ts ≡ Open k ∷ rest → d ≢ 0 → FlowItemsIs (d - 1) rest o
    → FlowIs d ts (o >>= λ is. got (Seq k is.value) is.rest)
node_items {d} k rest o e d0 r = record {
  is = λ f g.
      let i = one_less f (omega arith) in let n : d ≡ suc (d - 1) = omega arith in rw (i.1, e, n, r.is i.0 (omega (arith, i.1, g, ap length e)));
}

pub node_entries : {d : ℕ} {ts : List Token} (k : ℕ) (rest : List Token) (o : Option (Got Token Entries)) → ts ≡ OpenMap k ∷ rest → d ≢ 0
    → FlowEntriesIs (d - 1) rest o → FlowIs d ts (o >>= λ es. got (Map k es.value) es.rest)
node_entries {d} k rest o e d0 r = record {
  is = λ f g.
      let i = one_less f (omega arith) in let n : d ≡ suc (d - 1) = omega arith in rw (i.1, e, n, r.is i.0 (omega (arith, i.1, g, ap length e)));
}

-- ---- what is at the front

close_shape : (ts rest : List Token) → behind_close ts ≡ Some rest → ts ≡ Close ∷ rest
close_shape [] rest h = absurd cc
close_shape (Close ∷ ts) rest h = cc
close_shape (t ∷ ts) rest h = absurd cc

close_map_shape : (ts rest : List Token) → behind_close_map ts ≡ Some rest → ts ≡ CloseMap ∷ rest
close_map_shape [] rest h = absurd cc
close_map_shape (CloseMap ∷ ts) rest h = cc
close_map_shape (t ∷ ts) rest h = absurd cc

comma_shape : (ts rest : List Token) → behind_comma ts ≡ Some rest → ts ≡ Comma ∷ rest
comma_shape [] rest h = absurd cc
comma_shape (Comma ∷ ts) rest h = cc
comma_shape (t ∷ ts) rest h = absurd cc

key_shape : (ts : List Token) (k : ℕ) (key : List ℕ) (rest : List Token) → key_at ts ≡ Some (k, key, rest) → ts ≡ Key k key ∷ rest
key_shape [] k key rest h = absurd cc
key_shape (Key n j ∷ ts) k key rest h =
    let p : (let pair : ℕ × List ℕ × List Token = (n, j, ts) in pair) ≡ (k, key, rest) = cc in
    let a : n ≡ k = ap (λ (x : ℕ × List ℕ × List Token). x.0) p in
    let b : j ≡ key = ap (λ (x : ℕ × List ℕ × List Token). x.1) p in
    let c : ts ≡ rest = ap (λ (x : ℕ × List ℕ × List Token). x.2) p in cc
key_shape (t ∷ ts) k key rest h = absurd cc

open_items : (f d : ℕ) (ts : List Token) → behind_close ts ≡ None
    → flow_items (suc f) d ts ≡ (flow f d ts >>= λ t. flow_more f d t.rest >>= λ is. got (item t.value is.value) is.rest)
open_items f d [] h = refl
open_items f d (Close ∷ ts) h = absurd cc
open_items f d (t ∷ ts) h = refl

stop_more : (f d : ℕ) (ts : List Token) → behind_close ts ≡ None → behind_comma ts ≡ None → flow_more (suc f) d ts ≡ None
stop_more f d [] h k = refl
stop_more f d (Close ∷ ts) h k = absurd cc
stop_more f d (Comma ∷ ts) h k = absurd cc
stop_more f d (t ∷ ts) h k = refl

stop_others : (f d : ℕ) (seen : List (List ℕ)) (ts : List Token) → behind_close_map ts ≡ None → behind_comma ts ≡ None → flow_others (suc f) d seen ts ≡ None
stop_others f d seen [] h k = refl
stop_others f d seen (CloseMap ∷ ts) h k = absurd cc
stop_others f d seen (Comma ∷ ts) h k = absurd cc
stop_others f d seen (t ∷ ts) h k = refl

no_key : (f d : ℕ) (seen : List (List ℕ)) (ts : List Token) → behind_close_map ts ≡ None → key_at ts ≡ None → flow_entries (suc f) d seen ts ≡ None
no_key f d seen [] h k = refl
no_key f d seen (CloseMap ∷ ts) h k = absurd cc
no_key f d seen (Key n key ∷ ts) h k = absurd cc
no_key f d seen (t ∷ ts) h k = refl

-- ---- the loop over items

-- reading the items is reading these, and then the ones from here on
pub record ItemsNow (d : ℕ) (ts : List Token) (so_far : List Tree) (at : List Token) : Type 0 where
  pub is : (f : ℕ) → 3 * length ts + 3 ≤ f → (g : ℕ) × (3 * length at + 3 ≤ g) × (flow_items f d ts ≡ with_items so_far (flow_items g d at))

pub items_start : {d : ℕ} {ts : List Token} (so_far : List Tree) → so_far ≡ [] → ItemsNow d ts so_far ts
items_start {d} {ts} so_far z = record { is = λ f g. (f, g, rw z (with_no_items (flow_items f d ts))) }

module _ {d : ℕ} {ts at : List Token} {so_far : List Tree} (now : ItemsNow d ts so_far at) where
  pub items_close : {rest : List Token} → behind_close at ≡ Some rest → FlowItemsIs d ts (got (items_of so_far) rest)
  items_close {rest} h = record {
    is = λ f g.
        let i = now.is f g in let j = one_less i.0 (omega (arith, i.1)) in i.2 ∙ rw (j.1, close_shape at rest h) (end_items rest so_far);
  }

  module _ (h : behind_close at ≡ None) where
    -- a turn whose value is known
    items_value : (o : Option (Got Token Tree)) → FlowIs d at o → (f : ℕ) → 3 * length ts + 3 ≤ f →
        (g : ℕ) × (3 * length at + 3 ≤ suc (suc g))
        × (flow_items f d ts ≡ with_items so_far (o >>= λ t. flow_more (suc g) d t.rest >>= λ is. got (item t.value is.value) is.rest))
    items_value o v f k =
        let i = now.is f k in
        let j = two_less i.0 (omega (arith, i.1)) in (
          j.0,
          omega (arith, i.1, j.1),
          i.2 ∙ ap (λ (f : ℕ). with_items so_far (flow_items f d at)) j.1 ∙ rw (open_items (suc j.0) d at h, v.is (suc j.0) (omega (arith, i.1, j.1))),
        )

    pub items_fail : FlowIs d at None → FlowItemsIs d ts None
    items_fail v = record { is = λ f k. (items_value None v f k).2 }

    module _ {t : Tree} {left : List Token} (v : FlowIs d at (got t left)) where
      pub items_end : {all : List Tree} {rest : List Token} → all ≡ so_far ++ t ∷ [] → behind_close left ≡ Some rest
          → FlowItemsIs d ts (got (items_of all) rest)
      items_end {all} {rest} z k = record {
        is = λ f g.
            let i = items_value (got t left) v f g in i.2 ∙ rw (close_shape left rest k) (last_items rest so_far all t z);
      }

      pub items_stop : behind_close left ≡ None → behind_comma left ≡ None → FlowItemsIs d ts None
      items_stop k m = record {
        is = λ f g.
            let i = items_value (got t left) v f g in i.2 ∙ rw (stop_more i.0 d left k m);
      }

      pub items_on : {all : List Tree} {rest : List Token} → all ≡ so_far ++ t ∷ [] → behind_comma left ≡ Some rest → length left < length at
          → length rest < length left → ItemsNow d ts all rest
      items_on {all} {rest} z k s u = record {
        is = λ f g.
            let i = items_value (got t left) v f g in (
              i.0,
              omega (arith, i.1),
              i.2 ∙ rw (ap (λ (ts : List Token). flow_more (suc i.0) d ts) (comma_shape left rest k))
                  (regroup_items (flow_items i.0 d rest) so_far all t z),
            );
      }

-- ---- the loop over entries

pub record EntriesNow (d : ℕ) (ts : List Token) (so_far : List Pair) (at : List Token) : Type 0 where
  pub is : (f : ℕ) → 3 * length ts + 3 ≤ f → (g : ℕ) × (3 * length at + 3 ≤ g)
      × (flow_entries f d [] ts ≡ with_entries so_far (flow_entries g d (keys_of so_far) at))

pub entries_start : {d : ℕ} {ts : List Token} (so_far : List Pair) → so_far ≡ [] → EntriesNow d ts so_far ts
entries_start {d} {ts} so_far z = record { is = λ f g. (f, g, rw z (with_no_entries (flow_entries f d [] ts))) }

module _ {d : ℕ} {ts at : List Token} {so_far : List Pair} (now : EntriesNow d ts so_far at) where
  pub entries_close : {rest : List Token} → behind_close_map at ≡ Some rest → FlowEntriesIs d ts (got (entries_of so_far) rest)
  entries_close {rest} h = record {
    is = λ f g.
        let i = now.is f g in let j = one_less i.0 (omega (arith, i.1)) in i.2 ∙ rw (j.1, close_map_shape at rest h) (end_entries rest so_far);
  }

  pub entries_no_key : behind_close_map at ≡ None → key_at at ≡ None → FlowEntriesIs d ts None
  entries_no_key h k = record {
    is = λ f g.
        let i = now.is f g in let j = one_less i.0 (omega (arith, i.1)) in i.2 ∙ rw (j.1, no_key j.0 d (keys_of so_far) at h k);
  }

  -- a turn at a key
  module _ {k : ℕ} {key : List ℕ} {rest : List Token} (h : key_at at ≡ Some (k, key, rest)) where
    entries_turn : (f : ℕ) → 3 * length ts + 3 ≤ f →
        (g : ℕ) × (3 * (length rest + 1) + 3 ≤ suc (suc g))
        × (flow_entries f d [] ts ≡ with_entries so_far (elim (is_among key (keys_of so_far)) [
          | true ↦ None
          | false ↦ flow (suc g) d rest >>= λ t. flow_others (suc g) d (keys_of so_far ++ key ∷ []) t.rest >>= λ es. got (entry k key t.value es.value) es.rest
        ]))
    entries_turn f g =
        let e = key_shape at k key rest h in
        let i = now.is f g in
        let j = two_less i.0 (omega (arith, i.1, ap length e)) in (j.0, omega (arith, i.1, j.1, ap length e), i.2 ∙ rw (j.1, e))

    pub entries_twice : is_among key (keys_of so_far) ≡ true → FlowEntriesIs d ts None
    entries_twice a = record { is = λ f g. (entries_turn f g).2 ∙ rw a }

    module _ (a : is_among key (keys_of so_far) ≡ false) where
      -- a turn whose value is known
      entries_value : (o : Option (Got Token Tree)) → FlowIs d rest o → (f : ℕ) → 3 * length ts + 3 ≤ f →
          (g : ℕ) × (3 * (length rest + 1) + 3 ≤ suc (suc g))
          × (flow_entries f d [] ts
          ≡ with_entries so_far (o >>= λ t. flow_others (suc g) d (keys_of so_far ++ key ∷ []) t.rest >>= λ es. got (entry k key t.value es.value) es.rest))
      entries_value o v f g = let i = entries_turn f g in (i.0, i.1, i.2 ∙ rw (a, v.is (suc i.0) (omega (arith, i.1))))

      pub entries_fail : FlowIs d rest None → FlowEntriesIs d ts None
      entries_fail v = record { is = λ f g. (entries_value None v f g).2 }

      module _ {t : Tree} {left : List Token} (v : FlowIs d rest (got t left)) where
        pub entries_end : {all : List Pair} {after : List Token} → all ≡ so_far ++ record { line = k; key = key; value = t } ∷ []
            → behind_close_map left ≡ Some after → FlowEntriesIs d ts (got (entries_of all) after)
        entries_end {all} {after} z m = record {
          is = λ f g.
              let i = entries_value (got t left) v f g in
              i.2 ∙ rw (close_map_shape left after m) (last_entries after so_far all (record { line = k; key = key; value = t }) z);
        }

        pub entries_stop : behind_close_map left ≡ None → behind_comma left ≡ None → FlowEntriesIs d ts None
        entries_stop m n = record {
          is = λ f g.
              let i = entries_value (got t left) v f g in i.2 ∙ rw (stop_others i.0 d (keys_of so_far ++ key ∷ []) left m n);
        }

        pub entries_on : {all : List Pair} {after : List Token} → all ≡ so_far ++ record { line = k; key = key; value = t } ∷ []
            → behind_comma left ≡ Some after → length left < length rest → length after < length left → EntriesNow d ts all after
        entries_on {all} {after} z m s u = record {
          is = λ f g.
              let p : Pair = record { line = k; key = key; value = t } in
              let i = entries_value (got t left) v f g in (
                i.0,
                omega (arith, i.1),
                i.2 ∙ rw (ap (λ (ts : List Token). flow_others (suc i.0) d (keys_of so_far ++ key ∷ []) ts) (comma_shape left after m))
                    (regroup_entries (flow_entries i.0 d (keys_of so_far ++ key ∷ []) after) so_far all p z
                    ∙ ap (λ (ks : List (List ℕ)). with_entries all (flow_entries i.0 d ks after)) (sym (keys_push so_far p) ∙ ap keys_of (sym z))),
              );
        }
