-- What parts spell is read, whatever follows.
use Rattle.ksv_yaml.proofs.Common.{◌≡◌, ℕ, suc, ◌+◌, ◌*◌, ◌≤◌, Bool, false, List, [], ◌∷◌, ◌++◌, length, Option, refl, ap, ◌∙◌, append_assoc, arith, Tree, Text}
use Rattle.ksv_yaml.proofs.Common.{Seq, Map, Items, no_items, item, Entries, no_entries, entry, AreDistinct, is_among, flow, flow_items, flow_more}
use Rattle.ksv_yaml.proofs.Common.{flow_entries, flow_others, Got, got, ◌>>=◌, Token, Open, Close, OpenMap, CloseMap, Comma, Key, Flow, pick_false}
use Rattle.std.proofs.Common.{length-append}
use Rattle.ksv_yaml_scan.specs.Tokens.{Scalar}
use Rattle.ksv_yaml.specs.Flow.{scalar, list, dict, FlowItems, no_more, only, then, FlowEntries, no_others, last, more}
use Rattle.ksv_yaml.proofs.Steps.{one_less, two_less}
use Rattle.ksv_yaml.proofs.Distinct.{AreClear, distinct_clear}

-- a first value, and more
abbrev first_item : ℕ → ℕ → List Token → Option (Got Token Items)
first_item f d ts = flow f d ts >>= λ t. flow_more f d t.rest >>= λ is. got (item t.value is.value) is.rest

pub record FlowOk (d : ℕ) (ts : List Token) (t : Tree) : Type 0 where
  pub reads : (rest : List Token) (f : ℕ) → 3 * length (ts ++ rest) + 1 ≤ f → flow f d (ts ++ rest) ≡ got t rest
  pub begins : (e f : ℕ) (rest : List Token) → flow_items (suc f) e (ts ++ rest) ≡ first_item f e (ts ++ rest)

pub record ItemsOk (d : ℕ) (ts : List Token) (is : Items) : Type 0 where
  pub reads : (rest : List Token) (f : ℕ) → 3 * length (ts ++ Close ∷ rest) + 3 ≤ f → flow_items f d (ts ++ Close ∷ rest) ≡ got is rest

pub record EntriesOk (d : ℕ) (ts : List Token) (es : Entries) : Type 0 where
  pub reads : (rest : List Token) (f : ℕ) (seen : List (List ℕ)) → AreClear seen es → 3 * length (ts ++ CloseMap ∷ rest) + 3 ≤ f
      → flow_entries f d seen (ts ++ CloseMap ∷ rest) ≡ got es rest

entries_turn : (f d k : ℕ) (seen : List (List ℕ)) (key : List ℕ) (ts : List Token) {t : Tree} {mid : List Token} {es : Entries} {rest : List Token}
    → is_among key seen ≡ false → flow f d ts ≡ got t mid → flow_others f d (seen ++ key ∷ []) mid ≡ got es rest
    → flow_entries (suc f) d seen (Key k key ∷ ts) ≡ got (entry k key t es) rest
entries_turn f d k seen key ts ea ev em = pick_false (is_among key seen) _ _ ea ∙ rw (ev, em)

-- the whole, with what follows
cut_two : (ts xs ys rest : List Token) (t : Token) → ts ≡ xs ++ t ∷ ys → ts ++ rest ≡ xs ++ (t ∷ (ys ++ rest))
cut_two ts xs ys rest t e = rw (e, append_assoc)

ok_scalar : (d k : ℕ) (q : Bool) (text : List ℕ) → FlowOk d (Scalar k q text ∷ []) (Text k q text)
ok_scalar d k q text = record { reads = λ rest f g. let i = one_less f (omega arith) in rw i.1; begins = λ e f rest. refl }

ok_list : {d : ℕ} (k : ℕ) {ts : List Token} {is : Items} (xs : List Token) → ts ≡ xs ++ Close ∷ [] → ItemsOk d xs is → FlowOk (suc d) (Open k ∷ ts) (Seq k is)
ok_list k {ts} xs split o = record {
  reads = λ rest f g.
      let i = one_less f (omega arith) in
      let w = cut_two ts xs [] rest Close split in rw (w, i.1, o.reads rest i.0 (omega (arith, i.1, g, ap length w)));
  begins = λ e f rest. refl;
}

ok_dict : {d : ℕ} (k : ℕ) {ts : List Token} {es : Entries} (xs : List Token) → ts ≡ xs ++ CloseMap ∷ [] → AreDistinct es → EntriesOk d xs es
    → FlowOk (suc d) (OpenMap k ∷ ts) (Map k es)
ok_dict k {ts} {es} xs split distinct o = record {
  reads = λ rest f g.
      let i = one_less f (omega arith) in
      let w = cut_two ts xs [] rest CloseMap split in
      rw (w, i.1, o.reads rest i.0 [] (distinct_clear [] es distinct (λ j e. absurd cc)) (omega (arith, i.1, g, ap length w)));
  begins = λ e f rest. refl;
}

ok_no_more : {d : ℕ} → ItemsOk d [] no_items
ok_no_more = record { reads = λ rest f g. let i = one_less f (omega arith) in rw i.1 }

ok_only : {d : ℕ} {ts : List Token} {t : Tree} → FlowOk d ts t → ItemsOk d ts (item t no_items)
ok_only {d} o = record {
  reads = λ rest f g.
      let i = two_less f (omega arith) in
      rw (i.1, o.begins d (suc i.0) (Close ∷ rest), o.reads (Close ∷ rest) (suc i.0) (omega (arith, i.1, g)));
}

ok_then : {d : ℕ} {ts : List Token} {t : Tree} {is : Items} (xs ys : List Token) → ts ≡ xs ++ Comma ∷ ys → FlowOk d xs t → ItemsOk d ys is
    → ItemsOk d ts (item t is)
ok_then {d} {ts} xs ys split o s = record {
  reads = λ rest f g.
      let us : List Token = Comma ∷ (ys ++ Close ∷ rest) in
      let i = two_less f (omega arith) in
      let w = cut_two ts xs ys (Close ∷ rest) Comma split in
      let n = ap length w in
      rw (
        w,
        i.1,
        o.begins d (suc i.0) us,
        o.reads us (suc i.0) (omega (arith, i.1, g, n)),
        s.reads rest i.0 (omega (arith, i.1, g, n, length-append xs us)),
      );
}

ok_no_others : {d : ℕ} → EntriesOk d [] no_entries
ok_no_others = record { reads = λ rest f seen c g. let i = one_less f (omega arith) in rw i.1 }

ok_last : {d : ℕ} (k : ℕ) (key : List ℕ) {ts : List Token} {t : Tree} → FlowOk d ts t → EntriesOk d (Key k key ∷ ts) (entry k key t no_entries)
ok_last {d} k key {ts} o = record {
  reads = λ rest f seen c g.
      let i = two_less f (omega arith) in rw i.1 (entries_turn (suc i.0) d k seen key (ts ++ CloseMap ∷ rest) c.0 (o.reads (CloseMap ∷ rest) (suc i.0)
      (omega (arith, i.1, g))) refl);
}

ok_more : {d : ℕ} (k : ℕ) (key : List ℕ) {ts : List Token} {t : Tree} {es : Entries} (xs ys : List Token) → ts ≡ xs ++ Comma ∷ ys → FlowOk d xs t
    → EntriesOk d ys es → EntriesOk d (Key k key ∷ ts) (entry k key t es)
ok_more {d} k key {ts} xs ys split o s = record {
  reads = λ rest f seen c g.
      let us : List Token = Comma ∷ (ys ++ CloseMap ∷ rest) in
      let i = two_less f (omega arith) in
      let w = cut_two ts xs ys (CloseMap ∷ rest) Comma split in
      let n = ap length w in
      rw (w, i.1) (entries_turn (suc i.0) d k seen key (xs ++ us) c.0 (o.reads us (suc i.0) (omega (arith, i.1, g, n)))
      (s.reads rest i.0 (seen ++ key ∷ []) c.1 (omega (arith, i.1, g, n, length-append xs us))));
}

mutual
  pub flow_ok : {d : ℕ} {ts : List Token} {t : Tree} → Flow d ts t → FlowOk d ts t
  flow_ok {d} (scalar {k = k} {q = q} {text = text}) = ok_scalar d k q text
  flow_ok (list {k = k} xs split s) = ok_list k xs split (flow_items_ok s)
  flow_ok (dict {k = k} xs split s distinct) = ok_dict k xs split distinct (flow_entries_ok s)

  pub flow_items_ok : {d : ℕ} {ts : List Token} {is : Items} → FlowItems d ts is → ItemsOk d ts is
  flow_items_ok no_more = ok_no_more
  flow_items_ok (only w) = ok_only (flow_ok w)
  flow_items_ok (then xs ys split w s) = ok_then xs ys split (flow_ok w) (flow_items_ok s)

  pub flow_entries_ok : {d : ℕ} {ts : List Token} {es : Entries} → FlowEntries d ts es → EntriesOk d ts es
  flow_entries_ok no_others = ok_no_others
  flow_entries_ok (last {k = k} {key = key} w) = ok_last k key (flow_ok w)
  flow_entries_ok (more {k = k} {key = key} xs ys split w s) = ok_more k key xs ys split (flow_ok w) (flow_entries_ok s)
