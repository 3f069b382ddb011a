-- What is read of a flow node is spelled so.
use Rattle.ksv_yaml.proofs.Common.{◌≡◌, ℕ, zero, suc, List, [], ◌∷◌, ◌++◌, Some, refl, sym, ap, subst, ◌∙◌, append_assoc, ◌⊎◌, inl, inr, Tree}
use Rattle.ksv_yaml.proofs.Common.{Items, no_items, item, Entries, no_entries, entry, is_among, flow, flow_items, flow_more, flow_entries, flow_others, Got}
use Rattle.ksv_yaml.proofs.Common.{Token, Open, Close, OpenMap, CloseMap, Comma, Key, Flow}
use Rattle.ksv_yaml_scan.specs.Tokens.{Scalar}
use Rattle.ksv_yaml.specs.Flow.{scalar, list, dict, FlowItems, no_more, only, then, FlowEntries, no_others, last, more}
use Rattle.ksv_yaml.proofs.Steps.{bind_some, with_bind, with_deeper, got_is, Took, took_first}
use Rattle.ksv_yaml_scan.proofs.Choices.{pick_guard}
use Rattle.ksv_yaml.proofs.Distinct.{AreClear, clear_distinct}

-- parts that end with a closing bracket
pub record Closed (close : Token) (P : List Token → Type 0) (zs : List Token) : Type 0 where
  pub inner : List Token
  pub is : zs ≡ inner ++ close ∷ []
  pub holds : P inner

-- a comma is before them
pub record Behind (close : Token) (P : List Token → Type 0) (zs : List Token) : Type 0 where
  pub inner : List Token
  pub is : zs ≡ Comma ∷ (inner ++ close ∷ [])
  pub holds : P inner

-- the closing bracket alone
pub record Over {A : Type 0} (close : Token) (none : A) (ts : List Token) (x : Got Token A) : Type 0 where
  pub value : x.value ≡ none
  pub is : ts ≡ close ∷ x.rest

abbrev pub More : {A : Type 0} → Token → A → (List Token → A → Type 0) → List Token → Got Token A → Type 0
More close none P ts x = Over close none ts x ⊎ Took Token ts x.rest (Behind close (λ xs. P xs x.value))

-- nothing but the closing bracket
closed_none : (close : Token) (P : List Token → Type 0) (ts : List Token) → P [] → Took Token (close ∷ ts) ts (Closed close P)
closed_none close P ts p = record { front = close ∷ []; cut = refl; is = record { inner = []; is = refl; holds = p } }

-- a first value, and what more there is; a front is before it
joined : {A : Type 0} (close : Token) (pre : List Token) (none : A) (P : List Token → A → Type 0) (Q : List Token → Type 0) (R : List Token → A → Type 0)
    {ts mid : List Token} (x : Got Token A) →
    ((xs : List Token) → Q xs → R (pre ++ xs) none) → ((xs ys : List Token) → Q xs → P ys x.value → R (pre ++ (xs ++ Comma ∷ ys)) x.value) →
    Took Token ts mid Q → More close none P mid x → Took Token (pre ++ ts) x.rest (Closed close (λ xs. R xs x.value))
joined close pre none P Q R {ts} {mid} x f g t (inl o) = record {
  front = (pre ++ t.front) ++ close ∷ [];
  cut = ap (λ (r : List Token). pre ++ r) (t.cut ∙ ap (λ (r : List Token). t.front ++ r) o.is) ∙ sym (append_assoc pre t.front (close ∷ x.rest))
      ∙ sym (append_assoc (pre ++ t.front) (close ∷ []) x.rest);
  is = record { inner = pre ++ t.front; is = refl; holds = subst (λ (v : _). R (pre ++ t.front) v) (sym o.value) (f t.front t.is) };
}
joined close pre none P Q R {ts} {mid} x f g t (inr u) = record {
  front = pre ++ (t.front ++ u.front);
  cut = ap (λ (r : List Token). pre ++ r) (t.cut ∙ ap (λ (r : List Token). t.front ++ r) u.cut ∙ sym (append_assoc t.front u.front x.rest))
      ∙ sym (append_assoc pre (t.front ++ u.front) x.rest);
  is = record {
    inner = pre ++ (t.front ++ Comma ∷ u.is.inner);
    is = ap (λ (r : List Token). pre ++ (t.front ++ r)) u.is.is
        ∙ ap (λ (r : List Token). pre ++ r) (sym (append_assoc t.front (Comma ∷ u.is.inner) (close ∷ [])))
        ∙ sym (append_assoc pre (t.front ++ Comma ∷ u.is.inner) (close ∷ []));
    holds = g t.front u.is.inner t.is u.is.holds;
  };
}

mutual
  pub flow_sound : (f d : ℕ) (ts : List Token) (x : Got Token Tree) → flow f d ts ≡ Some x → Took Token ts x.rest (λ xs. Flow d xs x.value)
  flow_sound zero d ts x h = absurd cc
  flow_sound (suc f) d (Scalar k q text ∷ ts) x h =
      rw (← (got_is h))
      (record { front = Scalar k q text ∷ []; cut = refl; is = scalar })
  flow_sound (suc f) d (Open k ∷ ts) x h =
      with_deeper d _ x h (λ m e h. with_bind (flow_items f m ts) _ x h (λ is i h.
      rw (e, ← (got_is h)) (took_first (Open k) _ (λ xs c. list c.inner c.is c.holds) (flow_items_sound f m ts is i))))
  flow_sound (suc f) d (OpenMap k ∷ ts) x h =
      with_deeper d _ x h (λ m e h. with_bind (flow_entries f m [] ts) _ x h (λ es i h.
      let s = flow_entries_sound f m [] ts es i in
      rw (e, ← (got_is h)) (took_first (OpenMap k) _ (λ xs c. dict c.inner c.is c.holds (clear_distinct [] es.value s.1)) s.0)))
  flow_sound (suc f) d ts x h = absurd cc

  flow_items_sound : (f d : ℕ) (ts : List Token) (x : Got Token Items) → flow_items f d ts ≡ Some x
      → Took Token ts x.rest (Closed Close (λ xs. FlowItems d xs x.value))
  flow_items_sound zero d ts x h = absurd cc
  flow_items_sound (suc f) d (Close ∷ ts) x h = rw (← (got_is h)) (closed_none Close _ ts no_more)
  flow_items_sound (suc f) d ts x h =
      let t = bind_some (flow f d ts) _ x h in
      let is = bind_some (flow_more f d t.0.rest) _ x t.2 in
      rw (← (got_is is.2))
      (joined Close [] no_items (λ xs is. FlowItems d xs is) (λ xs. Flow d xs t.0.value) (λ xs is. FlowItems d xs (item t.0.value is)) is.0 (λ xs w. only w)
      (λ xs ys w s. then xs ys refl w s) (flow_sound f d ts t.0 t.1) (flow_more_sound f d t.0.rest is.0 is.1))

  flow_more_sound : (f d : ℕ) (ts : List Token) (x : Got Token Items) → flow_more f d ts ≡ Some x → More Close no_items (λ xs is. FlowItems d xs is) ts x
  flow_more_sound zero d ts x h = absurd cc
  flow_more_sound (suc f) d (Close ∷ ts) x h = inl (rw (← (got_is h)) (record { value = refl; is = refl }))
  flow_more_sound (suc f) d (Comma ∷ ts) x h =
      inr (took_first Comma _ (λ xs c. record { inner = c.inner; is = ap (λ (r : List Token). Comma ∷ r) c.is; holds = c.holds }) (flow_items_sound f d ts x h))
  flow_more_sound (suc f) d ts x h = absurd cc

  flow_entries_sound : (f d : ℕ) (seen : List (List ℕ)) (ts : List Token) (x : Got Token Entries) → flow_entries f d seen ts ≡ Some x
      → Took Token ts x.rest (Closed CloseMap (λ xs. FlowEntries d xs x.value)) × AreClear seen x.value
  flow_entries_sound zero d seen ts x h = absurd cc
  flow_entries_sound (suc f) d seen (CloseMap ∷ ts) x h =
      rw (← (got_is h)) (closed_none CloseMap _ ts no_others, tt)
  flow_entries_sound (suc f) d seen (Key k key ∷ ts) x h =
      let g = pick_guard (is_among key seen)
      _ x h in
      let t = bind_some (flow f d ts) _ x g.1 in
      let es = bind_some (flow_others f d (seen ++ key ∷ []) t.0.rest) _ x t.2 in
      let s = flow_others_sound f d (seen ++ key ∷ []) t.0.rest es.0 es.1 in
      rw (← (got_is es.2)) (
        joined CloseMap (Key k key ∷ []) no_entries (λ xs es. FlowEntries d xs es) (λ xs. Flow d xs t.0.value)
            (λ xs es. FlowEntries d xs (entry k key t.0.value es)) es.0 (λ xs w. last w) (λ xs ys w s. more xs ys refl w s) (flow_sound f d ts t.0 t.1) s.0,
        (g.0, s.1),
      )
  flow_entries_sound (suc f) d seen ts x h = absurd cc

  flow_others_sound : (f d : ℕ) (seen : List (List ℕ)) (ts : List Token) (x : Got Token Entries) → flow_others f d seen ts ≡ Some x
      → More CloseMap no_entries (λ xs es. FlowEntries d xs es) ts x × AreClear seen x.value
  flow_others_sound zero d seen ts x h = absurd cc
  flow_others_sound (suc f) d seen (CloseMap ∷ ts) x h =
      rw (← (got_is h))
      (inl (record { value = refl; is = refl }), tt)
  flow_others_sound (suc f) d seen (Comma ∷ ts) x h =
      let s = flow_entries_sound f d seen ts x h in
      (inr (took_first Comma _ (λ xs c. record { inner = c.inner; is = ap (λ (r : List Token). Comma ∷ r) c.is; holds = c.holds }) s.0), s.1)
  flow_others_sound (suc f) d seen ts x h = absurd cc
