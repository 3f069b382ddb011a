-- A slot upon another is taken or kept, and the links stay whole.
use Rattle.ksv_memo_links.proofs.Common.{◌≡◌, ◌≢◌, inl, inr, Bool, true, false, ℕ, ◌<◌, ◌≤◌, List, [], ◌∷◌, ◌++◌, length, set, get_or, refl}
use Rattle.ksv_memo_links.proofs.Common.{sym, ◌∙◌, ap, arith, true≢false, length-set, get_or-set_same, get_or-set_other, set-set, set-get_or}
use Rattle.ksv_memo_links.proofs.Common.{get_or_append_left, Contains-append_left, Contains-push, eqb_tells, Use, Parts, row, HasSameRows, is_kept, IsShaped}
use Rattle.std.proofs.Common.{All}
use Rattle.std.proofs.lemmas.List.{length_push}
use Rattle.std.proofs.lemmas.List.Elements.{Contains-push_cases}
use Rattle.ksv_memo_links.specs.Marking.{HasMore}
use Rattle.ksv_memo_links.specs.Forgetting.{IsWhole, Clears, IsAsBefore, Fills}
use Rattle.ksv_memo_links.proofs.Edits.{row_set, row_other}
use Rattle.ksv_memo_links.proofs.Members.{none_in}

-- ---- what one slot asked and used is given anew
pub record IsSetAt (p r : Parts) (slot : ℕ) (asks : List ℕ) (us : List Use) : Type 0 where
  pub asked_other : (s : ℕ) → s ≢ slot → row r.asks.named s ≡ row p.asks.named s
  pub asked_here : row r.asks.named slot ≡ asks
  pub uses_other : (s : ℕ) → s ≢ slot → row r.uses.rows s ≡ row p.uses.rows s
  pub uses_here : row r.uses.rows slot ≡ us
  pub shaped : IsShaped r

set_at : (p r : Parts) (slot : ℕ) (asks : List ℕ) (us : List Use) → IsWhole p → slot < length p.marks.kept → r.asks.named ≡ set p.asks.named slot asks
    → r.uses.rows ≡ set p.uses.rows slot us → length r.asks.lists ≡ length p.asks.lists → length r.marks.kept ≡ length p.marks.kept
    → IsSetAt p r slot asks us
set_at p r slot asks us w inside named rows lists count = record {
  asked_other = asked_other;
  asked_here = cc (row_set p.asks.named slot asks (omega arith));
  uses_other = uses_other;
  uses_here = cc (row_set p.uses.rows slot us (omega arith));
  shaped = (let u = ap length named in let u1 = length-set p.asks.named slot asks in
      let v = ap length rows in let v1 = length-set p.uses.rows slot us in
      record {
        asks = omega arith;
        lists = omega arith;
        uses = omega arith;
        asked_in = λ s lt. elim (eqb_tells s slot) [
          | inl e ↦ omega arith
          | inr e ↦ let o = ap length (asked_other s e.1) in omega (arith, w.shaped.asked_in s (omega arith))
        ];
        used_in = λ s lt. elim (eqb_tells s slot) [
          | inl e ↦ omega arith
          | inr e ↦ let o = ap length (uses_other s e.1) in omega (arith, w.shaped.used_in s (omega arith))
        ];
      });
}
  where
    asked_other : (s : ℕ) → s ≢ slot → row r.asks.named s ≡ row p.asks.named s
    asked_other s ne = cc (row_other p.asks.named slot s asks ne)

    uses_other : (s : ℕ) → s ≢ slot → row r.uses.rows s ≡ row p.uses.rows s
    uses_other s ne = cc (row_other p.uses.rows slot s us ne)

-- ---- a slot is taken
module _ (p q r : Parts) (slot : ℕ) (w : IsWhole p) (kept : q.marks.kept ≡ p.marks.kept) (work : p.marks.work ≡ q.marks.work ++ slot ∷ [])
    (inside : slot < length p.marks.kept) (asks : q.asks ≡ p.asks) (uses : q.uses ≡ p.uses) (c : Clears q r slot) where
  kept_now : r.marks.kept ≡ p.marks.kept
  kept_now = cc

  work_now : p.marks.work ≡ r.marks.work ++ slot ∷ []
  work_now = cc

  at : IsSetAt p r slot [] []
  at = set_at _ _ _ _ _ w inside (cc) (cc) (cc) (ap length kept_now)

  out_now : is_kept p.marks.kept slot ≡ false
  out_now = w.waits slot (rw work_now (Contains-push _ _))

  pub taken_whole : IsWhole r
  taken_whole = record {
    shaped = at.shaped;
    asked_kept = λ s k e lt. (let e0 = ap (λ ks. is_kept ks s) (sym kept_now) ∙ e in
        let ne : s ≢ slot = λ same. true≢false (cc out_now) in
        let o = at.asked_other s ne in
        cc (kept_now, w.asked_kept s k e0 (rw o at lt)));
    vacant = λ s e non. elim (eqb_tells s slot) [
      | inl q ↦ (cc at.asked_here, cc at.uses_here)
      | inr q ↦ let v = w.vacant s (cc kept_now)
          (λ k. elim (Contains-push_cases r.marks.work slot s (rw work_now at k)) [ inl c ↦ non c | inr e ↦ q.1 (sym e) ]) in
          (at.asked_other s q.1 ∙ v.0, at.uses_other s q.1 ∙ v.1)
    ];
    waits = λ s k. cc (kept_now, w.waits s (rw work_now (Contains-append_left _ _ _ k)));
    apart = λ i j d lt l. (let n = ap length work_now in let m = length_push r.marks.work slot in
        let h = rw work_now at (w.apart i j d lt (omega arith)) in
        rw (get_or_append_left r.marks.work (slot ∷ []) d i (omega arith)) at (rw (get_or_append_left r.marks.work (slot ∷ []) d j l) at h));
  }

-- ---- more slots, which have nothing
pub same_rows : {T : Type 0} (rows : List (List T)) → HasSameRows rows rows
same_rows rows = record { more = omega arith; each = λ r. refl }

pub grown_whole : (p r : Parts) → IsWhole p → HasSameRows p.asks.named r.asks.named → HasSameRows p.uses.rows r.uses.rows → HasMore p.marks.kept r.marks.kept
    → r.marks.work ≡ p.marks.work → length r.marks.kept ≤ length r.asks.named → length r.marks.kept ≤ length r.asks.lists
    → length r.marks.kept ≤ length r.uses.rows → IsWhole r
grown_whole p r w asks uses kept work l1 l2 l3 = record {
  shaped = record {
    asks = l1;
    lists = l2;
    uses = l3;
    asked_in = λ s lt. (let o = ap length (asks.each s) in omega (arith, w.shaped.asked_in s (omega arith)));
    used_in = λ s lt. (let o = ap length (uses.each s) in omega (arith, w.shaped.used_in s (omega arith)));
  };
  asked_kept = λ s k e lt. cc (
    kept.each (get_or (row r.asks.named s) k 0),
    asks.each s,
    w.asked_kept s k (sym (kept.each s) ∙ e) (rw (asks.each s) at lt),
  );
  vacant = λ s e non. (let v = w.vacant s (sym (kept.each s) ∙ e) (λ c. non (rw work c)) in (asks.each s ∙ v.0, uses.each s ∙ v.1));
  waits = λ s c. kept.each s ∙ w.waits s (rw work at c);
  apart = rw work w.apart;
}

-- ---- nothing has changed
pub same_whole : {p r : Parts} → IsWhole p → IsAsBefore p r → IsWhole r
same_whole w s = record {
  shaped = record {
    asks = rw (s.marks, s.asks) w.shaped.asks;
    lists = rw (s.marks, s.ask_lists) w.shaped.lists;
    uses = rw (s.marks, s.uses) w.shaped.uses;
    asked_in = rw (s.marks, s.asks) w.shaped.asked_in;
    used_in = rw (s.marks, s.uses) w.shaped.used_in;
  };
  asked_kept = rw (s.marks, s.asks) w.asked_kept;
  vacant = rw (s.marks, s.asks, s.uses) w.vacant;
  waits = rw s.marks w.waits;
  apart = rw s.marks w.apart;
}

-- ---- a slot is kept
pub still_kept : (kept : List Bool) (slot s : ℕ) → slot < length kept → is_kept kept s ≡ true → is_kept (set kept slot true) s ≡ true
still_kept kept slot s lt e = elim (eqb_tells s slot) [
  | inl q ↦ cc (get_or-set_same kept slot true false lt)
  | inr q ↦ get_or-set_other kept slot s true false q.1 ∙ e
]

module _ {p q : Parts} (r : Parts) {slot : ℕ} {asks : List ℕ} {us : List Use} (w : IsWhole p) (idle : p.marks.work ≡ []) (inside : slot < length p.marks.kept)
    (asks_kept : All (λ s. is_kept p.marks.kept s ≡ true) asks) (f : Fills p q slot asks us) (linked : r.asks ≡ q.asks) (uses : r.uses ≡ q.uses)
    (kept : r.marks.kept ≡ set p.marks.kept slot true) (work : r.marks.work ≡ []) where
  filled : IsSetAt p r slot asks us
  filled = set_at _ _ _ _ _ w inside (cc) (cc) (cc)
      (ap length kept ∙ length-set p.marks.kept slot true)

  kept_other : (s : ℕ) → s ≢ slot → is_kept r.marks.kept s ≡ is_kept p.marks.kept s
  kept_other s ne = cc (get_or-set_other p.marks.kept slot s true false ne)

  pub filled_whole : IsWhole r
  filled_whole = record {
    shaped = filled.shaped;
    asked_kept = λ s k e lt. elim (eqb_tells s slot) [
      | inl q ↦ let o : row r.asks.named s ≡ asks = cc filled.asked_here in
          cc (now (get_or asks k 0) (asks_kept k 0 (rw o at lt)))
      | inr q ↦ let o = filled.asked_other s q.1 in
          cc (now (get_or (row p.asks.named s) k 0) (w.asked_kept s k (sym (kept_other s q.1) ∙ e) (rw o at lt)))
    ];
    vacant = λ s e non. elim (eqb_tells s slot) [
      | inl q ↦ absurd (true≢false (cc (get_or-set_same p.marks.kept slot true false inside)))
      | inr q ↦ let v = w.vacant s (sym (kept_other s q.1) ∙ e) (λ c. none_in s (rw idle at c)) in
          (filled.asked_other s q.1 ∙ v.0, filled.uses_other s q.1 ∙ v.1)
    ];
    waits = λ s c. absurd (none_in s (rw work at c));
    apart = λ i j d lt l. (let z = ap length work in absurd (omega arith));
  }
    where
      now : (s : ℕ) → is_kept p.marks.kept s ≡ true → is_kept r.marks.kept s ≡ true
      now s e = cc (still_kept p.marks.kept slot s inside e)

-- a row that was empty is so again
pub undone : {X : Type 0} (before : List (List X)) {now then : List (List X)} (o : ℕ) (xs : List X) → row before o ≡ [] → now ≡ set before o xs
    → then ≡ set now o [] → then ≡ before
undone {X} before o xs none e f = cc (set-set before o xs [], set-get_or before o [])
