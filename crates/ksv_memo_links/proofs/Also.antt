-- Slots that go whatever a change touches are marked first, one after another.
use Rattle.ksv_memo_links.proofs.Common.{◌≡◌, ◌≢◌, inl, inr, false, ℕ, ◌+◌, ◌*◌, ◌<◌, ◌≤◌, List, length, get_or, sym, ◌∙◌, ap, subst, arith}
use Rattle.ksv_memo_links.proofs.Common.{Contains, AllPairs, sum_by, get_or_default, get_or-set_other, Change, Cause, Parts, is_kept, looks, MarksMore}
use Rattle.std.proofs.lemmas.Bool.{cases_Bool}
use Rattle.ksv_memo_links.specs.Links.{GoesItself, here, IsOverwrite, IsMove, pages_met, met_by, pages_behind, behind_by, ended_by}
use Rattle.ksv_memo_links.specs.Forgetting.{IsEdit, AreAlso, MarksFirst, HitsTouched}
use Rattle.ksv_memo_links.proofs.Mark.{stays-out}
use Rattle.ksv_memo_links.proofs.More.{more-trans, more-for, MarksOne, one-mark, one-out, below-more}

-- one more of them
pub first-more : {p q r : Parts} {slots : List ℕ} {i slot : ℕ} → AllPairs (λ (a b : ℕ). a ≢ b) slots → MarksFirst p q slots i → i < length slots
    → get_or slots i 0 ≡ slot → MarksOne q r slot → looks r + 2 * length q.marks.work ≤ looks q + 2 * length r.marks.work → MarksFirst p r slots (i + 1)
first-more {p} {q} {r} {slots} {i} {slot} once h lt e one few = record {
  more = more-trans h.more to_r (λ first x a m. a);
  out = below-more (λ j. is_kept r.marks.kept (get_or slots j 0) ≡ false) i
      (λ j lj. stays-out _ _ _ to_r.fewer (h.out j lj)) (ap (λ s. is_kept r.marks.kept s) e ∙ one-out _ _ _ one);
  left = λ j le lj.
      (let other : get_or slots j 0 ≢ slot = λ same. once i j 0 (omega arith) lj (e ∙ sym same) in
      ap (λ ks. is_kept ks (get_or slots j 0)) one.kept ∙ get_or-set_other q.marks.kept _ _ false false other ∙ h.left j (omega arith) lj);
  looks = omega (arith, h.looks);
}
  where
    there : Contains slots slot
    there = (i, lt, get_or_default slots i slot 0 lt ∙ e)

    to_r : MarksMore q r (AreAlso slots)
    to_r = one-mark _ _ _ _ one (λ first x a k. here slot (inr (subst (λ also. Contains also slot) (sym a) there)))

-- those that go by themselves were marked: these slots first, then those that the change touches
pub record Begins (p q : Parts) (cause : Cause) (pages : ℕ) : Type 0 where
  pub more : MarksMore p q (λ first x. IsEdit cause.change first x × AreAlso cause.also first x)
  pub hits : (s : ℕ) → GoesItself cause.change cause.also p.marks.kept p.uses.rows s → is_kept q.marks.kept s ≡ false
  pub near : IsOverwrite cause.change → looks q + 2 * length p.marks.work ≤ looks p + pages_met cause.change + 3 * sum_by (met_by cause.change) p.uses.rows
      + 2 * length q.marks.work
  pub behind : IsMove cause.change → looks q + 2 * length p.marks.work ≤ looks p + 1 + 2 * pages_behind cause.change pages
      + 3 * sum_by (behind_by cause.change) p.uses.rows + 3 * sum_by (ended_by cause.change) p.uses.rows + 2 * length q.marks.work

pub begins : {p p1 q : Parts} {change : Change} {also : List ℕ} {pages : ℕ} → MarksFirst p p1 also (length also) → HitsTouched p1 q change pages
    → Begins p q (record { change = change; also = also }) pages
begins {p} {p1} {q} {change} {also} {pages} m h = record {
  more = more-trans (more-for (λ first x w. w.1) m.more) h.more (λ first x w n. w.0);
  hits = each;
  near = λ o. omega (arith, m.looks, h.near o, ap (sum_by (met_by change)) m.more.same.uses);
  behind = λ o.
      omega (arith, m.looks, h.behind o, ap (sum_by (behind_by change)) m.more.same.uses, ap (sum_by (ended_by change)) m.more.same.uses);
}
  where
    each : (s : ℕ) → GoesItself change also p.marks.kept p.uses.rows s → is_kept q.marks.kept s ≡ false
    each s (inl hit) = elim (cases_Bool (is_kept p1.marks.kept s)) [
      | inl e ↦ h.hits s (record { was_kept = e; touched = rw m.more.same.uses hit.touched })
      | inr e ↦ stays-out _ _ _ h.more.fewer e
    ]
    each s (inr c) =
        let there : get_or also c.0 0 ≡ s = get_or_default also c.0 0 s c.1 ∙ c.2 in
        stays-out _ _ _ h.more.fewer (rw there at (m.out c.0 c.1))
