-- Marks upon marks.
use Rattle.ksv_memo_links.proofs.Common.{◌≡◌, inl, inr, Bool, true, false, ℕ, ◌+◌, ◌<◌, ◌≤◌, List, [], ◌++◌, length, set, refl, sym, ◌∙◌, ap, subst}
use Rattle.ksv_memo_links.proofs.Common.{arith, length-set, append-nil, eqb_tells, Cause, Parts, row, is_kept, IsMarking, IsShaped, SameLinks}
use Rattle.ksv_memo_links.proofs.Common.{looks, Why, MarksMore}
use Rattle.std.proofs.Common.{append_assoc}
use Rattle.ksv_memo_links.specs.Marking.{marked_work, IsCounted}
use Rattle.ksv_memo_links.proofs.Mark.{kept-fewer, kept-marked, marked-grows, mark-step}

pub same-trans : (p q r : Parts) → SameLinks p q → SameLinks q r → SameLinks p r
same-trans p q r h k = record {
  asks = k.asks ∙ h.asks;
  ask_lists = k.ask_lists ∙ h.ask_lists;
  uses = k.uses ∙ h.uses;
  use_lists = k.use_lists ∙ h.use_lists;
}

pub shaped-more : (p q : Parts) → IsShaped p → SameLinks p q → length q.marks.kept ≡ length p.marks.kept → IsShaped q
shaped-more p q h s e = record {
  asks = omega (arith, ap length s.asks);
  lists = omega (arith, ap length s.ask_lists);
  uses = omega (arith, ap length s.uses);
  asked_in = λ t lt. (let a = ap (λ rows. length (row rows t)) s.asks in omega (arith, h.asked_in t (omega arith)));
  used_in = λ t lt. (let a = ap (λ rows. length (row rows t)) s.uses in omega (arith, h.used_in t (omega arith)));
}

-- the reasons are those of the parts as they were
pub why-along : {p q : Parts} (first : List Bool) (x : Cause) (P : (ℕ → Type 0) → Type 0) → SameLinks p q → P (Why p first x) → P (Why q first x)
why-along first x P s h =
    rw s.asks (rw s.uses h)

pub why-back : (p q : Parts) (first : List Bool) (x : Cause) (P : (ℕ → Type 0) → Type 0) → SameLinks p q → P (Why q first x) → P (Why p first x)
why-back p q first x P s h =
    rw s.asks at (rw s.uses at h)

pub more-trans : {p q r : Parts} {P Q : List Bool → Cause → Type 0} → MarksMore p q P → MarksMore q r Q
    → ((first : List Bool) (x : Cause) → P first x → IsMarking first (Why p first x) q.marks.kept q.marks.work → Q first x) → MarksMore p r P
more-trans {p} {q} {r} h k f = record {
  same = same-trans p q r h.same k.same;
  same_length = k.same_length ∙ h.same_length;
  fewer = λ s e. h.fewer s (k.fewer s e);
  marking = λ first x w m.
      (let n = h.marking first x w m in why-back _ _ first x (λ why. IsMarking first why r.marks.kept r.marks.work) h.same
      (k.marking first x (f first x w n) (why-along first x (λ why. IsMarking first why q.marks.kept q.marks.work) h.same n)));
  grows = (h.grows.0 ++ k.grows.0, cc (append_assoc p.marks.work h.grows.0 k.grows.0));
  least = λ from c. k.least from (h.least from c);
  rises = omega arith;
}

pub mark-none : {p : Parts} {P : List Bool → Cause → Type 0} → MarksMore p p P
mark-none {p} = record {
  same = record { asks = refl; ask_lists = refl; uses = refl; use_lists = refl };
  same_length = refl;
  fewer = λ s e. e;
  marking = λ first x w m. m;
  grows = ([], sym (append-nil p.marks.work));
  least = λ from c. c;
  rises = omega arith;
}

-- the same marks, where fewer reasons are told of
pub more-for : {p q : Parts} {P Q : List Bool → Cause → Type 0} → ((first : List Bool) (x : Cause) → Q first x → P first x) → MarksMore p q P → MarksMore p q Q
more-for f h = more-trans mark-none h (λ first x w m. f first x w)

-- what one call marks
pub record MarksOne (p q : Parts) (s : ℕ) : Type 0 where
  pub same : SameLinks p q
  pub kept : q.marks.kept ≡ set p.marks.kept s false
  pub work : q.marks.work ≡ marked_work p.marks.kept p.marks.work s
  pub least : (from : ℕ) → IsCounted from p.marks → IsCounted from q.marks
  pub rises : looks p ≤ looks q

pub one-mark : (p q : Parts) (P : List Bool → Cause → Type 0) (s : ℕ) → MarksOne p q s
    → ((first : List Bool) (x : Cause) → P first x → is_kept first s ≡ true → Why p first x s) → MarksMore p q P
one-mark p q P s h why = record {
  same = h.same;
  same_length = ap length h.kept ∙ length-set p.marks.kept s false;
  fewer = λ t e. kept-fewer p.marks.kept s t (cc);
  marking = λ first x w m. (rw h.kept (rw h.work (mark-step s m (λ e. why first x w (m.less s e)))));
  grows = let g = marked-grows p.marks.kept p.marks.work s in (g.0, h.work ∙ g.1);
  least = h.least;
  rises = h.rises;
}

pub no-mark : (p q : Parts) (P : List Bool → Cause → Type 0) → SameLinks p q → q.marks.kept ≡ p.marks.kept → q.marks.work ≡ p.marks.work
    → ((from : ℕ) → IsCounted from p.marks → IsCounted from q.marks) → looks p ≤ looks q → MarksMore p q P
no-mark p q P s e f least rises = record {
  same = s;
  same_length = ap length e;
  fewer = λ t k. cc;
  marking = λ first x w m. (rw e (rw f m));
  grows = ([], f ∙ sym (append-nil p.marks.work));
  least = least;
  rises = rises;
}

pub one-out : (p q : Parts) (s : ℕ) → MarksOne p q s → is_kept q.marks.kept s ≡ false
one-out p q s h = cc (kept-marked p.marks.kept s)

-- what holds below i and at i holds below i + 1
pub below-more : (P : ℕ → Type 0) (i : ℕ) → ((j : ℕ) → j < i → P j) → P i → (j : ℕ) → j < i + 1 → P j
below-more P i h k j lt = elim (eqb_tells j i) [
  | inl e ↦ subst P (sym e.1) k
  | inr e ↦ h j (omega arith)
]
