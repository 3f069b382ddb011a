-- One more mark.
use Rattle.ksv_memo_links.proofs.Common.{◌≡◌, ◌≢◌, inl, inr, Bool, true, false, ℕ, List, [], ◌∷◌, ◌++◌, length, set, get_or, refl, sym, ◌∙◌}
use Rattle.ksv_memo_links.proofs.Common.{subst, arith, Contains, true≢false, append-nil, length-set, get_or-set_same, get_or-set_other, get_or_append_left}
use Rattle.ksv_memo_links.proofs.Common.{set-get_or, get_or_past, get_or_default, Contains-push, Contains-append_left, cases_lt, eqb_tells, is_kept, IsMarking}
use Rattle.std.proofs.lemmas.List.{length_push, get_or_push, set_past}
use Rattle.std.proofs.lemmas.List.Quantifiers.{all_pairs_push}
use Rattle.std.proofs.lemmas.Bool.{cases_Bool}
use Rattle.ksv_memo_links.specs.Marking.{marked_work}

pub kept-fewer : (kept : List Bool) (s t : ℕ) → is_kept (set kept s false) t ≡ true → is_kept kept t ≡ true
kept-fewer kept s t h = elim (eqb_tells t s) [
  | inl e ↦ elim (cases_lt s (length kept)) [
    | inl lt ↦ absurd (true≢false (cc (get_or-set_same kept s false false lt)))
    | inr le ↦ cc (set_past kept s false le)
  ]
  | inr e ↦ sym (get_or-set_other kept s t false false e.1) ∙ h
]

pub kept-marked : (kept : List Bool) (s : ℕ) → is_kept (set kept s false) s ≡ false
kept-marked kept s = elim (cases_lt s (length kept)) [
  | inl lt ↦ get_or-set_same _ _ _ _ lt
  | inr le ↦ get_or_past (set kept s false) s false (omega (arith, length-set kept s false))
]

-- what isn't kept any more stays so
pub stays-out : (kept now : List Bool) (s : ℕ) → ((t : ℕ) → is_kept now t ≡ true → is_kept kept t ≡ true) → is_kept kept s ≡ false → is_kept now s ≡ false
stays-out kept now s fewer h = elim (cases_Bool (is_kept now s)) [
  | inl e ↦ absurd (true≢false (sym (fewer s e) ∙ h))
  | inr e ↦ e
]

marked_no : (kept : List Bool) (work : List ℕ) (s : ℕ) → is_kept kept s ≡ false → marked_work kept work s ≡ work
marked_no kept work s e = rw e refl

pub marked_yes : (kept : List Bool) (work : List ℕ) (s : ℕ) → is_kept kept s ≡ true → marked_work kept work s ≡ work ++ s ∷ []
marked_yes kept work s e = rw e refl

set_no : (kept : List Bool) (s : ℕ) → is_kept kept s ≡ false → set kept s false ≡ kept
set_no kept s e = cc (set-get_or kept s false)

pub marked-grows : (kept : List Bool) (work : List ℕ) (s : ℕ) → (more : List ℕ) × (marked_work kept work s ≡ work ++ more)
marked-grows kept work s = elim (cases_Bool (is_kept kept s)) [
  | inl e ↦ (s ∷ [], marked_yes _ _ _ e)
  | inr e ↦ ([], marked_no kept _ s e ∙ sym (append-nil work))
]

mark-new : {first : List Bool} {why : ℕ → Type 0} {kept : List Bool} {work : List ℕ} (s : ℕ) → IsMarking first why kept work → is_kept kept s ≡ true → why s
    → IsMarking first why (set kept s false) (work ++ s ∷ [])
mark-new {first} {why} {kept} {work} s h e w = record {
  same_length = length-set kept s false ∙ h.same_length;
  less = λ t k. h.less t (kept-fewer kept s t k);
  gone = λ j lt. elim (cases_lt j (length work)) [
    | inl lt ↦ let g = h.gone j lt in
        subst P (sym (get_or_append_left work (s ∷ []) 0 j lt)) (g.0, stays-out kept (set kept s false) (get_or work j 0) (kept-fewer _ _) g.1, g.2)
    | inr le ↦ let n = length_push work s in
        let last : length work ≡ j = omega arith in
        subst P (sym (get_or_push work s 0 j last)) (h.less s e, kept-marked kept s, w)
  ];
  out = λ t k l. elim (eqb_tells t s) [
    | inl q ↦ subst (Contains (work ++ s ∷ [])) (sym q.1) (Contains-push _ _)
    | inr q ↦ Contains-append_left _ _ _ (h.out t k (sym (get_or-set_other kept s t false false q.1) ∙ l))
  ];
  apart = all_pairs_push (λ a b. a ≢ b) work s h.apart
      (λ k d lt q. true≢false (cc (get_or_default work k d 0 lt, (h.gone k lt).1)));
}
  where
    P : ℕ → Type 0
    P t = (is_kept first t ≡ true) × (is_kept (set kept s false) t ≡ false) × why t

pub mark-step : {first : List Bool} {why : ℕ → Type 0} {kept : List Bool} {work : List ℕ} (s : ℕ) → IsMarking first why kept work
    → (is_kept kept s ≡ true → why s) → IsMarking first why (set kept s false) (marked_work kept work s)
mark-step {first} {why} {kept} {work} s h w = elim (cases_Bool (is_kept kept s)) [
  | inl e ↦ subst (P (set kept s false)) (sym (marked_yes kept work s e)) (mark-new s h e (w e))
  | inr e ↦ rw (set_no _ s e) (subst (P kept) (sym (marked_no kept _ s e)) h)
]
  where
    P : List Bool → List ℕ → Type 0
    P ks ws = IsMarking first why ks ws
