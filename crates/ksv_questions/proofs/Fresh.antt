-- The nodes that two questions one after the other complete, and their costs.
use Rattle.ksv_questions.proofs.Common.{◌≡◌, ℕ, zero, suc, ◌+◌, Bool, true, false, List, [], ◌∷◌, ◌++◌, Option, None, refl, sym, ◌∙◌, ap, ◌||◌, append_assoc}
use Rattle.ksv_questions.proofs.Common.{arith, append-nil, is_among, costs, counted, fresh}
use Rattle.ksv_memo_rules.specs.Meaning.{Standing}
use Rattle.ksv_memo_rules.proofs.Keeping.{is_among-append}
use Rattle.ksv_memo.proofs.Moves.{fresh-in, fresh-nil, fresh-out}
use Rattle.ksv_memo.proofs.Questions.{among-again}
use Rattle.ksv_memo.proofs.Places.{fresh-same}

-- ---- membership

-- lists of the same members have the same members with more after them
pub among_more : {N : Type 0} (number : N → ℕ) (ks ls ms : List N) → ((x : N) → is_among number ks x ≡ is_among number ls x) → (x : N)
    → is_among number (ks ++ ms) x ≡ is_among number (ls ++ ms) x
among_more number ks ls ms same x =
    is_among-append number ks ms x ∙ ap (λ b. b || is_among number ms x) (same x) ∙ sym (is_among-append number ls ms x)

-- ---- what is fresh

-- of two lists it is what is fresh of the first, and then of the second
pub fresh_append : {N : Type 0} (number : N → ℕ) (ks ms ns : List N) → fresh number ks (ms ++ ns) ≡ fresh number ks ms ++ fresh number (ks ++ ms) ns
fresh_append number ks [] ns = ap (λ ls. fresh number ls ns) (sym (append-nil ks)) ∙ ap (λ rest. rest ++ fresh number (ks ++ []) ns) (sym (fresh-nil number ks))
fresh_append {N} number ks (m ∷ ms) ns = by (is_among number ks m) refl (fresh_append number ks ms ns) (fresh_append number (ks ++ m ∷ []) ms ns)
  where
    by : (b : Bool) → is_among number ks m ≡ b → fresh number ks (ms ++ ns) ≡ fresh number ks ms ++ fresh number (ks ++ ms) ns
        → fresh number (ks ++ m ∷ []) (ms ++ ns) ≡ fresh number (ks ++ m ∷ []) ms ++ fresh number ((ks ++ m ∷ []) ++ ms) ns
        → fresh number ks ((m ∷ ms) ++ ns) ≡ fresh number ks (m ∷ ms) ++ fresh number (ks ++ m ∷ ms) ns
    by true e ih _ =
        fresh-in number ks m (ms ++ ns) e ∙ ih
        ∙ ap (λ rest. fresh number ks ms ++ rest) (fresh-same number (ks ++ ms) (ks ++ m ∷ ms) ns (λ x. sym (among-again number ks ms m x e)))
        ∙ ap (λ rest. rest ++ fresh number (ks ++ m ∷ ms) ns) (sym (fresh-in number ks m ms e))
    by false e _ ih =
        fresh-out number ks m (ms ++ ns) e
        ∙ ap (λ rest. m ∷ rest) (ih ∙ ap (λ ls. fresh number (ks ++ m ∷ []) ms ++ fresh number ls ns) (append_assoc ks (m ∷ []) ms))
        ∙ ap (λ rest. rest ++ fresh number (ks ++ m ∷ ms) ns) (sym (fresh-out number ks m ms e))

-- ---- costs

pub costs_append : {N A : Type 0} (w : Standing N A) (ms ns : List N) → costs w (ms ++ ns) ≡ costs w ms + costs w ns
costs_append w [] ns = omega arith
costs_append w (m ∷ ms) ns = let rest : costs w (ms ++ ns) ≡ costs w ms + costs w ns = costs_append w ms ns in grind arith

pub counted_none : (k : ℕ) → counted k None ≡ None
counted_none zero = refl
counted_none (suc k) = rw (counted_none k) refl

-- counting on
pub counted_more : (j k : ℕ) (turns : Option ℕ) → counted k (counted j turns) ≡ counted (j + k) turns
counted_more j zero turns = let same : j + 0 ≡ j = omega arith in rw same refl
counted_more j (suc k) turns = let same : j + suc k ≡ suc (j + k) = omega arith in rw (same, counted_more j k turns) refl
