-- The first path, the root.
use Rattle.ksv_places.proofs.Common.{◌≡◌, ℕ, ◌<◌, [], ◌∷◌, length, refl, ◌∙◌, ap, arith, Step, Name, Index, Link, first_of_both, chain, look}
use Rattle.ksv_places.proofs.Common.{IsTree, inl, inr, cases_lt}
use Rattle.ksv_places.proofs.Chains.{ended}

-- where there are no links nothing leads anywhere, and so it is with the root alone
module _ (firsts : ℕ → ℕ) (members elements : ℕ → ℕ → ℕ) (tree : IsTree [] firsts members elements) (link : Link) where
  none_first : (r : ℕ) → firsts r ≡ 0
  none_first r = elim (cases_lt 0 (firsts r)) [
    | inl p ↦ omega (arith, tree.heads r p)
    | inr z ↦ omega arith
  ]

  same : (r : ℕ) (s : Step) → look (link ∷ []) firsts members elements r s ≡ look [] firsts members elements r s
  same r (Name x) = ap (λ n. first_of_both n (members r x))
      (ap (λ h. chain (link ∷ []) (length (link ∷ [])) h x) (none_first r) ∙ ended (link ∷ []) x (length (link ∷ [])))
  same r (Index i) = refl

  none : (r : ℕ) (s : Step) → 0 < look (link ∷ []) firsts members elements r s → ⊥
  none r s p = omega (arith, (tree.sound r s (rw (same r s) at p)).inside)

  pub planted : IsTree (link ∷ []) firsts members elements
  planted = record {
    up = λ c p l. omega arith;
    next = λ c p l. omega arith;
    heads = λ r p. omega (arith, none_first r);
    sound = λ r s p. absurd (none r s p);
    complete = λ c p l. omega arith;
  }
