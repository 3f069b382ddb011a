-- One part put in another's place: a page of a table, or a path's table.
use Rattle.ksv_places.proofs.Common.{◌≡◌, ◌≢◌, ℕ, zero, suc, ◌-◌, ◌<◌, ◌≤◌, List, length, get_or, set, refl, sym, ◌∙◌, arith, get_or-set_same}
use Rattle.ksv_places.proofs.Common.{get_or-set_other, number_at, part_at, IsApart, IsPartOf}

module _ {T : Type 0} (none : T) where
  -- the part that was set, and another one
  part_set : (parts : List T) (n : ℕ) (t : T) → 0 < n → n ≤ length parts → part_at none (set parts (n - 1) t) n ≡ t
  part_set parts zero t p l = absurd (omega arith)
  part_set parts (suc n) t p l =
      let e : suc n - 1 ≡ n = omega arith in rw (e, get_or-set_same parts n t none (omega arith)) refl

  part_other : (parts : List T) (n m : ℕ) (t : T) → 0 < n → m ≢ n → part_at none (set parts (n - 1) t) m ≡ part_at none parts m
  part_other parts n zero t p ne = refl
  part_other parts n (suc m) t p ne = get_or-set_other parts (n - 1) m t none (λ e. ne (omega arith))

  part_there : (parts : List T) (n : ℕ) → 0 < n → part_at none parts n ≡ get_or parts (n - 1) none
  part_there parts zero p = absurd (omega arith)
  part_there parts (suc n) p = let e : suc n - 1 ≡ n = omega arith in rw e refl

  -- the same of the parts of indices, where one index has a part that it may not have had before
  module _ (starts0 starts : List ℕ) (parts0 parts : List T) (r n : ℕ) (apart : IsApart (number_at starts) (length parts))
      (part : IsPartOf (number_at starts) (length parts) r n)
      (same : (q : ℕ) → part_at none parts (number_at starts q) ≡ part_at none parts0 (number_at starts0 q)) (t : T) where
    pub mine : part_at none (set parts (n - 1) t) (number_at starts r) ≡ t
    mine = rw part.number (part_set parts n t part.some part.inside)

    pub old : part_at none parts0 (number_at starts0 r) ≡ get_or parts (n - 1) none
    old = sym (same r) ∙ rw part.number (part_there parts n part.some)

    pub others : (q : ℕ) → q ≢ r → part_at none (set parts (n - 1) t) (number_at starts q) ≡ part_at none parts0 (number_at starts0 q)
    others q ne = part_other parts n (number_at starts q) t part.some (λ e. ne (apart.apart q r (omega (arith, part.some)) (e ∙ sym part.number)))
        ∙ same q
