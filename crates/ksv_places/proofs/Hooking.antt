-- What leads where once a path was hooked to the one a step shorter.
use Rattle.ksv_places.proofs.Common.{◌≡◌, ◌≢◌, inl, inr, ℕ, ◌+◌, ◌<◌, false, List, [], ◌∷◌, ◌++◌, length, refl, sym, ◌∙◌, ap}
use Rattle.ksv_places.proofs.Common.{arith, length_push, Step, Name, Index, Link, IsPut, IsPutAt, first_of_both, chain, look, is_name, IsTree, cases_lt}
use Rattle.ksv_places.proofs.Common.{cases_eq}
use Rattle.ksv_places.specs.Tree.{Hooks}
use Rattle.ksv_places.proofs.Growing.{nat_other, nat_self, Leads, grown_tree, same_chain, new_chain, past_new}

-- a sum of two numbers whose first is some, or none
some_first : (a b n : ℕ) → a ≡ n → 0 < n → first_of_both a b ≡ n
some_first a b n e p = grind arith

none_first : (a b : ℕ) → first_of_both a b ≡ 0 → a ≡ 0
none_first a b e = grind arith

none_second : (a b : ℕ) → a ≡ 0 → first_of_both a b ≡ b
none_second a b e = grind arith

module _ (links : List Link) (firsts : ℕ → ℕ) (members elements : ℕ → ℕ → ℕ) (tree : IsTree links firsts members elements) (r : ℕ) (there : r < length links)
    (link : Link) (parent : link.parent ≡ r) where
  abbrev links2 : List Link
  links2 = links ++ link ∷ []

  some : 0 < length links
  some = omega arith

  count2 : length links2 ≡ length links + 1
  count2 = length_push links link

  first_in : (q : ℕ) → firsts q < length links
  first_in q = elim (cases_lt 0 (firsts q)) [
    | inl p ↦ tree.heads q p
    | inr z ↦ omega arith
  ]

  same_firsts : (q : ℕ) → 0 < firsts q → firsts q < length links2
  same_firsts q p = omega (arith, tree.heads q p, count2)

  -- a member at the front of the chain
  module _ (x : ℕ) (step : link.step ≡ Name x) (firsts2 : ℕ → ℕ) (next : link.next ≡ firsts r) (put : IsPut firsts firsts2 r (length links))
      (free : look links firsts members elements r (Name x) ≡ 0) where
    less_f : link.next < length links
    less_f = omega (arith, first_in r)

    leads_f : Leads links firsts members elements links2 firsts2 members elements r (Name x)
    leads_f = record { here = here; others = others }
      where
        here : look links2 firsts2 members elements r (Name x) ≡ length links
        here = some_first _ (members r x) (length links)
            (ap (λ h. chain links2 (length links2) h x) put.here ∙ new_chain links link tree.next some less_f x (ap (λ s. is_name s x) step ∙ nat_self x))
            some

        by_name : (q y : ℕ) → (q ≡ r → y ≢ x) → chain links2 (length links2) (firsts2 q) y ≡ chain links (length links) (firsts q) y
        by_name q y ne = elim (cases_eq q r) [
          | inl e ↦
              let named : is_name link.step y ≡ false = ap (λ s. is_name s y) step ∙ nat_other x y (λ f. ne e (sym f)) in
              rw (e, put.here) (past_new links link tree.next some less_f y named ∙ ap (λ h. chain links (length links) h y) next)
          | inr e ↦ rw (put.other q e) (same_chain links link tree.next some less_f (firsts q) y (first_in q))
        ]

        others : (q : ℕ) (t : Step) → ((q ≡ r) × (t ≡ Name x) → ⊥) → look links2 firsts2 members elements q t ≡ look links firsts members elements q t
        others q (Name y) ne = ap (λ n. first_of_both n (members q y)) (by_name q y (λ e f. ne (e, ap Name f)))
        others q (Index i) ne = refl

    heads_f : (q : ℕ) → 0 < firsts2 q → firsts2 q < length links2
    heads_f q p = elim (cases_eq q r) [
      | inl e ↦ omega (arith, ap firsts2 e ∙ put.here, count2)
      | inr e ↦ omega (arith, put.other q e, first_in q, count2)
    ]

    pub first_grown : IsTree links2 firsts2 members elements
    first_grown = grown_tree links link tree.next some less_f firsts members elements tree r (Name x) there free parent step firsts2 members elements leads_f
        heads_f

  -- a member in the table
  module _ (x : ℕ) (step : link.step ≡ Name x) (next : link.next ≡ 0) (members2 : ℕ → ℕ → ℕ) (put : IsPutAt members members2 r x (length links))
      (free : look links firsts members elements r (Name x) ≡ 0) where
    less_m : link.next < length links
    less_m = omega arith

    same_m : (q y : ℕ) → chain links2 (length links2) (firsts q) y ≡ chain links (length links) (firsts q) y
    same_m q y = same_chain links link tree.next some less_m (firsts q) y (first_in q)

    leads_m : Leads links firsts members elements links2 firsts members2 elements r (Name x)
    leads_m = record { here = here; others = others }
      where
        here : look links2 firsts members2 elements r (Name x) ≡ length links
        here = none_second _ (members2 r x) (same_m r x ∙ none_first _ (members r x) free) ∙ put.here

        others : (q : ℕ) (t : Step) → ((q ≡ r) × (t ≡ Name x) → ⊥) → look links2 firsts members2 elements q t ≡ look links firsts members elements q t
        others q (Name y) ne = λ i. first_of_both (same_m q y i) (put.other q y (λ h. ne (h.0, ap Name h.1)) i)
        others q (Index j) ne = refl

    pub member_grown : IsTree links2 firsts members2 elements
    member_grown = grown_tree links link tree.next some less_m firsts members elements tree r (Name x) there free parent step firsts members2 elements leads_m
        same_firsts

  -- an element
  module _ (i : ℕ) (step : link.step ≡ Index i) (next : link.next ≡ 0) (elements2 : ℕ → ℕ → ℕ) (put : IsPutAt elements elements2 r i (length links))
      (free : look links firsts members elements r (Index i) ≡ 0) where
    less_e : link.next < length links
    less_e = omega arith

    leads_e : Leads links firsts members elements links2 firsts members elements2 r (Index i)
    leads_e = record { here = put.here; others = others }
      where
        others : (q : ℕ) (t : Step) → ((q ≡ r) × (t ≡ Index i) → ⊥) → look links2 firsts members elements2 q t ≡ look links firsts members elements q t
        others q (Name y) ne = ap (λ n. first_of_both n (members q y)) (same_chain links link tree.next some less_e (firsts q) y (first_in q))
        others q (Index j) ne = put.other q j (λ h. ne (h.0, ap Index h.1))

    pub element_grown : IsTree links2 firsts members elements2
    element_grown = grown_tree links link tree.next some less_e firsts members elements tree r (Index i) there free parent step firsts members elements2 leads_e
        same_firsts

  -- with either step
  pub hooked : (s : Step) (firsts2 : ℕ → ℕ) (members2 elements2 : ℕ → ℕ → ℕ)
      → Hooks firsts firsts2 members members2 elements elements2 r s (length links) link.next → link.step ≡ s → look links firsts members elements r s ≡ 0
      → IsTree links2 firsts2 members2 elements2
  hooked (Name x) firsts2 members2 elements2 (inl h) step free = rw (h.1, h.0.same) (first_grown x step firsts2 h.0.next_is h.0.put free)
  hooked (Name x) firsts2 members2 elements2 (inr h) step free = rw (h.other_same, h.firsts_same) (member_grown x step h.next_is members2 h.put free)
  hooked (Index i) firsts2 members2 elements2 h step free = rw (h.other_same, h.firsts_same) (element_grown i step h.next_is elements2 h.put free)
