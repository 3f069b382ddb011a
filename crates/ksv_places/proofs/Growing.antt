-- A further path.
use Rattle.ksv_places.proofs.Common.{◌≡◌, ◌≢◌, ◌⊎◌, inl, inr, ℕ, ◌+◌, ◌<◌, true, false, List, [], ◌∷◌, ◌++◌, length, sym, ◌∙◌, arith}
use Rattle.ksv_places.proofs.Common.{length_push, get_or_append_left, cases_lt, nat_tests, Step, Link, link_at, chain, look, is_name}
use Rattle.ksv_places.proofs.Common.{IsTree, cases_eq}
use Rattle.std.proofs.Common.{nat_eq}
use Rattle.std.proofs.Math.Seq.{get_or-append_seam}
use Rattle.ksv_places.specs.Tree.{IsChild}
use Rattle.ksv_places.proofs.Chains.{Falls, any_fuel, more_links, step_on, found_at}

pub nat_other : (x y : ℕ) → x ≢ y → nat_eq x y ≡ false
nat_other x y ne = grind (arith, nat_tests)

pub nat_self : (x : ℕ) → nat_eq x x ≡ true
nat_self x = grind (arith, nat_tests)

pub same_step : (s t : Step) → (s ≡ t) ⊎ (s ≢ t)
same_step s t = grind arith

-- what leads where, once a path was added
pub record Leads (links : List Link) (firsts : ℕ → ℕ) (members elements : ℕ → ℕ → ℕ) (links2 : List Link) (firsts2 : ℕ → ℕ) (members2 elements2 : ℕ → ℕ → ℕ)
    (r : ℕ) (s : Step) : Type 0 where
  pub here : look links2 firsts2 members2 elements2 r s ≡ length links
  pub others : (q : ℕ) (t : Step) → ((q ≡ r) × (t ≡ s) → ⊥) → look links2 firsts2 members2 elements2 q t ≡ look links firsts members elements q t

module _ (links : List Link) (link : Link) (falls : Falls links) (some : 0 < length links) (less : link.next < length links) where
  abbrev links2 : List Link
  links2 = links ++ link ∷ []

  old_link : (c : ℕ) → c < length links → link_at links2 c ≡ link_at links c
  old_link c l = get_or_append_left links (link ∷ []) _ c l

  new_link : link_at links2 (length links) ≡ link
  new_link = get_or-append_seam links link [] _

  count2 : length links2 ≡ length links + 1
  count2 = length_push links link

  pub falls2 : Falls links2
  falls2 c p l = elim (cases_lt c (length links)) [
    | inl lt ↦ rw (old_link c lt) (falls c p lt)
    | inr le ↦ let e : c ≡ length links = omega (arith, count2) in rw (e, new_link) less
  ]

  -- chains that begin below are as they were
  pub same_chain : (h x : ℕ) → h < length links → chain links2 (length links2) h x ≡ chain links (length links) h x
  same_chain h x l = more_links links (link ∷ []) x falls (length links2) h l
      ∙ any_fuel links x falls (length links2) (length links) h (omega (arith, count2)) l l

  -- a chain that begins with the new one
  pub new_chain : (x : ℕ) → is_name link.step x ≡ true → chain links2 (length links2) (length links) x ≡ length links
  new_chain x e = found_at links2 x falls2 (length links) some (omega (arith, count2)) (rw new_link e)

  pub past_new : (x : ℕ) → is_name link.step x ≡ false → chain links2 (length links2) (length links) x ≡ chain links (length links) link.next x
  past_new x e = step_on links2 x falls2 (length links) some (omega (arith, count2)) (rw new_link e)
      ∙ rw new_link (same_chain link.next x less)

  module _ (firsts : ℕ → ℕ) (members elements : ℕ → ℕ → ℕ) (tree : IsTree links firsts members elements) (r : ℕ) (s : Step) (there : r < length links)
      (free : look links firsts members elements r s ≡ 0) (parent : link.parent ≡ r) (step : link.step ≡ s) (firsts2 : ℕ → ℕ) (members2 elements2 : ℕ → ℕ → ℕ)
      (l : Leads links firsts members elements links2 firsts2 members2 elements2 r s) (heads : (q : ℕ) → 0 < firsts2 q → firsts2 q < length links2)
    where
      lifted : (q : ℕ) (t : Step) (c : ℕ) → IsChild links q t c → IsChild links2 q t c
      lifted q t c k = let o = old_link c k.inside in record { inside = omega (arith, count2, k.inside); parent = rw o k.parent; step = rw o k.step }

      newest : IsChild links2 r s (length links)
      newest = record { inside = omega (arith, count2); parent = rw new_link parent; step = rw new_link step }

      sound2 : (q : ℕ) (t : Step) → 0 < look links2 firsts2 members2 elements2 q t → IsChild links2 q t (look links2 firsts2 members2 elements2 q t)
      sound2 q t some = elim (cases_eq q r) [
        | inl e ↦ elim (same_step t s) [
          | inl f ↦ rw (e, f, l.here) newest
          | inr f ↦ other (λ h. f h.1)
        ]
        | inr e ↦ other (λ h. e h.0)
      ]
        where
          other : ((q ≡ r) × (t ≡ s) → ⊥) → IsChild links2 q t (look links2 firsts2 members2 elements2 q t)
          other ne = let is = l.others q t ne in rw is (lifted q t (look links firsts members elements q t) (tree.sound q t (rw is at some)))

      pub grown_tree : IsTree links2 firsts2 members2 elements2
      grown_tree = record {
        up = λ c p lt. elim (cases_lt c (length links)) [
          | inl inside ↦ rw (old_link c inside) (tree.up c p inside)
          | inr le ↦ let e : c ≡ length links = omega (arith, count2) in rw (e, new_link) (omega arith)
        ];
        next = falls2;
        heads = heads;
        sound = sound2;
        complete = λ c p lt. elim (cases_lt c (length links)) [
          | inl inside ↦
              let k = link_at links c in
              let whole = tree.complete c p inside in
              rw (old_link c inside) (l.others k.parent k.step
              (λ h. let none = sym whole ∙ (λ i. look links firsts members elements (h.0 i) (h.1 i)) ∙ free in omega arith) ∙ whole)
          | inr le ↦ let e : c ≡ length links = omega (arith, count2) in rw (e, new_link)
              ((λ i. look links2 firsts2 members2 elements2 (parent i) (step i)) ∙ l.here)
        ];
      }
