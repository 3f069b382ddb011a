-- A set of nodes in their order, and what a list is after its last element took the place of another.
use Rattle.std.proofs.Common.{◌≡◌, ℕ, zero, suc, ◌+◌, ◌<◌, ◌≤◌, Bool, true, false, List, [], ◌∷◌, ◌++◌, ◌-◌, length, take, slice_set, slice_index_or, get_or}
use Rattle.std.proofs.Common.{sym, arith, Option, Some, None, ◌∙◌, ap, slice_get, position, if◌then◌else◌}
use Rattle.std.specs.Option.{IfSome}
use Rattle.std.specs.List.{list_any, swap_remove}
use Rattle.std.proofs.lemmas.List.{length_push, length-set, set-append_left}
use Rattle.std.proofs.lemmas.List.Quantifiers.{position-Some}
use Rattle.std.proofs.lemmas.Option.{slice_get-get_or}
use Rattle.std.proofs.Math.Seq.{get_or-append_seam, take-append_seam}
use Rattle.indexmap.specs.IndexSet.{insert_key}

module _ {N : Type 0} where
  -- a new key goes last
  pub new-key : (eq : N → N → Bool) (ns : List N) (n : N) → list_any (eq n) ns ≡ false → insert_key eq ns n ≡ ns ++ n ∷ []
  new-key eq ns n none = ap (λ b. if b then ns else ns ++ n ∷ []) none

  -- a node that is found is there
  pub found-key : (eq : N → N → Bool) → ((a b : N) → eq a b ≡ true → a ≡ b) → (ns : List N) (n : N) (r : Option ℕ) → r ≡ position (eq n) ns
      → IfSome r (λ i. slice_get ns i ≡ Some n)
  found-key eq exact ns n None is = tt
  found-key eq exact [] n (Some i) is = absurd (cc)
  found-key eq exact (m ∷ ns) n (Some i) is =
      let p = position-Some (eq n) (m ∷ ns) i m (sym is) in
      slice_get-get_or (m ∷ ns) i m p.0 ∙ ap (λ x. Some x) (sym (exact n (get_or (m ∷ ns) i m) p.1))

-- the last element takes the place of another
swapped : {X : Type 0} (xs : List X) (i : ℕ) (x d : X) → i < length xs → swap_remove (xs ++ x ∷ []) i d ≡ slice_set xs i x
swapped xs i x d lt =
    let n : length (xs ++ x ∷ []) - 1 ≡ length xs = omega (arith, length_push xs x) in
    (λ k. take (n k) (slice_set (xs ++ x ∷ []) i (slice_index_or (xs ++ x ∷ []) (n k) d)))
    ∙ ap (λ y. take (length xs) (slice_set (xs ++ x ∷ []) i y)) (get_or-append_seam xs x [] d)
    ∙ ap (take (length xs)) (set-append_left xs (x ∷ []) i x lt)
    ∙ ap (λ k. take k (slice_set xs i x ++ x ∷ [])) (sym (length-set xs i x))
    ∙ take-append_seam (slice_set xs i x) (x ∷ [])

nothing_there : {X : Type 0} (xs : List X) (i : ℕ) → slice_get xs i ≡ None → length xs ≤ i
nothing_there [] i e = omega arith
nothing_there (x ∷ xs) zero e = absurd (cc)
nothing_there (x ∷ xs) (suc i) e = let le = nothing_there xs i e in omega arith

-- one element more, and then one of those before it is taken: the last is in its place
pub removed : {X : Type 0} (xs ys : List X) (i : ℕ) (x : X) (r : Option X) → ys ≡ xs ++ x ∷ [] → i < length xs → r ≡ slice_get ys i → (zs : List X)
    → IfSome r (λ y. zs ≡ swap_remove ys i y) → zs ≡ slice_set xs i x
removed xs ys i x None made lt was zs h = let le = nothing_there ys i (sym was) in let n : length ys ≡ length xs + 1 =
    ap length made ∙ length_push xs x in absurd (omega arith)
removed xs ys i x (Some y) made lt was zs h = h ∙ ap (λ vs. swap_remove vs i y) made ∙ swapped xs i x y lt
