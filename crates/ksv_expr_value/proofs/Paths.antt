-- A path's steps lie from the first to the last, and are seen from the last to the first.
use Rattle.std.proofs.Common.{◌≡◌, ℕ, ◌-◌, ◌++◌, [], ◌∷◌, List, length, reverse, true, arith, ap, sym, ◌∙◌, take, drop, refl, suc}
use Rattle.std.proofs.lemmas.List.{reverse-append, length-reverse, take-append-drop, length-drop}
use Rattle.ksv_expr_value.specs.declared.step.Step.{Step}
use Rattle.ksv_expr_value.specs.Trail.{fits, all_but_last}

pub reverse-push : (items : List Step) (s : Step) → reverse (items ++ s ∷ []) ≡ s ∷ reverse items
reverse-push items s = reverse-append items (s ∷ [])

-- one step more, as the code pushes it
pub fits-push : (items : List Step) (s : Step) (all : List Step) → all ≡ items ++ s ∷ [] → fits (s ∷ reverse items) ≡ true → fits (reverse all) ≡ true
fits-push items s all e h = rw (e, reverse-push items s) h

pub length-seen : (items : List Step) (upward : List Step) → reverse items ≡ upward → length items ≡ length upward
length-seen items upward e = sym (length-reverse items) ∙ ap length e

-- a list but its last element, reversed
pub reverse-take : (items : List Step) (n : ℕ) → length items ≡ suc n → reverse (take n items) ≡ all_but_last (reverse items)
reverse-take items n e =
    let whole : take n items ++ drop n items ≡ items = take-append-drop n items in
    by_rest (take n items) (drop n items) items whole (omega (arith, length-drop n items))
  where
    by_rest : (xs rest all : List Step) → xs ++ rest ≡ all → length rest ≡ 1 → reverse xs ≡ all_but_last (reverse all)
    by_rest xs [] all w one = absurd (omega arith)
    by_rest xs (s ∷ []) all w one = rw (← w, reverse-push xs s) refl
    by_rest xs (s ∷ t ∷ rest) all w one = absurd (omega arith)

-- what the code keeps of the steps
pub parent_seen : (items : List Step) (n : ℕ) → n ≡ length items - 1 → reverse (take n items) ≡ all_but_last (reverse items)
parent_seen [] n e = rw (let z : n ≡ 0 = omega arith in z) refl
parent_seen (s ∷ rest) n e = reverse-take (s ∷ rest) n (omega arith)
