-- More paths with numbers, and where a search goes on among them.
use Rattle.ksv_places.proofs.Common.{◌≡◌, ℕ, ◌+◌, ◌<◌, ◌≤◌, inl, inr, List, [], ◌∷◌, ◌++◌, Some, length, get_or, take, reverse, refl, sym, ◌∙◌, ap, arith}
use Rattle.ksv_places.proofs.Common.{slice_get, length_push, get_or_append_left, take_all, get_or_push, slice_get-get_or, slice_get_within}
use Rattle.ksv_places.proofs.Common.{get_or_from_slice_get, Step, Link, paths_of, IsMore, EndsAt}
use Rattle.std.proofs.Common.{append_assoc, append-nil}
use Rattle.std.proofs.lemmas.List.{length-append}
use Rattle.ksv_places.specs.declared.trace.Trace.{Trace}
use Rattle.ksv_places.specs.Tree.{paths_from, IsGrown, IsFurther}
use Rattle.ksv_places.proofs.Walking.{length-paths, root_at}

pub same_more : (ps : List (List Step)) → IsMore ps ps
same_more ps = record { more = []; grown = sym (append-nil ps) }

pub more_more : (ps qs rs : List (List Step)) → IsMore ps qs → IsMore qs rs → IsMore ps rs
more_more ps qs rs a b =
    record { more = a.more ++ b.more; grown = b.grown ∙ ap (λ (xs : List (List Step)). xs ++ b.more) a.grown ∙ append_assoc ps a.more b.more }

pub from_none : (ps : List (List Step)) → IsMore [] ps
from_none ps = record { more = ps; grown = refl }

from-push : (ps : List (List Step)) (ls : List Link) (l : Link)
    → paths_from ps (ls ++ l ∷ []) ≡ paths_from ps ls ++ (l.step ∷ get_or (paths_from ps ls) l.parent []) ∷ []
from-push ps [] l = refl
from-push ps (m ∷ ls) l = from-push (ps ++ (m.step ∷ get_or ps m.parent []) ∷ []) ls l

pub paths-push : (links : List Link) (l : Link) → 0 < length links
    → paths_of (links ++ l ∷ []) ≡ paths_of links ++ (l.step ∷ get_or (paths_of links) l.parent []) ∷ []
paths-push [] l p = absurd (omega arith)
paths-push (m ∷ ls) l p = from-push ([] ∷ []) ls l

module _ (old new : List Link) (r : ℕ) (s : Step) (c : ℕ) (there : r < length old) (g : IsGrown old new r s c) where
  grown_paths : paths_of new ≡ paths_of old ++ (g.link.step ∷ get_or (paths_of old) g.link.parent []) ∷ []
  grown_paths = ap (λ (ls : List Link). paths_of ls) g.links ∙ paths-push old g.link (omega arith)

  pub grown_more : IsMore (paths_of old) (paths_of new)
  grown_more = record { more = (g.link.step ∷ get_or (paths_of old) g.link.parent []) ∷ []; grown = grown_paths }

  pub grown_further : IsFurther old new r s c
  grown_further = record {
    inside = omega (arith, ap (λ (ls : List Link). length ls) g.links, length_push old g.link, g.number);
    is = ap (λ (ps : List (List Step)). get_or ps c []) grown_paths ∙ get_or_push (paths_of old) _ [] c (length-paths old ∙ sym g.number)
        ∙ (λ i. g.step i ∷ get_or (paths_of old) (g.parent i) []);
  }

-- where a search begins, stops, and is at its end
pub at_start : (links : List Link) (steps : List Step) → EndsAt (paths_of links) steps (record { path = 0; steps = 0 })
at_start [] steps = record { inside = omega arith; path = inr (refl, refl, refl) }
at_start (l ∷ ls) steps =
    let n = length-paths (l ∷ ls) in
    record {
      inside = omega arith;
      path = inl
          (slice_get-get_or (paths_of (l ∷ ls)) 0 [] (omega arith) ∙ ap (λ (q : List Step). Some q) (root_at (l ∷ ls) (omega arith)));
    }

pub stopped : (paths : List (List Step)) (steps : List Step) (path count : ℕ) → count ≤ length steps → path < length paths
    → get_or paths path [] ≡ reverse (take count steps) → EndsAt paths steps (record { path = path; steps = count })
stopped paths steps path count le lt e = record { inside = le; path = inl (slice_get-get_or paths path [] lt ∙ ap (λ (q : List Step). Some q) e) }

pub whole : (paths : List (List Step)) (steps : List Step) (path count : ℕ) → count ≡ length steps → slice_get paths path ≡ Some (reverse steps)
    → EndsAt paths steps (record { path = path; steps = count })
whole paths steps path count n e =
    record { inside = omega arith; path = inl (e ∙ ap (λ (xs : List Step). Some (reverse xs)) (sym (take_all count steps (omega arith)))) }

-- it goes on from there, also among more paths
pub goes_on : (old new : List (List Step)) (steps : List Step) (t : Trace) → IsMore old new → 0 < length new → get_or new 0 [] ≡ [] → EndsAt old steps t
    → (t.path < length new) × (get_or new t.path [] ≡ reverse (take t.steps steps))
goes_on old new steps t m some root e = elim e.path [
  | inl at ↦
      let lt : t.path < length old = slice_get_within old t.path (reverse (take t.steps steps)) at in
      let n : length new ≡ length old + length m.more = rw m.grown (length-append old m.more) in
      let there = get_or_from_slice_get old t.path (reverse (take t.steps steps)) [] at in
      (omega arith, rw m.grown (get_or_append_left old m.more [] t.path lt ∙ there))
  | inr z ↦ (omega (arith, z.1), rw (z.1, z.2) root)
]
