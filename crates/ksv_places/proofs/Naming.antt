-- Nodes and their kinds and steps.
use Rattle.ksv_places.proofs.Common.{◌≡◌, ℕ, zero, suc, ◌<◌, inl, inr, true, false, List, [], ◌∷◌, ◌++◌, length, get_or, set, reverse, Some}
use Rattle.ksv_places.proofs.Common.{refl, sym, ◌∙◌, ap, arith, slice_get, Result, Ok, Err, OnErr, list_any, option_map, cases_lt, length-map, length_push}
use Rattle.ksv_places.proofs.Common.{length-set, get_or_append_left, get_or-set_same, get_or-set_other, get_or_push, slice_get-map, slice_get-get_or}
use Rattle.ksv_places.proofs.Common.{slice_get_within, get_or_from_slice_get, Step, NodeKind, all_named, AllFit, cases_eq}
use Rattle.std.proofs.Common.{OnOk}
use Rattle.std.specs.List.{IsDistinct}
use Rattle.std.proofs.lemmas.Bool.{false_from_ne_true}
use Rattle.std.proofs.lemmas.List.{map-append, map-set, reverse-reverse}
use Rattle.std.proofs.lemmas.List.Elements.{recursion_from_All}
use Rattle.std.proofs.lemmas.List.Folds.{list_any_none, list_any_at}
use Rattle.std.proofs.lemmas.Map.Keys.{IsDistinct-cons}
use Rattle.ksv_expr_value.specs.Trail.{Trail, fits, trail_of-true}
use Rattle.ksv_nodes.specs.declared.node.Node.{Node}
use Rattle.ksv_nodes.specs.contracts.node.NodePartialEq.TheImpl.{ghosts as node_tests}
use Rattle.ksv_nodes.specs.contracts.node.NodeEq.TheImpl.Laws.{laws-law as node_laws}
use Rattle.ksv_nodes.specs.Exact.{node_exact}
use Rattle.ksv_places.specs.Nodes.{some_trail, trail_at, named}

-- what follows where a call succeeds and where it doesn't
pub either_way : {A E : Type 0} (r : Result A E) (P Q R : Type 0) → (P → R) → (Q → R) → OnOk r P → OnErr r Q → R
either_way (Ok a) P Q R f g h k = f h
either_way (Err e) P Q R f g h k = g k

-- the kind and the steps of a node
abbrev pub pair_of : Node → NodeKind × List Step
pair_of n = (n.kind, n.path.upward)

pub trail_back : (t : Trail) → trail_at t.upward ≡ t
trail_back t = ap some_trail (trail_of-true t)

steps_back : (q : List Step) → fits q ≡ true → (trail_at q).upward ≡ q
steps_back q h = let t : Trail = record { upward = q; valid = h } in ap (λ (u : Trail). u.upward) (trail_back t)

pub named_back : (n : Node) → named (pair_of n) ≡ n
named_back n = λ i. record { kind = n.kind; path = trail_back n.path i }

pair_back : (p : NodeKind × List Step) → fits p.1 ≡ true → pair_of (named p) ≡ p
pair_back p h = λ i. (p.0, steps_back p.1 h i)

pub at_named : (ps : List (NodeKind × List Step)) (i : ℕ) (n : Node) → slice_get ps i ≡ Some (pair_of n) → slice_get (all_named ps) i ≡ Some n
at_named ps i n e = slice_get-map named ps i ∙ ap (option_map named) e ∙ ap Some (named_back n)

pub from_named : (ps : List (NodeKind × List Step)) → AllFit ps → (i : ℕ) (n : Node) → slice_get (all_named ps) i ≡ Some n → slice_get ps i ≡ Some (pair_of n)
from_named ps fit i n e =
    let lt : i < length ps = omega (arith, slice_get_within (all_named ps) i n e, length-map ps named) in
    let d : NodeKind × List Step = pair_of n in
    let p = get_or ps i d in
    let at : slice_get ps i ≡ Some p = slice_get-get_or ps i d lt in
    let both : Some (named p) ≡ Some n = sym (slice_get-map named ps i ∙ ap (option_map named) at) ∙ e in
    let same : named p ≡ n = cc in
    at ∙ ap Some (sym (pair_back p (fit i d lt)) ∙ ap pair_of same)

-- a node that is not in the list
module _ (ps : List (NodeKind × List Step)) (fit : AllFit ps) where
  pub none_is : (n : Node) → ((j : ℕ) → slice_get ps j ≡ Some (pair_of n) → ⊥) → list_any (node_tests.eq n) (all_named ps) ≡ false
  none_is n none = list_any_none (node_tests.eq n) (all_named ps) (λ k d lt. let m = get_or (all_named ps) k d in false_from_ne_true _ (λ e.
      none k (from_named ps fit k n (slice_get-get_or (all_named ps) k d lt ∙ ap Some (sym (node_exact n m e))))))

  pub apart_named : ((i j : ℕ) → i < length ps → j < length ps → slice_get ps i ≡ slice_get ps j → i ≡ j) → (i j : ℕ) (n : Node)
      → slice_get (all_named ps) i ≡ Some n → slice_get (all_named ps) j ≡ Some n → i ≡ j
  apart_named apart i j n a b =
      let e = from_named ps fit i n a in
      let f = from_named ps fit j n b in
      apart i j (slice_get_within ps i _ e) (slice_get_within ps j _ f) (e ∙ sym f)

pub is_none : (ps : List (NodeKind × List Step)) (n : Node) → list_any (node_tests.eq n) (all_named ps) ≡ false → (i : ℕ) → slice_get ps i ≡ Some (pair_of n)
    → ⊥
is_none ps n none i e =
    let at = at_named ps i n e in
    let found = list_any_at (node_tests.eq n) (all_named ps) i n (slice_get_within (all_named ps) i n at)
    (ap (node_tests.eq n) (get_or_from_slice_get (all_named ps) i n n at) ∙ node_laws.refl n) in
    cc

no_nodes : IsDistinct node_tests.eq []
unfolding IsDistinct
no_nodes = tt

-- nodes at different places differ
pub distinct : (ns : List Node) → ((i j : ℕ) (n : Node) → slice_get ns i ≡ Some n → slice_get ns j ≡ Some n → i ≡ j) → IsDistinct node_tests.eq ns
distinct [] h = no_nodes
distinct (n ∷ ns) h = IsDistinct-cons node_tests.eq n ns (recursion_from_All (λ y. node_tests.eq n y ≡ false) ns (λ k d lt. false_from_ne_true _ (λ e.
    let same = h zero (suc k) n refl (slice_get-get_or ns k d lt ∙ ap Some (sym (node_exact n (get_or ns k d) e))) in omega arith)))
    (distinct ns (λ i j m a b. omega (arith, h (suc i) (suc j) m a b)))

-- all fit still with one more, and with another one
pub fit_push : (ps : List (NodeKind × List Step)) (n : Node) → AllFit ps → AllFit (ps ++ pair_of n ∷ [])
fit_push ps n fit k d l = elim (cases_lt k (length ps)) [
  | inl lt ↦ rw (get_or_append_left ps (pair_of n ∷ []) d k lt) (fit k d lt)
  | inr le ↦ rw (get_or_push ps (pair_of n) d k (omega (arith, length_push ps (pair_of n)))) n.path.valid
]

pub fit_set : (ps : List (NodeKind × List Step)) (place : ℕ) (n : Node) → AllFit ps → AllFit (set ps place (pair_of n))
fit_set ps place n fit k d l = let c = length-set ps place (pair_of n) in elim (cases_eq k place) [
  | inl e ↦ rw (e, get_or-set_same ps place (pair_of n) d (omega arith)) n.path.valid
  | inr ne ↦ rw (get_or-set_other ps place k (pair_of n) d ne) (fit k d (omega arith))
]

pub named_push : (ps : List (NodeKind × List Step)) (n : Node) → all_named (ps ++ pair_of n ∷ []) ≡ all_named ps ++ n ∷ []
named_push ps n = map-append named ps (pair_of n ∷ []) ∙ ap (λ (m : Node). all_named ps ++ m ∷ []) (named_back n)

pub named_set : (ps : List (NodeKind × List Step)) (place : ℕ) (n : Node) → all_named (set ps place (pair_of n)) ≡ set (all_named ps) place n
named_set ps place n = map-set named ps place (pair_of n) ∙ ap (λ (m : Node). set (all_named ps) place m) (named_back n)

-- the steps of a node, in the order of the definitions
pub steps_up : (n : Node) (steps : List Step) → steps ≡ reverse n.path.upward → (n.kind, reverse steps) ≡ pair_of n
steps_up n steps e = rw (e, reverse-reverse n.path.upward)
