-- A run whose nodes are told anew, and which of them may be kept by numbers alone then.
use Rattle.ksv_memo.proofs.Common.{◌≡◌, ◌∙◌, ℕ, zero, suc, ◌<◌, ◌≤◌, nat_lt, arith, Bool, true, List, [], ◌∷◌, ◌++◌, refl, sym, ap, subst, inl, inr, count_by}
use Rattle.ksv_memo.proofs.Common.{AllByRecursion, All-map, Entry, Open, IsOneOf, is_among, nodes_of, IsRight, IsOut, IsIn}
use Rattle.std.proofs.Common.{true≢false}
use Rattle.std.proofs.lemmas.Bool.{cases_lt}
use Rattle.ksv_memo_rules.specs.Folds.{AreTold, BeginsAs, Fold, IsFold, IsLaid, first_of}
use Rattle.ksv_memo_rules.specs.Touched.{tree}
use Rattle.ksv_memo_rules.proofs.Keeping.{done-kept}
use Rattle.ksv_memo.specs.Folding.{IsNoneBelow, IsRun, IsTold, is_one, lent_as, with_folded}
use Rattle.ksv_memo.specs.Nodes.{HasNoEntry, IsEntry, KeepsNode}
use Rattle.ksv_memo.specs.declared.lendings.Lending.{Lending}
use Rattle.ksv_memo.specs.declared.folded.Run.{Run}
use Rattle.ksv_memo.proofs.Beside.{seen_entry, seen_none}
use Rattle.ksv_memo.proofs.Founding.{among_all}
use Rattle.ksv_memo.proofs.Growth.{first-told, root-told}
use Rattle.ksv_memo.proofs.Laying.{one_of-all}
use Rattle.ksv_memo.proofs.Leasts.{below_own}
use Rattle.ksv_memo.proofs.Tabling.{keeps_or_not}
use Rattle.ksv_memo.proofs.Taking.{Asking, entry_in, no_entry_out}

-- what holds of each of a list
each-one : {X : Type 0} (P : X → Type 0) (xs : List X) → ((x : X) → IsOneOf xs x → P x) → AllByRecursion P xs
each-one P [] h = tt
each-one P (x ∷ xs) h = (h x (inl refl), each-one P xs (λ y m. h y (inr m)))

-- ---- told anew
module _ {N A : Type 0} (eq : N → N → Bool) (f g : Fold N A) (k : ℕ) (begins : BeginsAs f g k) where
  -- as many of the first are the same
  pub firsts-same : (t : ℕ) → t ≤ k → first_of g t ≡ first_of f t
  firsts-same zero le = refl
  firsts-same (suc t) le = λ i. firsts-same t (omega arith) i ++ begins.same t (omega arith) i ∷ []

  -- so it is a run of these, and of no more
  pub retold : (wild far : ℕ) (lent : List (Lending N)) (es : List (Entry N A)) (st : List (Open N A)) → st ≡ [] → IsLaid g → IsRun eq f k wild far lent es st
      → IsRun eq g k k k lent es st
  retold wild far lent es st none laid h = record {
    laid = laid;
    order = omega arith;
    reach = omega arith;
    in_size = begins.in_size;
    root = subst (KeepsNode eq es) (sym begins.root) h.root;
    same = All-map (λ e own j lt at. (
        let order = h.order in
        let reach = h.reach in
        let was = own j (omega (arith, lt)) (sym (ap (λ x. x.node) (begins.same j lt)) ∙ at) in (was.0, was.1 ∙ sym (lent-same j lt))
        )) es h.same;
    apart = subst (AllByRecursion (λ o. IsNoneBelow g k o.node)) (sym none) tt;
    counted = λ t le. subst (λ xs. count_by (λ e. is_one eq xs e.node) es ≡ count_by (λ l. nat_lt l.place t) lent) (sym (firsts-same t le)) (h.counted t le);
    below = h.below;
    named = named-same lent h.below h.named;
  }
    where
      lent-same : (j : ℕ) → j < k → lent_as g j ≡ lent_as f j
      lent-same j lt =
          let e = begins.same j lt in
          λ i. record { node = (e i).node; answer = (e i).answer; asked = begins.root i ∷ []; uses = (e i).uses }

      named-same : (ls : List (Lending N)) → AllByRecursion (λ l. l.place < k) ls → AllByRecursion (λ l. (f.entry l.place).node ≡ l.node) ls
          → AllByRecursion (λ l. (g.entry l.place).node ≡ l.node) ls
      named-same [] below named = tt
      named-same (l ∷ ls) below named =
          (ap (λ x. x.node) (begins.same l.place below.0) ∙ named.0, named-same ls below.1 named.1)

-- ---- more of them
module _ {N A : Type 0} (q : Asking N A) (f : Fold N A) (k wild far count : ℕ) (lent : List (Lending N)) (es : List (Entry N A)) (st : List (Open N A))
    (h : IsRun q.eq f k wild far lent es st) (fold : IsFold q.world f count) (few : far ≤ count) (out : k < count → HasNoEntry q.eq es (f.entry k).node)
    (next : suc k < count → HasNoEntry q.eq es (f.entry (suc k)).node) where
  abbrev seen : List (Entry N A)
  seen = with_folded q.eq (first_of f k) es

  -- a slot that has one of the nodes below a number has a folded one
  abbrev Own : ℕ → Entry N A → Type 0
  Own most e = (j : ℕ) → j < most → (f.entry j).node ≡ e.node → (j < k) × (e ≡ lent_as f j)

  within : k ≤ far
  within = let order = h.order in let reach = h.reach in omega arith

  -- a kept node is seen
  sees : (e : Entry N A) → IsOneOf es e → IsIn q.world (nodes_of seen) e.node
  sees e there =
      let is : IsEntry q.eq es e.node e = record { there = there; passes = q.laws.refl e.node } in
      let in_view = seen_entry q.eq q.laws q.exact f k es far within h.same e.node e is in
      entry_in q seen e.node in_view.entry in_view.is

  -- the first that isn't folded isn't seen
  unseen : k < count → IsOut q.world (nodes_of seen) (f.entry k).node
  unseen lt =
      let size = fold.in_size in
      no_entry_out q seen (f.entry k).node (seen_none q.eq q.laws q.exact f k es (f.entry k).node (out lt)
      (below_own f h.laid k k (f.entry k).node (omega arith)
      (omega (arith, lt, size)) refl))

  -- nor is one behind it
  none-behind : (e : Entry N A) → IsRight q.world seen → IsOneOf es e → (j : ℕ) → k ≤ j → j < count → (f.entry j).node ≡ e.node → ⊥
  none-behind e right there j up lt at =
      elim (cases_lt k (f.whole j)) [
        | inl within ↦ completed within
        | inr short ↦
            let size = fold.in_size in
            let whole = (h.laid.whole j (omega (arith, lt, size))).1 in
            elim (cases_lt k j) [
              | inl past ↦ let is : suc k ≡ j = omega (arith, short, whole, past) in has-none (suc k) is (next (omega (arith, is, lt)))
              | inr here ↦ let is : k ≡ j = omega (arith, up, here) in has-none k is (out (omega (arith, is, lt)))
            ]
      ]
    where
      -- evaluation of it completes the first that isn't folded, which would be seen
      completed : k < f.whole j → ⊥
      completed within =
          let inside : is_among q.world.number (tree q.world e.node) (f.entry k).node ≡ true =
          subst (λ n. is_among q.world.number (tree q.world n) (f.entry k).node ≡ true) at (fold.within k j within lt) in
          let all = done-kept q.world q.law seen right [] tt e.node (sees e there) in
          let kept : IsIn q.world (nodes_of seen) (f.entry k).node =
          among_all q.world q.law (IsIn q.world (nodes_of seen)) (tree q.world e.node) all (f.entry k).node inside in
          true≢false (sym kept ∙ unseen (omega (arith, up, lt)))

      -- it was looked for
      has-none : (i : ℕ) → i ≡ j → HasNoEntry q.eq es (f.entry i).node → ⊥
      has-none i is none =
          let same : (f.entry i).node ≡ e.node = ap (λ x. (f.entry x).node) is ∙ at in
          keeps_or_not q.eq es (f.entry i).node (e, record { there = there; passes = subst (λ n. q.eq n e.node ≡ true) (sym same) (q.laws.refl e.node) }) none

  pub widened : IsRight q.world seen → IsRun q.eq f k wild count lent es st
  widened right = record {
    laid = h.laid;
    order = h.order;
    reach = let reach = h.reach in omega arith;
    in_size = fold.in_size;
    root = h.root;
    same = each-one (Own count) es (λ e there j lt at. elim (cases_lt j far) [
      | inl low ↦ one_of-all (Own far) es h.same e there j low at
      | inr up ↦ absurd (none-behind e right there j (let le = within in omega (arith, up, le)) lt at)
    ]);
    apart = h.apart;
    counted = h.counted;
    below = h.below;
    named = h.named;
  }

-- ---- a run beside a table
module _ {N A S : Type 0} (q : Asking N A) (fold : S → Fold N A) (run : Run N S) (es : List (Entry N A)) (st : List (Open N A))
    (h : IsRun q.eq (fold run.nodes) run.kept run.wild run.far run.lent.items es st) where
  -- where what is seen is right, the sequence is as the rules say
  pub folds-so : (count : ℕ) → IsRight q.world (with_folded q.eq (first_of (fold run.nodes) run.kept) es)
      → (IsTold q.world q.eq es (fold run.nodes).root → AreTold q.world (fold run.nodes) run.kept → IsFold q.world (fold run.nodes) count)
      → IsFold q.world (fold run.nodes) count
  folds-so count right is =
      is (root-told q (fold run.nodes) run.kept run.wild run.far run.lent.items es st h right)
      (first-told q (fold run.nodes) run.kept run.wild run.far run.lent.items es st h right)

-- where none is open, any below those with slots may be
pub wild-far : {N A S : Type 0} (eq : N → N → Bool) (fold : S → Fold N A) (run : Run N S) (es : List (Entry N A)) (st : List (Open N A))
    → IsRun eq (fold run.nodes) run.kept run.wild run.far run.lent.items es st → st ≡ []
    → IsRun eq (fold run.nodes) run.kept run.far run.far run.lent.items es st
wild-far eq fold run es st h none = record {
  laid = h.laid;
  order = let order = h.order in let reach = h.reach in omega arith;
  reach = omega arith;
  in_size = h.in_size;
  root = h.root;
  same = h.same;
  apart = subst (AllByRecursion (λ o. IsNoneBelow (fold run.nodes) run.far o.node)) (sym none) tt;
  counted = h.counted;
  below = h.below;
  named = h.named;
}
