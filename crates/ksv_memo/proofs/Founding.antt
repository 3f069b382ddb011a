-- A run begins where its root has its answer.
use Rattle.ksv_memo.proofs.Common.{◌≡◌, ◌∙◌, ℕ, ◌≤◌, true, false, List, [], ◌∷◌, refl, sym, ap, subst, arith, AllByRecursion, Standing}
use Rattle.ksv_memo.proofs.Common.{IsSettled, tells, answering, Answered, Done, Entry, Open, nodes_of, IsRight, IsStack, All-map, IsOut, IsIn}
use Rattle.ksv_memo.proofs.Common.{agrees, self_in, AreDistinct-none, Told, Bool, nat_eq, ◌||◌, eqb_true, Some, is_among}
use Rattle.std.proofs.Common.{true≢false}
use Rattle.ksv_memo_rules.specs.Touched.{tree}
use Rattle.ksv_memo_rules.specs.Folds.{Fold, IsFold, IsLaid}
use Rattle.ksv_memo_rules.proofs.Evals.{tells-free}
use Rattle.ksv_memo_rules.proofs.Keeping.{done-kept}
use Rattle.ksv_memo.specs.Folding.{IsFirst, IsFounded, IsNoneBelow, Founds}
use Rattle.ksv_memo.specs.declared.folded.Run.{Run}
use Rattle.ksv_memo.specs.Running.{HasReached, HasEnded}

module _ {N A : Type 0} (w : Standing N A) (law : IsSettled w) where
  -- what the last open node answers is its answer from nothing
  pub ended-tells : (es : List (Entry N A)) (o : Open N A) (st : List (Open N A)) (a : A) → IsStack w es o.node st → HasEnded w es o a
      → (tells w [] o.node).outcome ≡ Answered a
  ended-tells es o st a stack ended =
      ap (λ (t : Told N A). t.outcome) (tells-free w law [] o.node (AreDistinct-none w) refl
      ∙ ended.came (answering w (o.node ∷ [])) (agrees w law es stack.right (o.node ∷ []) (stack.apart.0, tt)))

  pub among_all : (P : N → Type 0) (ns : List N) → AllByRecursion P ns → (n : N) → is_among w.number ns n ≡ true → P n
  among_all P [] h n e = absurd (true≢false (sym e))
  among_all P (m ∷ ns) h n e = by (nat_eq (w.number n) (w.number m)) refl (among_all P ns h.1 n)
    where
      by : (b : Bool) → nat_eq (w.number n) (w.number m) ≡ b → (is_among w.number ns n ≡ true → P n) → P n
      by true is rest = subst P (sym (law.own_number n m (eqb_true (w.number n) (w.number m) is))) h.0
      by false is rest = rest (sym (ap (λ b. b || is_among w.number ns n) is) ∙ e)

  -- none of the nodes behind a root that isn't kept is kept
  none-kept : (f : Fold N A) (count : ℕ) (es : List (Entry N A)) → IsRight w es → IsOut w (nodes_of es) f.root → IsFold w f count
      → (e : Entry N A) → IsIn w (nodes_of es) e.node → IsNoneBelow f count e.node
  none-kept f count es right out is e kept j lt same =
      let rooted : is_among w.number (tree w e.node) f.root ≡ true = subst (λ n. is_among w.number (tree w n) f.root ≡ true) same (is.rooted j lt) in
      let root : IsIn w (nodes_of es) f.root = among_all (IsIn w (nodes_of es)) (tree w e.node) (done-kept w law es right [] tt e.node kept) f.root rooted in
      true≢false (sym root ∙ out)

  -- fewer are none of them either
  fewer : (f : Fold N A) (count wild : ℕ) (n : N) → wild ≤ count → IsNoneBelow f count n → IsNoneBelow f wild n
  fewer f count wild n le none j lt = none j (omega arith)

  -- the number of nodes that are there, and what a run begins with
  module _ (f : Fold N A) (count : ℕ) (es : List (Entry N A)) (a : A) (is : (tells w [] f.root).outcome ≡ Answered a → IsFold w f count) where
    pub founds-in : (st : List (Open N A)) → IsFirst f.root st → HasReached w es st (Done a) → IsFold w f count
    founds-in [] first reached = absurd first
    founds-in (o ∷ st) first reached = is (ap (λ n. (tells w [] n).outcome) first ∙ ended-tells es o st a reached.0 reached.1)

    pub founds : (eq : N → N → Bool) {S : Type 0} (fold : S → Fold N A) (run : Run N S) → fold run.nodes ≡ f → run.kept ≡ 0 → run.wild ≤ count → run.far ≡ count
        → run.lent.items ≡ [] → IsLaid f → (st : List (Open N A)) → IsFirst f.root st → HasReached w es st (Done a)
        → AllByRecursion (λ o. IsNoneBelow f run.wild o.node) st → Founds eq fold (Some run) es st
    founds eq fold run same none le far lent laid [] first reached apart = absurd first
    founds eq fold run same none le far lent laid (o ∷ st) first reached apart =
        let fold_is : IsFold w f count = founds-in (o ∷ st) first reached in
        let out : IsOut w (nodes_of es) f.root = subst (IsOut w (nodes_of es)) (sym first) reached.0.apart.0 in
        subst (λ g. IsFounded g run.kept run.wild run.far run.lent.items es o st) (sym same) (record {
          laid = laid;
          root = first;
          none = none;
          reach = omega arith;
          in_size = (let size = fold_is.in_size in omega arith);
          no_lent = lent;
          out = All-map (λ e kept. fewer f count run.far e.node (omega arith) (none-kept f count es reached.0.right out fold_is e kept)) es (self_in w es);
          apart = apart;
        })
