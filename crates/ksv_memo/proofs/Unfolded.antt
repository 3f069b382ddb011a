-- What is known of nodes that are kept by numbers alone, from their root.
use Rattle.ksv_memo.proofs.Common.{◌≡◌, ◌∙◌, ℕ, arith, Bool, true, List, [], Some, ap, sym, subst, Result, Standing, tells, Entry}
use Rattle.ksv_memo_rules.specs.Folds.{AreTold, Fold, IsFold}
use Rattle.ksv_memo.specs.Folding.{IsTold, TellsFold}
use Rattle.ksv_memo.specs.Nodes.{IsEntry}

-- no nodes
pub no_fold : {N A : Type 0} (w : Standing N A) (f : Fold N A) → IsFold w f 0
no_fold w f = record {
  in_size = omega arith;
  stands = λ j lt. absurd (omega arith);
  calls = λ j lt. absurd (omega arith);
  rooted = λ j lt. absurd (omega arith);
  within = λ i j le lt. absurd (omega arith);
}

-- those of a root that is kept
pub tells_fold : {N V F : Type 0} (w : Standing N (Result V F)) (eq : N → N → Bool) → ((a b : N) → eq a b ≡ true → a ≡ b) → (f : Fold N (Result V F))
    (es : List (Entry N (Result V F))) → IsTold w eq es f.root → (n : N) (e : Entry N (Result V F)) → IsEntry eq es n e → n ≡ f.root
    → (kept count : ℕ) → TellsFold w f (Some e.answer) kept count → AreTold w f kept → IsFold w f count
tells_fold w eq exact f es told n e is root kept count tells_it =
    tells_it (ap (λ m. (tells w [] m).outcome) (sym root ∙ exact n e.node is.passes) ∙ told e (subst (λ m. IsEntry eq es m e) root is))
