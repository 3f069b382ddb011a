-- Equal steps are the same; and what the steps behind those of a list say.
use Rattle.std.proofs.Common.{◌≡◌, ◌≢◌, ◌∙◌, true, List, [], ◌∷◌, ◌++◌, ap, sym, arith, refl}
use Rattle.std.proofs.Common.{reverse}
use Rattle.std.proofs.lemmas.List.{append_cancel_right, reverse-append, reverse-reverse}
use Rattle.std.proofs.lemmas.Bool.{eqb-true}
use Rattle.std.proofs.lemmas.Bool.Decides.{nat_tests}
use Rattle.std.specs.Bool.{Decides}
use Rattle.ksv_expr_value.specs.contracts.step.StepPartialEq.TheImpl.{ghosts as step_tests}
use Rattle.ksv_expr_value.specs.declared.step.Step.{Step}
use Rattle.ksv_expr_value.specs.declared.step.Step.TheVariants.{Name, Index}
use Rattle.ksv_folds.specs.Tails.{IsTail, tail_in}
use Rattle.ksv_folds.specs.declared.tail.Tail.TheVariants.{Other, Element, Member}

step_exact : (a b : Step) → step_tests.eq a b ≡ true → a ≡ b
step_exact (Name n) (Name m) h = ap Name (eqb-true n m h)
step_exact (Name n) (Index j) h = absurd (cc)
step_exact (Index i) (Name m) h = absurd (cc)
step_exact (Index i) (Index j) h = ap Index (eqb-true i j h)

step_same : (a b : Step) → a ≡ b → step_tests.eq a b ≡ true
step_same (Name n) (Name m) h = let e : n ≡ m = cc in grind (arith, nat_tests)
step_same (Name n) (Index j) h = absurd (cc)
step_same (Index i) (Name m) h = absurd (cc)
step_same (Index i) (Index j) h = let e : i ≡ j = cc in grind (arith, nat_tests)

pub step_decides : (a b : Step) → Decides (step_tests.eq a b) (a ≡ b)
step_decides a b = (step_exact a b, step_same a b)

-- ---- the steps behind a list's

-- steps lead from the list's path to a path just where they are behind the list's
upward : (l q rest : List Step) → reverse q ≡ reverse l ++ rest → q ≡ reverse rest ++ l
upward l q rest e =
    sym (reverse-reverse q) ∙ ap reverse e ∙ reverse-append (reverse l) rest ∙ ap (λ r. reverse rest ++ r) (reverse-reverse l)

downward : (l q rest : List Step) → q ≡ reverse rest ++ l → reverse q ≡ reverse l ++ rest
downward l q rest e = ap reverse e ∙ reverse-append (reverse rest) l ∙ ap (λ r. reverse l ++ r) (reverse-reverse rest)

-- there is one list of such steps
same_rest : (l q rest more : List Step) → q ≡ reverse rest ++ l → q ≡ reverse more ++ l → rest ≡ more
same_rest l q rest more e h =
    sym (reverse-reverse rest) ∙ ap reverse (append_cancel_right (reverse rest) (reverse more) l (sym e ∙ h)) ∙ reverse-reverse more

apart : (l q rest : List Step) → q ≡ reverse rest ++ l → tail_in rest ≡ Other → IsTail l q Other
apart l q rest e none = (
  λ i h. (let t = ap tail_in (same_rest l q rest (Index i ∷ []) e h) in let bad : Other ≡ Element i = sym none ∙ t in cc),
  λ i n h. (let t = ap tail_in (same_rest l q rest (Index i ∷ (Name n ∷ [])) e h) in let bad : Other ≡ Member i n = sym none ∙ t in cc),
)

pub tail_is : (l q rest : List Step) → reverse q ≡ reverse l ++ rest → IsTail l q (tail_in rest)
tail_is l q [] e = apart l q [] (upward l q [] e) refl
tail_is l q (Index i ∷ []) e = upward l q (Index i ∷ []) e
tail_is l q (Name n ∷ []) e = apart l q (Name n ∷ []) (upward l q (Name n ∷ []) e) refl
tail_is l q (Index i ∷ (Name n ∷ [])) e = upward l q (Index i ∷ (Name n ∷ [])) e
tail_is l q (Index i ∷ (Index j ∷ [])) e = apart l q (Index i ∷ (Index j ∷ [])) (upward l q (Index i ∷ (Index j ∷ [])) e) refl
tail_is l q (Name n ∷ (t ∷ [])) e = apart l q (Name n ∷ (t ∷ [])) (upward l q (Name n ∷ (t ∷ [])) e) refl
tail_is l q (s ∷ (t ∷ (u ∷ r))) e = apart l q (s ∷ (t ∷ (u ∷ r))) (upward l q (s ∷ (t ∷ (u ∷ r))) e) refl

pub tail_none : (l q : List Step) → ((rest : List Step) → reverse q ≢ reverse l ++ rest) → IsTail l q Other
tail_none l q none = (
  λ i h. none (Index i ∷ []) (downward l q (Index i ∷ []) h),
  λ i n h. none (Index i ∷ (Name n ∷ [])) (downward l q (Index i ∷ (Name n ∷ [])) h),
)
