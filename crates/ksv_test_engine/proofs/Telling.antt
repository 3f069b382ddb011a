-- What a link of a file's sums answers, asks and uses, and which links evaluation of it completes.
use Rattle.std.proofs.Common.{◌≡◌, ◌∙◌, ℕ, zero, suc, ◌-◌, ◌<◌, ◌≤◌, ◌==◌, Bool, false, List, [], ◌∷◌, ◌++◌, Ok, inl, inr, refl, sym, ap, subst, arith}
use Rattle.std.proofs.Common.{eq-eqb, nat_eq, if◌then◌else◌, Contains}
use Rattle.std.proofs.lemmas.List.Elements.{Contains-get_or, Contains-append_right}
use Rattle.std.proofs.lemmas.Bool.{cases_lt, or_from, or_left, or_right}
use Rattle.std.proofs.lemmas.Bool.Decides.{nat_tests}
use Rattle.std.specs.Prelude.{slice_get}
use Rattle.std.specs.List.{AllByRecursion, flat_map}
use Rattle.ksv_bytes.specs.declared.uses.Use.{Use}
use Rattle.ksv_memo_rules.specs.declared.rules.Next.TheVariants.{Need, Done}
use Rattle.ksv_memo_rules.specs.declared.rules.Outcome.{Outcome}
use Rattle.ksv_memo_rules.specs.declared.rules.Outcome.TheVariants.{Answered}
use Rattle.ksv_memo_rules.specs.Meaning.{Standing, IsSettled, on}
use Rattle.ksv_memo_rules.specs.Evaluation.{Told, told, with_step, with_reply, after, eval, tells, is_among, IsAnswered}
use Rattle.ksv_memo_rules.specs.Touched.{tree}
use Rattle.ksv_memo_rules.proofs.Evals.{asking, eval-free}
use Rattle.ksv_memo_rules.proofs.Keeping.{IsIn, IsIn-append, is_among-append, kept-tree}
use Rattle.ksv_memo_rules.proofs.Lists.{All-map}
use Rattle.ksv_memo_rules.proofs.Standing.{law_on}
use Rattle.ksv_test_engine.specs.Chain.{link_before}
use Rattle.ksv_test_engine.specs.Rows.{Reply}
use Rattle.ksv_test_engine.specs.Sums.{added_to, sum_uses, sum_of, sums_meaning, sums_lawful}
use Rattle.ksv_test_engine.specs.declared.samples.link.Link.{Link}

apart : (a b : ℕ) → a < b → nat_eq a b ≡ false
apart a b lt = grind (arith, nat_tests)

not_first : (a n : ℕ) → a ≡ suc n → (a == 0) ≡ false
not_first a n e = grind (arith, nat_tests)

module _ (bytes : List ℕ) where
  abbrev pub w : Standing Link Reply
  w = on sums_meaning bytes

  pub settled : IsSettled w
  settled = law_on sums_meaning sums_lawful bytes

  abbrev pub asked_by : Link → ℕ → List Link
  asked_by link zero = []
  asked_by link (suc n) = link_before link ∷ []

  abbrev pub uses_by : ℕ → List Use
  uses_by zero = []
  uses_by (suc n) = sum_uses n (slice_get bytes n) (sum_of bytes n ∷ [])

  -- what the link of a number tells
  abbrev pub told_by : Link → ℕ → Told Link Reply
  told_by link n = record { outcome = Answered (sum_of bytes n); asked = asked_by link n; uses = uses_by n }

  -- the same, once the link before it has this answer, by the place of the byte
  abbrev tells_at : Link → Reply → ℕ → Told Link Reply
  tells_at link reply place = record {
    outcome = Answered (added_to (slice_get bytes place) reply);
    asked = link_before link ∷ [];
    uses = sum_uses place (slice_get bytes place) (reply ∷ []);
  }

  first : (g : Link → Outcome Link Reply) (link : Link) → link.number ≡ 0 → told w g link 2 [] ≡ told_by link 0
  unfolding told with_step
  first g link e = ap (λ (n : ℕ). with_step g [] (λ a. told w g link 1 (a ∷ [])) (if n == 0 then Done (Ok 0) else Need (link_before link))) e

  next : (g : Link → Outcome Link Reply) (link : Link) (n : ℕ) → link.number ≡ suc n → g (link_before link) ≡ Answered (sum_of bytes n)
      → told w g link 2 [] ≡ told_by link (suc n)
  unfolding told with_step with_reply
  next g link n e answer =
      let before : link.number - 1 ≡ n = omega arith in
      ap (λ (b : Bool). with_step g [] (λ a. told w g link 1 (a ∷ [])) (if b then Done (Ok 0) else Need (link_before link))) (not_first link.number n e)
      ∙ ap (λ (o : Outcome Link Reply). after (link_before link ∷ []) [] (with_reply (λ a. told w g link 1 (a ∷ [])) o)) answer
      ∙ ap (tells_at link (sum_of bytes n)) before

  -- no open link is this one, if each has a greater number
  free : (opened : List Link) (link : Link) → AllByRecursion (λ (m : Link). link.number < m.number) opened → is_among w.number opened link ≡ false
  free [] link h = refl
  free (m ∷ opened) link h = or_from (nat_eq link.number m.number) (is_among w.number opened link) (apart link.number m.number h.0) (free opened link h.1)

  tells_in : (k n : ℕ) (opened : List Link) (link : Link) → link.number ≡ n → n < k → AllByRecursion (λ (m : Link). n < m.number) opened
      → eval w k opened link ≡ told_by link n
  tells_in zero n opened link e lt above = absurd (omega arith)
  tells_in (suc k) zero opened link e lt above =
      let out = free opened link (subst (λ x. AllByRecursion (λ (m : Link). x < m.number) opened) (sym e) above) in
      eval-free w k opened link out ∙ first (asking w k (link ∷ opened)) link e
  tells_in (suc k) (suc n) opened link e lt above =
      let out = free opened link (subst (λ x. AllByRecursion (λ (m : Link). x < m.number) opened) (sym e) above) in
      let more : AllByRecursion (λ (m : Link). n < m.number) opened = All-map (λ m up. (let h : n < m.number = omega (arith, up) in h)) opened above in
      let before = tells_in k n (link ∷ opened) (link_before link) (omega arith) (omega arith) (omega arith, more) in
      eval-free w k opened link out ∙ next (asking w k (link ∷ opened)) link n e (ap (λ (t : Told Link Reply). t.outcome) before)

  pub tells_by : (link : Link) (n : ℕ) → link.number ≡ n → tells w [] link ≡ told_by link n
  tells_by link n e = let small : link.number < w.nodes = link.small in tells_in w.nodes n [] link e (omega arith) tt

  -- ---- the tree of a link has each one before it
  pub in_last : (ms : List Link) (link other : Link) → other.number ≡ link.number → IsIn w (ms ++ link ∷ []) other
  in_last ms link other e =
      is_among-append w.number ms (link ∷ []) other
      ∙ or_right (is_among w.number ms other) (is_among w.number (link ∷ []) other)
      (or_left (nat_eq other.number link.number) false (eq-eqb other.number link.number e))

  whole : (link : Link) (n : ℕ) → link.number ≡ n → tree w link ≡ flat_map (tree w) (asked_by link n) ++ link ∷ []
  whole link n e =
      let is = tells_by link n e in
      let answered : IsAnswered (tells w [] link).outcome = subst (λ (t : Told Link Reply). IsAnswered t.outcome) (sym is) tt in
      kept-tree w settled link answered ∙ ap (λ (t : Told Link Reply). flat_map (tree w) t.asked ++ link ∷ []) is

  pub in_own : (link : Link) → Contains (tree w link) link
  in_own link = subst (λ ms. Contains ms link) (sym (whole link link.number refl))
      (Contains-append_right (flat_map (tree w) (asked_by link link.number)) (link ∷ []) link (Contains-get_or (link ∷ []) 0 link (omega arith)))

  pub in_tree : (n : ℕ) (link other : Link) → link.number ≡ n → other.number ≤ n → IsIn w (tree w link) other
  in_tree zero link other e le = subst (λ ms. IsIn w ms other) (sym (whole link zero e)) (in_last [] link other (omega arith))
  in_tree (suc n) link other e le = subst (λ ms. IsIn w ms other) (sym (whole link (suc n) e)) (elim (cases_lt other.number (suc n)) [
    | inl low ↦ (
        let before = in_tree n (link_before link) other (omega arith) (omega arith) in
        IsIn-append w (tree w (link_before link) ++ []) (link ∷ []) other (IsIn-append w (tree w (link_before link)) [] other before)
        )
    | inr up ↦ in_last (tree w (link_before link) ++ []) link other (omega arith)
  ])
