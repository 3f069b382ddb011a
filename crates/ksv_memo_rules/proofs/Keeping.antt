-- Laws of kept answers: the tree of a kept node is kept, its answer is the same whatever is open, and one more can be kept.
use Rattle.std.proofs.Common.{◌≡◌, ℕ, zero, suc, ◌+◌, ◌≤◌, Bool, true, false, List, [], ◌∷◌, ◌++◌, map, refl, sym, ◌∙◌, ap, subst, nat_eq, arith, ◌||◌, eq-eqb}
use Rattle.std.proofs.lemmas.Bool.{or_from, or_left, or_right}
use Rattle.std.proofs.lemmas.List.{map-append}
use Rattle.std.proofs.lemmas.List.Folds.{list_any-append}
use Rattle.std.specs.List.{AllByRecursion, flat_map, list_any, IsDistinct}
use Rattle.ksv_memo_rules.specs.declared.rules.Outcome.{Outcome}
use Rattle.ksv_memo_rules.specs.declared.rules.Outcome.TheVariants.{Answered, Circle}
use Rattle.ksv_memo_rules.specs.Meaning.{Standing, IsSettled}
use Rattle.ksv_memo_rules.specs.Evaluation.{is_among, Told, told, eval, IsAnswered, if_answered, completed, tells, answering}
use Rattle.ksv_memo_rules.specs.Entry.{Entry}
use Rattle.ksv_memo_rules.specs.Right.{nodes_of, AreDistinct, StandsIn, IsRight, Agrees}
use Rattle.ksv_memo_rules.proofs.Lists.{All-map, All-always, All-both, All-++, All-left, All-right, All-flat_map, All-from_flat_map}
use Rattle.ksv_memo_rules.proofs.Evals.{done-free, completed-apart, IsOut-cons, IsOut, NoneIn, eqb_true, asking, told_answered, eval-open, eval-free}
use Rattle.ksv_memo_rules.proofs.Evals.{completed-free, transfer, deep_enough, tells-free, answered_is, eval-zero_unanswered}

-- a node is among a list
abbrev pub IsIn : {N A : Type 0} → Standing N A → List N → N → Type 0
IsIn w kept m = is_among w.number kept m ≡ true

-- what is known of a kept node
pub record IsKept {N A : Type 0} (w : Standing N A) (kept : List N) (n : N) : Type 0 where
  pub answered : IsAnswered (tells w [] n).outcome
  closed : AllByRecursion (IsIn w kept) (tells w [] n).asked

kept_cases : {N A : Type 0} (w : Standing N A) → IsSettled w → (kept : List N) (e : Entry N A) (n : N) (rest : Bool) → StandsIn w kept e
    → (rest ≡ true → IsKept w kept n) → (b : Bool) → nat_eq (w.number n) (w.number e.node) ≡ b → (b || rest) ≡ true → IsKept w kept n
kept_cases {N} {A} w law kept e n rest right more true same h =
    let eq : n ≡ e.node = law.own_number n e.node (eqb_true (w.number n) (w.number e.node) same) in
    let P : N → Type 0 = λ x. IsKept w kept x in
    let Q : Outcome N A → Type 0 = λ out. IsAnswered out in
    subst P (sym eq) (record { answered = subst Q (sym right.outcome) tt; closed = right.closed })
kept_cases w law kept e n rest right more false same h = more h

pub kept_is : {N A : Type 0} (w : Standing N A) → IsSettled w → (kept : List N) (es : List (Entry N A)) → AllByRecursion (StandsIn w kept) es → (n : N)
    → IsIn w (nodes_of es) n → IsKept w kept n
kept_is w law kept [] right n h = absurd (cc)
kept_is w law kept (e ∷ es) right n h = kept_cases w law kept e n (is_among w.number (nodes_of es) n) right.0 (kept_is w law kept es right.1 n)
    (nat_eq (w.number n) (w.number e.node)) refl h

own_in : {N A : Type 0} (w : Standing N A) (kept : List N) (n : N) → IsIn w kept n → (o : Outcome N A) → AllByRecursion (IsIn w kept) (if_answered n o)
own_in w kept n e (Answered a) = (e, tt)
own_in w kept n e (Circle c) = tt

pub AreDistinct-none : {N A : Type 0} (w : Standing N A) → AreDistinct w []
unfolding IsDistinct
AreDistinct-none w = tt

-- ---- the whole tree of a kept node is kept
tree-step : {N A : Type 0} (w : Standing N A) → IsSettled w
    → (kept : List N) (each : (n : N) → IsIn w kept n → IsKept w kept n) (j : ℕ) (before : List N) (n : N)
    → ((m : N) → IsIn w kept m → IsAnswered (asking w j (n ∷ before) m) → AllByRecursion (IsIn w kept) (completed w j (n ∷ before) m))
    → IsIn w kept n → IsAnswered (eval w (suc j) before n).outcome → is_among w.number before n ≡ false
    → AllByRecursion (IsIn w kept) (completed w (suc j) before n)
tree-step {N} {A} w law kept each j before n ih in_kept h e =
    let t : Told N A = eval w (suc j) before n in
    let nothing : NoneIn w [] (completed w (suc j) before n) = All-always (λ m. refl) (completed w (suc j) before n) in
    let same : eval w (suc j + w.nodes) [] n ≡ t = transfer w (suc j) (suc j + w.nodes) before [] n (omega arith) h nothing in
    let is : tells w [] n ≡ t = sym (deep_enough w law (suc j + w.nodes) [] n (AreDistinct-none w) (omega arith)) ∙ same in
    let closed : AllByRecursion (IsIn w kept) t.asked = subst (λ (u : Told N A). AllByRecursion (IsIn w kept) u.asked) is (each n in_kept).closed in
    let level : t ≡ told w (asking w j (n ∷ before)) n (suc w.replies) [] = eval-free w j before n e in
    let answers : AllByRecursion (λ m. IsAnswered (asking w j (n ∷ before) m)) t.asked =
    subst (λ (u : Told N A). AllByRecursion (λ m. IsAnswered (asking w j (n ∷ before) m)) u.asked) (sym level)
    (told_answered w (asking w j (n ∷ before)) n (suc w.replies) [] (subst (λ (u : Told N A). IsAnswered u.outcome) level h)) in
    subst (AllByRecursion (IsIn w kept)) (sym (completed-free w j before n e))
    (All-++ (IsIn w kept) (flat_map (completed w j (n ∷ before)) t.asked) (if_answered n t.outcome)
    (All-flat_map (IsIn w kept) (completed w j (n ∷ before)) t.asked
    (All-both (IsIn w kept) (λ m. IsAnswered (asking w j (n ∷ before) m)) (λ m. AllByRecursion (IsIn w kept) (completed w j (n ∷ before) m)) ih t.asked
    closed answers))
    (own_in w kept n in_kept t.outcome))

tree : {N A : Type 0} (w : Standing N A) → IsSettled w → (kept : List N) (each : (n : N) → IsIn w kept n → IsKept w kept n) (j : ℕ) (before : List N) (n : N)
    → IsIn w kept n → IsAnswered (eval w j before n).outcome → AllByRecursion (IsIn w kept) (completed w j before n)
tree w law kept each zero before n in_kept h = absurd (eval-zero_unanswered w before n h)
tree w law kept each (suc j) before n in_kept h =
    by (is_among w.number before n) refl (tree-step w law kept each j before n (tree w law kept each j (n ∷ before)) in_kept h)
  where
    by : (b : Bool) → is_among w.number before n ≡ b → (is_among w.number before n ≡ false → AllByRecursion (IsIn w kept) (completed w (suc j) before n))
        → AllByRecursion (IsIn w kept) (completed w (suc j) before n)
    by true e f = absurd (subst (λ t. IsAnswered t.outcome) (eval-open w (suc j) before n e) h)
    by false e f = f e

-- ---- a kept answer is the same whatever is open, as long as no open node is kept
out_of_kept : {N A : Type 0} (w : Standing N A) (kept opened : List N) → AllByRecursion (IsOut w kept) opened → (m : N) → IsIn w kept m → IsOut w opened m
out_of_kept w kept [] h m e = refl
out_of_kept w kept (o ∷ opened) h m e = or_from (nat_eq (w.number m) (w.number o)) (is_among w.number opened m) (by (nat_eq (w.number m) (w.number o)) refl)
    (out_of_kept w kept opened h.1 m e)
  where
    by : (b : Bool) → nat_eq (w.number m) (w.number o) ≡ b → b ≡ false
    by true q = let same : w.number m ≡ w.number o = eqb_true (w.number m) (w.number o) q in let both : is_among w.number kept m ≡ is_among w.number kept o =
        ap (λ x. list_any (nat_eq x) (map w.number kept)) same in let no : is_among w.number kept o ≡ false = h.0 in absurd (cc)
    by false q = refl

pub kept_anywhere : {N A : Type 0} (w : Standing N A) → IsSettled w → (es : List (Entry N A)) → IsRight w es → (opened : List N)
    → AllByRecursion (IsOut w (nodes_of es)) opened → (n : N) → IsIn w (nodes_of es) n → tells w opened n ≡ tells w [] n
kept_anywhere w law es right opened apart n h =
    let each = kept_is w law (nodes_of es) es right.each in
    transfer w w.nodes w.nodes [] opened n (omega arith) (each n h).answered
    (All-map (out_of_kept w (nodes_of es) opened apart) (completed w w.nodes [] n) (tree w law (nodes_of es) each w.nodes [] n h (each n h).answered))

-- ---- one more entry
pub is_among-append : {N : Type 0} (number : N → ℕ) (ms ns : List N) (n : N) → is_among number (ms ++ ns) n ≡ (is_among number ms n || is_among number ns n)
is_among-append number ms ns n = ap (list_any (nat_eq (number n))) (map-append number ms ns)
    ∙ list_any-append (nat_eq (number n)) (map number ms) (map number ns)

pub IsIn-append : {N A : Type 0} (w : Standing N A) (ms ns : List N) (n : N) → IsIn w ms n → IsIn w (ms ++ ns) n
IsIn-append w ms ns n h = is_among-append w.number ms ns n ∙ or_left (is_among w.number ms n) (is_among w.number ns n) h

pub nodes_of-append : {N A : Type 0} (es fs : List (Entry N A)) → nodes_of (es ++ fs) ≡ nodes_of es ++ nodes_of fs
nodes_of-append es fs = map-append (λ e. e.node) es fs

pub self_in : {N A : Type 0} (w : Standing N A) (es : List (Entry N A)) → AllByRecursion (λ e. IsIn w (nodes_of es) e.node) es
self_in w [] = tt
self_in w (e ∷ es) = (
  or_left (nat_eq (w.number e.node) (w.number e.node)) (is_among w.number (nodes_of es) e.node) (eq-eqb (w.number e.node) (w.number e.node) refl),
  All-map (λ x h. or_right (nat_eq (w.number x.node) (w.number e.node)) (is_among w.number (nodes_of es) x.node) h) es (self_in w es),
)

-- where no open node is kept, each kept node answers as is kept
pub agrees : {N A : Type 0} (w : Standing N A) → IsSettled w → (es : List (Entry N A)) → IsRight w es → (opened : List N)
    → AllByRecursion (IsOut w (nodes_of es)) opened → Agrees es (answering w opened)
agrees {N} {A} w law es right opened apart =
    All-both (λ e. IsIn w (nodes_of es) e.node) (StandsIn w (nodes_of es)) (λ e. answering w opened e.node ≡ Answered e.answer)
    (λ e is_in is_right. ap (λ (u : Told N A). u.outcome) (kept_anywhere w law es right opened apart e.node is_in) ∙ is_right.outcome)
    es (self_in w es) right.each

-- with no entry the engine is right
pub none_right : {N A : Type 0} (w : Standing N A) (es : List (Entry N A)) → es ≡ [] → IsRight w es
none_right {N} {A} w es e = let P : List (Entry N A) → Type 0 = λ xs. IsRight w xs in subst P (sym e) (record { each = tt; once = AreDistinct-none w })

-- what an evaluation of a kept node completes is kept
pub done-kept : {N A : Type 0} (w : Standing N A) → IsSettled w → (es : List (Entry N A)) → IsRight w es → (opened : List N)
    → AllByRecursion (IsOut w (nodes_of es)) opened → (n : N) → IsIn w (nodes_of es) n → AllByRecursion (IsIn w (nodes_of es)) (completed w w.nodes opened n)
done-kept {N} {A} w law es right opened apart n h =
    let each = kept_is w law (nodes_of es) es right.each in
    tree w law (nodes_of es) each w.nodes opened n h
    (subst (λ (t : Told N A). IsAnswered t.outcome) (sym (kept_anywhere w law es right opened apart n h)) (each n h).answered)

-- ---- what a kept node completes is the same whatever is open
pub flat_map_congr : {X Y : Type 0} (f g : X → List Y) (xs : List X) → AllByRecursion (λ x. f x ≡ g x) xs → flat_map f xs ≡ flat_map g xs
flat_map_congr f g [] h = refl
flat_map_congr f g (x ∷ xs) h = ap (λ ys. ys ++ flat_map f xs) h.0 ∙ ap (λ ys. g x ++ ys) (flat_map_congr f g xs h.1)

tree-same-step : {N A : Type 0} (w : Standing N A) (j k : ℕ) (before opened : List N) (n : N)
    → ((m : N) → IsAnswered (asking w j (n ∷ before) m) → NoneIn w (n ∷ opened) (completed w j (n ∷ before) m)
    → completed w k (n ∷ opened) m ≡ completed w j (n ∷ before) m)
    → suc j ≤ suc k → is_among w.number before n ≡ false → IsAnswered (eval w (suc j) before n).outcome → NoneIn w opened (completed w (suc j) before n)
    → completed w (suc k) opened n ≡ completed w (suc j) before n
tree-same-step {N} {A} w j k before opened n ih le e h out =
    let t : Told N A = eval w (suc j) before n in
    let level : t ≡ told w (asking w j (n ∷ before)) n (suc w.replies) [] = eval-free w j before n e in
    let parts : NoneIn w opened (flat_map (completed w j (n ∷ before)) t.asked ++ if_answered n t.outcome) =
    subst (NoneIn w opened) (completed-free w j before n e) out in
    let free : is_among w.number opened n ≡ false =
    (subst (NoneIn w opened) (answered_is n t.outcome h)
    (All-right (IsOut w opened) (flat_map (completed w j (n ∷ before)) t.asked) (if_answered n t.outcome) parts)).0 in
    let trees : AllByRecursion (λ m. NoneIn w opened (completed w j (n ∷ before) m)) t.asked =
    All-from_flat_map (IsOut w opened) (completed w j (n ∷ before)) t.asked
    (All-left (IsOut w opened) (flat_map (completed w j (n ∷ before)) t.asked) (if_answered n t.outcome) parts) in
    let answers : AllByRecursion (λ m. IsAnswered (asking w j (n ∷ before) m)) t.asked =
    subst (λ (u : Told N A). AllByRecursion (λ m. IsAnswered (asking w j (n ∷ before) m)) u.asked) (sym level)
    (told_answered w (asking w j (n ∷ before)) n (suc w.replies) [] (subst (λ (u : Told N A). IsAnswered u.outcome) level h)) in
    let same : AllByRecursion (λ m. completed w k (n ∷ opened) m ≡ completed w j (n ∷ before) m) t.asked =
    All-both (λ m. NoneIn w opened (completed w j (n ∷ before) m)) (λ m. IsAnswered (asking w j (n ∷ before) m))
    (λ m. completed w k (n ∷ opened) m ≡ completed w j (n ∷ before) m)
    (λ m tree answer. ih m answer
    (All-both (IsOut w (n ∷ before)) (IsOut w opened) (IsOut w (n ∷ opened)) (λ x p q. IsOut-cons w n opened before x p q) (completed w j (n ∷ before) m)
    (completed-apart w j (n ∷ before) m) tree)) t.asked trees answers in
    completed-free w k opened n free
    ∙ ap (λ (u : Told N A). flat_map (completed w k (n ∷ opened)) u.asked ++ if_answered n u.outcome) (transfer w (suc j) (suc k) before opened n le h out)
    ∙ ap (λ ys. ys ++ if_answered n t.outcome) (flat_map_congr (completed w k (n ∷ opened)) (completed w j (n ∷ before)) t.asked same)
    ∙ sym (completed-free w j before n e)

pub tree-same : {N A : Type 0} (w : Standing N A) (j k : ℕ) (before opened : List N) (n : N) → j ≤ k → IsAnswered (eval w j before n).outcome
    → NoneIn w opened (completed w j before n) → completed w k opened n ≡ completed w j before n
tree-same w zero k before opened n le h out = absurd (eval-zero_unanswered w before n h)
tree-same w (suc j) zero before opened n le h out = absurd (omega arith)
tree-same w (suc j) (suc k) before opened n le h out =
    by (is_among w.number before n) refl
    (λ e. tree-same-step w j k before opened n (λ m a o. tree-same w j k (n ∷ before) (n ∷ opened) m (omega arith) a o) le e h out)
  where
    by : (b : Bool) → is_among w.number before n ≡ b → (is_among w.number before n ≡ false → completed w (suc k) opened n ≡ completed w (suc j) before n)
        → completed w (suc k) opened n ≡ completed w (suc j) before n
    by true e f = absurd (subst (λ t. IsAnswered t.outcome) (eval-open w (suc j) before n e) h)
    by false e f = f e

-- the tree of an answered node is the trees of what it asked, and itself
pub kept-tree : {N A : Type 0} (w : Standing N A) → IsSettled w → (n : N) → IsAnswered (tells w [] n).outcome
    → completed w w.nodes [] n ≡ flat_map (completed w w.nodes []) (tells w [] n).asked ++ n ∷ []
kept-tree {N} {A} w law n answered =
    let t : Told N A = tells w [] n in
    let level : t ≡ told w (answering w (n ∷ [])) n (suc w.replies) [] = tells-free w law [] n (AreDistinct-none w) refl in
    let answers : AllByRecursion (λ m. IsAnswered (answering w (n ∷ []) m)) t.asked =
    subst (λ (u : Told N A). AllByRecursion (λ m. IsAnswered (answering w (n ∷ []) m)) u.asked) (sym level)
    (told_answered w (answering w (n ∷ [])) n (suc w.replies) [] (subst (λ (u : Told N A). IsAnswered u.outcome) level answered)) in
    let nothing : (ms : List N) → NoneIn w [] ms = λ ms. All-always (λ m. refl) ms in
    let same : AllByRecursion (λ m. completed w w.nodes (n ∷ []) m ≡ completed w w.nodes [] m) t.asked =
    All-map (λ m answer. sym (tree-same w w.nodes w.nodes (n ∷ []) [] m (omega arith) answer (nothing (completed w w.nodes (n ∷ []) m)))) t.asked
    answers in
    done-free w law [] n (AreDistinct-none w) refl
    ∙ ap (λ ys. ys ++ if_answered n t.outcome) (flat_map_congr (completed w w.nodes (n ∷ [])) (completed w w.nodes []) t.asked same)
    ∙ ap (λ ys. flat_map (completed w w.nodes []) t.asked ++ ys) (answered_is n t.outcome answered)
