-- Laws of evaluation from nothing: an answer is the same whatever is open outside its tree, and the depth doesn't matter.
use Rattle.std.proofs.Common.{◌≡◌, ℕ, zero, suc, ◌+◌, ◌-◌, ◌<◌, ◌≤◌, Bool, true, false, cond, List, [], ◌∷◌, ◌++◌, length, map, refl, sym, ◌∙◌, ap, subst}
use Rattle.std.proofs.Common.{nat_eq, arith, ◌||◌}
use Rattle.std.proofs.lemmas.Bool.{or_from, or_parts}
use Rattle.std.proofs.lemmas.Bool.Decides.{nat_tests}
use Rattle.std.proofs.lemmas.Map.Steps.{length-le_from_distinct_below}
use Rattle.std.proofs.lemmas.Map.Keys.{IsDistinct-cons}
use Rattle.std.proofs.lemmas.List.{length-map}
use mathlib.Core.Path.{fun_ext}
use Rattle.std.specs.List.{AllByRecursion, flat_map, list_any}
use Rattle.ksv_bytes.specs.declared.uses.Use.{Use}
use Rattle.ksv_memo_rules.specs.declared.rules.Next.{Next}
use Rattle.ksv_memo_rules.specs.declared.rules.Next.TheVariants.{Need, Done}
use Rattle.ksv_memo_rules.specs.declared.rules.Outcome.{Outcome}
use Rattle.ksv_memo_rules.specs.declared.rules.Outcome.TheVariants.{Answered, Circle}
use Rattle.ksv_memo_rules.specs.Meaning.{Standing, IsSettled}
use Rattle.ksv_memo_rules.specs.Evaluation.{is_among, Told, only_circle, after, with_reply, with_step, told, eval, IsAnswered, if_answered, completed, tells}
use Rattle.ksv_memo_rules.specs.Evaluation.{answering}
use Rattle.ksv_memo_rules.specs.Right.{AreDistinct}
use Rattle.ksv_memo_rules.proofs.Lists.{All-map, All-always, All-both, All-++, All-left, All-right, All-flat_map, All-from_flat_map}

-- two ways to answer that agree on what is asked
reply_congr : {N A : Type 0} (f g : N → Outcome N A) (restF restG : A → Told N A)
    → ((a : A) → AllByRecursion (λ m. f m ≡ g m) (restF a).asked → restF a ≡ restG a) → (o : Outcome N A)
    → AllByRecursion (λ m. f m ≡ g m) (with_reply restF o).asked → with_reply restF o ≡ with_reply restG o
unfolding with_reply
reply_congr f g restF restG same (Answered a) h = same a h
reply_congr f g restF restG same (Circle c) h = refl

step_congr : {N A : Type 0} (f g : N → Outcome N A) (us : List Use) (restF restG : A → Told N A)
    → ((a : A) → AllByRecursion (λ m. f m ≡ g m) (restF a).asked → restF a ≡ restG a) → (s : Next N A)
    → AllByRecursion (λ m. f m ≡ g m) (with_step f us restF s).asked → with_step f us restF s ≡ with_step g us restG s
unfolding with_step
step_congr f g us restF restG same (Done a) h = refl
step_congr f g us restF restG same (Need m) h = ap (after (m ∷ []) us) (reply_congr f g restF restG same (f m) h.1 ∙ ap (with_reply restG) h.0)

pub told_congr : {N A : Type 0} (w : Standing N A) (f g : N → Outcome N A) (n : N) (j : ℕ) (replies : List A)
    → AllByRecursion (λ m. f m ≡ g m) (told w f n j replies).asked → told w f n j replies ≡ told w g n j replies
unfolding told
told_congr w f g n zero replies h = refl
told_congr w f g n (suc j) replies h = step_congr f g (w.added n replies) (λ a. told w f n j (replies ++ a ∷ [])) (λ a. told w g n j (replies ++ a ∷ []))
    (λ a. told_congr w f g n j (replies ++ a ∷ [])) (w.follow n replies) h

-- where there is an answer, each asked node was answered
reply_answered : {N A : Type 0} (f : N → Outcome N A) (rest : A → Told N A)
    → ((a : A) → IsAnswered (rest a).outcome → AllByRecursion (λ m. IsAnswered (f m)) (rest a).asked) → (o : Outcome N A)
    → IsAnswered (with_reply rest o).outcome → IsAnswered o × AllByRecursion (λ m. IsAnswered (f m)) (with_reply rest o).asked
unfolding with_reply
reply_answered f rest each (Answered a) h = (tt, each a h)
reply_answered f rest each (Circle c) h = absurd h

step_answered : {N A : Type 0} (f : N → Outcome N A) (us : List Use) (rest : A → Told N A)
    → ((a : A) → IsAnswered (rest a).outcome → AllByRecursion (λ m. IsAnswered (f m)) (rest a).asked) → (s : Next N A)
    → IsAnswered (with_step f us rest s).outcome → AllByRecursion (λ m. IsAnswered (f m)) (with_step f us rest s).asked
unfolding with_step
step_answered f us rest each (Done a) h = tt
step_answered f us rest each (Need m) h = reply_answered f rest each (f m) h

pub told_answered : {N A : Type 0} (w : Standing N A) (f : N → Outcome N A) (n : N) (j : ℕ) (replies : List A) → IsAnswered (told w f n j replies).outcome
    → AllByRecursion (λ m. IsAnswered (f m)) (told w f n j replies).asked
unfolding told
told_answered w f n zero replies h = absurd h
told_answered w f n (suc j) replies h = step_answered f (w.added n replies) (λ a. told w f n j (replies ++ a ∷ []))
    (λ a. told_answered w f n j (replies ++ a ∷ [])) (w.follow n replies) h

-- ---- one level of an evaluation
abbrev pub asking : {N A : Type 0} → Standing N A → ℕ → List N → N → Outcome N A
asking w k opened m = (eval w k opened m).outcome

pub eval-open : {N A : Type 0} (w : Standing N A) (k : ℕ) (opened : List N) (n : N) → is_among w.number opened n ≡ true → eval w k opened n ≡ only_circle n
unfolding eval
eval-open w zero opened n e = refl
eval-open w (suc k) opened n e = ap (λ b. cond b (only_circle n) (told w (asking w k (n ∷ opened)) n (suc w.replies) [])) e

pub eval-free : {N A : Type 0} (w : Standing N A) (k : ℕ) (opened : List N) (n : N) → is_among w.number opened n ≡ false
    → eval w (suc k) opened n ≡ told w (asking w k (n ∷ opened)) n (suc w.replies) []
unfolding eval
eval-free w k opened n e = ap (λ b. cond b (only_circle n) (told w (asking w k (n ∷ opened)) n (suc w.replies) [])) e

pub completed-open : {N A : Type 0} (w : Standing N A) (k : ℕ) (opened : List N) (n : N) → is_among w.number opened n ≡ true → completed w k opened n ≡ []
unfolding completed
completed-open w zero opened n e = refl
completed-open w (suc k) opened n e =
    ap (λ b. cond b [] (flat_map (completed w k (n ∷ opened)) (eval w (suc k) opened n).asked ++ if_answered n (eval w (suc k) opened n).outcome)) e

pub completed-free : {N A : Type 0} (w : Standing N A) (k : ℕ) (opened : List N) (n : N) → is_among w.number opened n ≡ false
    → completed w (suc k) opened n ≡ flat_map (completed w k (n ∷ opened)) (eval w (suc k) opened n).asked ++ if_answered n (eval w (suc k) opened n).outcome
unfolding completed
completed-free w k opened n e =
    ap (λ b. cond b [] (flat_map (completed w k (n ∷ opened)) (eval w (suc k) opened n).asked ++ if_answered n (eval w (suc k) opened n).outcome)) e

-- ---- none of these nodes is open
abbrev pub IsOut : {N A : Type 0} → Standing N A → List N → N → Type 0
IsOut w opened m = is_among w.number opened m ≡ false

abbrev pub NoneIn : {N A : Type 0} → Standing N A → List N → List N → Type 0
NoneIn w opened ms = AllByRecursion (IsOut w opened) ms

IsOut-tail : {N A : Type 0} (w : Standing N A) (n : N) (opened : List N) (m : N) → IsOut w (n ∷ opened) m → IsOut w opened m
IsOut-tail w n opened m e = (or_parts _ _ e).1

pub own_out : {N A : Type 0} (w : Standing N A) (opened : List N) (n : N) → IsOut w opened n → (o : Outcome N A) → NoneIn w opened (if_answered n o)
own_out w opened n e (Answered a) = (e, tt)
own_out w opened n e (Circle c) = tt

-- no node that an evaluation completes was open
apart-step : {N A : Type 0} (w : Standing N A) (k : ℕ) (opened : List N) (n : N) → ((m : N) → NoneIn w (n ∷ opened) (completed w k (n ∷ opened) m))
    → (t : Told N A) → (b : Bool) → is_among w.number opened n ≡ b
    → NoneIn w opened (cond b [] (flat_map (completed w k (n ∷ opened)) t.asked ++ if_answered n t.outcome))
apart-step w k opened n ih t true e = tt
apart-step w k opened n ih t false e =
    All-++ (IsOut w opened) (flat_map (completed w k (n ∷ opened)) t.asked) (if_answered n t.outcome)
    (All-flat_map (IsOut w opened) (completed w k (n ∷ opened)) t.asked
    (All-always (λ m. All-map (IsOut-tail w n opened) (completed w k (n ∷ opened) m) (ih m)) t.asked))
    (own_out w opened n e t.outcome)

pub completed-apart : {N A : Type 0} (w : Standing N A) (k : ℕ) (opened : List N) (n : N) → NoneIn w opened (completed w k opened n)
unfolding completed
completed-apart w zero opened n = tt
completed-apart w (suc k) opened n = apart-step w k opened n (completed-apart w k (n ∷ opened)) (eval w (suc k) opened n) (is_among w.number opened n) refl

-- ---- an answer is the same whatever is open, if the whole tree holds no open node
pub eqb_true : (a b : ℕ) → nat_eq a b ≡ true → a ≡ b
eqb_true a b e = grind (arith, nat_tests)

pub IsOut-cons : {N A : Type 0} (w : Standing N A) (n : N) (opened others : List N) (m : N) → IsOut w (n ∷ others) m → IsOut w opened m → IsOut w (n ∷ opened) m
IsOut-cons w n opened others m e f = or_from (nat_eq (w.number m) (w.number n)) (is_among w.number opened m)
    (or_parts (nat_eq (w.number m) (w.number n)) (is_among w.number others m) e).0 f

pub answered_is : {N A : Type 0} (n : N) (o : Outcome N A) → IsAnswered o → if_answered n o ≡ n ∷ []
answered_is n (Answered a) h = refl
answered_is n (Circle c) h = absurd h

transfer-step : {N A : Type 0} (w : Standing N A) (j k : ℕ) (before opened : List N) (n : N)
    → ((m : N) → IsAnswered (asking w j (n ∷ before) m) → NoneIn w (n ∷ opened) (completed w j (n ∷ before) m)
    → eval w k (n ∷ opened) m ≡ eval w j (n ∷ before) m)
    → is_among w.number before n ≡ false → IsAnswered (eval w (suc j) before n).outcome → NoneIn w opened (completed w (suc j) before n)
    → eval w (suc k) opened n ≡ eval w (suc j) before n
transfer-step {N} {A} w j k before opened n ih e h out =
    let f : N → Outcome N A = asking w j (n ∷ before) in
    let g : N → Outcome N A = asking w k (n ∷ opened) in
    let t : Told N A = told w f n (suc w.replies) [] in
    let is : eval w (suc j) before n ≡ t = eval-free w j before n e in
    let parts : NoneIn w opened (flat_map (completed w j (n ∷ before)) t.asked ++ if_answered n t.outcome) =
    subst (λ (u : Told N A). NoneIn w opened (flat_map (completed w j (n ∷ before)) u.asked ++ if_answered n u.outcome)) is
    (subst (NoneIn w opened) (completed-free w j before n e) out) in
    let answered : IsAnswered t.outcome = subst (λ (u : Told N A). IsAnswered u.outcome) is h in
    let free : is_among w.number opened n ≡ false =
    (subst (NoneIn w opened) (answered_is n t.outcome answered)
    (All-right (IsOut w opened) (flat_map (completed w j (n ∷ before)) t.asked) (if_answered n t.outcome) parts)).0 in
    let trees : AllByRecursion (λ m. NoneIn w opened (completed w j (n ∷ before) m)) t.asked =
    All-from_flat_map (IsOut w opened) (completed w j (n ∷ before)) t.asked
    (All-left (IsOut w opened) (flat_map (completed w j (n ∷ before)) t.asked) (if_answered n t.outcome) parts) in
    let same : AllByRecursion (λ m. f m ≡ g m) t.asked = All-both (λ m. NoneIn w opened (completed w j (n ∷ before) m)) (λ m. IsAnswered (f m)) (λ m. f m ≡ g m)
    (λ m tree answer. sym
    (ap (λ (u : Told N A). u.outcome)
    (ih m answer (All-both (IsOut w (n ∷ before)) (IsOut w opened) (IsOut w (n ∷ opened)) (λ x p q. IsOut-cons w n opened before x p q)
    (completed w j (n ∷ before) m) (completed-apart w j (n ∷ before) m) tree))))
    t.asked trees (told_answered w f n (suc w.replies) [] answered) in
    eval-free w k opened n free ∙ sym (told_congr w f g n (suc w.replies) [] same) ∙ sym is

pub eval-zero : {N A : Type 0} (w : Standing N A) (opened : List N) (n : N) → eval w zero opened n ≡ only_circle n
unfolding eval
eval-zero w opened n = refl

pub eval-zero_unanswered : {N A : Type 0} (w : Standing N A) (before : List N) (n : N) → IsAnswered (eval w zero before n).outcome → ⊥
unfolding eval
eval-zero_unanswered w before n h = h

pub transfer : {N A : Type 0} (w : Standing N A) (j k : ℕ) (before opened : List N) (n : N) → j ≤ k → IsAnswered (eval w j before n).outcome
    → NoneIn w opened (completed w j before n) → eval w k opened n ≡ eval w j before n
transfer w zero k before opened n le h out = absurd (eval-zero_unanswered w before n h)
transfer w (suc j) zero before opened n le h out = absurd (omega arith)
transfer w (suc j) (suc k) before opened n le h out =
    by (is_among w.number before n) refl
    (λ e. transfer-step w j k before opened n (λ m a o. transfer w j k (n ∷ before) (n ∷ opened) m (omega arith) a o) e h out)
  where
    by : (b : Bool) → is_among w.number before n ≡ b → (is_among w.number before n ≡ false → eval w (suc k) opened n ≡ eval w (suc j) before n)
        → eval w (suc k) opened n ≡ eval w (suc j) before n
    by true e f = absurd (subst (λ t. IsAnswered t.outcome) (eval-open w (suc j) before n e) h)
    by false e f = f e

-- ---- as much depth as there are nodes suffices
bounded_cases : (q m nodes : ℕ) (rest : Bool) → m < nodes → (rest ≡ true → q < nodes) → (b : Bool) → nat_eq q m ≡ b → (b || rest) ≡ true → q < nodes
bounded_cases q m nodes rest below more true e h = let eq : q ≡ m = eqb_true q m e in omega arith
bounded_cases q m nodes rest below more false e h = more h

numbers_bounded : {N A : Type 0} (w : Standing N A) → IsSettled w → (ns : List N) (q : ℕ) → list_any (nat_eq q) (map w.number ns) ≡ true → q < w.nodes
numbers_bounded w law [] q h = absurd (cc)
numbers_bounded w law (n ∷ ns) q h = bounded_cases q (w.number n) w.nodes (list_any (nat_eq q) (map w.number ns)) (law.bounded n) (numbers_bounded w law ns q)
    (nat_eq q (w.number n)) refl h

pub few : {N A : Type 0} (w : Standing N A) → IsSettled w → (ns : List N) → AreDistinct w ns → length ns ≤ w.nodes
few w law ns d = simp length-map at (length-le_from_distinct_below (map w.number ns) w.nodes d (numbers_bounded w law ns))

pub out_apart : {N A : Type 0} (w : Standing N A) (n : N) (ns : List N) → IsOut w ns n → AllByRecursion (λ y. nat_eq (w.number n) y ≡ false) (map w.number ns)
out_apart w n [] e = tt
out_apart w n (m ∷ ns) e = (
  (or_parts (nat_eq (w.number n) (w.number m)) (is_among w.number ns n) e).0,
  out_apart w n ns
      (or_parts (nat_eq (w.number n) (w.number m)) (is_among w.number ns n) e).1,
)

pub AreDistinct-cons : {N A : Type 0} (w : Standing N A) (n : N) (ns : List N) → IsOut w ns n → AreDistinct w ns → AreDistinct w (n ∷ ns)
AreDistinct-cons w n ns e d = IsDistinct-cons nat_eq (w.number n) (map w.number ns) (out_apart w n ns e) d

-- with as many open nodes as there are nodes, each node is open
none_free : {N A : Type 0} (w : Standing N A) → IsSettled w → (ns : List N) (n : N) → AreDistinct w ns → w.nodes ≤ length ns → IsOut w ns n → ⊥
none_free w law ns n d le e = let more : length (n ∷ ns) ≤ w.nodes = few w law (n ∷ ns) (AreDistinct-cons w n ns e d) in omega arith

deeper_cases : {N A : Type 0} (w : Standing N A) → IsSettled w → (k : ℕ) (opened : List N) (n : N)
    → (IsOut w opened n → eval w (suc k) opened n ≡ eval w k opened n) → (b : Bool) → is_among w.number opened n ≡ b
    → eval w (suc k) opened n ≡ eval w k opened n
deeper_cases w law k opened n free true e = eval-open w (suc k) opened n e ∙ sym (eval-open w k opened n e)
deeper_cases w law k opened n free false e = free e

deeper : {N A : Type 0} (w : Standing N A) → IsSettled w → (k : ℕ) (opened : List N) (n : N) → AreDistinct w opened → w.nodes ≤ k + length opened
    → eval w (suc k) opened n ≡ eval w k opened n
deeper w law zero opened n d le = deeper_cases w law zero opened n (λ e. absurd (none_free w law opened n d (omega arith) e)) (is_among w.number opened n) refl
deeper w law (suc k) opened n d le = deeper_cases w law (suc k) opened n
    (λ e. eval-free w (suc k) opened n e ∙ ap (λ f. told w f n (suc w.replies) [])
    (fun_ext (λ m. ap (λ (u : Told _ _). u.outcome) (deeper w law k (n ∷ opened) m (AreDistinct-cons w n opened e d) (omega arith))))
    ∙ sym (eval-free w k opened n e))
    (is_among w.number opened n) refl

deeper_by : {N A : Type 0} (w : Standing N A) → IsSettled w → (i k l : ℕ) → l ≡ k + i → (opened : List N) (n : N) → AreDistinct w opened
    → w.nodes ≤ k + length opened → eval w l opened n ≡ eval w k opened n
deeper_by w law zero k l e opened n d le = let eq : l ≡ k = omega arith in ap (λ x. eval w x opened n) eq
deeper_by w law (suc i) k l e opened n d le = let eq : l ≡ suc (k + i) =
    omega arith in ap (λ x. eval w x opened n) eq ∙ deeper w law (k + i) opened n d (omega arith) ∙ deeper_by w law i k (k + i) refl opened n d le

-- any depth that suffices is as good as the number of nodes
pub deep_enough : {N A : Type 0} (w : Standing N A) → IsSettled w → (k : ℕ) (opened : List N) (n : N) → AreDistinct w opened → w.nodes ≤ k + length opened
    → eval w k opened n ≡ tells w opened n
deep_enough w law k opened n d le = sym (deeper_by w law w.nodes k (k + w.nodes) refl opened n d le)
    ∙ deeper_by w law k w.nodes (k + w.nodes) (omega arith) opened n d (omega arith)

-- the equation of evaluation from nothing, with no depth in it
pub tells-open : {N A : Type 0} (w : Standing N A) (opened : List N) (n : N) → is_among w.number opened n ≡ true → tells w opened n ≡ only_circle n
tells-open w opened n e = eval-open w w.nodes opened n e

pub tells-free : {N A : Type 0} (w : Standing N A) → IsSettled w → (opened : List N) (n : N) → AreDistinct w opened → IsOut w opened n
    → tells w opened n ≡ told w (answering w (n ∷ opened)) n (suc w.replies) []
tells-free {N} {A} w law opened n d e =
    let below : w.number n < w.nodes = law.bounded n in
    let k : ℕ = w.nodes - 1 in
    let eq : w.nodes ≡ suc k = omega arith in
    ap (λ x. eval w x opened n) eq ∙ eval-free w k opened n e
    ∙ ap (λ f. told w f n (suc w.replies) [])
    (fun_ext (λ m. ap (λ (u : Told N A). u.outcome) (deep_enough w law k (n ∷ opened) m (AreDistinct-cons w n opened e d) (omega arith))))

-- ---- the same of what is completed
completed_deeper_cases : {N A : Type 0} (w : Standing N A) → (k : ℕ) (opened : List N) (n : N)
    → (IsOut w opened n → completed w (suc k) opened n ≡ completed w k opened n) → (b : Bool) → is_among w.number opened n ≡ b
    → completed w (suc k) opened n ≡ completed w k opened n
completed_deeper_cases w k opened n free true e = completed-open w (suc k) opened n e ∙ sym (completed-open w k opened n e)
completed_deeper_cases w k opened n free false e = free e

completed-deeper : {N A : Type 0} (w : Standing N A) → IsSettled w → (k : ℕ) (opened : List N) (n : N) → AreDistinct w opened → w.nodes ≤ k + length opened
    → completed w (suc k) opened n ≡ completed w k opened n
completed-deeper w law zero opened n d le = completed_deeper_cases w zero opened n (λ e. absurd (none_free w law opened n d (omega arith) e))
    (is_among w.number opened n) refl
completed-deeper {N} {A} w law (suc k) opened n d le = completed_deeper_cases w (suc k) opened n
    (λ e. completed-free w (suc k) opened n e
    ∙ ap (λ (f : N → List N). flat_map f (eval w (suc (suc k)) opened n).asked ++ if_answered n (eval w (suc (suc k)) opened n).outcome)
    (fun_ext (λ m. completed-deeper w law k (n ∷ opened) m (AreDistinct-cons w n opened e d) (omega arith)))
    ∙ ap (λ (t : Told N A). flat_map (completed w k (n ∷ opened)) t.asked ++ if_answered n t.outcome) (deeper w law (suc k) opened n d le)
    ∙ sym (completed-free w k opened n e))
    (is_among w.number opened n) refl

-- the equation of what is completed, with no depth in it
pub done-free : {N A : Type 0} (w : Standing N A) → IsSettled w → (opened : List N) (n : N) → AreDistinct w opened → IsOut w opened n
    → completed w w.nodes opened n ≡ flat_map (completed w w.nodes (n ∷ opened)) (tells w opened n).asked ++ if_answered n (tells w opened n).outcome
done-free {N} {A} w law opened n d e =
    let below : w.number n < w.nodes = law.bounded n in
    let k : ℕ = w.nodes - 1 in
    let eq : w.nodes ≡ suc k = omega arith in
    let same : (m : N) → completed w k (n ∷ opened) m ≡ completed w w.nodes (n ∷ opened) m =
    λ m. sym (completed-deeper w law k (n ∷ opened) m (AreDistinct-cons w n opened e d) (omega arith))
    ∙ ap (λ x. completed w x (n ∷ opened) m) (sym eq) in
    ap (λ x. completed w x opened n) eq ∙ completed-free w k opened n e
    ∙ ap (λ (f : N → List N). flat_map f (eval w (suc k) opened n).asked ++ if_answered n (eval w (suc k) opened n).outcome) (fun_ext same)
    ∙ ap (λ x. flat_map (completed w w.nodes (n ∷ opened)) (eval w x opened n).asked ++ if_answered n (eval w x opened n).outcome) (sym eq)
