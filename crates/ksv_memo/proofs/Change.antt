-- What stays right when the bytes change.
use Rattle.ksv_memo.proofs.Common.{◌≡◌, ℕ, zero, suc, ◌+◌, ◌<◌, ◌≤◌, Bool, true, false, List, [], ◌∷◌, ◌++◌, length, refl, sym, ◌∙◌, ap, subst, nat_eq, arith}
use Rattle.ksv_memo.proofs.Common.{◌||◌, Contains, AllByRecursion, list_any, or_parts, All-from_recursion, Change, Makes, is_use_touched, Use, Next}
use Rattle.ksv_memo.proofs.Common.{Need, Done, Outcome, Answered, Circle, Standing, IsSettled, is_among, Told, told, tells, Entry, nodes_of, StandsIn, IsRight}
use Rattle.ksv_memo.proofs.Common.{Meaning, IsLawful, on, law_on, All-map, All-both, All-++, All-left, All-right, none_pass, eqb_true, IsIn, AreDistinct-none}
use Rattle.ksv_memo.proofs.Common.{self_in}
use Rattle.std.proofs.Common.{Any}
use Rattle.std.proofs.lemmas.List.Elements.{All-contains}
use Rattle.ksv_bytes.specs.Uses.{AgreeOn, CanUse, Touches}
use Rattle.ksv_bytes.proofs.Untouched.{use_touched, untouched_use, untouched-keeps}
use Rattle.ksv_memo_rules.specs.Evaluation.{after, with_reply, with_step, eval, IsAnswered, completed}
use Rattle.ksv_memo_rules.specs.Touched.{tree, is_hit, is_touched}
use Rattle.ksv_memo_rules.proofs.Lists.{All-always, any_same, none_fails}
use Rattle.ksv_memo_rules.proofs.Evals.{NoneIn, asking, told_answered, eval-open, eval-free, transfer, deep_enough, eval-zero, eval-zero_unanswered}
use Rattle.ksv_memo_rules.proofs.Keeping.{kept_is, kept-tree, done-kept, flat_map_congr}
use Rattle.ksv_memo_rules.proofs.Standins.{touched-parts, asks-lower, answered-by}

-- rules of the same nodes, on other bytes
abbrev pub changed : {N A : Type 0} → Standing N A → (N → List A → Next N A) → (N → List A → List Use) → Standing N A
changed w follow added = record { follow = follow; added = added; number = w.number; nodes = w.nodes; replies = w.replies }

-- a call whose uses all hold is the same on the other bytes
pub record IsLocal {N A : Type 0} (w : Standing N A) (follow : N → List A → Next N A) (added : N → List A → List Use) (holds : Use → Type 0) : Type 0 where
  pub steps : (n : N) (replies : List A) → AllByRecursion holds (w.added n replies) → follow n replies ≡ w.follow n replies
  pub adds : (n : N) (replies : List A) → AllByRecursion holds (w.added n replies) → added n replies ≡ w.added n replies

reply_change : {N A : Type 0} (holds : Use → Type 0) (f g : N → Outcome N A) (restF restG : A → Told N A)
    → ((a : A) → AllByRecursion (λ m. f m ≡ g m) (restF a).asked → AllByRecursion holds (restF a).uses → restG a ≡ restF a) → (o : Outcome N A)
    → AllByRecursion (λ m. f m ≡ g m) (with_reply restF o).asked → AllByRecursion holds (with_reply restF o).uses
    → with_reply restG o ≡ with_reply restF o
unfolding with_reply
reply_change holds f g restF restG same (Answered a) h u = same a h u
reply_change holds f g restF restG same (Circle c) h u = refl

step_uses : {N A : Type 0} (holds : Use → Type 0) (f : N → Outcome N A) (us : List Use) (rest : A → Told N A) (s : Next N A)
    → AllByRecursion holds (with_step f us rest s).uses → AllByRecursion holds us
unfolding with_step
step_uses holds f us rest (Done a) h = h
step_uses holds f us rest (Need m) h = All-left holds us (with_reply rest (f m)).uses h

step_change : {N A : Type 0} (holds : Use → Type 0) (f g : N → Outcome N A) (us : List Use) (restF restG : A → Told N A)
    → ((a : A) → AllByRecursion (λ m. f m ≡ g m) (restF a).asked → AllByRecursion holds (restF a).uses → restG a ≡ restF a) → (s : Next N A)
    → AllByRecursion (λ m. f m ≡ g m) (with_step f us restF s).asked → AllByRecursion holds (with_step f us restF s).uses
    → with_step g us restG s ≡ with_step f us restF s
unfolding with_step
step_change holds f g us restF restG same (Done a) h u = refl
step_change holds f g us restF restG same (Need m) h u =
    ap (after (m ∷ []) us)
    (cc (reply_change holds f g restF restG same (f m) h.1 (All-right holds us (with_reply restF (f m)).uses u)))

told_change : {N A : Type 0} (w : Standing N A) (follow : N → List A → Next N A) (added : N → List A → List Use) (holds : Use → Type 0)
    → IsLocal w follow added holds → (f g : N → Outcome N A) (n : N) (j : ℕ) (replies : List A) → AllByRecursion (λ m. f m ≡ g m) (told w f n j replies).asked
    → AllByRecursion holds (told w f n j replies).uses → told (changed w follow added) g n j replies ≡ told w f n j replies
unfolding told
told_change w follow added holds local f g n zero replies h u = refl
told_change w follow added holds local f g n (suc j) replies h u =
    let used : AllByRecursion holds (w.added n replies) =
    step_uses holds f (w.added n replies) (λ a. told w f n j (replies ++ a ∷ [])) (w.follow n replies) u in
    cc (
      local.adds n replies used,
      local.steps n replies used,
      step_change holds f g (w.added n replies) (λ a. told w f n j (replies ++ a ∷ []))
          (λ a. told (changed w follow added) g n j (replies ++ a ∷ [])) (λ a. told_change _ _ _ _ local f g n j (replies ++ a ∷ []))
          (w.follow n replies) h u,
    )

-- what is known of a node that stays
record Stays {N A : Type 0} (w : Standing N A) (kept : List N) (holds : Use → Type 0) (n : N) : Type 0 where
  closed : AllByRecursion (IsIn w kept) (tells w [] n).asked
  used : AllByRecursion holds (tells w [] n).uses

-- ---- an answer stays, if the uses in its whole tree hold
change-step : {N A : Type 0} (w : Standing N A) → IsSettled w → (follow : N → List A → Next N A) (added : N → List A → List Use) (holds : Use → Type 0)
    → IsLocal w follow added holds → (kept : List N) (each : (n : N) → IsIn w kept n → Stays w kept holds n) (j k : ℕ) (before : List N) (n : N)
    → ((m : N) → IsIn w kept m → IsAnswered (asking w j (n ∷ before) m) → eval (changed w follow added) k (n ∷ before) m ≡ eval w j (n ∷ before) m)
    → IsIn w kept n → IsAnswered (eval w (suc j) before n).outcome → is_among w.number before n ≡ false
    → eval (changed w follow added) (suc k) before n ≡ eval w (suc j) before n
change-step {N} {A} w law follow added holds local kept each j k before n ih in_kept h e =
    let t : Told N A = eval w (suc j) before n in
    let f : N → Outcome N A = asking w j (n ∷ before) in
    let g : N → Outcome N A = asking (changed w follow added) k (n ∷ before) in
    let u : Told N A = told w f n (suc w.replies) [] in
    let nothing : NoneIn w [] (completed w (suc j) before n) = All-always (λ m. refl) (completed w (suc j) before n) in
    let same : eval w (suc j + w.nodes) [] n ≡ t = transfer w (suc j) (suc j + w.nodes) before [] n (omega arith) h nothing in
    let level : t ≡ u = eval-free w j before n e in
    let is : tells w [] n ≡ u = sym (deep_enough w law (suc j + w.nodes) [] n (AreDistinct-none w) (omega arith)) ∙ same ∙ level in
    let closed : AllByRecursion (IsIn w kept) u.asked = rw is at (each n in_kept).closed in
    let used : AllByRecursion holds u.uses = rw is at (each n in_kept).used in
    let answers : AllByRecursion (λ m. IsAnswered (f m)) u.asked =
    told_answered w f n (suc w.replies) [] (rw level at h) in
    let agree : AllByRecursion (λ m. f m ≡ g m) u.asked =
    All-both (IsIn w kept) (λ m. IsAnswered (f m)) (λ m. f m ≡ g m) (λ m inside answer. sym (ap (λ v. v.outcome) (ih m inside answer)))
    u.asked closed answers in
    eval-free (changed w follow added) k before n e ∙ told_change _ _ _ _ local f g n (suc w.replies) [] agree used ∙ sym level

change : {N A : Type 0} (w : Standing N A) → IsSettled w → (follow : N → List A → Next N A) (added : N → List A → List Use) (holds : Use → Type 0)
    → IsLocal w follow added holds → (kept : List N) (each : (n : N) → IsIn w kept n → Stays w kept holds n) (j k : ℕ) (before : List N) (n : N) → j ≤ k
    → IsIn w kept n → IsAnswered (eval w j before n).outcome → eval (changed w follow added) k before n ≡ eval w j before n
change w law follow added holds local kept each zero k before n le in_kept h = absurd (eval-zero_unanswered w before n h)
change w law follow added holds local kept each (suc j) zero before n le in_kept h = absurd (omega arith)
change w law follow added holds local kept each (suc j) (suc k) before n le in_kept h =
    by (is_among w.number before n) refl
    (change-step _ law _ _ _ local kept each j k before n
    (λ m inside answer. change _ law _ _ _ local kept each j k (n ∷ before) m (omega arith) inside answer) in_kept h)
  where
    by : (b : Bool) → is_among w.number before n ≡ b
        → (is_among w.number before n ≡ false → eval (changed w follow added) (suc k) before n ≡ eval w (suc j) before n)
        → eval (changed w follow added) (suc k) before n ≡ eval w (suc j) before n
    by true e f = absurd (rw (eval-open w (suc j) before n e) at h)
    by false e f = f e

-- what holds of each entry's node holds of each kept node
member_cases : {N A : Type 0} (w : Standing N A) → IsSettled w → (P : N → Type 0) (m n : N) (rest : Bool) → P m → (rest ≡ true → P n) → (b : Bool)
    → nat_eq (w.number n) (w.number m) ≡ b → (b || rest) ≡ true → P n
member_cases w law P m n rest here more true q h = let same : m ≡ n = law.own_number m n (sym (eqb_true (w.number n) (w.number m) q)) in subst P same here
member_cases w law P m n rest here more false q h = more h

pub member : {N A : Type 0} (w : Standing N A) → IsSettled w → (P : N → Type 0) (es : List (Entry N A)) → AllByRecursion (λ e. P e.node) es → (n : N)
    → IsIn w (nodes_of es) n → P n
member w law P [] h n e = absurd (cc)
member w law P (x ∷ es) h n e = member_cases _ law P x.node n (is_among w.number (nodes_of es) n) h.0 (member w law P es h.1 n)
    _ refl e

-- ---- what is right is right on the other bytes too, where the uses of all kept nodes hold
module _ {N A : Type 0} (w : Standing N A) (law : IsSettled w) (follow : N → List A → Next N A) (added : N → List A → List Use)
    (other_law : IsSettled (changed w follow added)) (holds : Use → Type 0) (local : IsLocal w follow added holds)
    (es : List (Entry N A)) (right : IsRight w es) (used : AllByRecursion (λ (e : Entry N A). AllByRecursion holds (tells w [] e.node).uses) es) where
  abbrev v : Standing N A
  v = changed w follow added

  abbrev kept : List N
  kept = nodes_of es

  each-stays : (n : N) → IsIn w kept n → Stays w kept holds n
  each-stays = member w law (λ n. Stays w kept holds n) es
      (All-both (StandsIn w kept) (λ (e : Entry N A). AllByRecursion holds (tells w [] e.node).uses) (λ (e : Entry N A). Stays w kept holds e.node)
      (λ e is us. record { closed = is.closed; used = us }) es right.each used)

  each-answers : (n : N) → IsIn w kept n → IsAnswered (tells w [] n).outcome
  each-answers n h = (kept_is w law kept es right.each n h).answered

  same : (n : N) → IsIn w kept n → tells v [] n ≡ tells w [] n
  same n h = change _ law _ _ _ local kept each-stays w.nodes w.nodes [] n (omega arith) h (each-answers n h)

  same-tree : (k : ℕ) (n : N) → IsIn w kept n → length (tree w n) < k → tree v n ≡ tree w n
  same-tree zero n h lt = absurd (omega arith)
  same-tree (suc k) n h lt =
      cc (
        kept-tree v other_law n (subst (λ t. IsAnswered t.outcome) (sym (same n h)) (each-answers n h)),
        same n h,
        flat_map_congr (tree v) (tree w) (tells w [] n).asked (All-both (IsIn w kept) (λ m. length (tree w m) < length (tree w n))
            (λ m. tree v m ≡ tree w m) (λ m inside less. same-tree k m inside (omega arith)) (tells w [] n).asked (each-stays n h).closed
            (asks-lower w law n (each-answers n h))),
        kept-tree w law n (each-answers n h),
      )

  tree-is : (n : N) → IsIn w kept n → tree v n ≡ tree w n
  tree-is n h = same-tree (suc (length (tree w n))) n h (omega arith)

  tree-told : (n : N) → IsIn w kept n → AllByRecursion (λ m. tells v [] m ≡ tells w [] m) (tree w n)
  tree-told n h = All-map same (tree w n) (done-kept w law es right [] tt n h)

  touched-is : (c : Change) (n : N) → IsIn w kept n → is_touched v c n ≡ is_touched w c n
  touched-is c n h = cc (
    tree-is n h,
    any_same (is_hit v c) (is_hit w c) (tree w n)
        (All-map (λ m e. ap (λ t. list_any (is_use_touched c) t.uses) e) (tree w n) (tree-told n h)),
  )

  made-is : (n : N) → IsIn w kept n → (u : Use) → Any (λ m. Contains (tells w [] m).uses u) (tree w n) → Any (λ m. Contains (tells v [] m).uses u) (tree v n)
  made-is n h u any =
      let IsSame : N → Type 0 = λ m. tells v [] m ≡ tells w [] m in
      let told = All-contains IsSame (tree w n) any.1 (All-from_recursion IsSame (tree w n) (tree-told n h)) (any.0, any.2, any.3) in
      subst (Any (λ m. Contains (tells v [] m).uses u)) (sym (tree-is n h))
      (any.0, any.1, any.2, any.3, rw told any.4)

  still-stands : (e : Entry N A) → IsIn w kept e.node → StandsIn w kept e → StandsIn v kept e
  still-stands e inside is = record {
    outcome = cc (same e.node inside);
    closed = rw (same e.node inside) is.closed;
    named = is.named;
    lower = All-both (IsIn w kept) (λ m. length (tree w m) < length (tree w e.node)) (λ m. length (tree v m) < length (tree v e.node))
        (λ m h lt. (omega (arith, ap length (tree-is m h), ap length (tree-is e.node inside)))) e.asked is.named is.lower;
    touched = λ c. cc (touched-is c e.node inside, is.touched c, any_same (is_touched v c) (is_touched w c) e.asked (All-map (touched-is c) e.asked is.named));
    few = rw (same e.node inside) is.few;
    once = is.once;
    bytes = λ from to. rw (same e.node inside) (is.bytes from to);
    made = All-map (made-is e.node inside) e.uses is.made;
  }

  stays-right : IsRight v es
  stays-right = record {
    each = All-both (λ (e : Entry N A). IsIn w kept e.node) (StandsIn w kept) (StandsIn v kept) still-stands es (self_in w es) right.each;
    once = right.once;
  }

-- ---- the uses of an evaluation can be made on its bytes
reply_can : {N A : Type 0} (P : Use → Type 0) (rest : A → Told N A) → ((a : A) → AllByRecursion P (rest a).uses) → (o : Outcome N A)
    → AllByRecursion P (with_reply rest o).uses
unfolding with_reply
reply_can P rest each (Answered a) = each a
reply_can P rest each (Circle c) = tt

step_can : {N A : Type 0} (P : Use → Type 0) (f : N → Outcome N A) (us : List Use) (rest : A → Told N A) → AllByRecursion P us
    → ((a : A) → AllByRecursion P (rest a).uses) → (s : Next N A) → AllByRecursion P (with_step f us rest s).uses
unfolding with_step
step_can P f us rest now each (Done a) = now
step_can P f us rest now each (Need m) = All-++ P us (with_reply rest (f m)).uses now (reply_can P rest each (f m))

told_can : {N A : Type 0} (w : Standing N A) (P : Use → Type 0) → ((n : N) (replies : List A) → AllByRecursion P (w.added n replies))
    → (f : N → Outcome N A) (n : N) (j : ℕ) (replies : List A) → AllByRecursion P (told w f n j replies).uses
unfolding told
told_can w P can f n zero replies = tt
told_can w P can f n (suc j) replies = step_can P f (w.added n replies) (λ a. told w f n j (replies ++ a ∷ [])) (can n replies)
    (λ a. told_can w P can f n j (replies ++ a ∷ [])) (w.follow n replies)

pub eval_can : {N A : Type 0} (w : Standing N A) (P : Use → Type 0) → ((n : N) (replies : List A) → AllByRecursion P (w.added n replies))
    → (k : ℕ) (opened : List N) (n : N) → AllByRecursion P (eval w k opened n).uses
eval_can {N} {A} w P can zero opened n = rw (eval-zero w opened n) tt
eval_can {N} {A} w P can (suc k) opened n = by (is_among w.number opened n) refl
  where
    by : (b : Bool) → is_among w.number opened n ≡ b → AllByRecursion P (eval w (suc k) opened n).uses
    by true e = subst (λ t. AllByRecursion P t.uses) (sym (eval-open w (suc k) opened n e)) tt
    by false e = rw (eval-free w k opened n e) (told_can w P can (asking w k (n ∷ opened)) n (suc w.replies) [])

-- a use that isn't touched doesn't pass the test
use_untouched : (c : Change) (u : Use) → (Touches c u → ⊥) → is_use_touched c u ≡ false
use_untouched c u apart = by (is_use_touched c u) refl
  where
    by : (b : Bool) → is_use_touched c u ≡ b → b ≡ false
    by true e = absurd (apart ((use_touched c u).0 e))
    by false e = refl

-- ---- the law of kept answers: those that no edit touches stay right
module _ {N A : Type 0} (meaning : Meaning N A) (law : IsLawful meaning) (c : Change) (before after : List ℕ) (makes : Makes c before after)
    (es : List (Entry N A)) (right : IsRight (on meaning before) es)
    (free : AllByRecursion (λ (e : Entry N A). AllByRecursion (λ u. Touches c u → ⊥) e.uses) es) where
  abbrev was : Standing N A
  was = on meaning before

  settled : IsSettled was
  settled = law_on meaning law before

  -- where no entry has a touched use, no node is touched
  none-touched : (k : ℕ) (n : N) → IsIn was (nodes_of es) n → length (tree was n) < k → is_touched was c n ≡ false
  none-touched zero n h lt = absurd (omega arith)
  none-touched (suc k) n h lt =
      member was settled (λ m. length (tree was m) < suc k → is_touched was c m ≡ false) es
      (All-both (StandsIn was (nodes_of es)) (λ (e : Entry N A). AllByRecursion (λ u. Touches c u → ⊥) e.uses)
      (λ (e : Entry N A). length (tree was e.node) < suc k → is_touched was c e.node ≡ false)
      (λ e is apart less. is.touched c
      ∙ (λ j. none_fails (is_use_touched c) e.uses (All-map (use_untouched c) e.uses apart) j || none_fails (is_touched was c) e.asked
      (All-both (IsIn was (nodes_of es)) (λ m. length (tree was m) < length (tree was e.node)) (λ m. is_touched was c m ≡ false)
      (λ m inside lower. none-touched k m inside (omega arith)) e.asked is.named is.lower) j)) es right.each free) n h lt

  -- so the uses of each hold on the bytes after the edit
  uses-hold : (e : Entry N A) → IsIn was (nodes_of es) e.node → StandsIn was (nodes_of es) e → AllByRecursion (AgreeOn before after) (tells was [] e.node).uses
  uses-hold e inside is =
      let untouched = none-touched (suc (length (tree was e.node))) e.node inside (omega arith) in
      let parts = or_parts (is_hit was c e.node) (list_any (is_touched was c) (tells was [] e.node).asked)
      (sym (touched-parts was settled c e.node (answered-by was (nodes_of es) e is)) ∙ untouched) in
      All-both (λ u. is_use_touched c u ≡ false) (CanUse before) (AgreeOn before after)
      (λ u none can. untouched-keeps c u (untouched_use c u none) before after makes can) (tells was [] e.node).uses
      (none_pass (is_use_touched c) (tells was [] e.node).uses parts.0) (eval_can was (CanUse before) (law.can_use before) meaning.nodes [] e.node)

  pub untouched-stays : IsRight (on meaning after) es
  untouched-stays =
      stays-right _ settled _ _ (law_on meaning law after) _
      (record { steps = law.same_step before after; adds = law.same_uses before after }) _ right
      (All-both (λ (e : Entry N A). IsIn was (nodes_of es) e.node) (StandsIn was (nodes_of es))
      (λ (e : Entry N A). AllByRecursion (AgreeOn before after) (tells was [] e.node).uses) uses-hold es (self_in was es) right.each)
