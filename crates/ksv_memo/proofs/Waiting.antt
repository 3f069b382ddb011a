-- What an open node waits for has none of the open nodes in its tree, if it has an answer.
use Rattle.ksv_memo.proofs.Common.{◌≡◌, ℕ, zero, suc, ◌<◌, ◌≤◌, Bool, true, false, List, [], ◌∷◌, ◌++◌, length, refl, sym, ◌∙◌, subst, nat_eq, arith}
use Rattle.ksv_memo.proofs.Common.{AllByRecursion, Standing, IsSettled, Told, told, tells, done, answering, Entry, Open, nodes_in, nodes_of, IsRight, IsWaiting}
use Rattle.ksv_memo.proofs.Common.{IsStack, All-map, All-both, All-++, All-left, All-right, IsOut, eqb_true, AreDistinct-none, agrees}
use Rattle.std.proofs.lemmas.Bool.{or_from}
use Rattle.std.specs.List.{flat_map}
use Rattle.ksv_memo_rules.specs.Evaluation.{IsAnswered}
use Rattle.ksv_memo_rules.specs.Touched.{tree}
use Rattle.ksv_memo.specs.Running.{Chain}
use Rattle.ksv_memo_rules.proofs.Lists.{All-always, All-flat_map}
use Rattle.ksv_memo_rules.proofs.Evals.{told_answered, tells-free, transfer}
use Rattle.ksv_memo_rules.proofs.Keeping.{kept-tree, tree-same}
use Rattle.ksv_memo_rules.proofs.Standins.{asks-lower}

-- a node has an answer
abbrev pub Answers : {N A : Type 0} → Standing N A → N → Type 0
Answers w x = IsAnswered (tells w [] x).outcome

-- a node of the tree of m: it has an answer, and its tree is no larger
record IsBelow {N A : Type 0} (w : Standing N A) (m x : N) : Type 0 where
  answered : Answers w x
  lower : length (tree w x) ≤ length (tree w m)

-- if a node that waits for m has an answer, m has one too, and a smaller tree
record IsAbove {N A : Type 0} (w : Standing N A) (m x : N) : Type 0 where
  answered : Answers w x → Answers w m
  lower : Answers w x → length (tree w m) < length (tree w x)

module _ {N A : Type 0} (w : Standing N A) (law : IsSettled w) where
  -- what an answered node asked has an answer
  asks-answered : (n : N) → Answers w n → AllByRecursion (Answers w) (tells w [] n).asked
  asks-answered n answered =
      let is : tells w [] n ≡ told w (answering w (n ∷ [])) n (suc w.replies) [] = tells-free w law [] n (AreDistinct-none w) refl in
      let P : Told N A → Type 0 = λ t. AllByRecursion (Answers w) t.asked in
      subst P (sym is) (All-map
      (λ m a. subst (λ (t : Told N A). IsAnswered t.outcome) (sym (transfer w w.nodes w.nodes (n ∷ []) [] m (omega arith) a (All-always (λ x. refl) _))) a)
      (told w (answering w (n ∷ [])) n (suc w.replies) []).asked
      (told_answered w (answering w (n ∷ [])) n (suc w.replies) [] (subst (λ (t : Told N A). IsAnswered t.outcome) is answered)))

  -- so has all of its tree, and no tree in it is larger
  below-to : (k : ℕ) (m : N) → Answers w m → length (tree w m) < k → AllByRecursion (IsBelow w m) (tree w m)
  below-to zero m a lt = absurd (omega arith)
  below-to (suc k) m a lt =
      subst (AllByRecursion (IsBelow w m)) (sym (kept-tree w law m a))
      (All-++ (IsBelow w m) (flat_map (tree w) (tells w [] m).asked) (m ∷ [])
      (All-flat_map (IsBelow w m) (tree w) (tells w [] m).asked
      (All-both (Answers w) (λ x. length (tree w x) < length (tree w m)) (λ x. AllByRecursion (IsBelow w m) (tree w x))
      (λ x answer less. All-map (λ y b. (let lower = b.lower in record { answered = b.answered; lower = omega arith })) (tree w x)
      (below-to k x answer (omega arith)))
      (tells w [] m).asked (asks-answered m a) (asks-lower w law m a)))
      (record { answered = a; lower = omega arith }, tt))

  below : (m : N) → Answers w m → AllByRecursion (IsBelow w m) (tree w m)
  below m a = below-to (suc (length (tree w m))) m a (omega arith)

  module _ (es : List (Entry N A)) (right : IsRight w es) where
    -- a node that waits for another asks it
    waits-above : (o : Open N A) (m : N) → IsWaiting w es o m → IsOut w (nodes_of es) o.node → IsAbove w m o.node
    waits-above o m h out =
        let is = tells-free w law [] o.node (AreDistinct-none w) refl
        ∙ h.came (answering w (o.node ∷ [])) (agrees w law es right (o.node ∷ []) (out, tt)) in
        let it : (P : N → Type 0) → AllByRecursion P (tells w [] o.node).asked → P m =
        λ P all. (All-right P o.asked (m ∷ []) (All-left P (o.asked ++ m ∷ []) _ (subst (λ (t : Told N A). AllByRecursion P t.asked) is all))).0 in
        record {
          answered = λ a. it (Answers w) (asks-answered o.node a);
          lower = λ a. it (λ x. length (tree w x) < length (tree w o.node)) (asks-lower w law o.node a);
        }

    -- so do all that wait for those that wait
    all-above : (m : N) (st : List (Open N A)) → Chain w es m st → AllByRecursion (IsOut w (nodes_of es)) (nodes_in st)
        → AllByRecursion (IsAbove w m) (nodes_in st)
    all-above m [] chain out = tt
    all-above m (o ∷ st) chain out =
        let here : IsAbove w m o.node = waits-above o m chain.0 out.0 in (
          here,
          All-map (λ x up. record {
            answered = λ a. here.answered (up.answered a);
            lower = λ a. (let one = here.lower (up.answered a) in let more = up.lower a in omega arith);
          }) (nodes_in st) (all-above o.node st chain.1 out.1),
        )

  -- a node below m isn't one of those above it
  none-above : (m x : N) (ns : List N) → IsBelow w m x → AllByRecursion (IsAbove w m) ns → IsOut w ns x
  none-above m x [] b above = refl
  none-above m x (n ∷ ns) b above = or_from _ _ (by (nat_eq (w.number x) (w.number n)) refl) (none-above m x ns b above.1)
    where
      by : (c : Bool) → nat_eq (w.number x) (w.number n) ≡ c → c ≡ false
      by true e =
          let same : x ≡ n = law.own_number x n (eqb_true (w.number x) (w.number n) e) in
          let is : IsBelow w m n = subst (IsBelow w m) same b in
          let less = above.0.lower is.answered in
          let no_more = is.lower in
          absurd (omega arith)
      by false e = refl

  -- so evaluation of it completes its whole tree
  pub whole-tree : (es : List (Entry N A)) (o : Open N A) (st : List (Open N A)) (m : N) → IsStack w es o.node st → IsWaiting w es o m
      → Answers w m → done w (o.node ∷ nodes_in st) m ≡ tree w m
  whole-tree es o st m h waits answered =
      let above : AllByRecursion (IsAbove w m) (o.node ∷ nodes_in st) = all-above es h.right m (o ∷ st) (waits, h.chain) h.apart in
      tree-same w w.nodes w.nodes [] (o.node ∷ nodes_in st) m (omega arith) answered
      (All-map (λ x b. none-above m x (o.node ∷ nodes_in st) b above) (tree w m) (below m answered))
