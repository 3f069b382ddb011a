-- Laws of the stack of open nodes: what each move of the machine does to the invariants.
use Rattle.ksv_memo.proofs.Common.{◌≡◌, ℕ, suc, ◌+◌, ◌-◌, ◌<◌, ◌≤◌, true, false, cond, List, [], ◌∷◌, ◌++◌, length, map, refl, sym, ◌∙◌, ap, subst, nat_eq}
use Rattle.ksv_memo.proofs.Common.{arith, append_assoc, length-append, AllByRecursion, append-nil, IsDistinct-head, IsDistinct-tail, Use, Next, Need, Done}
use Rattle.ksv_memo.proofs.Common.{Outcome, Answered, Circle, Standing, IsSettled, is_among, Told, told, tells, done, answering, Entry, Open, nodes_in, newly}
use Rattle.ksv_memo.proofs.Common.{with_uses, with_answer, nodes_of, AreDistinct, HasEachOnce, IsRight, fresh, costs, Agrees, HasCome, IsWaiting, IsStack}
use Rattle.ksv_memo.proofs.Common.{rest_of, to_keep, debt, All-map, All-++, All-left, IsOut, IsIn, is_among-append, nodes_of-append, agrees, AreDistinct-none}
use Rattle.std.specs.List.{flat_map}
use Rattle.std.proofs.lemmas.Bool.{or_from}
use Rattle.std.proofs.lemmas.List.{map-append, length-map}
use Rattle.std.proofs.lemmas.Map.Keys.{IsDistinct-cons}
use Rattle.std.proofs.lemmas.Cmp.{nat_eq_equiv}
use Rattle.ksv_memo_rules.specs.Meaning.{IsDone}
use Rattle.ksv_memo_rules.specs.Evaluation.{after, with_reply, with_step, if_answered}
use Rattle.ksv_memo.specs.Nodes.{kept_of}
use Rattle.ksv_memo.specs.Running.{HasEnded, HasStepped, Chain, climbed, value_of, value_at, climbed_rest, told_rest, rest_at}
use Rattle.ksv_memo_rules.proofs.Evals.{few, out_apart, AreDistinct-cons, tells-open, tells-free, done-free, completed-open}
use Rattle.ksv_memo_rules.proofs.Keeping.{IsIn-append}
use Rattle.ksv_memo_rules.proofs.Standins.{keep}

-- ---- a call tells the next step
told-more : {N A : Type 0} (w : Standing N A) (g : N → Outcome N A) (n : N) (replies : List A) → length replies ≤ w.replies
    → told w g n (suc w.replies - length replies) replies ≡ with_step g (w.added n replies) (λ a. told w g n (w.replies - length replies) (replies ++ a ∷ []))
    (w.follow n replies)
unfolding told
told-more w g n replies few = let eq : suc w.replies - length replies ≡ suc (w.replies - length replies) = omega arith in ap (λ j. told w g n j replies) eq

ended : {N A : Type 0} (asked : List N) (uses us : List Use) (a : A)
    → after asked uses (record { outcome = Answered a; asked = []; uses = us }) ≡ record { outcome = Answered a; asked = asked; uses = uses ++ us }
ended asked uses us a = λ i. record { outcome = Answered a; asked = append-nil asked i; uses = uses ++ us }

waited : {N A : Type 0} (asked : List N) (m : N) (uses us : List Use) (t : Told N A)
    → after asked uses (after (m ∷ []) us t) ≡ after (asked ++ m ∷ []) (uses ++ us) t
waited asked m uses us t = λ i. record { outcome = t.outcome; asked = sym (append_assoc asked (m ∷ []) t.asked) i; uses = sym (append_assoc uses us t.uses) i }

not_need : {N A : Type 0} (m : N) (s : Next N A) → s ≡ Need m → IsDone s → ⊥
not_need m (Need k) e h = h
not_need m (Done a) e h = cc

pub stepped : {N A : Type 0} (w : Standing N A) → IsSettled w → (es : List (Entry N A)) (o : Open N A) (s : Next N A) → s ≡ w.follow o.node o.replies
    → HasCome w es o → HasStepped w es (with_uses o (w.added o.node o.replies)) s
unfolding with_step
stepped w law es o (Done a) e h = record {
  came = λ g agree. cc (h.came g agree, told-more w g o.node o.replies h.few, ended o.asked o.uses (w.added o.node o.replies) a);
  closed = h.closed;
  few = h.few;
}
stepped w law es o (Need m) e h = record {
  came = λ g agree. cc (
    h.came g agree,
    told-more w g o.node o.replies h.few,
    waited o.asked m o.uses (w.added o.node o.replies) (with_reply (λ b. told w g o.node (w.replies - length o.replies) (o.replies ++ b ∷ [])) (g m)),
  );
  closed = h.closed;
  few = let no : w.replies ≤ length o.replies → ⊥ = λ le. not_need m _ (sym e) (law.settles o.node o.replies le) in omega arith;
}

pub value-stepped : {N A : Type 0} (w : Standing N A) (es : List (Entry N A)) (o : Open N A) (st : List (Open N A)) (s : Next N A)
    → s ≡ w.follow o.node o.replies → HasCome w es o → value_at w (with_uses o (w.added o.node o.replies)) st s ≡ value_of w o st
unfolding with_step
value-stepped {N} {A} w es o st (Done a) e h = ap (λ u. climbed w st u.outcome)
    (sym (told-more w (answering w (o.node ∷ nodes_in st)) o.node o.replies h.few
    ∙ ap (with_step (answering w (o.node ∷ nodes_in st)) (w.added o.node o.replies)
    (λ b. told w (answering w (o.node ∷ nodes_in st)) o.node (w.replies - length o.replies) (o.replies ++ b ∷ []))) (sym e)))
value-stepped {N} {A} w es o st (Need m) e h = ap (λ u. climbed w st u.outcome)
    (sym (told-more w (answering w (o.node ∷ nodes_in st)) o.node o.replies h.few
    ∙ ap (with_step (answering w (o.node ∷ nodes_in st)) (w.added o.node o.replies)
    (λ b. told w (answering w (o.node ∷ nodes_in st)) o.node (w.replies - length o.replies) (o.replies ++ b ∷ []))) (sym e)))

-- ---- a reply comes
less : (b n : ℕ) → suc b - (n + 1) ≡ b - n
less b n = omega arith

told-replied : {N A : Type 0} (w : Standing N A) (g : N → Outcome N A) (n : N) (replies : List A) (a : A)
    → told w g n (w.replies - length replies) (replies ++ a ∷ []) ≡ told w g n (suc w.replies - length (replies ++ a ∷ [])) (replies ++ a ∷ [])
told-replied w g n replies a = let eq : w.replies - length replies ≡ suc w.replies - length (replies ++ a ∷ []) =
    simp length-append (omega arith) in ap (λ j. told w g n j (replies ++ a ∷ [])) eq

pub replied : {N A : Type 0} (w : Standing N A) (es : List (Entry N A)) (o : Open N A) (m : N) (a : A) → IsWaiting w es o m → IsIn w (nodes_of es) m
    → ((g : N → Outcome N A) → Agrees es g → g m ≡ Answered a) → HasCome w es (with_answer o m a)
unfolding with_reply
replied w es o m a h is_in says = record {
  came = λ g agree. cc (h.came g agree, says g agree, told-replied w g o.node o.replies a);
  closed = All-++ (IsIn w (nodes_of es)) o.asked (m ∷ []) h.closed (is_in, tt);
  few = let lt : length o.replies < w.replies = h.few in simp length-append (omega arith);
}

pub value-replied : {N A : Type 0} (w : Standing N A) (o : Open N A) (m : N) (a : A) (st : List (Open N A))
    → value_of w (with_answer o m a) st ≡ climbed w (o ∷ st) (Answered a)
unfolding with_reply
value-replied {N} {A} w o m a st = ap (λ u. climbed w st u.outcome) (sym (told-replied w (answering w (o.node ∷ nodes_in st)) o.node o.replies a))

-- ---- a circle ends the question
pub climbed-circle : {N A : Type 0} (w : Standing N A) (st : List (Open N A)) (c : N) → climbed w st (Circle c) ≡ Circle c
unfolding with_reply
climbed-circle w [] c = refl
climbed-circle w (o ∷ st) c = climbed-circle w st c

pub value-circle : {N A : Type 0} (w : Standing N A) (o : Open N A) (st : List (Open N A)) (m : N) → is_among w.number (o.node ∷ nodes_in st) m ≡ true
    → value_at w o st (Need m) ≡ Circle m
value-circle {N} {A} w o st m e = cc (tells-open w (o.node ∷ nodes_in st) m e, climbed-circle w (o ∷ st) m)

-- ---- a node is opened
pub starts : {N A : Type 0} (w : Standing N A) (es : List (Entry N A)) (n : N) → HasCome w es (newly n)
starts w es n = record {
  came = λ g agree. let eq : suc w.replies ≡ suc w.replies - 0 = omega arith in ap (λ j. told w g n j []) eq;
  closed = tt;
  few = omega arith;
}

pub value-starts : {N A : Type 0} (w : Standing N A) → IsSettled w → (o : Open N A) (st : List (Open N A)) (m : N) → AreDistinct w (o.node ∷ nodes_in st)
    → IsOut w (o.node ∷ nodes_in st) m → value_of w (newly m) (o ∷ st) ≡ value_at w o st (Need m)
value-starts {N} {A} w law o st m d out =
    let eq : suc w.replies - 0 ≡ suc w.replies = omega arith in
    ap (λ (u : Told N A). climbed w (o ∷ st) u.outcome)
    (ap (λ j. told w (answering w (m ∷ o.node ∷ nodes_in st)) m j []) eq ∙ sym (tells-free w law (o.node ∷ nodes_in st) m d out))

-- ---- what is kept and open
distinct_beside : {N A : Type 0} (w : Standing N A) (kept ns : List N) → AreDistinct w kept → AreDistinct w ns → AllByRecursion (IsOut w kept) ns
    → AreDistinct w (ns ++ kept)
distinct_beside w kept [] d e out = d
distinct_beside w kept (n ∷ ns) d e out =
    IsDistinct-cons nat_eq (w.number n) (map w.number (ns ++ kept))
    (subst (AllByRecursion (λ y. nat_eq (w.number n) y ≡ false)) (sym (map-append w.number ns kept))
    (All-++ (λ y. nat_eq (w.number n) y ≡ false) (map w.number ns) (map w.number kept) (IsDistinct-head nat_eq (w.number n) (map w.number ns) e)
    (out_apart w n kept out.0)))
    (distinct_beside w kept ns d (IsDistinct-tail nat_eq (w.number n) (map w.number ns) e) out.1)

pub room : {N A : Type 0} (w : Standing N A) → IsSettled w → (es : List (Entry N A)) (n : N) (st : List (Open N A)) → IsStack w es n st
    → length es + suc (length st) ≤ w.nodes
room w law es n st h =
    let all : length ((n ∷ nodes_in st) ++ nodes_of es) ≤ w.nodes =
    few w law ((n ∷ nodes_in st) ++ nodes_of es) (distinct_beside w (nodes_of es) (n ∷ nodes_in st) h.right.once h.distinct h.apart) in
    let many : suc (length st) + length es ≤ w.nodes = simp (length-append, length-map) at all in
    omega arith

pub opens : {N A : Type 0} (w : Standing N A) (es : List (Entry N A)) (o : Open N A) (st : List (Open N A)) (m : N) → IsStack w es o.node st
    → IsWaiting w es o m → IsOut w (nodes_of es) m → IsOut w (o.node ∷ nodes_in st) m → IsStack w es m (o ∷ st)
opens w es o st m h waits out free = record {
  right = h.right;
  chain = (waits, h.chain);
  distinct = AreDistinct-cons w m (o.node ∷ nodes_in st) free h.distinct;
  apart = (out, h.apart);
}

-- ---- a node is kept
pub IsWaiting-keep : {N A : Type 0} (w : Standing N A) (es : List (Entry N A)) (e : Entry N A) (o : Open N A) (m : N) → IsWaiting w es o m
    → IsWaiting w (es ++ e ∷ []) o m
IsWaiting-keep {N} {A} w es e o m h = record {
  came = λ g agree. h.came g (All-left (λ (x : Entry N A). g x.node ≡ Answered x.answer) es (e ∷ []) agree);
  closed = rw (nodes_of-append es (e ∷ [])) (All-map (IsIn-append w (nodes_of es) (e.node ∷ [])) o.asked h.closed);
  few = h.few;
}

Chain-keep : {N A : Type 0} (w : Standing N A) (es : List (Entry N A)) (e : Entry N A) (m : N) (st : List (Open N A)) → Chain w es m st
    → Chain w (es ++ e ∷ []) m st
Chain-keep w es e m [] h = tt
Chain-keep w es e m (o ∷ st) h = (IsWaiting-keep w es e o m h.0, Chain-keep w es e o.node st h.1)

apart-keep : {N A : Type 0} (w : Standing N A) (es : List (Entry N A)) (e : Entry N A) (ns : List N) → AllByRecursion (IsOut w (nodes_of es)) ns
    → AllByRecursion (λ y. nat_eq (w.number e.node) y ≡ false) (map w.number ns) → AllByRecursion (IsOut w (nodes_of (es ++ e ∷ []))) ns
apart-keep w es e [] h k = tt
apart-keep w es e (n ∷ ns) h k =
    let other : nat_eq (w.number n) (w.number e.node) ≡ false = nat_eq_equiv.symm (w.number n) (w.number e.node) ∙ k.0 in (
      cc (
        nodes_of-append es (e ∷ []),
        is_among-append w.number (nodes_of es) (e.node ∷ []) n,
        or_from (is_among w.number (nodes_of es) n) (is_among w.number (e.node ∷ []) n) h.0
            (or_from (nat_eq (w.number n) (w.number e.node)) false other refl),
      ),
      apart-keep w es e ns h.1 k.1,
    )

pub keeps : {N A : Type 0} (w : Standing N A) → IsSettled w → (es : List (Entry N A)) (o : Open N A) (st : List (Open N A)) (a : A) (once : List Use)
    → IsStack w es o.node st → HasEnded w es o a → HasEachOnce once o.uses → IsRight w (es ++ kept_of o a once ∷ [])
keeps w law es o st a once h ended each = keep w law es (kept_of o a once) o.uses h.right h.apart.0 ended.closed each ended.came

pub closes : {N A : Type 0} (w : Standing N A) (es : List (Entry N A)) (o p : Open N A) (st : List (Open N A)) (e : Entry N A) → IsStack w es o.node (p ∷ st)
    → e.node ≡ o.node → IsRight w (es ++ e ∷ []) → IsStack w (es ++ e ∷ []) p.node st
closes w es o p st e h node right = record {
  right = right;
  chain = Chain-keep w es e p.node st h.chain.1;
  distinct = IsDistinct-tail nat_eq (w.number o.node) (map w.number (p.node ∷ nodes_in st)) h.distinct;
  apart = apart-keep w es e (p.node ∷ nodes_in st) h.apart.1
      (let P : _ → Type 0 = λ n. AllByRecursion (λ y. nat_eq (w.number n) y ≡ false) (map w.number (p.node ∷ nodes_in st)) in subst P (sym node)
      (IsDistinct-head nat_eq (w.number o.node) (map w.number (p.node ∷ nodes_in st)) h.distinct));
}

-- ---- what is still to be completed
pub rest-stepped : {N A : Type 0} (w : Standing N A) (es : List (Entry N A)) (o : Open N A) (st : List (Open N A)) (s : Next N A)
    → s ≡ w.follow o.node o.replies → HasCome w es o → rest_at w (with_uses o (w.added o.node o.replies)) st s ≡ rest_of w o st
unfolding with_step
rest-stepped {N} {A} w es o st (Done a) e h = ap (told_rest w o.node st)
    (sym (told-more w (answering w (o.node ∷ nodes_in st)) o.node o.replies h.few
    ∙ ap (with_step (answering w (o.node ∷ nodes_in st)) (w.added o.node o.replies)
    (λ b. told w (answering w (o.node ∷ nodes_in st)) o.node (w.replies - length o.replies) (o.replies ++ b ∷ []))) (sym e)))
rest-stepped {N} {A} w es o st (Need m) e h =
    let t : Told N A = with_reply (λ b. told w (answering w (o.node ∷ nodes_in st)) o.node (w.replies - length o.replies) (o.replies ++ b ∷ []))
    (answering w (o.node ∷ nodes_in st) m) in
    cc (
      append_assoc (done w (o.node ∷ nodes_in st) m) (flat_map (done w (o.node ∷ nodes_in st)) t.asked)
          (if_answered o.node t.outcome ++ climbed_rest w st t.outcome),
      told-more w (answering w (o.node ∷ nodes_in st)) o.node o.replies h.few,
    )

pub rest-replied : {N A : Type 0} (w : Standing N A) (o : Open N A) (m : N) (a : A) (st : List (Open N A))
    → rest_of w (with_answer o m a) st ≡ climbed_rest w (o ∷ st) (Answered a)
unfolding with_reply
rest-replied w o m a st = ap (told_rest w o.node st) (sym (told-replied w (answering w (o.node ∷ nodes_in st)) o.node o.replies a))

pub climbed_rest-circle : {N A : Type 0} (w : Standing N A) (st : List (Open N A)) (c : N) → climbed_rest w st (Circle c) ≡ []
unfolding with_reply
climbed_rest-circle w [] c = refl
climbed_rest-circle w (o ∷ st) c = climbed_rest-circle w st c

pub rest-circle : {N A : Type 0} (w : Standing N A) (o : Open N A) (st : List (Open N A)) (m : N) → is_among w.number (o.node ∷ nodes_in st) m ≡ true
    → rest_at w o st (Need m) ≡ []
rest-circle {N} {A} w o st m e =
    cc (completed-open w w.nodes (o.node ∷ nodes_in st) m e, tells-open w (o.node ∷ nodes_in st) m e, climbed_rest-circle w (o ∷ st) m)

pub rest-starts : {N A : Type 0} (w : Standing N A) → IsSettled w → (st : List (Open N A)) (m : N) → AreDistinct w (nodes_in st) → IsOut w (nodes_in st) m
    → rest_of w (newly m) st ≡ done w (nodes_in st) m ++ climbed_rest w st (answering w (nodes_in st) m)
rest-starts {N} {A} w law st m d out =
    let eq : suc w.replies - 0 ≡ suc w.replies = omega arith in
    let t : Told N A = tells w (nodes_in st) m in
    cc (
      tells-free w law (nodes_in st) m d out,
      append_assoc (flat_map (done w (m ∷ nodes_in st)) t.asked) (if_answered m t.outcome)
          (climbed_rest w st t.outcome),
      done-free w law (nodes_in st) m d out,
    )

-- ---- what is kept and to be completed stays the same
pub fresh-out : {N : Type 0} (number : N → ℕ) (kept : List N) (n : N) (ms : List N) → is_among number kept n ≡ false
    → fresh number kept (n ∷ ms) ≡ n ∷ fresh number (kept ++ n ∷ []) ms
unfolding fresh
fresh-out number kept n ms e = ap (λ b. cond b (fresh number kept ms) (n ∷ fresh number (kept ++ n ∷ []) ms)) e

pub fresh-in : {N : Type 0} (number : N → ℕ) (kept : List N) (n : N) (ms : List N) → is_among number kept n ≡ true
    → fresh number kept (n ∷ ms) ≡ fresh number kept ms
unfolding fresh
fresh-in number kept n ms e = ap (λ b. cond b (fresh number kept ms) (n ∷ fresh number (kept ++ n ∷ []) ms)) e

pub fresh-nil : {N : Type 0} (number : N → ℕ) (kept : List N) → fresh number kept [] ≡ []
unfolding fresh
fresh-nil number kept = refl

pub covers-keep : {N A : Type 0} (w : Standing N A) (es : List (Entry N A)) (e : Entry N A) (n : N) (rest : List N) → e.node ≡ n → IsOut w (nodes_of es) n
    → to_keep w (es ++ e ∷ []) rest ≡ to_keep w es (n ∷ rest)
covers-keep w es e n rest node out =
    cc (
      nodes_of-append es (e ∷ []),
      append_assoc (nodes_of es) (n ∷ []) (fresh w.number (nodes_of es ++ n ∷ []) rest),
      fresh-out w.number (nodes_of es) n rest out,
    )

fresh-drop : {N A : Type 0} (w : Standing N A) (kept ms rest : List N) → AllByRecursion (IsIn w kept) ms
    → fresh w.number kept (ms ++ rest) ≡ fresh w.number kept rest
fresh-drop w kept [] rest h = refl
fresh-drop w kept (m ∷ ms) rest h = fresh-in w.number kept m (ms ++ rest) h.0 ∙ fresh-drop w kept ms rest h.1

pub covers-drop : {N A : Type 0} (w : Standing N A) (es : List (Entry N A)) (ms rest : List N) → AllByRecursion (IsIn w (nodes_of es)) ms
    → to_keep w es rest ≡ to_keep w es (ms ++ rest)
covers-drop w es ms rest h = ap (λ r. nodes_of es ++ r) (sym (fresh-drop w (nodes_of es) ms rest h))

pub to_keep-nil : {N A : Type 0} (w : Standing N A) (es : List (Entry N A)) → nodes_of es ≡ to_keep w es []
to_keep-nil w es = sym (ap (λ r. nodes_of es ++ r) (fresh-nil w.number (nodes_of es)) ∙ append-nil (nodes_of es))

-- ---- the calls
pub ended-tells : {N A : Type 0} (w : Standing N A) → IsSettled w → (es : List (Entry N A)) (o : Open N A) (st : List (Open N A)) (a : A)
    → IsStack w es o.node st → HasEnded w es o a → tells w [] o.node ≡ record { outcome = Answered a; asked = o.asked; uses = o.uses }
ended-tells w law es o st a h ended = tells-free w law [] o.node (AreDistinct-none w) refl
    ∙ ended.came (answering w (o.node ∷ [])) (agrees w law es h.right (o.node ∷ []) (h.apart.0, tt))

pub debt-keep : {N A : Type 0} (w : Standing N A) → IsSettled w
    → (es : List (Entry N A)) (e : Entry N A) (o : Open N A) (st : List (Open N A)) (a : A) (rest : List N) → IsStack w es o.node st → HasEnded w es o a
    → e.node ≡ o.node → debt w es (o.node ∷ rest) ≡ length o.asked + 1 + debt w (es ++ e ∷ []) rest
debt-keep {N} {A} w law es e o st a rest h ended node =
    cc (fresh-out w.number (nodes_of es) o.node rest h.apart.0, ended-tells w law es o st a h ended, nodes_of-append es (e ∷ []))

pub debt-drop : {N A : Type 0} (w : Standing N A) (es : List (Entry N A)) (ms rest : List N) → AllByRecursion (IsIn w (nodes_of es)) ms
    → debt w es rest ≡ debt w es (ms ++ rest)
debt-drop w es ms rest h = ap (costs w) (sym (fresh-drop w (nodes_of es) ms rest h))
