-- What the code's tests and moves say of kept and open nodes.
use Rattle.ksv_memo.proofs.Common.{◌≡◌, ℕ, suc, ◌+◌, ◌-◌, ◌*◌, ◌<◌, ◌≤◌, Bool, true, false, List, [], ◌∷◌, ◌++◌, length, refl, sym, ◌∙◌, ap, subst, nat_eq}
use Rattle.ksv_memo.proofs.Common.{arith, length-append, eq-eqb, Option, Result, IsEquivalence, AllByRecursion, list_any, append-nil, Next, Need}
use Rattle.ksv_memo.proofs.Common.{Done, Outcome, Answered, Circle, Standing, IsSettled, is_among, tells, done, answering, Entry, Open, nodes_in}
use Rattle.ksv_memo.proofs.Common.{newly, with_uses, with_answer, nodes_of, IsRight, fresh, costs, Agrees, HasCome, IsWaiting, IsStack, rest_of}
use Rattle.ksv_memo.proofs.Common.{to_keep, debt, HasFinished, GoesOn, IsLeft, All-right, IsOut, eqb_true, IsIn, AreDistinct-none, agrees, self_in}
use Rattle.ksv_memo.proofs.Common.{nodes_of-append}
use Rattle.std.proofs.Common.{Ok, Err, OnErr}
use Rattle.ksv_memo_rules.specs.Right.{counted}
use Rattle.ksv_memo.specs.Running.{KeepsRight}
use Rattle.ksv_memo.specs.Running.{HasEnded, HasStepped, value_of, calls_of, calls_left, climbed_rest, rest_at, made, Counts, account_of, account_at}
use Rattle.ksv_memo_rules.proofs.Evals.{AreDistinct-cons, tells-free}
use Rattle.ksv_memo_rules.proofs.Keeping.{IsIn-append, done-kept}
use Rattle.ksv_memo.proofs.Places.{goes-moved, finished-moved, left-moved}
use Rattle.ksv_memo.proofs.Moves.{stepped, value-stepped, rest-stepped, rest-replied, rest-starts, rest-circle, covers-keep, covers-drop, to_keep-nil}
use Rattle.ksv_memo.proofs.Moves.{fresh-nil, debt-keep, debt-drop, replied, value-replied, value-circle, starts, value-starts, room, opens, closes}
use Rattle.ksv_memo.proofs.Moves.{IsWaiting-keep}

-- ---- `==` on nodes is that of their numbers
module _ {N A : Type 0} (w : Standing N A) (law : IsSettled w) (eq : N → N → Bool) (laws : IsEquivalence eq) (exact : (a b : N) → eq a b ≡ true → a ≡ b) where
  eq_number : (a b : N) → eq a b ≡ nat_eq (w.number a) (w.number b)
  eq_number a b = by (eq a b) refl (nat_eq (w.number a) (w.number b)) refl
    where
      by : (x : Bool) → eq a b ≡ x → (y : Bool) → nat_eq (w.number a) (w.number b) ≡ y → x ≡ y
      by true e true f = refl
      by false e false f = refl
      by true e false f = let same : w.number a ≡ w.number b = ap w.number (exact a b e) in let yes : nat_eq (w.number a) (w.number b) ≡ true =
          eq-eqb (w.number a) (w.number b) same in cc
      by false e true f = let same : a ≡ b = law.own_number a b (eqb_true (w.number a) (w.number b) f) in let yes : eq a a ≡ true =
          laws.refl a in let moved : eq a b ≡ eq a a = ap (eq a) (sym same) in cc

  any_waits : (st : List (Open N A)) (n : N) → list_any (λ o. eq n o.node) st ≡ is_among w.number (nodes_in st) n
  any_waits [] n = refl
  any_waits (o ∷ st) n = cc (eq_number n o.node, any_waits st n)

  -- a node that is kept has an entry
  pub any_entry : (es : List (Entry N A)) (n : N) → list_any (λ e. eq n e.node) es ≡ is_among w.number (nodes_of es) n
  any_entry [] n = refl
  any_entry (e ∷ es) n = cc (eq_number n e.node, any_entry es n)

  -- the test of the table says whether a node is open
  pub waits_among : (st : List (Open N A)) (n : N) → list_any (λ o. eq n o.node) st ≡ is_among w.number (nodes_in st) n
  waits_among st n = any_waits st n

-- ---- the measure
same_product : (p q x y : ℕ) → p ≡ q → x < y → p + x < q + y
same_product p q x y e h = omega arith

fewer : (k b x y : ℕ) → x < y + (b + 2) → k * (b + 2) + x < suc k * (b + 2) + y
fewer k b x y h = grind arith

calls-replied : {N A : Type 0} (w : Standing N A) (es : List (Entry N A)) (o : Open N A) (m : N) (a : A) (st : List (Open N A)) → length o.replies < w.replies
    → calls_left w es (with_answer o m a) st < calls_left w es o st
calls-replied w es o m a st few = same_product _ _ (calls_of w (with_answer o m a ∷ st)) (calls_of w (o ∷ st)) refl (simp length-append (omega arith))

calls-kept : {N A : Type 0} (w : Standing N A) (es : List (Entry N A)) (e : Entry N A) (o p : Open N A) (m : N) (a : A) (st : List (Open N A))
    → length o.replies ≤ w.replies → length p.replies < w.replies → calls_left w (es ++ e ∷ []) (with_answer p m a) st < calls_left w es o (p ∷ st)
calls-kept w es e o p m a st le few =
    same_product _
    _
    (calls_of w (with_answer p m a ∷ st)) (calls_of w (o ∷ p ∷ st))
    (ap (λ k. (w.nodes - k) * (w.replies + 2)) (simp length-append (omega arith)))
    (simp length-append (omega arith))

calls-opened : {N A : Type 0} (w : Standing N A) (es : List (Entry N A)) (o : Open N A) (m : N) (st : List (Open N A))
    → length es + suc (suc (length st)) ≤ w.nodes → calls_left w es (newly m) (o ∷ st) < calls_left w es o st
calls-opened w es o m st le =
    let k : ℕ = w.nodes - (length es + length (newly m ∷ o ∷ st)) in
    let eq : w.nodes - (length es + length (o ∷ st)) ≡ suc k = omega arith in
    let x : ℕ = calls_of w (newly m ∷ o ∷ st) in
    let y : ℕ = calls_of w (o ∷ st) in
    let more : x < y + (w.replies + 2) = omega arith in
    rw eq (fewer k w.replies x y more)

kept_last : {N A : Type 0} (w : Standing N A) (es : List (Entry N A)) (e : Entry N A) → IsIn w (nodes_of (es ++ e ∷ [])) e.node
kept_last {N} {A} w es e = (All-right (λ (x : Entry N A). IsIn w (nodes_of (es ++ e ∷ [])) x.node) es (e ∷ []) (self_in w (es ++ e ∷ []))).0

-- ---- the calls that were made and are owed
counts-last : (c owed so_far total : ℕ) → c + owed ≡ total + so_far → so_far + 1 ≡ owed → suc c ≡ total
counts-last c owed so_far total e f = omega arith

counts-next : (c owed owed' so_far so_far' total : ℕ) → c + owed ≡ total + so_far → owed' + so_far + 1 ≡ owed + so_far' → suc c + owed' ≡ total + so_far'
counts-next c owed owed' so_far so_far' total e f = omega arith

calls-paid : (d d' r oa pa ma pn : ℕ) → d' ≡ r → d ≡ oa + 1 + r → pn ≡ pa + 1 → d' + (oa + (pa + 1 + ma)) + 1 ≡ d + (pn + ma)
calls-paid d d' r oa pa ma pn e f g = omega arith

calls-more : (d d' oa ma on : ℕ) → d' ≡ d → on ≡ oa + 1 → d' + (oa + ma) + 1 ≡ d + (on + ma)
calls-more d d' oa ma on e f = omega arith

calls-open : (d d' oa ma : ℕ) → d' ≡ d → d' + (oa + ma) + 1 ≡ d + (0 + (oa + 1 + ma))
calls-open d d' oa ma e = omega arith

-- ---- what a turn yields
module _ {N A : Type 0} (w : Standing N A) (law : IsSettled w) where
  -- a node is kept and the one below goes on
  goes-kept : (es : List (Entry N A)) (o p : Open N A) (st : List (Open N A)) (a : A) (e : Entry N A)
      → IsStack w es o.node (p ∷ st) → HasEnded w es o a → e.node ≡ o.node → e.answer ≡ a → IsRight w (es ++ e ∷ [])
      → GoesOn w (account_at w es o (p ∷ st) (Done a)) es (es ++ e ∷ []) (with_answer p o.node a) st
  goes-kept es o p st a e h ended node answer right =
      let waits : IsWaiting w (es ++ e ∷ []) p o.node = IsWaiting-keep _ _ e _ _ h.chain.0 in
      let says : (g : N → Outcome N A) → Agrees (es ++ e ∷ []) g → g o.node ≡ Answered a =
      λ g agree. ap g (sym node) ∙ (All-right (λ (x : Entry N A). g x.node ≡ Answered x.answer) es (e ∷ []) agree).0 ∙ ap Answered answer in
      let left_over : debt w (es ++ e ∷ []) (rest_of w (with_answer p o.node a) st) ≡ debt w (es ++ e ∷ []) (climbed_rest w (p ∷ st) (Answered a)) =
      ap (debt w (es ++ e ∷ [])) (rest-replied w p o.node a st) in
      let paid : debt w es (rest_at w o (p ∷ st) (Done a)) ≡ length o.asked + 1 + debt w (es ++ e ∷ []) (climbed_rest w (p ∷ st) (Answered a)) =
      debt-keep _ law _ e _ _ _ (climbed_rest w (p ∷ st) (Answered a)) h ended node in
      record {
        stack = closes w es o p st e h node right;
        came = replied _ _ _ _ a waits (subst (IsIn w (nodes_of (es ++ e ∷ []))) node (kept_last w es e)) says;
        grown = λ x k. cc (nodes_of-append es (e ∷ []), IsIn-append w (nodes_of es) (e.node ∷ []) x k);
        value = value-replied w p o.node a st;
        fewer = calls-kept w es e o p o.node a st ended.few h.chain.0.few;
        all = λ x. ap (λ ns. is_among w.number ns x)
            (cc (rest-replied w p o.node a st, covers-keep w es e _ (climbed_rest w (p ∷ st) (Answered a)) node h.apart.0));
        calls = calls-paid _ _ _ (length o.asked) (length p.asked) (made st) _ left_over paid
            (length-append p.asked (o.node ∷ []));
      }

  pub finish-goes : (es all : List (Entry N A)) (o p : Open N A) (rest : List (Open N A)) (a : A)
      → IsStack w es o.node (p ∷ rest) → HasEnded w es o a → KeepsRight w o a es all
      → GoesOn w (account_at w es o (p ∷ rest) (Done a)) es all (with_answer p o.node a) rest
  finish-goes es all o p rest a h ended k =
      let P : List (Entry N A) → Type 0 = λ xs. GoesOn w (account_at w es o (p ∷ rest) (Done a)) es xs (with_answer p o.node a) rest in
      let goes = subst (λ xs. P (xs ++ k.entry ∷ [])) k.put.was (goes-kept es o p rest a k.entry h ended k.node k.answer k.right) in
      subst P (sym k.put.now)
      (goes-moved w k.put.front k.put.back k.entry (account_at w es o (p ∷ rest) (Done a)) es (with_answer p o.node a) rest goes)

  -- the lowest node is kept
  ends-kept : (es : List (Entry N A)) (o : Open N A) (a : A) (e : Entry N A) → IsStack w es o.node [] → HasEnded w es o a → e.node ≡ o.node
      → IsRight w (es ++ e ∷ []) → HasFinished w (account_at w es o [] (Done a)) (es ++ e ∷ []) (Answered a)
  ends-kept es o a e h ended node right =
      let paid : debt w es (o.node ∷ []) ≡ length o.asked + 1 + debt w (es ++ e ∷ []) [] = debt-keep w law es e o [] a [] h ended node in
      let nothing : debt w (es ++ e ∷ []) [] ≡ 0 = ap (costs w) (fresh-nil w.number (nodes_of (es ++ e ∷ []))) in
      let now : length o.asked + 0 + 1 ≡ debt w es (o.node ∷ []) = omega arith in
      record {
        value = refl;
        right = right;
        all = λ x. ap (λ ns. is_among w.number ns x) (to_keep-nil w (es ++ e ∷ []) ∙ covers-keep w es e _ [] node h.apart.0);
        calls = λ _. now;
      }

  pub finish-ends : (es all : List (Entry N A)) (o : Open N A) (a b : A) → IsStack w es o.node [] → HasEnded w es o a → KeepsRight w o a es all → b ≡ a
      → HasFinished w (account_at w es o [] (Done a)) all (Answered b)
  finish-ends es all o a b h ended k copy =
      let P : List (Entry N A) → A → Type 0 = λ xs x. HasFinished w (account_at w es o [] (Done a)) xs (Answered x) in
      let ends = subst (λ xs. P (xs ++ k.entry ∷ []) a) k.put.was (ends-kept es o a k.entry h ended k.node k.right) in
      let moved : P (k.put.front ++ k.entry ∷ k.put.back) a = finished-moved _ k.put.front k.put.back k.entry _ _ ends in
      subst (λ xs. P xs b) (sym k.put.now) (subst (P (k.put.front ++ k.entry ∷ k.put.back)) (sym copy) moved)

  -- memory is refused once a node is kept, or before
  pub finish-left : (es all : List (Entry N A)) (o : Open N A) (st : List (Open N A)) (a : A) → IsStack w es o.node st → KeepsRight w o a es all
      → IsLeft w (account_at w es o st (Done a)).all es all
  finish-left es all o st a h k =
      let e : Entry N A = k.entry in
      let rest : List N = climbed_rest w st (Answered a) in
      let P : List (Entry N A) → Type 0 = λ xs. IsLeft w (to_keep w es (o.node ∷ rest)) es xs in
      let here : P (es ++ e ∷ []) = record {
        right = k.right;
        grown = λ x is. cc (nodes_of-append es (e ∷ []), IsIn-append w (nodes_of es) (e.node ∷ []) x is);
        within = λ x is. cc (
          covers-keep w es e _ rest k.node h.apart.0,
          IsIn-append w (nodes_of (es ++ e ∷ [])) (fresh w.number (nodes_of (es ++ e ∷ [])) rest) x is,
        );
      } in
      subst P (sym k.put.now) (left-moved _ k.put.front k.put.back e _ _ (rw (← k.put.was) here))

  pub left-same : (es all : List (Entry N A)) (rest : List N) → IsRight w es → all ≡ es → IsLeft w (to_keep w es rest) es all
  left-same es all rest right same =
      rw same (record { right = right; grown = λ x k. k; within = λ x k. IsIn-append w (nodes_of es) (fresh w.number (nodes_of es) rest) x k })

  -- a kept answer is replied
  pub need-replies : (es : List (Entry N A)) (o q : Open N A) (st : List (Open N A)) (m : N) (a : A)
      → IsStack w es o.node st → IsWaiting w es o m → IsIn w (nodes_of es) m → ((g : N → Outcome N A) → Agrees es g → g m ≡ Answered a) → q ≡ with_answer o m a
      → GoesOn w (account_at w es o st (Need m)) es es q st
  need-replies es o q st m a h waits is_in says is =
      let told_so : Answered a ≡ answering w (o.node ∷ nodes_in st) m =
      sym (says (answering w (o.node ∷ nodes_in st)) (agrees w law es h.right (o.node ∷ nodes_in st) h.apart)) in
      let inside : AllByRecursion (IsIn w (nodes_of es)) (done w (o.node ∷ nodes_in st) m) =
      done-kept w law es h.right (o.node ∷ nodes_in st) h.apart m is_in in
      let same_debt : debt w es (rest_of w (with_answer o m a) st) ≡ debt w es (rest_at w o st (Need m)) =
      cc (rest-replied w o m a st, debt-drop w es (done w (o.node ∷ nodes_in st) m) (climbed_rest w (o ∷ st) (answering w (o.node ∷ nodes_in st) m)) inside) in
      rw is (record {
        stack = h;
        came = replied w es o m a waits is_in says;
        grown = λ x k. k;
        value = cc (value-replied w o m a st);
        fewer = calls-replied w es o m a st waits.few;
        all = λ x. ap (λ ns. is_among w.number ns x)
            (cc (
              rest-replied w o m a st,
              covers-drop w es (done w (o.node ∷ nodes_in st) m)
                  (climbed_rest w (o ∷ st) (answering w (o.node ∷ nodes_in st) m)) inside,
            ));
        calls = calls-more _ _ (length o.asked) (made st) _ same_debt (length-append o.asked (m ∷ []));
      })

  -- a node is opened
  pub need-opens : (es : List (Entry N A)) (o q : Open N A) (st above : List (Open N A)) (m : N)
      → IsStack w es o.node st → IsWaiting w es o m → IsOut w (nodes_of es) m → IsOut w (o.node ∷ nodes_in st) m → q ≡ newly m → above ≡ o ∷ st
      → GoesOn w (account_at w es o st (Need m)) es es q above
  need-opens es o q st above m h waits out free is over =
      let stack : IsStack w es m (o ∷ st) = opens w es o st m h waits out free in
      let same_debt : debt w es (rest_of w (newly m) (o ∷ st)) ≡ debt w es (rest_at w o st (Need m)) =
      ap (debt w es) (rest-starts w law (o ∷ st) m h.distinct free) in
      rw over (rw is (record {
        stack = stack;
        came = starts w es m;
        grown = λ x k. k;
        value = value-starts w law o st m h.distinct free;
        fewer = calls-opened w es o m st (room _ law _ _ _ stack);
        all = λ x. ap (λ ns. is_among w.number (to_keep w es ns) x) (rest-starts w law (o ∷ st) m h.distinct free);
        calls = calls-open _ _ (length o.asked) (made st) same_debt;
      }))

  -- an open node is asked
  pub need-ends : (es : List (Entry N A)) (o : Open N A) (st : List (Open N A)) (m : N) → IsStack w es o.node st
      → is_among w.number (o.node ∷ nodes_in st) m ≡ true → HasFinished w (account_at w es o st (Need m)) es (Circle m)
  need-ends es o st m h is_open = record {
    value = sym (value-circle w o st m is_open);
    right = h.right;
    all = λ x. ap (λ ns. is_among w.number ns x) (to_keep-nil w es ∙ ap (to_keep w es) (sym (rest-circle w o st m is_open)));
    calls = λ never. absurd never;
  }

  -- ---- the call of a turn
  pub turn-account : (es : List (Entry N A)) (o : Open N A) (st : List (Open N A)) (s : Next N A) → s ≡ w.follow o.node o.replies → HasCome w es o
      → account_at w es (with_uses o (w.added o.node o.replies)) st s ≡ account_of w es o st
  turn-account es o st s is h = λ i. record {
    value = value-stepped w es o st s is h i;
    left = calls_left w es o st;
    all = to_keep w es (rest-stepped w es o st s is h i);
    owed = debt w es (rest-stepped w es o st s is h i);
    made = length o.asked + made st;
  }

  pub turn-steps : (es now : List (Entry N A)) (o p : Open N A) (s : Next N A) → now ≡ es → p ≡ with_uses o (w.added o.node o.replies)
      → s ≡ w.follow o.node o.replies → HasCome w es o → HasStepped w now p s
  turn-steps es now o p s same view is h = rw same (rw view (stepped w law es o s is h))

  -- ---- a question begins
  pub begins : (es : List (Entry N A)) (n : N) (o : Open N A) (st : List (Open N A)) → o ≡ newly n → st ≡ [] → IsRight w es → IsOut w (nodes_of es) n
      → IsStack w es o.node st
  begins es n o st e f right out = let P : N → List (Open N A)
      → Type 0 = λ m below. IsStack w es m below in subst (P o.node) (sym f)
      (rw e (record { right = right; chain = tt; distinct = AreDistinct-cons w n [] refl (AreDistinct-none w); apart = (out, tt) }))

  pub comes : (es : List (Entry N A)) (n : N) (o : Open N A) → o ≡ newly n → HasCome w es o
  comes es n o e = rw e (starts w es n)

  pub value-begins : (n : N) (o : Open N A) (st : List (Open N A)) → o ≡ newly n → st ≡ [] → value_of w o st ≡ (tells w [] n).outcome
  value-begins n o st e f =
      let eq : suc w.replies - 0 ≡ suc w.replies = omega arith in
      cc (tells-free w law [] n (AreDistinct-none w) refl)

  rest-begins : (n : N) (o : Open N A) (st : List (Open N A)) → o ≡ newly n → st ≡ [] → rest_of w o st ≡ done w [] n
  rest-begins n o st e f = cc (rest-starts w law [] n (AreDistinct-none w) refl, append-nil (done w [] n))

  pub covers-begins : (es : List (Entry N A)) (n : N) (o : Open N A) (st : List (Open N A)) → o ≡ newly n → st ≡ []
      → to_keep w es (rest_of w o st) ≡ to_keep w es (done w [] n)
  covers-begins es n o st e f = ap (to_keep w es) (rest-begins n o st e f)

  pub turns-begin : (es : List (Entry N A)) (n : N) (o : Open N A) (st : List (Open N A)) → o ≡ newly n → st ≡ []
      → 0 + debt w es (rest_of w o st) ≡ debt w es (done w [] n) + (length o.asked + made st)
  turns-begin es n o st e f =
      let owed : debt w es (rest_of w o st) ≡ debt w es (done w [] n) = ap (debt w es) (rest-begins n o st e f) in
      let none : length o.asked ≡ 0 = ap (λ q. length q.asked) e in
      let below : made st ≡ 0 = ap made f in
      omega arith

  -- ---- a kept node is asked
  pub covers-kept : (es : List (Entry N A)) (n : N) → IsRight w es → IsIn w (nodes_of es) n → nodes_of es ≡ to_keep w es (done w [] n)
  covers-kept es n right is_in = cc (to_keep-nil w es, covers-drop w es (done w [] n) [] (done-kept w law es right [] tt n is_in), append-nil (done w [] n))

  pub none-owed : (es : List (Entry N A)) (n : N) → IsRight w es → IsIn w (nodes_of es) n → (turns : Option ℕ) → turns ≡ counted (debt w es (done w [] n)) turns
  none-owed es n right is_in turns =
      let none : 0 ≡ debt w es (done w [] n) = cc (
        fresh-nil w.number (nodes_of es),
        debt-drop w es (done w [] n) [] (done-kept w law es right [] tt n is_in),
        append-nil (done w [] n),
      ) in
      ap (λ k. counted k turns) none

pub counts-end : (before now new : Option ℕ) (owed so_far total : ℕ) → Counts before now owed so_far total → so_far + 1 ≡ owed → new ≡ counted 1 now
    → new ≡ counted total before
counts-end before now new owed so_far total h e f = let last : suc h.0 ≡ total = counts-last h.0 _ so_far _ h.2 e in cc

pub counts-step : (before now new : Option ℕ) (owed owed' so_far so_far' total : ℕ) → Counts before now owed so_far total → owed' + so_far + 1 ≡ owed + so_far'
    → new ≡ counted 1 now → Counts before new owed' so_far' total
counts-step before now new owed owed' so_far so_far' total h e f = (suc h.0, cc, counts-next h.0 owed owed' so_far so_far' total h.2 e)

pub on_err_always : {T E P : Type 0} (r : Result T E) → P → OnErr r P
on_err_always (Ok x) h = tt
on_err_always (Err e) h = h
