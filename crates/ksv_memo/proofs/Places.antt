-- An entry among others is as one after them.
use Rattle.ksv_memo.proofs.Common.{◌≡◌, ℕ, ◌+◌, ◌-◌, ◌*◌, Bool, true, false, cond, List, [], ◌∷◌, ◌++◌, length, map, refl, sym, ◌∙◌, ap, subst, nat_eq}
use Rattle.ksv_memo.proofs.Common.{◌||◌, arith, length-append, append_assoc, AllByRecursion, IsDistinct, Outcome, Standing, is_among, tells, Entry, Open}
use Rattle.ksv_memo.proofs.Common.{nodes_in, nodes_of, AreDistinct, StandsIn, IsRight, fresh, costs, Agrees, HasCome, IsWaiting, IsStack, to_keep, debt, GoesOn}
use Rattle.ksv_memo.proofs.Common.{HasFinished, IsLeft, AreSame, rest_of, All-map, All-++, All-left, All-right, is_among-append, nodes_of-append}
use Rattle.std.proofs.Common.{IsPermutation}
use Rattle.std.proofs.lemmas.Cmp.{nat_eq_equiv}
use Rattle.std.proofs.lemmas.List.{map-append}
use Rattle.std.proofs.lemmas.List.Sorted.{IsPermutation-to_front, IsPermutation-trans, IsPermutation-sym, IsPermutation-append_left}
use Rattle.std.proofs.lemmas.Map.Keys.{IsDistinct-IsPermutation}
use Rattle.ksv_memo.specs.Running.{Chain, calls_left, calls_of, Account}
use Rattle.ksv_memo_rules.proofs.Standins.{stands-among}

or-turned : (a b c : Bool) → ((a || b) || (c || false)) ≡ (a || (c || b))
or-turned true b c = refl
or-turned false true true = refl
or-turned false true false = refl
or-turned false false true = refl
or-turned false false false = refl

-- what is fresh depends on what is kept as a set alone
pub fresh-same : {N : Type 0} (number : N → ℕ) (ns ms rest : List N) → ((x : N) → is_among number ns x ≡ is_among number ms x)
    → fresh number ns rest ≡ fresh number ms rest
unfolding fresh
fresh-same number ns ms [] h = refl
fresh-same {N} number ns ms (m ∷ rest) h = by (is_among number ns m) (is_among number ms m) (h m) (fresh-same number ns ms rest h)
    (fresh-same number (ns ++ m ∷ []) (ms ++ m ∷ []) rest
    (λ x. cc (is_among-append number ns (m ∷ []) x, h x, is_among-append number ms (m ∷ []) x)))
  where
    by : (a b : Bool) → a ≡ b → fresh number ns rest ≡ fresh number ms rest → fresh number (ns ++ m ∷ []) rest ≡ fresh number (ms ++ m ∷ []) rest
        → cond a (fresh number ns rest) (m ∷ fresh number (ns ++ m ∷ []) rest) ≡ cond b (fresh number ms rest) (m ∷ fresh number (ms ++ m ∷ []) rest)
    by true true e p q = p
    by false false e p q = ap (λ xs. m ∷ xs) q
    by true false e p q = absurd (cc)
    by false true e p q = absurd (cc)

module _ {N A : Type 0} (w : Standing N A) (front back : List (Entry N A)) (e : Entry N A) where
  -- the entry after the others, and among them
  abbrev last : List (Entry N A)
  last = (front ++ back) ++ e ∷ []

  abbrev among : List (Entry N A)
  among = front ++ e ∷ back

  pub All-moved : (P : Entry N A → Type 0) → AllByRecursion P last → AllByRecursion P among
  All-moved P h =
      let both = All-left P (front ++ back) (e ∷ []) h in
      let one = All-right P (front ++ back) (e ∷ []) h in
      All-++ P front (e ∷ back) (All-left P front back both) (one.0, All-right P front back both)

  pub All-back : (P : Entry N A → Type 0) → AllByRecursion P among → AllByRecursion P last
  All-back P h =
      let f = All-left P front (e ∷ back) h in
      let r = All-right P front (e ∷ back) h in
      All-++ P (front ++ back) (e ∷ []) (All-++ P front back f r.1) (r.0, tt)

  pub among-moved : (x : N) → is_among w.number (nodes_of last) x ≡ is_among w.number (nodes_of among) x
  among-moved x =
      cc (
        nodes_of-append (front ++ back) (e ∷ []),
        nodes_of-append front back,
        is_among-append w.number (nodes_of front ++ nodes_of back) (e.node ∷ []) x,
        is_among-append w.number (nodes_of front) (nodes_of back) x,
        or-turned (is_among w.number (nodes_of front) x) (is_among w.number (nodes_of back) x) (nat_eq (w.number x) (w.number e.node)),
        is_among-append w.number (nodes_of front) (e.node ∷ nodes_of back) x,
        nodes_of-append front (e ∷ back),
      )

  length-moved : length last ≡ length among
  length-moved =
      omega (arith, length-append (front ++ back) (e ∷ []), length-append front back, length-append front (e ∷ back))

  turned : (xs ys : List ℕ) (n : ℕ) → IsPermutation ((xs ++ ys) ++ n ∷ []) (xs ++ n ∷ ys)
  turned xs ys n =
      let first = IsPermutation-to_front (xs ++ ys) n in
      let then : IsPermutation ((n ∷ xs) ++ ys) ((xs ++ n ∷ []) ++ ys) =
      IsPermutation-append_left ys (n ∷ xs) (xs ++ n ∷ []) (IsPermutation-sym (xs ++ n ∷ []) (n ∷ xs) (IsPermutation-to_front xs n)) in
      IsPermutation-trans ((xs ++ ys) ++ n ∷ []) (n ∷ xs ++ ys) (xs ++ n ∷ ys) first (subst (IsPermutation (n ∷ xs ++ ys)) (append_assoc xs (n ∷ []) ys) then)

  distinct-moved : AreDistinct w (nodes_of last) → AreDistinct w (nodes_of among)
  distinct-moved h =
      let numbers : List (Entry N A) → List ℕ = λ es. map w.number (nodes_of es) in
      let cut : (xs ys : List (Entry N A)) → numbers (xs ++ ys) ≡ numbers xs ++ numbers ys =
      λ xs ys. cc (nodes_of-append xs ys, map-append w.number (nodes_of xs) (nodes_of ys)) in
      let was : numbers last ≡ (numbers front ++ numbers back) ++ w.number e.node ∷ [] =
      cc (cut (front ++ back) (e ∷ []), cut front back) in
      let now : numbers among ≡ numbers front ++ w.number e.node ∷ numbers back = cut front (e ∷ back) in
      subst (IsDistinct nat_eq) (sym now)
      (IsDistinct-IsPermutation nat_eq nat_eq_equiv.symm ((numbers front ++ numbers back) ++ w.number e.node ∷ [])
      (numbers front ++ w.number e.node ∷ numbers back) (turned (numbers front) (numbers back) (w.number e.node)) (subst (IsDistinct nat_eq) was h))

  among-in : (ms : List N) → AllByRecursion (λ m. is_among w.number (nodes_of last) m ≡ true) ms
      → AllByRecursion (λ m. is_among w.number (nodes_of among) m ≡ true) ms
  among-in ms h = All-map (λ m k. sym (among-moved m) ∙ k) ms h

  among-out : (ms : List N) → AllByRecursion (λ m. is_among w.number (nodes_of last) m ≡ false) ms
      → AllByRecursion (λ m. is_among w.number (nodes_of among) m ≡ false) ms
  among-out ms h = All-map (λ m k. sym (among-moved m) ∙ k) ms h

  right-moved : IsRight w last → IsRight w among
  right-moved h = record {
    each = All-map (λ x k. stands-among w (nodes_of last) (nodes_of among) x k (among-in (tells w [] x.node).asked k.closed) (among-in x.asked k.named)) among
        (All-moved (StandsIn w (nodes_of last)) h.each);
    once = distinct-moved h.once;
  }

  agrees-back : (g : N → Outcome N A) → Agrees among g → Agrees last g
  agrees-back g h = All-back _ h

  come-moved : (o : Open N A) → HasCome w last o → HasCome w among o
  come-moved o h = record { came = λ g k. h.came g (agrees-back g k); closed = among-in o.asked h.closed; few = h.few }

  waiting-moved : (o : Open N A) (m : N) → IsWaiting w last o m → IsWaiting w among o m
  waiting-moved o m h = record { came = λ g k. h.came g (agrees-back g k); closed = among-in o.asked h.closed; few = h.few }

  chain-moved : (m : N) (st : List (Open N A)) → Chain w last m st → Chain w among m st
  chain-moved m [] h = tt
  chain-moved m (o ∷ st) h = (waiting-moved o m h.0, chain-moved o.node st h.1)

  stack-moved : (n : N) (st : List (Open N A)) → IsStack w last n st → IsStack w among n st
  stack-moved n st h =
      record { right = right-moved h.right; chain = chain-moved n st h.chain; distinct = h.distinct; apart = among-out (n ∷ nodes_in st) h.apart }

  debt-moved : (rest : List N) → debt w last rest ≡ debt w among rest
  debt-moved rest = ap (costs w) (fresh-same w.number (nodes_of last) (nodes_of among) rest among-moved)

  keep-moved : (rest : List N) → AreSame w (to_keep w last rest) (to_keep w among rest)
  keep-moved rest x =
      is_among-append w.number (nodes_of last) (fresh w.number (nodes_of last) rest) x
      ∙ (λ i. among-moved x i || is_among w.number (fresh-same w.number (nodes_of last) (nodes_of among) rest among-moved i) x)
      ∙ sym (is_among-append w.number (nodes_of among) (fresh w.number (nodes_of among) rest) x)

  left-calls : (o : Open N A) (st : List (Open N A)) → calls_left w last o st ≡ calls_left w among o st
  left-calls o st = ap (λ k. (w.nodes - (k + length (o ∷ st))) * (w.replies + 2) + calls_of w (o ∷ st)) length-moved

  pub goes-moved : (account : Account N A) (before : List (Entry N A)) (o : Open N A) (st : List (Open N A)) → GoesOn w account before last o st
      → GoesOn w account before among o st
  goes-moved account before o st h = record {
    stack = stack-moved _ _ h.stack;
    came = come-moved o h.came;
    grown = λ x k. sym (among-moved x) ∙ h.grown x k;
    value = h.value;
    fewer = rw (left-calls o st) at h.fewer;
    all = λ x. sym (keep-moved (rest_of w o st) x) ∙ h.all x;
    calls = cc (debt-moved (rest_of w o st));
  }

  pub finished-moved : (account : Account N A) (out : Outcome N A) → HasFinished w account last out → HasFinished w account among out
  finished-moved account out h = record { value = h.value; right = right-moved h.right; all = λ x. sym (among-moved x) ∙ h.all x; calls = h.calls }

  pub left-moved : (all : List N) (before : List (Entry N A)) → IsLeft w all before last → IsLeft w all before among
  left-moved all before h =
      record { right = right-moved h.right; grown = λ x k. sym (among-moved x) ∙ h.grown x k; within = λ x k. h.within x (among-moved x ∙ k) }
