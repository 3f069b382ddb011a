-- A table that grows before a node is looked up: the question goes on as if it had grown before the call.
use Rattle.ksv_memo.proofs.Common.{◌≡◌, ℕ, zero, suc, ◌+◌, ◌-◌, ◌*◌, ◌≤◌, Bool, true, false, cond, List, [], ◌∷◌, ◌++◌, length, refl, sym, ◌∙◌, ap, subst}
use Rattle.ksv_memo.proofs.Common.{nat_eq, arith, ◌||◌, map, inl, inr, ◌⊎◌, Option, append_assoc, append-nil, length-append, eq-eqb, AllByRecursion, option_map}
use Rattle.ksv_memo.proofs.Common.{IsDistinct-head, IsDistinct-tail, or_parts, Need, Outcome, Answered, Standing, IsSettled, is_among, answering, Entry, Open}
use Rattle.ksv_memo.proofs.Common.{nodes_in, nodes_of, AreDistinct, IsRight, StandsIn, costs, Agrees, HasCome, IsWaiting, IsStack, rest_of, to_keep, fresh}
use Rattle.ksv_memo.proofs.Common.{debt, AreSame, All-map, All-++, All-left, All-right, IsOut, IsIn, eqb_true, is_among-append, nodes_of-append, with_uses}
use Rattle.ksv_memo.proofs.Common.{IsLeft}
use Rattle.std.specs.Prelude.{min, ◌^◌}
use Rattle.std.proofs.lemmas.Bool.{or_from, or_left, or_right}
use Rattle.std.proofs.lemmas.List.{map-append}
use Rattle.std.proofs.lemmas.Cmp.{nat_eq_equiv}
use Rattle.ksv_memo_rules.specs.Right.{cost, counted}
use Rattle.ksv_memo_rules.specs.Touched.{tree}
use Rattle.ksv_memo.specs.Growing.{GrowsBy}
use Rattle.ksv_memo.specs.Running.{Chain, Counts, calls_of, calls_left, climbed_rest}
use Rattle.ksv_memo_rules.proofs.Keeping.{IsIn-append}
use Rattle.ksv_memo_rules.proofs.Standins.{stands-among}
use Rattle.ksv_memo.proofs.Change.{member}
use Rattle.ksv_memo.proofs.Moves.{fresh-in, fresh-out, rest-stepped, stepped}
use Rattle.ksv_memo.proofs.Questions.{among-fresh}
use Rattle.ksv_memo.proofs.Waiting.{Answers, whole-tree}

-- ---- tests
or-none : (a : Bool) → (a || false) ≡ a
or-none true = refl
or-none false = refl

or-swap : (a b c : Bool) → ((a || b) || c) ≡ ((a || c) || b)
or-swap true b c = refl
or-swap false true true = refl
or-swap false true false = refl
or-swap false false true = refl
or-swap false false false = refl

or-within : (a b c : Bool) → (b ≡ true → c ≡ true) → ((a || b) || c) ≡ (a || c)
or-within true b c h = refl
or-within false true c h = sym (h refl)
or-within false false c h = refl

-- ---- counts
-- one more call can be counted before these
pub counted-swap : (k : ℕ) (turns : Option ℕ) → counted k (counted 1 turns) ≡ counted 1 (counted k turns)
counted-swap zero turns = refl
counted-swap (suc k) turns = ap (option_map (λ t. min (t + 1) (2 ^ 64 - 1))) (counted-swap k turns)

pub counted-sum : (k c all : ℕ) (turns : Option ℕ) → all ≡ k + c → counted k (counted c turns) ≡ counted all turns
counted-sum zero c all turns e = let same : c ≡ all = omega arith in ap (λ n. counted n turns) same
counted-sum (suc k) c zero turns e = absurd (omega arith)
counted-sum (suc k) c (suc all) turns e = ap (option_map (λ t. min (t + 1) (2 ^ 64 - 1))) (counted-sum k c all turns (omega arith))

-- calls that were owed are counted
pub counts-ahead : (before now : Option ℕ) (k owed owed' so_far total : ℕ) → Counts before now owed so_far total → owed ≡ k + owed'
    → Counts before (counted k now) owed' so_far total
counts-ahead before now k owed owed' so_far total h e =
    let sum = h.2 in
    (k + h.0, ap (counted k) h.1 ∙ counted-sum k h.0 (k + h.0) before refl, omega arith)

product-less : (a b c d : ℕ) → a ≤ b → a * c + d ≤ b * c + d
product-less a b c d h = grind arith

-- a table that hasn't grown
pub grows-none : {N A : Type 0} (w : Standing N A) (m : N) (opened : List N) (es : List (Entry N A)) → IsRight w es → GrowsBy w m opened es es 0
grows-none w m opened es right = record {
  more = [];
  after = sym (append-nil es);
  stand = tt;
  once = right.once;
  free = tt;
  within = tt;
  answered = inl refl;
  calls = refl;
}

module _ {N A : Type 0} (w : Standing N A) (law : IsSettled w) where
  -- ---- a node is kept ahead of its turn
  one-more : (ns : List N) (m n : N) → is_among w.number (ns ++ m ∷ []) n ≡ (is_among w.number ns n || nat_eq (w.number n) (w.number m))
  one-more ns m n = is_among-append w.number ns (m ∷ []) n ∙ ap (λ b. is_among w.number ns n || b) (or-none (nat_eq (w.number n) (w.number m)))

  -- what is fresh depends on the members of what is kept
  fresh-same : (ms ks ls : List N) → AreSame w ks ls → fresh w.number ks ms ≡ fresh w.number ls ms
  unfolding fresh
  fresh-same [] ks ls same = refl
  fresh-same (m ∷ ms) ks ls same = λ j. cond (same m j) (fresh-same ms ks ls same j) (m ∷ fresh-same ms (ks ++ m ∷ []) (ls ++ m ∷ [])
      (λ x. one-more ks m x ∙ ap (λ b. b || nat_eq (w.number x) (w.number m)) (same x) ∙ sym (one-more ls m x)) j)

  swapped : (kept : List N) (m n : N) → AreSame w ((kept ++ m ∷ []) ++ n ∷ []) ((kept ++ n ∷ []) ++ m ∷ [])
  swapped kept m n x = cc (
    one-more (kept ++ m ∷ []) n x,
    one-more kept m x,
    or-swap (is_among w.number kept x) (nat_eq (w.number x) (w.number m)) (nat_eq (w.number x) (w.number n)),
    one-more (kept ++ n ∷ []) m x,
    one-more kept n x,
  )

  -- its calls are owed no more
  pays-one : (rest kept : List N) (n : N) → IsOut w kept n → IsIn w rest n
      → costs w (fresh w.number kept rest) ≡ cost w n + costs w (fresh w.number (kept ++ n ∷ []) rest)
  pays-one [] kept n out there = absurd (cc)
  pays-one (m ∷ ms) kept n out there =
      by (nat_eq (w.number n) (w.number m)) refl (is_among w.number kept m) refl (λ e. pays-one ms kept n out e)
      (λ o e. pays-one ms (kept ++ m ∷ []) n o e)
    where
      by : (b : Bool) → nat_eq (w.number n) (w.number m) ≡ b → (k : Bool) → is_among w.number kept m ≡ k
          → (IsIn w ms n → costs w (fresh w.number kept ms) ≡ cost w n + costs w (fresh w.number (kept ++ n ∷ []) ms))
          → (IsOut w (kept ++ m ∷ []) n → IsIn w ms n
          → costs w (fresh w.number (kept ++ m ∷ []) ms) ≡ cost w n + costs w (fresh w.number ((kept ++ m ∷ []) ++ n ∷ []) ms))
          → costs w (fresh w.number kept (m ∷ ms)) ≡ cost w n + costs w (fresh w.number (kept ++ n ∷ []) (m ∷ ms))
      by true e k f here next =
          let same : n ≡ m = law.own_number n m (eqb_true (w.number n) (w.number m) e) in
          let self : IsIn w (kept ++ n ∷ []) n = one-more kept n n ∙ or_right _ _ (eq-eqb (w.number n) (w.number n) refl) in
          let P : N → Type 0 = λ x. costs w (fresh w.number kept (x ∷ ms)) ≡ cost w n + costs w (fresh w.number (kept ++ n ∷ []) (x ∷ ms)) in
          subst P same (cc (fresh-out w.number kept n ms out, fresh-in w.number (kept ++ n ∷ []) n ms self))
      by false e true f here next =
          let later : IsIn w ms n = sym (ap (λ b. b || is_among w.number ms n) e) ∙ there in
          let still : IsIn w (kept ++ n ∷ []) m = one-more kept n m ∙ or_left _ (nat_eq (w.number m) (w.number n)) f in
          cc (fresh-in w.number kept m ms f, here later, fresh-in w.number (kept ++ n ∷ []) m ms still)
      by false e false f here next =
          let later : IsIn w ms n = sym (ap (λ b. b || is_among w.number ms n) e) ∙ there in
          let apart : IsOut w (kept ++ m ∷ []) n = one-more kept m n ∙ or_from _ _ out e in
          let free : IsOut w (kept ++ n ∷ []) m = one-more kept n m ∙ or_from _ _ f (nat_eq_equiv.symm (w.number m) (w.number n) ∙ e) in
          let a = next apart later in
          let b = ap (costs w) (fresh-same ms _ _ (swapped kept m n)) in
          let c = ap (costs w) (fresh-out w.number kept m ms f) in
          let d = ap (costs w) (fresh-out w.number (kept ++ n ∷ []) m ms free) in
          omega arith

  -- where nodes differ, each is none of those before it
  out-before : (kept : List N) (n : N) (ns : List N) → AreDistinct w (kept ++ n ∷ ns) → IsOut w kept n
  out-before [] n ns d = refl
  out-before (k ∷ kept) n ns d =
      let head : AllByRecursion (λ y. nat_eq (w.number k) y ≡ false) (map w.number (kept ++ n ∷ ns)) = IsDistinct-head nat_eq (w.number k) _ d in
      let at : nat_eq (w.number k) (w.number n) ≡ false = (All-right (λ y. nat_eq (w.number k) y ≡ false) (map w.number kept) (map w.number (n ∷ ns))
      (rw (map-append w.number kept (n ∷ ns)) at head)).0 in
      or_from _ _ (nat_eq_equiv.symm (w.number n) (w.number k) ∙ at) (out-before kept n ns (IsDistinct-tail nat_eq (w.number k) _ d))

  -- the calls of several
  pays : (more : List (Entry N A)) (kept rest : List N) → AreDistinct w (kept ++ nodes_of more) → AllByRecursion (λ e. IsIn w rest e.node) more
      → costs w (fresh w.number kept rest) ≡ costs w (nodes_of more) + costs w (fresh w.number (kept ++ nodes_of more) rest)
  pays [] kept rest d inside = let same = ap (λ ks. costs w (fresh w.number ks rest)) (append-nil kept) in omega arith
  pays (e ∷ more) kept rest d inside =
      let one = pays-one rest kept e.node (out-before kept e.node (nodes_of more) d) inside.0 in
      let assoc : (kept ++ e.node ∷ []) ++ nodes_of more ≡ kept ++ e.node ∷ nodes_of more = append_assoc kept (e.node ∷ []) (nodes_of more) in
      let others = pays more (kept ++ e.node ∷ []) rest (subst (AreDistinct w) (sym assoc) d) inside.1 in
      let same = ap (λ ks. costs w (fresh w.number ks rest)) assoc in
      omega arith

  -- what is kept in the end is the same
  same-end : (more : List (Entry N A)) (kept rest : List N) → AllByRecursion (λ e. IsIn w rest e.node) more
      → AreSame w ((kept ++ nodes_of more) ++ fresh w.number (kept ++ nodes_of more) rest) (kept ++ fresh w.number kept rest)
  same-end more kept rest inside x = cc (
    among-fresh w.number (kept ++ nodes_of more) rest x,
    is_among-append w.number (kept ++ nodes_of more) rest x,
    is_among-append w.number kept (nodes_of more) x,
    or-within (is_among w.number kept x) (is_among w.number (nodes_of more) x) (is_among w.number rest x)
        (λ k. member w law (IsIn w rest) more inside x k),
    is_among-append w.number kept rest x,
    among-fresh w.number kept rest x,
  )

  -- ---- no node that is kept ahead is open
  none-of : (n : N) (more : List (Entry N A)) → AllByRecursion (λ e. nat_eq (w.number e.node) (w.number n) ≡ false) more → IsOut w (nodes_of more) n
  none-of n [] h = refl
  none-of n (e ∷ more) h = or_from _ _ (nat_eq_equiv.symm (w.number n) (w.number e.node) ∙ h.0) (none-of n more h.1)

  still-apart : (kept ns : List N) (more : List (Entry N A)) → AllByRecursion (IsOut w kept) ns → AllByRecursion (λ e. IsOut w ns e.node) more
      → AllByRecursion (IsOut w (kept ++ nodes_of more)) ns
  still-apart kept [] more h free = tt
  still-apart kept (n ∷ ns) more h free = (
    is_among-append w.number kept (nodes_of more) n ∙ or_from _ _ h.0 (none-of n more (All-map (λ e f. (or_parts _ _ f).0) more free)),
    still-apart kept ns more h.1 (All-map (λ e f. (or_parts _ _ f).1) more free),
  )

  -- ---- a table that has grown
  module _ (es now : List (Entry N A)) (m : N) (opened : List N) (count : ℕ) (g : GrowsBy w m opened es now count) where
    grown-nodes : nodes_of now ≡ nodes_of es ++ nodes_of g.more
    grown-nodes = ap nodes_of g.after ∙ nodes_of-append es g.more

    pub grown-in : (x : N) → IsIn w (nodes_of es) x → IsIn w (nodes_of now) x
    grown-in x h = subst (λ ns. IsIn w ns x) (sym grown-nodes) (IsIn-append w (nodes_of es) (nodes_of g.more) x h)

    -- it is right
    pub grown-right : IsRight w es → IsRight w now
    grown-right right = record {
      each = subst (AllByRecursion (StandsIn w (nodes_of now))) (sym g.after) (All-++ (StandsIn w (nodes_of now)) es g.more
          (All-map (λ e h. stands-among w (nodes_of es) (nodes_of now) e h (All-map grown-in _ h.closed) (All-map grown-in _ h.named)) es right.each) g.stand);
      once = g.once;
    }

    -- what agrees with it agrees with what was kept
    grown-agrees : (f : N → Outcome N A) → Agrees now f → Agrees es f
    grown-agrees f agree = All-left (λ e. f e.node ≡ Answered e.answer) es g.more (subst (λ xs. Agrees xs f) g.after agree)

    grown-came : (o : Open N A) → HasCome w es o → HasCome w now o
    grown-came o h = record { came = λ f agree. h.came f (grown-agrees f agree); closed = All-map grown-in o.asked h.closed; few = h.few }

    grown-chain : (n : N) (st : List (Open N A)) → Chain w es n st → Chain w now n st
    grown-chain n [] h = tt
    grown-chain n (o ∷ st) h = (
      record { came = λ f agree. h.0.came f (grown-agrees f agree); closed = All-map grown-in o.asked h.0.closed; few = h.0.few },
      grown-chain o.node st h.1,
    )

    -- the bound on the calls that are left doesn't rise
    pub grown-left : (o : Open N A) (st : List (Open N A)) → calls_left w now o st ≤ calls_left w es o st
    grown-left o st =
        let longer = ap length g.after ∙ length-append es g.more in
        product-less (w.nodes - (length now + length (o ∷ st))) (w.nodes - (length es + length (o ∷ st))) (w.replies + 2) (calls_of w (o ∷ st)) (omega arith)

  -- it has grown before the call for the last open node
  module _ (es now : List (Entry N A)) (o : Open N A) (st : List (Open N A)) (m : N) (count : ℕ) (h : IsStack w es o.node st) (came : HasCome w es o)
      (needs : Need m ≡ w.follow o.node o.replies) (g : GrowsBy w m (o.node ∷ nodes_in st) es now count) where
    abbrev q : Open N A
    q = with_uses o (w.added o.node o.replies)

    pub grown-stack : IsStack w now o.node st
    grown-stack = record {
      right = grown-right _ _ _ _ _ g h.right;
      chain = grown-chain _ _ _ _ _ g o.node st h.chain;
      distinct = h.distinct;
      apart = subst (λ ns. AllByRecursion (IsOut w ns) (o.node ∷ nodes_in st)) (sym (grown-nodes _ _ _ _ _ g))
          (still-apart (nodes_of es) (o.node ∷ nodes_in st) g.more h.apart g.free);
    }

    pub grown-came-on : HasCome w now o
    grown-came-on = grown-came _ _ _ _ _ g o came

    -- each node that is kept ahead is still to be completed
    inside : AllByRecursion (λ e. IsIn w (rest_of w o st) e.node) g.more
    inside = by g.more g.within g.answered
      where
        waits : IsWaiting w es q m
        waits = stepped w law es o (Need m) needs came

        rest : Answers w m → rest_of w o st ≡ tree w m ++ climbed_rest w (q ∷ st) (answering w (o.node ∷ nodes_in st) m)
        rest answered = cc (rest-stepped w es o st (Need m) needs came, whole-tree w law es q st m h waits answered)

        by : (more : List (Entry N A)) → AllByRecursion (λ e. IsIn w (tree w m) e.node) more → (more ≡ []) ⊎ Answers w m
            → AllByRecursion (λ e. IsIn w (rest_of w o st) e.node) more
        by more within (inl none) = subst (AllByRecursion (λ e. IsIn w (rest_of w o st) e.node)) (sym none) tt
        by more within (inr answered) =
            subst (λ ns. AllByRecursion (λ e. IsIn w ns e.node) more) (sym (rest answered))
            (All-map (λ e k. IsIn-append w (tree w m) (climbed_rest w (q ∷ st) (answering w (o.node ∷ nodes_in st) m)) e.node k) more within)

    -- the calls that were counted for them are owed no more
    pub grown-debt : debt w es (rest_of w o st) ≡ count + debt w now (rest_of w o st)
    grown-debt =
        let same = grown-nodes _ _ _ _ _ g in
        cc (pays g.more (nodes_of es) (rest_of w o st) (subst (AreDistinct w) same g.once) inside, g.calls, same)

    -- and the same is kept in the end
    pub grown-all : AreSame w (to_keep w now (rest_of w o st)) (to_keep w es (rest_of w o st))
    grown-all x = ap (λ ns. is_among w.number (ns ++ fresh w.number ns (rest_of w o st)) x) (grown-nodes _ _ _ _ _ g)
        ∙ same-end g.more (nodes_of es) (rest_of w o st) inside x

  -- it has grown before a question
  module _ (es now : List (Entry N A)) (m : N) (opened : List N) (count : ℕ) (g : GrowsBy w m opened es now count) where
    -- the same is kept in the end
    pub asked-all : AreSame w (to_keep w now (tree w m)) (to_keep w es (tree w m))
    asked-all x = ap (λ ns. is_among w.number (ns ++ fresh w.number ns (tree w m)) x) (grown-nodes _ _ _ _ _ g)
        ∙ same-end g.more (nodes_of es) (tree w m) g.within x

    -- and the calls that were counted are owed no more
    asked-debt : debt w es (tree w m) ≡ count + debt w now (tree w m)
    asked-debt =
        let same = grown-nodes _ _ _ _ _ g in
        cc (pays g.more (nodes_of es) (tree w m) (subst (AreDistinct w) same g.once) g.within, g.calls, same)

    pub asked-turns : (before : Option ℕ) → counted (debt w now (tree w m)) (counted count before) ≡ counted (debt w es (tree w m)) before
    asked-turns before = counted-sum (debt w now (tree w m)) count (debt w es (tree w m)) before (let owed = asked-debt in omega arith)

    -- and a refused memory leaves no more
    pub asked-left : (after : List (Entry N A)) → IsLeft w (to_keep w now (tree w m)) now after → IsLeft w (to_keep w es (tree w m)) es after
    asked-left after h = record {
      right = h.right;
      grown = λ x a. h.grown x (grown-in _ _ _ _ _ g x a);
      within = λ x a. sym (asked-all x) ∙ h.within x a;
    }
