-- How an engine may grow by the nodes of a plain list: one by one, and before they are asked.
use Rattle.std.specs.Prelude.{cond}
use Rattle.ksv_memo_rules.proofs.Keeping.{done-kept, is_among-append}
use Rattle.ksv_memo_rules.proofs.Lists.{All-flat_map, All-map}
use Rattle.ksv_memo_rules.proofs.Standing.{law_on}
use Rattle.ksv_memo_rules.specs.Entry.{Entry}
use Rattle.ksv_memo_rules.specs.Right.{IsRight, fresh}
use Rattle.ksv_memo_rules.specs.Right as right
use Rattle.ksv_rule_meaning.proofs.Completing.{done_direct}
use Rattle.ksv_rule_meaning.specs.Completed.{completed}
use Rattle.ksv_rule_meaning.specs.Lemmas.Lawful.{described_lawful}
use Rattle.ksv_list_laws.proofs.Common.{◌≡◌, ◌∙◌, ℕ, ◌+◌, Bool, true, false, List, [], ◌∷◌, ◌++◌, length, Option, Some, None, Result, ◌⊎◌, inl, inr}
use Rattle.ksv_list_laws.proofs.Common.{refl, ap, arith, nat_tests, subst, sym, AllByRecursion, flat_map, Description, Fault, is_among, Standing, on}
use Rattle.ksv_list_laws.proofs.Common.{AreDistinct-none, with_first, node_number, Given, Node, described, head_node, Listing, Which, ElementEnd}
use Rattle.ksv_list_laws.proofs.Common.{FieldHead, SizeValue, asked_by, node_at, nodes_of, IsPlain, IsThere}
use Rattle.ksv_list_laws.proofs.Entries.{known}
use Rattle.ksv_list_laws.proofs.Ordering.{order_rises, value_rises}
use Rattle.ksv_list_laws.proofs.Rising.{AnyOf, Rises, end_rises}
use Rattle.ksv_list_laws.proofs.Telling.{tells, node_is}
use Rattle.ksv_list_laws.proofs.Trees.{trees_are_asked}
use Rattle.ksv_list_laws.proofs.Truth.{or_true, some_is}
use Rattle.ksv_list_laws.specs.Laws.{NodesGrow, EarlierAreCompleted, UpToAreCompleted, ValuesComplete}
use Rattle.ksv_list_laws.specs.Nodes.{IsUpTo}

-- ---- one by one

module _ (kept : List Node) where
  abbrev IsKept : Node → Type 0
  IsKept m = is_among node_number kept m ≡ true

  fresh_in : (m : Node) (ms : List Node) → IsKept m → fresh node_number kept (m ∷ ms) ≡ fresh node_number kept ms
  unfolding fresh
  fresh_in m ms e = ap (λ b. cond b (fresh node_number kept ms) (m ∷ fresh node_number (kept ++ m ∷ []) ms)) e

  fresh_out : (n : Node) → is_among node_number kept n ≡ false → fresh node_number kept (n ∷ []) ≡ n ∷ []
  unfolding fresh
  fresh_out n e = ap (λ b. cond b [] (n ∷ [])) e

  fresh_drop : (ms rest : List Node) → AllByRecursion IsKept ms → fresh node_number kept (ms ++ rest) ≡ fresh node_number kept rest
  fresh_drop [] rest h = refl
  fresh_drop (m ∷ ms) rest h = fresh_in m (ms ++ rest) h.0 ∙ fresh_drop ms rest h.1

-- the tree of a kept node is kept
tree_in : (d : Description) (bytes : List ℕ) (es : List (Entry Node (Result Given Fault))) → IsRight (on (described d) bytes) es → (o : Node)
    → is_among node_number (right.nodes_of es) o ≡ true
    → AllByRecursion (λ m. is_among node_number (right.nodes_of es) m ≡ true) (completed d bytes [] o)
tree_in d bytes es right_ o h =
    let w : Standing Node (Result Given Fault) = on (described d) bytes in
    subst (AllByRecursion (λ m. is_among node_number (right.nodes_of es) m ≡ true)) (done_direct d bytes [] o (AreDistinct-none w))
    (done-kept w (law_on (described d) (described_lawful d) bytes) es right_ [] tt o h)

pub nodes_grow : NodesGrow
nodes_grow d bytes x plain k there n is es right_ asked out =
    let t = tells d bytes x plain k there n is in
    let ns = nodes_of x (asked_by x k) in
    let kept = right.nodes_of es in
    record {
      alone = ap (fresh node_number kept) (trees_are_asked d bytes n _ ns _ t)
          ∙ fresh_drop kept (flat_map (completed d bytes []) ns) (n ∷ [])
          (All-flat_map (λ m. is_among node_number kept m ≡ true) (completed d bytes []) ns (All-map (tree_in d bytes es right_) ns asked))
          ∙ fresh_out kept n out;
      calls = ap (λ ms. length ms + 1) (known d bytes n _ ns _ t).asked;
    }

-- ---- before they are asked

itself : (n : Node) → is_among node_number (n ∷ []) n ≡ true
itself n = grind (arith, nat_tests)

module _ (d : Description) (bytes : List ℕ) (x : Listing) (plain : IsPlain d bytes x) (n : Node) where
  abbrev has : Node → Bool
  has m = is_among node_number (completed d bytes [] m) n

  -- a question for a node completes n
  abbrev Completes : Option Which → Type 0
  Completes None = has (head_node x.path) ≡ true
  Completes (Some k) = (m : Node) × (node_at x k ≡ Some m) × (has m ≡ true)

  abbrev among : List Node → Bool
  among ms = is_among node_number (flat_map (completed d bytes []) ms) n

  among_first : (m : Node) (ms : List Node) → (has m ≡ true) ⊎ (among ms ≡ true) → among (m ∷ ms) ≡ true
  among_first m ms h = is_among-append node_number (completed d bytes [] m) (flat_map (completed d bytes []) ms) n ∙ or_true (has m) (among ms) h

  any_asked : (ks : List (Option Which)) → AnyOf Completes ks → among (nodes_of x ks) ≡ true
  any_asked [] q = absurd q
  any_asked (None ∷ ks) (inl q) = among_first (head_node x.path) (nodes_of x ks) (inl q)
  any_asked (None ∷ ks) (inr q) = among_first (head_node x.path) (nodes_of x ks) (inr (any_asked ks q))
  any_asked (Some k ∷ ks) (inl q) = ap (λ o. among (with_first o (nodes_of x ks))) q.1 ∙ among_first q.0 (nodes_of x ks) (inl q.2)
  any_asked (Some k ∷ ks) (inr q) = by (node_at x k) (any_asked ks q)
    where
      by : (o : Option Node) → among (nodes_of x ks) ≡ true → among (with_first o (nodes_of x ks)) ≡ true
      by None e = e
      by (Some m) e = among_first m (nodes_of x ks) (inr e)

  rises : Rises bytes x Completes
  rises k there q =
      let m = node_is d bytes x plain k there in (
        m.0,
        m.1,
        ap (λ ms. is_among node_number ms n) (trees_are_asked d bytes m.0 _ _ _ (tells d bytes x plain k there m.0 m.1))
            ∙ is_among-append node_number (flat_map (completed d bytes []) (nodes_of x (asked_by x k))) (m.0 ∷ []) n
            ∙ or_true (among (nodes_of x (asked_by x k))) (is_among node_number (m.0 ∷ []) n) (inl (any_asked (asked_by x k) q)),
      )

  completes_itself : (k : Which) → IsThere bytes x k → node_at x k ≡ Some n → Completes (Some k)
  completes_itself k there is = (
    n,
    is,
    ap (λ ms. is_among node_number ms n) (trees_are_asked d bytes n _ _ _ (tells d bytes x plain k there n is))
        ∙ is_among-append node_number (flat_map (completed d bytes []) (nodes_of x (asked_by x k))) (n ∷ []) n
        ∙ or_true (among (nodes_of x (asked_by x k))) (is_among node_number (n ∷ []) n) (inr (itself n)),
  )

  completes_is : (m : Which) (o : Node) → node_at x m ≡ Some o → Completes (Some m) → has o ≡ true
  completes_is m o is q = subst (λ z. has z ≡ true) (some_is q.0 o (sym q.1 ∙ is)) q.2

pub earlier_are_completed : EarlierAreCompleted
earlier_are_completed d bytes x plain k there own m late low n e is end_is =
    completes_is d bytes x plain n (ElementEnd m) e end_is
    (end_rises d bytes x plain (Completes d bytes x plain n) (rises d bytes x plain n) k there own m late low
    (completes_itself d bytes x plain n k there is))

pub up_to_are_completed : UpToAreCompleted
up_to_are_completed d bytes x plain next k m there other own own' folded up n o is was =
    completes_is d bytes x plain n m o was
    (order_rises d bytes x plain (Completes d bytes x plain n) (rises d bytes x plain n) next k m there other own own' folded up
    (completes_itself d bytes x plain n k there is))

pub values_complete : ValuesComplete
values_complete d bytes x plain k i there other own up n o is was = completes_is d bytes x plain n (SizeValue i) o was (by up)
  where
    by : (k ≡ SizeValue i) ⊎ IsUpTo x k (FieldHead i x.layout.sizer) → Completes d bytes x plain n (Some (SizeValue i))
    by (inl same) = subst (λ z. Completes d bytes x plain n (Some z)) same (completes_itself d bytes x plain n k there is)
    by (inr before) = value_rises d bytes x plain (Completes d bytes x plain n) (rises d bytes x plain n) k i there other own before
        (completes_itself d bytes x plain n k there is)
