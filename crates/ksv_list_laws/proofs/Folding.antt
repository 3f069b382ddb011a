-- An entry with a node's guard and the farthest place to which it reads stands in for the node.
use Rattle.std.proofs.Common.{length-append, Contains}
use Rattle.std.proofs.lemmas.List.Elements.{All-from_recursion, All-contains, Contains-get_or, Contains-append_left, Contains-append_right}
use Rattle.ksv_bytes.specs.declared.uses.Use.TheVariants as uses_are
use Rattle.ksv_memo_rules.specs.Evaluation.{tells}
use Rattle.ksv_memo_rules.specs.Touched.{tree}
use Rattle.ksv_memo_rules.specs.Touched as engines
use Rattle.ksv_rule_meaning.proofs.Completing.{touch_direct}
use Rattle.ksv_list_laws.proofs.Common.{◌≡◌, ◌∙◌, ℕ, zero, suc, ◌+◌, ◌<◌, ◌≤◌, nat_lt, Bool, true, false, if◌then◌else◌, ◌||◌, List, [], ◌∷◌, length, Option}
use Rattle.ksv_list_laws.proofs.Common.{Some, None, Result, ◌⊎◌, inl, inr, refl, sym, ap, subst, arith, AllByRecursion, flat_map, list_any, is_use_touched}
use Rattle.ksv_list_laws.proofs.Common.{Use, Fault, Description, is_among, Standing, on, with_first, node_number, Given, Node, described, is_named_to}
use Rattle.ksv_list_laws.proofs.Common.{Listing, start, Which, ElementHead, ElementEnd, Rest, FieldHead, FieldEnd, SizeValue, node_at, nodes_of, end_uses}
use Rattle.ksv_list_laws.proofs.Common.{asked_by, element_uses, uses_at, prior_guard, guard_of, end_reach, prior_reach, element_reach, reach_of, IsPlain}
use Rattle.ksv_list_laws.proofs.Common.{IsThere, MissingHead, MissingEnd}
use Rattle.ksv_list_laws.proofs.Entries.{Known, known, single_once}
use Rattle.ksv_list_laws.proofs.Guards.{guards_tell}
use Rattle.ksv_list_laws.proofs.Rising.{AnyOf, Rises, guard_rises, reach_rises}
use Rattle.ksv_list_laws.proofs.Telling.{node_is}
use Rattle.ksv_list_laws.proofs.Telling as telling
use Rattle.ksv_list_laws.specs.Laws.{guard_node, IsSingle, is_folded, FoldedStandIn}
use Rattle.ksv_list_laws.specs.Nodes.{answer_at}

-- ---- uses that are places

abbrev IsPlace : Use → Type 0
IsPlace (uses_are.Bytes from to) = ⊥
IsPlace _ = Unit {0}

no_bytes : (us : List Use) (from to : ℕ) → AllByRecursion IsPlace us → Contains us (uses_are.Bytes from to) → ⊥
no_bytes us from to all h = All-contains IsPlace us (uses_are.Bytes from to) (All-from_recursion IsPlace us all) h

or_out : (a b : Bool) → (a || b) ≡ (b || (a || false))
or_out true true = refl
or_out true false = refl
or_out false true = refl
or_out false false = refl

module _ (d : Description) (bytes : List ℕ) (x : Listing) (plain : IsPlain d bytes x) where
  either : (b : Bool) (z : ℕ) → IsPlace (if b then uses_are.Reach (z + 1) else uses_are.Size)
  either true z = tt
  either false z = tt

  reach_place : (c o : Option ℕ) (z : ℕ) → IsPlace (end_reach c bytes o z)
  reach_place (Some n) o z = tt
  reach_place None (Some t) z = tt
  reach_place None None z = either (nat_lt z (length bytes)) z

  prior_places : (i : ℕ) → AllByRecursion IsPlace (prior_reach bytes x i)
  prior_places zero = tt
  prior_places (suc i) = (reach_place x.list.count x.list.stream.to (start x (suc i)), tt)

  reach_places : (k : Which) → AllByRecursion IsPlace (reach_of bytes x k)
  reach_places (ElementHead i) = by x.layout.type_number
    where
      by : (o : Option ℕ) → AllByRecursion IsPlace (element_reach bytes x o i)
      by None = (tt, tt)
      by (Some t) = prior_places i
  reach_places (ElementEnd i) = prior_places (suc i)
  reach_places (Rest i) = prior_places x.count
  reach_places (FieldHead i j) = (tt, tt)
  reach_places (FieldEnd i j) = (tt, tt)
  reach_places (SizeValue i) = tt
  reach_places (MissingHead k) = prior_places x.count
  reach_places (MissingEnd k) = prior_places x.count

  use_places : (k : Which) → is_folded k ≡ true → AllByRecursion IsPlace (uses_at bytes x k)
  use_places (ElementHead i) h = by x.layout.type_number
    where
      by : (o : Option ℕ) → AllByRecursion IsPlace (element_uses o (start x (suc i)))
      by None = (tt, tt)
      by (Some t) = tt
  use_places (ElementEnd i) h = by x.list.count x.list.stream.to
    where
      by : (c o : Option ℕ) → AllByRecursion IsPlace (end_uses c bytes o (start x (suc i)))
      by (Some n) o = tt
      by None (Some t) = tt
      by None None = (either (nat_lt (start x (suc i)) (length bytes)) (start x (suc i)), tt)
  use_places (Rest i) h = tt
  use_places (FieldHead i j) h = (tt, tt)
  use_places (FieldEnd i j) h = tt
  use_places (SizeValue i) h = absurd (cc)
  use_places (MissingHead k) h = tt
  use_places (MissingEnd k) h = tt

  prior_single : (i : ℕ) → IsSingle (prior_reach bytes x i)
  prior_single zero = tt
  prior_single (suc i) = tt

  reach_single : (k : Which) → IsSingle (reach_of bytes x k)
  reach_single (ElementHead i) = by x.layout.type_number
    where
      by : (o : Option ℕ) → IsSingle (element_reach bytes x o i)
      by None = tt
      by (Some t) = prior_single i
  reach_single (ElementEnd i) = tt
  reach_single (Rest i) = prior_single x.count
  reach_single (FieldHead i j) = tt
  reach_single (FieldEnd i j) = tt
  reach_single (SizeValue i) = tt
  reach_single (MissingHead k) = prior_single x.count
  reach_single (MissingEnd k) = prior_single x.count

  -- ---- trees

  abbrev w : Standing Node (Result Given Fault)
  w = on (described d) bytes

  abbrev node_tree : Option Node → List Node
  node_tree None = []
  node_tree (Some n) = tree w n

  abbrev tree_of : Option Which → List Node
  tree_of k = node_tree (guard_node x k)

  own : (k : Which) → IsThere bytes x k → (n : Node) → node_at x k ≡ Some n
      → Known d bytes n (answer_at bytes x k) (nodes_of x (asked_by x k)) (uses_at bytes x k)
  own k there n is = known d bytes n _ _ _ (telling.tells d bytes x plain k there n is)

  -- the trees of what is asked are in those of the nodes that ask
  among : (P : Node → Type 0) (ks : List (Option Which)) → AnyOf (λ k. (m : Node) × Contains (tree_of k) m × P m) ks → (m : Node)
      × Contains (flat_map (tree w) (nodes_of x ks)) m × P m
  among P [] h = absurd h
  among P (None ∷ ks) (inl h) = (h.0, Contains-append_left _ _ h.0 h.1, h.2)
  among P (None ∷ ks) (inr h) = let r = among P ks h in (r.0, Contains-append_right _ _ r.0 r.1, r.2)
  among P (Some k ∷ ks) h = by (node_at x k) h (among P ks)
    where
      by : (o : Option Node) → ((m : Node) × Contains (node_tree o) m × P m) ⊎ AnyOf (λ k'. (m : Node) × Contains (tree_of k') m × P m) ks
          → (AnyOf (λ k'. (m : Node) × Contains (tree_of k') m × P m) ks → (m : Node) × Contains (flat_map (tree w) (nodes_of x ks)) m × P m) → (m : Node)
          × Contains (flat_map (tree w) (with_first o (nodes_of x ks))) m × P m
      by None (inl h') f = absurd (let none = h'.1.1 in omega (arith, none))
      by None (inr h') f = f h'
      by (Some n) (inl h') f = (h'.0, Contains-append_left _ _ h'.0 h'.1, h'.2)
      by (Some n) (inr h') f = let r = f h' in (r.0, Contains-append_right _ _ r.0 r.1, r.2)

  -- each place to which a node reads is used in its tree
  made : (u : Use) (k : Which) → IsThere bytes x k → AnyOf (λ v. v ≡ u) (reach_of bytes x k) → (m : Node) × Contains (tree_of (Some k)) m
      × Contains (tells w [] m).uses u
  made u k there h = reach_rises d bytes x plain (λ j. (m : Node) × Contains (tree_of j) m × Contains (tells w [] m).uses u) rises
      (λ v. v ≡ u) makes k there h
    where
      rises : Rises bytes x (λ j. (m : Node) × Contains (tree_of j) m × Contains (tells w [] m).uses u)
      rises j there' a =
          let n = node_is d bytes x plain j there' in
          let r = among (λ m. Contains (tells w [] m).uses u) (asked_by x j) a in (
            r.0,
            subst (λ o. Contains (node_tree o) r.0) (sym n.1) (subst (λ ms. Contains ms r.0) (sym (own j there' n.0 n.1).whole)
                (Contains-append_left _ _ r.0 r.1)),
            r.2,
          )

      uses_in : (us : List Use) → AnyOf (λ v. v ≡ u) us → Contains us u
      uses_in [] h' = absurd h'
      uses_in (v ∷ us) (inl e) = subst (λ z. Contains (v ∷ us) z) e (Contains-get_or (v ∷ us) 0 v (omega arith))
      uses_in (v ∷ us) (inr h') = Contains-append_right (v ∷ []) us u (uses_in us h')

      makes : (j : Which) → IsThere bytes x j → AnyOf (λ v. v ≡ u) (uses_at bytes x j) → (m : Node) × Contains (tree_of (Some j)) m
          × Contains (tells w [] m).uses u
      makes j there' a =
          let n = node_is d bytes x plain j there' in
          let o = own j there' n.0 n.1 in
          (n.0, subst (λ z. Contains (node_tree z) n.0) (sym n.1) o.own, (o.used u).1 (uses_in (uses_at bytes x j) a))

  -- ---- a guard's tree is smaller

  abbrev size : Option Which → ℕ
  size k = length (tree_of k)

  module _ (g : Option Which) where
    abbrev Below : Option Which → Type 0
    Below k = (k ≡ g) ⊎ (size g < size k)

    below_asked : (big : ℕ) (ks : List (Option Which)) → 0 < big → AllByRecursion (λ m. length (tree w m) < big) (nodes_of x ks) → AnyOf Below ks
        → size g < big
    below_asked big [] some all h = absurd h
    below_asked big (None ∷ ks) some all (inl (inl e)) = let lt = all.0 in let same = ap size e in omega (arith, lt, same)
    below_asked big (None ∷ ks) some all (inl (inr e)) = let lt = all.0 in omega (arith, lt, e)
    below_asked big (None ∷ ks) some all (inr h) = below_asked big ks some all.1 h
    below_asked big (Some k ∷ ks) some all h = by (node_at x k) refl all h (below_asked big ks some)
      where
        by : (o : Option Node) → node_at x k ≡ o → AllByRecursion (λ m. length (tree w m) < big) (with_first o (nodes_of x ks))
            → Below (Some k) ⊎ AnyOf Below ks
            → (AllByRecursion (λ m. length (tree w m) < big) (nodes_of x ks) → AnyOf Below ks → size g < big) → size g < big
        by None e all' (inl (inl h')) f = let same = ap size (sym h') in let none = ap (λ o. length (node_tree o)) e in omega (arith, same, none, some)
        by None e all' (inl (inr h')) f = let none = ap (λ o. length (node_tree o)) e in absurd (omega (arith, none, h'))
        by None e all' (inr h') f = f all' h'
        by (Some n) e all' (inl (inl h')) f = let same = ap size (sym h') in let own_size = ap (λ o. length (node_tree o)) e in let lt = all'.0 in
            omega (arith, same, own_size, lt)
        by (Some n) e all' (inl (inr h')) f = let own_size = ap (λ o. length (node_tree o)) e in let lt = all'.0 in omega (arith, own_size, lt, h')
        by (Some n) e all' (inr h') f = f all'.1 h'

    below_rises : Rises bytes x Below
    below_rises k there a =
        let n = node_is d bytes x plain k there in
        let o = own k there n.0 n.1 in
        let whole = ap length o.whole in
        let parts = length-append (flat_map (tree w) (nodes_of x (asked_by x k))) (n.0 ∷ []) in
        let lt = below_asked (length (tree w n.0)) (asked_by x k) (omega (arith, whole, parts)) o.lower a in
        let same = ap (λ z. length (node_tree z)) n.1 in inr (omega (arith, lt, same))

  -- the list's head, and values that say sizes, are guards; nothing else is
  abbrev is_guard : Option Which → Bool
  is_guard None = true
  is_guard (Some (SizeValue i)) = true
  is_guard (Some _) = false

  guard_value : (b : Bool) (i : ℕ) (o : Option Which) → is_guard o ≡ true → is_guard (if b then Some (SizeValue i) else o) ≡ true
  guard_value true i o h = refl
  guard_value false i o h = h

  prior_is_guard : (i : ℕ) → is_guard (prior_guard x i) ≡ true
  prior_is_guard zero = refl
  prior_is_guard (suc i) = guard_value (is_named_to x.layout x.layout.last) i None refl

  guard_is_guard : (k : Which) → is_guard (guard_of x k) ≡ true
  guard_is_guard (ElementHead i) = prior_is_guard i
  guard_is_guard (ElementEnd i) = prior_is_guard (suc i)
  guard_is_guard (Rest i) = prior_is_guard x.count
  guard_is_guard (FieldHead i j) = guard_value (is_named_to x.layout j) i (prior_guard x i) (prior_is_guard i)
  guard_is_guard (FieldEnd i j) = guard_value (is_named_to x.layout j) i (prior_guard x i) (prior_is_guard i)
  guard_is_guard (SizeValue i) = refl
  guard_is_guard (MissingHead k) = prior_is_guard x.count
  guard_is_guard (MissingEnd k) = prior_is_guard x.count

  folded_is_none : (k : Which) → is_folded k ≡ true → is_guard (Some k) ≡ false
  folded_is_none (SizeValue i) h = absurd (cc)
  folded_is_none _ h = refl

  smaller : (k : Which) → IsThere bytes x k → is_folded k ≡ true → size (guard_of x k) < size (Some k)
  smaller k there h = by (guard_rises d bytes x plain (Below (guard_of x k)) (below_rises (guard_of x k)) k there (inl refl))
    where
      by : Below (guard_of x k) (Some k) → size (guard_of x k) < size (Some k)
      by (inl e) = absurd (let never : false ≡ true = sym (folded_is_none k h) ∙ ap is_guard e ∙ guard_is_guard k in cc)
      by (inr lt) = lt

  -- ---- it asks something

  some_asked : (k : Which) (ks : List (Option Which)) → IsThere bytes x k → 1 ≤ length (nodes_of x (Some k ∷ ks))
  some_asked k ks there = let n = node_is d bytes x plain k there in let same = ap (λ o. length (with_first o (nodes_of x ks))) n.1 in omega (arith, same)

  asks_some : (k : Which) → IsThere bytes x k → 1 ≤ length (nodes_of x (asked_by x k))
  asks_some (ElementHead i) there = omega arith
  asks_some (ElementEnd i) there = some_asked (ElementHead i) _ there
  asks_some (Rest zero) there = omega arith
  asks_some (Rest (suc i)) there = some_asked (ElementEnd (suc i)) _ there.0
  asks_some (FieldHead i j) there = some_asked (ElementHead i) _ there.0
  asks_some (FieldEnd i j) there = some_asked (FieldHead i j) [] there
  asks_some (SizeValue i) there = some_asked (FieldHead i x.layout.sizer) [] there.0
  asks_some (MissingHead k) there = omega arith
  asks_some (MissingEnd k) there = some_asked (MissingHead k) [] there

pub folded_stand_in : FoldedStandIn
folded_stand_in d bytes x plain k there folded n m is guard kept all named =
    let o = own d bytes x plain k there n is in
    let lt = smaller d bytes x plain k there folded in
    let low = ap (λ z. length (node_tree d bytes x plain z)) guard in
    let high = ap (λ z. length (node_tree d bytes x plain z)) is in
    let asks = asks_some d bytes x plain k there in
    record {
      outcome = o.outcome;
      closed = subst (AllByRecursion (λ z. is_among node_number kept z ≡ true)) (sym o.asked) all;
      named = (named, tt);
      lower = (omega (arith, lt, low, high), tt);
      touched = λ change. touch_direct d bytes change n ∙ guards_tell d bytes x plain k there n m is guard change
          ∙ ap (λ b. b || list_any (is_use_touched change) (reach_of bytes x k)) (sym (touch_direct d bytes change m))
          ∙ or_out (engines.is_touched (on (described d) bytes) change m) (list_any (is_use_touched change) (reach_of bytes x k));
      few = (let same = ap length o.asked in omega (arith, asks, same));
      once = single_once (reach_of bytes x k) (reach_single d bytes x plain k);
      bytes = λ from to. (
        (λ h. absurd (no_bytes (reach_of bytes x k) from to (reach_places d bytes x plain k) h)),
        (λ h. absurd (no_bytes (uses_at bytes x k) from to (use_places d bytes x plain k folded) ((o.used (uses_are.Bytes from to)).0 h))),
      );
      made = each (reach_of bytes x k) (λ u h. (let r = made d bytes x plain u k there h in
          let c : Contains (tree (on (described d) bytes) n) r.0 = subst (λ z. Contains (node_tree d bytes x plain z) r.0) is r.1 in
          (c.0, r.0, c.1, c.2, r.2)));
    }
  where
    each : {P : Use → Type 0} (us : List Use) → ((u : Use) → AnyOf (λ v. v ≡ u) us → P u) → AllByRecursion P us
    each [] f = tt
    each (u ∷ us) f = (f u (inl refl), each us (λ v h. f v (inr h)))
