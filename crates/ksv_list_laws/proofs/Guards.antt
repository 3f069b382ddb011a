-- A change touches the tree of a node just where it touches that of its guard, or the farthest place to which the node reads.
use Rattle.ksv_bytes.specs.declared.uses.Change.{Change}
use Rattle.ksv_bytes.specs.declared.uses.Change.TheVariants.{Overwrite, Insert, Delete, Append}
use Rattle.ksv_bytes.specs.declared.uses.Use.TheVariants as uses_are
use Rattle.ksv_rule_meaning.specs.Kept.{is_touched}
use Rattle.ksv_list_laws.proofs.Common.{◌≡◌, ◌∙◌, ℕ, zero, suc, ◌+◌, ◌-◌, ◌<◌, ◌≤◌, nat_lt, nat_le, Bool, true, false, if◌then◌else◌, ◌||◌, List, [], ◌∷◌}
use Rattle.ksv_list_laws.proofs.Common.{length, Option, Some, None, ◌⊎◌, inl, inr, refl, sym, ap, subst, arith, nat_tests, list_any, is_some, is_use_touched}
use Rattle.ksv_list_laws.proofs.Common.{Use, Description, with_first, end_in, head_node, Node, size_at, is_named_to, Listing, start, Which, ElementHead}
use Rattle.ksv_list_laws.proofs.Common.{ElementEnd, Rest, FieldHead, FieldEnd, SizeValue, node_at, nodes_of, end_uses, size_asked, last_asked, later_asked}
use Rattle.ksv_list_laws.proofs.Common.{asked_by, element_uses, uses_at, prior_guard, guard_of, end_reach, prior_reach, element_reach, reach_of, IsPlain}
use Rattle.ksv_list_laws.proofs.Common.{IsThere, MissingHead, MissingEnd}
use Rattle.ksv_list_laws.proofs.Laid.{first_size, none_named, named_more, named_here}
use Rattle.ksv_list_laws.proofs.Places.{first_some, fewer}
use Rattle.ksv_list_laws.proofs.Rising.{AnyOf, Rises, head_value, head_guard, end_later, guard_rises, reach_rises}
use Rattle.ksv_list_laws.proofs.Telling.{start_less, field_room, tells, node_is}
use Rattle.ksv_list_laws.proofs.Trees.{touched_is}
use Rattle.ksv_list_laws.proofs.Truth.{or_true, true_or, same_truth}
use Rattle.ksv_list_laws.specs.Laws.{guard_node, GuardsTell}
use Rattle.ksv_list_laws.specs.Nodes.{place, is_last, field_guard, before_missing, IsMissing}

-- ---- changes

-- a change that touches a place touches each further one, and the size
reach_more : (change : Change) (a b : ℕ) → a ≤ b → is_use_touched change (uses_are.Reach a) ≡ true → is_use_touched change (uses_are.Reach b) ≡ true
reach_more (Overwrite at n) a b le h = absurd (cc)
reach_more (Insert at n) a b le h = grind (arith, nat_tests)
reach_more (Delete at n) a b le h = grind (arith, nat_tests)
reach_more Append a b le h = absurd (cc)

size_more : (change : Change) (a : ℕ) → is_use_touched change (uses_are.Reach a) ≡ true → is_use_touched change uses_are.Size ≡ true
size_more (Overwrite at n) a h = absurd (cc)
size_more (Insert at n) a h = refl
size_more (Delete at n) a h = refl
size_more Append a h = absurd (cc)

-- ---- truth values

any_true : {A : Type 0} (p : A → Bool) (xs : List A) → AnyOf (λ a. p a ≡ true) xs → list_any p xs ≡ true
any_true p [] h = absurd h
any_true p (a ∷ xs) (inl e) = or_true (p a) (list_any p xs) (inl e)
any_true p (a ∷ xs) (inr e) = or_true (p a) (list_any p xs) (inr (any_true p xs e))

true_any : {A : Type 0} (p : A → Bool) (xs : List A) → list_any p xs ≡ true → AnyOf (λ a. p a ≡ true) xs
true_any p [] e = absurd (cc)
true_any p (a ∷ xs) e = by (true_or (p a) (list_any p xs) e) (true_any p xs)
  where
    by : (p a ≡ true) ⊎ (list_any p xs ≡ true) → (list_any p xs ≡ true → AnyOf (λ z. p z ≡ true) xs) → AnyOf (λ z. p z ≡ true) (a ∷ xs)
    by (inl h) f = inl h
    by (inr h) f = inr (f h)

module _ (d : Description) (bytes : List ℕ) (x : Listing) (plain : IsPlain d bytes x) (change : Change) where
  abbrev hit : Use → Bool
  hit u = is_use_touched change u

  -- whether the tree of such a node is touched; without a node it is the list's head
  abbrev node_touched : Option Node → Bool
  node_touched None = false
  node_touched (Some n) = is_touched d bytes change n

  abbrev touched : Option Which → Bool
  touched k = node_touched (guard_node x k)

  abbrev IsTouched : Option Which → Type 0
  IsTouched k = touched k ≡ true

  abbrev AreHit : List Use → Type 0
  AreHit us = AnyOf (λ u. hit u ≡ true) us

  any_asked : (ks : List (Option Which)) → list_any (is_touched d bytes change) (nodes_of x ks) ≡ list_any touched ks
  any_asked [] = refl
  any_asked (None ∷ ks) = ap (λ b. is_touched d bytes change (head_node x.path) || b) (any_asked ks)
  any_asked (Some k ∷ ks) = by (node_at x k) ∙ ap (λ b. node_touched (node_at x k) || b) (any_asked ks)
    where
      by : (o : Option Node) → list_any (is_touched d bytes change) (with_first o (nodes_of x ks)) ≡
          (node_touched o || list_any (is_touched d bytes change) (nodes_of x ks))
      by None = refl
      by (Some n) = refl

  -- by what a node asks and uses
  by_asks : (k : Which) → IsThere bytes x k → touched (Some k) ≡ (list_any touched (asked_by x k) || list_any hit (uses_at bytes x k))
  by_asks k there =
      let n = node_is d bytes x plain k there in
      ap node_touched n.1 ∙ touched_is d bytes change n.0 _ _ _ (tells d bytes x plain k there n.0 n.1)
      ∙ ap (λ b. b || list_any hit (uses_at bytes x k)) (any_asked (asked_by x k))

  rises : Rises bytes x IsTouched
  rises k there q = by_asks k there ∙ or_true _ _ (inl (any_true touched (asked_by x k) q))

  makes : (k : Which) → IsThere bytes x k → AreHit (uses_at bytes x k) → IsTouched (Some k)
  makes k there u = by_asks k there ∙ or_true _ _ (inr (any_true hit (uses_at bytes x k) u))

  falls : (k : Which) → IsThere bytes x k → IsTouched (Some k) → AnyOf IsTouched (asked_by x k) ⊎ AreHit (uses_at bytes x k)
  falls k there t = by (true_or _ _ (sym (by_asks k there) ∙ t))
    where
      by : (list_any touched (asked_by x k) ≡ true) ⊎ (list_any hit (uses_at bytes x k) ≡ true) → AnyOf IsTouched (asked_by x k) ⊎ AreHit (uses_at bytes x k)
      by (inl e) = inl (true_any touched (asked_by x k) e)
      by (inr e) = inr (true_any hit (uses_at bytes x k) e)

  -- ---- places

  abbrev far : ℕ → Use
  far i = end_reach x.list.count bytes x.list.stream.to (start x (suc i))

  far_from : (i : ℕ) → hit (uses_are.Reach (start x (suc i))) ≡ true → hit (far i) ≡ true
  far_from i = by x.list.count x.list.stream.to
    where
      turned : (b : Bool) → is_use_touched change (uses_are.Reach (start x (suc i))) ≡ true
          → is_use_touched change (if b then uses_are.Reach (start x (suc i) + 1) else uses_are.Size) ≡ true
      turned true h = reach_more change (start x (suc i)) (start x (suc i) + 1) (omega arith) h
      turned false h = size_more change (start x (suc i)) h

      by : (c o : Option ℕ) → is_use_touched change (uses_are.Reach (start x (suc i))) ≡ true
          → is_use_touched change (end_reach c bytes o (start x (suc i))) ≡ true
      by (Some n) o h = h
      by None (Some t) h = h
      by None None h = turned (nat_lt (start x (suc i)) (length bytes)) h

  -- what an end reads to is no further than what is read behind it
  far_to : (i z : ℕ) → start x (suc i) < z → z ≤ end_in bytes x.list.stream.to → hit (far i) ≡ true → hit (uses_are.Reach z) ≡ true
  far_to i z less room = by x.list.count x.list.stream.to room
    where
      by : (c o : Option ℕ) → z ≤ end_in bytes o → is_use_touched change (end_reach c bytes o (start x (suc i))) ≡ true
          → is_use_touched change (uses_are.Reach z) ≡ true
      by (Some n) o room' h = reach_more change (start x (suc i)) z (omega (arith, less)) h
      by None (Some t) room' h = reach_more change (start x (suc i)) z (omega (arith, less)) h
      by None None room' h =
          let is : nat_lt (start x (suc i)) (length bytes) ≡ true = grind (arith, nat_tests) in
          reach_more change (start x (suc i) + 1) z (omega (arith, less))
          (sym (ap (λ b. is_use_touched change (if b then uses_are.Reach (start x (suc i) + 1) else uses_are.Size)) is) ∙ h)

  -- what an end uses itself
  uses_far : (i : ℕ) → AreHit (uses_at bytes x (ElementEnd i)) → hit (far i) ≡ true
  uses_far i = by x.list.count x.list.stream.to
    where
      by : (c o : Option ℕ) → AnyOf (λ u. is_use_touched change u ≡ true) (end_uses c bytes o (start x (suc i)))
          → is_use_touched change (end_reach c bytes o (start x (suc i))) ≡ true
      by (Some n) o h = absurd h
      by None (Some t) h = absurd h
      by None None (inl h) = h
      by None None (inr h) = absurd h

  -- ---- each node, by what it asks

  abbrev IsGuarded : Which → Type 0
  IsGuarded k = IsTouched (guard_of x k) ⊎ AreHit (reach_of bytes x k)

  to_prior : (i : ℕ) → i < x.count → IsTouched None → IsTouched (prior_guard x (suc i))
  to_prior i low t = by (is_named_to x.layout x.layout.last) refl
    where
      by : (b : Bool) → is_named_to x.layout x.layout.last ≡ b → IsTouched (if b then Some (SizeValue i) else None)
      by true e = head_value d bytes x plain IsTouched rises i low e (rises (ElementHead i) low (inl t))
      by false e = t

  -- where none has a size by name the list's head guards all
  fixed_prior : is_named_to x.layout x.layout.last ≡ false → (i : ℕ) → prior_guard x i ≡ None
  fixed_prior e zero = refl
  fixed_prior e (suc i) = ap (λ b. if b then Some (SizeValue i) else None) e

  head_uses : (i : ℕ) (o : Option ℕ) → AreHit (element_uses o (start x (suc i))) → AreHit (element_reach bytes x o i)
  head_uses i None u = u
  head_uses i (Some t) u = absurd u

  head_from_end : (i : ℕ) → suc i < x.count → (o : Option ℕ) → hit (far i) ≡ true → AreHit (element_reach bytes x o (suc i))
  head_from_end i low (Some t) h = inl h
  head_from_end i low None h = inl (far_to i (start x (suc (suc i))) (start_less d bytes x plain (suc i)) (plain.whole (suc i) low).room h)

  module _ (i : ℕ) (low : i < x.count) (head : IsTouched (Some (ElementHead i)) → IsGuarded (ElementHead i)) where
    -- ---- fields

    module _ (some : is_some x.layout.type_number ≡ true) where
      reach_field : (n j : ℕ) → n < x.count → j ≤ x.layout.last → (o : Option ℕ) → is_some o ≡ true → AreHit (element_reach bytes x o n)
          → hit (uses_are.Reach (place x n (suc j))) ≡ true
      reach_field n j low' few None e h = absurd (cc)
      reach_field zero j low' few (Some t) e h = absurd h
      reach_field (suc n) j low' few (Some t) e (inl h) =
          let first = first_size d x.list x.layout plain.laid in
          far_to n (place x (suc n) (suc j)) (first_some x.layout (x.says (suc n)) (start x (suc n)) first.0 j first.1 first.2)
          (field_room d bytes x plain (suc n) j low' few) h
      reach_field (suc n) j low' few (Some t) e (inr h) = absurd h

      head_field : (j : ℕ) → j ≤ x.layout.last → IsTouched (Some (ElementHead i)) → IsGuarded (FieldHead i j)
      head_field j few t = by (is_named_to x.layout j) refl (head t)
        where
          by : (b : Bool) → is_named_to x.layout j ≡ b → IsGuarded (ElementHead i)
              → IsTouched (if b then Some (SizeValue i) else prior_guard x i) ⊎ AreHit (reach_of bytes x (FieldHead i j))
          by true e h = inl (head_value d bytes x plain IsTouched rises i low (named_more x.layout j x.layout.last few e) t)
          by false e (inl g) = inl g
          by false e (inr u) = inr (inl (reach_field i j low few x.layout.type_number some u))

      sized_field : (j : ℕ) → AnyOf IsTouched (size_asked i (size_at x.layout j)) → IsTouched (field_guard x i j)
      sized_field j h = by (size_at x.layout j) refl h
        where
          by : (o : Option ℕ) → size_at x.layout j ≡ o → AnyOf IsTouched (size_asked i o) → IsTouched (field_guard x i j)
          by (Some n) e h' = absurd h'
          by None e (inl v) = subst (λ b. IsTouched (if b then Some (SizeValue i) else prior_guard x i)) (sym (named_here x.layout j e)) v
          by None e (inr v) = absurd v

      guard_next : (j : ℕ) → suc j ≤ x.layout.last → IsTouched (field_guard x i j) → IsTouched (field_guard x i (suc j))
      guard_next j few t = by (is_named_to x.layout (suc j)) refl
        where
          before : (b : Bool) → IsTouched (if b then Some (SizeValue i) else prior_guard x i) → is_named_to x.layout (suc j) ≡ true
              → IsTouched (Some (SizeValue i))
          before true g e = g
          before false g e = head_value d bytes x plain IsTouched rises i low (named_more x.layout (suc j) x.layout.last few e)
              (head_guard d bytes x plain IsTouched rises i low g)

          none : (b : Bool) → is_named_to x.layout j ≡ b → is_named_to x.layout (suc j) ≡ false
              → IsTouched (if b then Some (SizeValue i) else prior_guard x i)
              → IsTouched (prior_guard x i)
          none true e f g = absurd (let never : true ≡ false = sym (named_more x.layout j (suc j) (omega arith) e) ∙ f in cc)
          none false e f g = g

          by : (b : Bool) → is_named_to x.layout (suc j) ≡ b → IsTouched (if b then Some (SizeValue i) else prior_guard x i)
          by true e = before (is_named_to x.layout j) t e
          by false e = none (is_named_to x.layout j) refl e t

      field_falls : (j : ℕ) → j ≤ x.layout.last → IsTouched (Some (FieldHead i j)) → IsGuarded (FieldHead i j)
      field_falls zero few t = by (falls (FieldHead i 0) (low, few, some) t)
        where
          by : AnyOf IsTouched (asked_by x (FieldHead i 0)) ⊎ AreHit (uses_at bytes x (FieldHead i 0)) → IsGuarded (FieldHead i 0)
          by (inl (inl h)) = head_field 0 few h
          by (inl (inr h)) = inl (sized_field 0 h)
          by (inr u) = inr u
      field_falls (suc j) few t = by (falls (FieldHead i (suc j)) (low, few, some) t)
          (λ h. before (falls (FieldEnd i j) (low, omega (arith, few), some) h) (field_falls j (omega (arith, few))))
        where
          next : IsGuarded (FieldHead i j) → IsGuarded (FieldHead i (suc j))
          next (inl g) = inl (guard_next j few g)
          next (inr (inl u)) = inr (inl (reach_more change (place x i (suc j)) (place x i (suc (suc j))) (omega arith) u))
          next (inr (inr u)) = absurd u

          before : AnyOf IsTouched (asked_by x (FieldEnd i j)) ⊎ AreHit (uses_at bytes x (FieldEnd i j))
              → (IsTouched (Some (FieldHead i j)) → IsGuarded (FieldHead i j))
              → IsGuarded (FieldHead i (suc j))
          before (inl (inl h)) f = next (f h)
          before (inl (inr h)) f = absurd h
          before (inr u) f = absurd u

          by : AnyOf IsTouched (asked_by x (FieldHead i (suc j))) ⊎ AreHit (uses_at bytes x (FieldHead i (suc j)))
              → (IsTouched (Some (FieldEnd i j)) → IsGuarded (FieldHead i (suc j)))
              → IsGuarded (FieldHead i (suc j))
          by (inl (inl h)) f = head_field (suc j) few h
          by (inl (inr (inl h))) f = f h
          by (inl (inr (inr h))) f = inl (sized_field (suc j) h)
          by (inr u) f = inr u

      field_end_falls : (j : ℕ) → j ≤ x.layout.last → IsTouched (Some (FieldEnd i j)) → IsGuarded (FieldEnd i j)
      field_end_falls j few t = by (falls (FieldEnd i j) (low, few, some) t)
        where
          by : AnyOf IsTouched (asked_by x (FieldEnd i j)) ⊎ AreHit (uses_at bytes x (FieldEnd i j)) → IsGuarded (FieldEnd i j)
          by (inl (inl h)) = field_falls j few h
          by (inl (inr h)) = absurd h
          by (inr u) = absurd u

    -- ---- the end of an element

    prior_of : is_named_to x.layout x.layout.last ≡ false → IsTouched (prior_guard x i) → IsTouched (prior_guard x (suc i))
    prior_of e t = subst IsTouched (sym (fixed_prior e (suc i))) (subst IsTouched (fixed_prior e i) t)

    last_falls : is_some x.layout.type_number ≡ true → IsGuarded (FieldHead i x.layout.last) → IsGuarded (ElementEnd i)
    last_falls some (inl g) = by (is_named_to x.layout x.layout.last) refl g
      where
        by : (b : Bool) → is_named_to x.layout x.layout.last ≡ b → IsTouched (if b then Some (SizeValue i) else prior_guard x i) → IsGuarded (ElementEnd i)
        by true e h = inl (subst (λ b. IsTouched (if b then Some (SizeValue i) else None)) (sym e) h)
        by false e h = inl (prior_of e h)
    last_falls some (inr (inl u)) = inr (inl (far_from i u))
    last_falls some (inr (inr u)) = absurd u

    end_head : (o : Option ℕ) → x.layout.type_number ≡ o → IsTouched (Some (ElementHead i)) → IsGuarded (ElementEnd i)
    end_head (Some t) e h = let some : is_some x.layout.type_number ≡ true = ap is_some e in last_falls some (head_field some x.layout.last (omega arith) h)
    end_head None e h = by (head h)
      where
        reach : AreHit (element_reach bytes x None i) → IsGuarded (ElementEnd i)
        reach (inl u) = inr (inl (far_from i u))
        reach (inr u) = absurd u

        by : IsGuarded (ElementHead i) → IsGuarded (ElementEnd i)
        by (inl g) = inl (prior_of (none_named d x.list x.layout plain.laid e) g)
        by (inr u) = reach (subst (λ o. AreHit (element_reach bytes x o i)) e u)

    end_falls : IsTouched (Some (ElementEnd i)) → IsGuarded (ElementEnd i)
    end_falls t = by (falls (ElementEnd i) low t)
      where
        last_by : (o : Option ℕ) → x.layout.type_number ≡ o → AnyOf IsTouched (last_asked o i x.layout.last) → IsGuarded (ElementEnd i)
        last_by None e (inl h) = inl (to_prior i low h)
        last_by None e (inr h) = absurd h
        last_by (Some k) e (inl h) = let some : is_some x.layout.type_number ≡ true = ap is_some e in
            last_falls some (field_end_falls some x.layout.last (omega arith) h)
        last_by (Some k) e (inr (inl h)) = inl (to_prior i low h)
        last_by (Some k) e (inr (inr h)) = absurd h

        by : AnyOf IsTouched (asked_by x (ElementEnd i)) ⊎ AreHit (uses_at bytes x (ElementEnd i)) → IsGuarded (ElementEnd i)
        by (inl (inl h)) = end_head x.layout.type_number refl h
        by (inl (inr h)) = last_by x.layout.type_number refl h
        by (inr u) = inr (inl (uses_far i u))

  head_falls : (i : ℕ) → i < x.count → IsTouched (Some (ElementHead i)) → IsGuarded (ElementHead i)
  head_falls zero low t = by (falls (ElementHead 0) low t)
    where
      by : AnyOf IsTouched (asked_by x (ElementHead 0)) ⊎ AreHit (uses_at bytes x (ElementHead 0)) → IsGuarded (ElementHead 0)
      by (inl (inl h)) = inl h
      by (inl (inr h)) = absurd h
      by (inr u) = inr (head_uses 0 x.layout.type_number u)
  head_falls (suc i) low t = by (falls (ElementHead (suc i)) low t) (end_falls i (omega (arith, low)) (head_falls i (omega (arith, low))))
    where
      before : IsGuarded (ElementEnd i) → IsGuarded (ElementHead (suc i))
      before (inl g) = inl g
      before (inr (inl u)) = inr (head_from_end i low x.layout.type_number u)
      before (inr (inr u)) = absurd u

      by : AnyOf IsTouched (asked_by x (ElementHead (suc i))) ⊎ AreHit (uses_at bytes x (ElementHead (suc i)))
          → (IsTouched (Some (ElementEnd i)) → IsGuarded (ElementEnd i))
          → IsGuarded (ElementHead (suc i))
      by (inl (inl h)) f = inl (to_prior i (omega (arith, low)) h)
      by (inl (inr (inl h))) f = before (f h)
      by (inl (inr (inr h))) f = absurd h
      by (inr u) f = inr (head_uses (suc i) x.layout.type_number u)

  -- ---- rests

  -- by the end, or the rest behind it
  rest_splits : (i m : ℕ) → m < x.count → IsThere bytes x (Rest i) → IsTouched (Some (Rest i))
      → IsTouched (Some (ElementEnd m)) ⊎ AnyOf IsTouched (Some (ElementEnd i) ∷ later_asked x.count i)
  rest_splits zero m last there t = by (falls (Rest 0) there t)
    where
      by : AnyOf IsTouched (asked_by x (Rest 0)) ⊎ AreHit (uses_at bytes x (Rest 0))
          → IsTouched (Some (ElementEnd m)) ⊎ AnyOf IsTouched (Some (ElementEnd 0) ∷ later_asked x.count 0)
      by (inl (inl h)) = inl (rises (ElementEnd m) last (inl (rises (ElementHead m) last (inl h))))
      by (inl (inr h)) = inr h
      by (inr u) = absurd u
  rest_splits (suc i) m last there t = by (falls (Rest (suc i)) there t)
    where
      by : AnyOf IsTouched (asked_by x (Rest (suc i))) ⊎ AreHit (uses_at bytes x (Rest (suc i)))
          → IsTouched (Some (ElementEnd m)) ⊎ AnyOf IsTouched (Some (ElementEnd (suc i)) ∷ later_asked x.count (suc i))
      by (inl h) = inr h
      by (inr u) = absurd u

  rest_falls : (k i m : ℕ) → i + k ≡ m → x.count ≡ suc m → is_last bytes x (x.count - 1) ≡ true → IsTouched (Some (Rest i)) → IsTouched (Some (ElementEnd m))
  rest_falls zero i m sum counted full t = by (rest_splits i m (omega (arith, counted)) (omega (arith, sum, counted), full) t)
    where
      by : IsTouched (Some (ElementEnd m)) ⊎ AnyOf IsTouched (Some (ElementEnd i) ∷ later_asked x.count i) → IsTouched (Some (ElementEnd m))
      by (inl h) = h
      by (inr (inl h)) = end_later d bytes x plain IsTouched rises 0 i m sum (omega (arith, counted)) h
      by (inr (inr h)) = let none : nat_le x.count (suc i) ≡ true = grind (arith, nat_tests) in
          absurd (subst (λ b. AnyOf IsTouched (if b then [] else Some (Rest (suc i)) ∷ [])) none h)
  rest_falls (suc k) i m sum counted full t = by (rest_splits i m (omega (arith, counted)) (omega (arith, sum, counted), full) t)
      (rest_falls k (suc i) m (omega (arith, sum)) counted full)
    where
      next : AnyOf IsTouched (Some (Rest (suc i)) ∷ []) → (IsTouched (Some (Rest (suc i))) → IsTouched (Some (ElementEnd m)))
          → IsTouched (Some (ElementEnd m))
      next (inl h) f = f h
      next (inr h) f = absurd h

      by : IsTouched (Some (ElementEnd m)) ⊎ AnyOf IsTouched (Some (ElementEnd i) ∷ later_asked x.count i)
          → (IsTouched (Some (Rest (suc i))) → IsTouched (Some (ElementEnd m)))
          → IsTouched (Some (ElementEnd m))
      by (inl h) f = h
      by (inr (inl h)) f = end_later d bytes x plain IsTouched rises (suc k) i m sum (omega (arith, counted)) h
      by (inr (inr h)) f = let more : nat_le x.count (suc i) ≡ false = grind (arith, nat_tests) in
          next (subst (λ b. AnyOf IsTouched (if b then [] else Some (Rest (suc i)) ∷ [])) more h) f

  -- ---- what isn't there

  abbrev last_end : Option Which
  last_end = Some (ElementEnd (x.count - 1))

  -- by the list's head, which the last end asks, too, or the end before
  missing_splits : (k : ℕ) → IsMissing bytes x k → IsTouched (Some (MissingHead k)) → IsTouched last_end ⊎ IsTouched (Some (before_missing x k))
  missing_splits k there t = by (falls (MissingHead k) there t)
    where
      low : x.count - 1 < x.count
      low = let some = there.some in omega (arith, some)

      by : AnyOf IsTouched (asked_by x (MissingHead k)) ⊎ AreHit (uses_at bytes x (MissingHead k))
          → IsTouched last_end ⊎ IsTouched (Some (before_missing x k))
      by (inl (inl h)) = inl (rises (ElementEnd (x.count - 1)) low (inl (rises (ElementHead (x.count - 1)) low (inl h))))
      by (inl (inr (inl h))) = inr h
      by (inl (inr (inr h))) = absurd h
      by (inr u) = absurd u

  missing_end_falls : (k : ℕ) → IsMissing bytes x k → IsTouched (Some (MissingEnd k)) → IsTouched (Some (MissingHead k))
  missing_end_falls k there t = by (falls (MissingEnd k) there t)
    where
      by : AnyOf IsTouched (asked_by x (MissingEnd k)) ⊎ AreHit (uses_at bytes x (MissingEnd k)) → IsTouched (Some (MissingHead k))
      by (inl (inl h)) = h
      by (inl (inr h)) = absurd h
      by (inr u) = absurd u

  missing_falls : (k : ℕ) → IsMissing bytes x k → IsTouched (Some (MissingHead k)) → IsTouched last_end
  missing_falls zero there t = by (missing_splits zero there t)
    where
      by : IsTouched last_end ⊎ IsTouched last_end → IsTouched last_end
      by (inl h) = h
      by (inr h) = h
  missing_falls (suc k) there t = by (missing_splits (suc k) there t) (λ h. missing_falls k (fewer there) (missing_end_falls k (fewer there) h))
    where
      by : IsTouched last_end ⊎ IsTouched (Some (MissingEnd k)) → (IsTouched (Some (MissingEnd k)) → IsTouched last_end) → IsTouched last_end
      by (inl h) f = h
      by (inr h) f = f h

  -- ---- all nodes

  -- behind all elements the guard and the place are those of the last end
  last_falls_to : 0 < x.count → IsTouched last_end → IsTouched (prior_guard x x.count) ⊎ AreHit (prior_reach bytes x x.count)
  last_falls_to low t =
      let counted : x.count ≡ suc (x.count - 1) = omega (arith, low) in
      let last : x.count - 1 < x.count = omega (arith, low) in
      subst (λ n. IsTouched (prior_guard x n) ⊎ AreHit (prior_reach bytes x n)) (sym counted) (end_falls (x.count - 1) last (head_falls (x.count - 1) last) t)

  all_fall : (k : Which) → IsThere bytes x k → IsTouched (Some k) → IsGuarded k
  all_fall (ElementHead i) there t = head_falls i there t
  all_fall (ElementEnd i) there t = end_falls i there (head_falls i there) t
  all_fall (Rest i) there t =
      let low = there.0 in
      let counted : x.count ≡ suc (x.count - 1) = omega (arith, low) in
      last_falls_to (omega (arith, low)) (rest_falls (x.count - 1 - i) i (x.count - 1) (omega (arith, low)) counted there.1 t)
  all_fall (FieldHead i j) there t = field_falls i there.0 (head_falls i there.0) there.2 j there.1 t
  all_fall (FieldEnd i j) there t = field_end_falls i there.0 (head_falls i there.0) there.2 j there.1 t
  all_fall (SizeValue i) there t = inl t
  all_fall (MissingHead k) there t = last_falls_to there.some (missing_falls k there t)
  all_fall (MissingEnd k) there t = last_falls_to there.some (missing_falls k there (missing_end_falls k there t))

  all_rise : (k : Which) → IsThere bytes x k → IsGuarded k → IsTouched (Some k)
  all_rise k there (inl g) = guard_rises d bytes x plain IsTouched rises k there g
  all_rise k there (inr u) = reach_rises d bytes x plain IsTouched rises (λ u'. hit u' ≡ true) makes k there u

  guarded : (k : Which) → IsThere bytes x k → touched (Some k) ≡ (touched (guard_of x k) || list_any hit (reach_of bytes x k))
  guarded k there = same_truth (touched (Some k)) (touched (guard_of x k) || list_any hit (reach_of bytes x k)) (λ t. there_is (all_fall k there t))
      (λ t. back (true_or _ _ t))
    where
      there_is : IsGuarded k → (touched (guard_of x k) || list_any hit (reach_of bytes x k)) ≡ true
      there_is (inl g) = or_true _ _ (inl g)
      there_is (inr u) = or_true _ _ (inr (any_true hit (reach_of bytes x k) u))

      back : (touched (guard_of x k) ≡ true) ⊎ (list_any hit (reach_of bytes x k) ≡ true) → IsTouched (Some k)
      back (inl g) = all_rise k there (inl g)
      back (inr u) = all_rise k there (inr (true_any hit (reach_of bytes x k) u))

pub guards_tell : GuardsTell
guards_tell d bytes x plain k there n m is guard change =
    sym (ap (node_touched d bytes x plain change) is) ∙ guarded d bytes x plain change k there
    ∙ ap (λ o. node_touched d bytes x plain change o || list_any (is_use_touched change) (reach_of bytes x k)) guard
