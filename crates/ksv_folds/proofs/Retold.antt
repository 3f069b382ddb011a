-- The nodes of a plain list that is told anew: those before both last ends stay as they were.
use Rattle.std.proofs.Common.{◌≡◌, ◌∙◌, ◌==◌, ◌&&◌, ◌*◌, ◌/◌, ◌%◌, ℕ, zero, suc, ◌+◌, ◌-◌, ◌<◌, ◌≤◌, ◌⊎◌, inl, inr, Bool, true, false, if◌then◌else◌, List}
use Rattle.std.proofs.Common.{[], ◌∷◌, not}
use Rattle.std.proofs.Common.{length, refl, sym, ap, subst, Option, Some, None, Ok, arith}
use Rattle.std.specs.Prelude.{is_some, unwrap_or, pos, IfSome}
use Rattle.std.specs.Option.{option_map, option_and_then}
use Rattle.std.proofs.Math.Nat.{mul-suc, mul-le-mul_left}
use Rattle.std.proofs.lemmas.Bool.{cases_lt}
use Rattle.ksv_folds.specs.Lemmas.Spots.{below_by}
use Rattle.std.proofs.lemmas.Bool.Decides.{nat_tests}
use Rattle.ksv_bytes.specs.declared.uses.Use.TheVariants.{Bytes, Size}
use Rattle.ksv_expr_value.specs.Places.{at_byte}
use Rattle.ksv_expr_value.specs.Trail.{child}
use Rattle.ksv_expr_value.specs.declared.step.Step.TheVariants.{Name, Index}
use Rattle.ksv_nodes.specs.declared.given.Given.TheVariants as givens
use Rattle.ksv_nodes.specs.declared.node.NodeKind.TheVariants.{Head, End}
use Rattle.ksv_expr_value.specs.declared.value.Value.TheVariants as values
use Rattle.ksv_nodes.specs.declared.node.NodeKind.TheVariants as kinds
use Rattle.ksv_folds.specs.Lemmas.Numbers.{fields_some, width_some, index_low, head_number, head_first, next_end, last_number, end_number, element_at}
use Rattle.ksv_folds.specs.Lemmas.Numbers.{index_is, spot_there}
use Rattle.ksv_folds.specs.Lemmas.Once.{sequence_laid}
use Rattle.ksv_folds.specs.Parts.{Starts, part, edge, start_in}
use Rattle.ksv_folds.specs.Sequence.{says_sizes, sizer, spot_in, spot_at, numbered_at, IsIn, index, index_of, elements_size, field_path, node_of, node_in}
use Rattle.ksv_folds.specs.Sequence.{start_of}
use Rattle.ksv_folds.specs.Sequence.{edge_in, edge_of, element_answer, is_closing, answer_of, value_before, spot_guard, guard_of, guard_node}
use Rattle.ksv_folds.specs.Sequence.{end_reach, head_reach, uses_of, spot_uses, entry_of, fold_of, IsAlike}
use Rattle.ksv_memo_rules.specs.Folds.{BeginsAs}
use Rattle.std.proofs.Common.{◌≢◌}
use Rattle.ksv_folds.specs.declared.part.Part.{Part}
use Rattle.ksv_folds.specs.declared.plain_list.PlainList.{PlainList}
use Rattle.ksv_folds.specs.declared.spot.Numbered.TheVariants as numbered
use Rattle.ksv_folds.specs.declared.spot.Spot.{Spot}
use Rattle.ksv_folds.specs.declared.spot.Spot.TheVariants.{ElementHead, ElementEnd, FieldHead, FieldEnd, Value}

-- the node is the end of the list's last element
abbrev closing : PlainList → Spot → Bool
closing p (ElementHead i) = false
closing p (ElementEnd i) = is_closing p i
closing p (FieldHead i f) = false
closing p (FieldEnd i f) = false
closing p (Value i) = false

-- a node before the last end isn't
unlast : (p : PlainList) (s : Spot) → suc (index_of p s) < elements_size p → closing p s ≡ false
unlast p (ElementHead i) low = refl
unlast p (ElementEnd i) low = by p.closed (i + 1 == p.most) refl
  where
    by : (a b : Bool) → (i + 1 == p.most) ≡ b → (a && b) ≡ false
    by a true e =
        absurd (let last : suc i ≡ p.most = grind (arith, nat_tests) in
        let all = ap (λ n. p.per * n) last in let more = mul-suc p.per i in
        let wide = (width_some p).0 in let at = end_number p i in omega (arith, low, all, more, wide, at))
    by true false e = refl
    by false false e = refl
unlast p (FieldHead i f) low = refl
unlast p (FieldEnd i f) low = refl
unlast p (Value i) low = refl

-- where elements are of one size, another list has them at the same places
pub plain_starts : (p q : PlainList) → IsAlike p q → says_sizes p ≡ false → (i : ℕ) → start_of q i ≡ start_of p i
plain_starts p q a e i = none q (a.says ∙ e) ∙ (λ t. a.first t + a.size t * i) ∙ sym (none p e)
  where
    none : (r : PlainList) → says_sizes r ≡ false → start_of r i ≡ r.first + r.size * i
    none r h = by r.starts refl
      where
        by : (o : Starts) → r.starts ≡ o → start_in o r.first r.size i ≡ r.first + r.size * i
        by None same = refl
        by (Some s) same = absurd (let bad : true ≡ false = sym (ap is_some same) ∙ h in cc)

-- another list, the first elements of which begin where those of this one do
module _ (p q : PlainList) (a : IsAlike p q) (c : ℕ) (same : (i : ℕ) → i ≤ c → start_of q i ≡ start_of p i) where
  -- the node is of one of these elements, or of the next one, and before its value
  abbrev Within : Spot → Type 0
  Within (ElementHead i) = (i < c) ⊎ ((i ≤ c) × (says_sizes p ≡ true) × (is_some p.type_number ≡ true))
  Within (ElementEnd i) = i < c
  Within (FieldHead i f) = (i < c) ⊎ ((i ≤ c) × (suc f < length p.parts.items))
  Within (FieldEnd i f) = (i < c) ⊎ ((i ≤ c) × (suc f < length p.parts.items))
  Within (Value i) = i < c

  field_same : (i f : ℕ) → field_path q i f ≡ field_path p i f
  field_same i f = λ t. option_and_then (λ u. child u (Name (part (a.parts t) f).name)) (child (a.root t).path (Index i))

  node_same : (s : Spot) → node_of q s ≡ node_of p s
  node_same (ElementHead i) = λ t. unwrap_or (option_map (λ u. record { kind = Head; path = u }) (child (a.root t).path (Index i))) (a.root t)
  node_same (ElementEnd i) = λ t. unwrap_or (option_map (λ u. record { kind = End; path = u }) (child (a.root t).path (Index i))) (a.root t)
  node_same (FieldHead i f) = λ t. unwrap_or (option_map (λ u. record { kind = Head; path = u }) (field_same i f t)) (a.root t)
  node_same (FieldEnd i f) = λ t. unwrap_or (option_map (λ u. record { kind = End; path = u }) (field_same i f t)) (a.root t)
  node_same (Value i) =
      λ t. unwrap_or (option_map (λ u. record { kind = kinds.Value; path = u })
      (option_and_then (λ u. child u (Name (part (a.parts t) (length (a.parts t) - 2)).name)) (child (a.root t).path (Index i)))) (a.root t)

  -- ---- places

  edge_same : (i f : ℕ) → (i < c) ⊎ ((i ≤ c) × (f < length p.parts.items)) → edge_of q i f ≡ edge_of p i f
  edge_same i f low = ap (λ b. edge_in b q i f) a.says ∙ by (says_sizes p)
    where
      here : start_of q i ≡ start_of p i
      here = same i (elim low [
        | inl less ↦ omega (arith, less)
        | inr z ↦ z.0
      ])

      by : (b : Bool) → edge_in b q i f ≡ edge_in b p i f
      by false = λ t. here t + edge (a.parts t) f
      by true = ap (λ ps. if f == length ps then start_of q (suc i) else start_of q i + edge ps f) a.parts ∙ last (f == length p.parts.items) refl
        where
          last : (b : Bool) → (f == length p.parts.items) ≡ b
              → (if b then start_of q (suc i) else start_of q i + edge p.parts.items f)
              ≡ (if b then start_of p (suc i) else start_of p i + edge p.parts.items f)
          last true e =
              let end : f ≡ length p.parts.items = grind (arith, nat_tests) in elim low [
                | inl less ↦ same (suc i) less
                | inr z ↦ absurd (let few = z.1 in omega (arith, few, end))
              ]
          last false e = λ t. here t + edge p.parts.items f

  -- ---- what they answer

  element_same : (o : Option ℕ) (i : ℕ) → i ≤ c → (o ≡ None → i < c) → element_answer q o i ≡ element_answer p o i
  element_same None i low less = cc (a.list, same i low, same (suc i) (less refl))
  element_same (Some n) i low less = cc (a.list, a.origin, same i low)

  head_low : (i : ℕ) → Within (ElementHead i) → i ≤ c
  head_low i low = elim low [
    | inl less ↦ omega (arith, less)
    | inr z ↦ z.0
  ]

  head_typed : (i : ℕ) → Within (ElementHead i) → p.type_number ≡ None → i < c
  head_typed i low e = elim low [
    | inl less ↦ less
    | inr z ↦ absurd (let bad : true ≡ false = sym z.2 ∙ ap is_some e in cc)
  ]

  answer_same : (s : Spot) → Within s → closing q s ≡ closing p s → answer_of q s ≡ answer_of p s
  answer_same (ElementHead i) low e = ap (λ o. element_answer q o i) a.type_number ∙ element_same p.type_number i (head_low i low) (head_typed i low)
  answer_same (ElementEnd i) low e = λ t. givens.End (at_byte (same (suc i) low t)) (e t)
  answer_same (FieldHead i f) low e =
      let from = edge_same i f (sooner i f low) in let to = edge_same i (suc f) low in cc (a.list, a.parts, a.type_number, from, to)
    where
      sooner : (i f : ℕ) → (i < c) ⊎ ((i ≤ c) × (suc f < length p.parts.items)) → (i < c) ⊎ ((i ≤ c) × (f < length p.parts.items))
      sooner i f (inl less) = inl less
      sooner i f (inr z) = inr (z.0, (let few = z.1 in omega (arith, few)))
  answer_same (FieldEnd i f) low e = λ t. givens.End (at_byte (edge_same i (suc f) low t)) false
  answer_same (Value i) low e = λ t. givens.Value (values.Int (pos (same (suc i) low t - same i (below i low) t - a.size t)))
    where
      below : (i : ℕ) → i < c → i ≤ c
      below i low = omega (arith, low)

  -- ---- what they use

  end_same : (z : ℕ) → end_reach q z ≡ end_reach p z
  end_same z = λ t. if not (is_some (a.list t).count) && not (is_some (a.list t).stream.to) then z + 1 else z

  end_at : (i : ℕ) → i ≤ c → end_reach q (start_of q i) ≡ end_reach p (start_of p i)
  end_at i low = ap (end_reach q) (same i low) ∙ end_same (start_of p i)

  head_same : (ps : List Part) (i : ℕ) → i ≤ c → (ps ≡ [] → i < c) → head_reach q ps i ≡ head_reach p ps i
  head_same [] i low less = same (suc i) (less refl)
  head_same (x ∷ ps) zero low less = refl
  head_same (x ∷ ps) (suc i) low less = end_at (suc i) low

  head_full : (i : ℕ) → Within (ElementHead i) → p.parts.items ≡ [] → i < c
  head_full i low e = elim low [
    | inl less ↦ less
    | inr z ↦ absurd (let some = (fields_some p z.1).0 in let none = ap length e in omega (arith, some, none))
  ]

  uses_same : (s : Spot) → Within s → closing q s ≡ closing p s → spot_uses q s ≡ spot_uses p s
  uses_same (ElementHead i) low e =
      ap uses_of (ap (λ ps. head_reach q ps i) a.parts ∙ head_same p.parts.items i (head_low i low) (head_full i low))
  uses_same (ElementEnd i) low e =
      λ t. if (not (is_some (a.list t).count) && not (is_some (a.list t).stream.to)) && e t then Size ∷ [] else uses_of (end_at (suc i) low t)
  uses_same (FieldHead i f) low e = ap uses_of (edge_same i (suc f) low)
  uses_same (FieldEnd i f) low e = ap uses_of (edge_same i (suc f) low)
  uses_same (Value i) low e =
      ap (λ ps. Bytes (edge_of q i (length ps - 2)) (edge_of q i (suc (length ps - 2))) ∷ []) a.parts
      ∙ (λ t. Bytes (edge_same i (sizer p) (inl low) t) (edge_same i (suc (sizer p)) (inl low) t) ∷ [])

  -- ---- by numbers

  index_same : (s : Spot) → index_of q s ≡ index_of p s
  index_same s = λ t. index (a.says t) (a.per t) s

  spot_same : (j : ℕ) → spot_at q j ≡ spot_at p j
  spot_same j = λ t. spot_in (a.says t) (a.per t) (j / a.per t) (j % a.per t)

  before_same : (i : ℕ) → value_before q i ≡ value_before p i
  before_same zero = refl
  before_same (suc i) = ap Some (index_same (Value i))

  guard_same : (s : Spot) → guard_of q (numbered.Of s) ≡ guard_of p (numbered.Of s)
  guard_same s = ap (λ b. if b then spot_guard q s else None) a.says ∙ ap (λ o. if says_sizes p then o else None) (by s)
    where
      by : (s : Spot) → spot_guard q s ≡ spot_guard p s
      by (ElementHead i) = before_same i
      by (ElementEnd i) = before_same (suc i)
      by (FieldHead i f) =
          ap (λ ps. value_before q (if suc f == length ps then suc i else i)) a.parts ∙ before_same (if suc f == length p.parts.items then suc i else i)
      by (FieldEnd i f) =
          ap (λ ps. value_before q (if suc f == length ps then suc i else i)) a.parts ∙ before_same (if suc f == length p.parts.items then suc i else i)
      by (Value i) = ap (λ ps. Some (index_of q (FieldHead i (length ps - 2)))) a.parts ∙ ap Some (index_same (FieldHead i (sizer p)))

  module _ (j : ℕ) (low : suc j < elements_size p) (less : suc j < elements_size q) where
    named_same : (o : Option ℕ) → IfSome o (λ v. v < j) → guard_node q o ≡ guard_node p o
    named_same None h = a.root
    named_same (Some v) h =
        ap (node_in q) (element_at q v (omega (arith, h, less)) ∙ ap numbered.Of (spot_same v)) ∙ node_same (spot_at p v)
        ∙ ap (node_in p) (sym (element_at p v (omega (arith, h, low))))

    entry_same : (s : Spot) → Within s → closing q s ≡ closing p s → IfSome (guard_of p (numbered.Of s)) (λ v. v < j)
        → entry_of q (numbered.Of s) ≡ entry_of p (numbered.Of s)
    entry_same s within e earlier =
        let guard = ap (guard_node q) (guard_same s) ∙ named_same (guard_of p (numbered.Of s)) earlier in
        λ t. record { node = node_same s t; answer = Ok (answer_same s within e t); asked = guard t ∷ []; uses = uses_same s within e t }

    -- before both last ends
    pub before : Within (spot_at p j) → entry_of q (numbered_at q j) ≡ entry_of p (numbered_at p j)
    before within =
        let one = index_is p j in
        let other : index_of q (spot_at p j) ≡ j = index_same (spot_at p j) ∙ one in
        let at = element_at p j (omega (arith, low)) in
        let earlier = subst (λ s. IfSome (guard_of p s) (λ v. v < j)) at ((sequence_laid p).earlier j (omega (arith, low))) in
        ap (entry_of q) (element_at q j (omega (arith, less)) ∙ ap numbered.Of (spot_same j))
        ∙ entry_same (spot_at p j) within (unlast q (spot_at p j) (omega (arith, less, other)) ∙ sym (unlast p (spot_at p j) (omega (arith, low, one)))) earlier
        ∙ sym (ap (entry_of p) at)

-- a node of one of so many elements
pub within_elements : (p q : PlainList) (a : IsAlike p q) (c : ℕ) (same : (i : ℕ) → i ≤ c → start_of q i ≡ start_of p i) (s : Spot)
    → IsIn (says_sizes p) (length p.parts.items) c s → Within p q a c same s
within_elements p q a c same (ElementHead i) low = inl low
within_elements p q a c same (ElementEnd i) low = low
within_elements p q a c same (FieldHead i f) low = inl low.0
within_elements p q a c same (FieldEnd i f) low = inl low.0
within_elements p q a c same (Value i) low = low.0

-- where elements are of one size, all nodes before both last ends
pub plain_before : (p q : PlainList) → IsAlike p q → says_sizes p ≡ false → (j : ℕ) → suc j < elements_size p → suc j < elements_size q
    → entry_of q (numbered_at q j) ≡ entry_of p (numbered_at p j)
plain_before p q a e j low less =
    let same : (i : ℕ) → i ≤ p.most → start_of q i ≡ start_of p i = λ i le. plain_starts p q a e i in
    before p q a p.most same j low less (within_elements p q a p.most same (spot_at p j) (spot_there p p.most j (omega (arith, low))))

-- where they say sizes, a node before a number is within so many elements, if no other values are
pub sized_within : (p q : PlainList) (a : IsAlike p q) (c kept : ℕ) (same : (i : ℕ) → i ≤ c → start_of q i ≡ start_of p i) → says_sizes p ≡ true
    → is_some p.type_number ≡ true → ((i : ℕ) → index_of p (Value i) < kept → i < c) → (s : Spot) → IsIn (says_sizes p) (length p.parts.items) p.most s
    → index_of p s < kept → Within p q a c same s
sized_within p q a c kept same e typed all s low less = by s low less
  where
    -- the value of the element before is before each node of this one
    next_low : (i : ℕ) → index_of p (ElementHead i) < kept → i ≤ c
    next_low zero h = omega arith
    next_low (suc i) h =
        all i (let v = index_low p (suc i) (Value i) (omega arith, e) in let at = head_number p (suc i) in omega (arith, v, at, h))

    field_low : (i f : ℕ) → f < length p.parts.items → index_of p (FieldHead i f) < kept → (i < c) ⊎ ((i ≤ c) × (suc f < length p.parts.items))
    field_low i f few h = by (suc f == length p.parts.items) refl
      where
        by : (b : Bool) → (suc f == length p.parts.items) ≡ b → (i < c) ⊎ ((i ≤ c) × (suc f < length p.parts.items))
        by true t =
            let last : suc f ≡ length p.parts.items = grind (arith, nat_tests) in
            inl (all i (let next = last_number p i f e last in omega (arith, next, h)))
        by false t =
            let other : suc f ≢ length p.parts.items = grind (arith, nat_tests) in
            inr (next_low i (let first = head_first p i f in omega (arith, first, h)), omega (arith, other, few))

    by : (s : Spot) → IsIn (says_sizes p) (length p.parts.items) p.most s → index_of p s < kept → Within p q a c same s
    by (ElementHead i) low h = inr (next_low i h, e, typed)
    by (ElementEnd i) low h =
        all i (let at = end_number p i in let v = value_index i in let wide = (fields_some p e).1 in omega (arith, at, v, wide, h))
      where
        value_index : (i : ℕ) → index_of p (Value i) ≡ p.per * i + (p.per - 4)
        value_index i = subst (λ b. index b p.per (Value i) ≡ p.per * i + (p.per - 4)) (sym e) refl
    by (FieldHead i f) low h = field_low i f low.1 h
    by (FieldEnd i f) low h = field_low i f low.1 (let next = next_end p i f in omega (arith, next, h))
    by (Value i) low h = all i h

pub sized_before : (p q : PlainList) (a : IsAlike p q) (c kept : ℕ) (same : (i : ℕ) → i ≤ c → start_of q i ≡ start_of p i) → says_sizes p ≡ true
    → is_some p.type_number ≡ true → ((i : ℕ) → index_of p (Value i) < kept → i < c) → kept < elements_size p → kept < elements_size q
    → BeginsAs (fold_of p) (fold_of q) kept
sized_before p q a c kept same e typed all low less = record {
  root = a.root;
  in_size = omega (arith, less);
  same = λ j few. before p q a c same j (omega (arith, few, low)) (omega (arith, few, less))
      (sized_within p q a c kept same e typed all (spot_at p j) (spot_there p p.most j (omega (arith, few, low)))
      (let at = index_is p j in omega (arith, at, few)));
}

-- no more elements have values before a number than there are
pub told_few : (p : PlainList) (told kept : ℕ) → says_sizes p ≡ true → ((i : ℕ) → i < told → index_of p (Value i) < kept)
    → kept < elements_size p → told ≤ p.most
told_few p zero kept e h low = omega arith
told_few p (suc i) kept e h low =
    let at = h i (omega arith) in
    let v : index_of p (Value i) ≡ p.per * i + (p.per - 4) = subst (λ b. index b p.per (Value i) ≡ p.per * i + (p.per - 4)) (sym e) refl in
    below_by p.per i (p.per - 4) p.most (omega (arith, at, v, low))

-- and the nodes before that number are of elements that stay
kept_low : (p q : PlainList) (told kept : ℕ) → IsAlike p q → says_sizes p ≡ true → ((i : ℕ) → index_of p (Value i) < kept → i < told) → kept < elements_size p
    → told ≤ p.most → (told < p.most → told < q.most) → told ≤ q.most → kept < elements_size q
kept_low p q told kept a e all low few more some = elim (cases_lt told p.most) [
  | inl less ↦ (
      let v : index_of p (Value told) ≡ p.per * told + (p.per - 4) =
      subst (λ b. index b p.per (Value told) ≡ p.per * told + (p.per - 4)) (sym e) refl in
      let behind : kept ≤ index_of p (Value told) = elim (cases_lt (index_of p (Value told)) kept) [
        | inl bad ↦ absurd (let never = all told bad in omega (arith, never))
        | inr up ↦ up
      ] in
      let up = mul-le-mul_left p.per (more less) in
      let next = mul-suc p.per told in
      let same : elements_size q ≡ p.per * q.most = ap (λ n. n * q.most) a.per in
      let wide = (fields_some p e).1 in omega (arith, v, behind, up, next, same, wide))
  | inr up ↦ (
      let at : told ≡ p.most = omega (arith, up, few) in
      let all = mul-le-mul_left p.per some in
      let same : elements_size q ≡ p.per * q.most = ap (λ n. n * q.most) a.per in
      let here : p.per * told ≡ p.per * p.most = ap (λ n. p.per * n) at in omega (arith, all, same, here, low))
]

pub sized_told : (p q : PlainList) (told kept : ℕ) → IsAlike p q → ((i : ℕ) → i ≤ told → start_of q i ≡ start_of p i) → says_sizes p ≡ true
    → is_some p.type_number ≡ true → ((i : ℕ) → index_of p (Value i) < kept → i < told) → kept < elements_size p → told ≤ p.most
    → (told < p.most → told < q.most) → told ≤ q.most → BeginsAs (fold_of p) (fold_of q) kept
sized_told p q told kept a same e typed all low few more some =
    sized_before p q a told kept same e typed all low (kept_low p q told kept a e all low few more some)
