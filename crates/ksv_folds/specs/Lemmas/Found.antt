-- The nodes that have numbers, by their kinds and their steps.
use Rattle.std.proofs.Common.{◌≡◌, ◌∙◌, ℕ, ◌+◌, ◌<◌, ◌∷◌, length, Some, unwrap_or, option_map, sym, ap, arith}
use Rattle.std.specs.Option.{option_and_then}
use Rattle.ksv_expr_value.specs.Trail.{Trail, child, element_limit, same_trail, trail_of-steps}
use Rattle.ksv_expr_value.specs.declared.step.Step.TheVariants.{Name, Index}
use Rattle.ksv_list_laws.proofs.Paths.{element_is, field_is}
use Rattle.ksv_nodes.specs.declared.node.Node.{Node}
use Rattle.ksv_nodes.specs.declared.node.NodeKind.{NodeKind}
use Rattle.ksv_nodes.specs.declared.node.NodeKind.TheVariants as kinds
use Rattle.ksv_folds.specs.Lemmas.Parts.{name_small}
use Rattle.ksv_folds.specs.Lemmas.Numbers.{fields_some, numbered_is, numbered_there}
use Rattle.ksv_folds.specs.Parts.{part}
use Rattle.ksv_folds.specs.Sequence.{sizer, IsOne, IsAt, IsThere, IsBehind, IsNumbered, path_of, kind_of, node_of, element_node, node_in, steps_of, number_of}
use Rattle.ksv_folds.specs.Sequence.{size_of, numbered_at}
use Rattle.ksv_folds.specs.declared.plain_list.PlainList.{PlainList}
use Rattle.ksv_folds.specs.declared.spot.Numbered.{Numbered}
use Rattle.ksv_folds.specs.declared.spot.Numbered.TheVariants.{Of, Rest, MissingHead, MissingEnd}
use Rattle.ksv_folds.specs.declared.spot.Spot.{Spot}
use Rattle.ksv_folds.specs.declared.spot.Spot.TheVariants.{ElementHead, ElementEnd, FieldHead, FieldEnd, Value}

module _ (p : PlainList) where
  abbrev Is : Spot → Type 0
  Is s = IsOne p s

  -- there is a path, of these steps
  abbrev Leads : Spot → Type 0
  Leads s = (q : Trail) × (path_of p s ≡ Some q) × (q.upward ≡ steps_of p s)

  -- so of each index
  abbrev LeadsTo : ℕ → Type 0
  LeadsTo i = (q : Trail) × (child p.root.path (Index i) ≡ Some q) × (q.upward ≡ Index i ∷ p.root.path.upward)

  index_leads : (i : ℕ) → i < element_limit → LeadsTo i
  index_leads i few =
      let q = element_is p.root.path i p.short few in (q.0, q.1, sym (trail_of-steps (Index i ∷ p.root.path.upward) q.0 q.1))

  element_leads : (i : ℕ) → i < p.most → LeadsTo i
  element_leads i low = let few = p.few in index_leads i (omega (arith, low, few))

  field_leads : (i f : ℕ) → i < p.most → f < length p.parts.items → Leads (FieldHead i f)
  field_leads i f low less =
      let q = element_leads i low in
      let name = (part p.parts.items f).name in
      let r = field_is p.root.path q.0 i name p.short q.1 (name_small p.size p.parts.items p.rising f less) in (
        r.0,
        ap (λ o. option_and_then (λ t. child t (Name name)) o) q.1 ∙ r.1,
        sym (trail_of-steps (Name name ∷ q.0.upward) r.0 r.1) ∙ ap (λ u. Name name ∷ u) q.2,
      )

  pub leads : (s : Spot) → Is s → Leads s
  leads (ElementHead i) low = element_leads i low
  leads (ElementEnd i) low = element_leads i low
  leads (FieldHead i f) low = field_leads i f low.0 low.1
  leads (FieldEnd i f) low = field_leads i f low.0 low.1
  leads (Value i) low = let some = (fields_some p low.1).0 in field_leads i (sizer p) low.0 (omega (arith, some))

  -- the node of a path
  pub node_is : (s : Spot) (q : Trail) → path_of p s ≡ Some q → node_of p s ≡ record { kind = kind_of s; path = q }
  node_is s q e = ap (λ o. unwrap_or (option_map (λ t. record { kind = kind_of s; path = t }) o) p.root) e

  -- a node that has these steps is this one
  pub at_node : (n : Node) (s : Spot) → IsAt p n s → n ≡ node_of p s
  at_node n s h =
      let q = leads s h.there in
      let path : n.path ≡ q.0 = same_trail n.path q.0 (h.steps ∙ sym q.2) in
      let same : n ≡ record { kind = kind_of s; path = q.0 } = λ i. record { kind = h.kind i; path = path i } in
      same ∙ sym (node_is s q.0 q.1)

  pub node_at : (n : Node) (s : Spot) → Is s → n ≡ node_of p s → IsAt p n s
  node_at n s low e =
      let q = leads s low in
      let same = e ∙ node_is s q.0 q.1 in
      record { there = low; kind = ap (λ (m : Node). m.kind) same; steps = ap (λ (m : Node). m.path.upward) same ∙ q.2 }

  -- ---- behind the elements

  element_is_node : (k : NodeKind) (i : ℕ) (q : Trail) → child p.root.path (Index i) ≡ Some q → element_node p k i ≡ record { kind = k; path = q }
  element_is_node k i q e = ap (λ o. unwrap_or (option_map (λ t. record { kind = k; path = t }) o) p.root) e

  at_behind : (n : Node) (s : Numbered) (k : NodeKind) (i : ℕ) → LeadsTo i → IsBehind p n s k i → n ≡ element_node p k i
  at_behind n s k i q h =
      let path : n.path ≡ q.0 = same_trail n.path q.0 (h.steps ∙ sym q.2) in
      let same : n ≡ record { kind = k; path = q.0 } = λ t. record { kind = h.kind t; path = path t } in
      same ∙ sym (element_is_node k i q.0 q.1)

  behind_at : (n : Node) (s : Numbered) (k : NodeKind) (i : ℕ) → LeadsTo i → IsThere p s → n ≡ element_node p k i → IsBehind p n s k i
  behind_at n s k i q there e =
      let same = e ∙ element_is_node k i q.0 q.1 in
      record { there = there; kind = ap (λ (m : Node). m.kind) same; steps = ap (λ (m : Node). m.path.upward) same ∙ q.2 }

  -- ---- by numbers

  at_numbered : (n : Node) (s : Numbered) → IsNumbered p n s → n ≡ node_in p s
  at_numbered n (Of s) h = at_node n s h
  at_numbered n (Rest i) h = at_behind n (Rest i) kinds.Rest i (element_leads i (h.there).2) h
  at_numbered n (MissingHead k) h = at_behind n (MissingHead k) kinds.Head (p.most + k) (index_leads (p.most + k) (h.there).2) h
  at_numbered n (MissingEnd k) h = at_behind n (MissingEnd k) kinds.End (p.most + k) (index_leads (p.most + k) (h.there).2) h

  numbered_there_by : (n : Node) (s : Numbered) → IsNumbered p n s → IsThere p s
  numbered_there_by n (Of s) h = h.there
  numbered_there_by n (Rest i) h = h.there
  numbered_there_by n (MissingHead k) h = h.there
  numbered_there_by n (MissingEnd k) h = h.there

  pub numbered_by : (n : Node) (s : Numbered) → IsThere p s → n ≡ node_in p s → IsNumbered p n s
  numbered_by n (Of s) there e = node_at n s there e
  numbered_by n (Rest i) there e = behind_at n (Rest i) kinds.Rest i (element_leads i there.2) there e
  numbered_by n (MissingHead k) there e = behind_at n (MissingHead k) kinds.Head (p.most + k) (index_leads (p.most + k) there.2) there e
  numbered_by n (MissingEnd k) there e = behind_at n (MissingEnd k) kinds.End (p.most + k) (index_leads (p.most + k) there.2) there e

  pub numbered_node : (n : Node) (s : Numbered) → IsNumbered p n s → n ≡ node_in p (numbered_at p (number_of p s))
  numbered_node n s h = at_numbered n s h ∙ ap (node_in p) (sym (numbered_is p s (numbered_there_by n s h)))

  pub numbered : (n : Node) (j : ℕ) → j < size_of p → n ≡ node_in p (numbered_at p j) → IsNumbered p n (numbered_at p j)
  numbered n j low e = numbered_by n (numbered_at p j) (numbered_there p j low) e
