-- An answer has its node's form; a value is one of the head at its path, and meets what it must.
use Rattle.ksv_rule_laws.proofs.Common.{◌≡◌, ℕ, List, Result, Ok, inl, inr, Trail, Value, Description, Node, NodeFault, NodeKind, Given, Head, head_node}
use Rattle.ksv_rule_laws.proofs.Common.{from_nothing, IsNoStream}
use Rattle.ksv_expr_value.specs.declared.value.Value.TheVariants as values
use Rattle.ksv_nodes.specs.declared.node.NodeKind.TheVariants as nodes
use Rattle.ksv_nodes.specs.declared.given.Given.TheVariants as givens
use Rattle.ksv_nodes.specs.declared.given.Head.TheVariants as heads
use Rattle.ksv_nodes.specs.Rule.{value_node}
use Rattle.ksv_rule_laws.proofs.Shapes.{IsPlain, IsValueAt, IsMadeOf, IsAnswer}
use Rattle.ksv_rule_laws.proofs.Shaping.{by_shape}
use Rattle.ksv_rule_laws.proofs.Sources.{heads_are_read}
use Rattle.ksv_rule_laws.specs.Laws.{ValuesMeetChecks, HasForm, AnswersHaveForms, IsRead, IsOfHead, HasHead, ValuesHaveHeads}

module _ (d : Description) (met : Node → Result Given NodeFault) (here : Trail) (bytes : List ℕ) where
  plain_is : (w v : Value) → IsPlain d met here bytes w v → IsNoStream v
  plain_is w v is = elim is [
    | inl own ↦ rw (← own.1) own.0
    | inr member ↦ rw (← member.2) tt
  ]

  -- the value of a head that is read is one of it
  pub value_fits : (h : Head) (v : Value) → IsRead d h → IsValueAt d met here bytes h v → IsOfHead here h v
  value_fits (heads.Absent at) v read is = is
  value_fits (heads.Calc c) v read is = plain_is is.first v is.plain
  value_fits (heads.Leaf l) v read is = is read
  value_fits (heads.Object o) v read is = is
  value_fits (heads.List g) v read is = is

pub no_stream : (p : Trail) (h : Head) (v : Value) → IsOfHead p h v → IsNoStream v
no_stream p h (values.Stream w) fits = by_head h fits
  where
    by_head : (h' : Head) → IsOfHead p h' (values.Stream w) → ⊥
    by_head (heads.Object o) f = cc
    by_head (heads.List g) f = cc
    by_head _ f = f
no_stream p h _ fits = tt

-- ---- evaluation from nothing

module _ (d : Description) (bytes : List ℕ) (opened : List Node) where
  -- the head of a value
  value_is : (p : Trail) (v : Value) → IsMadeOf d (from_nothing d bytes opened) p bytes v → HasHead d bytes opened p v
  value_is p v m = record {
    head = m.head;
    answered = m.asked;
    fits =
        value_fits d (from_nothing d bytes opened) p bytes m.head v (heads_are_read d bytes opened p m.head m.asked) m.is;
  }

  form_is : (k : NodeKind) (p : Trail) (g : Given) → IsAnswer d (from_nothing d bytes opened) p bytes k g → HasForm k g
  form_is nodes.Head p (givens.Head h) is = tt
  form_is nodes.Value p (givens.Value v) is = let i = value_is p v is in no_stream p i.head v i.fits
  form_is nodes.End p (givens.End place is_last) is = tt
  form_is nodes.Rest p (givens.Rest count place) is = tt
  form_is _ p _ is = absurd is

pub answers_have_forms : AnswersHaveForms
answers_have_forms d bytes opened n g h = form_is d bytes opened n.kind n.path g (by_shape d bytes opened n g h)

pub values_have_heads : ValuesHaveHeads
values_have_heads d bytes opened p v h = value_is d bytes opened p v (by_shape d bytes opened (value_node p) (givens.Value v) h)

one_head : (r : Result Given NodeFault) (x y : Head) → r ≡ Ok (givens.Head x) → r ≡ Ok (givens.Head y) → x ≡ y
one_head r x y h h' = cc

pub values_meet_checks : ValuesMeetChecks
values_meet_checks d bytes opened p h v head value =
    let met = from_nothing d bytes opened in
    let m : IsMadeOf d met p bytes v = by_shape d bytes opened (value_node p) (givens.Value v) value in
    rw (← (one_head (met (head_node p)) m.head h m.asked head)) m.meets
