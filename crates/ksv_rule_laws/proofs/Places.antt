-- Each place in an answer lies in the file.
use Rattle.ksv_rule_laws.proofs.Common.{◌≡◌, ℕ, ◌≤◌, true, List, length, Option, Some, None, Result, Ok, arith, inl, inr, Place, at_byte, byte_of}
use Rattle.ksv_rule_laws.proofs.Common.{of_aligned, Trail, parent, last, Step, Stream, Value, Choice, Description, MemberKind, Parameter, Attribute}
use Rattle.ksv_rule_laws.proofs.Common.{ParseInstance, ValueInstance, Field, Node, NodeFault, NodeKind, Given, Holder, Leaf, Origin, ObjectEnd, Object, Head}
use Rattle.ksv_rule_laws.proofs.Common.{end_in, head_node, end_node, rest_node, members_of, Sought, last_attribute, origin_of, instance_setting, from_nothing}
use Rattle.ksv_rule_laws.proofs.Common.{IsOfLeaf, EndsAt}
use Rattle.ksv_expr_value.specs.declared.step.Step.TheVariants as steps
use Rattle.ksv_nodes.specs.declared.node.NodeKind.TheVariants as nodes
use Rattle.ksv_nodes.specs.declared.given.Given.TheVariants as givens
use Rattle.ksv_nodes.specs.declared.given.ObjectEnd.TheVariants as endings
use Rattle.ksv_nodes.specs.declared.given.Head.TheVariants as heads
use Rattle.ksv_rule_laws.specs.Laws.{IsOfHead, IsEndIn, IsStreamIn, IsHolderIn, IsHeadIn, IsValueIn, IsIn, PlacesAreInFile}
use Rattle.ksv_rule_laws.proofs.Starts.{of_start, at_most}
use Rattle.ksv_rule_laws.proofs.Forms.{value_fits, no_stream}
use Rattle.ksv_rule_laws.proofs.Sources.{heads_are_read}
use Rattle.ksv_rule_laws.proofs.Ranges.{IsRanged, IsKnown, expression_in, stream_in}
use Rattle.ksv_rule_laws.proofs.Shapes.{IsHeadAt, IsStart, IsMember, IsElementOf, IsHead, IsPlain, IsCalculatedIn, IsValueAt, IsMadeOf, IsFieldsEnd}
use Rattle.ksv_rule_laws.proofs.Shapes.{IsObjectEnd, IsEnd, IsRest, IsAnswer}
use Rattle.ksv_rule_laws.proofs.Shaping.{by_shapes}

-- what the nodes that are asked answer lies in the file
module _ (d : Description) (bytes : List ℕ) (opened : List Node) (met : Node → Result Given NodeFault)
    (same : (m : Node) (g : Given) → met m ≡ Ok g → from_nothing d bytes opened m ≡ Ok g)
    (lies : (m : Node) (g : Given) → met m ≡ Ok g → IsKnown (length bytes) g) (here : Trail) where
  abbrev size : ℕ
  size = length bytes

  -- where a stream ends
  end_is_in : (to : Option ℕ) → IsEndIn size to → end_in bytes to ≤ size
  end_is_in to h = grind arith

  is_end_in : (to : Option ℕ) → end_in bytes to ≤ size → IsEndIn size to
  is_end_in to h = grind arith

  -- ---- heads

  at_in : (origin : Origin) (w : Stream) (s : Place) (f : Field) (h : Head) → IsStreamIn size origin.home → IsStreamIn size w → byte_of s ≤ size
      → IsHeadAt bytes origin w s f h → IsHeadIn size h
  at_in origin w s f (heads.Absent at) home within begins is = rw is begins
  at_in origin w s f (heads.Calc c) home within begins is = absurd is
  at_in origin w s f (heads.Leaf l) home within begins is =
      let end = end_is_in w.to within.1 in (
        rw is.from begins,
        omega (arith, is.to.inside, end),
        omega (arith, is.end.inside, end),
        rw is.home home,
      )
  at_in origin w s f (heads.Object o) home within begins is =
      let end = end_is_in w.to within.1 in
      let from : o.stream.from ≤ size = elim is.from [
        | inl own ↦ rw own within.0
        | inr at ↦ rw at begins
      ] in (
        rw is.start begins,
        (from, is_end_in o.stream.to (omega (arith, is.to.inside, end))),
        rw is.read_by (rw is.home home),
      )
  at_in origin w s f (heads.List g) home within begins is = (
    rw is.start begins,
    rw is.stream within,
    rw is.is home,
  )

  abbrev IsObjectIn : Object → Type 0
  IsObjectIn o = IsHeadIn size (heads.Object o)

  ends_in : (q : Trail) (step : Step) (e : Place) → EndsAt met q step e → byte_of e ≤ size
  ends_in q step e is = lies (end_node is.path) (givens.End e is.is_last) is.ended

  start_in : (o : Object) (before : Option ℕ) (c : Choice) (s : Place) → IsObjectIn o → IsStart d met here bytes o before c s → byte_of s ≤ size
  start_in o None c s within is = rw (← is) within.0
  start_in o (Some y) c s within is = rw (← is.2, of_start is.0 c) (ends_in (parent here) (steps.Name y) is.0 is.1)

  member_in : (o : Object) (m : Sought) (k : MemberKind) (h : Head) → IsObjectIn o → IsMember d met here bytes o m k h → IsHeadIn size h
  member_in o m Parameter h within is = rw (← is) within
  member_in o m (Attribute f) h within is = at_in (origin_of o m) o.stream is.0 f h within.1 within.1 (start_in o m.before f.choice is.0 within is.1) is.2
  member_in o m (ParseInstance e io f) h within is = elim is [
    | inl out ↦ rw (← out.1) tt
    | inr at ↦
        let stream = stream_in met here bytes lies (instance_setting here (parent here) o) io at.stream (within.1, tt) at.named in
        at_in (origin_of o m) at.stream (at_byte at.byte) f h within.1 stream
        (at_most at.byte size (omega (arith, at.inside, end_is_in at.stream.to stream.1))) at.is
  ]
  member_in o m (ValueInstance v) h within is = elim is [
    | inl out ↦ rw (← out.1) tt
    | inr calc ↦ rw (← calc) within
  ]

  element_in : (i : ℕ) (h : Head) → IsElementOf d met here bytes i h → IsHeadIn size h
  element_in i h is =
      let within = lies (head_node (parent here)) (givens.Head (heads.List is.list)) is.asked in
      let begins : byte_of is.start ≤ size = elim is.begins [
        | inl first ↦ rw (← first.1) within.0
        | inr later ↦ lies (end_node later.path) (givens.End is.start _) later.ended
      ] in
      at_in is.list.origin is.list.stream is.start is.field h within.2 within.1 begins is.is

  head_in : (step : Option Step) (h : Head) → IsHead d met here bytes step h → IsHeadIn size h
  head_in None h is = rw (← is) (at_most 0 size (omega arith), (omega arith, tt), tt)
  head_in (Some (steps.Name x)) h is = member_in is.object is.member is.member.kind h
      (lies (head_node (parent here)) (givens.Head (heads.Object is.object)) is.asked) is.is
  head_in (Some (steps.Index i)) h is = element_in i h is

  -- ---- ends

  fields_end_in : (start : Place) (z : Option ℕ) (e : Place) → byte_of start ≤ size → IsFieldsEnd d met here bytes start z e → byte_of e ≤ size
  fields_end_in start None e begins is = rw (← is) begins
  fields_end_in start (Some z) e begins is = rw (← is.2, of_aligned is.0) (ends_in here (steps.Name z) is.0 is.1)

  object_end_in : (o : Object) (x : ObjectEnd) (e : Place) → IsObjectIn o → IsObjectEnd d met here bytes o x e → byte_of e ≤ size
  object_end_in o endings.OfStream e within is = rw (← is) (at_most (end_in bytes o.stream.to) size (end_is_in o.stream.to within.1.1))
  object_end_in o endings.ByFields e within is = fields_end_in o.start (last_attribute None (members_of d o.type_number)) e within.0 is

  end_in_file : (h : Head) (e : Place) → IsHeadIn size h → IsEnd d met here bytes h e → byte_of e ≤ size
  end_in_file (heads.Absent (Some s)) e within is = rw (← is) within
  end_in_file (heads.Leaf l) e within is = rw (← is) within.2
  end_in_file (heads.Object o) e within is = object_end_in o o.ending e within is
  end_in_file (heads.List g) e within is = lies (rest_node is.1.path) (givens.Rest is.0 e) is.1.rested
  end_in_file _ e within is = absurd is

  -- ---- rests

  rest_in : (step : Option Step) (count : ℕ) (place : Place) → IsRest d met here bytes step count place → byte_of place ≤ size
  rest_in (Some (steps.Index i)) count place is = elim is [
    | inl whole ↦ let list : IsHeadIn size (heads.List whole.1.list) = lies _ (givens.Head (heads.List whole.1.list)) whole.1.answered in
        rw (← whole.1.start) list.0
    | inr from ↦ elim from [
      | inl one ↦ lies (end_node here) (givens.End place true) one.1
      | inr more ↦ lies (rest_node more.2.path) (givens.Rest count place) more.2.rested
    ]
  ]
  rest_in _ count place is = absurd is

  -- ---- values

  -- what an expression of a member gives
  plain_in : (w v : Value) → IsRanged size w → IsPlain d met here bytes w v → IsValueIn size v
  plain_in w v within is = elim is [
    | inl own ↦ rw (← own.1) (by_value w within)
    | inr member ↦ rw (← member.2) tt
  ]
    where
      by_value : (u : Value) → IsRanged (length bytes) u → IsValueIn (length bytes) u
      by_value u k = grind arith

  calculated_in : (o : Holder) (v : Value) → IsHolderIn size o → IsCalculatedIn d met here bytes o v → IsValueIn size v
  calculated_in o v within is =
      let stream : IsStreamIn size is.setting.stream = elim is.stream [
        | inl own ↦ rw own within.1
        | inr by ↦ rw by.2 (rw by.1 at within.2)
      ] in
      plain_in is.first v (expression_in met here bytes lies is.setting is.tree is.first (stream, rw is.element tt) is.was) is.plain

  leaf_value_in : (l : Leaf) (v : Value) → IsHeadIn size (heads.Leaf l) → IsOfLeaf l v → IsValueIn size v
  leaf_value_in l v within fits = grind arith

  value_in : (v : Value) → IsMadeOf d met here bytes v → IsKnown size (givens.Value v)
  value_in v is =
      let fits = value_fits d met here bytes is.head v (heads_are_read d bytes opened here is.head (same _ _ is.asked)) is.is in
      (by_head is.head (lies _ (givens.Head is.head) is.asked) fits is.is, no_stream here is.head v fits)
    where
      by_head : (h : Head) → IsHeadIn (length bytes) h → IsOfHead here h v → IsValueAt d met here bytes h v → IsValueIn (length bytes) v
      by_head (heads.Absent at) within fits is' = absurd fits
      by_head (heads.Calc c) within fits is' = calculated_in c.object v within is'
      by_head (heads.Leaf l) within fits is' = leaf_value_in l v within fits
      by_head (heads.Object o) within fits is' = rw fits tt
      by_head (heads.List g) within fits is' = rw fits tt

  -- ---- answers

  answer_in : (k : NodeKind) (g : Given) → IsAnswer d met here bytes k g → IsKnown size g
  answer_in nodes.Head (givens.Head h) is = head_in (last here) h is
  answer_in nodes.Value (givens.Value v) is = value_in v is
  answer_in nodes.End (givens.End place is_last) is = end_in_file is.head place (lies (head_node here) (givens.Head is.head) is.asked) is.is
  answer_in nodes.Rest (givens.Rest count place) is = rest_in (last here) count place is
  answer_in _ _ is = absurd is

known_is_in : (n : ℕ) (g : Given) → IsKnown n g → IsIn n g
known_is_in n (givens.Value v) known = known.0
known_is_in n g known = known

pub places_are_in_file : PlacesAreInFile
places_are_in_file d bytes opened n g h =
    known_is_in (length bytes) g (by_shapes d bytes opened (λ n' g'. IsKnown (length bytes) g')
    (λ met same lies n' g' is. answer_in d bytes opened met same lies n'.path n'.kind g' is) n g h)
