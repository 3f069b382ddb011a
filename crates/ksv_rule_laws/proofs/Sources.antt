-- What is at a path is read by a member of the description, by the case of its switch, and a list has the count of its `repeat`.
use Rattle.ksv_rule_laws.proofs.Common.{◌≡◌, ◌∙◌, ℕ, suc, ◌+◌, ◌==◌, List, [], ◌∷◌, slice_get, Option, Some, None, Result, Ok}
use Rattle.ksv_rule_laws.proofs.Common.{refl, ap, arith, inl, inr, Place, at_byte, Trail, parent, last, Step, Stream, Description, MemberOfType}
use Rattle.ksv_rule_laws.proofs.Common.{MemberKind, Parameter, Attribute, ParseInstance, ValueInstance, Field, Node, NodeFault, NodeKind, Given, Object, Origin}
use Rattle.ksv_rule_laws.proofs.Common.{Head, head_node, members_of, behind, Sought, sought, calc, origin_of, Reads, IsFieldOf, cases_Bool}
use Rattle.ksv_expr_value.specs.declared.step.Step.TheVariants as steps
use Rattle.ksv_nodes.specs.declared.node.NodeKind.TheVariants as nodes
use Rattle.ksv_nodes.specs.declared.given.Given.TheVariants as givens
use Rattle.ksv_nodes.specs.declared.given.Head.TheVariants as heads
use Rattle.ksv_rule_laws.specs.Laws.{IsObjectRead, IsCalculated, IsRead, HeadsAreRead}
use Rattle.ksv_rule_laws.proofs.Shapes.{IsHeadAt, IsMember, IsHead, IsAnswer}
use Rattle.ksv_rule_laws.proofs.Shaping.{by_shapes}

-- ---- the member of a place

-- a member that was found is the one at its place
pub record IsThere (ms : List MemberOfType) (i : ℕ) (s : Sought) : Type 0 where
  pub place : ℕ
  pub is : s.member ≡ i + place
  pub member : MemberOfType
  pub there : slice_get ms place ≡ Some member
  pub kind : member.kind ≡ s.kind

sought_there : (x i : ℕ) (before : Option ℕ) (ms : List MemberOfType) (s : Sought) → sought x i before ms ≡ Some s → IsThere ms i s
unfolding sought
sought_there x i before [] s e = cc
sought_there x i before (m ∷ ms) s e = elim (cases_Bool (m.name == x)) [
  | inl so ↦
      let found : ◌≡◌ {A = Option Sought} (Some (record { member = i; before = before; kind = m.kind })) (Some s) = rw so at e in
      let at : s.member ≡ i = cc in
      record { place = 0; is = omega arith; member = m; there = refl; kind = cc }
  | inr other ↦
      let r = sought_there x (i + 1) (behind before m) ms s (rw other at e) in
      record { place = suc r.place; is = omega (arith, r.is); member = r.member; there = r.there; kind = r.kind }
]

-- ---- what holds of each head

-- the case of a list isn't chosen: each of its elements has its own
abbrev HasNoCase : Head → Type 0
HasNoCase (heads.List g) = g.origin.case ≡ None
HasNoCase _ = Unit {0}

abbrev IsReadSo : Description → Head → Type 0
IsReadSo d h = IsRead d h × HasNoCase h

-- what is so of an answer that is a head
abbrev IsSo : Description → Given → Type 0
IsSo d (givens.Head h) = IsReadSo d h
IsSo d _ = Unit {0}

-- what the nodes that are asked answer is read so
module _ (d : Description) (bytes : List ℕ) (met : Node → Result Given NodeFault) (lies : (m : Node) (g : Given) → met m ≡ Ok g → IsSo d g) (here : Trail) where
  at_read : (origin : Origin) (w : Stream) (s : Place) (f : Field) (h : Head) → IsFieldOf d origin.member f → origin.case ≡ None
      → IsHeadAt bytes origin w s f h → IsReadSo d h
  at_read origin w s f (heads.Absent at) own none is = (tt, tt)
  at_read origin w s f (heads.Calc c) own none is = absurd is
  at_read origin w s f (heads.Leaf l) own none is = (record { field = f; is = rw is.member own; so = is.read none }, tt)
  at_read origin w s f (heads.Object o) own none is =
      let by : IsObjectRead d (Some is.by) o.type_number = record { field = f; is = rw is.member own; so = is.read } in
      (rw is.read_by by, tt)
  at_read origin w s f (heads.List g) own none is =
      (record { field = f; is = rw is.is own; so = is.read }, ap (λ (o : Origin). o.case) is.is ∙ none)

  member_read : (o : Object) (m : Sought) (k : MemberKind) (h : Head) → m.kind ≡ k → IsThere (members_of d o.type_number) 0 m
      → IsObjectRead d o.origin o.type_number → IsMember d met here bytes o m k h → IsReadSo d h
  member_read o m k h is there object at = by_kind k is at
    where
      found_member : slice_get (members_of d o.type_number) m.member ≡ Some there.member
      found_member =
          let at = there.is in
          let one : there.place ≡ m.member = omega arith in
          rw (← one) there.there

      field : (j : MemberKind) (f : Field) → m.kind ≡ j → Reads j f → IsFieldOf d (record { type_number = o.type_number; member = m.member }) f
      field j f is' so = (there.member, found_member, rw (there.kind ∙ is') so)

      calc_read : (j : MemberKind) → m.kind ≡ j → IsCalculated j → calc o m ≡ h → IsReadSo d h
      calc_read j is' so e = rw (← e) (((there.member, found_member, rw (there.kind ∙ is') so), object), tt)

      by_kind : (j : MemberKind) → m.kind ≡ j → IsMember d met here bytes o m j h → IsReadSo d h
      by_kind Parameter is' e = calc_read Parameter is' tt e
      by_kind (Attribute f) is' e = at_read (origin_of o m) o.stream e.0 f h (field (Attribute f) f is' refl) refl e.2
      by_kind (ParseInstance at io f) is' e = elim e [
        | inl out ↦ rw (← out.1) (tt, tt)
        | inr placed ↦ at_read (origin_of o m) placed.stream (at_byte placed.byte) f h (field (ParseInstance at io f) f is' refl) refl placed.is
      ]
      by_kind (ValueInstance v) is' e = elim e [
        | inl out ↦ rw (← out.1) (tt, tt)
        | inr calc ↦ calc_read (ValueInstance v) is' tt calc
      ]

  head_read : (o : Option Step) (h : Head) → IsHead d met here bytes o h → IsReadSo d h
  head_read None h is = rw (← is) (tt, tt)
  head_read (Some (steps.Name x)) h is =
      let object = lies (head_node (parent here)) (givens.Head (heads.Object is.object)) is.asked in
      member_read is.object is.member is.member.kind h refl (sought_there x 0 None (members_of d is.object.type_number) is.member is.found) object.0 is.is
  head_read (Some (steps.Index i)) h is =
      let list : IsReadSo d (heads.List is.list) = lies (head_node (parent here)) (givens.Head (heads.List is.list)) is.asked in
      at_read is.list.origin is.list.stream is.start is.field h is.read list.1 is.is

  answer_read : (k : NodeKind) (g : Given) → IsAnswer d met here bytes k g → IsSo d g
  answer_read nodes.Head (givens.Head h) is = head_read (last here) h is
  answer_read k g is = grind arith

pub heads_are_read : HeadsAreRead
heads_are_read d bytes opened p h e =
    let so : IsReadSo d h = by_shapes d bytes opened (λ n g. IsSo d g) (λ met same lies n g is. answer_read d bytes met lies n.path n.kind g is)
    (head_node p) (givens.Head h) e in
    so.0
