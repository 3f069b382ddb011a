-- What an answered head, value, end and rest is: where it comes from, where it begins and ends, and what was asked for it. These are the
-- shapes of answers. Shaping, Values and Checking have the lemmas that rules answer so, one a rule; laws are cases over shapes.
use Rattle.ksv_rule_laws.proofs.Common.{◌⊎◌, Tree, Place, at_byte, byte_of, aligned, Setting, Trail, child, parent, last, Step, Stream, Value, Choice}
use Rattle.ksv_rule_laws.proofs.Common.{Description, MemberKind, Parameter, Attribute, ParseInstance, ValueInstance, Field, Node, NodeFault, NodeKind, Given}
use Rattle.ksv_rule_laws.proofs.Common.{Holder, Leaf, Origin, ObjectEnd, Object, Head, end_in, head_node, end_node, rest_node, answer_of, expression, holds}
use Rattle.ksv_rule_laws.proofs.Common.{stream_for, members_of, Sought, sought, last_attribute, is_last, start_after, origin_of, instance_setting, calc}
use Rattle.ksv_rule_laws.proofs.Common.{IsOfLeaf, ValueMeets, IsNoStream, IsFieldOf, IsLeafOf, IsCountedBy, EndsAt}
use Rattle.std.specs.Prelude.{◌≡◌, ℕ, ◌+◌, ◌≤◌, ℤ, Bool, true, false, List, Option, Some, None, Result, Ok}
use Rattle.ksv_expr_value.specs.Setting.{NoElement}
use Rattle.ksv_expr_value.specs.declared.step.Step.TheVariants as steps
use Rattle.ksv_expr_value.specs.declared.value.Value.TheVariants as values
use Rattle.ksv_nodes.specs.declared.node.NodeKind.TheVariants as nodes
use Rattle.ksv_nodes.specs.declared.given.Given.TheVariants as givens
use Rattle.ksv_nodes.specs.declared.given.ObjectEnd.TheVariants as endings
use Rattle.ksv_nodes.specs.declared.given.List as lists
use Rattle.ksv_nodes.specs.declared.given.Head.TheVariants as heads
use Rattle.ksv_rule_meaning.specs.Heads.{root_head}
use Rattle.ksv_rule_laws.specs.Laws.{IsReadBy, IsObjectOf, IsEmptyList}

-- ---- what is read at a place

-- a byte isn't after the end of the stream w; where the place s isn't either, the byte isn't before it
pub record IsBehind (bytes : List ℕ) (w : Stream) (s : Place) (n : ℕ) : Type 0 where
  pub after : byte_of s ≤ end_in bytes w.to → byte_of s ≤ n
  pub inside : n ≤ end_in bytes w.to

-- what is read at the place s of the stream w by a member that reads as f says: bytes or bits, an object, a list, or nothing
module _ (bytes : List ℕ) (origin : Origin) (w : Stream) (s : Place) (f : Field) where
  -- bytes or bits; the case by which they are read was chosen there, if none was before
  pub record IsLeafAt (l : Leaf) : Type 0 where
    pub from : l.from ≡ s
    pub to : IsBehind bytes w s (byte_of l.to)
    pub end : IsBehind bytes w s (byte_of l.end)
    pub member : l.origin.member ≡ origin.member
    pub home : l.origin.home ≡ origin.home
    pub read : origin.case ≡ None → IsLeafOf l f

  -- an object has the stream, or one in it, which begins with the object
  pub record IsObjectAt (o : Object) : Type 0 where
    pub start : o.start ≡ s
    pub from : (o.stream.from ≡ w.from) ⊎ (o.stream.from ≡ byte_of s)
    pub to : IsBehind bytes w s (end_in bytes o.stream.to)
    pub by : Origin
    pub read_by : o.origin ≡ Some by
    pub member : by.member ≡ origin.member
    pub home : by.home ≡ origin.home
    pub read : IsObjectOf o.type_number by.case f

  -- a list has no case: each of its elements has its own
  pub record IsListAt (g : lists.List) : Type 0 where
    pub start : g.start ≡ s
    pub stream : g.stream ≡ w
    pub is : g.origin ≡ origin
    pub read : IsCountedBy f.repeat g

  abbrev pub IsHeadAt : Head → Type 0
  IsHeadAt (heads.Absent at) = at ≡ Some s
  IsHeadAt (heads.Calc c) = ⊥
  IsHeadAt (heads.Leaf l) = IsLeafAt l
  IsHeadAt (heads.Object o) = IsObjectAt o
  IsHeadAt (heads.List g) = IsListAt g

-- from the part of q on to which this step leads, a list has this many elements and ends here
pub record RestsAt (met : Node → Result Given NodeFault) (q : Trail) (step : Step) (count : ℕ) (place : Place) : Type 0 where
  pub path : Trail
  pub is : child q step ≡ Some path
  pub rested : met (rest_node path) ≡ Ok (givens.Rest count place)

-- the answers of the rules of the node's path, where each asked node has the answer that `met` gives
module _ (d : Description) (met : Node → Result Given NodeFault) (here : Trail) (bytes : List ℕ) where
  -- ---- members

  -- an attribute begins where its object does, or after the attribute before it
  abbrev pub IsStart : Object → Option ℕ → Choice → Place → Type 0
  IsStart o None c s = o.start ≡ s
  IsStart o (Some y) c s = (e : Place) × EndsAt met (parent here) (steps.Name y) e × (start_after e c ≡ s)

  -- an instance whose condition is false is nowhere
  abbrev pub IsOut : Object → Option Tree → Head → Type 0
  IsOut o condition h = (answer_of met here bytes (holds (instance_setting here (parent here) o) condition) ≡ Ok false) × (heads.Absent None ≡ h)

  -- a parse instance is read from a byte of its stream on
  pub record IsPlaced (o : Object) (m : Sought) (io : Option Tree) (f : Field) (h : Head) : Type 0 where
    pub stream : Stream
    pub named : answer_of met here bytes (stream_for (instance_setting here (parent here) o) io) ≡ Ok stream
    pub byte : ℕ
    pub behind : stream.from ≤ byte
    pub inside : byte ≤ end_in bytes stream.to
    pub is : IsHeadAt bytes (origin_of o m) stream (at_byte byte) f h

  abbrev pub IsMember : Object → Sought → MemberKind → Head → Type 0
  IsMember o m Parameter h = calc o m ≡ h
  IsMember o m (Attribute f) h = (s : Place) × IsStart o m.before f.choice s × IsHeadAt bytes (origin_of o m) o.stream s f h
  IsMember o m (ParseInstance e io f) h = IsOut o f.condition h ⊎ IsPlaced o m io f h
  IsMember o m (ValueInstance v) h = IsOut o v.condition h ⊎ (calc o m ≡ h)

  -- the member x of the object above
  pub record IsMemberOf (x : ℕ) (h : Head) : Type 0 where
    pub object : Object
    pub asked : met (head_node (parent here)) ≡ Ok (givens.Head (heads.Object object))
    pub member : Sought
    pub found : sought x 0 None (members_of d object.type_number) ≡ Some member
    pub is : IsMember object member member.kind h

  -- ---- elements

  -- an element begins where its list does, or where the element before it ends, which isn't the last
  pub record EndsBefore (i : ℕ) (s : Place) : Type 0 where
    pub before : ℕ
    pub next : i ≡ before + 1
    pub path : Trail
    pub is : child (parent here) (steps.Index before) ≡ Some path
    pub ended : met (end_node path) ≡ Ok (givens.End s false)

  -- the element i of the list above
  pub record IsElementOf (i : ℕ) (h : Head) : Type 0 where
    pub list : lists.List
    pub asked : met (head_node (parent here)) ≡ Ok (givens.Head (heads.List list))
    pub start : Place
    pub begins : ((i ≡ 0) × (list.start ≡ start)) ⊎ EndsBefore i start
    pub field : Field
    pub read : IsFieldOf d list.origin.member field
    pub is : IsHeadAt bytes list.origin list.stream start field h

  -- ---- heads

  abbrev pub IsHead : Option Step → Head → Type 0
  IsHead None h = root_head ≡ h
  IsHead (Some (steps.Name x)) h = IsMemberOf x h
  IsHead (Some (steps.Index i)) h = IsElementOf i h

  -- ---- values

  -- what an expression of a member gives is the value, and no stream, or a member of an enum
  abbrev pub IsPlain : Value → Value → Type 0
  IsPlain w v = (IsNoStream w × (w ≡ v)) ⊎ ((e : ℕ) × (n : ℤ) × (values.Member e n ≡ v))

  -- what is calculated is so given, in the stream of its object, or an argument in the one in which that object's member is
  pub record IsCalculatedIn (o : Holder) (v : Value) : Type 0 where
    pub setting : Setting
    pub tree : Tree
    pub first : Value
    pub was : answer_of met here bytes (expression setting tree) ≡ Ok first
    pub stream : (setting.stream ≡ o.stream) ⊎ ((g : Origin) × (o.origin ≡ Some g) × (setting.stream ≡ g.home))
    pub element : setting.element ≡ NoElement
    pub plain : IsPlain first v

  -- the value of a head: of a leaf that is read by a member of the description it fits the leaf
  abbrev pub IsValueAt : Head → Value → Type 0
  IsValueAt (heads.Absent at) v = ⊥
  IsValueAt (heads.Calc c) v = IsCalculatedIn c.object v
  IsValueAt (heads.Leaf l) v = IsReadBy d l.origin.member (IsLeafOf l) → IsOfLeaf l v
  IsValueAt (heads.Object o) v = v ≡ values.Object here
  IsValueAt (heads.List g) v = v ≡ values.List here

  -- a value is made of the head at its path, and then checked
  pub record IsMadeOf (v : Value) : Type 0 where
    pub head : Head
    pub asked : met (head_node here) ≡ Ok (givens.Head head)
    pub is : IsValueAt head v
    pub meets : ValueMeets met bytes d here head v

  -- ---- ends

  -- an object that ends with its fields ends after its last attribute
  abbrev pub IsFieldsEnd : Place → Option ℕ → Place → Type 0
  IsFieldsEnd start None e = start ≡ e
  IsFieldsEnd start (Some z) e = (n : Place) × EndsAt met here (steps.Name z) n × (aligned n ≡ e)

  abbrev pub IsObjectEnd : Object → ObjectEnd → Place → Type 0
  IsObjectEnd o endings.OfStream e = at_byte (end_in bytes o.stream.to) ≡ e
  IsObjectEnd o endings.ByFields e = IsFieldsEnd o.start (last_attribute None (members_of d o.type_number)) e

  abbrev pub IsEnd : Head → Place → Type 0
  IsEnd (heads.Absent None) e = ⊥
  IsEnd (heads.Absent (Some s)) e = s ≡ e
  IsEnd (heads.Calc c) e = ⊥
  IsEnd (heads.Leaf l) e = l.end ≡ e
  IsEnd (heads.Object o) e = IsObjectEnd o o.ending e
  IsEnd (heads.List g) e = (count : ℕ) × RestsAt met here (steps.Index 0) count e

  -- an element is the last one where the `repeat` of its list says so
  pub record IsLastOf (i : ℕ) (e : Place) (so : Bool) : Type 0 where
    pub list : lists.List
    pub asked : met (head_node (parent here)) ≡ Ok (givens.Head (heads.List list))
    pub field : Field
    pub read : IsFieldOf d list.origin.member field
    pub says : answer_of met here bytes (is_last (parent (parent here)) list here i e field.repeat) ≡ Ok so

  abbrev pub IsLast : Option Step → Place → Bool → Type 0
  IsLast (Some (steps.Index i)) e so = IsLastOf i e so
  IsLast _ e so = false ≡ so

  pub record IsEndOf (e : Place) (so : Bool) : Type 0 where
    pub head : Head
    pub asked : met (head_node here) ≡ Ok (givens.Head head)
    pub is : IsEnd head e
    pub last : IsLast (last here) e so

  -- ---- rests

  -- the element i is the last one, or the list goes on after it
  abbrev pub IsRestFrom : ℕ → ℕ → Place → Type 0
  IsRestFrom i count place = ((i + 1 ≡ count) × (met (end_node here) ≡ Ok (givens.End place true)))
      ⊎ ((e : Place) × (met (end_node here) ≡ Ok (givens.End e false)) × RestsAt met (parent here) (steps.Index (i + 1)) count place)

  abbrev pub IsRest : Option Step → ℕ → Place → Type 0
  IsRest (Some (steps.Index i)) count place = ((i ≡ 0) × IsEmptyList met (parent here) count place) ⊎ IsRestFrom i count place
  IsRest _ count place = ⊥

  -- ---- answers

  -- an answer has the form of its node's kind
  abbrev pub IsAnswer : NodeKind → Given → Type 0
  IsAnswer nodes.Head (givens.Head h) = IsHead (last here) h
  IsAnswer nodes.Value (givens.Value v) = IsMadeOf v
  IsAnswer nodes.End (givens.End place so) = IsEndOf place so
  IsAnswer nodes.Rest (givens.Rest count place) = IsRest (last here) count place
  IsAnswer _ _ = ⊥
