-- Laws of what nodes answer. They speak of the definitions alone: an error that a rule and its function had in common would break
-- them. These laws are this project's own.
use Rattle.std.specs.Prelude.{◌≡◌, ◌↔◌, ℕ, ◌+◌, ◌%◌, ◌==◌, ◌<◌, ◌≤◌, ◌⊎◌, slice_get, Bool, true, false, List, [], ◌∷◌, ◌++◌, Contains, length, Option, Some, None, Result, Ok, Err}
use Rattle.std.specs.List.{AllByRecursion}
use Rattle.ksv_expr_value.specs.Places.{Place, byte_of, further}
use Rattle.ksv_expr_value.specs.Setting.{Setting, Made}
use Rattle.ksv_expr_value.specs.Trail.{Trail, child, parent, last}
use Rattle.ksv_expr_value.specs.declared.step.Step.{Step}
use Rattle.ksv_expr_value.specs.declared.step.Step.TheVariants.{Index, Name}
use Rattle.ksv_expr_value.specs.declared.value.Stream.{Stream}
use Rattle.ksv_expr_value.specs.declared.value.Value.{Value}
use Rattle.ksv_expr_value.specs.declared.value.Value.TheVariants as values
use Rattle.ksv_expr_tree.specs.Tree.{Tree, Arguments}
use Rattle.ksv_desc.specs.Description.{Description, MemberOfType, MemberKind, Parameter, Attribute, ParseInstance, ValueInstance, Field, Content, Case, Choice, Always, Switch, Repeat, Once, Expr, Valid, AnyOf, AllOf, valid_of}
use Rattle.ksv_desc.specs.Description as contents
use Rattle.ksv_memo_rules.specs.Evaluation.{is_among}
use Rattle.ksv_memo_rules.specs.Meaning.{on}
use Rattle.ksv_memo_rules.specs.Right.{AreDistinct}
use Rattle.ksv_nodes.specs.declared.node.Node.{Node}
use Rattle.ksv_nodes.specs.declared.node_fault.NodeFault.{NodeFault}
use Rattle.ksv_nodes.specs.declared.node_fault.NodeFault.TheVariants as faults
use Rattle.ksv_nodes.specs.declared.node.NodeKind.{NodeKind}
use Rattle.ksv_nodes.specs.declared.node.NodeKind.TheVariants as nodes
use Rattle.ksv_nodes.specs.declared.given.Given.{Given}
use Rattle.ksv_nodes.specs.declared.given.Given.TheVariants as givens
use Rattle.ksv_nodes.specs.declared.given.Head.{Head}
use Rattle.ksv_nodes.specs.declared.given.Head.TheVariants as heads
use Rattle.ksv_nodes.specs.declared.given.Holder.{Holder}
use Rattle.ksv_nodes.specs.declared.given.Leaf.{Leaf}
use Rattle.ksv_nodes.specs.declared.given.List as lists
use Rattle.ksv_nodes.specs.declared.given.MemberRef.{MemberRef}
use Rattle.ksv_nodes.specs.declared.given.Object.{Object}
use Rattle.ksv_nodes.specs.declared.given.Origin.{Origin}
use Rattle.ksv_nodes.specs.Numbers.{node_number}
use Rattle.ksv_nodes.specs.Reading.{end_in}
use Rattle.ksv_nodes.specs.Rule.{head_node, value_node, end_node, rest_node}
use Rattle.ksv_nodes.specs.Truth.{answer_of, asks_of}
use Rattle.ksv_rule_meaning.specs.Ends.{start_of}
use Rattle.ksv_rule_meaning.specs.Fields.{members_of, is_attribute, Sought, sought}
use Rattle.ksv_rule_meaning.specs.Heads.{member_setting, instance_setting, holder_setting, holder_of}
use Rattle.ksv_rule_meaning.specs.Wanted.{expression, holds}
use Rattle.ksv_rule_meaning.specs.Meaning.{rule_of}
use Rattle.ksv_rule_meaning.specs.FromNothing.{from_nothing, asks}
use Rattle.ksv_rule_meaning.specs.Described.{described}

-- ---- forms

-- only an expression that names a stream gives one
abbrev pub IsNoStream : Value → Type 0
IsNoStream (values.Stream w) = ⊥
IsNoStream _ = Unit {0}

-- the form of each kind of node; a value is no stream
abbrev pub HasForm : NodeKind → Given → Type 0
HasForm nodes.Head (givens.Head h) = Unit {0}
HasForm nodes.Value (givens.Value v) = IsNoStream v
HasForm nodes.End (givens.End place last) = Unit {0}
HasForm nodes.Rest (givens.Rest count place) = Unit {0}
HasForm _ _ = ⊥

-- An answer that is no fault has its node's form, whatever is open.
abbrev pub AnswersHaveForms : Type 0
AnswersHaveForms = (d : Description) (bytes : List ℕ) (opened : List Node) (n : Node) (g : Given) → from_nothing d bytes opened n ≡ Ok g → HasForm n.kind g

-- ---- open nodes

-- all of the first nodes are among the second
abbrev pub AreAmong : List Node → List Node → Type 0
AreAmong others opened = (m : Node) → is_among node_number others m ≡ true → is_among node_number opened m ≡ true

-- With fewer nodes open, a node gives the same answer, unless it was a fault: what is open makes faults and nothing else.
abbrev pub AnswersStay : Type 0
AnswersStay = (d : Description) (bytes : List ℕ) (opened others : List Node) (n : Node) (g : Given) → AreAmong others opened → from_nothing d bytes opened n ≡ Ok g → from_nothing d bytes others n ≡ Ok g

-- ---- values

-- the value of a leaf: an integer, a member of an enum, a text, bytes from the leaf's first one on, or, of one bit, a truth value
abbrev pub IsOfLeaf : Leaf → Value → Type 0
IsOfLeaf l (values.Int n) = Unit {0}
IsOfLeaf l (values.Bool b) = l.to.bits ≡ l.from.bits + 1
IsOfLeaf l (values.Member e n) = Unit {0}
IsOfLeaf l (values.Text t) = Unit {0}
IsOfLeaf l (values.Bytes from to) = (from ≡ byte_of l.from) × (to ≤ byte_of l.to)
IsOfLeaf l _ = ⊥

-- the value of what is at a path: of an object and of a list it is that path, what is absent has none, and what is calculated is
-- no stream
abbrev pub IsOfHead : Trail → Head → Value → Type 0
IsOfHead p (heads.Absent at) v = ⊥
IsOfHead p (heads.Calc c) v = IsNoStream v
IsOfHead p (heads.Leaf l) v = IsOfLeaf l v
IsOfHead p (heads.Object o) v = v ≡ values.Object p
IsOfHead p (heads.List g) v = v ≡ values.List p

-- the head at a path is answered too, and the value is one of it
pub record HasHead (d : Description) (bytes : List ℕ) (opened : List Node) (p : Trail) (v : Value) : Type 0 where
  pub head : Head
  pub answered : from_nothing d bytes opened (head_node p) ≡ Ok (givens.Head head)
  pub fits : IsOfHead p head v

-- A value is one of the head at its path.
abbrev pub ValuesHaveHeads : Type 0
ValuesHaveHeads = (d : Description) (bytes : List ℕ) (opened : List Node) (p : Trail) (v : Value) → from_nothing d bytes opened (value_node p) ≡ Ok (givens.Value v) → HasHead d bytes opened p v

-- ---- checks

-- a condition is true, or false, in the rule of what is at the path `here`, where each asked node has the answer that `met` gives
abbrev pub Gives : (Node → Result Given NodeFault) → Trail → List ℕ → Setting → Bool → Tree → Type 0
Gives met here bytes at b e = answer_of met here bytes (expression at e) ≡ Ok (values.Bool b)

-- one of some conditions is true, and all before it are false
pub record HasTrue (met : Node → Result Given NodeFault) (here : Trail) (bytes : List ℕ) (at : Setting) (es : List Tree) : Type 0 where
  pub front : List Tree
  pub condition : Tree
  pub rest : List Tree
  pub is : es ≡ front ++ condition ∷ rest
  pub before : AllByRecursion (Gives met here bytes at false) front
  pub holds : Gives met here bytes at true condition

-- what a value must meet is met
abbrev pub IsMet : (Node → Result Given NodeFault) → Trail → List ℕ → Setting → Valid → Type 0
IsMet met here bytes at (AnyOf es) = HasTrue met here bytes at es
IsMet met here bytes at (AllOf es) = AllByRecursion (Gives met here bytes at true) es

-- a value meets what the values of the member at this place must; `_` is that value
abbrev pub MeetsMember : (Node → Result Given NodeFault) → Trail → List ℕ → Description → MemberRef → Setting → Value → Type 0
MeetsMember met here bytes d r at v = (m : MemberOfType) (x : Valid) → slice_get (members_of d r.type_number) r.member ≡ Some m → valid_of m.kind ≡ Some x → IsMet met here bytes (record at { element = Made v }) x

-- The same of what is at a path: bytes and an object by the member that reads them, where they are and with their number in a list; the
-- value of what is calculated, in its object. Of a list nothing is asked.
abbrev pub ObjectMeets : (Node → Result Given NodeFault) → List ℕ → Description → Trail → Object → Option Origin → Value → Type 0
ObjectMeets met bytes d p o None v = Unit {0}
ObjectMeets met bytes d p o (Some g) v = MeetsMember met p bytes d g.member (member_setting p p (last p) g o.start) v

abbrev pub ValueMeets : (Node → Result Given NodeFault) → List ℕ → Description → Trail → Head → Value → Type 0
ValueMeets met bytes d p (heads.Absent at) v = Unit {0}
ValueMeets met bytes d p (heads.Calc c) v = MeetsMember met p bytes d (record { type_number = c.object.type_number; member = c.member }) (holder_setting p (parent p) c.object) v
ValueMeets met bytes d p (heads.Leaf l) v = MeetsMember met p bytes d l.origin.member (member_setting p p (last p) l.origin l.from) v
ValueMeets met bytes d p (heads.Object o) v = ObjectMeets met bytes d p o o.origin v
ValueMeets met bytes d p (heads.List g) v = Unit {0}

-- A value that is answered meets what it must.
abbrev pub ValuesMeetChecks : Type 0
ValuesMeetChecks = (d : Description) (bytes : List ℕ) (opened : List Node) (p : Trail) (h : Head) (v : Value) → from_nothing d bytes opened (head_node p) ≡ Ok (givens.Head h)
    → from_nothing d bytes opened (value_node p) ≡ Ok (givens.Value v) → ValueMeets (from_nothing d bytes opened) bytes d p h v

-- ---- circles

-- a node that the rule of another asked answered this fault, where each asked node has the answer that `met` gives
pub record HasSource (d : Description) (bytes : List ℕ) (met : Node → Result Given NodeFault) (n : Node) (f : NodeFault) : Type 0 where
  pub node : Node
  pub asked : Contains (asks_of met n.path bytes (rule_of d n)) node
  pub answer : met node ≡ Err f

-- No rule makes a circle: whatever the nodes that it asks answer, a fault of this kind is the answer of one of them.
abbrev pub NoRuleMakesCircles : Type 0
NoRuleMakesCircles = (d : Description) (bytes : List ℕ) (met : Node → Result Given NodeFault) (n : Node) (p : Trail) → answer_of met n.path bytes (rule_of d n) ≡ Err (faults.Circle p) → HasSource d bytes met n (faults.Circle p)

-- A way from a node on: each node of it is asked by the one before, while that one and all before it are open, and the last is open
-- already; that one is of this path.
abbrev pub LeadsBack : Description → List ℕ → List Node → Node → List Node → Trail → Type 0
LeadsBack d bytes opened n [] p = (is_among node_number opened n ≡ true) × (n.path ≡ p)
LeadsBack d bytes opened n (m ∷ way) p = (is_among node_number opened n ≡ false) × Contains (asks d bytes opened n) m × LeadsBack d bytes (n ∷ opened) m way p

-- A node answers the fault circle at a path just where such a way leads from it to an open node of this path.
abbrev pub CirclesLeadBack : Type 0
CirclesLeadBack = (d : Description) (bytes : List ℕ) (opened : List Node) (n : Node) (p : Trail) → AreDistinct (on (described d) bytes) opened → (from_nothing d bytes opened n ≡ Err (faults.Circle p)) ↔ ((way : List Node) × LeadsBack d bytes opened n way p)

-- ---- sources

-- a member that is read reads so
abbrev pub Reads : MemberKind → Field → Type 0
Reads (Attribute g) f = g ≡ f
Reads (ParseInstance e io g) f = g ≡ f
Reads _ f = ⊥

-- the attribute or parse instance of this place reads so
abbrev pub IsFieldOf : Description → MemberRef → Field → Type 0
IsFieldOf d r f = (m : MemberOfType) × (slice_get (members_of d r.type_number) r.member ≡ Some m) × Reads m.kind f

-- that of this place is one of which this is true
pub record IsReadBy (d : Description) (r : MemberRef) (P : Field → Type 0) : Type 0 where
  pub field : Field
  pub is : IsFieldOf d r field
  pub so : P field

-- what is read by a case: where a switch chose none, bytes
abbrev pub IsContentOf : Choice → Option ℕ → Content → Type 0
IsContentOf (Always c) None k = c ≡ k
IsContentOf (Always c) (Some i) k = ⊥
IsContentOf (Switch on cases) None k = k ≡ contents.Bytes
IsContentOf (Switch on cases) (Some i) k = (c : Case) × (slice_get cases i ≡ Some c) × (c.content ≡ k)

-- bytes are read by a content that is no object, an object by one of its type
abbrev pub IsNoObject : Content → Type 0
IsNoObject (contents.Object t given) = ⊥
IsNoObject _ = Unit {0}

-- this many bits as the content says
abbrev pub IsAsWide : Content → Leaf → Type 0
IsAsWide (contents.Bits width enum) l = l.to ≡ further l.from width
IsAsWide _ l = Unit {0}

abbrev pub IsLeafOf : Leaf → Field → Type 0
IsLeafOf l f = (c : Content) × IsContentOf f.choice l.origin.case c × IsNoObject c × IsAsWide c l

abbrev pub IsObjectOf : ℕ → Option ℕ → Field → Type 0
IsObjectOf t case f = (given : Arguments) × IsContentOf f.choice case (contents.Object t given)

-- a list knows how many elements it has just where `repeat-expr` tells it, and is then empty just where there are none
abbrev pub IsCountedBy : Repeat → lists.List → Type 0
IsCountedBy Once g = ⊥
IsCountedBy (Expr e) g = (n : ℕ) × (g.count ≡ Some n) × (g.is_empty ≡ (n == 0))
IsCountedBy _ g = g.count ≡ None

-- an object that isn't the root is read by a content of its type
abbrev pub IsObjectRead : Description → Option Origin → ℕ → Type 0
IsObjectRead d None t = Unit {0}
IsObjectRead d (Some g) t = IsReadBy d g.member (IsObjectOf t g.case)

-- a member whose value isn't read at a place of its own
abbrev pub IsCalculated : MemberKind → Type 0
IsCalculated Parameter = Unit {0}
IsCalculated (ValueInstance v) = Unit {0}
IsCalculated _ = ⊥

-- the member of this place of a type is such a one
abbrev pub IsCalculatedBy : Description → ℕ → ℕ → Type 0
IsCalculatedBy d t i = (m : MemberOfType) × (slice_get (members_of d t) i ≡ Some m) × IsCalculated m.kind

-- bytes, objects and lists are read by a member of the description, by the case of its switch; a list by one that repeats
abbrev pub IsRead : Description → Head → Type 0
IsRead d (heads.Absent at) = Unit {0}
IsRead d (heads.Calc c) = IsCalculatedBy d c.object.type_number c.member × IsObjectRead d c.object.origin c.object.type_number
IsRead d (heads.Leaf l) = IsReadBy d l.origin.member (IsLeafOf l)
IsRead d (heads.Object o) = IsObjectRead d o.origin o.type_number
IsRead d (heads.List g) = IsReadBy d g.origin.member (λ f. IsCountedBy f.repeat g)

-- What is at a path is read, or calculated, by a member of the description.
abbrev pub HeadsAreRead : Type 0
HeadsAreRead = (d : Description) (bytes : List ℕ) (opened : List Node) (p : Trail) (h : Head) → from_nothing d bytes opened (head_node p) ≡ Ok (givens.Head h) → IsRead d h

-- ---- attributes

-- x names an attribute with no other before it, of the members of a type; none before it has this name
pub record IsFirst (ms : List MemberOfType) (x : ℕ) : Type 0 where
  pub front : List MemberOfType
  pub member : MemberOfType
  pub rest : List MemberOfType
  pub is : ms ≡ front ++ member ∷ rest
  pub named : member.name ≡ x
  pub attribute : is_attribute member.kind ≡ true
  pub apart : AllByRecursion (λ m. (m.name == x) ≡ false) front
  pub none : AllByRecursion (λ m. is_attribute m.kind ≡ false) front

-- x names an attribute, y the one before it with no other between them; no member before it has the name x
pub record Follows (ms : List MemberOfType) (y x : ℕ) : Type 0 where
  pub front : List MemberOfType
  pub first : MemberOfType
  pub between : List MemberOfType
  pub second : MemberOfType
  pub rest : List MemberOfType
  pub is : ms ≡ (front ++ first ∷ between) ++ second ∷ rest
  pub first_named : first.name ≡ y
  pub attribute : is_attribute first.kind ≡ true
  pub none : AllByRecursion (λ m. is_attribute m.kind ≡ false) between
  pub named : second.name ≡ x
  pub second_attribute : is_attribute second.kind ≡ true
  pub apart : AllByRecursion (λ m. (m.name == x) ≡ false) (front ++ first ∷ between)

-- the part of q to which this step leads ends here
pub record EndsAt (met : Node → Result Given NodeFault) (q : Trail) (step : Step) (place : Place) : Type 0 where
  pub path : Trail
  pub is : child q step ≡ Some path
  pub is_last : Bool
  pub ended : met (end_node path) ≡ Ok (givens.End place is_last)

-- bits are read each time
abbrev pub AreBits : Choice → Type 0
AreBits (Always (contents.Bits width enum)) = Unit {0}
AreBits _ = ⊥

-- a byte begins at the second place, and none begins between the two: fewer than 8 bits are passed over
pub record IsNextByte (e s : Place) : Type 0 where
  pub begins : s.bits % 8 ≡ 0
  pub behind : e.bits ≤ s.bits
  pub near : s.bits < e.bits + 8

-- what an attribute reads after a place begins there if it is bits, and else at the next byte
abbrev pub BeginsAfter : MemberKind → Place → Place → Type 0
BeginsAfter (Attribute f) e s = (AreBits f.choice → s ≡ e) × ((AreBits f.choice → ⊥) → IsNextByte e s)
BeginsAfter _ e s = ⊥

-- the part of q to which this step leads ends somewhere, and a member begins after that place
pub record FollowsPart (met : Node → Result Given NodeFault) (q : Trail) (step : Step) (k : MemberKind) (s : Place) : Type 0 where
  pub place : Place
  pub ends : EndsAt met q step place
  pub begins : BeginsAfter k place s

-- The first attribute of a type begins where its object does, and each further one after the one before it.
abbrev pub FirstAttributesBegin : Type 0
FirstAttributesBegin = (d : Description) (bytes : List ℕ) (opened : List Node) (p : Trail) (x : ℕ) (h : Head) (o : Object) → last p ≡ Some (Name x) → from_nothing d bytes opened (head_node p) ≡ Ok (givens.Head h)
    → from_nothing d bytes opened (head_node (parent p)) ≡ Ok (givens.Head (heads.Object o)) → IsFirst (members_of d o.type_number) x → start_of h ≡ o.start

abbrev pub AttributesTouch : Type 0
AttributesTouch = (d : Description) (bytes : List ℕ) (opened : List Node) (p : Trail) (x y : ℕ) (h : Head) (o : Object) → last p ≡ Some (Name x) → from_nothing d bytes opened (head_node p) ≡ Ok (givens.Head h)
    → from_nothing d bytes opened (head_node (parent p)) ≡ Ok (givens.Head (heads.Object o)) → (two : Follows (members_of d o.type_number) y x) → FollowsPart (from_nothing d bytes opened) (parent p) (Name y) two.second.kind (start_of h)

-- ---- elements

-- the element before, whose number is i, isn't the last, and ends where this head begins
pub record EndsBefore (d : Description) (bytes : List ℕ) (opened : List Node) (p : Trail) (i : ℕ) (h : Head) : Type 0 where
  pub before : Trail
  pub path : child (parent p) (Index i) ≡ Some before
  pub ended : from_nothing d bytes opened (end_node before) ≡ Ok (givens.End (start_of h) false)

-- An element after another begins where that one ends.
abbrev pub ElementsTouch : Type 0
ElementsTouch = (d : Description) (bytes : List ℕ) (opened : List Node) (p : Trail) (i : ℕ) (h : Head) → last p ≡ Some (Index (i + 1)) → from_nothing d bytes opened (head_node p) ≡ Ok (givens.Head h) → EndsBefore d bytes opened p i h

-- ---- counts

-- the element j of l ends; it is the last just where j + 1 is c, and then it ends at this place
pub record EndsAsOf (met : Node → Result Given NodeFault) (l : Trail) (j c : ℕ) (place : Place) : Type 0 where
  pub path : Trail
  pub is : child l (Index j) ≡ Some path
  pub ends : Place
  pub ended : met (end_node path) ≡ Ok (givens.End ends (j + 1 == c))
  pub last_ends : j + 1 ≡ c → ends ≡ place

-- l has the elements i to c - 1, the last of which ends at this place
pub record AreElements (met : Node → Result Given NodeFault) (l : Trail) (i c : ℕ) (place : Place) : Type 0 where
  pub some : i < c
  pub each : (j : ℕ) → i ≤ j → j < c → EndsAsOf met l j c place

-- l is a list without elements, which ends where it begins
pub record IsEmptyList (met : Node → Result Given NodeFault) (l : Trail) (c : ℕ) (place : Place) : Type 0 where
  pub list : lists.List
  pub answered : met (head_node l) ≡ Ok (givens.Head (heads.List list))
  pub empty : list.is_empty ≡ true
  pub none : c ≡ 0
  pub start : list.start ≡ place

-- What is answered of a list from its first element on: it has this many elements, each of which ends, and it ends with the last.
abbrev pub RestsCount : Type 0
RestsCount = (d : Description) (bytes : List ℕ) (opened : List Node) (p : Trail) (c : ℕ) (place : Place) → last p ≡ Some (Index 0) → from_nothing d bytes opened (rest_node p) ≡ Ok (givens.Rest c place)
    → IsEmptyList (from_nothing d bytes opened) (parent p) c place ⊎ AreElements (from_nothing d bytes opened) (parent p) 0 c place

-- A list has as many elements as it is told to have.
abbrev pub ToldCounts : Type 0
ToldCounts = (d : Description) (bytes : List ℕ) (opened : List Node) (p : Trail) (c : ℕ) (place : Place) (g : lists.List) (n : ℕ) → last p ≡ Some (Index 0) → from_nothing d bytes opened (rest_node p) ≡ Ok (givens.Rest c place)
    → from_nothing d bytes opened (head_node (parent p)) ≡ Ok (givens.Head (heads.List g)) → g.count ≡ Some n → c ≡ n

-- ---- places

-- in a file of this many bytes: the end of a stream, where it has one of its own
abbrev pub IsEndIn : ℕ → Option ℕ → Type 0
IsEndIn size None = Unit {0}
IsEndIn size (Some t) = t ≤ size

-- a place, where there is one
abbrev pub IsPlaceIn : ℕ → Option Place → Type 0
IsPlaceIn size None = Unit {0}
IsPlaceIn size (Some s) = byte_of s ≤ size

-- a stream
abbrev pub IsStreamIn : ℕ → Stream → Type 0
IsStreamIn size w = (w.from ≤ size) × IsEndIn size w.to

-- the stream of the object that holds what is read
abbrev pub IsHomeIn : ℕ → Option Origin → Type 0
IsHomeIn size None = Unit {0}
IsHomeIn size (Some g) = IsStreamIn size g.home

-- each place in what is known of an object, in an object, in a head, in a value and in any answer: it is a place of a byte, or the
-- end of the file
abbrev pub IsHolderIn : ℕ → Holder → Type 0
IsHolderIn size o = (byte_of o.start ≤ size) × IsStreamIn size o.stream × IsHomeIn size o.origin

abbrev pub IsObjectIn : ℕ → Object → Type 0
IsObjectIn size o = IsHolderIn size (holder_of o)

abbrev pub IsHeadIn : ℕ → Head → Type 0
IsHeadIn size (heads.Absent at) = IsPlaceIn size at
IsHeadIn size (heads.Calc c) = IsHolderIn size c.object
IsHeadIn size (heads.Leaf l) = (byte_of l.from ≤ size) × (byte_of l.to ≤ size) × (byte_of l.end ≤ size) × IsStreamIn size l.origin.home
IsHeadIn size (heads.Object o) = IsObjectIn size o
IsHeadIn size (heads.List g) = (byte_of g.start ≤ size) × IsStreamIn size g.stream × IsStreamIn size g.origin.home

abbrev pub IsValueIn : ℕ → Value → Type 0
IsValueIn size (values.Bytes from to) = (from ≤ size) × (to ≤ size)
IsValueIn size _ = Unit {0}

abbrev pub IsIn : ℕ → Given → Type 0
IsIn size (givens.Head h) = IsHeadIn size h
IsIn size (givens.Value v) = IsValueIn size v
IsIn size (givens.End place last) = byte_of place ≤ size
IsIn size (givens.Rest count place) = byte_of place ≤ size

-- Each place in an answer lies in the file: nothing begins or ends after its last byte.
abbrev pub PlacesAreInFile : Type 0
PlacesAreInFile = (d : Description) (bytes : List ℕ) (opened : List Node) (n : Node) (g : Given) → from_nothing d bytes opened n ≡ Ok g → IsIn (length bytes) g

-- ---- streams

-- a place of a stream, or its end
abbrev pub IsBetween : List ℕ → Stream → ℕ → Type 0
IsBetween bytes w n = (w.from ≤ n) × (n ≤ end_in bytes w.to)

-- What is read lies in a stream. Bytes don't end before they begin; an object begins in a stream of its own, which lies in the other;
-- elements are read in the stream of their list.
abbrev pub LiesIn : List ℕ → Stream → Head → Type 0
LiesIn bytes w (heads.Absent None) = ⊥
LiesIn bytes w (heads.Absent (Some s)) = IsBetween bytes w (byte_of s)
LiesIn bytes w (heads.Calc c) = Unit {0}
LiesIn bytes w (heads.Leaf l) = IsBetween bytes w (byte_of l.from) × IsBetween bytes w (byte_of l.to) × IsBetween bytes w (byte_of l.end) × (byte_of l.from ≤ byte_of l.to)
LiesIn bytes w (heads.Object o) = IsBetween bytes w (byte_of o.start) × IsBetween bytes w o.stream.from × (end_in bytes o.stream.to ≤ end_in bytes w.to) × IsBetween bytes o.stream (byte_of o.start)
LiesIn bytes w (heads.List g) = IsBetween bytes w (byte_of g.start) × (g.stream ≡ w)

-- The stream in which a member of an object, at the path p, is read: of a parse instance with `io` the one that its `io` answers,
-- evaluated where its object begins; of any other member the object's own.
abbrev pub IsStreamFor : (Node → Result Given NodeFault) → List ℕ → Trail → Object → MemberKind → Stream → Type 0
IsStreamFor met bytes p o (ParseInstance e (Some io) f) w = answer_of met p bytes (expression (instance_setting p (parent p) o) io) ≡ Ok (values.Stream w)
IsStreamFor met bytes p o _ w = o.stream ≡ w

-- the stream in which what a step of an object or a list leads to is read: an element in its list's
abbrev pub IsReadIn : Description → (Node → Result Given NodeFault) → List ℕ → Trail → Head → Option Step → Stream → Type 0
IsReadIn d met bytes p (heads.Object o) (Some (Name x)) w = (s : Sought) × (sought x 0 None (members_of d o.type_number) ≡ Some s) × IsStreamFor met bytes p o s.kind w
IsReadIn d met bytes p (heads.List g) (Some (Index i)) w = g.stream ≡ w
IsReadIn d met bytes p _ step w = ⊥

-- this is true of the stream in which what is at a path is read
pub record IsHeld (d : Description) (bytes : List ℕ) (met : Node → Result Given NodeFault) (p : Trail) (P : Stream → Type 0) : Type 0 where
  pub holder : Head
  pub answered : met (head_node (parent p)) ≡ Ok (givens.Head holder)
  pub stream : Stream
  pub read : IsReadIn d met bytes p holder (last p) stream
  pub lies : P stream

-- the condition of an instance of an object, evaluated where the object begins, is false
abbrev pub IsUnmet : (Node → Result Given NodeFault) → List ℕ → Trail → Object → MemberKind → Type 0
IsUnmet met bytes p o (ParseInstance e io f) = answer_of met p bytes (holds (instance_setting p (parent p) o) f.condition) ≡ Ok false
IsUnmet met bytes p o (ValueInstance v) = answer_of met p bytes (holds (instance_setting p (parent p) o) v.condition) ≡ Ok false
IsUnmet met bytes p o _ = ⊥

-- this step of an object leads to such an instance
abbrev pub IsUnmetAt : Description → (Node → Result Given NodeFault) → List ℕ → Trail → Object → Option Step → Type 0
IsUnmetAt d met bytes p o (Some (Name x)) = (s : Sought) × (sought x 0 None (members_of d o.type_number) ≡ Some s) × IsUnmet met bytes p o s.kind
IsUnmetAt d met bytes p o _ = ⊥

-- what is at a path is an instance, of the object above, whose condition is false: it lies nowhere
pub record IsLeftOut (d : Description) (bytes : List ℕ) (met : Node → Result Given NodeFault) (p : Trail) (h : Head) : Type 0 where
  pub nowhere : h ≡ heads.Absent None
  pub object : Object
  pub answered : met (head_node (parent p)) ≡ Ok (givens.Head (heads.Object object))
  pub unmet : IsUnmetAt d met bytes p object (last p)

-- no two members of a type have one name: `load` accepts no other descriptions
abbrev pub AreNamesDistinct : List MemberOfType → Type 0
AreNamesDistinct [] = Unit {0}
AreNamesDistinct (m ∷ ms) = AllByRecursion (λ n. (n.name == m.name) ≡ false) ms × AreNamesDistinct ms

abbrev pub HasDistinctNames : Description → Type 0
HasDistinctNames d = (t : ℕ) → AreNamesDistinct (members_of d t)

-- What is at a path, and where it ends, lies in the stream of the object or list that holds it; a parse instance with `io` in the one
-- that its `io` answers. An instance whose `if` is false lies nowhere, and nothing else does.
abbrev pub HeadsLieInStreams : Type 0
HeadsLieInStreams = (d : Description) (bytes : List ℕ) (opened : List Node) (p : Trail) (step : Step) (h : Head) → HasDistinctNames d → last p ≡ Some step → from_nothing d bytes opened (head_node p) ≡ Ok (givens.Head h)
    → IsLeftOut d bytes (from_nothing d bytes opened) p h ⊎ IsHeld d bytes (from_nothing d bytes opened) p (λ w. LiesIn bytes w h)

abbrev pub EndsLieInStreams : Type 0
EndsLieInStreams = (d : Description) (bytes : List ℕ) (opened : List Node) (p : Trail) (step : Step) (place : Place) (is_last : Bool) → HasDistinctNames d → last p ≡ Some step → from_nothing d bytes opened (end_node p) ≡ Ok (givens.End place is_last)
    → IsHeld d bytes (from_nothing d bytes opened) p (λ w. IsBetween bytes w (byte_of place))
