-- The nodes of a plain list's elements, and what each of them is to answer, to ask and to use: in closed form, by numbers alone.
use Rattle.std.specs.Prelude.{◌≡◌, ℕ, zero, suc, ◌+◌, ◌-◌, ◌*◌, ◌==◌, ◌<◌, ◌≤◌, ◌⊎◌, nat_lt, nat_le, Bool, true, false, if◌then◌else◌, List, [], ◌∷◌, length}
use Rattle.std.specs.Prelude.{Option, Some, None, is_some, option_map, option_and_then, unwrap_or, Result, Ok, Err, pos, slice_range}
use Rattle.ksv_basics.specs.Plan.{Answer}
use Rattle.ksv_bytes.specs.declared.uses.Use.{Use}
use Rattle.ksv_bytes.specs.declared.uses.Use.TheVariants as uses_are
use Rattle.ksv_expr_value.specs.Places.{at_byte}
use Rattle.ksv_expr_value.specs.Trail.{Trail, child, element_limit}
use Rattle.ksv_expr_value.specs.declared.fault.Fault.{Fault}
use Rattle.ksv_expr_value.specs.declared.fault.FaultKind.TheVariants as kinds
use Rattle.ksv_expr_value.specs.declared.step.Step.TheVariants as steps
use Rattle.ksv_expr_value.specs.declared.value.Value.{Value}
use Rattle.ksv_expr_value.specs.declared.value.Value.TheVariants as values
use Rattle.ksv_desc.specs.Description.{Description, Attribute, Choice, Always}
use Rattle.ksv_desc.specs.Description as contents
use Rattle.ksv_memo_rules.specs.Slots.{with_first}
use Rattle.ksv_nodes.specs.declared.node.Node.{Node}
use Rattle.ksv_nodes.specs.declared.node.NodeKind.{NodeKind}
use Rattle.ksv_nodes.specs.declared.node.NodeKind.TheVariants as nodes
use Rattle.ksv_nodes.specs.declared.given.Given.{Given}
use Rattle.ksv_nodes.specs.declared.given.Given.TheVariants as givens
use Rattle.ksv_nodes.specs.declared.given.Head.TheVariants as heads
use Rattle.ksv_nodes.specs.declared.given.List as lists
use Rattle.ksv_nodes.specs.declared.given.Object.{Object}
use Rattle.ksv_nodes.specs.declared.given.ObjectEnd.TheVariants as endings
use Rattle.ksv_nodes.specs.declared.given.Origin.{Origin}
use Rattle.ksv_nodes.specs.Reading.{end_in}
use Rattle.ksv_nodes.specs.Rule.{Rule, raise, head_node}
use Rattle.ksv_rule_meaning.specs.Fields.{Sought}
use Rattle.ksv_rule_meaning.specs.Heads.{origin_of, is_past}
use Rattle.ksv_rule_meaning.specs.Values.{number_in}
use Rattle.ksv_rule_meaning.specs.FromNothing.{from_nothing}
use Rattle.ksv_list_laws.specs.Lists.{Layout, size_at, is_named_to, before, list_layout}

-- A list at a path, the layout of its elements, the byte where it begins, how many of its elements are looked at, from the first on, and the
-- number by which each element says the size of its fields.
pub record Listing : Type 0 where
  pub path : Trail
  pub list : lists.List
  pub layout : Layout
  pub first : ℕ
  pub count : ℕ
  pub says : ℕ → ℕ

-- ---- places

-- where the field j begins of an element that begins at a and says this number
abbrev pub field_start : Layout → ℕ → ℕ → ℕ → ℕ
field_start y n a zero = a
field_start y n a (suc j) = field_start y n a j + unwrap_or (size_at y j) n

-- where the element i begins, and where its field j does
abbrev pub start : Listing → ℕ → ℕ
start x zero = x.first
start x (suc i) = field_start x.layout (x.says i) (start x i) (suc x.layout.last)

abbrev pub place : Listing → ℕ → ℕ → ℕ
place x i j = field_start x.layout (x.says i) (start x i) j

-- ---- nodes

-- A node of a list: the head, the end and the rest of an element; the head and the end of its field j; and the value that says a size. Behind the
-- last element, of each that isn't there, from the first on: its head and its end.
pub data Which : Type 0 where
  ElementHead : ℕ → Which
  ElementEnd : ℕ → Which
  Rest : ℕ → Which
  FieldHead : ℕ → ℕ → Which
  FieldEnd : ℕ → ℕ → Which
  SizeValue : ℕ → Which
  MissingHead : ℕ → Which
  MissingEnd : ℕ → Which

-- the element that a node is of, from which on a rest is, or which of those that aren't there; and whether it is a node of one that is, and no rest
abbrev pub element_of : Which → ℕ
element_of (ElementHead i) = i
element_of (ElementEnd i) = i
element_of (Rest i) = i
element_of (FieldHead i j) = i
element_of (FieldEnd i j) = i
element_of (SizeValue i) = i
element_of (MissingHead k) = k
element_of (MissingEnd k) = k

abbrev pub is_in_element : Which → Bool
is_in_element (Rest i) = false
is_in_element (MissingHead k) = false
is_in_element (MissingEnd k) = false
is_in_element _ = true

abbrev pub element_path : Listing → ℕ → Option Trail
element_path x i = child x.path (steps.Index i)

abbrev pub field_path : Listing → ℕ → ℕ → Option Trail
field_path x i j = option_and_then (λ p. child p (steps.Name (x.layout.name j))) (element_path x i)

abbrev pub path_at : Listing → Which → Option Trail
path_at x (ElementHead i) = element_path x i
path_at x (ElementEnd i) = element_path x i
path_at x (Rest i) = element_path x i
path_at x (FieldHead i j) = field_path x i j
path_at x (FieldEnd i j) = field_path x i j
path_at x (SizeValue i) = field_path x i x.layout.sizer
path_at x (MissingHead k) = element_path x (x.count + k)
path_at x (MissingEnd k) = element_path x (x.count + k)

abbrev pub kind_at : Which → NodeKind
kind_at (ElementHead i) = nodes.Head
kind_at (ElementEnd i) = nodes.End
kind_at (Rest i) = nodes.Rest
kind_at (FieldHead i j) = nodes.Head
kind_at (FieldEnd i j) = nodes.End
kind_at (SizeValue i) = nodes.Value
kind_at (MissingHead k) = nodes.Head
kind_at (MissingEnd k) = nodes.End

abbrev pub node_at : Listing → Which → Option Node
node_at x k = option_map (λ p. record { kind = kind_at k; path = p }) (path_at x k)

-- such nodes; where none is said it is the list's own head
abbrev pub nodes_of : Listing → List (Option Which) → List Node
nodes_of x [] = []
nodes_of x (None ∷ ks) = head_node x.path ∷ nodes_of x ks
nodes_of x (Some k ∷ ks) = with_first (node_at x k) (nodes_of x ks)

-- ---- answers

-- the object that is read at a byte
abbrev pub object_from : lists.List → ℕ → ℕ → Object
object_from g t a = record {
  origin = Some (record g.origin { case = None });
  type_number = t;
  stream = g.stream;
  start = at_byte a;
  ending =
      endings.ByFields;
}

-- what is read from a byte to another
abbrev pub leaf_from : Origin → ℕ → ℕ → Given
leaf_from origin a z = givens.Head (heads.Leaf (record { origin = origin; from = at_byte a; to = at_byte z; end = at_byte z }))

abbrev pub element_from : lists.List → Option ℕ → ℕ → ℕ → Given
element_from g None a z = leaf_from (record g.origin { case = None }) a z
element_from g (Some t) a z = givens.Head (heads.Object (object_from g t a))

abbrev pub sought_at : Layout → ℕ → Sought
sought_at y j = record { member = y.member j; before = before y j; kind = Attribute (y.field j) }

-- by a list's count: the element i, which ends at z, is the last; and what its end depends on itself
abbrev pub is_last_at : Option ℕ → List ℕ → Option ℕ → ℕ → ℕ → Bool
is_last_at None bytes to i z = nat_le (end_in bytes to) z
is_last_at (Some n) bytes to i z = n == i + 1

abbrev pub stream_uses : List ℕ → Option ℕ → ℕ → List Use
stream_uses bytes None z = (if nat_lt z (length bytes) then uses_are.Reach (z + 1) else uses_are.Size) ∷ []
stream_uses bytes (Some t) z = []

abbrev pub end_uses : Option ℕ → List ℕ → Option ℕ → ℕ → List Use
end_uses None bytes to z = stream_uses bytes to z
end_uses (Some n) bytes to z = []

abbrev pub is_last : List ℕ → Listing → ℕ → Bool
is_last bytes x i = is_last_at x.list.count bytes x.list.stream.to i (start x (suc i))

-- what is behind the last element has no place: the fault of the first element that isn't there
abbrev pub missing_fault : Listing → Fault
missing_fault x = record { kind = kinds.BadIndex; path = unwrap_or (element_path x x.count) x.path }

abbrev pub answer_at : List ℕ → Listing → Which → Result Given Fault
answer_at bytes x (ElementHead i) = Ok (element_from x.list x.layout.type_number (start x i) (start x (suc i)))
answer_at bytes x (ElementEnd i) = Ok (givens.End (at_byte (start x (suc i))) (is_last bytes x i))
answer_at bytes x (Rest i) = Ok (givens.Rest x.count (at_byte (start x x.count)))
answer_at bytes x (FieldHead i j) = Ok (leaf_from (origin_of (object_from x.list (unwrap_or x.layout.type_number 0) (start x i)) (sought_at x.layout j))
    (place x i j) (place x i (suc j)))
answer_at bytes x (FieldEnd i j) = Ok (givens.End (at_byte (place x i (suc j))) false)
answer_at bytes x (SizeValue i) = Ok (givens.Value (values.Int (pos (x.says i))))
answer_at bytes x (MissingHead k) = Err (missing_fault x)
answer_at bytes x (MissingEnd k) = Err (missing_fault x)

-- ---- what is asked

-- the end of the element or the field before, if there is one
abbrev pub prior_end : ℕ → List (Option Which)
prior_end zero = []
prior_end (suc i) = Some (ElementEnd i) ∷ []

abbrev pub prior_field : ℕ → ℕ → List (Option Which) → List (Option Which)
prior_field i zero ks = ks
prior_field i (suc j) ks = Some (FieldEnd i j) ∷ ks

-- the value that says a size, where none is known
abbrev pub size_asked : ℕ → Option ℕ → List (Option Which)
size_asked i None = Some (SizeValue i) ∷ []
size_asked i (Some n) = []

-- an object ends with its last field
abbrev pub last_asked : Option ℕ → ℕ → ℕ → List (Option Which)
last_asked None i j = None ∷ []
last_asked (Some t) i j = Some (FieldEnd i j) ∷ None ∷ []

-- from the first element on the list is asked, and behind an element that isn't the last the rest from the next one on
abbrev pub rest_asked : ℕ → List (Option Which) → List (Option Which)
rest_asked zero ks = None ∷ ks
rest_asked (suc i) ks = ks

abbrev pub later_asked : ℕ → ℕ → List (Option Which)
later_asked n i = if nat_le n (suc i) then [] else Some (Rest (suc i)) ∷ []

-- and before what isn't there the end of what is before it
abbrev pub before_missing : Listing → ℕ → Which
before_missing x zero = ElementEnd (x.count - 1)
before_missing x (suc k) = MissingEnd k

abbrev pub asked_by : Listing → Which → List (Option Which)
asked_by x (ElementHead i) = None ∷ prior_end i
asked_by x (ElementEnd i) = Some (ElementHead i) ∷ last_asked x.layout.type_number i x.layout.last
asked_by x (Rest i) = rest_asked i (Some (ElementEnd i) ∷ later_asked x.count i)
asked_by x (FieldHead i j) = Some (ElementHead i) ∷ prior_field i j (size_asked i (size_at x.layout j))
asked_by x (FieldEnd i j) = Some (FieldHead i j) ∷ []
asked_by x (SizeValue i) = Some (FieldHead i x.layout.sizer) ∷ []
asked_by x (MissingHead k) = None ∷ Some (before_missing x k) ∷ []
asked_by x (MissingEnd k) = Some (MissingHead k) ∷ []

-- ---- what is used

abbrev pub element_uses : Option ℕ → ℕ → List Use
element_uses None z = uses_are.Reach z ∷ []
element_uses (Some t) z = []

abbrev pub uses_at : List ℕ → Listing → Which → List Use
uses_at bytes x (ElementHead i) = element_uses x.layout.type_number (start x (suc i))
uses_at bytes x (ElementEnd i) = end_uses x.list.count bytes x.list.stream.to (start x (suc i))
uses_at bytes x (Rest i) = []
uses_at bytes x (FieldHead i j) = uses_are.Reach (place x i (suc j)) ∷ []
uses_at bytes x (FieldEnd i j) = []
uses_at bytes x (SizeValue i) = uses_are.Bytes (place x i x.layout.sizer) (place x i (suc x.layout.sizer)) ∷ []
uses_at bytes x (MissingHead k) = []
uses_at bytes x (MissingEnd k) = []

-- what the place and the size of an element depend on: the bytes up to its end, and of these those of the value that says its size
abbrev pub sizer_uses : Listing → ℕ → Bool → List Use
sizer_uses x i true = uses_are.Bytes (place x i x.layout.sizer) (place x i (suc x.layout.sizer)) ∷ []
sizer_uses x i false = []

abbrev pub element_depends : Listing → ℕ → List Use
element_depends x i = uses_are.Reach (start x (suc i)) ∷ sizer_uses x i (is_named_to x.layout x.layout.last)

-- ---- guards

-- The guard of a node: the last value behind which it is that says a size, or else the list's head. Where the element before says sizes, the
-- next one is behind its value.
abbrev pub prior_guard : Listing → ℕ → Option Which
prior_guard x zero = None
prior_guard x (suc i) = if is_named_to x.layout x.layout.last then Some (SizeValue i) else None

abbrev pub field_guard : Listing → ℕ → ℕ → Option Which
field_guard x i j = if is_named_to x.layout j then Some (SizeValue i) else prior_guard x i

abbrev pub guard_of : Listing → Which → Option Which
guard_of x (ElementHead i) = prior_guard x i
guard_of x (ElementEnd i) = prior_guard x (suc i)
guard_of x (Rest i) = prior_guard x x.count
guard_of x (FieldHead i j) = field_guard x i j
guard_of x (FieldEnd i j) = field_guard x i j
guard_of x (SizeValue i) = Some (SizeValue i)
guard_of x (MissingHead k) = prior_guard x x.count
guard_of x (MissingEnd k) = prior_guard x x.count

-- and the farthest place to which it reads: that of a last element depends on the size of a stream that the file ends
abbrev pub stream_reach : List ℕ → Option ℕ → ℕ → Use
stream_reach bytes None z = if nat_lt z (length bytes) then uses_are.Reach (z + 1) else uses_are.Size
stream_reach bytes (Some t) z = uses_are.Reach z

abbrev pub end_reach : Option ℕ → List ℕ → Option ℕ → ℕ → Use
end_reach None bytes to z = stream_reach bytes to z
end_reach (Some n) bytes to z = uses_are.Reach z

abbrev pub prior_reach : List ℕ → Listing → ℕ → List Use
prior_reach bytes x zero = []
prior_reach bytes x (suc i) = end_reach x.list.count bytes x.list.stream.to (start x (suc i)) ∷ []

abbrev pub element_reach : List ℕ → Listing → Option ℕ → ℕ → List Use
element_reach bytes x None i = uses_are.Reach (start x (suc i)) ∷ []
element_reach bytes x (Some t) i = prior_reach bytes x i

abbrev pub reach_of : List ℕ → Listing → Which → List Use
reach_of bytes x (ElementHead i) = element_reach bytes x x.layout.type_number i
reach_of bytes x (ElementEnd i) = prior_reach bytes x (suc i)
reach_of bytes x (Rest i) = prior_reach bytes x x.count
reach_of bytes x (FieldHead i j) = uses_are.Reach (place x i (suc j)) ∷ []
reach_of bytes x (FieldEnd i j) = uses_are.Reach (place x i (suc j)) ∷ []
reach_of bytes x (SizeValue i) = []
reach_of bytes x (MissingHead k) = prior_reach bytes x x.count
reach_of bytes x (MissingEnd k) = prior_reach bytes x x.count

-- ---- which nodes are there

-- the integer that bytes write
abbrev pub integer_in : Choice → List ℕ → Rule Value
integer_in (Always (contents.Number is_signed size order enum)) bytes = number_in is_signed order enum bytes
integer_in _ bytes = raise kinds.BadType

-- the bytes of the field that says the sizes of the element i write its number
abbrev pub SaysSize : List ℕ → Listing → ℕ → Type 0
SaysSize bytes x i =
    integer_in (x.layout.field x.layout.sizer).choice (slice_range bytes (place x i x.layout.sizer) (place x i (suc x.layout.sizer)))
    ≡ Answer (values.Int (pos (x.says i)))

-- The element i is whole: its bytes are in the stream, the list's count doesn't exclude it, and where a field has a size that another says,
-- that one says this number.
pub record IsWhole (bytes : List ℕ) (x : Listing) (i : ℕ) : Type 0 where
  pub room : start x (suc i) ≤ end_in bytes x.list.stream.to
  pub counted : is_past x.list.count i ≡ false
  pub says : is_named_to x.layout x.layout.last ≡ true → SaysSize bytes x i

-- A plain list, the first elements of which are whole. Its path is short enough for paths of fields; it begins at a byte; and its stream
-- ends in the file.
pub record IsPlain (d : Description) (bytes : List ℕ) (x : Listing) : Type 0 where
  pub laid : list_layout d x.list ≡ Some x.layout
  pub listed : from_nothing d bytes [] (head_node x.path) ≡ Ok (givens.Head (heads.List x.list))
  pub short : length x.path.upward < 63
  pub few : x.count ≤ element_limit
  pub begins : x.list.start ≡ at_byte x.first
  pub filled : x.list.is_empty ≡ false
  pub within : end_in bytes x.list.stream.to ≤ length bytes
  pub whole : (i : ℕ) → i < x.count → IsWhole bytes x i

-- a field of an element that has fields
abbrev pub IsField : Listing → ℕ → ℕ → Type 0
IsField x i j = (i < x.count) × (j ≤ x.layout.last) × (is_some x.layout.type_number ≡ true)

-- An element that isn't there, behind the last: the bytes end the list, and a path may have its index.
pub record IsMissing (bytes : List ℕ) (x : Listing) (k : ℕ) : Type 0 where
  pub some : 0 < x.count
  pub last : is_last bytes x (x.count - 1) ≡ true
  pub uncounted : x.list.count ≡ None
  pub few : x.count + k < element_limit

-- which nodes there are: rests if the last element that is looked at is the list's last, and then those behind it too, if no count says so
abbrev pub IsThere : List ℕ → Listing → Which → Type 0
IsThere bytes x (ElementHead i) = i < x.count
IsThere bytes x (ElementEnd i) = i < x.count
IsThere bytes x (Rest i) = (i < x.count) × (is_last bytes x (x.count - 1) ≡ true)
IsThere bytes x (FieldHead i j) = IsField x i j
IsThere bytes x (FieldEnd i j) = IsField x i j
IsThere bytes x (MissingHead k) = IsMissing bytes x k
IsThere bytes x (MissingEnd k) = IsMissing bytes x k
IsThere bytes x (SizeValue i) = IsField x i x.layout.sizer × (is_named_to x.layout x.layout.last ≡ true)

-- ---- their order

-- one for the value, where a field is behind it
abbrev pub past_value : Layout → ℕ → ℕ
past_value y j = if nat_lt y.sizer j then 1 else 0

-- The nodes of an element in order: its head; of each field the head and the end, and behind the end of the field that says sizes its value;
-- the element's end. This is the place of each; that of a rest, or of what isn't there, isn't used.
abbrev pub order_of : Layout → Which → ℕ
order_of y (ElementHead i) = 0
order_of y (ElementEnd i) = 2 * y.last + 4
order_of y (Rest i) = 0
order_of y (MissingHead k) = 0
order_of y (MissingEnd k) = 0
order_of y (FieldHead i j) = 2 * j + 1 + past_value y j
order_of y (FieldEnd i j) = 2 * j + 2 + past_value y j
order_of y (SizeValue i) = 2 * y.sizer + 3

-- a node is another, or before it: in an earlier element, or earlier in the same
abbrev pub IsUpTo : Listing → Which → Which → Type 0
IsUpTo x k m = (element_of k < element_of m) ⊎ ((element_of k ≡ element_of m) × (order_of x.layout k ≤ order_of x.layout m))

-- the field right behind the one that says sizes is the first of such a size
abbrev pub IsSizedNext : Layout → Type 0
IsSizedNext y = (y.sizer < y.last) × (size_at y (suc y.sizer) ≡ None)
