-- The sequence of a plain list. Each element has its head, the head and the end of each of its fields, and its end, in this order; before the head of a last
-- field whose size the one before says there is the value of that one. Behind all elements, where the list is known to end with the last, are the rests from
-- the last element to the first, or in their place the head and the end of each element that isn't there. What is kept of a node follows from the numbers of
-- the list.
use Rattle.std.specs.Prelude.{◌≡◌, ℕ, zero, suc, ◌+◌, ◌-◌, ◌*◌, ◌/◌, ◌%◌, ◌==◌, ◌<◌, nat_lt, Bool, true, false, ◌&&◌, not, if◌then◌else◌, length, List, []}
use Rattle.std.specs.Prelude.{◌∷◌, Option}
use Rattle.std.specs.Prelude.{Some, None, Result, Ok, Err, is_some, unwrap_or, pos}
use Rattle.std.specs.List.{list_any}
use Rattle.std.specs.Option.{option_map, option_and_then}
use Rattle.ksv_bytes.specs.Uses.{is_use_touched}
use Rattle.ksv_bytes.specs.declared.uses.Change.TheVariants.{Insert}
use Rattle.ksv_bytes.specs.declared.uses.Use.{Use}
use Rattle.ksv_bytes.specs.declared.uses.Use.TheVariants.{Bytes, Reach, Size}
use Rattle.ksv_expr_value.specs.Places.{at_byte}
use Rattle.ksv_expr_value.specs.Trail.{Trail, child, element_limit}
use Rattle.ksv_expr_value.specs.declared.fault.Fault.{Fault}
use Rattle.ksv_expr_value.specs.declared.fault.FaultKind.TheVariants as faults
use Rattle.ksv_expr_value.specs.declared.step.Step.{Step}
use Rattle.ksv_expr_value.specs.declared.step.Step.TheVariants.{Name, Index}
use Rattle.ksv_expr_value.specs.declared.value.Value.TheVariants as values
use Rattle.ksv_memo_rules.specs.Entry.{Entry}
use Rattle.ksv_nodes.specs.declared.given.Given.{Given}
use Rattle.ksv_nodes.specs.declared.given.Given.TheVariants as givens
use Rattle.ksv_nodes.specs.declared.given.Head.TheVariants as heads
use Rattle.ksv_nodes.specs.declared.given.ObjectEnd.TheVariants.{ByFields}
use Rattle.ksv_nodes.specs.declared.given.Origin.{Origin}
use Rattle.ksv_nodes.specs.declared.node.Node.{Node}
use Rattle.ksv_nodes.specs.declared.node.NodeKind.{NodeKind}
use Rattle.ksv_nodes.specs.declared.node.NodeKind.TheVariants.{Head, End, Rest}
use Rattle.ksv_nodes.specs.declared.node.NodeKind.TheVariants as kinds
use Rattle.ksv_folds.specs.declared.plain_list.PlainList.{PlainList}
use Rattle.ksv_folds.specs.declared.spot.Numbered.{Numbered}
use Rattle.ksv_folds.specs.declared.spot.Numbered.TheVariants as numbered
use Rattle.ksv_folds.specs.declared.spot.Spot.{Spot}
use Rattle.ksv_folds.specs.declared.spot.Spot.TheVariants.{ElementHead, ElementEnd, FieldHead, FieldEnd, Value}
use Rattle.ksv_memo_rules.specs.Folds.{Fold}
use Rattle.ksv_folds.specs.Parts.{part, edge, start_in}
use Rattle.ksv_folds.specs.declared.part.Part.{Part}

-- each element says the size of its last field
abbrev pub says_sizes : PlainList → Bool
says_sizes p = is_some p.starts

-- ---- which node

-- the head or the end of the field f
abbrev pub field_spot : ℕ → ℕ → ℕ → Spot
field_spot i f zero = FieldHead i f
field_spot i f (suc half) = FieldEnd i f

-- the node r of the element i, where each element has so many
abbrev pub plain_spot : ℕ → ℕ → ℕ → Spot
plain_spot per i r = if r == 0 then ElementHead i else if r + 1 == per then ElementEnd i else field_spot i ((r - 1) / 2) ((r - 1) % 2)

-- where it says a size, three nodes are behind the value
abbrev pub sized_spot : ℕ → ℕ → ℕ → Spot
sized_spot per i r = if r == per - 4 then Value i else plain_spot (per - 1) i (if nat_lt r (per - 4) then r else r - 1)

abbrev pub spot_in : Bool → ℕ → ℕ → ℕ → Spot
spot_in false per i r = plain_spot per i r
spot_in true per i r = sized_spot per i r

abbrev pub spot_at : PlainList → ℕ → Spot
spot_at p j = spot_in (says_sizes p) p.per (j / p.per) (j % p.per)

-- how many nodes all elements have, and how many are behind them: rests, or two for each element that isn't there; and the node of a number
abbrev pub elements_size : PlainList → ℕ
elements_size p = p.per * p.most

abbrev pub behind_size : Bool → Bool → ℕ → ℕ
behind_size false missing most = 0
behind_size true false most = most
behind_size true true most = 2 * (element_limit - most)

abbrev pub size_of : PlainList → ℕ
size_of p = elements_size p + behind_size p.closed p.missing p.most

-- of those that aren't there the one of a number, counted from the first
abbrev pub missing_at : ℕ → Numbered
missing_at r = if r % 2 == 0 then numbered.MissingHead (r / 2) else numbered.MissingEnd (r / 2)

abbrev pub behind_at : Bool → ℕ → ℕ → Numbered
behind_at false most r = numbered.Rest (most - 1 - r)
behind_at true most r = missing_at r

abbrev pub numbered_at : PlainList → ℕ → Numbered
numbered_at p j = if nat_lt j (elements_size p) then numbered.Of (spot_at p j) else behind_at p.missing p.most (j - elements_size p)

-- it is of one of the first elements, and of one of its fields; and there are values where elements say sizes
abbrev pub IsIn : Bool → ℕ → ℕ → Spot → Type 0
IsIn says k n (ElementHead i) = i < n
IsIn says k n (ElementEnd i) = i < n
IsIn says k n (FieldHead i f) = (i < n) × (f < k)
IsIn says k n (FieldEnd i f) = (i < n) × (f < k)
IsIn says k n (Value i) = (i < n) × (says ≡ true)

abbrev pub IsOne : PlainList → Spot → Type 0
IsOne p s = IsIn (says_sizes p) (length p.parts.items) p.most s

-- an element that isn't there, behind the last one
abbrev pub IsMissing : PlainList → ℕ → Type 0
IsMissing p k = (p.closed ≡ true) × (p.missing ≡ true) × (p.most + k < element_limit)

abbrev pub IsThere : PlainList → Numbered → Type 0
IsThere p (numbered.Of s) = IsOne p s
IsThere p (numbered.Rest i) = (p.closed ≡ true) × (p.missing ≡ false) × (i < p.most)
IsThere p (numbered.MissingHead k) = IsMissing p k
IsThere p (numbered.MissingEnd k) = IsMissing p k

-- ---- the nodes

-- the field that says the size of the last one, and is before it
abbrev pub sizer : PlainList → ℕ
sizer p = length p.parts.items - 2

abbrev pub field_path : PlainList → ℕ → ℕ → Option Trail
field_path p i f = option_and_then (λ q. child q (Name (part p.parts.items f).name)) (child p.root.path (Index i))

abbrev pub path_of : PlainList → Spot → Option Trail
path_of p (ElementHead i) = child p.root.path (Index i)
path_of p (ElementEnd i) = child p.root.path (Index i)
path_of p (FieldHead i f) = field_path p i f
path_of p (FieldEnd i f) = field_path p i f
path_of p (Value i) = field_path p i (sizer p)

abbrev pub kind_of : Spot → NodeKind
kind_of (ElementHead i) = Head
kind_of (ElementEnd i) = End
kind_of (FieldHead i f) = Head
kind_of (FieldEnd i f) = End
kind_of (Value i) = kinds.Value

-- what there is no path to is the list's head
abbrev pub node_of : PlainList → Spot → Node
node_of p s = unwrap_or (option_map (λ q. record { kind = kind_of s; path = q }) (path_of p s)) p.root

abbrev pub element_node : PlainList → NodeKind → ℕ → Node
element_node p k i = unwrap_or (option_map (λ q. record { kind = k; path = q }) (child p.root.path (Index i))) p.root

abbrev pub node_in : PlainList → Numbered → Node
node_in p (numbered.Of s) = node_of p s
node_in p (numbered.Rest i) = element_node p Rest i
node_in p (numbered.MissingHead k) = element_node p Head (p.most + k)
node_in p (numbered.MissingEnd k) = element_node p End (p.most + k)

-- the steps of its path, from the last to the first
abbrev pub steps_of : PlainList → Spot → List Step
steps_of p (ElementHead i) = Index i ∷ p.root.path.upward
steps_of p (ElementEnd i) = Index i ∷ p.root.path.upward
steps_of p (FieldHead i f) = Name (part p.parts.items f).name ∷ (Index i ∷ p.root.path.upward)
steps_of p (FieldEnd i f) = Name (part p.parts.items f).name ∷ (Index i ∷ p.root.path.upward)
steps_of p (Value i) = Name (part p.parts.items (sizer p)).name ∷ (Index i ∷ p.root.path.upward)

-- a node is of one of the elements that have numbers, and is this one, by its kind and its steps
pub record IsAt (p : PlainList) (n : Node) (s : Spot) : Type 0 where
  pub there : IsOne p s
  pub kind : n.kind ≡ kind_of s
  pub steps : n.path.upward ≡ steps_of p s

-- a node behind all elements is this one, which is of a kind and has an element's index
pub record IsBehind (p : PlainList) (n : Node) (s : Numbered) (k : NodeKind) (i : ℕ) : Type 0 where
  pub there : IsThere p s
  pub kind : n.kind ≡ k
  pub steps : n.path.upward ≡ Index i ∷ p.root.path.upward

abbrev pub IsNumbered : PlainList → Node → Numbered → Type 0
IsNumbered p n (numbered.Of s) = IsAt p n s
IsNumbered p n (numbered.Rest i) = IsBehind p n (numbered.Rest i) Rest i
IsNumbered p n (numbered.MissingHead k) = IsBehind p n (numbered.MissingHead k) Head (p.most + k)
IsNumbered p n (numbered.MissingEnd k) = IsBehind p n (numbered.MissingEnd k) End (p.most + k)

-- heads and ends have numbers, and the value that says a size
abbrev pub element_spot : NodeKind → ℕ → Option Spot
element_spot Head i = Some (ElementHead i)
element_spot End i = Some (ElementEnd i)
element_spot kinds.Value i = None
element_spot Rest i = None

abbrev pub member_spot : PlainList → NodeKind → ℕ → ℕ → Option Spot
member_spot p Head i f = Some (FieldHead i f)
member_spot p End i f = Some (FieldEnd i f)
member_spot p kinds.Value i f = if says_sizes p && f == sizer p then Some (Value i) else None
member_spot p Rest i f = None

-- the number of a node, where each element has so many
abbrev pub plain_index : ℕ → Spot → ℕ
plain_index per (ElementHead i) = per * i
plain_index per (ElementEnd i) = per * i + (per - 1)
plain_index per (FieldHead i f) = per * i + (2 * f + 1)
plain_index per (FieldEnd i f) = per * i + (2 * f + 2)
plain_index per (Value i) = per * i

-- one for the value, before the last field
abbrev pub past_value : ℕ → ℕ → ℕ
past_value per f = if 2 * f + 5 == per then 1 else 0

abbrev pub sized_index : ℕ → Spot → ℕ
sized_index per (ElementHead i) = per * i
sized_index per (ElementEnd i) = per * i + (per - 1)
sized_index per (FieldHead i f) = per * i + (2 * f + 1 + past_value per f)
sized_index per (FieldEnd i f) = per * i + (2 * f + 2 + past_value per f)
sized_index per (Value i) = per * i + (per - 4)

abbrev pub index : Bool → ℕ → Spot → ℕ
index false per s = plain_index per s
index true per s = sized_index per s

abbrev pub index_of : PlainList → Spot → ℕ
index_of p s = index (says_sizes p) p.per s

abbrev pub number_of : PlainList → Numbered → ℕ
number_of p (numbered.Of s) = index_of p s
number_of p (numbered.Rest i) = elements_size p + (p.most - 1 - i)
number_of p (numbered.MissingHead k) = elements_size p + 2 * k
number_of p (numbered.MissingEnd k) = elements_size p + (2 * k + 1)

-- ---- what they answer

-- where an element begins, and where a field of it does
abbrev pub start_of : PlainList → ℕ → ℕ
start_of p i = start_in p.starts p.first p.size i

-- the last field ends with its element, where its size is said
abbrev pub edge_in : Bool → PlainList → ℕ → ℕ → ℕ
edge_in false p i f = start_of p i + edge p.parts.items f
edge_in true p i f = if f == length p.parts.items then start_of p (suc i) else start_of p i + edge p.parts.items f

abbrev pub edge_of : PlainList → ℕ → ℕ → ℕ
edge_of p i f = edge_in (says_sizes p) p i f

-- the size that an element says
abbrev pub says_of : PlainList → ℕ → ℕ
says_of p i = start_of p (suc i) - start_of p i - p.size

-- the bytes from one to another
abbrev pub leaf : Origin → ℕ → ℕ → Given
leaf origin a z = givens.Head (heads.Leaf (record { origin = origin; from = at_byte a; to = at_byte z; end = at_byte z }))

abbrev pub element_answer : PlainList → Option ℕ → ℕ → Given
element_answer p None i = leaf (record p.list.origin { case = None }) (start_of p i) (start_of p (suc i))
element_answer p (Some t) i =
    givens.Head (heads.Object (record { origin = p.origin; type_number = t; stream = p.list.stream; start = at_byte (start_of p i); ending = ByFields }))

abbrev pub field_origin : PlainList → ℕ → Origin
field_origin p f = record {
  member = record { type_number = unwrap_or p.type_number 0; member = (part p.parts.items f).member };
  case = None;
  home = p.list.stream;
}

-- the list is known to end with this element
abbrev pub is_closing : PlainList → ℕ → Bool
is_closing p i = p.closed && i + 1 == p.most

abbrev pub answer_of : PlainList → Spot → Given
answer_of p (ElementHead i) = element_answer p p.type_number i
answer_of p (ElementEnd i) = givens.End (at_byte (start_of p (suc i))) (is_closing p i)
answer_of p (FieldHead i f) = leaf (field_origin p f) (edge_of p i f) (edge_of p i (suc f))
answer_of p (FieldEnd i f) = givens.End (at_byte (edge_of p i (suc f))) false
answer_of p (Value i) = givens.Value (values.Int (pos (says_of p i)))

-- what isn't there has the fault of the first element that isn't
abbrev pub missing_fault : PlainList → Fault
missing_fault p = record { kind = faults.BadIndex; path = unwrap_or (child p.root.path (Index p.most)) p.root.path }

abbrev pub answer_in : PlainList → Numbered → Result Given Fault
answer_in p (numbered.Of s) = Ok (answer_of p s)
answer_in p (numbered.Rest i) = Ok (givens.Rest p.most (at_byte (start_of p p.most)))
answer_in p (numbered.MissingHead k) = Err (missing_fault p)
answer_in p (numbered.MissingEnd k) = Err (missing_fault p)

-- ---- what they use

-- a list without a count that goes on to the file's end: whether an element is the last one depends on the byte behind it
abbrev pub is_open : PlainList → Bool
is_open p = not (is_some p.list.count) && not (is_some p.list.stream.to)

-- the place up to which the file must go, where an element ends and isn't the last
abbrev pub end_reach : PlainList → ℕ → ℕ
end_reach p z = if is_open p then z + 1 else z

-- an object's head reads nothing: before it are the elements before it
abbrev pub prior_reach : PlainList → ℕ → ℕ
prior_reach p zero = 0
prior_reach p (suc i) = end_reach p (start_of p (suc i))

abbrev pub head_reach : PlainList → List Part → ℕ → ℕ
head_reach p [] i = start_of p (suc i)
head_reach p (_ ∷ _) i = prior_reach p i

-- the farthest place to which a node reads; 0 if to none
abbrev pub reach_of : PlainList → Spot → ℕ
reach_of p (ElementHead i) = head_reach p p.parts.items i
reach_of p (ElementEnd i) = end_reach p (start_of p (suc i))
reach_of p (FieldHead i f) = edge_of p i (suc f)
reach_of p (FieldEnd i f) = edge_of p i (suc f)
reach_of p (Value i) = edge_of p i (suc (sizer p))

abbrev pub uses_of : ℕ → List Use
uses_of z = if z == 0 then [] else Reach z ∷ []

-- where a list that goes on to the file's end ends is known by the file's size
abbrev pub spot_uses : PlainList → Spot → List Use
spot_uses p (ElementEnd i) = if is_open p && is_closing p i then Size ∷ [] else uses_of (end_reach p (start_of p (suc i)))
spot_uses p (Value i) = Bytes (edge_of p i (sizer p)) (edge_of p i (suc (sizer p))) ∷ []
spot_uses p s = uses_of (reach_of p s)

-- all behind the elements use what the last end does
abbrev pub uses_in : PlainList → Numbered → List Use
uses_in p (numbered.Of s) = spot_uses p s
uses_in p (numbered.Rest i) = spot_uses p (ElementEnd (p.most - 1))
uses_in p (numbered.MissingHead k) = spot_uses p (ElementEnd (p.most - 1))
uses_in p (numbered.MissingEnd k) = spot_uses p (ElementEnd (p.most - 1))

-- an insert or a delete at a place touches one of these uses
abbrev pub is_read_past : ℕ → List Use → Bool
is_read_past at us = list_any (is_use_touched (Insert at 0)) us

-- ---- what they name

-- the value of the element before, if there is one
abbrev pub value_before : PlainList → ℕ → Option ℕ
value_before p zero = None
value_before p (suc i) = Some (index_of p (Value i))

-- where elements say sizes, a node's entry names the last value before it, or else the list; and that of a value its field's head
abbrev pub spot_guard : PlainList → Spot → Option ℕ
spot_guard p (ElementHead i) = value_before p i
spot_guard p (ElementEnd i) = value_before p (suc i)
spot_guard p (FieldHead i f) = value_before p (if suc f == length p.parts.items then suc i else i)
spot_guard p (FieldEnd i f) = value_before p (if suc f == length p.parts.items then suc i else i)
spot_guard p (Value i) = Some (index_of p (FieldHead i (sizer p)))

abbrev pub guard_in : PlainList → Numbered → Option ℕ
guard_in p (numbered.Of s) = spot_guard p s
guard_in p (numbered.Rest i) = value_before p p.most
guard_in p (numbered.MissingHead k) = value_before p p.most
guard_in p (numbered.MissingEnd k) = value_before p p.most

abbrev pub guard_of : PlainList → Numbered → Option ℕ
guard_of p s = if says_sizes p then guard_in p s else None

abbrev pub guard_node : PlainList → Option ℕ → Node
guard_node p None = p.root
guard_node p (Some j) = node_in p (numbered_at p j)

-- ---- what they take

-- the nodes that are asked: the list and the end of the element before; of a field's head the element and the end of the field before, and the value that says
-- its size; of a field's end its head; of a value its field's head; and of an element's end its head, the list, and its last field
abbrev pub asked_before : ℕ → ℕ
asked_before zero = 0
asked_before (suc i) = 1

abbrev pub last_asked : List Part → ℕ
last_asked [] = 1
last_asked (_ ∷ _) = 2

abbrev pub size_asked : Bool → ℕ → ℕ → ℕ
size_asked false k f = 0
size_asked true k f = if suc f == k then 1 else 0

abbrev pub asks_of : PlainList → Spot → ℕ
asks_of p (ElementHead i) = 1 + asked_before i
asks_of p (ElementEnd i) = 1 + last_asked p.parts.items
asks_of p (FieldHead i f) = 1 + asked_before f + size_asked (says_sizes p) (length p.parts.items) f
asks_of p (FieldEnd i f) = 1
asks_of p (Value i) = 1

-- of a rest the end of its element, the rest from the next one on, and of the first one the list
abbrev pub rest_asks : ℕ → ℕ → ℕ
rest_asks most i = 1 + (if i + 1 == most then 0 else 1) + (if i == 0 then 1 else 0)

-- and of an element that isn't there the head asks the list and the end of the one before, and the end the head
abbrev pub asks_in : PlainList → Numbered → ℕ
asks_in p (numbered.Of s) = asks_of p s
asks_in p (numbered.Rest i) = rest_asks p.most i
asks_in p (numbered.MissingHead k) = 2
asks_in p (numbered.MissingEnd k) = 1

-- the calls of all nodes before one, where each element has so many fields
abbrev pub plain_calls : ℕ → Spot → ℕ
plain_calls k (ElementHead i) = (5 * k + 6) * i - asked_before i
plain_calls k (ElementEnd i) = (5 * k + 6) * i + (2 + (5 * k - asked_before k))
plain_calls k (FieldHead i f) = (5 * k + 6) * i + (2 + (5 * f - asked_before f))
plain_calls k (FieldEnd i f) = (5 * k + 6) * i + (4 + 5 * f)
plain_calls k (Value i) = 0

abbrev pub sized_calls : ℕ → Spot → ℕ
sized_calls k (ElementHead i) = (5 * k + 9) * i - asked_before i
sized_calls k (ElementEnd i) = (5 * k + 9) * i + (5 * k + 4)
sized_calls k (FieldHead i f) = (5 * k + 9) * i + (2 + (5 * f - asked_before f) + (if suc f == k then 2 else 0))
sized_calls k (FieldEnd i f) = (5 * k + 9) * i + (4 + 5 * f + (if suc f == k then 3 else 0))
sized_calls k (Value i) = (5 * k + 9) * i + (5 * k - 4)

abbrev pub calls_before : Bool → ℕ → Spot → ℕ
calls_before false k s = plain_calls k s
calls_before true k s = sized_calls k s

abbrev pub spot_calls : PlainList → Spot → ℕ
spot_calls p s = calls_before (says_sizes p) (length p.parts.items) s

-- the calls of the last rests, of so many in all
abbrev pub rest_calls : ℕ → ℕ → ℕ
rest_calls most zero = 0
rest_calls most (suc n) = 3 * n + (if suc n == most then 3 else 2)

-- the calls of so many nodes of elements that aren't there
abbrev pub missing_calls : ℕ → ℕ
missing_calls r = 5 * (r / 2) + 3 * (r % 2)

abbrev pub behind_calls : Bool → ℕ → ℕ → ℕ
behind_calls false most r = rest_calls most r
behind_calls true most r = missing_calls r

abbrev pub calls_to : PlainList → ℕ → ℕ
calls_to p j =
    if nat_lt j (elements_size p) then spot_calls p (spot_at p j) else spot_calls p (ElementHead p.most) + behind_calls p.missing p.most (j - elements_size p)

-- ---- the sequence

abbrev pub entry_of : PlainList → Numbered → Entry Node (Result Given Fault)
entry_of p s = record { node = node_in p s; answer = answer_in p s; asked = guard_node p (guard_of p s) ∷ []; uses = uses_in p s }

-- how many of the first nodes evaluation of the node of a number completes: of a value those up to its field's head, but not that field's end
abbrev pub spot_whole : ℕ → Spot → ℕ
spot_whole j (Value i) = j - 1
spot_whole j s = suc j

abbrev pub whole_in : ℕ → Numbered → ℕ
whole_in j (numbered.Of s) = spot_whole j s
whole_in j (numbered.Rest i) = suc j
whole_in j (numbered.MissingHead k) = suc j
whole_in j (numbered.MissingEnd k) = suc j

abbrev pub fold_of : PlainList → Fold Node (Result Given Fault)
fold_of p = record {
  root = p.root;
  size = size_of p;
  entry = λ j. entry_of p (numbered_at p j);
  prior = λ j. guard_of p (numbered_at p j);
  whole = λ j. whole_in j (numbered_at p j);
  calls = λ j. asks_in p (numbered_at p j) + 1;
}

-- ---- told anew

-- another tells of the same list, and differs only in how many elements have numbers, where these begin, in whether they are all, and in what is behind them
pub record IsAlike (p q : PlainList) : Type 0 where
  pub root : q.root ≡ p.root
  pub list : q.list ≡ p.list
  pub origin : q.origin ≡ p.origin
  pub type_number : q.type_number ≡ p.type_number
  pub first : q.first ≡ p.first
  pub size : q.size ≡ p.size
  pub parts : q.parts.items ≡ p.parts.items
  pub per : q.per ≡ p.per
  pub says : says_sizes q ≡ says_sizes p
