-- How many nodes a rule asks: no more than the expressions of its attribute want, and four besides. So an engine that has so
-- many replies for a node needs no further one.
use Rattle.std.specs.Prelude.{ℕ, zero, suc, ◌+◌, ◌-◌, ◌==◌, ◌≤◌, nat_lt, nat_le, Bool, true, false, ◌||◌, ℤ, pos, negsuc, List, [], ◌∷◌, length, slice_get, Option, Some, None, option_map, option_and_then, Result, if◌then◌else◌}
use Rattle.std.specs.List.{sum_by}
use Rattle.std.specs.Option.{option_map_or}
use Rattle.std.specs.Str.{bytes_eq}
use Rattle.std.proofs.Common.{arith}
use Rattle.std.proofs.lemmas.List.Sums.{sum_by-cons}
use Rattle.ksv_basics.specs.Plan.{Answer, Fail, Ask, Ran, Need, Failed, Done, bind, IsEnded}
use Rattle.ksv_expr_tree.specs.Tree.{Tree, Arguments, no_arguments, argument}
use Rattle.ksv_desc.specs.declared.order.ByteOrder.{ByteOrder}
use Rattle.ksv_memo_rules.specs.Meaning.{IsDone}
use Rattle.ksv_expr_meaning.proofs.Wants.{value_asks}
use Rattle.ksv_expr_meaning.specs.Evaluation.{most_wants}
use Rattle.ksv_expr_value.specs.Trail.{Trail, element_limit, parent, last}
use Rattle.ksv_expr_value.specs.Places.{Place, at_byte, byte_of, byte_in, further, is_same}
use Rattle.ksv_expr_value.specs.Bits.{number_of, bits_from}
use Rattle.ksv_expr_value.specs.Setting.{Setting}
use Rattle.ksv_expr_meaning.specs.Meaning.{value_of as value_in}
use Rattle.ksv_expr_value.specs.Range.{ranged}
use Rattle.ksv_expr_value.specs.Encodings.{decoded}
use Rattle.ksv_expr_value.specs.declared.encoding.Encoding.{Encoding}
use Rattle.ksv_expr_value.specs.declared.fault.Fault.{Fault}
use Rattle.ksv_expr_value.specs.declared.step.Step.{Step}
use Rattle.ksv_expr_value.specs.declared.step.Step.TheVariants as steps
use Rattle.ksv_expr_value.specs.declared.value.Stream.{Stream}
use Rattle.ksv_expr_value.specs.declared.value.Value.{Value}
use Rattle.ksv_expr_value.specs.declared.value.Value.TheVariants as values
use Rattle.ksv_expr_meaning.specs.declared.want.Want.{Want}
use Rattle.ksv_expr_meaning.specs.declared.want.Want.TheVariants as wants
use Rattle.ksv_desc.specs.Description.{Description, is_truth, TypeOfObjects, MemberOfType, MemberKind, Parameter, Attribute, ParseInstance, ValueInstance, Field, Content, Case, Choice, Always, Switch, Extent, Sized, SizeEos, ByItself, Repeat, Once, Eos, Expr, Until, Terminator, Valid, AnyOf, AllOf, valid_of, field_in}
use Rattle.ksv_desc.specs.Description as contents
use Rattle.ksv_nodes.proofs.Bounds.{nodes_more, nodes_join, nodes_if, nodes_translate, enough, head_nodes, value_nodes, end_nodes, rest_nodes, part_nodes}
use Rattle.ksv_nodes.specs.Bounds.{NodesAtMost}
use Rattle.ksv_nodes.specs.Turning.{State, fresh}
use Rattle.ksv_nodes.specs.declared.node.Node.{Node}
use Rattle.ksv_nodes.specs.declared.node.NodeKind.{NodeKind}
use Rattle.ksv_nodes.specs.declared.node.NodeKind.TheVariants as nodes
use Rattle.ksv_nodes.specs.declared.given.Given.{Given as Answered}
use Rattle.ksv_nodes.specs.declared.given.MemberRef.{MemberRef}
use Rattle.ksv_nodes.specs.declared.given.Origin.{Origin}
use Rattle.ksv_nodes.specs.declared.given.Calc.{Calc}
use Rattle.ksv_nodes.specs.declared.given.Holder.{Holder}
use Rattle.ksv_nodes.specs.declared.given.Leaf.{Leaf}
use Rattle.ksv_nodes.specs.declared.given.ObjectEnd.{ObjectEnd}
use Rattle.ksv_nodes.specs.declared.given.ObjectEnd.TheVariants as endings
use Rattle.ksv_nodes.specs.declared.given.Object.{Object}
use Rattle.ksv_nodes.specs.declared.given.List as lists
use Rattle.ksv_nodes.specs.declared.given.Head.{Head}
use Rattle.ksv_nodes.specs.declared.given.Head.TheVariants as heads
use Rattle.ksv_nodes.specs.declared.given.Ended.{Ended}
use Rattle.ksv_nodes.specs.declared.turn.readings.Found.{Found}
use Rattle.ksv_nodes.specs.declared.turn.readings.Found.TheVariants as founds
use Rattle.ksv_nodes.specs.Rule.{Rule, Here, finish, done, reach, peek, find}
use Rattle.ksv_rule_meaning.specs.Described.{condition_wants, repeat_wants, extent_wants, arguments_wants, content_wants, choice_wants, field_wants, kind_wants, type_wants, valid_wants, type_checks, most_asks, resumed, step_of}
use Rattle.ksv_rule_meaning.specs.Fields.{members_of, behind, Sought, sought, in_sought, member_named, last_attribute, in_field, in_kind, kind_of, field_of, parameters_before}
use Rattle.ksv_rule_meaning.specs.Checks.{meets_one, meets_each, meets, with_value, checked, checked_if, member_checked, object_checked, value_checked}
use Rattle.ksv_rule_meaning.specs.Choosing.{Chosen, switched, choose, in_content, content_of}
use Rattle.ksv_rule_meaning.specs.Wanted.{whole, in_object, wanted, expression, in_integer, in_truth, integer_of, truth_of, holds, in_size, size_of, in_stream, stream_for}
use Rattle.ksv_rule_meaning.specs.Integers.{integer_value}
use Rattle.ksv_rule_meaning.specs.Values.{in_number, number_in, number_value, of_bits, bits_value, fixed_value, is_cut, cut_bytes, bytes_value, in_text, cut_text, text_value, content_value, leaf_value, in_no_stream, in_enum, instance_value, given_by, arguments_for, argument_at, argument_setting, plain_value, argument_value, parameter_value, calc_value, calculated, value_at, value_of}
use Rattle.ksv_rule_meaning.specs.Ends.{stream_end, fields_end, object_end, part_rest, list_end, absent_end, place_of, start_of, behind_element, is_last, is_by_bytes, not_empty, element_end, end_at, end_of, next_rest, rest_behind, rest_from, in_whole_list, first_rest, whole_rest, rest_at, rest_of}
use Rattle.ksv_rule_meaning.specs.Meaning.{meaning_of, rule_of}
use Rattle.ksv_rule_meaning.specs.Heads.{leaf, bits_leaf, leaf_to_end, terminated_at, terminated, run_of, sized_leaf, bytes_at, sized_object, object_at, content_at, unchosen_at, chosen_at, shape_at, in_count, count_of, counted, until_eos, repeated, attribute_at, part_end, attribute_start, attribute_head, positioned_in, positioned, instance_head, value_head, member_at, member_head, in_list, is_past, in_next, next_start, element_start, element_head, head_at, head_of}

-- ---- what is found in a description wants no more than all of it

part_of_sum : {A : Type 0} (f : A → ℕ) (xs : List A) (i : ℕ) → option_map_or f (slice_get xs i) 0 ≤ sum_by f xs
part_of_sum f [] i = omega arith
part_of_sum f (x ∷ xs) zero = omega (arith, sum_by-cons f x xs)
part_of_sum f (x ∷ xs) (suc i) = omega (arith, sum_by-cons f x xs, part_of_sum f xs i)

abbrev member_wants : MemberOfType → ℕ
member_wants m = kind_wants m.kind

wants_of_type : (o : Option TypeOfObjects) → sum_by member_wants (option_map_or (λ x. x.members) o []) ≤ option_map_or type_wants o 0
wants_of_type None = omega arith
wants_of_type (Some t) = omega arith

-- the members of a type
members_wants : (d : Description) (t : ℕ) → sum_by member_wants (members_of d t) ≤ sum_by type_wants d.types
unfolding members_of
members_wants d t = omega (arith, wants_of_type (slice_get d.types t), part_of_sum type_wants d.types t)

-- what all expressions want
abbrev all_wants : Description → ℕ
all_wants d = sum_by type_wants d.types

-- ---- what is found without asking

-- a rule asks nothing, and what it answers, if it does, is so
abbrev Gives : {A : Type 0} → (A → Type 0) → Rule A → Type 0
Gives P (Answer a) = P a
Gives P (Fail e) = Unit {0}
Gives P (Ask q k) = ⊥

gives_on : {A B : Type 0} (P : A → Type 0) (R : B → Type 0) (p : Rule A) (f : A → Rule B) → Gives P p → ((a : A) → P a → Gives R (f a)) → Gives R (bind p f)
unfolding bind
gives_on P R (Answer a) f h g = g a h
gives_on P R (Fail e) f h g = tt
gives_on P R (Ask q k) f h g = absurd h

-- what goes on from it asks no more than it does for each such answer
gives_nodes : {A B : Type 0} (t : ℕ) (P : A → Type 0) (p : Rule A) (f : A → Rule B) → Gives P p → ((a : A) → P a → NodesAtMost t (f a)) → NodesAtMost t (bind p f)
unfolding bind
gives_nodes t P (Answer a) f h g = g a h
gives_nodes t P (Fail e) f h g = tt
gives_nodes t P (Ask q k) f h g = absurd h

-- a member that was looked for
abbrev sought_wants : Option Sought → ℕ
sought_wants o = option_map_or (λ s. kind_wants s.kind) o 0

sought_if : (b : Bool) (m : MemberOfType) (i : ℕ) (before : Option ℕ) (o : Option Sought) (n : ℕ) → sought_wants o ≤ n → sought_wants (if b then Some (record { member = i; before = before; kind = m.kind }) else o) ≤ member_wants m + n
sought_if true m i before o n h = omega arith
sought_if false m i before o n h = omega arith

sought_part : (x i : ℕ) (before : Option ℕ) (ms : List MemberOfType) → sought_wants (sought x i before ms) ≤ sum_by member_wants ms
unfolding sought
sought_part x i before [] = omega arith
sought_part x i before (m ∷ ms) = omega (arith, sum_by-cons member_wants m ms, sought_if (m.name == x) m i before (sought x (i + 1) (behind before m) ms) (sum_by member_wants ms) (sought_part x (i + 1) (behind before m) ms))

in_sought_gives : (n : ℕ) (o : Option Sought) → sought_wants o ≤ n → Gives (λ s. kind_wants s.kind ≤ n) (in_sought o)
in_sought_gives n None h = tt
in_sought_gives n (Some s) h = h

found_gives : (d : Description) (type_number x : ℕ) → Gives (λ s. kind_wants s.kind ≤ all_wants d) (member_named d type_number x)
unfolding member_named
found_gives d type_number x =
    let ms = members_of d type_number in
    let part = sought_part x 0 None ms in
    let all = members_wants d type_number in
    in_sought_gives (all_wants d) (sought x 0 None ms) (omega (arith, part, all))

-- a member of a place, and how it reads
in_kind_gives : (n : ℕ) (o : Option MemberOfType) → option_map_or member_wants o 0 ≤ n → Gives (λ k. kind_wants k ≤ n) (in_kind o)
in_kind_gives n None h = tt
in_kind_gives n (Some m) h = h

kind_gives : (d : Description) (r : MemberRef) → Gives (λ k. kind_wants k ≤ all_wants d) (kind_of d r)
unfolding kind_of
kind_gives d r =
    let ms = members_of d r.type_number in
    let part = part_of_sum member_wants ms r.member in
    let all = members_wants d r.type_number in
    in_kind_gives (all_wants d) (slice_get ms r.member) (omega (arith, part, all))

in_field_gives : (n : ℕ) (o : Option MemberOfType) → option_map_or member_wants o 0 ≤ n
    → Gives (λ f. field_wants f ≤ n) (in_field (option_and_then (λ m. field_in m.kind) o))
in_field_gives n None h = tt
in_field_gives n (Some m) h = by m.kind h
  where
    by : (k : MemberKind) → kind_wants k ≤ n → Gives (λ f. field_wants f ≤ n) (in_field (field_in k))
    by (Attribute f) h = h
    by (ParseInstance e io f) h = omega arith
    by Parameter h = tt
    by (ValueInstance v) h = tt

field_gives : (d : Description) (r : MemberRef) → Gives (λ f. field_wants f ≤ all_wants d) (field_of d r)
unfolding field_of members_of
field_gives d r =
    let ms = members_of d r.type_number in
    let part = part_of_sum member_wants ms r.member in
    let all = members_wants d r.type_number in
    in_field_gives (all_wants d) (slice_get ms r.member) (omega (arith, part, all))

-- what is read by a case, and the arguments in it
in_case_gives : (n : ℕ) (o : Option Case) → option_map_or (λ c. content_wants c.content) o 0 ≤ n
    → Gives (λ k. content_wants k ≤ n) (in_content (option_map (λ c. c.content) o))
in_case_gives n None h = tt
in_case_gives n (Some c) h = h

content_gives : (c : Choice) (case : Option ℕ) → Gives (λ k. content_wants k ≤ choice_wants c) (content_of c case)
unfolding content_of
content_gives (Always k) case = omega arith
content_gives (Switch on cases) None = omega arith
content_gives (Switch on cases) (Some i) =
    in_case_gives (choice_wants (Switch on cases)) (slice_get cases i) (omega (arith, part_of_sum (λ c. content_wants c.content) cases i))

given_gives : (n : ℕ) (k : Content) → content_wants k ≤ n → Gives (λ es. arguments_wants es ≤ n) (given_by k)
given_gives n (contents.Object t given) h = h
given_gives n contents.Bytes h = tt
given_gives n (contents.Fixed bs) h = tt
given_gives n (contents.Number signed size order enum) h = tt
given_gives n (contents.Bits width enum) h = tt
given_gives n (contents.Characters encoding) h = tt

arguments_gives : (d : Description) (g : Origin) → Gives (λ es. arguments_wants es ≤ all_wants d) (arguments_for d g)
unfolding arguments_for
arguments_gives d g =
    gives_on (λ f. field_wants f ≤ all_wants d) (λ es. arguments_wants es ≤ all_wants d) (field_of d g.member) _ (field_gives d g.member) (λ f h.
    gives_on (λ k. content_wants k ≤ choice_wants f.choice) (λ es. arguments_wants es ≤ all_wants d) (content_of f.choice g.case) _ (content_gives f.choice g.case) (λ k h'. given_gives (all_wants d) k (omega arith)))

argument_gives : (es : Arguments) (i : ℕ) → Gives (λ e. most_wants e ≤ arguments_wants es) (argument_at es i)
unfolding argument_at arguments_wants
argument_gives no_arguments i = tt
argument_gives (argument e es) zero = omega arith
argument_gives (argument e es) (suc i) = more (argument_at es i) (argument_gives es i)
  where
    more : (p : Rule Tree) → Gives (λ x. most_wants x ≤ arguments_wants es) p → Gives (λ x. most_wants x ≤ most_wants e + arguments_wants es) p
    more (Answer x) h = omega arith
    more (Fail x) h = tt
    more (Ask q k) h = absurd h

-- ---- expressions

in_object_nodes : (q : Trail) (h : Head) → NodesAtMost 0 (in_object q h)
in_object_nodes q (heads.Object o) = tt
in_object_nodes q (heads.Absent at) = tt
in_object_nodes q (heads.Calc c) = tt
in_object_nodes q (heads.Leaf l) = tt
in_object_nodes q (heads.List g) = tt

-- a want takes one node at most
wanted_nodes : (s : Setting) (w : Want) → NodesAtMost 1 (wanted s w)
unfolding wanted
wanted_nodes s (wants.Value p) = nodes_join _ _ 1 1 0 (omega arith) (value_nodes p) (λ v. tt)
wanted_nodes s (wants.Head p) = nodes_join _ _ 1 1 0 (omega arith) (head_nodes p) (λ h. nodes_join _ _ 0 0 0 (omega arith) (in_object_nodes p h) (λ o. tt))
wanted_nodes s (wants.Rest p) = nodes_join _ _ 1 1 0 (omega arith) (rest_nodes p) (λ r. tt)
wanted_nodes s wants.Size = nodes_join (finish whole) _ 1 0 1 (omega arith) (λ n. tt) (λ n. tt)
wanted_nodes s wants.Done = nodes_join (done s.stream s.place) _ 1 0 1 (omega arith) (λ b. tt) (λ b. tt)
wanted_nodes s (wants.Bytes f t) = nodes_join (peek f t) _ 1 0 1 (omega arith) (λ bs. tt) (λ bs. tt)

-- an expression no more than it wants
expression_nodes : (s : Setting) (e : Tree) → NodesAtMost (most_wants e) (expression s e)
unfolding expression
expression_nodes s e = nodes_translate (wanted s) Here (most_wants e) (value_in s e) (wanted_nodes s) (value_asks s e)

in_integer_nodes : (v : Value) → NodesAtMost 0 (in_integer v)
in_integer_nodes (values.Int n) = tt
in_integer_nodes _ = tt

in_truth_nodes : (v : Value) → NodesAtMost 0 (in_truth v)
in_truth_nodes (values.Bool b) = tt
in_truth_nodes _ = tt

integer_nodes : (s : Setting) (e : Tree) → NodesAtMost (most_wants e) (integer_of s e)
unfolding integer_of
integer_nodes s e = nodes_join _ _ (most_wants e) (most_wants e) 0 (omega arith) (expression_nodes s e) (λ v. in_integer_nodes v)

truth_nodes : (s : Setting) (e : Tree) → NodesAtMost (most_wants e) (truth_of s e)
unfolding truth_of
truth_nodes s e = nodes_join _ _ (most_wants e) (most_wants e) 0 (omega arith) (expression_nodes s e) (λ v. in_truth_nodes v)

holds_nodes : (s : Setting) (c : Option Tree) → NodesAtMost (condition_wants c) (holds s c)
unfolding holds
holds_nodes s None = tt
holds_nodes s (Some e) = truth_nodes s e

in_size_nodes : (z : ℤ) → NodesAtMost 0 (in_size z)
in_size_nodes (pos n) = tt
in_size_nodes (negsuc n) = tt

size_nodes : (s : Setting) (e : Tree) → NodesAtMost (most_wants e) (size_of s e)
unfolding size_of
size_nodes s e = nodes_join _ _ (most_wants e) (most_wants e) 0 (omega arith) (integer_nodes s e) (λ z. in_size_nodes z)

in_stream_nodes : (v : Value) → NodesAtMost 0 (in_stream v)
in_stream_nodes (values.Stream w) = tt
in_stream_nodes _ = tt

stream_nodes : (s : Setting) (io : Option Tree) → NodesAtMost (condition_wants io) (stream_for s io)
unfolding stream_for
stream_nodes s None = tt
stream_nodes s (Some e) = nodes_join _ _ (most_wants e) (most_wants e) 0 (omega arith) (expression_nodes s e) (λ v. in_stream_nodes v)

-- ---- heads

leaf_nodes : (n : ℕ) (origin : Origin) (w : Stream) (s : Place) (size : ℕ) → NodesAtMost n (leaf origin w s size)
unfolding leaf
leaf_nodes n origin w s size = nodes_join (reach w (byte_of s + size)) _ n 0 0 (omega arith) (λ x. tt) (λ x. tt)

bits_leaf_nodes : (n : ℕ) (origin : Origin) (w : Stream) (s : Place) (width : ℕ) → NodesAtMost n (bits_leaf origin w s width)
unfolding bits_leaf
bits_leaf_nodes n origin w s width = nodes_join (reach w (byte_of (further s width))) _ n 0 0 (omega arith) (λ x. tt) (λ x. tt)

leaf_to_end_nodes : (origin : Origin) (w : Stream) (s : Place) → NodesAtMost 0 (leaf_to_end origin w s)
unfolding leaf_to_end
leaf_to_end_nodes origin w s = nodes_join (finish w) _ 0 0 0 (omega arith) (λ e. tt) (λ e. tt)

terminated_at_nodes : (origin : Origin) (s : Place) (t : Terminator) (q : Found) → NodesAtMost 0 (terminated_at origin s t q)
terminated_at_nodes origin s t (founds.At q) = tt
terminated_at_nodes origin s t (founds.Missing e) = nodes_if t.is_required 0 _ _ tt tt

run_nodes : (origin : Origin) (w : Stream) (s : Place) (t : Option Terminator) → NodesAtMost 0 (run_of origin w s t)
unfolding run_of terminated
run_nodes origin w s None = tt
run_nodes origin w s (Some t) = nodes_join (find w (byte_of s) t.byte) _ 0 0 0 (omega arith) (λ q. tt) (λ q. terminated_at_nodes origin s t q)

sized_leaf_nodes : (at : Setting) (origin : Origin) (w : Stream) (s : Place) (e : Tree) → NodesAtMost (most_wants e) (sized_leaf at origin w s e)
unfolding sized_leaf
sized_leaf_nodes at origin w s e = nodes_join _ _ (most_wants e) (most_wants e) 0 (omega arith) (size_nodes at e) (λ n. leaf_nodes 0 origin w s n)

bytes_nodes : (at : Setting) (origin : Origin) (w : Stream) (s : Place) (x : Extent) (t : Option Terminator) → NodesAtMost (extent_wants x) (bytes_at at origin w s x t)
unfolding bytes_at
bytes_nodes at origin w s (Sized e) t = sized_leaf_nodes at origin w s e
bytes_nodes at origin w s SizeEos t = leaf_to_end_nodes origin w s
bytes_nodes at origin w s ByItself t = run_nodes origin w s t

sized_object_nodes : (at : Setting) (origin : Origin) (t : ℕ) (w : Stream) (s : Place) (e : Tree) → NodesAtMost (most_wants e) (sized_object at origin t w s e)
unfolding sized_object
sized_object_nodes at origin t w s e = nodes_join _ _ (most_wants e) (most_wants e) 0 (omega arith) (size_nodes at e) (λ n. nodes_join (reach w (byte_of s + n)) _ 0 0 0 (omega arith) (λ x. tt) (λ x. tt))

object_nodes : (at : Setting) (origin : Origin) (t : ℕ) (w : Stream) (s : Place) (x : Extent) → NodesAtMost (extent_wants x) (object_at at origin t w s x)
unfolding object_at
object_nodes at origin t w s (Sized e) = sized_object_nodes at origin t w s e
object_nodes at origin t w s SizeEos = tt
object_nodes at origin t w s ByItself = tt

content_nodes : (at : Setting) (origin : Origin) (w : Stream) (s : Place) (f : Field) (c : Content) → NodesAtMost (extent_wants f.extent) (content_at at origin w s f c)
unfolding content_at
content_nodes at origin w s f contents.Bytes = bytes_nodes at origin w s f.extent f.terminator
content_nodes at origin w s f (contents.Fixed bs) = leaf_nodes (extent_wants f.extent) origin w s (length bs)
content_nodes at origin w s f (contents.Number signed size order enum) = leaf_nodes (extent_wants f.extent) origin w s size
content_nodes at origin w s f (contents.Bits width enum) = bits_leaf_nodes (extent_wants f.extent) origin w s width
content_nodes at origin w s f (contents.Characters encoding) = bytes_nodes at origin w s f.extent f.terminator
content_nodes at origin w s f (contents.Object t given) = object_nodes at origin t w s f.extent

unchosen_nodes : (at : Setting) (origin : Origin) (w : Stream) (s : Place) (x : Extent) → NodesAtMost (extent_wants x) (unchosen_at at origin w s x)
unfolding unchosen_at
unchosen_nodes at origin w s (Sized e) = sized_leaf_nodes at origin w s e
unchosen_nodes at origin w s SizeEos = leaf_to_end_nodes origin w s
unchosen_nodes at origin w s ByItself = tt

chosen_nodes : (at : Setting) (origin : Origin) (w : Stream) (s : Place) (f : Field) (c : Option Chosen) → NodesAtMost (extent_wants f.extent) (chosen_at at origin w s f c)
chosen_nodes at origin w s f None = unchosen_nodes at origin w s f.extent
chosen_nodes at origin w s f (Some c) = content_nodes at (record origin { case = c.case }) w s f c.content

choose_nodes : (at : Setting) (c : Choice) → NodesAtMost (choice_wants c) (choose at c)
unfolding choose switched
choose_nodes at (Always c) = tt
choose_nodes at (Switch on cases) = nodes_join _ _ (choice_wants (Switch on cases)) (most_wants on) 0 (omega arith) (expression_nodes at on) (λ v. tt)

abbrev shape_wants : Field → ℕ
shape_wants f = choice_wants f.choice + extent_wants f.extent

shape_nodes : (at : Setting) (origin : Origin) (w : Stream) (s : Place) (f : Field) → NodesAtMost (shape_wants f) (shape_at at origin w s f)
unfolding shape_at
shape_nodes at origin w s f = nodes_join _ _ (shape_wants f) (choice_wants f.choice) (extent_wants f.extent) (omega arith) (choose_nodes at f.choice) (λ c. chosen_nodes at origin w s f c)

in_count_nodes : (n : ℕ) → NodesAtMost 0 (in_count n)
in_count_nodes n = nodes_if (nat_lt element_limit n) 0 _ _ tt tt

count_nodes : (at : Setting) (e : Tree) → NodesAtMost (most_wants e) (count_of at e)
unfolding count_of
count_nodes at e = nodes_join _ _ (most_wants e) (most_wants e) 0 (omega arith) (size_nodes at e) (λ n. in_count_nodes n)

counted_nodes : (at : Setting) (origin : Origin) (w : Stream) (s : Place) (e : Tree) → NodesAtMost (most_wants e) (counted at origin w s e)
unfolding counted
counted_nodes at origin w s e = nodes_join _ _ (most_wants e) (most_wants e) 0 (omega arith) (count_nodes at e) (λ n. tt)

until_eos_nodes : (n : ℕ) (at : Setting) (origin : Origin) (w : Stream) (s : Place) → NodesAtMost n (until_eos at origin w s)
unfolding until_eos
until_eos_nodes n at origin w s = nodes_join (done w s) _ n 0 0 (omega arith) (λ b. tt) (λ b. tt)

repeated_nodes : (at : Setting) (origin : Origin) (w : Stream) (s : Place) (f : Field) (r : Repeat) → NodesAtMost (repeat_wants r + shape_wants f) (repeated at origin w s f r)
unfolding repeated
repeated_nodes at origin w s f Once = nodes_more (shape_wants f) _ _ (omega arith) (shape_nodes at origin w s f)
repeated_nodes at origin w s f (Expr e) = nodes_more (most_wants e) _ _ (omega arith) (counted_nodes at origin w s e)
repeated_nodes at origin w s f Eos = until_eos_nodes _ at origin w s
repeated_nodes at origin w s f (Until e) = tt

attribute_nodes : (at : Setting) (origin : Origin) (w : Stream) (s : Place) (f : Field) → NodesAtMost (field_wants f) (attribute_at at origin w s f)
unfolding attribute_at
attribute_nodes at origin w s f =
    nodes_join _ _ (field_wants f) (condition_wants f.condition) (repeat_wants f.repeat + shape_wants f) (omega arith) (holds_nodes at f.condition) (λ there.
    nodes_if there (repeat_wants f.repeat + shape_wants f) _ _ (repeated_nodes at origin w s f f.repeat) tt)

part_end_nodes : (q : Trail) (step : Step) → NodesAtMost 1 (part_end q step)
unfolding part_end
part_end_nodes q step = nodes_join _ _ 1 0 1 (omega arith) (part_nodes q step) (λ p. end_nodes p)

start_nodes : (q : Trail) (o : Object) (before : Option ℕ) (c : Choice) → NodesAtMost 1 (attribute_start q o before c)
unfolding attribute_start
start_nodes q o None c = tt
start_nodes q o (Some y) c = nodes_join _ _ 1 1 0 (omega arith) (part_end_nodes q (steps.Name y)) (λ e. tt)

attribute_head_nodes : (p q : Trail) (o : Object) (x : Sought) (f : Field) → NodesAtMost (1 + field_wants f) (attribute_head p q o x f)
unfolding attribute_head
attribute_head_nodes p q o x f = nodes_join _ _ (1 + field_wants f) 1 (field_wants f) (omega arith) (start_nodes q o x.before f.choice) (λ s. attribute_nodes _ _ _ s f)

-- the position of a parse instance, and what it reads there
abbrev positioned_wants : Tree → Field → ℕ
positioned_wants e f = most_wants e + (repeat_wants f.repeat + shape_wants f)

positioned_in_nodes : (at : Setting) (origin : Origin) (w : Stream) (e : Tree) (f : Field) → NodesAtMost (positioned_wants e f) (positioned_in at origin w e f)
unfolding positioned_in
positioned_in_nodes at origin w e f =
    let more : ℕ = repeat_wants f.repeat + shape_wants f in
    nodes_join _ _ (positioned_wants e f) (most_wants e) more (omega arith) (size_nodes at e) (λ n.
    nodes_join (reach w (w.from + n)) _ more 0 more (omega arith) (λ x. tt) (λ x. repeated_nodes (record at { place = at_byte (w.from + n) }) origin w (at_byte (w.from + n)) f f.repeat))

positioned_nodes : (at : Setting) (origin : Origin) (e : Tree) (io : Option Tree) (f : Field) → NodesAtMost (condition_wants io + positioned_wants e f) (positioned at origin e io f)
unfolding positioned
positioned_nodes at origin e io f = nodes_join _ _ (condition_wants io + positioned_wants e f) (condition_wants io) (positioned_wants e f) (omega arith) (stream_nodes at io) (λ w. positioned_in_nodes at origin w e f)

instance_head_nodes : (at : Setting) (origin : Origin) (e : Tree) (io : Option Tree) (f : Field) → NodesAtMost (kind_wants (ParseInstance e io f)) (instance_head at origin e io f)
unfolding instance_head
instance_head_nodes at origin e io f =
    nodes_join _ _ (kind_wants (ParseInstance e io f)) (condition_wants f.condition) (condition_wants io + positioned_wants e f) (omega arith) (holds_nodes at f.condition) (λ there.
    nodes_if there (condition_wants io + positioned_wants e f) _ _ (positioned_nodes at origin e io f) tt)

value_head_nodes : (at : Setting) (o : Object) (x : Sought) (condition : Option Tree) → NodesAtMost (condition_wants condition) (value_head at o x condition)
unfolding value_head
value_head_nodes at o x condition =
    nodes_join _ _ (condition_wants condition) (condition_wants condition) 0 (omega arith) (holds_nodes at condition) (λ there. nodes_if there 0 _ _ tt tt)

member_nodes : (p q : Trail) (o : Object) (x : Sought) (k : MemberKind) → NodesAtMost (1 + kind_wants k) (member_at p q o x k)
unfolding member_at
member_nodes p q o x Parameter = tt
member_nodes p q o x (Attribute f) = attribute_head_nodes p q o x f
member_nodes p q o x (ParseInstance e io f) = nodes_more (kind_wants (ParseInstance e io f)) _ _ (omega arith) (instance_head_nodes _ _ e io f)
member_nodes p q o x (ValueInstance v) = nodes_more (condition_wants v.condition) _ _ (omega arith) (value_head_nodes _ o x v.condition)

member_head_nodes : (d : Description) (p q : Trail) (x : ℕ) → NodesAtMost (2 + all_wants d) (member_head d p q x)
unfolding member_head
member_head_nodes d p q x =
    nodes_join _ _ (2 + all_wants d) 1 (1 + all_wants d) (omega arith) (head_nodes q) (λ h.
    nodes_join _ _ (1 + all_wants d) 0 (1 + all_wants d) (omega arith) (in_object_nodes q h) (λ o.
    gives_nodes (1 + all_wants d) (λ s. kind_wants s.kind ≤ all_wants d) (member_named d o.type_number x) _ (found_gives d o.type_number x) (λ m le. nodes_more (1 + kind_wants m.kind) _ _ (omega arith) (member_nodes p q o m m.kind))))

in_list_nodes : (l : Trail) (h : Head) → NodesAtMost 0 (in_list l h)
in_list_nodes l (heads.List g) = tt
in_list_nodes l (heads.Absent at) = tt
in_list_nodes l (heads.Calc c) = tt
in_list_nodes l (heads.Leaf b) = tt
in_list_nodes l (heads.Object o) = tt

in_next_nodes : (e : Ended) → NodesAtMost 0 (in_next e)
in_next_nodes e = nodes_if e.last 0 _ _ tt tt

next_start_nodes : (l : Trail) (i : ℕ) → NodesAtMost 1 (next_start l i)
unfolding next_start
next_start_nodes l i = nodes_join _ _ 1 1 0 (omega arith) (part_end_nodes l (steps.Index i)) (λ e. in_next_nodes e)

element_start_nodes : (l : Trail) (g : lists.List) (i : ℕ) → NodesAtMost 1 (element_start l g i)
unfolding element_start
element_start_nodes l g i = nodes_if (g.is_empty || is_past g.count i) 1 _ _ tt (nodes_if (i == 0) 1 _ _ tt (next_start_nodes l (i - 1)))

element_head_nodes : (d : Description) (p l q : Trail) (i : ℕ) → NodesAtMost (2 + all_wants d) (element_head d p l q i)
unfolding element_head
element_head_nodes d p l q i =
    nodes_join _ _ (2 + all_wants d) 1 (1 + all_wants d) (omega arith) (head_nodes l) (λ h.
    nodes_join _ _ (1 + all_wants d) 0 (1 + all_wants d) (omega arith) (in_list_nodes l h) (λ g.
    nodes_join _ _ (1 + all_wants d) 1 (all_wants d) (omega arith) (element_start_nodes l g i) (λ s.
    gives_nodes (all_wants d) (λ f. field_wants f ≤ all_wants d) (field_of d g.origin.member) _ (field_gives d g.origin.member) (λ f le. nodes_more (shape_wants f) _ _ (omega arith) (shape_nodes _ g.origin g.stream s f)))))

head_at_nodes : (d : Description) (p : Trail) (step : Option Step) → NodesAtMost (2 + all_wants d) (head_at d p step)
head_at_nodes d p None = tt
head_at_nodes d p (Some (steps.Name x)) = member_head_nodes d p (parent p) x
head_at_nodes d p (Some (steps.Index i)) = element_head_nodes d p (parent p) (parent (parent p)) i

pub head_of_nodes : (d : Description) (p : Trail) → NodesAtMost (2 + all_wants d) (head_of d p)
unfolding head_of
head_of_nodes d p = head_at_nodes d p (last p)

-- ---- values

in_number_nodes : (enum : Option ℕ) (n : Option ℤ) → NodesAtMost 0 (in_number enum n)
in_number_nodes enum None = tt
in_number_nodes enum (Some n) = tt

number_in_nodes : (signed : Bool) (order : ByteOrder) (enum : Option ℕ) (bytes : List ℕ) → NodesAtMost 0 (number_in signed order enum bytes)
number_in_nodes signed order enum bytes = nodes_if (nat_le (length bytes) 8) 0 _ _ (in_number_nodes enum (ranged (integer_value signed order bytes))) tt

number_nodes : (l : Leaf) (signed : Bool) (order : ByteOrder) (enum : Option ℕ) → NodesAtMost 0 (number_value l signed order enum)
unfolding number_value
number_nodes l signed order enum = nodes_join (peek (byte_of l.from) (byte_of l.to)) _ 0 0 0 (omega arith) (λ bs. tt) (λ bs. number_in_nodes signed order enum bs)

of_bits_nodes : (width : ℕ) (enum : Option ℕ) (n : ℕ) → NodesAtMost 0 (of_bits width enum n)
of_bits_nodes width enum n = nodes_if (is_truth width enum) 0 _ _ tt (in_number_nodes enum (ranged (pos n)))

bits_nodes : (l : Leaf) (width : ℕ) (enum : Option ℕ) → NodesAtMost 0 (bits_value l width enum)
unfolding bits_value
bits_nodes l width enum =
    nodes_join (peek (byte_in l.from) (byte_of l.to)) _ 0 0 0 (omega arith) (λ bs. tt) (λ bs.
    nodes_if (nat_le (length bs) 9) 0 _ _ (of_bits_nodes width enum (number_of (bits_from l.from l.to bs))) tt)

fixed_nodes : (l : Leaf) (expected : List ℕ) → NodesAtMost 0 (fixed_value l expected)
unfolding fixed_value
fixed_nodes l expected = nodes_join (peek (byte_of l.from) (byte_of l.to)) _ 0 0 0 (omega arith) (λ bs. tt) (λ bs. nodes_if (bytes_eq bs expected) 0 _ _ tt tt)

cut_nodes : (l : Leaf) (f : Field) → NodesAtMost 0 (cut_bytes l f)
unfolding cut_bytes
cut_nodes l f = nodes_join (peek (byte_of l.from) (byte_of l.to)) _ 0 0 0 (omega arith) (λ bs. tt) (λ bs. tt)

bytes_value_nodes : (l : Leaf) (f : Field) → NodesAtMost 0 (bytes_value l f)
unfolding bytes_value
bytes_value_nodes l f = nodes_if (is_cut f) 0 _ _ (cut_nodes l f) tt

in_text_nodes : (t : Option (List ℕ)) → NodesAtMost 0 (in_text t)
in_text_nodes None = tt
in_text_nodes (Some t) = tt

text_nodes : (l : Leaf) (encoding : Encoding) (f : Field) → NodesAtMost 0 (text_value l encoding f)
unfolding text_value
text_nodes l encoding f = nodes_join (peek (byte_of l.from) (byte_of l.to)) _ 0 0 0 (omega arith) (λ bs. tt) (λ bs. in_text_nodes (decoded encoding (cut_text f bs)))

content_value_nodes : (l : Leaf) (f : Field) (c : Content) → NodesAtMost 0 (content_value l f c)
unfolding content_value
content_value_nodes l f contents.Bytes = bytes_value_nodes l f
content_value_nodes l f (contents.Fixed bs) = fixed_nodes l bs
content_value_nodes l f (contents.Number signed size order enum) = number_nodes l signed order enum
content_value_nodes l f (contents.Bits width enum) = bits_nodes l width enum
content_value_nodes l f (contents.Characters encoding) = text_nodes l encoding f
content_value_nodes l f (contents.Object t given) = tt

-- what asks nothing goes on
leaf_value_nodes : (d : Description) (l : Leaf) → NodesAtMost 0 (leaf_value d l)
unfolding leaf_value
leaf_value_nodes d l =
    gives_nodes 0 (λ f. field_wants f ≤ all_wants d) (field_of d l.origin.member) _ (field_gives d l.origin.member) (λ f le.
    gives_nodes 0 (λ k. content_wants k ≤ choice_wants f.choice) (content_of f.choice l.origin.case) _ (content_gives f.choice l.origin.case) (λ c le'. content_value_nodes l f c))

in_no_stream_nodes : (v : Value) → NodesAtMost 0 (in_no_stream v)
in_no_stream_nodes (values.Stream w) = tt
in_no_stream_nodes _ = tt

in_enum_nodes : (enum : Option ℕ) (v : Value) → NodesAtMost 0 (in_enum enum v)
in_enum_nodes None v = in_no_stream_nodes v
in_enum_nodes (Some e) (values.Int n) = tt
in_enum_nodes (Some e) _ = tt

instance_value_nodes : (at : Setting) (e : Tree) (enum : Option ℕ) → NodesAtMost (most_wants e) (instance_value at e enum)
unfolding instance_value
instance_value_nodes at e enum = nodes_join _ _ (most_wants e) (most_wants e) 0 (omega arith) (expression_nodes at e) (λ v. in_enum_nodes enum v)

plain_value_nodes : (at : Setting) (e : Tree) → NodesAtMost (most_wants e) (plain_value at e)
unfolding plain_value
plain_value_nodes at e = nodes_join _ _ (most_wants e) (most_wants e) 0 (omega arith) (expression_nodes at e) (λ v. in_no_stream_nodes v)

argument_value_nodes : (d : Description) (p q : Trail) (member : ℕ) (o : Holder) (g : Origin) → NodesAtMost (all_wants d) (argument_value d p q member o g)
unfolding argument_value
argument_value_nodes d p q member o g =
    gives_nodes (all_wants d) (λ es. arguments_wants es ≤ all_wants d) (arguments_for d g) _ (arguments_gives d g) (λ es le.
    gives_nodes (all_wants d) (λ e. most_wants e ≤ arguments_wants es) (argument_at es (parameters_before member (members_of d o.type_number))) _ (argument_gives es _) (λ e le'.
    nodes_more (most_wants e) _ _ (omega arith) (plain_value_nodes (argument_setting p q g o.start) e)))

parameter_value_nodes : (d : Description) (p q : Trail) (member : ℕ) (o : Holder) (g : Option Origin) → NodesAtMost (all_wants d) (parameter_value d p q member o g)
unfolding parameter_value
parameter_value_nodes d p q member o None = tt
parameter_value_nodes d p q member o (Some g) = argument_value_nodes d p q member o g

calc_value_nodes : (d : Description) (p q : Trail) (c : Calc) (k : MemberKind) → kind_wants k ≤ all_wants d → NodesAtMost (all_wants d) (calc_value d p q c k)
unfolding calc_value
calc_value_nodes d p q c Parameter le = parameter_value_nodes d p q c.member c.object c.object.origin
calc_value_nodes d p q c (ValueInstance v) le = nodes_more (most_wants v.value) _ _ (omega arith) (instance_value_nodes _ v.value v.enum)
calc_value_nodes d p q c (Attribute f) le = tt
calc_value_nodes d p q c (ParseInstance e io f) le = tt

calculated_nodes : (d : Description) (p q : Trail) (c : Calc) → NodesAtMost (all_wants d) (calculated d p q c)
unfolding calculated
calculated_nodes d p q c = gives_nodes (all_wants d) (λ k. kind_wants k ≤ all_wants d) (kind_of d _) _ (kind_gives d _) (λ k le. calc_value_nodes d p q c k le)

value_at_nodes : (d : Description) (p : Trail) (h : Head) → NodesAtMost (all_wants d) (value_at d p h)
unfolding value_at
value_at_nodes d p (heads.Absent at) = tt
value_at_nodes d p (heads.Calc c) = calculated_nodes d p (parent p) c
value_at_nodes d p (heads.Leaf l) = nodes_more 0 _ _ (omega arith) (leaf_value_nodes d l)
value_at_nodes d p (heads.Object o) = tt
value_at_nodes d p (heads.List g) = tt

-- ---- checks

abbrev member_checks : MemberOfType → ℕ
member_checks m = valid_wants (valid_of m.kind)

checks_of_type : (o : Option TypeOfObjects) → sum_by member_checks (option_map_or (λ x. x.members) o []) ≤ option_map_or type_checks o 0
checks_of_type None = omega arith
checks_of_type (Some t) = omega arith

-- what all conditions for values want
abbrev all_checks : Description → ℕ
all_checks d = sum_by type_checks d.types

members_checks : (d : Description) (t : ℕ) → sum_by member_checks (members_of d t) ≤ all_checks d
unfolding members_of
members_checks d t = omega (arith, checks_of_type (slice_get d.types t), part_of_sum type_checks d.types t)

in_kind_checks : (n : ℕ) (o : Option MemberOfType) → option_map_or member_checks o 0 ≤ n → Gives (λ k. valid_wants (valid_of k) ≤ n) (in_kind o)
in_kind_checks n None h = tt
in_kind_checks n (Some m) h = h

-- a member of a place, and what its value must meet
valid_gives : (d : Description) (r : MemberRef) → Gives (λ k. valid_wants (valid_of k) ≤ all_checks d) (kind_of d r)
unfolding kind_of
valid_gives d r =
    let ms = members_of d r.type_number in
    let part = part_of_sum member_checks ms r.member in
    let all = members_checks d r.type_number in
    in_kind_checks (all_checks d) (slice_get ms r.member) (omega (arith, part, all))

meets_one_nodes : (s : Setting) (es : List Tree) → NodesAtMost (sum_by most_wants es) (meets_one s es)
unfolding meets_one
meets_one_nodes s [] = tt
meets_one_nodes s (e ∷ es) =
    let w = sum_by most_wants es in
    nodes_join _ _ (sum_by most_wants (e ∷ es)) (most_wants e) w (omega (arith, sum_by-cons most_wants e es)) (truth_nodes s e) (λ b. nodes_if b w _ _ tt (meets_one_nodes s es))

meets_each_nodes : (s : Setting) (es : List Tree) → NodesAtMost (sum_by most_wants es) (meets_each s es)
unfolding meets_each
meets_each_nodes s [] = tt
meets_each_nodes s (e ∷ es) =
    let w = sum_by most_wants es in
    nodes_join _ _ (sum_by most_wants (e ∷ es)) (most_wants e) w (omega (arith, sum_by-cons most_wants e es)) (truth_nodes s e) (λ b. nodes_if b w _ _ (meets_each_nodes s es) tt)

meets_nodes : (s : Setting) (x : Valid) → NodesAtMost (valid_wants (Some x)) (meets s x)
meets_nodes s (AnyOf es) = meets_one_nodes s es
meets_nodes s (AllOf es) = meets_each_nodes s es

checked_if_nodes : (s : Setting) (x : Option Valid) (v : Value) → NodesAtMost (valid_wants x) (checked_if s x v)
unfolding checked
checked_if_nodes s None v = tt
checked_if_nodes s (Some x) v =
    let w = valid_wants (Some x) in
    nodes_join _ _ w w 0 (omega arith) (meets_nodes (with_value s v) x) (λ b. nodes_if b 0 _ _ tt tt)

member_checked_nodes : (d : Description) (r : MemberRef) (s : Setting) (v : Value) → NodesAtMost (all_checks d) (member_checked d r s v)
unfolding member_checked
member_checked_nodes d r s v = gives_nodes (all_checks d) (λ k. valid_wants (valid_of k) ≤ all_checks d) (kind_of d r) _ (valid_gives d r) (λ k le. nodes_more (valid_wants (valid_of k)) _ _ le (checked_if_nodes s (valid_of k) v))

object_checked_nodes : (d : Description) (p : Trail) (o : Object) (g : Option Origin) (v : Value) → NodesAtMost (all_checks d) (object_checked d p o g v)
object_checked_nodes d p o None v = tt
object_checked_nodes d p o (Some g) v = member_checked_nodes d g.member _ v

value_checked_nodes : (d : Description) (p : Trail) (h : Head) (v : Value) → NodesAtMost (all_checks d) (value_checked d p h v)
unfolding value_checked
value_checked_nodes d p (heads.Absent at) v = tt
value_checked_nodes d p (heads.Calc c) v = member_checked_nodes d _ _ v
value_checked_nodes d p (heads.Leaf l) v = member_checked_nodes d l.origin.member _ v
value_checked_nodes d p (heads.Object o) v = object_checked_nodes d p o o.origin v
value_checked_nodes d p (heads.List g) v = tt

-- what all expressions want, and the conditions for values besides
abbrev all_asks : Description → ℕ
all_asks d = all_wants d + all_checks d

value_of_nodes : (d : Description) (p : Trail) → NodesAtMost (1 + all_asks d) (value_of d p)
unfolding value_of
value_of_nodes d p =
    nodes_join _ _ (1 + all_asks d) 1 (all_asks d) (omega arith) (head_nodes p) (λ h.
    nodes_join _ _ (all_asks d) (all_wants d) (all_checks d) (omega arith) (value_at_nodes d p h) (λ v.
    nodes_join _ _ (all_checks d) (all_checks d) 0 (omega arith) (value_checked_nodes d p h v) (λ u. tt)))

-- ---- ends

fields_end_nodes : (p : Trail) (start : Place) (z : Option ℕ) → NodesAtMost 1 (fields_end p start z)
unfolding fields_end
fields_end_nodes p start None = tt
fields_end_nodes p start (Some z) = nodes_join _ _ 1 1 0 (omega arith) (part_end_nodes p (steps.Name z)) (λ e. tt)

stream_end_nodes : (w : Stream) → NodesAtMost 1 (stream_end w)
unfolding stream_end
stream_end_nodes w = nodes_join (finish w) _ 1 0 1 (omega arith) (λ e. tt) (λ e. tt)

object_end_nodes : (d : Description) (p : Trail) (o : Object) (e : ObjectEnd) → NodesAtMost 1 (object_end d p o e)
unfolding object_end
object_end_nodes d p o endings.OfStream = stream_end_nodes o.stream
object_end_nodes d p o endings.ByFields = fields_end_nodes p o.start (last_attribute None (members_of d o.type_number))

part_rest_nodes : (p : Trail) (step : Step) → NodesAtMost 1 (part_rest p step)
unfolding part_rest
part_rest_nodes p step = nodes_join _ _ 1 0 1 (omega arith) (part_nodes p step) (λ q. rest_nodes q)

list_end_nodes : (p : Trail) → NodesAtMost 1 (list_end p)
unfolding list_end
list_end_nodes p = nodes_join _ _ 1 1 0 (omega arith) (part_rest_nodes p (steps.Index 0)) (λ r. tt)

absent_end_nodes : (at : Option Place) → NodesAtMost 1 (absent_end at)
absent_end_nodes None = tt
absent_end_nodes (Some s) = tt

place_nodes : (d : Description) (p : Trail) (h : Head) → NodesAtMost 1 (place_of d p h)
unfolding place_of
place_nodes d p (heads.Absent at) = absent_end_nodes at
place_nodes d p (heads.Calc c) = tt
place_nodes d p (heads.Leaf l) = tt
place_nodes d p (heads.Object o) = object_end_nodes d p o o.ending
place_nodes d p (heads.List g) = list_end_nodes p

is_last_nodes : (q : Trail) (g : lists.List) (p : Trail) (i : ℕ) (e : Place) (r : Repeat) → NodesAtMost (repeat_wants r) (is_last q g p i e r)
unfolding is_last
is_last_nodes q g p i e Once = tt
is_last_nodes q g p i e (Expr n) = tt
is_last_nodes q g p i e Eos = λ b. tt
is_last_nodes q g p i e (Until c) = truth_nodes (behind_element q g p i e) c

not_empty_nodes : (r : Repeat) (start e : Place) → NodesAtMost 0 (not_empty r start e)
unfolding not_empty
not_empty_nodes r start e = nodes_if (is_by_bytes r) 0 _ _ (nodes_if (is_same e start) 0 _ _ tt tt) tt

element_end_nodes : (d : Description) (p l q : Trail) (i : ℕ) (h : Head) (e : Place) → NodesAtMost (1 + all_wants d) (element_end d p l q i h e)
unfolding element_end
element_end_nodes d p l q i h e =
    nodes_join _ _ (1 + all_wants d) 1 (all_wants d) (omega arith) (head_nodes l) (λ k.
    nodes_join _ _ (all_wants d) 0 (all_wants d) (omega arith) (in_list_nodes l k) (λ g.
    gives_nodes (all_wants d) (λ f. field_wants f ≤ all_wants d) (field_of d g.origin.member) _ (field_gives d g.origin.member) (λ f le.
    nodes_join _ _ (all_wants d) 0 (repeat_wants f.repeat) (omega arith) (not_empty_nodes f.repeat (start_of h) e) (λ u.
    nodes_join _ _ (repeat_wants f.repeat) (repeat_wants f.repeat) 0 (omega arith) (is_last_nodes q g p i e f.repeat) (λ b. tt)))))

end_at_nodes : (d : Description) (p : Trail) (step : Option Step) (h : Head) (e : Place) → NodesAtMost (1 + all_wants d) (end_at d p step h e)
end_at_nodes d p None h e = tt
end_at_nodes d p (Some (steps.Name x)) h e = tt
end_at_nodes d p (Some (steps.Index i)) h e = element_end_nodes d p (parent p) (parent (parent p)) i h e

end_of_nodes : (d : Description) (p : Trail) → NodesAtMost (3 + all_wants d) (end_of d p)
unfolding end_of
end_of_nodes d p =
    nodes_join _ _ (3 + all_wants d) 1 (2 + all_wants d) (omega arith) (head_nodes p) (λ h.
    nodes_join _ _ (2 + all_wants d) 1 (1 + all_wants d) (omega arith) (place_nodes d p h) (λ e.
    end_at_nodes d p (last p) h e))

-- ---- rests

next_rest_nodes : (l : Trail) (i : ℕ) → NodesAtMost 1 (next_rest l i)
unfolding next_rest
next_rest_nodes l i = nodes_if (i + 1 == element_limit) 1 _ _ tt (part_rest_nodes l (steps.Index (i + 1)))

rest_behind_nodes : (l : Trail) (i : ℕ) (e : Ended) → NodesAtMost 1 (rest_behind l i e)
rest_behind_nodes l i e = nodes_if e.last 1 _ _ tt (next_rest_nodes l i)

rest_from_nodes : (p l : Trail) (i : ℕ) → NodesAtMost 2 (rest_from p l i)
unfolding rest_from
rest_from_nodes p l i = nodes_join _ _ 2 1 1 (omega arith) (end_nodes p) (λ e. rest_behind_nodes l i e)

in_whole_list_nodes : (l : Trail) (h : Head) → NodesAtMost 0 (in_whole_list l h)
in_whole_list_nodes l (heads.List g) = tt
in_whole_list_nodes l (heads.Absent at) = tt
in_whole_list_nodes l (heads.Calc c) = tt
in_whole_list_nodes l (heads.Leaf b) = tt
in_whole_list_nodes l (heads.Object o) = tt

first_rest_nodes : (p l : Trail) (g : lists.List) → NodesAtMost 2 (first_rest p l g)
first_rest_nodes p l g = nodes_if g.is_empty 2 _ _ tt (rest_from_nodes p l 0)

whole_rest_nodes : (p l : Trail) → NodesAtMost 3 (whole_rest p l)
unfolding whole_rest
whole_rest_nodes p l =
    nodes_join _ _ 3 1 2 (omega arith) (head_nodes l) (λ h.
    nodes_join _ _ 2 0 2 (omega arith) (in_whole_list_nodes l h) (λ g. first_rest_nodes p l g))

rest_at_nodes : (p : Trail) (step : Option Step) → NodesAtMost 3 (rest_at p step)
rest_at_nodes p None = tt
rest_at_nodes p (Some (steps.Name x)) = tt
rest_at_nodes p (Some (steps.Index i)) = nodes_if (i == 0) 3 _ _ (whole_rest_nodes p (parent p)) (nodes_more 2 3 _ (omega arith) (rest_from_nodes p (parent p) i))

rest_of_nodes : (d : Description) (p : Trail) → NodesAtMost 3 (rest_of d p)
unfolding rest_of
rest_of_nodes d p = rest_at_nodes p (last p)

-- ---- nodes

meaning_nodes : (d : Description) (k : NodeKind) (p : Trail) → NodesAtMost (4 + all_asks d) (meaning_of d k p)
unfolding meaning_of
meaning_nodes d nodes.Head p = nodes_join _ _ (4 + all_asks d) (2 + all_wants d) 0 (omega arith) (head_of_nodes d p) (λ h. tt)
meaning_nodes d nodes.Value p = nodes_join _ _ (4 + all_asks d) (1 + all_asks d) 0 (omega arith) (value_of_nodes d p) (λ v. tt)
meaning_nodes d nodes.End p = nodes_join _ _ (4 + all_asks d) (3 + all_wants d) 0 (omega arith) (end_of_nodes d p) (λ e. tt)
meaning_nodes d nodes.Rest p = nodes_join _ _ (4 + all_asks d) 3 0 (omega arith) (rest_of_nodes d p) (λ r. tt)

-- a rule asks no more nodes than this
pub rule_nodes : (d : Description) (n : Node) → NodesAtMost (most_asks d) (rule_of d n)
unfolding rule_of most_asks
rule_nodes d n = meaning_nodes d n.kind n.path

done_of : (r : Ran Node Fault State Answered) → IsEnded r → IsDone (step_of r)
done_of (Need n s) h = h
done_of (Failed f s) h = tt
done_of (Done g s) h = tt

-- with this many replies, true or not, a node is done
pub settles : (d : Description) (bytes : List ℕ) (n : Node) (replies : List (Result Answered Fault)) → most_asks d ≤ length replies → IsDone (step_of (resumed d bytes n replies))
settles d bytes n replies h = done_of (resumed d bytes n replies) (enough (most_asks d) (rule_of d n) (fresh n.path bytes replies) (rule_nodes d n) h)
