-- How many wants an expression makes.
use Rattle.std.proofs.Common.{ℕ, ◌+◌, ◌-◌, List, [], ◌∷◌, Option, Some, None, Bool, true, false, nat_lt, ◌==◌, if◌then◌else◌, ℤ, pos, negsuc, Result, Ok, Err}
use Rattle.std.proofs.Common.{arith}
use Rattle.ksv_basics.specs.Plan.{Answer, AsksAtMost}
use Rattle.ksv_basics.proofs.Bounds.{asks_more, asks_bind, asks_join, asks_if}
use Rattle.ksv_expr_tree.specs.Tree.{Tree, Word, no_arguments, argument, literal, named, special, member, unary, binary, logical, choice, field, special_field}
use Rattle.ksv_expr_tree.specs.Tree.{call, index, cast}
use Rattle.ksv_expr_tree.specs.declared.tree.BinaryOperator.{BinaryOperator}
use Rattle.ksv_expr_tree.specs.declared.tree.BinaryOperator.TheVariants as operators
use Rattle.ksv_expr_tree.specs.declared.tree.SpecialName.{SpecialName}
use Rattle.ksv_expr_tree.specs.declared.tree.SpecialName.TheVariants as specials
use Rattle.ksv_expr_tree.specs.declared.tree.EnumMember.{EnumMember}
use Rattle.ksv_expr_value.specs.declared.fault.FaultKind.{FaultKind}
use Rattle.ksv_expr_value.specs.declared.fault.FaultKind.TheVariants as kinds
use Rattle.ksv_expr_value.specs.declared.encoding.Encoding.{Encoding}
use Rattle.ksv_expr_meaning.specs.declared.method.Method.{Method}
use Rattle.ksv_expr_meaning.specs.declared.method.Method.TheVariants as methods
use Rattle.ksv_expr_value.specs.declared.step.Step.TheVariants as steps
use Rattle.ksv_expr_value.specs.declared.value.Stream.{Stream}
use Rattle.ksv_expr_value.specs.declared.value.Value.{Value}
use Rattle.ksv_expr_value.specs.declared.value.Value.TheVariants as values
use Rattle.ksv_expr_meaning.specs.declared.want.Want.{Want}
use Rattle.ksv_expr_meaning.specs.declared.want.Want.TheVariants as wants
use Rattle.ksv_expr_value.specs.Trail.{Trail, child, holder}
use Rattle.ksv_expr_value.specs.Range.{ranged}
use Rattle.ksv_expr_meaning.specs.Methods.{method_named}
use Rattle.ksv_expr_value.specs.Encodings.{encoding_named, decoded}
use Rattle.ksv_expr_meaning.specs.Operators.{matched, unary_of}
use Rattle.ksv_expr_meaning.specs.Heard.{Valued, Opened, Numbered, Decided, Read}
use Rattle.ksv_expr_value.specs.Setting.{Setting, Element, NoElement, ElementAt, Made}
use Rattle.ksv_expr_value.specs.Places.{byte_of}
use Rattle.ksv_expr_meaning.specs.Asked.{Eval, raise, given, value_for, opened_for, number_for, truth_for, bytes_for}
use Rattle.ksv_expr_meaning.specs.Meaning.{in_path, member_path, member_value, element_path, element_value, element_count, holder_of, stream_of, index_value}
use Rattle.ksv_expr_meaning.specs.Meaning.{element_read, special_value, ranged_member, enum_member, in_truth_value, truth_value, decides, same_bytes}
use Rattle.ksv_expr_meaning.specs.Meaning.{bytes_with, integer_and, truth_and, text_and, bytes_and, member_and, binary_of, distance, size_to, stream_size}
use Rattle.ksv_expr_meaning.specs.Meaning.{at_end, stream_method, list_size, last_element, list_method, method_of, method_by, field_of, is_own_stream}
use Rattle.ksv_expr_meaning.specs.Meaning.{object_special, special_of, decoded_text, decoded_by, text_in, bytes_call, call_one, call_two, first_byte, byte_from}
use Rattle.ksv_expr_meaning.specs.Meaning.{byte_at, list_at, bytes_at, item_at, object_of_type, object_as, cast_to, value_of}
use Rattle.ksv_expr_meaning.specs.Evaluation.{most_wants}

-- single questions
value_for_asks : (w : Want) → AsksAtMost 1 (value_for w)
value_for_asks w (Valued v) = tt
value_for_asks w _ = tt

opened_for_asks : (w : Want) → AsksAtMost 1 (opened_for w)
opened_for_asks w (Opened t u) = tt
opened_for_asks w _ = tt

number_for_asks : (w : Want) → AsksAtMost 1 (number_for w)
number_for_asks w (Numbered n) = tt
number_for_asks w _ = tt

truth_for_asks : (w : Want) → AsksAtMost 1 (truth_for w)
truth_for_asks w (Decided b) = tt
truth_for_asks w _ = tt

bytes_for_asks : (w : Want) → AsksAtMost 1 (bytes_for w)
bytes_for_asks w (Read bs) = tt
bytes_for_asks w _ = tt

-- plans that ask nothing
given_asks : {A : Type 0} (n : ℕ) (r : Result A FaultKind) → AsksAtMost n (given r)
given_asks n (Ok a) = tt
given_asks n (Err k) = tt

in_path_asks : (p : Option Trail) → AsksAtMost 0 (in_path p)
in_path_asks None = tt
in_path_asks (Some p) = tt

member_path_asks : (q : Trail) (x : Option ℕ) → AsksAtMost 0 (member_path q x)
unfolding member_path
member_path_asks q None = tt
member_path_asks q (Some x) = in_path_asks (child q (steps.Name x))

member_asks : (q : Trail) (x : Option ℕ) → AsksAtMost 1 (member_value q x)
unfolding member_value
member_asks q x = asks_bind 0 1 (member_path q x) (λ p. value_for (wants.Value p)) (member_path_asks q x) (λ p. value_for_asks (wants.Value p))

element_path_asks : (l : Trail) (i : ℤ) → AsksAtMost 0 (element_path l i)
unfolding element_path
element_path_asks l (pos i) = asks_if (nat_lt i 1048576) 0 (in_path (child l (steps.Index i))) (raise kinds.BadIndex) (in_path_asks (child l (steps.Index i)))
    tt
element_path_asks l (negsuc i) = tt

element_asks : (l : Trail) (i : ℤ) → AsksAtMost 1 (element_value l i)
unfolding element_value
element_asks l i = asks_bind 0 1 (element_path l i) (λ p. value_for (wants.Value p)) (element_path_asks l i) (λ p. value_for_asks (wants.Value p))

count_asks : (l : Trail) → AsksAtMost 1 (element_count l)
unfolding element_count
count_asks l = asks_bind 0 1 (in_path (child l (steps.Index 0))) (λ p. number_for (wants.Rest p)) (in_path_asks (child l (steps.Index 0)))
    (λ p. number_for_asks (wants.Rest p))

holder_asks : (n : ℕ) (p : Option Trail) → AsksAtMost n (holder_of p)
holder_asks n None = tt
holder_asks n (Some p) = tt

stream_asks : (q : Trail) → AsksAtMost 1 (stream_of q)
unfolding stream_of
stream_asks q = asks_bind 1 0 (opened_for (wants.Head q)) (λ o. Answer (values.Stream o.stream)) (opened_for_asks (wants.Head q)) (λ o. tt)

index_asks : (n : ℕ) (i : Option ℕ) → AsksAtMost n (index_value i)
index_asks n None = tt
index_asks n (Some i) = tt

read_asks : (x : Element) → AsksAtMost 1 (element_read x)
read_asks NoElement = tt
read_asks (ElementAt p) = value_for_asks (wants.Value p)
read_asks (Made v) = tt

special_asks : (s : Setting) (n : SpecialName) → AsksAtMost 1 (special_value s n)
unfolding special_value
special_asks s specials.Root = tt
special_asks s specials.Parent = holder_asks 1 (holder s.home)
special_asks s specials.Io = tt
special_asks s specials.Index = index_asks 1 s.index
special_asks s specials.Element = read_asks s.element

ranged_member_asks : (e : ℕ) (n : Option ℤ) → AsksAtMost 0 (ranged_member e n)
ranged_member_asks e None = tt
ranged_member_asks e (Some n) = tt

enum_asks : (m : Option EnumMember) → AsksAtMost 0 (enum_member m)
enum_asks None = tt
enum_asks (Some m) = ranged_member_asks m.enum_number (ranged m.number)

truth_asks : (v : Value) → AsksAtMost 0 (in_truth_value v)
truth_asks (values.Bool b) = tt
truth_asks _ = tt

truth_value_asks : (v : Value) → AsksAtMost 0 (truth_value v)
unfolding truth_value
truth_value_asks v = asks_bind 0 0 (in_truth_value v) (λ b. Answer (values.Bool b)) (truth_asks v) (λ b. tt)

-- two ranges of bytes ask twice at most
same_bytes_asks : (f t f' t' : ℕ) → AsksAtMost 2 (same_bytes f t f' t')
unfolding same_bytes
same_bytes_asks f t f' t' = asks_if ((t - f) == (t' - f')) 2 _ _
    (asks_join _ _ 2 1 1 (omega arith) (bytes_for_asks (wants.Bytes f t))
    (λ a. asks_join _ _ 1 1 0 (omega arith) (bytes_for_asks (wants.Bytes f' t')) (λ b. tt))) tt

bytes_with_asks : (op : BinaryOperator) (f t f' t' : ℕ) → AsksAtMost 2 (bytes_with op f t f' t')
unfolding bytes_with
bytes_with_asks operators.Equal f t f' t' = asks_join _ _ 2 2 0 (omega arith) (same_bytes_asks f t f' t') (λ b. given_asks 0 (matched operators.Equal b))
bytes_with_asks operators.NotEqual f t f' t' = asks_join _ _ 2 2 0 (omega arith) (same_bytes_asks f t f' t') (λ b. given_asks 0 (matched operators.NotEqual b))
bytes_with_asks _ f t f' t' = tt

integer_and_asks : (op : BinaryOperator) (a : ℤ) (w : Value) → AsksAtMost 2 (integer_and op a w)
unfolding integer_and
integer_and_asks op a (values.Int b) = given_asks 2 _
integer_and_asks op a _ = tt

truth_and_asks : (op : BinaryOperator) (a : Bool) (w : Value) → AsksAtMost 2 (truth_and op a w)
unfolding truth_and
truth_and_asks op a (values.Bool b) = given_asks 2 _
truth_and_asks op a _ = tt

text_and_asks : (op : BinaryOperator) (a : List ℕ) (w : Value) → AsksAtMost 2 (text_and op a w)
unfolding text_and
text_and_asks op a (values.Text b) = given_asks 2 _
text_and_asks op a _ = tt

bytes_and_asks : (op : BinaryOperator) (f t : ℕ) (w : Value) → AsksAtMost 2 (bytes_and op f t w)
unfolding bytes_and
bytes_and_asks op f t (values.Bytes f' t') = bytes_with_asks op f t f' t'
bytes_and_asks op f t _ = tt

member_and_asks : (op : BinaryOperator) (e : ℕ) (m : ℤ) (w : Value) → AsksAtMost 2 (member_and op e m w)
unfolding member_and
member_and_asks op e m (values.Member f n) = given_asks 2 _
member_and_asks op e m _ = tt

binary_asks : (op : BinaryOperator) (v w : Value) → AsksAtMost 2 (binary_of op v w)
unfolding binary_of
binary_asks op (values.Int a) w = integer_and_asks op a w
binary_asks op (values.Bool a) w = truth_and_asks op a w
binary_asks op (values.Text a) w = text_and_asks op a w
binary_asks op (values.Bytes f t) w = bytes_and_asks op f t w
binary_asks op (values.Member e m) w = member_and_asks op e m w
binary_asks op _ w = tt

-- after a `.`
distance_asks : (n end start : ℕ) → AsksAtMost n (distance end start)
distance_asks n end start = given_asks n _

size_asks : (from : ℕ) (to : Option ℕ) → AsksAtMost 1 (size_to from to)
size_asks from None = asks_join _ _ 1 1 0 (omega arith) (number_for_asks wants.Size) (λ n. distance_asks 0 n from)
size_asks from (Some to) = distance_asks 1 to from

stream_size_asks : (w : Stream) → AsksAtMost 1 (stream_size w)
unfolding stream_size
stream_size_asks w = size_asks w.from w.to

end_asks : AsksAtMost 1 at_end
unfolding at_end
end_asks = asks_join _ _ 1 1 0 (omega arith) (truth_for_asks wants.Done) (λ b. tt)

stream_method_asks : (s : Setting) (own : Bool) (w : Stream) (m : Method) → AsksAtMost 1 (stream_method s own w m)
unfolding stream_method
stream_method_asks s own w methods.Size = stream_size_asks w
stream_method_asks s own w methods.Place = asks_if own 1 _ _ (distance_asks 1 (byte_of s.place) w.from) tt
stream_method_asks s own w methods.IsAtEnd = asks_if own 1 _ _ end_asks tt
stream_method_asks s own w _ = tt

list_size_asks : (l : Trail) → AsksAtMost 1 (list_size l)
unfolding list_size
list_size_asks l = asks_join _ _ 1 1 0 (omega arith) (count_asks l) (λ n. tt)

last_asks : (l : Trail) → AsksAtMost 2 (last_element l)
unfolding last_element
last_asks l = asks_join _ _ 2 1 1 (omega arith) (count_asks l) (λ n. element_asks l _)

list_method_asks : (l : Trail) (m : Method) → AsksAtMost 2 (list_method l m)
unfolding list_method
list_method_asks l methods.First = asks_more 1 2 _ (omega arith) (element_asks l (pos 0))
list_method_asks l methods.Last = last_asks l
list_method_asks l methods.Size = asks_more 1 2 _ (omega arith) (list_size_asks l)
list_method_asks l _ = tt

method_asks : (s : Setting) (own : Bool) (v : Value) (m : Method) → AsksAtMost 2 (method_of s own v m)
unfolding method_of
method_asks s own (values.Int a) m = given_asks 2 _
method_asks s own (values.Bool b) m = given_asks 2 _
method_asks s own (values.Text t) m = given_asks 2 _
method_asks s own (values.Bytes f t) m = given_asks 2 _
method_asks s own (values.Member e n) m = given_asks 2 _
method_asks s own (values.Object q) m = tt
method_asks s own (values.List l) m = list_method_asks l m
method_asks s own (values.Stream w) m = asks_more 1 2 _ (omega arith) (stream_method_asks s own w m)

method_by_asks : (s : Setting) (own : Bool) (v : Value) (m : Option Method) → AsksAtMost 2 (method_by s own v m)
method_by_asks s own v None = tt
method_by_asks s own v (Some m) = method_asks s own v m

field_asks : (s : Setting) (own : Bool) (v : Value) (n : Word) → AsksAtMost 2 (field_of s own v n)
unfolding field_of
field_asks s own (values.Object q) n = asks_more 1 2 _ (omega arith) (member_asks q n.number)
field_asks s own (values.Int a) n = method_by_asks s own (values.Int a) (method_named n.text)
field_asks s own (values.Bool b) n = method_by_asks s own (values.Bool b) (method_named n.text)
field_asks s own (values.Text t) n = method_by_asks s own (values.Text t) (method_named n.text)
field_asks s own (values.Bytes f t) n = method_by_asks s own (values.Bytes f t) (method_named n.text)
field_asks s own (values.Member e m) n = method_by_asks s own (values.Member e m) (method_named n.text)
field_asks s own (values.List l) n = method_by_asks s own (values.List l) (method_named n.text)
field_asks s own (values.Stream w) n = method_by_asks s own (values.Stream w) (method_named n.text)

object_special_asks : (q : Trail) (n : SpecialName) → AsksAtMost 1 (object_special q n)
object_special_asks q specials.Root = tt
object_special_asks q specials.Parent = holder_asks 1 (holder q)
object_special_asks q specials.Io = stream_asks q
object_special_asks q _ = tt

special_of_asks : (v : Value) (n : SpecialName) → AsksAtMost 1 (special_of v n)
unfolding special_of
special_of_asks (values.Object q) n = object_special_asks q n
special_of_asks _ n = tt

decoded_asks : (t : Option (List ℕ)) → AsksAtMost 0 (decoded_text t)
decoded_asks None = tt
decoded_asks (Some t) = tt

decoded_by_asks : (e : Option Encoding) (bs : List ℕ) → AsksAtMost 0 (decoded_by e bs)
decoded_by_asks None bs = tt
decoded_by_asks (Some e) bs = decoded_asks (decoded e bs)

text_in_asks : (f t : ℕ) (e : List ℕ) → AsksAtMost 1 (text_in f t e)
unfolding text_in
text_in_asks f t e = asks_join _ _ 1 1 0 (omega arith) (bytes_for_asks (wants.Bytes f t)) (λ bs. decoded_by_asks (encoding_named e) bs)

bytes_call_asks : (m : Method) (f t : ℕ) (a : Value) → AsksAtMost 1 (bytes_call m f t a)
unfolding bytes_call
bytes_call_asks methods.ToText f t (values.Text e) = text_in_asks f t e
bytes_call_asks _ f t a = tt

call_one_asks : (v : Value) (m : Option Method) (a : Value) → AsksAtMost 1 (call_one v m a)
unfolding call_one
call_one_asks v None a = tt
call_one_asks (values.Text t) (Some m) a = given_asks 1 _
call_one_asks (values.Bytes f t) (Some m) a = bytes_call_asks m f t a
call_one_asks v (Some m) a = tt

call_two_asks : (v : Value) (m : Option Method) (a b : Value) → AsksAtMost 0 (call_two v m a b)
unfolding call_two
call_two_asks v None a b = tt
call_two_asks (values.Text t) (Some m) a b = given_asks 0 _
call_two_asks v (Some m) a b = tt

first_byte_asks : (bs : List ℕ) → AsksAtMost 0 (first_byte bs)
first_byte_asks [] = tt
first_byte_asks (b ∷ bs) = tt

byte_from_asks : (p : ℕ) → AsksAtMost 1 (byte_from p)
unfolding byte_from
byte_from_asks p = asks_join _ _ 1 1 0 (omega arith) (bytes_for_asks (wants.Bytes p (p + 1))) (λ bs. first_byte_asks bs)

byte_at_asks : (f t : ℕ) (i : ℤ) → AsksAtMost 1 (byte_at f t i)
unfolding byte_at
byte_at_asks f t (pos i) = asks_if (nat_lt i (t - f)) 1 _ _ (byte_from_asks (f + i)) tt
byte_at_asks f t (negsuc i) = tt

list_at_asks : (l : Trail) (i : Value) → AsksAtMost 1 (list_at l i)
unfolding list_at
list_at_asks l (values.Int i) = element_asks l i
list_at_asks l _ = tt

bytes_at_asks : (f t : ℕ) (i : Value) → AsksAtMost 1 (bytes_at f t i)
unfolding bytes_at
bytes_at_asks f t (values.Int i) = byte_at_asks f t i
bytes_at_asks f t _ = tt

item_asks : (v i : Value) → AsksAtMost 1 (item_at v i)
unfolding item_at
item_asks (values.List l) i = list_at_asks l i
item_asks (values.Bytes f t) i = bytes_at_asks f t i
item_asks _ i = tt

type_asks : (q : Trail) (t : ℕ) → AsksAtMost 1 (object_of_type q t)
unfolding object_of_type
type_asks q t = asks_join _ _ 1 1 0 (omega arith) (opened_for_asks (wants.Head q)) (λ o. asks_if (o.type_number == t) 0 _ _ tt tt)

as_asks : (q : Trail) (t : Option ℕ) → AsksAtMost 1 (object_as q t)
as_asks q None = tt
as_asks q (Some t) = type_asks q t

cast_asks : (v : Value) (t : Option ℕ) → AsksAtMost 1 (cast_to v t)
unfolding cast_to
cast_asks (values.Object q) t = as_asks q t
cast_asks _ t = tt

-- one of two plans, in sum
choose : (b : Bool) (m n : ℕ) (p q : Eval Value) → AsksAtMost m p → AsksAtMost n q → AsksAtMost (m + n) (if b then p else q)
choose true m n p q g h = asks_more m (m + n) p (omega arith) g
choose false m n p q g h = asks_more n (m + n) q (omega arith) h

-- the wants of an expression
pub value_asks : (s : Setting) (e : Tree) → AsksAtMost (most_wants e) (value_of s e)
unfolding value_of most_wants
value_asks s (literal c) = tt
value_asks s (named n) = member_asks s.home n.number
value_asks s (special n) = special_asks s n
value_asks s (member m) = enum_asks m.given
value_asks s (unary op e) = asks_join _ _ _ (most_wants e) 0 (omega arith) (value_asks s e) (λ v. given_asks 0 (unary_of op v))
value_asks s (binary op l r) =
    asks_join _ _ _ (most_wants l) (most_wants r + 2) (omega arith) (value_asks s l) (λ v.
    asks_join _ _ _ (most_wants r) 2 (omega arith) (value_asks s r) (λ w. binary_asks op v w))
value_asks s (logical op l r) =
    asks_join _ _ _ (most_wants l) (most_wants r) (omega arith) (value_asks s l) (λ v.
    asks_join _ _ _ 0 (most_wants r) (omega arith) (truth_asks v) (λ b.
    asks_if (decides op b) (most_wants r) _ _ tt
    (asks_join _ _ _ (most_wants r) 0 (omega arith) (value_asks s r) (λ w. truth_value_asks w))))
value_asks s (choice c y n) =
    asks_join _ _ _ (most_wants c) (most_wants y + most_wants n) (omega arith) (value_asks s c) (λ v.
    asks_join _ _ _ 0 (most_wants y + most_wants n) (omega arith) (truth_asks v) (λ b.
    choose b (most_wants y) (most_wants n) (value_of s y) (value_of s n) (value_asks s y) (value_asks s n)))
value_asks s (field e n) = asks_join _ _ _ (most_wants e) 2 (omega arith) (value_asks s e) (λ v. field_asks s (is_own_stream e) v n)
value_asks s (special_field e n) = asks_join _ _ _ (most_wants e) 1 (omega arith) (value_asks s e) (λ v. special_of_asks v n)
value_asks s (call e m no_arguments) = tt
value_asks s (call e m (argument a no_arguments)) =
    asks_join _ _ _ (most_wants e) (most_wants a + 1) (omega arith) (value_asks s e) (λ v.
    asks_join _ _ _ (most_wants a) 1 (omega arith) (value_asks s a) (λ x. call_one_asks v (method_named m) x))
value_asks s (call e m (argument a (argument b no_arguments))) =
    asks_join _ _ _ (most_wants e) (most_wants a + most_wants b) (omega arith) (value_asks s e) (λ v.
    asks_join _ _ _ (most_wants a) (most_wants b) (omega arith) (value_asks s a) (λ x.
    asks_join _ _ _ (most_wants b) 0 (omega arith) (value_asks s b) (λ y. call_two_asks v (method_named m) x y)))
value_asks s (call e m (argument a (argument b (argument c more)))) = tt
value_asks s (index e i) =
    asks_join _ _ _ (most_wants e) (most_wants i + 1) (omega arith) (value_asks s e) (λ v.
    asks_join _ _ _ (most_wants i) 1 (omega arith) (value_asks s i) (λ w. item_asks v w))
value_asks s (cast e t) = asks_join _ _ _ (most_wants e) 1 (omega arith) (value_asks s e) (λ v. cast_asks v t.number)
