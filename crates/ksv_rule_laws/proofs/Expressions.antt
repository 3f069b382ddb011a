-- What a plan of an expression gives, by its parts: bytes and streams that it was told of.
use Rattle.ksv_rule_laws.proofs.Common.{ℕ, ◌+◌, ◌-◌, ◌==◌, Bool, true, false, if◌then◌else◌, List, Option, Some, None, Result, Ok, Err, Answer, Fail}
use Rattle.ksv_rule_laws.proofs.Common.{Ask, bind, Tree, byte_of, Trail, Setting, Stream, Value, Want, Heard, Eval, value_of, arith}
use Rattle.std.proofs.Common.{nat_lt, ℤ, pos, negsuc}
use Rattle.ksv_expr_tree.specs.Tree.{Word, Constant, no_arguments, argument, literal, named, special, member, unary, binary, logical}
use Rattle.ksv_expr_tree.specs.Tree.{choice, field, special_field, call, index, cast}
use Rattle.ksv_expr_tree.specs.declared.tree.UnaryOperator.{UnaryOperator}
use Rattle.ksv_expr_tree.specs.declared.tree.BinaryOperator.{BinaryOperator}
use Rattle.ksv_expr_tree.specs.declared.tree.BinaryOperator.TheVariants as operators
use Rattle.ksv_expr_tree.specs.declared.tree.SpecialName.{SpecialName}
use Rattle.ksv_expr_tree.specs.declared.tree.SpecialName.TheVariants as specials
use Rattle.ksv_expr_tree.specs.declared.tree.EnumMember.{EnumMember}
use Rattle.ksv_expr_value.specs.Setting.{Element, NoElement, ElementAt, Made}
use Rattle.ksv_expr_value.specs.Encodings.{encoding_named}
use Rattle.ksv_expr_value.specs.declared.encoding.Encoding.{Encoding}
use Rattle.ksv_expr_value.specs.declared.fault.FaultKind.{FaultKind}
use Rattle.ksv_expr_value.specs.declared.value.Value.TheVariants as values
use Rattle.ksv_expr_meaning.specs.declared.want.Want.TheVariants as wants
use Rattle.ksv_expr_meaning.specs.Methods.{method_named}
use Rattle.ksv_expr_meaning.specs.declared.method.Method.{Method}
use Rattle.ksv_expr_meaning.specs.declared.method.Method.TheVariants as methods
use Rattle.ksv_expr_meaning.specs.Operators.{unary_of}
use Rattle.ksv_expr_meaning.specs.Heard.{Valued, Opened}
use Rattle.ksv_expr_meaning.specs.Asked.{given, in_opened, value_for, opened_for}
use Rattle.ksv_expr_meaning.specs.Meaning.{member_value, element_value, stream_of, element_read, special_value, literal_value}
use Rattle.ksv_expr_meaning.specs.Meaning.{enum_member, truth_value, decides, bytes_with, integer_and, truth_and, text_and, bytes_and}
use Rattle.ksv_expr_meaning.specs.Meaning.{member_and, binary_of, distance, size_to, stream_size, at_end, stream_method, list_size, last_element, list_method}
use Rattle.ksv_expr_meaning.specs.Meaning.{method_of, method_by, field_of, is_own_stream, special_of, decoded_by, text_in}
use Rattle.ksv_expr_meaning.specs.Meaning.{bytes_call, call_one, call_two, first_byte, byte_from, byte_at, list_at, bytes_at, item_at, object_of_type}
use Rattle.ksv_expr_meaning.specs.Meaning.{cast_to}

-- ---- what a plan gives

-- each answer of a plan is so, where each reply is one of these
abbrev pub GivesIn : {A : Type 0} → (Heard → Type 0) → (A → Type 0) → Eval A → Type 0
GivesIn K P (Answer a) = P a
GivesIn K P (Fail e) = Unit {0}
GivesIn K P (Ask w k) = (h : Heard) → K h → GivesIn K P (k h)

gives_bind : {A B : Type 0} (K : Heard → Type 0) (P : A → Type 0) (T : B → Type 0) (p : Eval A) (f : A → Eval B) → GivesIn K P p
    → ((a : A) → P a → GivesIn K T (f a)) → GivesIn K T (bind p f)
unfolding bind
gives_bind K P T (Answer a) f h g = g a h
gives_bind K P T (Fail e) f h g = h
gives_bind K P T (Ask q k) f h g = λ r known. gives_bind K P T (k r) f (h r known) g

-- where streams and ranges of bytes are so
module _ (S : Stream → Type 0) (B : ℕ → ℕ → Type 0) where
  -- bytes and a stream that are so
  abbrev pub IsSoValue : Value → Type 0
  IsSoValue (values.Bytes from to) = B from to
  IsSoValue (values.Stream w) = S w
  IsSoValue _ = Unit {0}

  -- what is told to an expression
  abbrev pub IsSoHeard : Heard → Type 0
  IsSoHeard (Valued v) = IsSoValue v
  IsSoHeard (Opened t w) = S w
  IsSoHeard _ = Unit {0}

  -- what `_` is, where it is a value that was made
  abbrev pub IsSoElement : Element → Type 0
  IsSoElement NoElement = Unit {0}
  IsSoElement (ElementAt p) = Unit {0}
  IsSoElement (Made v) = IsSoValue v

  -- where an expression is evaluated
  abbrev pub IsSoSetting : Setting → Type 0
  IsSoSetting s = S s.stream × IsSoElement s.element

  abbrev Gives : {A : Type 0} → (A → Type 0) → Eval A → Type 0
  Gives P p = GivesIn IsSoHeard P p

  -- the value of a plan is so
  abbrev Ranges : Eval Value → Type 0
  Ranges p = Gives IsSoValue p

  -- of an answer nothing is to be known
  abbrev Own : {A : Type 0} → Eval A → Type 0
  Own p = Gives (λ a. Unit {0}) p

  unknown : {A : Type 0} (p : Eval A) → Own p
  unknown (Answer a) = tt
  unknown (Fail e) = tt
  unknown (Ask w k) = λ h known. unknown (k h)

  abbrev RangedResult : Result Value FaultKind → Type 0
  RangedResult (Ok v) = IsSoValue v
  RangedResult (Err k) = Unit {0}

  after : {A B : Type 0} (P : A → Type 0) (T : B → Type 0) (p : Eval A) (f : A → Eval B) → Gives P p → ((a : A) → P a → Gives T (f a)) → Gives T (bind p f)
  after P T p f h g = gives_bind IsSoHeard P T p f h g

  choose : {A : Type 0} (P : A → Type 0) (b : Bool) (p q : Eval A) → Gives P p → Gives P q → Gives P (if b then p else q)
  choose P true p q g h = g
  choose P false p q g h = h

  -- the same, where of the first answer nothing is to be known
  behind : {A B : Type 0} (T : B → Type 0) (p : Eval A) (f : A → Eval B) → ((a : A) → Gives T (f a)) → Gives T (bind p f)
  behind T p f g = after _ T p f (unknown p) (λ a known. g a)

  -- ---- operators that ask nothing

  unary_ranges : (op : UnaryOperator) (v : Value) → Ranges (given (unary_of op v))
  unary_ranges op v = grind arith

  -- ---- what is told

  value_for_ranges : (w : Want) → Ranges (value_for w)
  value_for_ranges w h known = grind arith

  member_ranges : (q : Trail) (x : Option ℕ) → Ranges (member_value q x)
  unfolding member_value
  member_ranges q x = behind _ _ _ (λ p. value_for_ranges (wants.Value p))

  element_ranges : (l : Trail) (i : ℤ) → Ranges (element_value l i)
  unfolding element_value
  element_ranges l i = behind _ _ _ (λ p. value_for_ranges (wants.Value p))

  stream_ranges : (q : Trail) → Ranges (stream_of q)
  unfolding stream_of
  stream_ranges q = after (λ o. S o.stream) _ (opened_for (wants.Head q)) _ (λ h known. opened h known) (λ o known. known)
    where
      opened : (h : Heard) → IsSoHeard h → Gives (λ o. S o.stream) (in_opened h)
      opened h known = grind arith

  read_ranges : (x : Element) → IsSoElement x → Ranges (element_read x)
  read_ranges NoElement within = tt
  read_ranges (ElementAt p) within = value_for_ranges (wants.Value p)
  read_ranges (Made v) within = within

  enum_ranges : (m : Option EnumMember) → Ranges (enum_member m)
  enum_ranges m = grind arith

  literal_ranges : (c : Constant) → IsSoValue (literal_value c)
  literal_ranges c = grind arith

  -- ---- operators

  truth_value_ranges : (v : Value) → Ranges (truth_value v)
  unfolding truth_value
  truth_value_ranges v = behind _ _ _ (λ b. tt)

  bytes_with_ranges : (op : BinaryOperator) (f t f' t' : ℕ) → Ranges (bytes_with op f t f' t')
  unfolding bytes_with
  bytes_with_ranges operators.Equal f t f' t' = behind _ _ _ (λ b. tt)
  bytes_with_ranges operators.NotEqual f t f' t' = behind _ _ _ (λ b. tt)
  bytes_with_ranges _ f t f' t' = tt

  binary_ranges : (op : BinaryOperator) (v w : Value) → Ranges (binary_of op v w)
  unfolding binary_of integer_and truth_and text_and bytes_and member_and
  binary_ranges op (values.Bytes f t) (values.Bytes f' t') = bytes_with_ranges op f t f' t'
  binary_ranges op v w = grind arith

  -- ---- after a dot

  distance_ranges : (end start : ℕ) → Ranges (distance end start)
  distance_ranges end start = grind arith

  size_ranges : (from : ℕ) (to : Option ℕ) → Ranges (size_to from to)
  size_ranges from None = behind _ _ _ (λ n. distance_ranges n from)
  size_ranges from (Some to) = distance_ranges to from

  stream_size_ranges : (w : Stream) → Ranges (stream_size w)
  unfolding stream_size
  stream_size_ranges w = size_ranges w.from w.to

  end_ranges : Ranges at_end
  unfolding at_end
  end_ranges = behind _ _ _ (λ b. tt)

  list_size_ranges : (l : Trail) → Ranges (list_size l)
  unfolding list_size
  list_size_ranges l = behind _ _ _ (λ n. tt)

  last_ranges : (l : Trail) → Ranges (last_element l)
  unfolding last_element
  last_ranges l = behind _ _ _ (λ n. element_ranges l _)

  method_ranges : (s : Setting) (own : Bool) (v : Value) (m : Option Method) → Ranges (method_by s own v m)
  unfolding method_of list_method stream_method
  method_ranges s own (values.List l) (Some methods.First) = element_ranges l (pos 0)
  method_ranges s own (values.List l) (Some methods.Last) = last_ranges l
  method_ranges s own (values.List l) (Some methods.Size) = list_size_ranges l
  method_ranges s own (values.Stream w) (Some methods.Size) = stream_size_ranges w
  method_ranges s own (values.Stream w) (Some methods.Place) = choose _ own _ _ (distance_ranges (byte_of s.place) w.from) tt
  method_ranges s own (values.Stream w) (Some methods.IsAtEnd) = choose _ own _ _ end_ranges tt
  method_ranges s own v m = grind arith

  field_ranges : (s : Setting) (own : Bool) (v : Value) (n : Word) → Ranges (field_of s own v n)
  unfolding field_of
  field_ranges s own (values.Object q) n = member_ranges q n.number
  field_ranges s own v n = method_ranges s own v (method_named n.text)

  special_of_ranges : (v : Value) (n : SpecialName) → Ranges (special_of v n)
  unfolding special_of
  special_of_ranges (values.Object q) specials.Io = stream_ranges q
  special_of_ranges v n = grind arith

  decoded_by_ranges : (e : Option Encoding) (bs : List ℕ) → Ranges (decoded_by e bs)
  decoded_by_ranges e bs = grind arith

  text_in_ranges : (f t : ℕ) (e : List ℕ) → Ranges (text_in f t e)
  unfolding text_in
  text_in_ranges f t e = behind _ _ _ (λ bs. decoded_by_ranges (encoding_named e) bs)

  -- a method with one value in parentheses, and with two
  call_one_ranges : (v : Value) (m : Option Method) (a : Value) → Ranges (call_one v m a)
  unfolding call_one bytes_call
  call_one_ranges (values.Bytes f t) (Some methods.ToText) (values.Text e) = text_in_ranges f t e
  call_one_ranges v m a = grind arith

  call_two_ranges : (v : Value) (m : Option Method) (a b : Value) → Ranges (call_two v m a b)
  unfolding call_two
  call_two_ranges v m a b = grind arith

  first_byte_ranges : (bs : List ℕ) → Ranges (first_byte bs)
  first_byte_ranges bs = grind arith

  byte_from_ranges : (p : ℕ) → Ranges (byte_from p)
  unfolding byte_from
  byte_from_ranges p = behind _ _ _ (λ bs. first_byte_ranges bs)

  byte_at_ranges : (f t : ℕ) (i : ℤ) → Ranges (byte_at f t i)
  unfolding byte_at
  byte_at_ranges f t (pos i) = choose _ (nat_lt i (t - f)) _ _ (byte_from_ranges (f + i)) tt
  byte_at_ranges f t (negsuc i) = tt

  item_ranges : (v i : Value) → Ranges (item_at v i)
  unfolding item_at list_at bytes_at
  item_ranges (values.List l) (values.Int i) = element_ranges l i
  item_ranges (values.Bytes f t) (values.Int i) = byte_at_ranges f t i
  item_ranges v i = tt

  cast_ranges : (v : Value) (t : Option ℕ) → Ranges (cast_to v t)
  unfolding cast_to object_of_type
  cast_ranges (values.Object q) (Some t) = behind _ _ _ (λ o. choose _ (o.type_number == t) _ _ tt tt)
  cast_ranges v t = tt

  -- ---- expressions

  -- in a stream that lies in the file
  module _ (s : Setting) (within : IsSoSetting s) where
    special_ranges : (n : SpecialName) → Ranges (special_value s n)
    unfolding special_value
    special_ranges specials.Io = within.0
    special_ranges specials.Element = read_ranges s.element within.1
    special_ranges n = grind arith

    pub value_ranges : (e : Tree) → Ranges (value_of s e)
    unfolding value_of
    value_ranges (literal c) = literal_ranges c
    value_ranges (named n) = member_ranges s.home n.number
    value_ranges (special n) = special_ranges n
    value_ranges (member m) = enum_ranges m.given
    value_ranges (unary op e) = after _ _ _ _ (value_ranges e) (λ v is. unary_ranges op v)
    value_ranges (binary op l r) = after _ _ _ _ (value_ranges l) (λ v is. after _ _ _ _ (value_ranges r) (λ w is'. binary_ranges op v w))
    value_ranges (logical op l r) =
        after _ _ _ _ (value_ranges l) (λ v is. behind _ _ _
        (λ b. choose _ (decides op b) _ _ tt (after _ _ _ _ (value_ranges r) (λ w is'. truth_value_ranges w))))
    value_ranges (choice c y n) = after _ _ _ _ (value_ranges c)
        (λ v is. behind _ _ _ (λ b. choose _ b _ _ (value_ranges y) (value_ranges n)))
    value_ranges (field e n) = after _ _ _ _ (value_ranges e) (λ v is. field_ranges s (is_own_stream e) v n)
    value_ranges (special_field e n) = after _ _ _ _ (value_ranges e) (λ v is. special_of_ranges v n)
    value_ranges (call e m no_arguments) = tt
    value_ranges (call e m (argument a no_arguments)) = after _ _ _ _ (value_ranges e)
        (λ v is. after _ _ _ _ (value_ranges a) (λ x is'. call_one_ranges v (method_named m) x))
    value_ranges (call e m (argument a (argument b no_arguments))) =
        after _ _ _ _ (value_ranges e) (λ v is. after _ _ _ _ (value_ranges a) (λ x is'. after _ _ _ _ (value_ranges b)
        (λ y is''. call_two_ranges v (method_named m) x y)))
    value_ranges (call e m (argument a (argument b (argument c more)))) = tt
    value_ranges (index e i) = after _ _ _ _ (value_ranges e) (λ v is. after _ _ _ _ (value_ranges i) (λ w is'. item_ranges v w))
    value_ranges (cast e t) = after _ _ _ _ (value_ranges e) (λ v is. cast_ranges v t.number)
