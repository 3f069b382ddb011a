-- The results of operators and methods that ask no question. The operators' kinds, and that a value of another kind
-- is a fault, are this project's own; what each does is that of the Kaitai Struct User Guide.
use Rattle.std.specs.Prelude.{ℕ, ◌-◌, ◌==◌, Bool, true, false, not, ℤ, pos, neg_ℤ, List, Option, Some, None, Result, Ok, Err, if◌then◌else◌}
use Rattle.std.specs.Ordering.{nat_cmp, int_cmp, int_eq, is_lt, is_gt}
use Rattle.std.specs.Cmp.Lexicographic.{slice_cmp}
use Rattle.std.specs.Fmt.{signed_decimal}
use Rattle.std.specs.Str.{bytes_eq}
use Rattle.std.specs.declared.cmp.Ordering.{Ordering}
use Rattle.ksv_expr_tree.specs.declared.tree.UnaryOperator.{UnaryOperator}
use Rattle.ksv_expr_tree.specs.declared.tree.UnaryOperator.TheVariants as unary
use Rattle.ksv_expr_tree.specs.declared.tree.BinaryOperator.{BinaryOperator}
use Rattle.ksv_expr_tree.specs.declared.tree.BinaryOperator.TheVariants as binary
use Rattle.ksv_expr_value.specs.declared.fault.FaultKind.{FaultKind}
use Rattle.ksv_expr_value.specs.declared.fault.FaultKind.TheVariants as kinds
use Rattle.ksv_expr_meaning.specs.declared.method.Method.{Method}
use Rattle.ksv_expr_meaning.specs.declared.method.Method.TheVariants as methods
use Rattle.ksv_expr_value.specs.declared.value.Value.{Value}
use Rattle.ksv_expr_value.specs.declared.value.Value.TheVariants as values
use Rattle.ksv_expr_meaning.specs.Integers.{complement, calculated}
use Rattle.ksv_expr_value.specs.Range.{ranged}
use Rattle.ksv_expr_meaning.specs.Texts.{joined, char_count, reversed, substring, text_number}

-- a result without memory or questions
abbrev pub Answered : Type 0
Answered = Result Value FaultKind

-- an exact integer, which is an overflow if it is outside the range
abbrev pub exactly : Option ℤ → Answered
exactly None = Err kinds.Overflow
exactly (Some z) = Ok (values.Int z)

-- the result of an operator of equality, given whether two values are the same
abbrev pub matched : BinaryOperator → Bool → Answered
matched binary.Equal same = Ok (values.Bool same)
matched binary.NotEqual same = Ok (values.Bool (not same))
matched _ same = Err kinds.BadType

-- the result of an operator of order, given the order of two values
abbrev pub ordered : BinaryOperator → Ordering → Answered
ordered binary.Less o = Ok (values.Bool (is_lt o))
ordered binary.LessOrEqual o = Ok (values.Bool (not (is_gt o)))
ordered binary.Greater o = Ok (values.Bool (is_gt o))
ordered binary.GreaterOrEqual o = Ok (values.Bool (not (is_lt o)))
ordered _ o = Err kinds.BadType

-- what was calculated of two integers, and what their comparison gives
abbrev pub ranged_value : Result ℤ FaultKind → Answered
ranged_value (Ok z) = exactly (ranged z)
ranged_value (Err k) = Err k

abbrev pub compared : BinaryOperator → ℤ → ℤ → Answered
compared binary.Equal a b = matched binary.Equal (int_eq a b)
compared binary.NotEqual a b = matched binary.NotEqual (int_eq a b)
compared op a b = ordered op (int_cmp a b)

-- two integers
abbrev pub integers_of : BinaryOperator → ℤ → ℤ → Answered
integers_of op a b = elim (calculated op a b) [ Some r ↦ ranged_value r | None ↦ compared op a b ]

-- two truth values are the same
abbrev pub same_truth : Bool → Bool → Bool
same_truth true b = b
same_truth false b = not b

-- two texts joined; over 16,777,216 bytes it is too many
abbrev pub joined_text : Option (List ℕ) → Answered
joined_text None = Err kinds.TooMany
joined_text (Some t) = Ok (values.Text t)

-- two texts: they are the same if their bytes are, and their order is that of their bytes
abbrev pub texts_of : BinaryOperator → List ℕ → List ℕ → Answered
texts_of binary.Add a b = joined_text (joined a b)
texts_of binary.Equal a b = matched binary.Equal (bytes_eq a b)
texts_of binary.NotEqual a b = matched binary.NotEqual (bytes_eq a b)
texts_of op a b = ordered op (slice_cmp nat_cmp a b)

-- two members, of one enum
abbrev pub members_of : BinaryOperator → ℕ → ℤ → ℕ → ℤ → Answered
members_of op e m f n = if e == f then matched op (int_eq m n) else Err kinds.BadType

-- an operator in front of an integer, and of a truth value
abbrev pub integer_with : UnaryOperator → ℤ → Answered
integer_with unary.Negate a = exactly (ranged (neg_ℤ a))
integer_with unary.Plus a = Ok (values.Int a)
integer_with unary.Complement a = exactly (ranged (complement a))
integer_with unary.Not a = Err kinds.BadType

abbrev pub truth_with : UnaryOperator → Bool → Answered
truth_with unary.Not b = Ok (values.Bool (not b))
truth_with _ b = Err kinds.BadType

-- an operator in front of a value
abbrev pub unary_of : UnaryOperator → Value → Answered
unary_of op (values.Int a) = integer_with op a
unary_of op (values.Bool b) = truth_with op b
unary_of op _ = Err kinds.BadType

-- an integer as a value
abbrev pub as_value : Result ℤ FaultKind → Answered
as_value (Ok z) = Ok (values.Int z)
as_value (Err k) = Err k

-- methods without parentheses, of an integer, a truth value, a text, bytes and a member
abbrev pub integer_method : Method → ℤ → Answered
integer_method methods.ToText a = Ok (values.Text (signed_decimal a))
integer_method _ a = Err kinds.BadType

abbrev pub truth_method : Method → Bool → Answered
truth_method methods.ToInteger b = Ok (values.Int (if b then pos 1 else pos 0))
truth_method _ b = Err kinds.BadType

abbrev pub text_method : Method → List ℕ → Answered
text_method methods.Length t = Ok (values.Int (pos (char_count t)))
text_method methods.Reverse t = Ok (values.Text (reversed t))
text_method methods.ToInteger t = as_value (text_number (pos 10) t)
text_method _ t = Err kinds.BadType

abbrev pub bytes_method : Method → ℕ → ℕ → Answered
bytes_method methods.Length from to = Ok (values.Int (pos (to - from)))
bytes_method _ from to = Err kinds.BadType

abbrev pub member_method : Method → ℤ → Answered
member_method methods.ToInteger n = Ok (values.Int n)
member_method _ n = Err kinds.BadType

-- the characters between two places, which must be within the text
abbrev pub substring_of : Option (List ℕ) → Answered
substring_of None = Err kinds.BadIndex
substring_of (Some t) = Ok (values.Text t)

-- a text's methods with one and with two values in parentheses
abbrev pub text_call_one : Method → List ℕ → Value → Answered
text_call_one methods.ToInteger t (values.Int radix) = as_value (text_number radix t)
text_call_one _ t v = Err kinds.BadType

abbrev pub text_call_two : Method → List ℕ → Value → Value → Answered
text_call_two methods.Substring t (values.Int i) (values.Int j) = substring_of (substring t i j)
text_call_two _ t v w = Err kinds.BadType
