-- The case that a switch chooses: the first in written order whose value equals that of `switch-on`, as the Kaitai Struct User
-- Guide has it; a value of another kind equals none. Where none does it is the case `_`, wherever it is written.
use Rattle.std.specs.Prelude.{ℕ, ◌+◌, ◌==◌, Bool, true, false, ◌&&◌, pos, neg_ℤ, List, [], ◌∷◌, Option, Some, None, if◌then◌else◌}
use Rattle.std.specs.Option.{option_map_or}
use Rattle.std.specs.Ordering.{int_eq}
use Rattle.std.specs.Str.{bytes_eq}
use Rattle.ksv_basics.specs.Plan.{Answer, ◌>>=◌}
use Rattle.ksv_expr_tree.specs.Tree.{Tree, Constant, integer, truth, string}
use Rattle.ksv_expr_tree.specs.declared.tree.EnumMember.{EnumMember}
use Rattle.ksv_expr_value.specs.Setting.{Setting}
use Rattle.ksv_expr_value.specs.declared.fault.FaultKind.TheVariants as kinds
use Rattle.ksv_expr_value.specs.declared.value.Value.{Value}
use Rattle.ksv_expr_value.specs.declared.value.Value.TheVariants as values
use Rattle.ksv_expr_meaning.specs.Operators.{same_truth}
use Rattle.ksv_desc.specs.Description.{Content, CaseValue, Literal, Negated, EnumValue, Case, Choice, Always, Switch, content_by}
use Rattle.ksv_nodes.specs.Rule.{Rule, raise}
use Rattle.ksv_rule_meaning.specs.Wanted.{expression}

-- ---- what a value equals

-- a number, a truth value or a text
abbrev pub is_constant : Value → Constant → Bool
is_constant (values.Int n) (integer k) = int_eq n (pos k)
is_constant (values.Bool b) (truth c) = same_truth b c
is_constant (values.Text t) (string u) = bytes_eq t u
is_constant _ c = false

-- the negative of a number
abbrev pub is_negative : Value → ℕ → Bool
is_negative (values.Int n) k = int_eq n (neg_ℤ (pos k))
is_negative _ k = false

-- a member of an enum
abbrev pub is_enum_member : Value → EnumMember → Bool
is_enum_member (values.Member e n) m = e == m.enum_number && int_eq n m.number
is_enum_member _ m = false

abbrev pub is_equal : Value → CaseValue → Bool
is_equal v (Literal c) = is_constant v c
is_equal v (Negated k) = is_negative v k
is_equal v (EnumValue m) = is_enum_member v m

-- ---- cases

-- this case's value is the one of the switch; `_` has none
abbrev pub is_case_of : Value → Case → Bool
is_case_of v c = option_map_or (is_equal v) c.value false

-- the case `_`
abbrev pub is_default : Case → Bool
is_default c = elim c.value [ None ↦ true | Some v ↦ false ]

-- What is read, and by which case, if a switch chose it: its place among the cases, from 0.
pub record Chosen : Type 0 where
  pub case : Option ℕ
  pub content : Content

-- the first case, of those from a place on, of which this is true
unfoldable pub first_case : (Case → Bool) → ℕ → List Case → Option Chosen
first_case is_right i [] = None
first_case is_right i (c ∷ cs) = if is_right c then Some (record { case = Some i; content = c.content }) else first_case is_right (i + 1) cs

abbrev pub or_default : Option Chosen → List Case → Option Chosen
or_default (Some c) cases = Some c
or_default None cases = first_case is_default 0 cases

-- the case of a value, if there is one
unfoldable pub case_for : Value → List Case → Option Chosen
case_for v cases = or_default (first_case (is_case_of v) 0 cases) cases

-- ---- what is read

unfoldable pub switched : Setting → Tree → List Case → Rule (Option Chosen)
switched at on cases = do
  v ← expression at on
  Answer (case_for v cases)

unfoldable pub choose : Setting → Choice → Rule (Option Chosen)
choose at (Always c) = Answer (Some (record { case = None; content = c }))
choose at (Switch on cases) = switched at on cases

-- What was read, by the case that was chosen: where none was, it is bytes. That a switch has the case is so for each head that
-- is answered (`HeadsAreRead` of Laws).
abbrev pub in_content : Option Content → Rule Content
in_content None = raise kinds.NoSuch
in_content (Some c) = Answer c

unfoldable pub content_of : Choice → Option ℕ → Rule Content
content_of choice case = in_content (content_by choice case)
