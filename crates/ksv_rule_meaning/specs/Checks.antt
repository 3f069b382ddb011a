-- What a value must meet: the key `valid` of the Kaitai Struct User Guide. A value is checked once it is made. A list isn't
-- checked, its elements are.
use Rattle.std.specs.Prelude.{List, [], ◌∷◌, Option, Some, None, true, false, Bool, if◌then◌else◌}
use Rattle.ksv_basics.specs.Plan.{Answer, ◌>>=◌}
use Rattle.ksv_expr_tree.specs.Tree.{Tree}
use Rattle.ksv_expr_value.specs.Setting.{Setting, Made}
use Rattle.ksv_expr_value.specs.Trail.{Trail, parent, last}
use Rattle.ksv_expr_value.specs.declared.fault.FaultKind.TheVariants as kinds
use Rattle.ksv_expr_value.specs.declared.value.Value.{Value}
use Rattle.ksv_desc.specs.Description.{Description, Valid, AnyOf, AllOf, valid_of}
use Rattle.ksv_nodes.specs.declared.given.Calc.{Calc}
use Rattle.ksv_nodes.specs.declared.given.Object.{Object}
use Rattle.ksv_nodes.specs.declared.given.Origin.{Origin}
use Rattle.ksv_nodes.specs.declared.given.MemberRef.{MemberRef}
use Rattle.ksv_nodes.specs.declared.given.Head.{Head}
use Rattle.ksv_nodes.specs.declared.given.Head.TheVariants as heads
use Rattle.ksv_nodes.specs.Rule.{Rule, raise}
use Rattle.ksv_rule_meaning.specs.Fields.{kind_of}
use Rattle.ksv_rule_meaning.specs.Heads.{member_setting, holder_setting}
use Rattle.ksv_rule_meaning.specs.Wanted.{truth_of}

-- ---- conditions

-- One of some conditions is true: they are evaluated in their order, which is the written one, up to the first that is.
unfoldable pub meets_one : Setting → List Tree → Rule Bool
meets_one at [] = Answer false
meets_one at (e ∷ es) = do
  b ← truth_of at e
  if b then Answer true else meets_one at es

-- Each of some conditions is true: they are evaluated in their order, that of `min` before that of `max` whichever is written first, up to the first
-- that isn't.
unfoldable pub meets_each : Setting → List Tree → Rule Bool
meets_each at [] = Answer true
meets_each at (e ∷ es) = do
  b ← truth_of at e
  if b then meets_each at es else Answer false

abbrev pub meets : Setting → Valid → Rule Bool
meets at (AnyOf es) = meets_one at es
meets at (AllOf es) = meets_each at es

-- ---- values

-- where the conditions for a value are evaluated: `_` is that value
abbrev pub with_value : Setting → Value → Setting
with_value at v = record at { element = Made v }

-- a value that doesn't meet what it must is a fault
unfoldable pub checked : Setting → Valid → Value → Rule (Unit {0})
checked at x v = do
  b ← meets (with_value at v) x
  if b then Answer tt else raise kinds.Invalid

abbrev pub checked_if : Setting → Option Valid → Value → Rule (Unit {0})
checked_if at None v = Answer tt
checked_if at (Some x) v = checked at x v

-- a value of this member, or an element of it
unfoldable pub member_checked : Description → MemberRef → Setting → Value → Rule (Unit {0})
member_checked d r at v = do
  k ← kind_of d r
  checked_if at (valid_of k) v

-- Conditions are evaluated where the member is, with the number of p where p is an element; what is calculated, in its object.
-- Their faults are at p.
abbrev pub calc_checked : Description → Trail → Calc → Value → Rule (Unit {0})
calc_checked d p c v = member_checked d (record { type_number = c.object.type_number; member = c.member }) (holder_setting p (parent p) c.object) v

-- the root is no member
abbrev pub object_checked : Description → Trail → Object → Option Origin → Value → Rule (Unit {0})
object_checked d p o None v = Answer tt
object_checked d p o (Some g) v = member_checked d g.member (member_setting p p (last p) g o.start) v

-- the value of what is at the path p
unfoldable pub value_checked : Description → Trail → Head → Value → Rule (Unit {0})
value_checked d p (heads.Absent at) v = Answer tt
value_checked d p (heads.Calc c) v = calc_checked d p c v
value_checked d p (heads.Leaf l) v = member_checked d l.origin.member (member_setting p p (last p) l.origin l.from) v
value_checked d p (heads.Object o) v = object_checked d p o o.origin v
value_checked d p (heads.List g) v = Answer tt
