-- The JSON of the parts of a dump that ask nothing: faults, and values that are neither an object nor a list.
use Rattle.std.specs.Prelude.{ℕ, ℤ, Bool, true, false, ◌&&◌, List, codes, slice_range, if◌then◌else◌}
use Rattle.hex.specs.Hex.{encode_lower}
use Rattle.serde_json.specs.Data.{Data, null, boolean, number, string, object, no_members, member}
use Rattle.serde_json.specs.Find.{of_integer}
use Rattle.ksv_desc.specs.Description.{Description}
use Rattle.ksv_expr_value.specs.Trail.{Trail}
use Rattle.ksv_expr_value.specs.contracts.path.PathPartialEq.TheImpl.{ghosts as path_tests}
use Rattle.ksv_expr_value.specs.declared.fault.FaultKind.{FaultKind}
use Rattle.ksv_expr_value.specs.declared.fault.FaultKind.TheVariants as kinds
use Rattle.ksv_expr_value.specs.declared.value.Value.{Value}
use Rattle.ksv_expr_value.specs.declared.value.Value.TheVariants as values
use Rattle.ksv_nodes.specs.declared.node_fault.NodeFault.{NodeFault}
use Rattle.ksv_nodes.specs.declared.node_fault.NodeFault.TheVariants as faults
use Rattle.ksv_nodes.specs.NodeFaults.{fault_path, raised_at}
use Rattle.ksv_texts.specs.Texts.{fault_words, member_name}

-- an object of one member
abbrev pub one_member : List ℕ → Data → Data
one_member key d = object (member key d no_members)

-- a fault by its words
unfoldable pub fault_part : Description → NodeFault → Data
fault_part d f = one_member (codes "fault") (string (fault_words d f))

abbrev pub is_absent : FaultKind → Bool
is_absent kinds.Absent = true
is_absent _ = false

abbrev pub is_absence : NodeFault → Bool
is_absence (faults.Raised f) = is_absent f.kind
is_absence (faults.Circle p) = false

-- what is absent at the part's own path is null
unfoldable pub failed_part : Description → Trail → NodeFault → Data
failed_part d p f = if is_absence f && path_tests.eq (fault_path f) p then null else fault_part d f

-- an answer that doesn't fit its node, which never occurs
abbrev pub misfit_part : Description → Trail → Data
misfit_part d p = fault_part d (raised_at p kinds.BadType)

abbrev pub too_long_part : Description → Trail → Data
too_long_part d p = fault_part d (raised_at p kinds.PathTooLong)

-- a number of an enum, by its enum's id and its own
unfoldable pub member_part : Description → ℕ → ℤ → Data
member_part d e n = object (member (codes "enum") (string (member_name d e n)) (member (codes "value") (number (of_integer n)) no_members))

-- a value that is neither an object nor a list
unfoldable pub plain_part : Description → List ℕ → Trail → Value → Data
plain_part d b p (values.Int n) = number (of_integer n)
plain_part d b p (values.Bool truth) = boolean truth
plain_part d b p (values.Text text) = string text
plain_part d b p (values.Bytes from to) = one_member (codes "hex") (string (encode_lower (slice_range b from to)))
plain_part d b p (values.Member e n) = member_part d e n
plain_part d b p _ = misfit_part d p
