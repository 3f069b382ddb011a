-- The names of faults, as replies write them.
use Rattle.std.specs.Prelude.{ℕ, List, codes}
use Rattle.ksv_expr_value.specs.declared.fault.FaultKind.{FaultKind}
use Rattle.ksv_expr_value.specs.declared.fault.FaultKind.TheVariants as kinds

-- a kind's name
abbrev pub name_of : FaultKind → List ℕ
name_of kinds.NoSuch = codes "no-such"
name_of kinds.Absent = codes "absent"
name_of kinds.EndOfBytes = codes "end-of-bytes"
name_of kinds.BadType = codes "bad-type"
name_of kinds.Overflow = codes "overflow"
name_of kinds.ZeroDivisor = codes "zero-divisor"
name_of kinds.BadIndex = codes "bad-index"
name_of kinds.BadText = codes "bad-text"
name_of kinds.Contents = codes "contents"
name_of kinds.BadSize = codes "bad-size"
name_of kinds.NoTerminator = codes "no-terminator"
name_of kinds.NoBytes = codes "no-bytes"
name_of kinds.TooMany = codes "too-many"
name_of kinds.PathTooLong = codes "path-too-long"
name_of kinds.BadNumber = codes "bad-number"
name_of kinds.NoParent = codes "no-parent"
name_of kinds.Invalid = codes "invalid"
