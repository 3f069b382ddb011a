use Rattle.std.proofs.Common.{◌≡◌, ◌++◌, ◌-◌, length}
use Rattle.ksv_texts.specs.Integers.{little_endian}
use Rattle.ksv_texts.proofs.integer.little_endian.Given as goal

-- the digits so far, with those of what is left, are all
abbrev pub invariant-loop-index : goal.invariant-loop-index
invariant-loop-index l = (l.digits.items ++ little_endian (l.size - l._index) l.rest ≡ little_endian l.size l.number) × (length l.digits.items ≡ l._index)
