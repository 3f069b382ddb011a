use Rattle.ksv_schema.proofs.Common.{◌≡◌, ◌++◌, drop, map, flat_map, keys_of, row_of}
use Rattle.ksv_schema.proofs.members.check.lines_of.Given as goal

abbrev pub invariant-loop-row : goal.invariant-loop-row
invariant-loop-row l = l.lines.items ++ map (λ p. p.line) (flat_map keys_of (map row_of (drop l.row-index l.enums)))
    ≡ map (λ p. p.line) (flat_map keys_of (map row_of l.enums))
