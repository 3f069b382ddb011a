use Rattle.ksv_schema.proofs.Common.{◌≡◌, ◌++◌, drop, map, pair}
use Rattle.ksv_schema.proofs.members.check.add_lines.Given as goal

abbrev pub invariant-loop-entry : goal.invariant-loop-entry
invariant-loop-entry l = l.lines.items ++ map (λ p. p.line) (map pair (drop l.entry-index l.entries)) ≡ l.fn.lines.items
    ++ map (λ p. p.line) (map pair l.entries)
