use Rattle.ksv_schema_names.proofs.Common.{◌≡◌, ℕ, ◌+◌, length, map, find, row_of}
use Rattle.ksv_schema_names.specs.Types.{around, from}
use Rattle.ksv_schema_names.specs.View.{has_sought}
use Rattle.ksv_schema_names.proofs.outwards.nearest.Given as goal

-- from here at most this many types are left
abbrev pub invariant-loop-step : goal.invariant-loop-step
invariant-loop-step l = (left : ℕ) × (left + l.step ≡ length l.types)
    × (find (has_sought (map row_of l.types) l.sought) (around left (map row_of l.types) l.at)
    ≡ find (has_sought (map row_of l.types) l.sought) (from (map row_of l.types) l.n))
