use Rattle.ksv_schema_names.proofs.Common.{◌≡◌, ℕ, ◌<◌, get_or, Expr, view, declared, numbered}
use Rattle.ksv_schema_names.proofs.numbering.+numbers.Given as goal

-- the arguments before this one were given their numbers, and the others are as they were
abbrev pub invariant-number_arguments-loop-argument : goal.invariant-number_arguments-loop-argument
invariant-number_arguments-loop-argument l =
    ((k : ℕ) (z : Expr) → k < l.argument-index → view (get_or l.arguments k z)
    ≡ numbered (declared l.scopes) l.names l.within (view (get_or l.initial.arguments k z)))
    × goal.unvisited-number_arguments-loop-argument l
