-- The clauses of the evaluation's functions: they run a plan, where someone answers.
use Rattle.std.specs.Prelude.{◌≡◌, Result, Ok, Err}
use Rattle.ksv_basics.specs.Plan.{Need, Failed, Done, run}
use Rattle.ksv_expr_meaning.specs.Asked.{Eval}
use Rattle.ksv_expr_eval.specs.Answering.{Answering}
use Rattle.ksv_expr_eval.specs.declared.halt.Halt.{Halt}
use Rattle.ksv_expr_eval.specs.declared.halt.Halt.TheVariants as halts

-- What a function returned, seen by view, is what running a plan gives, unless memory ran out.
abbrev pub Runs : {X A S N : Type 0} → Answering S N → Eval A → (X → A) → S → S → Result X (Halt N) → Type 0
Runs handler plan view old new (Ok x) = run handler plan old ≡ Done (view x) new
Runs handler plan view old new (Err halts.Memory) = Unit {0}
Runs handler plan view old new (Err (halts.Need n)) = run handler plan old ≡ Need n new
Runs handler plan view old new (Err (halts.Fault f)) = run handler plan old ≡ Failed f new
