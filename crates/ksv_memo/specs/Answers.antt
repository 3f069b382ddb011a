-- The answer to a question, and the turns that are counted for it.
use Rattle.std.specs.Prelude.{ℕ, Option, None, Result, Ok, Err}
use Rattle.ksv_memo.specs.declared.engine.Answer.{Answer}
use Rattle.ksv_memo.specs.declared.engine.Answer.TheVariants.{Value, Fault, Circle}
use Rattle.ksv_memo_rules.specs.declared.rules.Outcome.{Outcome}
use Rattle.ksv_memo_rules.specs.declared.rules.Outcome.TheVariants.{Answered, Circle as CircleOf}
use Rattle.ksv_memo_rules.specs.Right.{counted}

-- an outcome as an answer
abbrev pub answer_of : {N V F : Type 0} → Outcome N (Result V F) → Answer N V F
answer_of (Answered (Ok v)) = Value v
answer_of (Answered (Err f)) = Fault f
answer_of (CircleOf n) = Circle n

-- the count after a question that takes this many calls; None after a circle or a refused memory
abbrev pub turns_after : {N V F E : Type 0} → ℕ → Option ℕ → Result (Answer N V F) E → Option ℕ
turns_after calls turns (Ok (Value v)) = counted calls turns
turns_after calls turns (Ok (Fault f)) = counted calls turns
turns_after calls turns (Ok (Circle n)) = None
turns_after calls turns (Err e) = None
