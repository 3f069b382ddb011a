-- What an answer says.
use Rattle.std.specs.Prelude.{◌≡◌, ℕ, List, Result, Ok, Err}
use Rattle.ksv_expr_meaning.specs.Heard.{Heard, Valued, Opened, Numbered, Decided, Read}
use Rattle.ksv_expr_value.specs.declared.fault.Fault.{Fault}
use Rattle.ksv_expr_eval.specs.declared.answer.Answer.{Answer}
use Rattle.ksv_expr_eval.specs.declared.answer.Answer.TheVariants as answers
use Rattle.ksv_expr_eval.specs.declared.halt.Halt.{Halt}
use Rattle.ksv_expr_eval.specs.declared.halt.Halt.TheVariants as halts

-- what is heard of an answer, whose bytes have a content
abbrev pub said : {B : Type 0} → (B → List ℕ) → Answer B → Heard
said bytes (answers.Value v) = Valued v
said bytes (answers.Object o) = Opened o.type_number o.stream
said bytes (answers.Number n) = Numbered n
said bytes (answers.Truth b) = Decided b
said bytes (answers.Bytes x) = Read (bytes x)

-- a reply that means this was told, unless memory ran out
abbrev pub Tells : {B N : Type 0} → (B → List ℕ) → Result Heard Fault → Result (Answer B) (Halt N) → Type 0
Tells bytes reply (Ok a) = reply ≡ Ok (said bytes a)
Tells bytes reply (Err halts.Memory) = Unit {0}
Tells bytes reply (Err (halts.Need n)) = ⊥
Tells bytes reply (Err (halts.Fault f)) = reply ≡ Err f
