-- What expressions ask, and the plans of single questions.
use Rattle.std.specs.Prelude.{ℕ, Bool, List, Result, Ok, Err}
use Rattle.ksv_basics.specs.Plan.{Plan, Answer, Fail, Ask}
use Rattle.ksv_basics.specs.Asking.{Replies}
use Rattle.ksv_expr_value.specs.Trail.{Trail}
use Rattle.ksv_expr_meaning.specs.Heard.{Heard, Valued, Opened, Numbered, Decided, Read}
use Rattle.ksv_expr_value.specs.declared.fault.Fault.{Fault}
use Rattle.ksv_expr_value.specs.declared.fault.FaultKind.{FaultKind}
use Rattle.ksv_expr_value.specs.declared.fault.FaultKind.TheVariants as kinds
use Rattle.ksv_expr_value.specs.declared.value.Value.{Value}
use Rattle.ksv_expr_meaning.specs.declared.want.Want.{Want}
use Rattle.ksv_expr_meaning.specs.declared.want.Opened.{Opened as Object}

-- A plan over wants that ends in an A or in a kind of fault. All faults of an expression have one path.
abbrev pub Eval : Type 0 → Type 0
Eval A = Plan Want (λ _. Heard) FaultKind A

-- the path of faults, and the replies that are left
abbrev pub State : Type 0
State = Replies Trail Heard Fault

-- a fault
abbrev pub raise : {A : Type 0} → FaultKind → Eval A
raise k = Fail k

-- a result that took no question
abbrev pub given : {A : Type 0} → Result A FaultKind → Eval A
given (Ok a) = Answer a
given (Err k) = raise k

-- an answer of one form; another form is the fault bad-type
abbrev pub in_value : Heard → Eval Value
in_value (Valued v) = Answer v
in_value _ = raise kinds.BadType

abbrev pub in_opened : Heard → Eval Object
in_opened (Opened t w) = Answer (record { type_number = t; stream = w })
in_opened _ = raise kinds.BadType

abbrev pub in_number : Heard → Eval ℕ
in_number (Numbered n) = Answer n
in_number _ = raise kinds.BadType

abbrev pub in_truth : Heard → Eval Bool
in_truth (Decided b) = Answer b
in_truth _ = raise kinds.BadType

abbrev pub in_bytes : Heard → Eval (List ℕ)
in_bytes (Read bs) = Answer bs
in_bytes _ = raise kinds.BadType

-- a question whose answer must have the wanted form
abbrev pub value_for : Want → Eval Value
value_for w = Ask w in_value

abbrev pub opened_for : Want → Eval Object
opened_for w = Ask w in_opened

abbrev pub number_for : Want → Eval ℕ
number_for w = Ask w in_number

abbrev pub truth_for : Want → Eval Bool
truth_for w = Ask w in_truth

abbrev pub bytes_for : Want → Eval (List ℕ)
bytes_for w = Ask w in_bytes

-- the answer to a want, whatever its form
abbrev pub want_for : Want → Eval Heard
want_for w = Ask w (λ h. Answer h)
