-- The slots of nodes, as the engine and the replies that it lends read them.
use Rattle.std.specs.Prelude.{◌≡◌, ℕ, true, List, [], ◌∷◌, Option, Some, None, Result, Ok, Err, is_some, slice_get}
use Rattle.std.specs.Borrow.{Bor}
use Rattle.ksv_memo_rules.specs.declared.replies.Slot.{Slot}
use Rattle.ksv_memo_rules.specs.declared.replies.Slot.TheVariants.{Empty, Open, Value, Fault}

-- the value or fault of an answer that is lent
abbrev pub lent : {V F : Type 0} → Result (Bor V) (Bor F) → Result V F
lent (Ok v) = Ok v.now
lent (Err f) = Err f.now

-- the answer in a slot, if one is kept there
abbrev pub answer_in : {V F : Type 0} → Slot V F → Option (Result V F)
answer_in Empty = None
answer_in Open = None
answer_in (Value v) = Some (Ok v)
answer_in (Fault f) = Some (Err f)

-- the answer in a slot that there may be
abbrev pub answer_of : {V F : Type 0} → Option (Slot V F) → Option (Result V F)
answer_of None = None
answer_of (Some s) = answer_in s

-- the answer in the slot of a number
abbrev pub answer_at : {V F : Type 0} → List (Slot V F) → ℕ → Option (Result V F)
answer_at slots i = answer_of (slice_get slots i)

-- the slot of a number keeps an answer
abbrev pub HasAnswer : {V F : Type 0} → List (Slot V F) → ℕ → Type 0
HasAnswer slots i = is_some (answer_at slots i) ≡ true

-- what there may be, before a list
abbrev pub with_first : {X : Type 0} → Option X → List X → List X
with_first None xs = xs
with_first (Some x) xs = x ∷ xs

-- the answers in the slots of these numbers
abbrev pub answers_at : {V F : Type 0} → List (Slot V F) → List ℕ → List (Result V F)
answers_at slots [] = []
answers_at slots (i ∷ is) = with_first (answer_at slots i) (answers_at slots is)
