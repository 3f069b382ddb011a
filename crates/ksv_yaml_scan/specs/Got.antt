-- What reading from the front of a list finds.
use Rattle.std.specs.Prelude.{List, Option, Some, None}

-- What was read, and what comes after it.
pub record Got (L A : Type 0) : Type 0 where
  pub value : A
  pub rest : List L

-- this was read, and that comes after it
abbrev pub got : {L A : Type 0} → A → List L → Option (Got L A)
got x ls = Some (record { value = x; rest = ls })

infixl 10 ◌>>=◌
-- reads on if something was found
abbrev pub ◌>>=◌ : {A B : Type 0} → Option A → (A → Option B) → Option B
None >>= f = None
(Some x) >>= f = f x
