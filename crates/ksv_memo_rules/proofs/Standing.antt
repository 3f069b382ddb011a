-- The laws of rules over one list of bytes.
use Rattle.std.proofs.Common.{List, ℕ}
use Rattle.ksv_memo_rules.specs.Meaning.{Meaning, IsLawful, IsSettled, on}

pub law_on : {N A : Type 0} (meaning : Meaning N A) → IsLawful meaning → (bytes : List ℕ) → IsSettled (on meaning bytes)
law_on meaning law bytes = record { own_number = law.own_number; bounded = law.bounded; settles = law.settles bytes }
