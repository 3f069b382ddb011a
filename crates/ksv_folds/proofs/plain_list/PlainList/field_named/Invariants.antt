use Rattle.std.proofs.Common.{◌≡◌, ◌<◌, ℕ}
use Rattle.ksv_folds.specs.Parts.{part}
use Rattle.ksv_folds.proofs.plain_list.PlainList.field_named.Given as goal

abbrev pub invariant-loop-part : goal.invariant-loop-part
invariant-loop-part l = (l.field ≡ l.part-index) × ((f : ℕ) → f < l.field → (part l.part-items f).name ≡ l.name → ⊥)
