-- What values of the code mean, in the words of the other files.
use Rattle.std.specs.Prelude.{◌≡◌, ℕ, List, Result, Ok, Err, string_bytes}
use Rattle.ksv_desc.specs.Description.{Description}
use Rattle.ksv_questions.specs.Answers.{failure_told}
use Rattle.ksv_questions.specs.Asking.{Failure}
use Rattle.ksv_questions.specs.Writing.{Overwrite}
use Rattle.ksv_questions.specs.declared.put.Overwrite.{Overwrite as CodeOverwrite}
use Rattle.ksv_questions.specs.declared.told.Told.{Told}
use Rattle.ksv_questions.specs.declared.told.Told.TheVariants as tolds
use Rattle.ksv_texts.specs.declared.refusal.Refusal.{Refusal}

abbrev pub overwrite_of : CodeOverwrite → Overwrite
overwrite_of o = record { at = o.at; bytes = o.bytes.items }

-- what is told: a text, or a refusal
abbrev pub told_of : Told → Result (List ℕ) Refusal
told_of (tolds.Text text) = Ok (string_bytes text)
told_of (tolds.Refused refusal) = Err refusal

-- what a `put` yields: the bytes to write, or what is told of why none are written
abbrev pub PutTells : Description → Result Overwrite Failure → Result CodeOverwrite Told → Type 0
PutTells d (Ok o) (Ok x) = o ≡ overwrite_of x
PutTells d (Err e) (Err told) = told_of told ≡ failure_told d e
PutTells d (Ok o) (Err told) = ⊥
PutTells d (Err e) (Ok x) = ⊥
