-- The total of replies, from a place on.
use Rattle.std.proofs.Common.{◌≡◌, ℕ, zero, suc, ◌+◌, ◌-◌, ◌≤◌, ◌^◌, List, [], ◌∷◌, length, Some, None, Ok, Err, min, drop, refl, ap, ◌∙◌, arith}
use Rattle.std.specs.Prelude.{slice_get}
use Rattle.std.proofs.lemmas.List.{drop_all}
use Rattle.ksv_test_engine.specs.declared.samples.row.Missing.{Missing}
use Rattle.ksv_test_engine.specs.Rows.{Reply, total}

number_at : (so_far : ℕ) (replies : List Reply) (place n : ℕ) → slice_get replies place ≡ Some (Ok n)
    → total so_far (drop place replies) ≡ total (min (so_far + n) (2 ^ 32 - 1)) (drop (suc place) replies)
number_at so_far [] place n e = absurd (cc)
number_at so_far (Ok m ∷ replies) zero n e = let same : m ≡ n = cc in ap (λ k. total (min (so_far + k) (2 ^ 32 - 1)) replies) same
number_at so_far (Err f ∷ replies) zero n e = absurd (cc)
number_at so_far (reply ∷ replies) (suc place) n e = number_at so_far replies place n e

-- a number is added, and what is after it
pub total_number : (so_far : ℕ) (replies : List Reply) (place n : ℕ) → slice_get replies place ≡ Some (Ok n)
    → total so_far (drop place replies) ≡ total (min (so_far + n) (2 ^ 32 - 1)) (drop (place + 1) replies)
total_number so_far replies place n e = let next : suc place ≡ place + 1 =
    omega arith in number_at so_far replies place n e ∙ ap (λ k. total (min (so_far + n) (2 ^ 32 - 1)) (drop k replies)) next

-- a fault ends it
pub total_fault : (so_far : ℕ) (replies : List Reply) (place : ℕ) (f : Missing) → slice_get replies place ≡ Some (Err f)
    → total so_far (drop place replies) ≡ Err f
total_fault so_far [] place f e = absurd (cc)
total_fault so_far (Ok m ∷ replies) zero f e = absurd (cc)
total_fault so_far (Err g ∷ replies) zero f e = let same : g ≡ f = cc in ap Err same
total_fault so_far (reply ∷ replies) (suc place) f e = total_fault so_far replies place f e

-- after the last reply it is known
pub total_past : (so_far : ℕ) (replies : List Reply) (place : ℕ) → slice_get replies place ≡ None → total so_far (drop place replies) ≡ Ok so_far
total_past so_far [] zero e = refl
total_past so_far [] (suc place) e = refl
total_past so_far (reply ∷ replies) zero e = absurd (cc)
total_past so_far (reply ∷ replies) (suc place) e = total_past so_far replies place e

pub total_end : (so_far : ℕ) (replies : List Reply) (place : ℕ) → length replies ≤ place → total so_far (drop place replies) ≡ Ok so_far
total_end so_far replies place h = ap (total so_far) (drop_all place replies h)
