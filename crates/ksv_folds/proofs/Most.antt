-- How many elements may have numbers.
use Rattle.std.proofs.Common.{ℕ, ◌*◌, ◌/◌, ◌<◌, ◌≤◌, arith}
use Rattle.std.proofs.Math.Nat.{mul-le-mul_left, mul-div-le}
use Rattle.ksv_folds.specs.Lemmas.Numbers.{elements_some}
use Rattle.ksv_folds.specs.Sequence.{size_of}
use Rattle.ksv_folds.specs.declared.plain_list.PlainList.{PlainList}

-- no more than a quotient
pub most_few : (size all n : ℕ) → n ≤ all / size → size * n ≤ all
most_few size all n low = let up = mul-le-mul_left size low in let le = mul-div-le all size in omega (arith, up, le)

-- there is a node
pub size_some : (p : PlainList) → 0 < size_of p
size_some p = let some = elements_some p in omega (arith, some)
