-- How many values an integer has.
use Rattle.std.proofs.Common.{◌≡◌, ℕ, ◌*◌, ◌%◌, ◌^◌, ◌≤◌, arith, lit<}
use Rattle.std.proofs.lemmas.Nat.{one_shl}
use Rattle.std.proofs.Math.Nat.{pow-le-pow_right}

-- one of this many bytes, as a shift
pub values_shifted : (n : ℕ) → n ≤ 8 → 1 * 2 ^ (8 * n) % 340282366920938463463374607431768211456 ≡ 2 ^ (8 * n)
values_shifted n h = one_shl (8 * n) 128 (omega arith)

pub values_small : (n : ℕ) → n ≤ 8 → 2 ^ (8 * n) ≤ 2 ^ 64
values_small n h = pow-le-pow_right {n = 2} (lit< tt) {i = 8 * n} {j = 64} (omega arith)
