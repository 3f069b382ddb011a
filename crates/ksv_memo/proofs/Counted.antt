-- Several calls, counted at once.
use Rattle.ksv_memo.proofs.Common.{◌≡◌, ℕ, zero, suc, ◌+◌, ◌-◌, ◌<◌, arith, Some, None, refl, ◌∙◌, ap, option_map}
use Rattle.std.specs.Prelude.{min, ◌^◌}
use Rattle.ksv_memo_rules.specs.Right.{counted}

pub counted-none : (k : ℕ) → counted k None ≡ None
counted-none zero = refl
counted-none (suc k) = ap (option_map (λ t. min (t + 1) (2 ^ 64 - 1))) (counted-none k)

pub counted-some : (k turns : ℕ) → turns < 2 ^ 64 → counted k (Some turns) ≡ Some (min (turns + k) (2 ^ 64 - 1))
counted-some zero turns small = let e : turns ≡ min (turns + 0) (2 ^ 64 - 1) = omega arith in ap Some e
counted-some (suc k) turns small =
    let e : min (min (turns + k) (2 ^ 64 - 1) + 1) (2 ^ 64 - 1) ≡ min (turns + suc k) (2 ^ 64 - 1) = omega arith in
    ap (option_map (λ t. min (t + 1) (2 ^ 64 - 1))) (counted-some k turns small) ∙ ap Some e
