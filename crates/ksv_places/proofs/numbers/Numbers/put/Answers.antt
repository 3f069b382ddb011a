use Rattle.ksv_places.proofs.Common.{◌≡◌, ℕ, ◌<◌, ◌∙◌, List, length, set, arith, get_or-set_same, get_or-set_other, number_at, IsPut, common_steps}
use Rattle.ksv_places.proofs.numbers.Numbers.put.Goals as goal
use Rattle.ksv_places.proofs.numbers.Numbers.put.Goals.{then-len-index-2+in_ok-resize, else-len-index-2}

put_in : (old wide : List ℕ) (i c : ℕ) → i < length wide → ((k : ℕ) → number_at wide k ≡ number_at old k) → IsPut (number_at old) (number_at (set wide i c)) i c
put_in old wide i c l same = record { here = get_or-set_same wide i c 0 l; other = λ k ne. get_or-set_other wide i k c 0 ne ∙ same k }

pub returns-clause-ok : goal.returns-clause-ok
returns-clause-ok c =
    let wide = c.if-len-index-2.self-inside.numbers.items in
    let inside : c.args.index < length wide = elim c.if-len-index-2.branch
    [ then-len-index-2+in_ok-resize w ↦ grind (arith, common_steps) | else-len-index-2 w ↦ grind (arith, common_steps) ] in
    let same : (k : ℕ) → number_at wide k ≡ number_at c.args.self.now k =
    λ k. elim c.if-len-index-2.branch
    [ then-len-index-2+in_ok-resize w ↦ grind (arith, common_steps) | else-len-index-2 w ↦ grind (arith, common_steps) ] in
    put_in c.args.self.now wide c.args.index c.args.number inside same
