use Rattle.ksv_memo_links.proofs.Common.{◌≡◌, ℕ, zero, suc, ◌+◌, ◌<◌, max, List, [], ◌∷◌, length, take, get_or, ap, arith, Use, Bytes, farthest}
use Rattle.ksv_memo_links.specs.Touching.{reach_of}
use Rattle.ksv_memo_links.proofs.used.farthest_of.Goals as goal

farthest-more : (us : List Use) (i : ℕ) (d : Use) → i < length us → farthest (take (suc i) us) ≡ max (farthest (take i us)) (reach_of (get_or us i d))
farthest-more [] i d lt = absurd (omega arith)
farthest-more (u ∷ us) zero d lt = omega arith
farthest-more (u ∷ us) (suc i) d lt = omega (arith, farthest-more us i d (omega arith))

pub loop-used-preserved : goal.loop-used-preserved
loop-used-preserved c =
    let us = c.args.uses.now in
    let i = c.loop-used.used-index in
    let a = c.max-place.ensures in
    let d = farthest-more us i (Bytes 0 0) c.loop-used-test.true in
    let e : c.loop-used.place ≡ farthest (take i us) = c.loop-used.invariant in
    let n : suc i ≡ i + 1 = omega arith in
    let k = ap (λ m. farthest (take m us)) n in
    let g : c.max-place.result ≡ farthest (take (i + 1) us) = omega arith in
    g
