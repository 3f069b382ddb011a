use Rattle.std.proofs.Common.{◌≡◌, ◌∙◌, ℕ, suc, ◌+◌, ◌-◌, ◌/◌, ◌<◌, ◌≤◌, nat_lt, true, false, sym, arith}
use Rattle.std.proofs.lemmas.Bool.Decides.{nat_tests}
use Rattle.ksv_folds.proofs.Overwrites.{said_up}
use Rattle.ksv_folds.proofs.plain_list.PlainList.said_before.Goals as goal
use Rattle.ksv_folds.specs.Sequence.{edge_of, sizer}

past : (at z : ℕ) → nat_lt at z ≡ true → at < z
past at z h = grind (arith, nat_tests)

not_past : (at z : ℕ) → nat_lt at z ≡ false → z ≤ at
not_past at z h = grind (arith, nat_tests)

pub loop-low-preserved-then-said_past : goal.loop-low-preserved-then-said_past
loop-low-preserved-then-said_past c =
    let p = c.args.self.now in
    let middle = c.loop-low.low + (c.loop-low.high - c.loop-low.low) / 2 in
    let far = past c.args.at (edge_of p middle (suc (sizer p))) (sym c.said_past.ensures ∙ c.if-said_past.true) in (
      omega arith,
      omega arith,
      c.loop-low.invariant.2,
      λ i le low. (let up = said_up p c.requires middle i le low in omega (arith, far, up)),
    )

pub loop-low-preserved : goal.loop-low-preserved
loop-low-preserved c =
    let p = c.args.self.now in
    let middle = c.loop-low.low + (c.loop-low.high - c.loop-low.low) / 2 in
    let near = not_past c.args.at (edge_of p middle (suc (sizer p))) (sym c.said_past.ensures ∙ c.if-said_past.false) in (
      omega arith,
      omega arith,
      λ i low. (let up = said_up p c.requires i middle (omega (arith, low)) (omega arith) in omega (arith, near, up)),
      c.loop-low.invariant.3,
    )
