use Rattle.std.proofs.Common.{◌≡◌, ◌∙◌, ℕ, ◌+◌, ◌-◌, ◌/◌, ◌<◌, ◌≤◌, nat_lt, true, false, sym, arith}
use Rattle.std.proofs.lemmas.Bool.Decides.{nat_tests}
use Rattle.ksv_folds.proofs.Reaches.{reach_up}
use Rattle.ksv_folds.proofs.plain_list.PlainList.border.Goals as goal
use Rattle.ksv_folds.specs.Sequence.{spot_at, reach_of}

past : (at z : ℕ) → nat_lt at z ≡ true → at < z
past at z h = grind (arith, nat_tests)

not_past : (at z : ℕ) → nat_lt at z ≡ false → z ≤ at
not_past at z h = grind (arith, nat_tests)

pub loop-low-preserved-then-reads_past : goal.loop-low-preserved-then-reads_past
loop-low-preserved-then-reads_past c =
    let middle = c.loop-low.low + (c.loop-low.high - c.loop-low.low) / 2 in
    let far = past c.args.at (reach_of c.args.self.now (spot_at c.args.self.now middle)) (sym c.reads_past.ensures ∙ c.if-reads_past.true) in (
      omega arith,
      omega arith,
      c.loop-low.invariant.2,
      λ j le low. (let up = reach_up c.args.self.now middle j le (omega (arith, low)) in omega (arith, far, up)),
    )

pub loop-low-preserved : goal.loop-low-preserved
loop-low-preserved c =
    let middle = c.loop-low.low + (c.loop-low.high - c.loop-low.low) / 2 in
    let near = not_past c.args.at (reach_of c.args.self.now (spot_at c.args.self.now middle)) (sym c.reads_past.ensures ∙ c.if-reads_past.false) in (
      omega arith,
      omega arith,
      λ j low. (let up = reach_up c.args.self.now j middle (omega (arith, low)) (omega arith) in omega (arith, near, up)),
      c.loop-low.invariant.3,
    )
