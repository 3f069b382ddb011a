use Rattle.ksv_memo.proofs.Common.{◌≤◌, subst, arith, Frame, common_steps}
use Rattle.ksv_memo.specs.Folding.{IsNoneBelow}
use Rattle.ksv_memo.proofs.Leasts.{next_lower, below_own, below_none}
use Rattle.ksv_memo.proofs.frames.least_place.Goals.{in-Some, in-None}
use Rattle.ksv_memo.proofs.frames.least_place.Goals as goal

pub loop-frame-preserved : goal.loop-frame-preserved
loop-frame-preserved g c =
    let f = g.S.Folds.fold c.args.nodes.now in
    let inv = c.loop-frame.invariant in
    let at = λ (n : g.row.N.Denot). IsNoneBelow f c.match-place_in.least n in
    elim c.match-place_in.branch [
      | in-Some w ↦
          let le : c.match-place_in.least ≤ c.loop-frame.least = omega (arith, w.least-is, w.min-least.ensures) in
          let below : c.match-place_in.least ≤ w.in-Some.place = omega (arith, w.least-is, w.min-least.ensures) in (
            omega arith,
            next_lower f (λ (frame : Frame g.row.N.Denot). frame.node) c.args.frames.now c.loop-frame.frame-index c.frame-item.result c.loop-frame.least
                c.match-place_in.least c.loop-frame-test.true le inv.1
                (subst (λ (frame : Frame g.row.N.Denot). at frame.node) c.frame-item.is
                (below_own f (g.S.Folds.laid c.args.nodes.now) c.match-place_in.least w.in-Some.place c.frame-item.result.node below
                w.in-Some.ensures.in_size w.in-Some.ensures.some)),
          )
      | in-None w ↦
          let le : c.match-place_in.least ≤ c.loop-frame.least = omega (arith, w.least-is) in (
            omega arith,
            next_lower f (λ (frame : Frame g.row.N.Denot). frame.node) c.args.frames.now c.loop-frame.frame-index c.frame-item.result c.loop-frame.least
                c.match-place_in.least c.loop-frame-test.true le inv.1
                (subst (λ (frame : Frame g.row.N.Denot). at frame.node) c.frame-item.is
                (below_none f c.match-place_in.least c.frame-item.result.node (omega arith) w.in-None.ensures.none)),
          )
    ]

pub returns-clause-apart : goal.returns-clause-apart
returns-clause-apart g c = grind (arith, common_steps)
