use Rattle.std.proofs.lemmas.Grind.{elements}
use Rattle.ksv_memo.proofs.Common.{[], ◌∷◌, arith, common_steps}
use Rattle.ksv_memo.proofs.Emptying.{taken-none, taken-more, taken-all}
use Rattle.ksv_memo.proofs.table.empty_taken.Goals as goal

pub loop-slot-init : goal.loop-slot-init
loop-slot-init g c = ([], taken-none _ _ _)

pub loop-slot-preserved : goal.loop-slot-preserved
loop-slot-preserved g c =
    let h = c.loop-slot.invariant in (
      c.in-Some.slot ∷ h.0,
      taken-more _ _ _ _ _
          _ _ _ _ _ _ c.requires.apart h.1 c.in-Some.ensures.some c.empty.ensures.slots
          (omega arith),
    )

pub returns : goal.returns
returns g c =
    let h = c.loop-slot.invariant in
    taken-all _ _ _ _ _ _ _
    _ h.1 c.in_default.ensures.none

pub empty-requires : goal.empty-requires
empty-requires g c = grind (arith, elements)

pub loop-slot-smaller : goal.loop-slot-smaller
loop-slot-smaller g c = grind (arith, common_steps)
