use Rattle.ksv_memo.proofs.Common.{◌≤◌, ◌-◌, length, take, drop, subst, refl, sym, on, answers_at, slots_of, EndsWith}
use Rattle.ksv_memo.proofs.Topping.{runs, top}
use Rattle.ksv_memo.proofs.table.run_last.Goals as goal

-- its part of what open nodes asked is there
pub slice_bounds-asked-count : goal.slice_bounds-asked-count
slice_bounds-asked-count g c =
    let t = top _ _ _ c.requires.waits (subst (EndsWith c.in-Some.frame.now) c.as_slice.ensures.value c.in-Some.ensures.some) in
    subst (λ asked. c.in-Some.frame.now.asked ≤ length asked) (sym c.deref.ensures.value) t.asks

-- the last open node was run
pub returns-clause-step : goal.returns-clause-step
returns-clause-step g c =
    let ps = c.args.slots.now.entries in
    let frames = c.args.frames.now in
    let f = c.in-Some.frame.now in
    let w = on (g.R.Rules.meaning c.args.rules.now) c.args.bytes.now in
    let ends = subst (EndsWith f) c.as_slice.ensures.value c.in-Some.ensures.some in
    let rs = answers_at (slots_of ps) (take (length c.deref.result.now - f.asked) (drop f.asked c.deref.result.now)) in
    let step = rw c.lend-node.ensures.node at c.call.ensures.step in
    let uses = rw c.lend-node.ensures.node at c.call.ensures.uses in
    runs ps w frames _ f ends _ _ _ refl c.deref.ensures.value refl c.call.result step uses
