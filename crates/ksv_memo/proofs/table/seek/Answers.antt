use Rattle.ksv_memo.proofs.Common.{rules, refl, arith, slice_get_within, Empty}
use Rattle.ksv_memo_rules.specs.declared.replies.Slot.TheVariants.{Open}
use Rattle.ksv_memo.proofs.Changing.{set_at, set_count}
use Rattle.ksv_memo.proofs.Tabling.{empty_out, empty_free, open_waits, opens-laid, opens-more, empty_none, empty_closed, looked-laid, looked-view}
use Rattle.ksv_memo.proofs.table.seek.Goals as goal

-- an open node is asked
pub returns-in-Open-clause-ok : goal.returns-in-Open-clause-ok
returns-in-Open-clause-ok g c =
    let slots = c.args.slots.now in
    let links = c.args.links.now in
    let frames = c.args.frames.now in
    let ps = c.find.new.self.entries in
    let laid0 = looked-laid _ _ _ _ c.find.ensures.entries c.requires in
    let view = looked-view _ _ links frames _ c.find.ensures.entries refl in
    let eq = g.N.PartialEq.eq in
    rw (← view) (record {
      same = refl;
      waits = open_waits eq _ _ _ laid0.kept laid0.waits c.args.node (g.met.N.Eq.laws.refl c.args.node) c.in-Open.ensures.knows;
      kept = refl;
      opened = refl;
    })

-- a slot is empty
pub reopen-requires : goal.reopen-requires
reopen-requires g c = slice_get_within c.find.new.self.entries c.in-Empty.place _ c.in-Empty.ensures.knows

pub returns-in_ok-reopen-in-Empty : goal.returns-in_ok-reopen-in-Empty
returns-in_ok-reopen-in-Empty g c =
    let links = c.args.links.now in
    let frames = c.args.frames.now in
    let ps = c.find.new.self.entries in
    let qs = c.reopen.new.slots.entries in
    let laid0 = looked-laid c.args.slots.now.entries ps links frames c.find.ensures.entries c.requires in
    let eq = g.N.PartialEq.eq in
    let laws = g.met.N.Eq.laws in
    let node = c.args.node in
    let place = c.in-Empty.place in
    let at = c.in-Empty.ensures.knows in
    let changes = set_at ps qs place node Empty Open at c.in_ok-reopen-in-Empty.ensures.slots in
    let count = set_count ps place Open qs c.in_ok-reopen-in-Empty.ensures.slots in
    let none = empty_none eq ps links frames laid0 node place at in
    let closed = empty_closed eq ps links frames laid0 node place at in
    record {
      laid = opens-laid eq ps links frames laid0 node qs place node changes none closed c.reopen.new.frames c.in_ok-reopen-in-Empty.ensures.frames
          (omega arith);
      ok = rw (looked-view c.args.slots.now.entries ps links frames _ c.find.ensures.entries refl) at
          (opens-more eq ps links frames laid0 node qs place node changes none closed c.reopen.new.frames c.in_ok-reopen-in-Empty.ensures.frames 0
          (omega arith) tt (laws.refl node) (empty_out eq ps links frames laid0.kept laid0.waits node laws c.in-Empty.ensures.unique place at)
          (empty_free eq ps links frames laid0.kept laid0.waits node laws c.in-Empty.ensures.unique place at));
      err = search rules;
      grows = search rules;
    }

-- there is no slot
pub open_node-requires-clause-laid : goal.open_node-requires-clause-laid
open_node-requires-clause-laid g c = looked-laid _ _ _ _ c.find.ensures.entries
    c.requires

pub open_node-requires-clause-none : goal.open_node-requires-clause-none
open_node-requires-clause-none g c = c.in-New.ensures.knows
