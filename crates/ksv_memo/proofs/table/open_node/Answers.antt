use Rattle.ksv_memo.proofs.Common.{length-set, slice_get_within, rules, ◌≡◌, ◌+◌, ◌∙◌, ap, refl, length, arith, Empty, IsLaidOut}
use Rattle.ksv_memo.proofs.Common.{IsVacant}
use Rattle.std.proofs.lemmas.List.{length_push}
use Rattle.ksv_memo_rules.specs.declared.replies.Slot.TheVariants.{Open}
use Rattle.ksv_memo.specs.Moves.{Knows}
use Rattle.ksv_memo.specs.declared.slots.Known.TheVariants.{New}
use Rattle.ksv_memo.proofs.Changing.{appended, given}
use Rattle.ksv_memo.proofs.Finding.{answer_there}
use Rattle.ksv_memo.proofs.Laying.{no_entry_at}
use Rattle.ksv_memo.proofs.Tabling.{grown-links, grown-entries, new_out, new_free, opens-laid, opens-more, vacant_none, vacant_closed, past_none, past_closed}
use Rattle.ksv_memo.proofs.Tabling.{looked-laid, looked-view}
use Rattle.ksv_memo.proofs.table.open_node.Goals as goal

-- a slot with nothing in it is given to the node
pub open_in-requires-clause-none : goal.open_in-requires-clause-none
open_in-requires-clause-none g c = rw c.vacant.ensures.entries c.requires.none

pub open_in-requires-clause-place_in : goal.open_in-requires-clause-place_in
open_in-requires-clause-place_in g c =
    let at : IsVacant c.vacant.new.slots.entries c.in-Some.place =
    rw c.vacant.ensures.entries c.in-Some.ensures.some in
    slice_get_within c.vacant.new.slots.entries c.in-Some.place (at.0, Empty) at.1

pub returns-in_ok-open_in-in-Some : goal.returns-in_ok-open_in-in-Some
returns-in_ok-open_in-in-Some g c =
    let links = c.args.links.now in
    let frames = c.args.frames.now in
    let ps = c.vacant.new.slots.entries in
    let same = c.vacant.ensures.entries in
    let laid0 = looked-laid c.args.slots.now.entries ps links frames same c.requires.laid in
    let eq = g.N.PartialEq.eq in
    let node = c.args.node in
    let knows : Knows eq ps node New = rw same c.requires.none in
    let qs = c.open_in.new.slots.entries in
    let place = c.in-Some.place in
    let at : IsVacant ps place = rw same c.in-Some.ensures.some in
    let given_it = c.in_ok-open_in-in-Some.ensures.slots in
    let changes = given ps qs place node Open at given_it in
    let count : length qs ≡ length ps = cc (length-set ps place (node, Open)) in
    let none = vacant_none eq ps links frames laid0 node place at in
    let closed = vacant_closed eq ps links frames laid0 node place at in
    let more : length qs ≡ length ps + 0 = omega arith in
    record {
      laid = opens-laid eq ps links frames laid0 node qs place node changes none closed c.open_in.new.frames c.in_ok-open_in-in-Some.ensures.frames
          (omega arith);
      ok = rw (looked-view c.args.slots.now.entries ps links frames _ same refl) at
          (opens-more eq ps links frames laid0 node qs place node changes none closed c.open_in.new.frames c.in_ok-open_in-in-Some.ensures.frames 0 more tt
          (g.met.N.Eq.laws.refl node) (new_out eq ps links frames laid0.kept laid0.waits node knows)
          (new_free eq ps links frames laid0.kept laid0.waits node knows));
      err = search rules;
      grows = search rules;
    }

-- there is a new slot
pub open_new-requires-clause-none : goal.open_new-requires-clause-none
open_new-requires-clause-none g c = rw c.vacant.ensures.entries c.requires.none

pub returns-in_ok-open_new-in-None : goal.returns-in_ok-open_new-in-None
returns-in_ok-open_new-in-None g c =
    let links = c.args.links.now in
    let frames = c.args.frames.now in
    let ps = c.vacant.new.slots.entries in
    let same = c.vacant.ensures.entries in
    let laid0 = looked-laid c.args.slots.now.entries ps links frames same c.requires.laid in
    let eq = g.N.PartialEq.eq in
    let node = c.args.node in
    let knows : Knows eq ps node New = rw same c.requires.none in
    let qs = c.open_new.new.slots.entries in
    let m = c.reach.new.self in
    let laid : IsLaidOut ps m frames = record { kept = grown-links ps links m laid0.kept c.reach.ensures.same; waits = laid0.waits } in
    let added = c.in_ok-open_new-in-None.ensures.slots in
    let changes = appended ps qs node Open added in
    let count : length qs ≡ length ps + 1 = ap length added ∙ length_push ps (node, Open) in
    let none = past_none eq ps m frames laid node in
    let closed = past_closed eq ps m frames laid node in
    let new_one = no_entry_at qs m (length ps) (answer_there qs (length ps) node Open changes.here) in
    let opens = opens-more eq ps m frames laid node qs (length ps) node changes none closed c.open_new.new.frames c.in_ok-open_new-in-None.ensures.frames 1
    count (new_one, tt) (g.met.N.Eq.laws.refl node) (new_out eq ps m frames laid.kept laid.waits node knows)
    (new_free eq ps m frames laid.kept laid.waits node knows) in
    record {
      laid = (let a = c.in_ok-reach-in-None.ensures.ok in let b = c.in_ok-number-in-None.ensures in
          opens-laid eq ps m frames laid node qs (length ps) node changes none closed c.open_new.new.frames c.in_ok-open_new-in-None.ensures.frames
          (omega arith));
      ok = rw (looked-view c.args.slots.now.entries ps links frames _ same refl) at (rw (grown-entries ps links m laid0.kept c.reach.ensures.same) at opens);
      err = search rules;
      grows = search rules;
    }
