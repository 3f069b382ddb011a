use Rattle.ksv_memo.proofs.Common.{ℕ, List, Result}
use Rattle.ksv_memo.proofs.Absorbing.{closes-beside, next-mid, nexts-beside}
use Rattle.ksv_memo.proofs.Taking.{Asking, asking}
use Rattle.ksv_memo.proofs.folded.close_beside.Given
use Rattle.ksv_memo.proofs.folded.close_beside.Goals as goal

-- what it is proved from
abbrev asks : (g : Given.Over) (rules : g.row.R.Denot) (bytes : List ℕ) → Asking g.row.R-Node.Denot (Result g.row.R-Value.Denot g.row.R-Fault.Denot)
asks g rules bytes = asking (g.R.Rules.meaning rules) (g.met.R.Rules.lawful rules) bytes g.R.Node.PartialEq.eq g.met.R.Node.Eq.laws g.met.R.Rules.exact

-- it is the next one
pub absorb-requires-clause-next : goal.absorb-requires-clause-next
absorb-requires-clause-next g c =
    next-mid (asks g c.args.rules.now c.args.bytes.now) g.R.Fold.Folds.fold c.args.run.now c.next_open.new.run c.args.table.now c.next_open.new.table
    c.next_open.ensures.seen c.next_open.ensures.nodes c.args.answer c.requires.reached c.in-Some.place c.in-Some.ensures.some

pub returns-in-Some-clause-ok : goal.returns-in-Some-clause-ok
returns-in-Some-clause-ok g c =
    (nexts-beside (asks g c.args.rules.now c.args.bytes.now) g.R.Fold.Folds.fold c.args.run.now c.next_open.new.run c.args.table.now c.next_open.new.table
    c.next_open.ensures.seen c.next_open.ensures.nodes c.args.answer c.requires.reached c.in-Some.place c.in-Some.ensures.some c.in-Some.ensures.right
    c.absorb.new.run c.absorb.new.table c.absorb.result c.absorb.ensures.ok c.absorb.ensures.heard c.absorb.ensures.err).0

pub returns-in-Some-clause-err : goal.returns-in-Some-clause-err
returns-in-Some-clause-err g c =
    (nexts-beside (asks g c.args.rules.now c.args.bytes.now) g.R.Fold.Folds.fold c.args.run.now c.next_open.new.run c.args.table.now c.next_open.new.table
    c.next_open.ensures.seen c.next_open.ensures.nodes c.args.answer c.requires.reached c.in-Some.place c.in-Some.ensures.some c.in-Some.ensures.right
    c.absorb.new.run c.absorb.new.table c.absorb.result c.absorb.ensures.ok c.absorb.ensures.heard c.absorb.ensures.err).1

-- it has a slot as any other
pub returns-in-None-clause-run : goal.returns-in-None-clause-run
returns-in-None-clause-run g c =
    (closes-beside (asks g c.args.rules.now c.args.bytes.now) g.R.Fold.Folds.fold c.args.run.now c.next_open.new.run c.args.table.now c.next_open.new.table
    c.next_open.ensures.seen c.next_open.ensures.nodes c.args.answer c.requires.reached c.close_slotted.new.table c.next_open.ensures.run c.in-None.ensures.none
    c.close_slotted.result c.close_slotted.ensures.ok c.close_slotted.ensures.err c.close_slotted.ensures.waiting).0

pub returns-in-None-clause-ok : goal.returns-in-None-clause-ok
returns-in-None-clause-ok g c =
    (closes-beside (asks g c.args.rules.now c.args.bytes.now) g.R.Fold.Folds.fold c.args.run.now c.next_open.new.run c.args.table.now c.next_open.new.table
    c.next_open.ensures.seen c.next_open.ensures.nodes c.args.answer c.requires.reached c.close_slotted.new.table c.next_open.ensures.run c.in-None.ensures.none
    c.close_slotted.result c.close_slotted.ensures.ok c.close_slotted.ensures.err c.close_slotted.ensures.waiting).1

pub returns-in-None-clause-err : goal.returns-in-None-clause-err
returns-in-None-clause-err g c =
    (closes-beside (asks g c.args.rules.now c.args.bytes.now) g.R.Fold.Folds.fold c.args.run.now c.next_open.new.run c.args.table.now c.next_open.new.table
    c.next_open.ensures.seen c.next_open.ensures.nodes c.args.answer c.requires.reached c.close_slotted.new.table c.next_open.ensures.run c.in-None.ensures.none
    c.close_slotted.result c.close_slotted.ensures.ok c.close_slotted.ensures.err c.close_slotted.ensures.waiting).2
