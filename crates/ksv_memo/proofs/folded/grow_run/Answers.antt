use Rattle.ksv_memo.proofs.Common.{◌∙◌, ap, List, ℕ, Result, Some, refl, arith}
use Rattle.std.specs.Prelude.{min}
use Rattle.ksv_memo.proofs.Growth.{first-beside, grows-beside, runs-beside, stays-beside, told-beside}
use Rattle.ksv_memo.proofs.Taking.{Asking, asking}
use Rattle.ksv_memo.proofs.folded.grow_run.Given
use Rattle.ksv_memo.proofs.folded.grow_run.Goals as goal

-- what it is proved from
abbrev asks : (g : Given.Over) (rules : g.row.R.Denot) (bytes : List ℕ) → Asking g.row.R-Node.Denot (Result g.row.R-Value.Denot g.row.R-Fault.Denot)
asks g rules bytes = asking (g.R.Rules.meaning rules) (g.met.R.Rules.lawful rules) bytes g.R.Node.PartialEq.eq g.met.R.Node.Eq.laws g.met.R.Rules.exact

-- none of its nodes is asked, or it has it already, or the sequence is shorter, or it has all that evaluation of the node completes
pub returns-in_default-clause-grown : goal.returns-in_default-clause-grown
returns-in_default-clause-grown g c =
    stays-beside (asks g c.args.rules.now c.args.bytes.now) g.R.Fold.Folds.fold (Some c.args.run.now) c.args.run.now refl c.args.table.now c.args.table.now
    refl c.requires.run c.requires.right c.args.node.now c.args.turns.now

pub returns-then-place-run-clause-grown : goal.returns-then-place-run-clause-grown
returns-then-place-run-clause-grown g c =
    stays-beside (asks g c.args.rules.now c.args.bytes.now) g.R.Fold.Folds.fold (Some c.args.run.now) c.args.run.now refl c.args.table.now c.args.table.now
    refl c.requires.run c.requires.right c.args.node.now c.args.turns.now

pub returns-then-place-count-clause-grown : goal.returns-then-place-count-clause-grown
returns-then-place-count-clause-grown g c =
    stays-beside (asks g c.args.rules.now c.args.bytes.now) g.R.Fold.Folds.fold (Some c.args.run.now) c.args.run.now refl c.args.table.now
    c.foldable-count.new.self c.foldable-count.ensures.nodes c.requires.run c.requires.right c.args.node.now c.args.turns.now

pub returns-then-now-run-clause-grown : goal.returns-then-now-run-clause-grown
returns-then-now-run-clause-grown g c =
    stays-beside (asks g c.args.rules.now c.args.bytes.now) g.R.Fold.Folds.fold (Some c.args.run.now) c.args.run.now refl c.args.table.now c.args.table.now
    refl c.requires.run c.requires.right c.args.node.now c.args.turns.now

-- it grows
pub returns-clause-run : goal.returns-clause-run
returns-clause-run g c =
    runs-beside (asks g c.args.rules.now c.args.bytes.now) g.R.Fold.Folds.fold (Some c.args.run.now) c.args.run.now refl c.args.table.now
    c.foldable-count.new.self c.foldable-count.ensures.nodes c.requires.run c.requires.right c.args.node.now c.args.turns.now c.in-Some.place
    c.min-now.result (omega (arith, c.if-now-run.false)) (c.min-now.ensures ∙ ap (min c.args.run.now.wild) c.whole.ensures)

pub returns-clause-grown : goal.returns-clause-grown
returns-clause-grown g c =
    let q = asks g c.args.rules.now c.args.bytes.now in
    let fold = g.R.Fold.Folds.fold in
    let told = told-beside q fold (Some c.args.run.now) c.args.run.now refl c.args.table.now c.foldable-count.new.self c.foldable-count.ensures.nodes
    c.requires.run c.requires.right c.args.node.now c.args.turns.now in
    let first = first-beside q fold (Some c.args.run.now) c.args.run.now refl c.args.table.now c.foldable-count.new.self c.foldable-count.ensures.nodes
    c.requires.run c.requires.right c.args.node.now c.args.turns.now in
    grows-beside q fold (Some c.args.run.now) c.args.run.now refl c.args.table.now c.foldable-count.new.self c.foldable-count.ensures.nodes c.requires.run
    c.requires.right c.args.node.now c.args.turns.now c.in-Some.place c.min-now.result (omega (arith, c.if-now-run.false))
    (c.min-now.ensures ∙ ap (min c.args.run.now.wild) c.whole.ensures)
    c.foldable-count.result
    c.calls.result c.add_all.new.self c.in-Some.ensures.some (c.foldable-count.ensures.fold told first) c.if-place-count.false c.calls.ensures c.add_all.ensures
