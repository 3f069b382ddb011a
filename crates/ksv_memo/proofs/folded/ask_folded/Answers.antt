use Rattle.std.proofs.lemmas.Grind.{pieces}
use Rattle.ksv_memo.proofs.Common.{◌≡◌, ap, refl, sym, subst, inl, inr, Some, Opens, Replies, nodes, arith}
use Rattle.ksv_memo.specs.Nodes.{KeepsNode, is_there}
use Rattle.ksv_memo_rules.specs.Folds.{first_of}
use Rattle.ksv_memo.specs.Folding.{FailsToLend, LendsTo, IsRun, viewed, with_folded}
use Rattle.ksv_memo.proofs.Turns.{on_err_always}
use Rattle.ksv_memo.proofs.Lending.{ask-any, opens-only, lends-on, fails-on}
use Rattle.ksv_memo.proofs.folded.ask_folded.Given
use Rattle.ksv_memo.proofs.folded.ask_folded.Goals.{In-Ok-None, After-lend}
use Rattle.ksv_memo.proofs.folded.ask_folded.Goals as goal

-- it has a slot
pub returns-then-holds-clause-run : goal.returns-then-holds-clause-run
returns-then-holds-clause-run g c =
    let run = c.args.run.now in
    (ask-any g.R.Node.PartialEq.eq g.met.R.Node.Eq.laws g.met.R.Rules.exact (g.R.Fold.Folds.fold run.nodes) run.kept run.wild run.far run.lent.items
    (nodes c.args.table.now) (nodes c.holds.new.self) (nodes c.ask.new.self) c.holds.ensures.nodes c.requires.run c.args.node
    (inr (c.if-holds.ensures.yes refl)) c.ask.result c.ask.ensures.ok c.ask.ensures.err).0

pub returns-then-holds-clause-ok : goal.returns-then-holds-clause-ok
returns-then-holds-clause-ok g c =
    let run = c.args.run.now in
    (ask-any g.R.Node.PartialEq.eq g.met.R.Node.Eq.laws g.met.R.Rules.exact (g.R.Fold.Folds.fold run.nodes) run.kept run.wild run.far run.lent.items
    (nodes c.args.table.now) (nodes c.holds.new.self) (nodes c.ask.new.self) c.holds.ensures.nodes c.requires.run c.args.node
    (inr (c.if-holds.ensures.yes refl)) c.ask.result c.ask.ensures.ok c.ask.ensures.err).1

-- it hasn't, and is opened
opened : (g : Given.Over) (c : In-Ok-None g) → Opens g.R.Node.PartialEq.eq c.args.node (nodes c.args.table.now) (nodes c.ask-2.new.self)
opened g c =
    let came = rw c.in-Ok-None.field-0-is at c.in-Ok-None.ensures.ok in
    opens-only g.R.Node.PartialEq.eq g.met.R.Node.Eq.laws g.met.R.Rules.exact (g.R.Fold.Folds.fold c.args.run.now.nodes) c.args.run.now.kept c.args.run.now.wild
    c.args.run.now.far c.args.run.now.lent.items (nodes c.args.table.now) (nodes c.ask-2.new.self) c.args.node (c.if-holds.ensures.no refl)
    (rw c.holds.ensures.nodes at came)

pub lend-requires-clause-there : goal.lend-requires-clause-there
lend-requires-clause-there g c = ap is_there (opened g (goal.at.lend-requires-clause-there g c).In-Ok-None).opened

pub lend-requires-clause-root : goal.lend-requires-clause-root
lend-requires-clause-root g c =
    subst (λ es. KeepsNode g.R.Node.PartialEq.eq es (g.R.Fold.Folds.fold c.args.run.now.nodes).root)
    (sym (opened g (goal.at.lend-requires-clause-root g c).In-Ok-None).kept) c.requires.run.root

opened-then : (g : Given.Over) (c : After-lend g) → Opens g.R.Node.PartialEq.eq c.args.node (nodes c.args.table.now) (nodes c.ask-2.new.self)
opened-then g c =
    let came = rw c.in-Ok-None.field-0-is at c.in-Ok-None.ensures.ok in
    opens-only g.R.Node.PartialEq.eq g.met.R.Node.Eq.laws g.met.R.Rules.exact (g.R.Fold.Folds.fold c.args.run.now.nodes) c.args.run.now.kept c.args.run.now.wild
    c.args.run.now.far c.args.run.now.lent.items (nodes c.args.table.now) (nodes c.ask-2.new.self) c.args.node (c.if-holds.ensures.no refl)
    (rw c.holds.ensures.nodes at came)

-- memory is refused
failed : (g : Given.Over) (c : After-lend g) → FailsToLend g.R.Fold.Folds.fold c.args.place c.in_ok-answer.answer c.args.run.now c.lend.new.run
    (nodes c.ask-2.new.self) (nodes c.lend.new.table)
    → IsRun g.R.Node.PartialEq.eq (g.R.Fold.Folds.fold c.lend.new.run.nodes) c.lend.new.run.kept c.lend.new.run.wild c.lend.new.run.far
    c.lend.new.run.lent.items c.lend.new.table.kept c.lend.new.table.opened
    × (with_folded g.R.Node.PartialEq.eq (first_of (g.R.Fold.Folds.fold c.lend.new.run.nodes) c.lend.new.run.kept) c.lend.new.table.kept
    ≡ with_folded g.R.Node.PartialEq.eq (first_of (g.R.Fold.Folds.fold c.args.run.now.nodes) c.args.run.now.kept) c.args.table.now.kept)
failed g c fails =
    let run = c.args.run.now in
    fails-on g.R.Node.PartialEq.eq g.met.R.Node.Eq.laws g.met.R.Rules.exact (g.R.Fold.Folds.fold run.nodes) run.kept run.wild run.far run.lent.items
    g.R.Fold.Folds.fold run c.lend.new.run refl refl refl refl refl c.args.place c.in_ok-answer.answer c.args.node c.requires.covered.0 c.requires.covered.1
    c.in_ok-answer.ensures (nodes c.args.table.now) (nodes c.ask-2.new.self) (nodes c.lend.new.table) c.requires.run (opened-then g c) fails

pub returns-in_err-lend-in-Ok-None-clause-run : goal.returns-in_err-lend-in-Ok-None-clause-run
returns-in_err-lend-in-Ok-None-clause-run g c =
    (failed g (goal.at.returns-in_err-lend-in-Ok-None-clause-run g c).After-lend c.in_err-lend-in-Ok-None.ensures.err).0

pub returns-in_err-lend-in-Ok-None-clause-err : goal.returns-in_err-lend-in-Ok-None-clause-err
returns-in_err-lend-in-Ok-None-clause-err g c = on_err_always c.from_residual-in_err-lend-in-Ok-None.result
    (failed g (goal.at.returns-in_err-lend-in-Ok-None-clause-err g c).After-lend c.in_err-lend-in-Ok-None.ensures.err).1

-- it got its slot
lent : (g : Given.Over) (c : After-lend g) → LendsTo g.R.Fold.Folds.fold c.args.place c.in_ok-answer.answer c.args.run.now c.lend.new.run
    c.ask-2.new.self.opened (nodes c.ask-2.new.self) (nodes c.lend.new.table)
    → IsRun g.R.Node.PartialEq.eq (g.R.Fold.Folds.fold c.lend.new.run.nodes) c.lend.new.run.kept c.lend.new.run.wild c.lend.new.run.far
    c.lend.new.run.lent.items c.lend.new.table.kept c.lend.new.table.opened
    × Replies g.R.Node.PartialEq.eq c.args.node (nodes (viewed g.R.Node.PartialEq.eq g.R.Fold.Folds.fold (Some c.args.run.now) c.args.table.now))
    (nodes (viewed g.R.Node.PartialEq.eq g.R.Fold.Folds.fold (Some c.lend.new.run) c.lend.new.table))
lent g c lends =
    let run = c.args.run.now in
    lends-on g.R.Node.PartialEq.eq g.met.R.Node.Eq.laws g.met.R.Rules.exact (g.R.Fold.Folds.fold run.nodes) run.kept run.wild run.far run.lent.items
    g.R.Fold.Folds.fold run c.lend.new.run refl refl refl refl refl c.args.place c.in_ok-answer.answer c.args.node c.requires.covered.0 c.requires.covered.1
    c.in_ok-answer.ensures (nodes c.args.table.now) (nodes c.ask-2.new.self) (nodes c.lend.new.table) c.requires.run (opened-then g c) lends

pub returns-in_ok-lend-in-Ok-None-clause-run : goal.returns-in_ok-lend-in-Ok-None-clause-run
returns-in_ok-lend-in-Ok-None-clause-run g c =
    (lent g (goal.at.returns-in_ok-lend-in-Ok-None-clause-run g c).After-lend c.in_ok-lend-in-Ok-None.ensures.ok).0

pub returns-in_ok-lend-in-Ok-None-clause-ok : goal.returns-in_ok-lend-in-Ok-None-clause-ok
returns-in_ok-lend-in-Ok-None-clause-ok g c =
    inl (lent g (goal.at.returns-in_ok-lend-in-Ok-None-clause-ok g c).After-lend c.in_ok-lend-in-Ok-None.ensures.ok).1

pub returns-in_default-clause-run : goal.returns-in_default-clause-run
returns-in_default-clause-run g c = search (pieces, arith) depth 5 fits 300
