use Rattle.ksv_memo.proofs.Common.{ℕ, List, Result}
use Rattle.std.proofs.lemmas.Result.{on_err_weaker, on_ok_weaker}
use Rattle.ksv_memo.proofs.Absorbing.{closes-plain, may-plain, plain-may, plain-right, reached-plain}
use Rattle.ksv_memo.proofs.Taking.{Asking, asking}
use Rattle.ksv_memo.proofs.folded.Folded.close.Given
use Rattle.ksv_memo.proofs.folded.Folded.close.Goals as goal

-- what it is proved from
abbrev asks : (g : Given.Over) (rules : g.row.R.Denot) (bytes : List ℕ) → Asking g.row.R-Node.Denot (Result g.row.R-Value.Denot g.row.R-Fault.Denot)
asks g rules bytes = asking (g.R.Rules.meaning rules) (g.met.R.Rules.lawful rules) bytes g.R.Node.PartialEq.eq g.met.R.Node.Eq.laws g.met.R.Rules.exact

-- no run begins
pub returns-then-not-may_found-clause-ok : goal.returns-then-not-may_found-clause-ok
returns-then-not-may_found-clause-ok g c =
    let run = c.self.inside.run in
    let t = c.self.inside.table in
    on_ok_weaker c.close.result
    (λ done. plain-right (asks g c.args.rules.now c.args.bytes.now) g.R.Fold.Folds.fold run run c.in-None.is c.args.answer t c.close.new.self
    c.args.self.now c.self.view_is c.requires
    (closes-plain g.R.Node.PartialEq.eq g.R.Fold.Folds.fold run c.args.answer t c.close.new.self c.in-None.is done))
    c.close.ensures.ok

pub returns-then-not-may_found-clause-err : goal.returns-then-not-may_found-clause-err
returns-then-not-may_found-clause-err g c =
    let run = c.self.inside.run in
    let t = c.self.inside.table in
    on_err_weaker c.close.result
    (λ may. plain-may (asks g c.args.rules.now c.args.bytes.now) g.R.Fold.Folds.fold run run c.in-None.is c.args.answer t c.close.new.self
    c.args.self.now c.self.view_is c.requires
    (may-plain g.R.Node.PartialEq.eq g.R.Fold.Folds.fold run c.args.answer t c.close.new.self c.in-None.is may))
    c.close.ensures.err

-- one may begin
pub close_founding-requires-clause-reached : goal.close_founding-requires-clause-reached
close_founding-requires-clause-reached g c =
    reached-plain (asks g c.args.rules.now c.args.bytes.now) g.R.Fold.Folds.fold c.self.inside.run c.self.inside.run c.in-None.is c.args.answer
    c.self.inside.table c.self.inside.table c.args.self.now c.self.view_is c.requires

pub returns-clause-ok : goal.returns-clause-ok
returns-clause-ok g c =
    on_ok_weaker c.close_founding.result
    (plain-right (asks g c.args.rules.now c.args.bytes.now) g.R.Fold.Folds.fold c.self.inside.run c.close_founding.new.run c.in-None.is c.args.answer
    c.self.inside.table c.close_founding.new.table c.args.self.now c.self.view_is c.requires)
    c.close_founding.ensures.ok

pub returns-clause-err : goal.returns-clause-err
returns-clause-err g c =
    on_err_weaker c.close_founding.result
    (plain-may (asks g c.args.rules.now c.args.bytes.now) g.R.Fold.Folds.fold c.self.inside.run c.close_founding.new.run c.in-None.is c.args.answer
    c.self.inside.table c.close_founding.new.table c.args.self.now c.self.view_is c.requires)
    c.close_founding.ensures.err
