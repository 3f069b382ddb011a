use Rattle.ksv_memo.proofs.Common.{◌∙◌, ℕ, List, Result, nodes, arith, common_steps}
use Rattle.ksv_memo.proofs.Turns.{on_err_always}
use Rattle.ksv_memo.proofs.Taking.{Asking, asking, closes_last, closes_left}
use Rattle.ksv_memo.proofs.machine.Machine.end.Given
use Rattle.ksv_memo.proofs.machine.Machine.end.Goals as goal

-- what it is proved from
abbrev asks : (g : Given.Over) (rules : g.row.R.Denot) (bytes : List ℕ) → Asking g.row.R-Node.Denot (Result g.row.R-Value.Denot g.row.R-Fault.Denot)
asks g rules bytes = asking (g.R.Rules.meaning rules) (g.met.R.Rules.lawful rules) bytes g.R.Node.PartialEq.eq g.met.R.Node.Eq.laws g.met.R.Rules.exact

pub returns-in_err-close-clause-err : goal.returns-in_err-close-clause-err
returns-in_err-close-clause-err g c =
    let old = c.args.self.now.table in
    on_err_always _ (closes_left (asks g c.args.rules.now c.args.bytes.now) old.kept old.opened c.args.answer c.close.new.self.kept c.requires.reached
    c.in_err-close.ensures.err)

pub returns-clause-ok : goal.returns-clause-ok
returns-clause-ok g c =
    let old = c.args.self.now.table in
    closes_last (asks g c.args.rules.now c.args.bytes.now) old.kept old.opened _ _ (nodes c.close.new.self)
    c.requires.reached c.in_ok-close.ensures.ok c.requires.alone (c.in_ok-reply.ensures ∙ c.lend.ensures)

pub returns-in_err-reply-clause-err : goal.returns-in_err-reply-clause-err
returns-in_err-reply-clause-err g c = grind (arith, common_steps)
