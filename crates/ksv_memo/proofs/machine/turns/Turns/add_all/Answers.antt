use Rattle.ksv_memo.proofs.Common.{◌∙◌, ap, sym, Some, arith}
use Rattle.ksv_memo_rules.specs.Right.{counted}
use Rattle.ksv_memo.proofs.Counted.{counted-none, counted-some}
use Rattle.ksv_memo.proofs.machine.turns.Turns.add_all.Goals.{in-None, in-Some}
use Rattle.ksv_memo.proofs.machine.turns.Turns.add_all.Goals as goal

pub returns : goal.returns
returns c = elim c.match-self.branch [
  | in-None w ↦ w.self-is ∙ sym (counted-none c.args.more) ∙ ap (counted c.args.more) (sym w.in-None.is ∙ c.self.view_is)
  | in-Some w ↦ w.self-is ∙ ap Some w.saturating_add.ensures ∙ sym (counted-some c.args.more w.in-Some.turns (omega arith))
      ∙ ap (counted c.args.more) (sym w.in-Some.is ∙ c.self.view_is)
]
