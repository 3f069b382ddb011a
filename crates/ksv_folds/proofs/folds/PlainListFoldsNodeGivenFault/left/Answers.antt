use Rattle.std.proofs.Common.{sym, subst}
use Rattle.ksv_memo_rules.specs.Folds.{Leaves}
use Rattle.ksv_folds.specs.Sequence.{fold_of}
use Rattle.ksv_folds.proofs.folds.PlainListFoldsNodeGivenFault.left.Goals as goal

pub returns-in-Insert : goal.returns-in-Insert
returns-in-Insert c = subst (λ change. Leaves (fold_of c.args.self.now) change c.args.kept c.left_from.result) (sym c.in-Insert.is)
    (c.left_from.ensures.inserts c.in-Insert.n)

pub returns-in-Delete : goal.returns-in-Delete
returns-in-Delete c = subst (λ change. Leaves (fold_of c.args.self.now) change c.args.kept c.left_from-in-Delete.result) (sym c.in-Delete.is)
    (c.left_from-in-Delete.ensures.deletes c.in-Delete.n)
