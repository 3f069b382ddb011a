use Rattle.ksv_memo.proofs.Common.{ap, sym, subst, nodes, on}
use Rattle.ksv_memo_rules.specs.Folds.{IsFold}
use Rattle.ksv_memo.specs.Folding.{TellsFold}
use Rattle.ksv_memo.proofs.Tabling.{looked-laid, looked-view, found}
use Rattle.ksv_memo.specs.Nodes.{IsEntry}
use Rattle.ksv_memo.proofs.Unfolded.{no_fold, tells_fold}
use Rattle.ksv_memo.proofs.table.Table.foldable.Goals.{in-Kept, in_default}
use Rattle.ksv_memo.proofs.table.Table.foldable.Goals as goal

pub returns-clause-fold : goal.returns-clause-fold
returns-clause-fold g c right first =
    let w = on (g.R.Rules.meaning c.args.rules.now) c.args.bytes.now in
    let f = g.R.Fold.Folds.fold c.args.folded.now in
    let eq = g.R.Node.PartialEq.eq in
    let ps = c.find.new.self.entries in
    let laid = looked-laid _ ps c.self.inside.links c.self.inside.frames c.find.ensures.entries c.self.invariant in
    let view = looked-view _ ps c.self.inside.links c.self.inside.frames _ c.find.ensures.entries (ap nodes c.self.view_is) in
    elim c.match-find.branch [
      | in-Kept k ↦
          let one = found eq ps c.self.inside.links c.self.inside.frames laid.kept laid.waits c.root.result.now (g.met.R.Node.Eq.laws.refl c.root.result.now)
          k.in-Kept.place k.in-Kept.ensures.knows in
          tells_fold w eq g.met.R.Rules.exact f c.args.self.now.kept right c.root.result.now one.entry
          (subst (λ v. IsEntry eq v.kept c.root.result.now one.entry) view one.is) c.root.ensures c.args.kept c.match-find.result
          (subst (λ n. TellsFold w f n c.args.kept c.match-find.result) one.answer
          (subst (TellsFold w f _ c.args.kept) (sym k.result-is) k.foldable_at.ensures)) first
      | in_default k ↦ subst (IsFold w f) (sym k.result-is) (no_fold w f)
    ]
