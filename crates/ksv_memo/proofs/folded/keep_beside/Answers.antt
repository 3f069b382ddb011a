use Rattle.ksv_memo.proofs.Common.{◌∙◌, ap, sym, subst, nodes}
use Rattle.ksv_memo.specs.Folding.{lending}
use Rattle.ksv_memo.specs.Lending.{dropped_last}
use Rattle.ksv_memo.specs.Nodes.{KeepsNode}
use Rattle.ksv_memo.proofs.Lending.{drops-end, loses-first}
use Rattle.ksv_memo.proofs.folded.keep_beside.Goals as goal

-- memory is refused for its number
pub returns-in-Err-clause-err : goal.returns-in-Err-clause-err
returns-in-Err-clause-err g c =
    loses-first c.abandon.result (nodes c.args.table.now) (nodes c.abandon.new.self) c.requires.there c.abandon.ensures.rest c.abandon.ensures.kept

pub close_folded-requires-clause-root : goal.close_folded-requires-clause-root
close_folded-requires-clause-root g c =
    subst (λ ns. KeepsNode g.R.Node.PartialEq.eq c.args.table.now.kept (g.R.Fold.Folds.fold ns).root) (sym c.in-Ok.ensures.ok.nodes) c.requires.root

-- it isn't kept
pub returns-in-Err-close_folded-clause-same : goal.returns-in-Err-close_folded-clause-same
returns-in-Err-close_folded-clause-same g c =
    let listed = c.in-Ok.ensures.ok in
    record {
      nodes = listed.nodes;
      kept = listed.kept;
      wild = listed.wild;
      far = listed.far;
      lent = c.drop_last.ensures ∙ ap dropped_last listed.lent
          ∙ drops-end c.args.run.now.lent.items (lending (g.R.Fold.Folds.fold c.args.run.now.nodes) c.args.place);
    }
