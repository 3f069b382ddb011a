use Rattle.ksv_memo.proofs.Common.{false, refl, arith, on, law_on}
use Rattle.std.proofs.Common.{Ok}
use Rattle.ksv_memo.proofs.Founding.{founds, founds-in}
use Rattle.ksv_memo.proofs.folded.founded.Goals as goal

pub least_open-wild-requires : goal.least_open-wild-requires
least_open-wild-requires g c =
    let rules = c.args.rules.now in
    let bytes = c.args.bytes.now in
    let law = law_on (g.R.Rules.meaning rules) (g.met.R.Rules.lawful rules) bytes in
    let first = rw c.in-Some.is at c.in_ok-nodes.ensures in
    (founds-in (on (g.R.Rules.meaning rules) bytes) law (g.R.Fold.Folds.fold c.in-Some.nodes) c.foldable-count.result c.args.table.now.kept (Ok c.in-Ok.value)
    (λ o. c.foldable-count.ensures o (λ j lt. absurd (omega arith))) c.args.table.now.opened first (rw c.in-Ok.is at c.requires)).in_size

pub returns : goal.returns
returns g c =
    let rules = c.args.rules.now in
    let bytes = c.args.bytes.now in
    let law = law_on (g.R.Rules.meaning rules) (g.met.R.Rules.lawful rules) bytes in
    let first = rw c.in-Some.is at c.in_ok-nodes.ensures in
    founds (on (g.R.Rules.meaning rules) bytes) law (g.R.Fold.Folds.fold c.in-Some.nodes) c.foldable-count.result c.args.table.now.kept (Ok c.in-Ok.value)
    (λ o. c.foldable-count.ensures o (λ j lt. absurd (omega arith))) g.R.Node.PartialEq.eq g.R.Fold.Folds.fold
    (record {
      nodes = c.in-Some.nodes;
      kept = 0;
      wild = c.least_open-wild.result;
      far = c.foldable-count.result;
      lent = c.new.result;
      moved = false;
      has_lost = false;
    }) refl refl
    c.least_open-wild.ensures.within refl c.new.ensures (g.R.Fold.Folds.laid c.in-Some.nodes) c.args.table.now.opened first
    (rw c.in-Ok.is at c.requires) c.least_open-wild.ensures.apart
