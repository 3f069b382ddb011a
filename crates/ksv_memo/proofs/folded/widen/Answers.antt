use Rattle.ksv_memo.proofs.Common.{◌≡◌, ◌∙◌, ◌+◌, ◌<◌, ℕ, suc, List, Result, arith, sym, subst, nodes}
use Rattle.ksv_memo_rules.specs.Folds.{IsFold}
use Rattle.ksv_memo.specs.Folding.{IsRun}
use Rattle.ksv_memo.specs.Nodes.{HasNoEntry, Nodes}
use Rattle.ksv_memo.proofs.Retelling.{folds-so, widened}
use Rattle.ksv_memo.proofs.Taking.{Asking, asking}
use Rattle.ksv_memo.proofs.folded.widen.Given
use Rattle.ksv_memo.proofs.folded.widen.Goals.{After-foldable-count}
use Rattle.ksv_memo.proofs.folded.widen.Goals as goal

-- what it is proved from
abbrev asks : (g : Given.Over) (rules : g.row.R.Denot) (bytes : List ℕ) → Asking g.row.R-Node.Denot (Result g.row.R-Value.Denot g.row.R-Fault.Denot)
asks g rules bytes = asking (g.R.Rules.meaning rules) (g.met.R.Rules.lawful rules) bytes g.R.Node.PartialEq.eq g.met.R.Node.Eq.laws g.met.R.Rules.exact

-- the sequence is as the rules say
folds : (g : Given.Over) (c : After-foldable-count g)
    → IsFold (asks g c.args.rules.now c.args.bytes.now).world (g.R.Fold.Folds.fold c.args.run.now.nodes) c.foldable-count.result
folds g c = folds-so (asks g c.args.rules.now c.args.bytes.now) g.R.Fold.Folds.fold c.args.run.now c.args.table.now.kept c.args.table.now.opened c.requires.run
    c.foldable-count.result c.requires.right c.foldable-count.ensures.fold

pub is_free-requires : goal.is_free-requires
is_free-requires g c = (folds g (goal.at.is_free-requires g c).After-foldable-count).in_size

pub is_free-requires-then-branch : goal.is_free-requires-then-branch
is_free-requires-then-branch g c = (folds g (goal.at.is_free-requires-then-branch g c).After-foldable-count).in_size

pub returns-then-branch-2-clause-run : goal.returns-then-branch-2-clause-run
returns-then-branch-2-clause-run g c =
    let q = asks g c.args.rules.now c.args.bytes.now in
    let run = c.args.run.now in
    let count = c.foldable-count.result in
    let f = g.R.Fold.Folds.fold run.nodes in
    let fold = folds g (goal.at.returns-then-branch-2-clause-run g c).After-foldable-count in
    let more = c.if-count-run.false in
    let once : nodes c.is_free.new.table ≡ nodes c.args.table.now = c.is_free.ensures.nodes ∙ c.foldable-count.ensures.nodes in
    let one : run.kept + 1 ≡ suc run.kept = omega arith in
    let out : run.kept < count → HasNoEntry q.eq c.args.table.now.kept (f.entry run.kept).node =
    λ lt. subst (λ (t : Nodes _ _). HasNoEntry q.eq t.kept (f.entry run.kept).node) c.foldable-count.ensures.nodes
    (c.in_ok-is_free.ensures.free c.if-branch.true lt) in
    let next : suc run.kept < count → HasNoEntry q.eq c.args.table.now.kept (f.entry (suc run.kept)).node =
    λ lt. subst (λ (t : Nodes _ _). HasNoEntry q.eq t.kept (f.entry (suc run.kept)).node) once
    (subst (λ i. HasNoEntry q.eq c.is_free.new.table.kept (f.entry i).node) one (c.in_ok-is_free-2.ensures.free c.if-branch-2.true (omega (arith, lt)))) in
    subst (λ (t : Nodes _ _). IsRun q.eq f run.kept run.wild count run.lent.items t.kept t.opened) (sym (c.is_free-then-branch.ensures.nodes ∙ once))
    (widened q f run.kept run.wild run.far count run.lent.items c.args.table.now.kept c.args.table.now.opened c.requires.run fold (omega arith) out next
    c.requires.right)
