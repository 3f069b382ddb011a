use Rattle.ksv_memo.proofs.Common.{◌≡◌, length, ap, subst, arith, nodes}
use Rattle.ksv_memo.specs.Folding.{IsFolding, viewed}
use Rattle.ksv_memo.proofs.Leaving.{view-length, few-lent}
use Rattle.ksv_memo.proofs.folded.Folded.len.Goals as goal

pub overflow_sub-result : goal.overflow_sub-result
overflow_sub-result g c =
    let run = c.in-Some.run' in
    let t = c.self.inside.table in
    let eq = g.R.Node.PartialEq.eq in
    let fold = g.R.Fold.Folds.fold in
    let is = subst (λ r. IsFolding eq fold r (nodes t)) c.in-Some.is c.self.invariant in
    let few = few-lent eq g.met.R.Node.Eq.laws g.met.R.Rules.exact (fold run.nodes) run.kept run.wild run.far run.lent.items t.opened t.kept is in
    let lent = c.len-in-Some-2.ensures in
    let all = c.len-in-Some.ensures.len in
    omega arith

pub overflow_add-result : goal.overflow_add-result
overflow_add-result g c =
    let small = c.len-in-Some.ensures.small in
    omega arith

pub returns-in-Some : goal.returns-in-Some
returns-in-Some g c =
    let run = c.in-Some.run' in
    let t = c.self.inside.table in
    let eq = g.R.Node.PartialEq.eq in
    let fold = g.R.Fold.Folds.fold in
    let is = subst (λ r. IsFolding eq fold r (nodes t)) c.in-Some.is c.self.invariant in
    let few = few-lent eq g.met.R.Node.Eq.laws g.met.R.Rules.exact (fold run.nodes) run.kept run.wild run.far run.lent.items t.opened t.kept is in
    let whole = view-length eq g.met.R.Node.Eq.laws g.met.R.Rules.exact (fold run.nodes) run.kept run.wild run.far run.lent.items t.opened t.kept is in
    let view = subst (λ r. (viewed eq fold r t) ≡ c.args.self.now) c.in-Some.is c.self.view_is in
    let seen = ap (λ v. length v.kept) view in
    let lent = c.len-in-Some-2.ensures in
    let all = c.len-in-Some.ensures.len in
    omega arith
