use Rattle.ksv_memo.proofs.Common.{ap, sym, subst, refl, Contains, AllByRecursion, on, IsRight, pages_to, law_on}
use Rattle.ksv_memo.specs.Behind.{LooksBehind}
use Rattle.ksv_memo.proofs.Forgetting.{forgets, forgets-right, forgets-kept, looks-near, looks-behind}
use Rattle.ksv_memo.proofs.Ends.{ends-within, left-ends, reach-fits}
use Rattle.ksv_memo.proofs.engine.Engine.forget.Goals as goal

pub returns-clause-right : goal.returns-clause-right
returns-clause-right g c rules before after right made =
    let view = ap (λ v. v.kept) c.self.view_is in
    forgets-right _ (g.met.R.Rules.lawful rules) _ before after made _
    _ _ _ c.forget-self-inside.ensures.kept
    (subst (IsRight (on (g.R.Rules.meaning rules) before)) (sym view) right)

pub returns-clause-left : goal.returns-clause-left
returns-clause-left g c rules before right =
    let w = on (g.R.Rules.meaning rules) before in
    let view = ap (λ v. v.kept) c.self.view_is in
    let law = law_on (g.R.Rules.meaning rules) (g.met.R.Rules.lawful rules) before in
    rw view at (forgets _ law _ _ _ _
    _
    (subst (IsRight w) (sym view) right) c.forget-self-inside.ensures.kept).1

pub returns-clause-kept : goal.returns-clause-kept
returns-clause-kept g c =
    subst (λ es. AllByRecursion (Contains es) c.forget-self-inside.new.self.kept) (ap (λ v. v.kept) c.self.view_is)
    (forgets-kept c.args.change (pages_to c.self.inside.reach) c.self.inside.machine.table.kept c.forget-self-inside.new.self.kept c.forget-self-inside.result
    c.forget-self-inside.ensures.kept)

pub returns-clause-looked : goal.returns-clause-looked
returns-clause-looked g c rules before after right made wrote =
    let w = on (g.R.Rules.meaning rules) before in
    let view = ap (λ v. v.kept) c.self.view_is in
    let law = law_on (g.R.Rules.meaning rules) (g.met.R.Rules.lawful rules) before in
    rw view at (looks-near _ law _ _ _ _
    _ (subst (IsRight w) (sym view) right) c.forget-self-inside.ensures.kept wrote)

pub returns-clause-behind : goal.returns-clause-behind
returns-clause-behind g c rules before right moves =
    let w = on (g.R.Rules.meaning rules) before in
    let law = law_on (g.R.Rules.meaning rules) (g.met.R.Rules.lawful rules) before in
    let reach = c.self.inside.reach in
    subst (λ v. LooksBehind w c.args.change v.reach v.kept c.forget-self-inside.result) c.self.view_is
    (looks-behind w law c.args.change (pages_to reach) c.self.inside.machine.table.kept c.forget-self-inside.new.self.kept c.forget-self-inside.result
    (subst (λ v. IsRight w v.kept) (sym c.self.view_is) right) c.forget-self-inside.ensures.kept reach refl moves)

pub returns-clause-reach : goal.returns-clause-reach
returns-clause-reach g c before after made le =
    let reach = c.self.inside.reach in
    let fits = reach-fits c.args.change before after reach made (rw (← c.self.view_is) at le) in
    rw c.reach_after-self-inside.ensures fits

pub invariant_of-self : goal.invariant_of-self
invariant_of-self g c = record {
  opened = c.forget-self-inside.ensures.opened;
  ends = rw c.reach_after-self-inside.ensures (left-ends _
      _ c.self.inside.reach _ _
      _ c.forget-self-inside.ensures.kept c.self.invariant.ends);
}

pub forget-self-inside-requires-clause-within : goal.forget-self-inside-requires-clause-within
forget-self-inside-requires-clause-within g c = ends-within c.self.inside.reach c.self.inside.machine.table.kept c.self.invariant.ends
