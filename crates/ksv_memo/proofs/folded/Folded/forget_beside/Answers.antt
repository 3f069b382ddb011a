use Rattle.ksv_memo.proofs.Common.{◌≡◌, ◌≤◌, ◌+◌, ◌⊎◌, length, ap, sym, ◌∙◌, subst, arith, nodes, AreWithin, inl, inr, AllByRecursion, Some}
use Rattle.std.proofs.lemmas.Bool.{cases_lt}
use Rattle.ksv_memo.specs.Folding.{IsFolding, viewed}
use Rattle.ksv_memo.specs.Nodes.{KeepsNode, Nodes}
use Rattle.ksv_memo.proofs.Leaving.{table-all, some-left, some-swept, none-swept, swept-of, cut-of}
use Rattle.ksv_memo.proofs.Listing.{lent-apart, lent-held}
use Rattle.ksv_memo.proofs.folded.Folded.forget_beside.Goals.{then-holds, else-holds}
use Rattle.ksv_memo.proofs.folded.Folded.forget_beside.Goals as goal

pub forget_lent-looked-requires-clause-within : goal.forget_lent-looked-requires-clause-within
forget_lent-looked-requires-clause-within g c =
    let t = c.self.inside.table in
    let eq = g.R.Node.PartialEq.eq in
    let fold = g.R.Fold.Folds.fold in
    let was : c.self.inside.run ≡ Some c.in-Some.run' = sym c.in-Some.ensures.value in
    let is = subst (λ r. IsFolding eq fold r (nodes t)) was c.self.invariant in
    let view = subst (λ r. viewed eq fold r t ≡ c.args.self.now) was c.self.view_is in
    table-all eq g.met.R.Node.Eq.laws g.met.R.Rules.exact fold (λ entry. AreWithin c.args.pages entry.uses) (λ f j h. h) c.in-Some.run' t c.holds.new.self is
    c.holds.ensures.nodes (subst (λ v. AllByRecursion (λ entry. AreWithin c.args.pages entry.uses) v.kept) (sym view) c.requires.within)

pub forget_lent-looked-requires-clause-lent : goal.forget_lent-looked-requires-clause-lent
forget_lent-looked-requires-clause-lent g c =
    let t = c.self.inside.table in
    let eq = g.R.Node.PartialEq.eq in
    let fold = g.R.Fold.Folds.fold in
    let was : c.self.inside.run ≡ Some c.in-Some.run' = sym c.in-Some.ensures.value in
    let is = subst (λ r. IsFolding eq fold r (nodes t)) was c.self.invariant in
    let run = c.in-Some.run' in
    subst (λ (v : Nodes _ _). AllByRecursion (λ x. KeepsNode eq v.kept x.node) run.lent.items) (sym c.holds.ensures.nodes)
    (lent-held eq g.met.R.Node.Eq.laws g.met.R.Rules.exact (fold run.nodes) run.kept run.wild run.far run.lent.items t.kept t.opened is c.holds.ensures.once)

pub forget_lent-looked-requires-clause-apart : goal.forget_lent-looked-requires-clause-apart
forget_lent-looked-requires-clause-apart g c =
    let t = c.self.inside.table in
    let eq = g.R.Node.PartialEq.eq in
    let fold = g.R.Fold.Folds.fold in
    let was : c.self.inside.run ≡ Some c.in-Some.run' = sym c.in-Some.ensures.value in
    let is = subst (λ r. IsFolding eq fold r (nodes t)) was c.self.invariant in
    let run = c.in-Some.run' in
    lent-apart eq g.met.R.Node.Eq.laws g.met.R.Rules.exact (fold run.nodes) run.kept run.wild run.far run.lent.items t.kept t.opened is c.holds.ensures.once

pub invariant_of-self-then-holds : goal.invariant_of-self-then-holds
invariant_of-self-then-holds g c =
    let t = c.self.inside.table in
    let eq = g.R.Node.PartialEq.eq in
    let fold = g.R.Fold.Folds.fold in
    let was : c.self.inside.run ≡ Some c.in-Some.run' = sym c.in-Some.ensures.value in
    let is = subst (λ r. IsFolding eq fold r (nodes t)) was c.self.invariant in
    some-left eq g.met.R.Node.Eq.laws g.met.R.Rules.exact fold c.in-Some.run' t c.holds.new.self c.forget_lent-looked.new.self c.holds-2.new.self is
    c.holds.ensures.once c.holds.ensures.nodes c.holds-2.ensures.nodes c.args.change c.args.pages _ c.left-left.result c.forget_lent-looked.ensures.room
    c.left-left.ensures _ c.root-2.ensures (c.holds-2.ensures.yes c.if-holds.true) c.cut.new.self
    (cut-of _ _ _ c.forget_lent-looked.ensures.lent c.cut.ensures) c.forget_lent-looked.ensures.opened

pub returns-clause-kept : goal.returns-clause-kept
returns-clause-kept g c =
    let t = c.self.inside.table in
    let eq = g.R.Node.PartialEq.eq in
    let fold = g.R.Fold.Folds.fold in
    let was : c.self.inside.run ≡ Some c.in-Some.run' = sym c.in-Some.ensures.value in
    let is = subst (λ r. IsFolding eq fold r (nodes t)) was c.self.invariant in
    let view = subst (λ r. viewed eq fold r t ≡ c.args.self.now) was c.self.view_is in
    let a = c.len-count.ensures in let b = c.len.ensures in let went = c.saturating_sub-went.ensures in let more = c.saturating_add.ensures in
    let told = c.max.ensures in
    let least : length c.args.self.now.kept ≤ c.max.result + length c.if-holds.self.kept = omega arith in
    let most : (c.max.result ≤ c.forget_lent-looked.result + 2) ⊎ (c.max.result + length c.if-holds.self.kept ≤ length c.args.self.now.kept) =
    elim (cases_lt (c.forget_lent-looked.result + 2) c.max.result) [ inl lt ↦ inr (omega arith) | inr le ↦ inl le ] in
    elim c.if-holds.branch [
      | then-holds w ↦
          swept-of c.args.change c.args.pages (viewed eq fold (Some c.in-Some.run') t) c.args.self.now (viewed eq fold (Some w.cut.new.self) c.holds-2.new.self)
          c.if-holds.self view w.self-is (c.forget_lent-looked.result + 2) c.max.result
          (some-swept eq g.met.R.Node.Eq.laws g.met.R.Rules.exact fold c.in-Some.run' t c.holds.new.self c.forget_lent-looked.new.self c.holds-2.new.self is
          c.holds.ensures.once c.holds.ensures.nodes c.holds-2.ensures.nodes c.args.change c.args.pages _ c.left-left.result
          c.forget_lent-looked.ensures.room c.left-left.ensures _ c.root-2.ensures (c.holds-2.ensures.yes w.if-holds.true) w.cut.new.self
          (cut-of _ _ _ c.forget_lent-looked.ensures.lent w.cut.ensures) c.max.result)
          least most
      | else-holds w ↦
          swept-of c.args.change c.args.pages (viewed eq fold (Some c.in-Some.run') t) c.args.self.now c.holds-2.new.self c.if-holds.self view
          (w.self-is ∙ ap (λ r. viewed eq fold r c.holds-2.new.self) c.in-Some.ensures.after) (c.forget_lent-looked.result + 2) c.max.result
          (none-swept eq g.met.R.Node.Eq.laws g.met.R.Rules.exact fold c.in-Some.run' t c.holds.new.self c.forget_lent-looked.new.self c.holds-2.new.self is
          c.holds.ensures.once c.holds.ensures.nodes c.holds-2.ensures.nodes c.args.change c.args.pages _ c.left-left.result
          c.forget_lent-looked.ensures.room c.left-left.ensures _ c.root-2.ensures (c.holds-2.ensures.no w.if-holds.false) c.max.result)
          least most
    ]
