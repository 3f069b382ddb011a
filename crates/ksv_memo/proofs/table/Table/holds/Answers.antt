use Rattle.ksv_memo.proofs.Common.{◌∙◌, ap, arith, sym, subst, nodes, IsDistinct, nodes_of}
use Rattle.std.proofs.Common.{true≢false}
use Rattle.ksv_memo.specs.Nodes.{KeepsNode, HasNoEntry}
use Rattle.ksv_memo.proofs.Knowing.{kept_once}
use Rattle.ksv_memo.proofs.Tabling.{looked-laid, looked-view, found, not_kept}
use Rattle.ksv_memo.proofs.table.Table.holds.Goals.{in-Kept, in_default}
use Rattle.ksv_memo.proofs.table.Table.holds.Goals as goal

pub returns-clause-yes : goal.returns-clause-yes
returns-clause-yes g c is =
    let eq = g.R.Node.PartialEq.eq in
    let ps = c.find.new.self.entries in
    let laid = looked-laid _ ps c.self.inside.links c.self.inside.frames c.find.ensures.entries c.self.invariant in
    let view = looked-view _ ps c.self.inside.links c.self.inside.frames _ c.find.ensures.entries (ap nodes c.self.view_is) in
    elim c.match-matches.branch [
      | in-Kept k ↦
          let one = found eq ps c.self.inside.links c.self.inside.frames laid.kept laid.waits c.args.node.now (g.met.R.Node.Eq.laws.refl c.args.node.now) _
          k.in-Kept.ensures.knows in
          subst (λ v. KeepsNode eq v.kept c.args.node.now) view (one.entry, one.is)
      | in_default k ↦ absurd (true≢false (sym is ∙ k.matches-is))
    ]

pub returns-clause-no : goal.returns-clause-no
returns-clause-no g c is =
    let eq = g.R.Node.PartialEq.eq in
    let ps = c.find.new.self.entries in
    let laid = looked-laid _ ps c.self.inside.links c.self.inside.frames c.find.ensures.entries c.self.invariant in
    let view = looked-view _ ps c.self.inside.links c.self.inside.frames _ c.find.ensures.entries (ap nodes c.self.view_is) in
    elim c.match-matches.branch [
      | in-Kept k ↦ absurd (true≢false (sym k.matches-is ∙ is))
      | in_default k ↦ subst (λ v. HasNoEntry eq v.kept c.args.node.now) view
          (not_kept eq ps c.self.inside.links c.self.inside.frames laid.kept laid.waits c.args.node.now g.met.R.Node.Eq.laws c.find.ensures.unique c.find.result
          c.find.ensures.knows k.in_default.not-Kept)
    ]

pub returns-clause-once : goal.returns-clause-once
returns-clause-once g c =
    let eq = g.R.Node.PartialEq.eq in
    let ps = c.find.new.self.entries in
    let view = looked-view _ ps c.self.inside.links c.self.inside.frames _ c.find.ensures.entries (ap nodes c.self.view_is) in
    subst (λ v. IsDistinct eq (nodes_of v.kept)) view (kept_once eq g.met.R.Node.Eq.laws ps c.self.inside.links c.find.ensures.unique)

pub returns-clause-fits : goal.returns-clause-fits
returns-clause-fits g c = omega arith
