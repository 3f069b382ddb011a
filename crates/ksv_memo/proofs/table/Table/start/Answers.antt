use Rattle.ksv_memo.proofs.Common.{◌∙◌, ap, refl, subst, sym, IfOk, option_map, Answered, Circles, Opens, nodes}
use Rattle.std.proofs.lemmas.Result.{IfOk-weaker}
use Rattle.ksv_memo.specs.Nodes.{HasEntry, Starts, nodes_with}
use Rattle.ksv_memo.proofs.Tabling.{found}
use Rattle.ksv_memo.proofs.table.Table.start.Goals as goal
use Rattle.ksv_memo.proofs.table.Table.start.Goals.{in-Kept, in-Opened, in-Circle}

-- a kept answer is copied
pub returns-clause-ok : goal.returns-clause-ok
returns-clause-ok g c =
    let t = c.seek.new in
    let eq = g.R.Node.PartialEq.eq in
    let n = c.args.node in
    let old = nodes c.args.self.now in
    let new = nodes_with t.slots.entries t.links t.frames in
    elim c.match-came.branch [
      | in-Kept w ↦
          let came = rw w.in-Kept.is at c.in_ok-came.ensures.ok in
          let laid = c.in_ok-came.ensures.laid in
          let one = found eq t.slots.entries t.links t.frames laid.kept laid.waits n (g.met.R.Node.Eq.laws.refl n) w.in-Kept.place came.0 in
          let view = came.1 ∙ ap nodes c.self.view_is in
          subst (λ r. IfOk r (Starts eq n old new)) (sym w.result-is)
          (IfOk-weaker w.outcome_at.result _ _
          (λ outcome is. subst (Starts eq n old new) (sym (is ∙ ap (option_map (λ a. Answered a)) one.answer))
          (subst (λ v. HasEntry eq v.kept n one.entry.answer) view (one.entry, one.is, refl), view))
          w.outcome_at.ensures)
      | in-Opened w ↦
          subst (λ r. IfOk r (Starts eq n old new)) (sym w.result-is)
          (subst (λ v. Opens eq n (nodes v) new) c.self.view_is (rw w.in-Opened.is at c.in_ok-came.ensures.ok))
      | in-Circle w ↦
          subst (λ r. IfOk r (Starts eq n old new)) (sym w.result-is)
          (subst (λ v. Circles eq n w.in-Circle.node (nodes v) new) c.self.view_is (rw w.in-Circle.is at c.in_ok-came.ensures.ok))
    ]
