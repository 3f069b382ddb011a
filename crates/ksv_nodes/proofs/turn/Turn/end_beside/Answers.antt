use Rattle.ksv_nodes.proofs.Common.{◌≡◌, ◌∙◌, sym, ap, Done, run, Trail, lent, part, turns}
use Rattle.ksv_expr_value.specs.Trail.{parent}
use Rattle.ksv_nodes.specs.Rule.{in_end}
use Rattle.ksv_nodes.specs.declared.node.NodeKind.TheVariants as nodes
use Rattle.ksv_nodes.proofs.Parts.{runs_missing, runs_replied, needed_part}
use Rattle.ksv_nodes.proofs.turn.Turn.end_beside.Goals as goal

pub returns-then-not-has_part_beside : goal.returns-then-not-has_part_beside
returns-then-not-has_part_beside c = runs_missing nodes.End in_end (parent c.args.path.now) c.args.step (λ x. x) c.args.self.now
    (sym c.has_part_beside.ensures ∙ c.if-not-has_part_beside.true) c.raise.result c.raise.ensures

-- no reply is left
pub returns-in_ok-path-in-None : goal.returns-in_ok-path-in-None
returns-in_ok-path-in-None c =
    let above = c.in_ok-above-in-None.ensures in
    let is_part : run turns (part (parent c.args.path.now) c.args.step) c.next_reply.new.self ≡ Done c.in_ok-path-in-None.path c.next_reply.new.self =
    ap (λ (t : Trail). run turns (part t c.args.step) c.next_reply.new.self) (sym above) ∙ c.in_ok-path-in-None.ensures in
    needed_part nodes.End in_end (parent c.args.path.now) c.args.step c.args.self.now c.next_reply.new.self c.in_ok-path-in-None.path is_part c.in-None.ensures

-- the next one is taken
pub returns-in-Some : goal.returns-in-Some
returns-in-Some c = runs_replied nodes.End in_end (parent c.args.path.now) c.args.step (λ x. x) c.args.self.now c.next_reply.new.self (lent c.in-Some.given)
    (sym c.has_part_beside.ensures ∙ c.if-not-has_part_beside.false) c.in-Some.ensures c.ended.result c.ended.ensures
