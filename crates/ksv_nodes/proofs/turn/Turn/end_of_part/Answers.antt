use Rattle.ksv_nodes.proofs.Common.{◌∙◌, sym, lent}
use Rattle.ksv_nodes.specs.Rule.{in_end}
use Rattle.ksv_nodes.specs.declared.node.NodeKind.TheVariants as nodes
use Rattle.ksv_nodes.proofs.Parts.{runs_missing, runs_replied, needed_part}
use Rattle.ksv_nodes.proofs.turn.Turn.end_of_part.Goals as goal

pub returns-then-not-has_part : goal.returns-then-not-has_part
returns-then-not-has_part c = runs_missing nodes.End in_end c.args.path.now c.args.step (λ x. x) c.args.self.now
    (sym c.has_part.ensures ∙ c.if-not-has_part.true) c.raise.result c.raise.ensures

-- no reply is left
pub returns-in_ok-path-in-None : goal.returns-in_ok-path-in-None
returns-in_ok-path-in-None c = needed_part nodes.End in_end c.args.path.now c.args.step c.args.self.now c.next_reply.new.self c.in_ok-path-in-None.path
    c.in_ok-path-in-None.ensures c.in-None.ensures

-- the next one is taken
pub returns-in-Some : goal.returns-in-Some
returns-in-Some c = runs_replied nodes.End in_end c.args.path.now c.args.step (λ x. x) c.args.self.now c.next_reply.new.self (lent c.in-Some.reply)
    (sym c.has_part.ensures ∙ c.if-not-has_part.false) c.in-Some.ensures c.ended.result c.ended.ensures
