use Rattle.std.proofs.Common.{◌∙◌, ap, nat_lt}
use Rattle.ksv_expr_value.proofs.Room.{element_fits, far_element}
use Rattle.ksv_expr_value.proofs.path.Path.has_element.Goals as goal

pub returns-then-index-lt-MAX_INDEX : goal.returns-then-index-lt-MAX_INDEX
returns-then-index-lt-MAX_INDEX c = ap (λ n. nat_lt n 64) c.len.ensures.len ∙ element_fits c.args.self.now c.args.index c.if-index-lt-MAX_INDEX.true

pub returns-else-index-lt-MAX_INDEX : goal.returns-else-index-lt-MAX_INDEX
returns-else-index-lt-MAX_INDEX c = far_element c.args.self.now c.args.index c.if-index-lt-MAX_INDEX.false
