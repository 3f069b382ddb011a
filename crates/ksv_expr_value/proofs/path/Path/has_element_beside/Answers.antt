use Rattle.ksv_expr_value.proofs.Room.{element_beside}
use Rattle.ksv_expr_value.proofs.path.Path.has_element_beside.Goals as goal

pub returns : goal.returns
returns c = element_beside c.args.self.now c.args.index
