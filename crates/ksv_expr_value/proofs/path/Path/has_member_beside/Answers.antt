use Rattle.ksv_expr_value.proofs.Room.{member_beside}
use Rattle.ksv_expr_value.proofs.path.Path.has_member_beside.Goals as goal

pub returns : goal.returns
returns c = member_beside c.args.self.now c.args._name c.ranges._name.fits
