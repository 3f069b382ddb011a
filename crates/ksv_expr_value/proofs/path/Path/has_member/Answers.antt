use Rattle.std.proofs.Common.{◌∙◌, ap, nat_lt}
use Rattle.ksv_expr_value.proofs.Room.{member_fits}
use Rattle.ksv_expr_value.proofs.path.Path.has_member.Goals as goal

pub returns : goal.returns
returns c = ap (λ n. nat_lt n 64) c.len.ensures.len ∙ member_fits c.args.self.now c.args._name c.ranges._name.fits
