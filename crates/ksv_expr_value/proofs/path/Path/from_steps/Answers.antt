use Rattle.ksv_expr_value.proofs.path.Path.from_steps.Goals as goal

pub invariant_of-result : goal.invariant_of-result
invariant_of-result c = (rw c.in_ok-from_slice.ensures c.requires, tt)
