use Rattle.ksv_session.proofs.session.Session.new.Goals as goal

-- a new engine is right for all rules and bytes
pub invariant_of-result : goal.invariant_of-result
invariant_of-result g c = c.new-in-Ok-2.ensures.right c.new-in-Ok.result c.in-Ok.buffer
