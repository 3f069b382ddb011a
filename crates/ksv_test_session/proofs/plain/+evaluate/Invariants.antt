use Rattle.ksv_test_session.proofs.plain.+evaluate.Given as goal

abbrev pub decreases-evaluate : goal.decreases-evaluate
decreases-evaluate l = l.depth
