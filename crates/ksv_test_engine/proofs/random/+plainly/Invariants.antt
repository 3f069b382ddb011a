use Rattle.ksv_test_engine.proofs.random.+plainly.Given as goal

abbrev pub decreases-plainly : goal.decreases-plainly
decreases-plainly l = l.depth
