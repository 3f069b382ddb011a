use Rattle.ksv_test_engine.proofs.Hashing.{found-key}
use Rattle.ksv_test_engine.proofs.samples.hashed.HashedPlaces.find.Goals as goal

pub returns-clause-some : goal.returns-clause-some
returns-clause-some g c = found-key g.N.PartialEq.eq g.met.N.Exact.exact c.args.self.now.nodes.keys c.args.node.now c.get_index_of.result
    c.get_index_of.ensures.index
