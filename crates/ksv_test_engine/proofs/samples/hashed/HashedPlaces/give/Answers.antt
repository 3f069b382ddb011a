use Rattle.std.proofs.Common.{◌∙◌}
use Rattle.ksv_test_engine.proofs.Hashing.{new-key, removed}
use Rattle.ksv_test_engine.proofs.samples.hashed.HashedPlaces.give.Goals as goal

-- the node is put last, and then in the place of the one that goes
pub returns-clause-ok : goal.returns-clause-ok
returns-clause-ok g c =
    let ns = c.args.self.now.nodes.keys in
    let n = c.args.node.now in
    let put = c.in_ok-insert.ensures.keys ∙ new-key g.N.PartialEq.eq ns n c.requires.none in
    removed ns c.insert.new.self.keys c.args.place n c.swap_remove_index.result put c.requires.place_in c.swap_remove_index.ensures.key
    c.swap_remove_index.new.self.keys c.swap_remove_index.ensures.keys
