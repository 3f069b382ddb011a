use Rattle.ksv_places.proofs.Common.{◌<◌, length, arith, link_at}
use Rattle.ksv_places.proofs.Chains.{length_on}
use Rattle.ksv_places.proofs.tree.has_room.Goals as goal

pub loop-path-preserved : goal.loop-path-preserved
loop-path-preserved c =
    let links = c.args.links.now in
    let k = c.loop-path.path in
    let some = c.loop-path-test.true in
    let inside : k < length links = c.loop-path.invariant.0 in
    let less : (link_at links k).next < k = c.requires.tree.next k (omega arith) inside in
    let on = length_on links c.requires.tree.next k (omega arith) inside in
    let all = c.loop-path.invariant.2 in
    (omega arith, c.if-count-ge-CHAINED.false, omega arith)
