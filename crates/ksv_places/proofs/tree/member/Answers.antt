use Rattle.ksv_places.proofs.Common.{◌<◌, length, sym, ◌∙◌, arith, link_at}
use Rattle.ksv_places.proofs.Chains.{step_on, found_at}
use Rattle.ksv_places.proofs.tree.member.Goals as goal

pub loop-path-preserved : goal.loop-path-preserved
loop-path-preserved c =
    let links = c.args.links.now in
    let k = c.loop-path.path in
    let some = c.loop-path-test.true in
    let inside : k < length links = c.loop-path.invariant.0 in
    let less : (link_at links k).next < k = c.requires.tree.next k (omega arith) inside in (
      omega arith,
      sym (step_on links c.args.name c.requires.tree.next k (omega arith) inside (sym c.is_name.ensures ∙ c.if-is_name.false))
          ∙ c.loop-path.invariant.1,
    )

pub returns-then-is_name : goal.returns-then-is_name
returns-then-is_name c =
    let some = c.loop-path-test.true in
    sym (found_at c.args.links.now c.args.name c.requires.tree.next c.loop-path.path (omega arith) c.loop-path.invariant.0
    (sym c.is_name.ensures ∙ c.if-is_name.true))
    ∙ c.loop-path.invariant.1
