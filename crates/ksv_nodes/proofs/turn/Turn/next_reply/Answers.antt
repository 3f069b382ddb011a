use Rattle.ksv_nodes.proofs.Common.{◌≡◌, ◌+◌, ◌∙◌, sym, ap, subst, arith, lent, Need, run, come, turns}
use Rattle.std.specs.Option.{option_map}
use Rattle.std.proofs.lemmas.Option.{slice_get_within}
use Rattle.ksv_nodes.specs.Turning.{TakesReply, ask}
use Rattle.ksv_nodes.proofs.Replied.{from, needed_next, given_next}
use Rattle.ksv_nodes.proofs.turn.Turn.next_reply.Goals as goal

-- no reply is left
pub returns-in_err-reply : goal.returns-in_err-reply
returns-in_err-reply c =
    let t = c.self.inside in
    let gone = sym c.get.ensures ∙ ap (option_map lent) c.in_err-reply.was in
    subst (λ o. TakesReply c.args.self.now c.args.self.now o) (sym c.from_residual.ensures)
    (λ n. subst (λ s. run turns (ask n) s ≡ Need n s) c.self.view_is (needed_next n t.here.now t.bytes.now t.uses.items t.replies.now t.at gone))

pub prove-unreachable-requires : goal.prove-unreachable-requires
prove-unreachable-requires c =
    let there = sym c.get.ensures ∙ ap (option_map lent) c.in_ok-reply.was in
    omega (arith, c.len-count.ensures, c.if-prove.true, slice_get_within c.self.inside.replies.now c.self.inside.at (lent c.in_ok-reply.reply) there)

-- the next one is taken
pub returns : goal.returns
returns c =
    let t = c.self.inside in
    let there = sym c.get.ensures ∙ ap (option_map lent) c.in_ok-reply.was in
    λ n.
    let behind = from n t.here.now t.bytes.now t.uses.items t.replies.now (t.at + 1) in
    subst (λ s. run turns (ask n) s ≡ come (lent c.in_ok-reply.reply) behind) c.self.view_is
    (given_next n t.here.now t.bytes.now t.uses.items t.replies.now t.at (lent c.in_ok-reply.reply) there)
