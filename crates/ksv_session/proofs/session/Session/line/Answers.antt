use Rattle.std.proofs.Common.{subst}
use Rattle.std.specs.Prelude.{IsTrue}
use Rattle.ksv_desc.specs.Whole.{plain_pieces}
use Rattle.ksv_commands.specs.Commands.{command_of, is_question}
use Rattle.ksv_session.specs.Explored.{Explored, description_of}
use Rattle.ksv_session.proofs.KeptLemmas.{unread_holds}
use Rattle.ksv_session.proofs.session.Session.line.Goals as goal

-- only the path of a question is refused memory when a line is read
pub returns-in_default-clause-memory : goal.returns-in_default-clause-memory
unfolding description_of
returns-in_default-clause-memory g c m h =
    unread_holds c.self.inside.described.desc c.self.inside.buffer c.self.inside.engine c.self.inside.turns c.args.self.now c.self.view_is m h
    c.self.invariant (command_of (description_of c.args.self.now) c.args.line.now)
    (subst (λ (x : Explored). IsTrue (is_question (command_of (description_of x) c.args.line.now))) c.self.view_is
    (subst (λ pieces. IsTrue (is_question (command_of (plain_pieces pieces) c.args.line.now))) c.desc.ensures c.in_default.ensures.refused))
