use Rattle.ksv_bytes.specs.Edits.{append}
use Rattle.ksv_bytes.specs.declared.uses.Change.TheVariants as changes
use Rattle.ksv_session.proofs.EditLemmas.{append_makes}
use Rattle.ksv_session.proofs.KeptLemmas.{edited_holds}
use Rattle.ksv_session.proofs.session.Session.append.Goals as goal

pub invariant_of-self-2 : goal.invariant_of-self-2
invariant_of-self-2 g c = c.forget.ensures.right c.self.inside.described c.self.inside.buffer c.append.new.self c.self.invariant
    (append_makes c.self.inside.buffer c.args.bytes.now c.append.new.self c.in_ok-append.ensures.done)

pub returns-clause-memory : goal.returns-clause-memory
returns-clause-memory g c m h =
    edited_holds c.self.inside.described.desc c.self.inside.buffer c.self.inside.engine c.self.inside.turns c.args.self.now c.self.view_is m h
    (λ b. append b c.args.bytes.now) changes.Append c.append.new.self c.forget.new.self c.in_ok-append.ensures.done
    (c.forget.ensures.left c.self.inside.described c.self.inside.buffer c.self.invariant)
