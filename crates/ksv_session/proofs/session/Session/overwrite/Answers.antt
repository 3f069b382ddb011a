use Rattle.std.proofs.Common.{length}
use Rattle.ksv_bytes.specs.Edits.{overwrite}
use Rattle.ksv_bytes.specs.declared.uses.Change.TheVariants as changes
use Rattle.ksv_session.proofs.EditLemmas.{overwrite_makes}
use Rattle.ksv_session.proofs.KeptLemmas.{edited_holds}
use Rattle.ksv_session.proofs.session.Session.overwrite.Goals as goal

pub invariant_of-self-2 : goal.invariant_of-self-2
invariant_of-self-2 g c = c.forget.ensures.right c.self.inside.described c.self.inside.buffer c.overwrite.new.self c.self.invariant
    (overwrite_makes c.self.inside.buffer c.args.at c.args.bytes.now c.overwrite.new.self c.in_ok-overwrite.ensures)

pub returns-clause-memory : goal.returns-clause-memory
returns-clause-memory g c m h =
    edited_holds c.self.inside.described.desc c.self.inside.buffer c.self.inside.engine c.self.inside.turns c.args.self.now c.self.view_is m h
    (λ b. overwrite b c.args.at c.args.bytes.now) (changes.Overwrite c.args.at (length c.args.bytes.now)) c.overwrite.new.self c.forget.new.self
    c.in_ok-overwrite.ensures (c.forget.ensures.left c.self.inside.described c.self.inside.buffer c.self.invariant)
