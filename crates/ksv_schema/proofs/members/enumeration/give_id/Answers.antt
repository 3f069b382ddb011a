use Rattle.ksv_schema.proofs.members.enumeration.give_id.Goals as goal

pub returns-clause-given : goal.returns-clause-given
returns-clause-given c = record { given = λ name. c.in_ok-is_new.ensures.updates.0 (record { ref_ptr = (0, 0); now = name }) }
