use Rattle.ksv_schema.proofs.Common.{sym, subst}
use Rattle.ksv_yaml_tree.specs.View.{view}
use Rattle.ksv_desc.specs.declared.pieces.Pieces.{Pieces}
use Rattle.ksv_desc.specs.Whole.{plain_pieces}
use Rattle.ksv_schema.specs.Outcome.{States}
use Rattle.ksv_schema.proofs.Theorem.{refuses, states, tree_resolved, never_none}
use Rattle.ksv_schema.proofs.description.outcome_of.Goals as goal

pub new-requires : goal.new-requires
new-requires c = tree_resolved (view c.args.scopes.now) _
    (states _ _ (rw c.in-Ok-Some.is at c.in_ok-pieces.ensures.faultless)
    (sym (rw (c.in-Ok-Some.is, c.in-Ok-Some.field-0-is) at c.in_ok-pieces.ensures.stated)))

pub unreachable-requires : goal.unreachable-requires
unreachable-requires c = never_none _ (rw c.in-Ok-None.is at c.in_ok-pieces.ensures.faultless)
    (sym (rw (c.in-Ok-None.is, c.in-Ok-None.field-0-is) at c.in_ok-pieces.ensures.stated))

pub returns-in-Ok-Some-clause-described : goal.returns-in-Ok-Some-clause-described
returns-in-Ok-Some-clause-described c =
    subst (λ (p : Pieces). States (view c.args.scopes.now) (plain_pieces p)) (sym c.new.ensures)
    (states _ _ (rw c.in-Ok-Some.is at c.in_ok-pieces.ensures.faultless) (sym (rw (c.in-Ok-Some.is, c.in-Ok-Some.field-0-is) at c.in_ok-pieces.ensures.stated)))

pub returns-in-Err-clause-refused : goal.returns-in-Err-clause-refused
returns-in-Err-clause-refused c = refuses _ _ (rw c.in-Err.is at c.in_ok-pieces.ensures.fault)
