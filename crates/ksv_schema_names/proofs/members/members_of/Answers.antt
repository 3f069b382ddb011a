use Rattle.ksv_schema_names.proofs.Common.{refl, map, flat_map, pair, arith, common_steps, members_of}
use Rattle.ksv_schema_names.specs.Members.{members_at_key}
use Rattle.ksv_schema_names.proofs.Made.{added}
use Rattle.ksv_schema_names.proofs.members.members_of.Goals as goal

pub loop-entry-preserved : goal.loop-entry-preserved
loop-entry-preserved c = added _ (λ i es. flat_map members_at_key (map pair es)) _ _ _ _ _ _ c.loop-entry-test.true c.entry-item.is (λ es. refl)
    c.in_ok-add_at_key.ensures c.loop-entry.invariant

pub returns : goal.returns
unfolding members_of
returns c = grind (arith, common_steps)
