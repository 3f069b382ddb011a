-- The table is the definition's.
use Rattle.ksv_schema.proofs.Common.{◌∙◌, ap, map, List, flat_map, pair, noted, ruled_faults, seen_fault}
use Rattle.ksv_schema.specs.declared.values.rule.Ruled.{Ruled}
use Rattle.ksv_schema.specs.KeyCode.{seen_type_at}
use Rattle.ksv_schema.specs.Rules.{together}
use Rattle.ksv_schema.specs.Code.{seen_ruled}
use Rattle.ksv_schema.proofs.values.rule.note_together.Goals as goal

pub returns : goal.returns
unfolding together
returns c = c.note_each.ensures
    ∙ ap (λ (rs : List Ruled). noted (seen_fault c.args.least.now)
    (flat_map (ruled_faults c.args.kind c.args.line (seen_type_at c.args.typed.now) (map pair c.args.entries.now)) (map seen_ruled rs)))
    c.as_slice.ensures
