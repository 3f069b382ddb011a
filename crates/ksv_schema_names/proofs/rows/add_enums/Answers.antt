use Rattle.ksv_schema_names.proofs.Common.{refl, ap, ◌∙◌, [], ◌∷◌, ◌++◌, map, pair, row_of, arith, common_steps}
use Rattle.std.proofs.lemmas.List.{map-append}
use Rattle.ksv_schema_names.specs.Rows.{named_row}
use Rattle.ksv_schema_names.proofs.Made.{added}
use Rattle.ksv_schema_names.proofs.rows.add_enums.Goals as goal

pub loop-name-preserved : goal.loop-name-preserved
loop-name-preserved c =
    added c.args.names.now (λ i es. map (named_row c.args.n) (map pair es)) _ _ _ _ _ _ c.loop-name-test.true c.name-item.is (λ es. refl)
    (ap (map row_of) c.in_ok-push.ensures.items ∙ map-append row_of c.loop-name.rows.items (c.named_row.result ∷ [])
    ∙ ap (λ r. map row_of c.loop-name.rows.items ++ r ∷ []) c.named_row.ensures)
    c.loop-name.invariant

pub returns : goal.returns
returns c = grind (arith, common_steps)
