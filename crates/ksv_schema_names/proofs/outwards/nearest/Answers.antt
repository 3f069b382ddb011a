use Rattle.ksv_schema_names.proofs.Common.{◌<◌, List, length, map, refl, arith, row_of}
use Rattle.std.proofs.Common.{subst}
use Rattle.std.proofs.lemmas.List.{length-map}
use Rattle.ksv_schema_names.specs.declared.row.Row.{Row}
use Rattle.ksv_schema_names.specs.Types.{from}
use Rattle.ksv_schema_names.specs.View.{has_sought}
use Rattle.ksv_schema_names.proofs.Lookup.{further}
use Rattle.ksv_schema_names.proofs.outwards.nearest.Goals as goal

pub loop-step-init : goal.loop-step-init
unfolding from
loop-step-init c = (length c.args.types.now, omega arith, rw length-map refl)

pub loop-step-preserved : goal.loop-step-preserved
loop-step-preserved c =
    let within : c.loop-step.step < length c.args.types.now =
    subst (λ (rows : List Row). c.loop-step.step < length rows) c.as_slice-step-end.ensures c.loop-step-test.true in
    further (map row_of c.args.types.now) (has_sought (map row_of c.args.types.now) c.args.sought) c.loop-step.invariant.0 c.loop-step.step _ c.loop-step.at _ _
    c.loop-step.invariant.1 within c.if-has_sought.ensures c.in-Some.ensures c.loop-step.invariant.2
