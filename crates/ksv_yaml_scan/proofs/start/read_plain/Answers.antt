use Rattle.ksv_yaml_scan.proofs.Common.{ap, sym, ◌∙◌, false, Run}
use Rattle.ksv_yaml_scan.specs.Views.{ending_view}
use Rattle.ksv_yaml_scan.proofs.Starts.{no_bracket}
use Rattle.ksv_yaml_scan.proofs.start.read_plain.Goals as goal

-- outside flow nodes no run ends at a bracket
pub unreachable-requires : goal.unreachable-requires
unreachable-requires c = no_bracket false c.args.content.now c.in-Bracket.field-0.now
    (sym (ap (λ (r : Run). r.ending) c.plain_run-run.ensures.value) ∙ ap ending_view c.in-Bracket.is)
