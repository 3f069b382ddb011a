use Rattle.ksv_yaml_scan.proofs.Common.{◌≡◌, ◌∷◌, Some, drop, All, HasNumber, both, line_view, lines_view, tokens_view}
use Rattle.ksv_yaml_scan.specs.Tokens.{tokens_of}
use Rattle.ksv_yaml_scan.proofs.flow.flow_parts.Given as goal

abbrev pub invariant-loop-line : goal.invariant-loop-line
invariant-loop-line l =
    (both (Some (tokens_view l.tokens.items)) (tokens_of (lines_view (drop l.line-index l.lines))) ≡ tokens_of (line_view l.fn.first ∷ lines_view l.lines))
    × All (λ t. HasNumber (line_view l.fn.first ∷ lines_view l.lines) t.line) l.tokens.items
