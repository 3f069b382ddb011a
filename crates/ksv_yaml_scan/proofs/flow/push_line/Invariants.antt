use Rattle.ksv_yaml_scan.proofs.Common.{◌≡◌, true, List, length, Some, All, HasNumber, both, tokens_view}
use Rattle.ksv_yaml_scan.specs.Lines.{Line as LineOf}
use Rattle.ksv_yaml_scan.proofs.Parts.{rest_tokens}
use Rattle.ksv_yaml_scan.proofs.flow.push_line.Given as goal

abbrev pub invariant-parts : goal.invariant-parts
invariant-parts l =
    (both (Some (tokens_view l.tokens.items)) (rest_tokens l.line.number l.white l.rest)
    ≡ both (Some (tokens_view l.initial.tokens.items)) (rest_tokens l.line.number true l.line.content.now))
    × ((ls : List LineOf) → HasNumber ls l.line.number → All (λ t. HasNumber ls t.line) l.initial.tokens.items → All (λ t. HasNumber ls t.line) l.tokens.items)

abbrev pub decreases-parts : goal.decreases-parts
decreases-parts l = length l.rest
