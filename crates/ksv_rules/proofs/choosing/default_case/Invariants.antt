use Rattle.std.proofs.Common.{◌≡◌, map, drop}
use Rattle.ksv_desc.specs.Pieces.{plain_case}
use Rattle.ksv_rule_meaning.specs.Choosing.{is_default, first_case}
use Rattle.ksv_rules.proofs.choosing.default_case.Given as goal

abbrev pub invariant-loop-case : goal.invariant-loop-case
invariant-loop-case l =
    (l.place ≡ l.case-index) × (first_case is_default l.place (map plain_case (drop l.case-index l.cases)) ≡ first_case is_default 0 (map plain_case l.cases))
