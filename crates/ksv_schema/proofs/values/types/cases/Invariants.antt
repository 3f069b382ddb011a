use Rattle.ksv_schema.proofs.Common.{drop, map, option_map, pair, plain_case, each, each_from}
use Rattle.ksv_schema.specs.Values.{case}
use Rattle.ksv_schema.specs.Code.{seen_keys}
use Rattle.ksv_schema.proofs.Each.{IsSoFar}
use Rattle.ksv_schema.proofs.values.types.cases.Given as goal

abbrev pub invariant-loop-case : goal.invariant-loop-case
invariant-loop-case l =
    let read = case (seen_keys l.keys) in
    IsSoFar (each read (map pair l.cases)) (each_from (λ i. read) l.case-index (map pair (drop l.case-index l.cases)))
    (option_map (λ v. map plain_case v.items) l.made) l.fn.reader l.reader
