use Rattle.ksv_schema.proofs.Common.{drop, map, option_map, plain_enum, row_of, each, each_from, enum}
use Rattle.ksv_schema.proofs.Each.{IsSoFar}
use Rattle.ksv_schema.proofs.members.enumeration.enumerations.Given as goal

abbrev pub invariant-loop-row : goal.invariant-loop-row
invariant-loop-row l = IsSoFar (each enum (map row_of l.enums)) (each_from (λ i. enum) l.row-index (map row_of (drop l.row-index l.enums)))
    (option_map (λ v. map plain_enum v.items) l.made) l.fn.reader l.reader
