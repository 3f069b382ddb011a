use Rattle.ksv_schema.proofs.Common.{drop, map, option_map, plain_kind, declared, each_from, members}
use Rattle.ksv_schema_names.specs.View.{member_of as row}
use Rattle.ksv_schema.proofs.Each.{IsSoFar}
use Rattle.ksv_schema.proofs.members.description.all_members.Given as goal

abbrev pub invariant-loop-within : goal.invariant-loop-within
invariant-loop-within l =
    let read = members (declared l.scopes) in
    IsSoFar (each_from read 0 (map (λ v. map row v.items) l.types)) (each_from read l.within (map (λ v. map row v.items) (drop l.within l.types)))
    (option_map (λ v. map (λ w. map plain_kind w.items) v.items) l.made) l.fn.reader l.reader
