use Rattle.ksv_schema.proofs.Common.{drop, map, option_map, plain_kind, declared, each_from, member}
use Rattle.ksv_schema_names.specs.View.{member_of as row}
use Rattle.ksv_schema.proofs.Each.{IsSoFar}
use Rattle.ksv_schema.proofs.members.description.each_member.Given as goal

abbrev pub invariant-loop-number : goal.invariant-loop-number
invariant-loop-number l =
    let read = member (declared l.scopes) l.within in
    IsSoFar (each_from read 0 (map row l.members)) (each_from read l.number (map row (drop l.number l.members)))
    (option_map (λ v. map plain_kind v.items) l.made) l.fn.reader l.reader
