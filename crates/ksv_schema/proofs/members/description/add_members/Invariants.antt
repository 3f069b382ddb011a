use Rattle.ksv_schema.proofs.Common.{◌≡◌, map, drop, distinct_behind, are_texts}
use Rattle.ksv_schema_names.specs.View.{member_of as row}
use Rattle.ksv_schema.proofs.Named.{names_in}
use Rattle.ksv_schema.proofs.members.description.add_members.Given as goal

abbrev pub invariant-loop-member : goal.invariant-loop-member
invariant-loop-member l = record {
  added : distinct_behind l.names (names_in (drop l.member-index l.members)) ≡ distinct_behind l.fn.names (names_in l.members);
  texts : are_texts (map row l.members) ≡ are_texts (map row (drop l.member-index l.members));
}
