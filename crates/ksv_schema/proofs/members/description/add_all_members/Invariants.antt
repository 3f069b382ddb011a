use Rattle.ksv_schema.proofs.Common.{◌≡◌, map, drop, flat_map, list_all, distinct_behind, are_texts}
use Rattle.ksv_schema_names.specs.View.{member_of as row}
use Rattle.ksv_schema.specs.Description.{names_in}
use Rattle.ksv_schema.proofs.members.description.add_all_members.Given as goal

abbrev pub invariant-loop-members : goal.invariant-loop-members
invariant-loop-members l = record {
  added : distinct_behind l.names (flat_map names_in (map (λ v. map row v.items) (drop l.members-index l.types)))
      ≡ distinct_behind l.fn.names (flat_map names_in (map (λ v. map row v.items) l.types));
  texts : list_all are_texts (map (λ v. map row v.items) l.types) ≡ list_all are_texts (map (λ v. map row v.items) (drop l.members-index l.types));
}
