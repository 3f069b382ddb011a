use Rattle.ksv_schema.proofs.Common.{◌≡◌, [], ◌++◌, true, map, length, string_bytes, list_all, is_id, names_in}
use Rattle.ksv_schema.proofs.keys.ids.ids_of.Given as goal

abbrev pub invariant-names : goal.invariant-names
invariant-names l = record {
  so_far : map string_bytes l.names.items ++ names_in [] l.rest ≡ names_in [] l.text;
  ids : list_all is_id (map string_bytes l.names.items) ≡ true;
}

abbrev pub decreases-names : goal.decreases-names
decreases-names l = length l.rest
