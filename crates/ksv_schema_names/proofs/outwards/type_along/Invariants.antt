use Rattle.ksv_schema_names.proofs.Common.{◌≡◌, ◌<◌, drop, length, map, row_of}
use Rattle.std.specs.Prelude.{string_bytes}
use Rattle.ksv_schema_names.specs.Types.{type_along}
use Rattle.ksv_schema_names.proofs.outwards.type_along.Given as goal

abbrev pub invariant-loop-name : goal.invariant-loop-name
invariant-loop-name l = record {
  same : type_along (map row_of l.types) l.at (map string_bytes (drop l.name-index l.path)) ≡ type_along (map row_of l.types) l.n (map string_bytes l.path);
  inside : l.at < length l.types;
}
