use Rattle.ksv_schema_names.proofs.Common.{ℕ, Option, Some, false, cond, ◌&&◌, ap, sym, ◌∙◌, option_map_or, bytes_eq}
use Rattle.std.specs.Prelude.{◌==◌}
use Rattle.ksv_schema_names.specs.Placed.{place_at}
use Rattle.ksv_schema_names.proofs.rows.put_place.Goals as goal

pub returns-in_ok-insert-in-Some : goal.returns-in_ok-insert-in-Some
returns-in_ok-insert-in-Some c = record {
  found = λ n name.
      c.in_ok-insert-in-Some.ensures.updates.0 (n, record { ref_ptr = (0, 0); now = name })
      ∙ ap (λ (within : Option ℕ). cond (option_map_or (λ m. m == n) within false && bytes_eq c.args.row.now.id.now name) (Some c.args.place)
      (place_at c.args.places.now n name)) (sym c.in-Some.is);
}
