use Rattle.ksv_schema_names.proofs.Common.{◌∙◌, ◌<◌, ap, sym, arith, List, [], ◌∷◌, ◌++◌, map, pair, row_of, Row}
use Rattle.std.specs.Prelude.{codes}
use Rattle.std.proofs.lemmas.List.{length-map, map-append}
use Rattle.ksv_yaml_tree.specs.Tree.{Pair}
use Rattle.ksv_yaml_tree.specs.View.{view}
use Rattle.ksv_yaml_tree.specs.Keys.{entries_at}
use Rattle.ksv_schema_names.proofs.Weight.{weight, all_named, smaller_named, more_named, lighter, one_lighter}
use Rattle.ksv_schema_names.proofs.rows.+types.Goals as goal

pub loop-name-init : goal.loop-name-init
loop-name-init t c =
    let named = c.entries_at-name-items.ensures ∙ ap (λ (ps : List Pair). entries_at (codes "types") ps) c.entries_in.ensures in
    record { all = all_named c.args.n (view c.args.value.now) _ _ named; smaller = smaller_named (view c.args.value.now) _ named }

pub loop-name-preserved : goal.loop-name-preserved
loop-name-preserved t c = record {
  all = more_named pair c.entries_at-name-items.result.now _ _ c.loop-name-test.true c.name-item.is c.args.n _ _ (map row_of c.loop-name.rows.items) _ _ _
      (c.len-number.ensures ∙ c.loop-name.rows.ok.0 ∙ sym (length-map c.loop-name.rows.items row_of)) c.value.ensures
      (ap (map row_of) c.in_ok-push.ensures.items ∙ map-append row_of c.loop-name.rows.items (c.named_row.result ∷ [])
      ∙ ap (λ (r : Row). map row_of c.loop-name.rows.items ++ r ∷ []) c.named_row.ensures)
      c.in_ok-add_types.ensures c.loop-name.invariant.all;
  smaller = lighter pair c.entries_at-name-items.result.now _ _ c.loop-name-test.true c.name-item.is _ c.loop-name.invariant.smaller;
}

pub add_types-requires : goal.add_types-requires
add_types-requires t c =
    let less : weight (view c.value.result.now) < weight (view c.args.value.now) =
    one_lighter pair c.entries_at-name-items.result.now _ _ c.loop-name-test.true c.name-item.is _ _ c.value.ensures c.loop-name.invariant.smaller in
    (omega arith, tt)
