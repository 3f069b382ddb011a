-- Each step of the loops is one of `FlowLoops`.
use Rattle.ksv_yaml.proofs.Common.{◌-◌, map, None, refl, sym, ap, arith, view, pair, items_of, entries_of, keys_of, got, tokens_view}
use Rattle.std.proofs.lemmas.Result.{err_from_is_err_and}
use Rattle.ksv_yaml.specs.Code.{FlowIs, FlowItemsIs, FlowEntriesIs}
use Rattle.ksv_yaml.proofs.Answering.{fails_on, front_part, key_tells, keys_none, keys_hold, pushed_item, pushed_entry}
use Rattle.ksv_yaml.proofs.FlowLoops.{node_items, node_entries, items_start, items_close, items_fail, items_end, items_stop, items_on, entries_start}
use Rattle.ksv_yaml.proofs.FlowLoops.{entries_close, entries_no_key, entries_twice, entries_fail, entries_end, entries_stop, entries_on}
use Rattle.ksv_yaml.proofs.flow.+flow.Goals as goal

pub flow_entries-entries-init : goal.flow_entries-entries-init
flow_entries-entries-init t c =
    record {
      is = entries_start (map pair c.new-entries.result.items) (ap (map pair) c.new-entries.ensures.items);
      keys = keys_none c.no_keys-keys.result
          c.new-entries.result.items c.new-entries.ensures.items c.no_keys-keys.ensures;
      within = omega arith;
    }

pub flow_entries-returns-in-Some-clause-read : goal.flow_entries-returns-in-Some-clause-read
flow_entries-returns-in-Some-clause-read t c = entries_close c.entries.invariant.is (sym c.in-Some.ensures.value)

pub flow_entries-returns-in_default-key_at-clause-read : goal.flow_entries-returns-in_default-key_at-clause-read
flow_entries-returns-in_default-key_at-clause-read t c w = entries_no_key c.entries.invariant.is (sym c.in_default.ensures.value)
    (sym c.in_default-key_at.ensures.value)

pub flow_entries-returns-then-not-fresh-clause-read : goal.flow_entries-returns-then-not-fresh-clause-read
flow_entries-returns-then-not-fresh-clause-read t c w = entries_twice c.entries.invariant.is (sym c.in-Some-key_at.ensures.value)
    (key_tells c.in-Some-key_at.key.now c.entries.entries.items c.in_ok-fresh.fresh _
    (c.in_ok-fresh.ensures.fresh (keys_of (map pair c.entries.entries.items)) c.entries.invariant.keys) c.if-not-fresh.true)

pub flow_entries-returns-in_err-value-clause-read : goal.flow_entries-returns-in_err-value-clause-read
flow_entries-returns-in_err-value-clause-read t c =
    let p = err_from_is_err_and c.from_residual-in_err-value.result c.from_residual-in_err-value.ensures.1 in
    rw (p.1, p.2) (fails_on (FlowIs c.args.depth (tokens_view c.in-Some-key_at.rest.now)) (FlowEntriesIs c.args.depth (tokens_view c.args.tokens.now))
    c.in_err-value.field-0.0 (entries_fail c.entries.invariant.is (sym c.in-Some-key_at.ensures.value)
    (key_tells c.in-Some-key_at.key.now c.entries.entries.items c.in_ok-fresh.fresh _
    (c.in_ok-fresh.ensures.fresh (keys_of (map pair c.entries.entries.items)) c.entries.invariant.keys) c.if-not-fresh.false))
    c.in_err-value.ensures.read)

pub flow_entries-returns-in-Some-behind_close_map-clause-read : goal.flow_entries-returns-in-Some-behind_close_map-clause-read
flow_entries-returns-in-Some-behind_close_map-clause-read t c =
    let all = pushed_entry c.push.new.self.items c.entries.entries.items c.make_entry.result c.in-Some-key_at.line c.in_ok-key.key.items
    c.in-Some-key_at.key.now (view c.in_ok-value.value) c.in_ok-push.ensures.items c.make_entry.ensures c.in_ok-key.ensures.items in
    entries_end c.entries.invariant.is (sym c.in-Some-key_at.ensures.value)
    (key_tells c.in-Some-key_at.key.now c.entries.entries.items c.in_ok-fresh.fresh _
    (c.in_ok-fresh.ensures.fresh (keys_of (map pair c.entries.entries.items)) c.entries.invariant.keys) c.if-not-fresh.false)
    c.in_ok-value.ensures.read all (sym c.in-Some-behind_close_map.ensures.value)

pub flow_entries-returns-in_default-behind_comma-clause-read : goal.flow_entries-returns-in_default-behind_comma-clause-read
flow_entries-returns-in_default-behind_comma-clause-read t c w =
    entries_stop c.entries.invariant.is (sym c.in-Some-key_at.ensures.value)
    (key_tells c.in-Some-key_at.key.now c.entries.entries.items c.in_ok-fresh.fresh _
    (c.in_ok-fresh.ensures.fresh (keys_of (map pair c.entries.entries.items)) c.entries.invariant.keys) c.if-not-fresh.false)
    c.in_ok-value.ensures.read (sym c.in_default-behind_close_map.ensures.value) (sym c.in_default-behind_comma.ensures.value)

pub flow_entries-entries-preserved : goal.flow_entries-entries-preserved
flow_entries-entries-preserved t c =
    let all = pushed_entry c.push.new.self.items c.entries.entries.items c.make_entry.result c.in-Some-key_at.line c.in_ok-key.key.items
    c.in-Some-key_at.key.now (view c.in_ok-value.value) c.in_ok-push.ensures.items c.make_entry.ensures c.in_ok-key.ensures.items in
    record {
      is = entries_on c.entries.invariant.is (sym c.in-Some-key_at.ensures.value)
          (key_tells c.in-Some-key_at.key.now c.entries.entries.items c.in_ok-fresh.fresh _
          (c.in_ok-fresh.ensures.fresh (keys_of (map pair c.entries.entries.items)) c.entries.invariant.keys) c.if-not-fresh.false)
          c.in_ok-value.ensures.read all (sym c.in-Some-behind_comma.ensures.value) c.in_ok-value.ensures.shorter c.in-Some-behind_comma.ensures.shorter;
      keys = keys_hold c.add_key.new.keys (map pair c.entries.entries.items) (map pair c.push.new.self.items)
          (record { line = c.in-Some-key_at.line; key = c.in-Some-key_at.key.now; value = view c.in_ok-value.value }) c.in-Some-key_at.key.now all refl
          (c.in_ok-fresh.ensures.holds (keys_of (map pair c.entries.entries.items)) c.entries.invariant.keys);
      within = omega (
        arith,
        c.in_ok-value.ensures.shorter,
        c.in-Some-behind_comma.ensures.shorter,
        c.in-Some-key_at.ensures.shorter,
        c.entries.invariant.within,
      );
    }

pub flow_items-items-init : goal.flow_items-items-init
flow_items-items-init t c = record { is = items_start (map view c.new-items.result.items) (ap (map view) c.new-items.ensures.items); within = omega arith }

pub flow_items-returns-in-Some-clause-read : goal.flow_items-returns-in-Some-clause-read
flow_items-returns-in-Some-clause-read t c = items_close c.items.invariant.is (sym c.in-Some.ensures.value)

pub flow_items-returns-in_err-item-clause-read : goal.flow_items-returns-in_err-item-clause-read
flow_items-returns-in_err-item-clause-read t c =
    let p = err_from_is_err_and c.from_residual.result c.from_residual.ensures.1 in
    rw (p.1, p.2) (fails_on (FlowIs c.args.depth (tokens_view c.items.at.now)) (FlowItemsIs c.args.depth (tokens_view c.args.tokens.now))
    c.in_err-item.field-0.0 (items_fail c.items.invariant.is (sym c.in_default.ensures.value)) c.in_err-item.ensures.read)

pub flow_items-returns-in-Some-behind_close-clause-read : goal.flow_items-returns-in-Some-behind_close-clause-read
flow_items-returns-in-Some-behind_close-clause-read t c =
    let all = pushed_item c.push.new.self.items c.items.items.items c.in_ok-item.item c.in_ok-push.ensures.items in
    items_end c.items.invariant.is (sym c.in_default.ensures.value) c.in_ok-item.ensures.read all (sym c.in-Some-behind_close.ensures.value)

pub flow_items-returns-in_default-behind_comma-clause-read : goal.flow_items-returns-in_default-behind_comma-clause-read
flow_items-returns-in_default-behind_comma-clause-read t c w =
    items_stop c.items.invariant.is (sym c.in_default.ensures.value) c.in_ok-item.ensures.read (sym c.in_default-behind_close.ensures.value)
    (sym c.in_default-behind_comma.ensures.value)

pub flow_items-items-preserved : goal.flow_items-items-preserved
flow_items-items-preserved t c =
    let all = pushed_item c.push.new.self.items c.items.items.items c.in_ok-item.item c.in_ok-push.ensures.items in
    record {
      is = items_on c.items.invariant.is (sym c.in_default.ensures.value) c.in_ok-item.ensures.read all (sym c.in-Some-behind_comma.ensures.value)
          c.in_ok-item.ensures.shorter c.in-Some-behind_comma.ensures.shorter;
      within = omega (arith, c.in_ok-item.ensures.shorter, c.in-Some-behind_comma.ensures.shorter, c.items.invariant.within);
    }

pub flow_node-returns-in_err-items-in-Open-clause-read : goal.flow_node-returns-in_err-items-in-Open-clause-read
flow_node-returns-in_err-items-in-Open-clause-read t c =
    let p = err_from_is_err_and c.from_residual-in_err-items-in-Open.result c.from_residual-in_err-items-in-Open.ensures.1 in
    let e = front_part c.args.tokens.now c.in-Some.token.now c.in-Some.rest.now _ c.in-Some.ensures c.in-Open.is in
    rw (p.1, p.2) (fails_on (FlowItemsIs (c.args.depth - 1) (tokens_view c.in-Some.rest.now)) (FlowIs c.args.depth (tokens_view c.args.tokens.now))
    c.in_err-items-in-Open.field-0.0
    (node_items c.in-Some.token.now.line (tokens_view c.in-Some.rest.now) None e c.if-depth-eq0.false) c.in_err-items-in-Open.ensures.read)

pub flow_node-returns-in_err-entries-in-OpenMap-clause-read : goal.flow_node-returns-in_err-entries-in-OpenMap-clause-read
flow_node-returns-in_err-entries-in-OpenMap-clause-read t c =
    let p = err_from_is_err_and c.from_residual-in_err-entries-in-OpenMap.result c.from_residual-in_err-entries-in-OpenMap.ensures.1 in
    let e = front_part c.args.tokens.now c.in-Some.token.now c.in-Some.rest.now _ c.in-Some.ensures c.in-OpenMap.is in
    rw (p.1, p.2) (fails_on (FlowEntriesIs (c.args.depth - 1) (tokens_view c.in-Some.rest.now)) (FlowIs c.args.depth (tokens_view c.args.tokens.now))
    c.in_err-entries-in-OpenMap.field-0.0
    (node_entries c.in-Some.token.now.line (tokens_view c.in-Some.rest.now) None e c.if-depth-eq0-2.false) c.in_err-entries-in-OpenMap.ensures.read)

pub flow_node-returns-in_ok-items-in-Open-clause-read : goal.flow_node-returns-in_ok-items-in-Open-clause-read
flow_node-returns-in_ok-items-in-Open-clause-read t c =
    let e = front_part c.args.tokens.now c.in-Some.token.now c.in-Some.rest.now _ c.in-Some.ensures c.in-Open.is in
    rw c.make_list.ensures
    (node_items c.in-Some.token.now.line (tokens_view c.in-Some.rest.now)
    (got (items_of (map view c.in_ok-items-in-Open.items.items)) (tokens_view c.in_ok-items-in-Open.behind.now)) e c.if-depth-eq0.false
    c.in_ok-items-in-Open.ensures.read)

pub flow_node-returns-in_ok-entries-in-OpenMap-clause-read : goal.flow_node-returns-in_ok-entries-in-OpenMap-clause-read
flow_node-returns-in_ok-entries-in-OpenMap-clause-read t c =
    let e = front_part c.args.tokens.now c.in-Some.token.now c.in-Some.rest.now _ c.in-Some.ensures c.in-OpenMap.is in
    rw c.make_mapping.ensures
    (node_entries c.in-Some.token.now.line (tokens_view c.in-Some.rest.now)
    (got (entries_of (map pair c.in_ok-entries-in-OpenMap.entries.items)) (tokens_view c.in_ok-entries-in-OpenMap.behind.now)) e
    c.if-depth-eq0-2.false c.in_ok-entries-in-OpenMap.ensures.read)
