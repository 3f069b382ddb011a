-- Each step of the reader is one of `BlockLoops`.
use Rattle.ksv_yaml.proofs.Common.{◌≡◌, ◌+◌, ◌-◌, ℕ, List, map, Option, None, false, refl, sym, ap, ◌∙◌, arith, Tree, Text, view, pair, items_of}
use Rattle.ksv_yaml.proofs.Common.{entries_of, at_column, inlined, value_here, weight, keys_of, Got, got, Line, start_of, line_view, lines_view}
use Rattle.std.proofs.lemmas.Result.{err_from_is_err_and}
use Rattle.ksv_yaml.specs.Code.{NodeIs, EntriesIs, ValueIs, ItemsIs, ItemIs}
use Rattle.ksv_yaml.proofs.Answering.{fails_on, gives_on, own_key_tells, keys_none, keys_hold, pushed_item, pushed_entry, empty_nil, not_empty}
use Rattle.ksv_yaml.proofs.BlockLoops.{EndsBefore, before_first, before_end, inline_lighter, node_items, node_items_end, node_items_stay, node_items_limit}
use Rattle.ksv_yaml.proofs.BlockLoops.{node_entries, node_entries_limit, node_inline, node_nothing, node_refused, value_on_line, value_deep, value_end}
use Rattle.ksv_yaml.proofs.BlockLoops.{value_above, value_beside, value_level, value_limit, item_on_line, item_behind_tab, item_deep, item_end, item_beside}
use Rattle.ksv_yaml.proofs.BlockLoops.{entries_start, entries_no_key, entries_twice, entries_fail, entries_end, entries_deeper, entries_on, items_start}
use Rattle.ksv_yaml.proofs.BlockLoops.{items_no_dash, items_fail, items_end, items_beside, items_deeper, items_on}
use Rattle.ksv_yaml_scan.specs.Views.{kind_view, start_view}
use Rattle.ksv_yaml.proofs.reader.+reader.Goals as goal
use Rattle.ksv_yaml.proofs.reader.+reader.Goals.{node-in-Some+else-line-first, node-in_default}

pub item-returns-in_default-clause-read : goal.item-returns-in_default-clause-read
item-returns-in_default-clause-read t c =
    let text = c.make_text.ensures ∙ ap (λ (cs : List ℕ). Text c.args.line.number false cs) c.new.ensures.items in
    rw text (item_end (empty_nil _ _ c.if-is_empty.true c.is_empty.ensures) c.skip-below.ensures.value
    (ap lines_view c.in_default.ensures))

pub item-returns-then-first-line-clause-read : goal.item-returns-then-first-line-clause-read
item-returns-then-first-line-clause-read t c =
    gives_on (NodeIs c.args.depth (c.args.line.indent + 1) (line_view c.in-Some.first) (lines_view c.in-Some.others.now))
    (ItemIs c.args.depth (line_view c.args.line) c.args.columns c.args.tab c.args.behind.now (lines_view c.args.rest.now)) view lines_view c.node.result
    (λ o h. item_deep (empty_nil _ _ c.if-is_empty.true c.is_empty.ensures) c.skip-below.ensures.value (ap lines_view c.in-Some.ensures) o
    c.if-first-line.true h) c.node.ensures.read

pub item-returns-then-is_empty-clause-read : goal.item-returns-then-is_empty-clause-read
item-returns-then-is_empty-clause-read t c =
    let text = c.make_text-then-is_empty.ensures ∙ ap (λ (cs : List ℕ). Text c.args.line.number false cs) c.new-then-is_empty.ensures.items in
    rw text (item_beside (empty_nil _ _ c.if-is_empty.true c.is_empty.ensures) c.skip-below.ensures.value (ap lines_view c.in-Some.ensures)
    c.if-first-line.false)

pub item-returns-then-tab-clause-read : goal.item-returns-then-tab-clause-read
item-returns-then-tab-clause-read t c =
    gives_on (λ (o : Option (Got Line Tree)). value_here (start_of c.args.behind.now) c.args.depth (line_view c.args.line) c.args.behind.now
    (lines_view c.args.rest.now) ≡ o) (ItemIs c.args.depth (line_view c.args.line) c.args.columns c.args.tab c.args.behind.now (lines_view c.args.rest.now))
    view lines_view c.value_here.result (λ o h. item_behind_tab o (not_empty _ _ c.if-is_empty.false c.is_empty.ensures) c.if-tab.true h)
    c.value_here.ensures.read

pub item-returns-clause-read : goal.item-returns-clause-read
item-returns-clause-read t c =
    gives_on (NodeIs c.args.depth (c.args.line.indent + 1) (at_column (line_view c.args.line) c.args.columns c.args.behind.now) (lines_view c.args.rest.now))
    (ItemIs c.args.depth (line_view c.args.line) c.args.columns c.args.tab c.args.behind.now (lines_view c.args.rest.now)) view lines_view c.node-2.result
    (λ o h. item_on_line o (not_empty _ _ c.if-is_empty.false c.is_empty.ensures) c.if-tab.false h) c.node-2.ensures.read

pub mapping-entries-init : goal.mapping-entries-init
mapping-entries-init t c =
    record {
      is = entries_start (map pair c.new-entries.result.items) (ap (map pair) c.new-entries.ensures.items);
      keys = keys_none c.no_keys-keys.result
          c.new-entries.result.items c.new-entries.ensures.items c.no_keys-keys.ensures;
      level = refl;
      shorter = omega arith;
      within = omega arith;
    }

pub mapping-returns-in_err-key-clause-read : goal.mapping-returns-in_err-key-clause-read
mapping-returns-in_err-key-clause-read t c =
    let p = err_from_is_err_and c.from_residual.result c.from_residual.ensures.1 in
    rw (p.1, p.2) (λ w. entries_no_key c.entries.invariant.is (c.in_err-key.ensures.err w))

pub mapping-returns-then-not-fresh-clause-read : goal.mapping-returns-then-not-fresh-clause-read
mapping-returns-then-not-fresh-clause-read t c w =
    entries_twice c.entries.invariant.is c.in_ok-key.ensures.ok (own_key_tells _ _ _ _ _ (c.in_ok-fresh.ensures.fresh _ c.entries.invariant.keys)
    c.deref.ensures.value c.if-not-fresh.true)

pub mapping-returns-in_err-value-clause-read : goal.mapping-returns-in_err-value-clause-read
mapping-returns-in_err-value-clause-read t c =
    let p = err_from_is_err_and c.from_residual-in_err-value.result c.from_residual-in_err-value.ensures.1 in
    rw (p.1, p.2) (fails_on (ValueIs c.args.depth (line_view c.entries.at.line) c.in_ok-key.behind.now (lines_view c.entries.at.rest.now))
    (EntriesIs c.args.depth c.args.first.indent (line_view c.args.first) (lines_view c.args.rest.now)) c.in_err-value.field-0.0 (entries_fail
    c.entries.invariant.is c.in_ok-key.ensures.ok (own_key_tells _ _ _ _ _ (c.in_ok-fresh.ensures.fresh _ c.entries.invariant.keys) c.deref.ensures.value
    c.if-not-fresh.false)) c.in_err-value.ensures.read)

pub mapping-returns-in_default-clause-read : goal.mapping-returns-in_default-clause-read
mapping-returns-in_default-clause-read t c =
    let all = pushed_entry c.push.new.self.items c.entries.entries.items c.make_entry.result c.entries.at.line.number c.in_ok-key.key.items
    c.in_ok-key.key.items (view c.in_ok-value.value) c.in_ok-push.ensures.items c.make_entry.ensures refl in
    entries_end c.entries.invariant.is c.in_ok-key.ensures.ok (own_key_tells _ _ _ _ _ (c.in_ok-fresh.ensures.fresh _ c.entries.invariant.keys)
    c.deref.ensures.value c.if-not-fresh.false) c.in_ok-value.ensures.read all (before_end _ _ (ap lines_view c.in_default.ensures))

pub mapping-returns-then-next-first-clause-read : goal.mapping-returns-then-next-first-clause-read
mapping-returns-then-next-first-clause-read t c =
    let all = pushed_entry c.push.new.self.items c.entries.entries.items c.make_entry.result c.entries.at.line.number c.in_ok-key.key.items
    c.in_ok-key.key.items (view c.in_ok-value.value) c.in_ok-push.ensures.items c.make_entry.ensures refl in
    entries_end c.entries.invariant.is c.in_ok-key.ensures.ok (own_key_tells _ _ _ _ _ (c.in_ok-fresh.ensures.fresh _ c.entries.invariant.keys)
    c.deref.ensures.value c.if-not-fresh.false) c.in_ok-value.ensures.read all (before_first _ _ _ _ (ap lines_view c.in-Some.ensures) c.if-next-first.true)

pub mapping-returns-then-next-first-2-clause-read : goal.mapping-returns-then-next-first-2-clause-read
mapping-returns-then-next-first-2-clause-read t c w =
    entries_deeper c.entries.invariant.is c.in_ok-key.ensures.ok (own_key_tells _ _ _ _ _ (c.in_ok-fresh.ensures.fresh _ c.entries.invariant.keys)
    c.deref.ensures.value c.if-not-fresh.false) c.in_ok-value.ensures.read (ap lines_view c.in-Some.ensures) c.if-next-first-2.true

pub mapping-entries-preserved : goal.mapping-entries-preserved
mapping-entries-preserved t c =
    let all = pushed_entry c.push.new.self.items c.entries.entries.items c.make_entry.result c.entries.at.line.number c.in_ok-key.key.items
    c.in_ok-key.key.items (view c.in_ok-value.value) c.in_ok-push.ensures.items c.make_entry.ensures refl in
    let level : c.in-Some.next.indent ≡ c.args.first.indent = omega (arith, c.if-next-first.false, c.if-next-first-2.false) in
    let lighter = ap (λ ls. weight (lines_view ls)) c.in-Some.ensures in
    record {
      is = entries_on c.entries.invariant.is c.in_ok-key.ensures.ok (own_key_tells _ _ _ _ _ (c.in_ok-fresh.ensures.fresh _ c.entries.invariant.keys)
          c.deref.ensures.value c.if-not-fresh.false)
          c.in_ok-value.ensures.read (ap lines_view c.in-Some.ensures) all level c.in_ok-value.ensures.shorter;
      keys = keys_hold c.add_key.new.keys (map pair c.entries.entries.items) (map pair c.push.new.self.items)
          (record { line = c.entries.at.line.number; key = c.in_ok-key.key.items; value = view c.in_ok-value.value }) c.deref.result.now all
          c.deref.ensures.value (c.in_ok-fresh.ensures.holds (keys_of (map pair c.entries.entries.items)) c.entries.invariant.keys);
      level = level;
      shorter = omega (arith, c.in_ok-value.ensures.shorter, c.entries.invariant.shorter, lighter);
      within = omega (arith, c.in_ok-value.ensures.shorter, c.entries.invariant.within, lighter);
    }

pub node-returns-in_err-start_at-clause-read : goal.node-returns-in_err-start_at-clause-read
node-returns-in_err-start_at-clause-read t c =
    let p = err_from_is_err_and c.from_residual.result c.from_residual.ensures.1 in
    rw (p.1, p.2) (λ w. node_refused (c.in_err-start_at.ensures.err w))

pub node-returns-then-depth-eq0-clause-read : goal.node-returns-then-depth-eq0-clause-read
node-returns-then-depth-eq0-clause-read t c w = node_items_limit _ (c.in_ok-start_at.ensures.ok ∙ ap start_view c.in-Dash.is) c.if-depth-eq0.true

pub node-returns-in_err-items-in-Dash-clause-read : goal.node-returns-in_err-items-in-Dash-clause-read
node-returns-in_err-items-in-Dash-clause-read t c =
    let p = err_from_is_err_and c.from_residual-in_err-items-in-Dash.result c.from_residual-in_err-items-in-Dash.ensures.1 in
    rw (p.1, p.2) (fails_on (ItemsIs (c.args.depth - 1) c.args.first.indent (line_view c.args.first) (lines_view c.args.rest.now))
    (NodeIs c.args.depth c.args.floor (line_view c.args.first) (lines_view c.args.rest.now)) c.in_err-items-in-Dash.field-0.0
    (node_items _ None (c.in_ok-start_at.ensures.ok ∙ ap start_view c.in-Dash.is) c.if-depth-eq0.false) c.in_err-items-in-Dash.ensures.read)

pub node-returns-then-line-first-clause-read : goal.node-returns-then-line-first-clause-read
node-returns-then-line-first-clause-read t c w =
    node_items_stay _ _ _ _ _ (c.in_ok-start_at.ensures.ok ∙ ap start_view c.in-Dash.is) c.if-depth-eq0.false (ap lines_view c.in-Some.ensures)
    c.if-line-first.true c.in_ok-items-in-Dash.ensures.read

pub node-returns-in-Dash-clause-read : goal.node-returns-in-Dash-clause-read
node-returns-in-Dash-clause-read t c =
    let before : EndsBefore c.args.first.indent (lines_view c.in_ok-items-in-Dash.left.now) = (elim c.match-next.branch [
      | node-in-Some+else-line-first w ↦ before_first c.args.first.indent (lines_view c.in_ok-items-in-Dash.left.now) (line_view w.in-Some.line)
          (lines_view w.in-Some.field-0-1.now) (ap lines_view w.in-Some.ensures) w.if-line-first.false
      | node-in_default w ↦ before_end c.args.first.indent (lines_view c.in_ok-items-in-Dash.left.now) (ap lines_view w.in_default.ensures)
    ]) in
    rw c.make_list.ensures
    (node_items_end _ (items_of (map view c.in_ok-items-in-Dash.items.items)) (lines_view c.in_ok-items-in-Dash.left.now)
    (c.in_ok-start_at.ensures.ok ∙ ap start_view c.in-Dash.is) c.if-depth-eq0.false before c.in_ok-items-in-Dash.ensures.read)

pub node-returns-then-depth-eq0-2-clause-read : goal.node-returns-then-depth-eq0-2-clause-read
node-returns-then-depth-eq0-2-clause-read t c w = node_entries_limit _ _ (c.in_ok-start_at.ensures.ok ∙ ap start_view c.in-Key.is) c.if-depth-eq0-2.true

pub node-returns-in_err-entries-in-Key-clause-read : goal.node-returns-in_err-entries-in-Key-clause-read
node-returns-in_err-entries-in-Key-clause-read t c =
    let p = err_from_is_err_and c.from_residual-in_err-entries-in-Key.result c.from_residual-in_err-entries-in-Key.ensures.1 in
    rw (p.1, p.2) (fails_on (EntriesIs (c.args.depth - 1) c.args.first.indent (line_view c.args.first) (lines_view c.args.rest.now))
    (NodeIs c.args.depth c.args.floor (line_view c.args.first) (lines_view c.args.rest.now)) c.in_err-entries-in-Key.field-0.0
    (node_entries _ _ None (c.in_ok-start_at.ensures.ok ∙ ap start_view c.in-Key.is) c.if-depth-eq0-2.false) c.in_err-entries-in-Key.ensures.read)

pub node-returns-in-Key-clause-read : goal.node-returns-in-Key-clause-read
node-returns-in-Key-clause-read t c = rw c.make_mapping.ensures
    (node_entries _ _ (got (entries_of (map pair c.in_ok-entries-in-Key.entries.items)) (lines_view c.in_ok-entries-in-Key.left.now))
    (c.in_ok-start_at.ensures.ok ∙ ap start_view c.in-Key.is) c.if-depth-eq0-2.false c.in_ok-entries-in-Key.ensures.read)

pub node-returns-in-Inline-clause-read : goal.node-returns-in-Inline-clause-read
node-returns-in-Inline-clause-read t c =
    gives_on (λ (o : Option (Got Line Tree)). inlined c.args.depth c.args.floor (kind_view c.in-Inline.kind) (line_view c.args.first)
    (lines_view c.args.rest.now) ≡ o) (NodeIs c.args.depth c.args.floor (line_view c.args.first) (lines_view c.args.rest.now)) view lines_view
    c.scalar.result
    (λ o h. node_inline (kind_view c.in-Inline.kind) o (c.in_ok-start_at.ensures.ok ∙ ap start_view c.in-Inline.is) h) c.scalar.ensures.read

pub node-returns-in-Inline-clause-shorter : goal.node-returns-in-Inline-clause-shorter
node-returns-in-Inline-clause-shorter t c = inline_lighter c.args.depth c.args.floor (kind_view c.in-Inline.kind) (line_view c.args.first)
    (lines_view c.args.rest.now) c.scalar.result c.scalar.ensures.read

pub node-returns-clause-read : goal.node-returns-clause-read
node-returns-clause-read t c w = node_nothing (c.in_ok-start_at.ensures.ok ∙ ap start_view c.in-Nothing.is)

pub sequence-items-init : goal.sequence-items-init
sequence-items-init t c =
    record {
      is = items_start (map view c.new-items.result.items) (ap (map view) c.new-items.ensures.items);
      level = refl;
      shorter = omega arith;
      within =
          omega arith;
    }

pub sequence-returns-in_err-columns-clause-read : goal.sequence-returns-in_err-columns-clause-read
sequence-returns-in_err-columns-clause-read t c =
    let p = err_from_is_err_and c.from_residual.result c.from_residual.ensures.1 in
    rw (p.1, p.2) (λ w. items_no_dash c.items.invariant.is (c.in_err-columns.ensures.err w))

pub sequence-returns-in_err-value-clause-read : goal.sequence-returns-in_err-value-clause-read
sequence-returns-in_err-value-clause-read t c =
    let p = err_from_is_err_and c.from_residual-in_err-value.result c.from_residual-in_err-value.ensures.1 in
    rw (p.1, p.2) (fails_on (ItemIs c.args.depth (line_view c.items.at.line) c.in_ok-columns.columns c.in_ok-columns.tab c.in_ok-columns.behind.now
    (lines_view c.items.at.rest.now)) (ItemsIs c.args.depth c.args.first.indent (line_view c.args.first) (lines_view c.args.rest.now)) c.in_err-value.field-0.0
    (items_fail c.items.invariant.is c.in_ok-columns.ensures.ok (omega (arith, c.in_ok-columns.ensures.within))) c.in_err-value.ensures.read)

pub sequence-returns-in_default-clause-read : goal.sequence-returns-in_default-clause-read
sequence-returns-in_default-clause-read t c = let all = pushed_item c.push.new.self.items c.items.items.items c.in_ok-value.value c.in_ok-push.ensures.items in
    items_end c.items.invariant.is c.in_ok-columns.ensures.ok (omega (arith, c.in_ok-columns.ensures.within)) c.in_ok-value.ensures.read all (before_end _ _
    (ap lines_view c.in_default.ensures))

pub sequence-returns-then-next-first-clause-read : goal.sequence-returns-then-next-first-clause-read
sequence-returns-then-next-first-clause-read t c =
    let all = pushed_item c.push.new.self.items c.items.items.items c.in_ok-value.value c.in_ok-push.ensures.items in
    items_end c.items.invariant.is c.in_ok-columns.ensures.ok (omega (arith, c.in_ok-columns.ensures.within)) c.in_ok-value.ensures.read all (before_first _
    _ _ _ (ap lines_view c.in-Some.ensures) c.if-next-first.true)

pub sequence-returns-then-next-first-2-clause-read : goal.sequence-returns-then-next-first-2-clause-read
sequence-returns-then-next-first-2-clause-read t c w =
    items_deeper c.items.invariant.is c.in_ok-columns.ensures.ok (omega (arith, c.in_ok-columns.ensures.within)) c.in_ok-value.ensures.read (ap lines_view
    c.in-Some.ensures) c.if-next-first-2.true

pub sequence-returns-then-not-is_dash-clause-read : goal.sequence-returns-then-not-is_dash-clause-read
sequence-returns-then-not-is_dash-clause-read t c =
    let all = pushed_item c.push.new.self.items c.items.items.items c.in_ok-value.value c.in_ok-push.ensures.items in
    let level : c.in-Some.next.indent ≡ c.args.first.indent = omega (arith, c.if-next-first.false, c.if-next-first-2.false) in
    items_beside c.items.invariant.is c.in_ok-columns.ensures.ok (omega (arith, c.in_ok-columns.ensures.within)) c.in_ok-value.ensures.read (ap lines_view
    c.in-Some.ensures) all level (sym c.is_dash.ensures ∙ c.if-not-is_dash.true)

pub sequence-items-preserved : goal.sequence-items-preserved
sequence-items-preserved t c =
    let all = pushed_item c.push.new.self.items c.items.items.items c.in_ok-value.value c.in_ok-push.ensures.items in
    let level : c.in-Some.next.indent ≡ c.args.first.indent = omega (arith, c.if-next-first.false, c.if-next-first-2.false) in
    let lighter = ap (λ ls. weight (lines_view ls)) c.in-Some.ensures in
    record {
      is = items_on c.items.invariant.is c.in_ok-columns.ensures.ok (omega (arith, c.in_ok-columns.ensures.within)) c.in_ok-value.ensures.read (ap
          lines_view c.in-Some.ensures) all level
          (sym c.is_dash.ensures ∙ c.if-not-is_dash.false) c.in_ok-value.ensures.shorter;
      level = level;
      shorter = omega (arith, c.in_ok-value.ensures.shorter, c.items.invariant.shorter, lighter);
      within = omega (arith, c.in_ok-value.ensures.shorter, c.items.invariant.within, lighter);
    }

pub value-returns-then-not-is_empty-clause-read : goal.value-returns-then-not-is_empty-clause-read
value-returns-then-not-is_empty-clause-read t c =
    gives_on (λ (o : Option (Got Line Tree)). value_here (start_of c.args.behind.now) c.args.depth (line_view c.args.line) c.args.behind.now
    (lines_view c.args.rest.now) ≡ o) (ValueIs c.args.depth (line_view c.args.line) c.args.behind.now (lines_view c.args.rest.now)) view lines_view
    c.value_here.result (λ o h. value_on_line o (not_empty _ _ c.if-not-is_empty.true c.is_empty.ensures) h) c.value_here.ensures.read

pub value-returns-in_default-clause-read : goal.value-returns-in_default-clause-read
value-returns-in_default-clause-read t c =
    let text = c.make_text.ensures ∙ ap (λ (cs : List ℕ). Text c.args.line.number false cs) c.new.ensures.items in
    rw text (value_end (empty_nil _ _ c.if-not-is_empty.false c.is_empty.ensures) c.skip-below.ensures.value
    (ap lines_view c.in_default.ensures))

pub value-returns-then-first-line-clause-read : goal.value-returns-then-first-line-clause-read
value-returns-then-first-line-clause-read t c =
    gives_on (NodeIs c.args.depth (c.args.line.indent + 1) (line_view c.in-Some.first) (lines_view c.in-Some.others.now))
    (ValueIs c.args.depth (line_view c.args.line) c.args.behind.now (lines_view c.args.rest.now)) view lines_view c.node.result (λ o h. value_deep
    (empty_nil _ _ c.if-not-is_empty.false c.is_empty.ensures) c.skip-below.ensures.value (ap lines_view c.in-Some.ensures) o c.if-first-line.true h)
    c.node.ensures.read

pub value-returns-then-first-line-2-clause-read : goal.value-returns-then-first-line-2-clause-read
value-returns-then-first-line-2-clause-read t c =
    let text = c.make_text-then-first-line-2.ensures ∙ ap (λ (cs : List ℕ). Text c.args.line.number false cs) c.new-then-first-line-2.ensures.items in
    rw text (value_above (empty_nil _ _ c.if-not-is_empty.false c.is_empty.ensures) c.skip-below.ensures.value (ap lines_view c.in-Some.ensures)
    c.if-first-line-2.true)

pub value-returns-then-not-is_dash-clause-read : goal.value-returns-then-not-is_dash-clause-read
value-returns-then-not-is_dash-clause-read t c =
    let text = c.make_text-then-not-is_dash.ensures ∙ ap (λ (cs : List ℕ). Text c.args.line.number false cs) c.new-then-not-is_dash.ensures.items in
    rw text (value_beside (empty_nil _ _ c.if-not-is_empty.false c.is_empty.ensures) c.skip-below.ensures.value (ap lines_view c.in-Some.ensures)
    c.if-first-line.false (sym c.is_dash.ensures ∙ c.if-not-is_dash.true))

pub value-returns-then-depth-eq0-clause-read : goal.value-returns-then-depth-eq0-clause-read
value-returns-then-depth-eq0-clause-read t c w =
    let level : c.in-Some.first.indent ≡ c.args.line.indent = omega (arith, c.if-first-line.false, c.if-first-line-2.false) in
    value_limit (empty_nil _ _ c.if-not-is_empty.false c.is_empty.ensures) c.skip-below.ensures.value (ap lines_view c.in-Some.ensures) level
    (sym c.is_dash.ensures ∙ c.if-not-is_dash.false) c.if-depth-eq0.true

pub value-returns-in_err-items-clause-read : goal.value-returns-in_err-items-clause-read
value-returns-in_err-items-clause-read t c =
    let p = err_from_is_err_and c.from_residual.result c.from_residual.ensures.1 in
    let level : c.in-Some.first.indent ≡ c.args.line.indent = omega (arith, c.if-first-line.false, c.if-first-line-2.false) in
    rw (p.1, p.2) (fails_on (ItemsIs (c.args.depth - 1) c.in-Some.first.indent (line_view c.in-Some.first) (lines_view c.in-Some.others.now))
    (ValueIs c.args.depth (line_view c.args.line) c.args.behind.now (lines_view c.args.rest.now)) c.in_err-items.field-0.0
    (value_level (empty_nil _ _ c.if-not-is_empty.false c.is_empty.ensures) c.skip-below.ensures.value (ap lines_view c.in-Some.ensures) None level
    (sym c.is_dash.ensures ∙ c.if-not-is_dash.false) c.if-depth-eq0.false) c.in_err-items.ensures.read)

pub value-returns-clause-read : goal.value-returns-clause-read
value-returns-clause-read t c =
    let level : c.in-Some.first.indent ≡ c.args.line.indent = omega (arith, c.if-first-line.false, c.if-first-line-2.false) in
    rw c.make_list.ensures (value_level (empty_nil _ _ c.if-not-is_empty.false c.is_empty.ensures) c.skip-below.ensures.value (ap lines_view
    c.in-Some.ensures) (got (items_of (map view c.in_ok-items.items.items)) (lines_view c.in_ok-items.left.now)) level
    (sym c.is_dash.ensures ∙ c.if-not-is_dash.false) c.if-depth-eq0.false c.in_ok-items.ensures.read)
