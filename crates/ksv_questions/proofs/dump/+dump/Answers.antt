-- What each exit of a dump's functions gives.
use Rattle.ksv_questions.proofs.Common.{◌∙◌, ◌+◌, ◌-◌, drop, map, Err, Ok, ap, refl, subst, sym, err_from_is_err_and, put, view, Runs, bytes_of}
use Rattle.ksv_questions.proofs.Common.{desc_of, dumped, found_of, begin, begun_part, elements_part, members_part, part, unasked, value_part, written}
use Rattle.std.proofs.Common.{get_or}
use Rattle.std.proofs.lemmas.List.{drop_all, drop_more}
use Rattle.serde_json.specs.View.{members_view}
use Rattle.serde_json.specs.declared.value.Value.{Array, Object}
use Rattle.ksv_texts.proofs.Json.{array_view, object_view}
use Rattle.ksv_questions.specs.Dumps.{asked_part, list_part, object_part}
use Rattle.ksv_questions.proofs.Dumping.{at_bottom, at_level, elements_begin, elements_end, found_inside, found_written, is_deeper}
use Rattle.ksv_questions.proofs.Dumping.{members_end, pending_as, pending_same, plain_is, elements_failed, elements_on, loop_done, members_failed, members_on}
use Rattle.ksv_questions.proofs.Steps.{pending_short, runs_failed, runs_first, runs_settled, settled_failed}
use Rattle.ksv_questions.proofs.dump.+dump.Goals as goal

pub asked_part-returns-in_err-value : goal.asked_part-returns-in_err-value
unfolding asked_part
asked_part-returns-in_err-value g t c =
    let e = err_from_is_err_and c.from_residual.result c.from_residual.ensures.1 in
    rw (e.1, e.2) (runs_failed _ _ _ _ (λ f. found_of f) dumped _ c.find_value.new.engine c.in_err-value.field-0.0 c.in_err-value.ensures)

pub asked_part-returns-in-Ok : goal.asked_part-returns-in-Ok
unfolding asked_part
asked_part-returns-in-Ok g t c =
    found_inside _ _ _ _ c.args.left _ c.find_value.new.engine _ _ c.in-Ok.value _ c.in_ok-value.ensures c.in-Ok.is c.value_part.ensures

pub asked_part-returns-in-Err : goal.asked_part-returns-in-Err
unfolding asked_part
asked_part-returns-in-Err g t c = found_written _ _ _ _ c.args.left _ c.find_value.new.engine _ c.in-Err.json _ c.in_ok-value.ensures c.in-Err.is refl

pub object_part-returns-in_err-type_number : goal.object_part-returns-in_err-type_number
unfolding object_part
object_part-returns-in_err-type_number g t c =
    let e = err_from_is_err_and c.from_residual.result c.from_residual.ensures.1 in
    rw (e.1, e.2) (runs_failed _ _ _ _ (λ f. found_of f) dumped _ c.find_object.new.engine c.in_err-type_number.field-0.0 c.in_err-type_number.ensures)

pub object_part-returns-in-Ok : goal.object_part-returns-in-Ok
unfolding object_part
object_part-returns-in-Ok g t c =
    let d = desc_of c.args.file.now in
    let b = bytes_of c.args.file.now in
    found_inside _ _ _ _ c.args.left _ c.find_object.new.engine _ _ c.in-Ok.type_number _ c.in_ok-type_number.ensures c.in-Ok.is
    (rw (← c.fields-names.ensures) c.members_part.ensures)

pub object_part-returns-in-Err : goal.object_part-returns-in-Err
unfolding object_part
object_part-returns-in-Err g t c = found_written _ _ _ _ c.args.left _ c.find_object.new.engine _ c.in-Err.json _ c.in_ok-type_number.ensures c.in-Err.is refl

pub list_part-returns-in_err-count : goal.list_part-returns-in_err-count
unfolding list_part
list_part-returns-in_err-count g t c =
    let e = err_from_is_err_and c.from_residual.result c.from_residual.ensures.1 in
    rw (e.1, e.2) (runs_failed _ _ _ _ (λ f. found_of f) dumped _ c.find_list.new.engine c.in_err-count.field-0.0 c.in_err-count.ensures)

pub list_part-returns-in-Ok : goal.list_part-returns-in-Ok
unfolding list_part
list_part-returns-in-Ok g t c =
    found_inside _ _ _ _ c.args.left _ c.find_list.new.engine _ _ c.in-Ok.count _ c.in_ok-count.ensures c.in-Ok.is c.elements_part.ensures

pub list_part-returns-in-Err : goal.list_part-returns-in-Err
unfolding list_part
list_part-returns-in-Err g t c = found_written _ _ _ _ c.args.left _ c.find_list.new.engine _ c.in-Err.json _ c.in_ok-count.ensures c.in-Err.is refl

pub dump_part-returns-then-depth-eq0 : goal.dump_part-returns-then-depth-eq0
dump_part-returns-then-depth-eq0 g t c =
    let d = desc_of c.args.file.now in
    let b = bytes_of c.args.file.now in
    rw c.if-depth-eq0.true (rw (at_bottom d b c.args.left c.args.path.now) (runs_settled d b (unasked d c.args.path.now c.args.left)
    dumped c.args.engine.now c.unasked.result c.requires c.unasked.ensures))

pub dump_part-returns-in_err-left : goal.dump_part-returns-in_err-left
unfolding begun_part
dump_part-returns-in_err-left g t c =
    let d = desc_of c.args.file.now in
    let b = bytes_of c.args.file.now in
    let e = err_from_is_err_and c.from_residual.result c.from_residual.ensures.1 in
    rw (e.1, e.2) (
    subst (λ q. Runs d b q dumped c.args.engine.now c.args.engine.now (Err c.in_err-left.field-0.0))
    (sym (at_level d b c.args.depth c.args.left c.args.path.now (is_deeper d b c.args.depth c.if-depth-eq0.false)))
    (runs_settled d b _ dumped c.args.engine.now (Err c.in_err-left.field-0.0) c.requires
    (settled_failed d b (begin c.args.left) (λ left. asked_part d b (part d b (c.args.depth - 1)) c.args.path.now left) (λ n. n) dumped c.in_err-left.field-0.0
    c.in_err-left.ensures)))

pub dump_part-returns : goal.dump_part-returns
unfolding begun_part
dump_part-returns g t c =
    let d = desc_of c.args.file.now in
    let b = bytes_of c.args.file.now in
    rw (at_level d b c.args.depth c.args.left c.args.path.now (is_deeper d b c.args.depth c.if-depth-eq0.false))
    (runs_first d b _ _ (λ n. n) dumped _ _ c.in_ok-left.left _ c.requires c.in_ok-left.ensures c.asked_part.ensures)

pub inner_part-returns-in-None : goal.inner_part-returns-in-None
inner_part-returns-in-None g t c = rw c.in-None.is (runs_settled _ _ _ dumped _ c.unasked.result c.requires c.unasked.ensures)

pub value_part-returns-in-Object : goal.value_part-returns-in-Object
unfolding value_part
value_part-returns-in-Object g t c = rw c.in-Object.is c.object_part.ensures

pub value_part-returns-in-List : goal.value_part-returns-in-List
unfolding value_part
value_part-returns-in-List g t c = rw c.in-List.is c.list_part.ensures

pub value_part-returns-in_ok-json-in_default : goal.value_part-returns-in_ok-json-in_default
value_part-returns-in_ok-json-in_default g t c =
    let d = desc_of c.args.file.now in
    let b = bytes_of c.args.file.now in
    let each = part d b c.args.depth in
    runs_settled d b (value_part d b each c.args.path.now c.args.left c.args.value.now) dumped c.args.engine.now
    (Ok (record { json = c.in_ok-json-in_default.json; left = c.args.left })) c.requires
    (plain_is d b each c.args.path.now c.args.left c.args.value.now c.in_default.not-Object c.in_default.not-List
    ∙ ap (λ json. written json c.args.left) (sym c.in_ok-json-in_default.ensures))

pub elements_part-loop-index-init : goal.elements_part-loop-index-init
elements_part-loop-index-init g t c =
    let d = desc_of c.args.file.now in
    let b = bytes_of c.args.file.now in
    pending_same d b _ _ _ (elements_begin d b (part d b c.args.depth) c.args.list.now c.args.left c.args.count c.new-elements.result.items
    c.new-elements.ensures.items) c.requires

pub elements_part-returns-in_err-path : goal.elements_part-returns-in_err-path
elements_part-returns-in_err-path g t c =
    let e = err_from_is_err_and c.from_residual.result c.from_residual.ensures.1 in
    rw (e.1, e.2) (pending_short _ _ _ _ _ _ c.loop-index.invariant)

pub elements_part-returns-in_err-written : goal.elements_part-returns-in_err-written
elements_part-returns-in_err-written g t c =
    let e = err_from_is_err_and c.from_residual-in_err-written.result c.from_residual-in_err-written.ensures.1 in
    rw (e.1, e.2) (
    elements_failed _ _ _ _ _ _ c.loop-index.engine _ c.loop-index.left c.loop-index.index c.args.count c.loop-index.elements.items _ c.in_err-written.field-0.0
    c.loop-index-test.true c.in_ok-path.ensures c.loop-index.invariant c.in_err-written.ensures)

pub elements_part-returns-in_err-push_element : goal.elements_part-returns-in_err-push_element
elements_part-returns-in_err-push_element g t c =
    let e = err_from_is_err_and c.from_residual-in_err-push_element.result c.from_residual-in_err-push_element.ensures.1 in
    rw (e.1, e.2) (
    pending_short _ _ _ _ _ _ (
    elements_on _ _ _ _ _ _ c.loop-index.engine _ c.loop-index.left c.loop-index.index c.args.count c.loop-index.elements.items _ c.in_ok-written.written
    c.loop-index-test.true c.in_ok-path.ensures c.loop-index.invariant c.in_ok-written.ensures))

pub elements_part-loop-index-preserved : goal.elements_part-loop-index-preserved
elements_part-loop-index-preserved g t c =
    let d = desc_of c.args.file.now in
    let each = part d (bytes_of c.args.file.now) c.args.depth in
    let i = c.loop-index.index in
    pending_as _ _ _ _ _ _ c.inner_part.new.engine
    (ap (λ ds. elements_part d each c.args.list.now c.in_ok-written.written.left (i + 1) (c.args.count - (i + 1)) ds) (sym c.in_ok-push_element.ensures)) (
    elements_on _ _ _ _ _ _ c.loop-index.engine _ c.loop-index.left i c.args.count c.loop-index.elements.items _ c.in_ok-written.written
    c.loop-index-test.true c.in_ok-path.ensures c.loop-index.invariant c.in_ok-written.ensures)

pub elements_part-returns : goal.elements_part-returns
elements_part-returns g t c =
    let d = desc_of c.args.file.now in
    let b = bytes_of c.args.file.now in
    let left = c.loop-index.left in
    loop_done d b _ _ _ c.loop-index.engine (record { json = Array c.loop-index.elements; left = left })
    (elements_end d b (part d b c.args.depth) c.args.list.now left c.loop-index.index c.args.count (map view c.loop-index.elements.items)
    c.loop-index-test.false
    ∙ ap (λ json. written json left) (sym (array_view c.loop-index.elements)))
    c.loop-index.invariant

pub members_part-loop-name-init : goal.members_part-loop-name-init
members_part-loop-name-init g t c =
    let d = desc_of c.args.file.now in
    let b = bytes_of c.args.file.now in
    pending_same d b _ _ _
    (ap (λ ms. members_part d (part d b c.args.depth) c.args.object.now c.args.left c.args.names.now ms) (sym (ap members_view c.new-members.ensures.empty)))
    c.requires

pub members_part-returns-in_err-written : goal.members_part-returns-in_err-written
members_part-returns-in_err-written g t c =
    let i = c.loop-name.name-index in
    let e = err_from_is_err_and c.from_residual-in_err-written.result c.from_residual-in_err-written.ensures.1 in
    rw (e.1, e.2) (
    members_failed _ _ _ _ _ _ c.loop-name.engine _ c.loop-name.left (get_or c.args.names.now i 0) (drop i c.args.names.now) (drop (i + 1) c.args.names.now)
    _ _ c.in_err-written.field-0.0 (drop_more c.args.names.now i 0 c.loop-name-test.true) c.in_ok-path.ensures c.loop-name.invariant c.in_err-written.ensures)

pub members_part-returns-in_err-put_member : goal.members_part-returns-in_err-put_member
members_part-returns-in_err-put_member g t c =
    let i = c.loop-name.name-index in
    let e = err_from_is_err_and c.from_residual-in_err-put_member.result c.from_residual-in_err-put_member.ensures.1 in
    rw (e.1, e.2) (
    pending_short _ _ _ _ _ _ (
    members_on _ _ _ _ _ _ c.loop-name.engine _ c.loop-name.left (get_or c.args.names.now i 0) (drop i c.args.names.now) (drop (i + 1) c.args.names.now)
    _ _ c.in_ok-written.written (drop_more c.args.names.now i 0 c.loop-name-test.true) c.in_ok-path.ensures c.loop-name.invariant c.in_ok-written.ensures))

pub members_part-loop-name-preserved : goal.members_part-loop-name-preserved
members_part-loop-name-preserved g t c =
    let d = desc_of c.args.file.now in
    let each = part d (bytes_of c.args.file.now) c.args.depth in
    let i = c.loop-name.name-index in
    let ms = members_view c.loop-name.members.entries in
    pending_as _ _ _ _ _ _ c.inner_part.new.engine
    (ap (λ after. members_part d each c.args.object.now c.in_ok-written.written.left (drop (i + 1) c.args.names.now) after)
    (sym (c.in_ok-put_member.ensures ∙ ap (λ key. put key (view c.in_ok-written.written.json) ms) c.name.ensures))) (
    members_on _ _ _ _ _ _ c.loop-name.engine _ c.loop-name.left (get_or c.args.names.now i 0) (drop i c.args.names.now) (drop (i + 1) c.args.names.now)
    ms _ c.in_ok-written.written (drop_more c.args.names.now i 0 c.loop-name-test.true) c.in_ok-path.ensures c.loop-name.invariant c.in_ok-written.ensures)

pub members_part-returns : goal.members_part-returns
members_part-returns g t c =
    let d = desc_of c.args.file.now in
    let b = bytes_of c.args.file.now in
    let names = drop c.loop-name.name-index c.args.names.now in
    let left = c.loop-name.left in
    loop_done d b _ _ _ c.loop-name.engine (record { json = Object c.loop-name.members; left = left })
    (members_end d b (part d b c.args.depth) c.args.object.now left names (members_view c.loop-name.members.entries)
    (drop_all c.loop-name.name-index c.args.names.now c.loop-name-test.false)
    ∙ ap (λ json. written json left) (sym (object_view c.loop-name.members)))
    c.loop-name.invariant
