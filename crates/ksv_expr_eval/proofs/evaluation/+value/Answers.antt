use Rattle.ksv_basics.proofs.Running.{run_bind}
-- Each form is evaluated as its meaning says, and a call of a method by how many arguments it has.
use Rattle.std.proofs.Common.{◌≡◌, ◌≤◌, [], ◌∷◌, length, ◌⊎◌, inl, inr, ap, sym, ◌∙◌, arith}
use Rattle.ksv_expr_eval.proofs.Cases.{of_literal, of_name, of_special, of_member, of_unary, of_binary, of_logical, of_choice, of_field, of_special_field}
use Rattle.ksv_expr_eval.proofs.Cases.{of_index, of_cast, call_of_one, call_of_two, call_of_other, is_one, is_two}
use Rattle.ksv_expr_eval.proofs.evaluation.+value.Goals as goal

pub value-returns-in_ok-literal-in-Literal : goal.value-returns-in_ok-literal-in-Literal
value-returns-in_ok-literal-in-Literal g t c = grind (arith, of_literal)

pub value-returns-in-Name : goal.value-returns-in-Name
value-returns-in-Name g t c = grind (arith, of_name)

pub value-returns-in-Special : goal.value-returns-in-Special
value-returns-in-Special g t c = grind (arith, of_special)

pub value-returns-in-Member : goal.value-returns-in-Member
value-returns-in-Member g t c = grind (arith, of_member)

pub value-returns-in-Unary : goal.value-returns-in-Unary
value-returns-in-Unary g t c = grind (arith, of_unary)

pub value-returns-in-Binary : goal.value-returns-in-Binary
value-returns-in-Binary g t c = rw (c.in-Binary.is, of_binary, ← c.deref-in-Binary.ensures, ← c.deref-in-Binary-2.ensures) c.binary_expr.ensures

pub value-returns-in-Logical : goal.value-returns-in-Logical
value-returns-in-Logical g t c = rw (c.in-Logical.is, of_logical, ← c.deref-in-Logical.ensures, ← c.deref-in-Logical-2.ensures) c.logical_expr.ensures

pub value-returns-in-Choice : goal.value-returns-in-Choice
value-returns-in-Choice g t c = rw (c.in-Choice.is, of_choice, ← c.deref-in-Choice.ensures, ← c.deref-in-Choice-2.ensures, ← c.deref-in-Choice-3.ensures)
    c.choice_expr.ensures

pub value-returns-in-Field : goal.value-returns-in-Field
value-returns-in-Field g t c = rw (c.in-Field.is, of_field, ← c.deref-in-Field.ensures) c.field_expr.ensures

pub value-returns-in-SpecialField : goal.value-returns-in-SpecialField
value-returns-in-SpecialField g t c = grind (arith, of_special_field)

pub value-returns-in-empty : goal.value-returns-in-empty
value-returns-in-empty g t c =
    let same : length c.as_slice.result.now ≡ length c.in-Call.arguments.items = ap length c.as_slice.ensures.value in
    let other : (length c.in-Call.arguments.items ≡ 0) ⊎ (3 ≤ length c.in-Call.arguments.items) = inl (omega arith) in
    let law = call_of_other c.args.ctx.now c.args.expr.now c.in-Call.object c.in-Call.method c.in-Call.arguments c.in-Call.is other in
    grind (arith, law)

pub value-returns-in-len1 : goal.value-returns-in-len1
value-returns-in-len1 g t c =
    let items : c.in-Call.arguments.items ≡ c.argument-item.result ∷ [] =
    sym c.as_slice.ensures.value ∙ is_one c.as_slice.result.now c.argument-item.result (omega arith) (omega arith) c.argument-item.is in
    let law = call_of_one c.args.ctx.now c.args.expr.now c.in-Call.object c.in-Call.method c.in-Call.arguments c.argument-item.result c.in-Call.is items in
    rw (law, ← c.deref-in-len1.ensures, ← c.as_str.ensures.value) c.call_with_one.ensures

pub value-returns-in-len2 : goal.value-returns-in-len2
value-returns-in-len2 g t c =
    let items : c.in-Call.arguments.items ≡ c.first-item.result ∷ c.second-item.result ∷ [] =
    sym c.as_slice.ensures.value ∙ is_two c.as_slice.result.now c.first-item.result c.second-item.result (omega arith) (omega arith) c.first-item.is
    c.second-item.is in
    let law = call_of_two c.args.ctx.now c.args.expr.now c.in-Call.object c.in-Call.method c.in-Call.arguments c.first-item.result c.second-item.result
    c.in-Call.is items in
    rw (law, ← c.deref-in-len2.ensures, ← c.as_str-in-len2.ensures.value) c.call_with_two.ensures

pub value-returns-in_default : goal.value-returns-in_default
value-returns-in_default g t c =
    let same : length c.as_slice.result.now ≡ length c.in-Call.arguments.items = ap length c.as_slice.ensures.value in
    let other : (length c.in-Call.arguments.items ≡ 0) ⊎ (3 ≤ length c.in-Call.arguments.items) = inr (omega arith) in
    let law = call_of_other c.args.ctx.now c.args.expr.now c.in-Call.object c.in-Call.method c.in-Call.arguments c.in-Call.is other in
    grind (arith, law)

pub value-returns-in-Index : goal.value-returns-in-Index
value-returns-in-Index g t c = rw (c.in-Index.is, of_index, ← c.deref-in-Index.ensures, ← c.deref-in-Index-2.ensures) c.index_expr.ensures

pub value-returns-in-Cast : goal.value-returns-in-Cast
value-returns-in-Cast g t c = grind (arith, of_cast)

pub call_behind-returns-in_err-first : goal.call_behind-returns-in_err-first
call_behind-returns-in_err-first g t c = grind (arith, run_bind)

pub call_behind-returns-in_err-second : goal.call_behind-returns-in_err-second
call_behind-returns-in_err-second g t c = grind (arith, run_bind)

pub call_behind-returns : goal.call_behind-returns
call_behind-returns g t c = grind (arith, run_bind)

pub call_with_one-returns-in_err-object : goal.call_with_one-returns-in_err-object
call_with_one-returns-in_err-object g t c = grind (arith, run_bind)

pub call_with_one-returns-in_err-argument : goal.call_with_one-returns-in_err-argument
call_with_one-returns-in_err-argument g t c = grind (arith, run_bind)

pub call_with_one-returns : goal.call_with_one-returns
call_with_one-returns g t c = grind (arith, run_bind)

pub call_with_two-returns-in_err-object : goal.call_with_two-returns-in_err-object
call_with_two-returns-in_err-object g t c = grind (arith, run_bind)

pub call_with_two-returns : goal.call_with_two-returns
call_with_two-returns g t c = grind (arith, run_bind)

pub cast_expr-returns-in_err-object : goal.cast_expr-returns-in_err-object
cast_expr-returns-in_err-object g t c = grind (arith, run_bind)

pub cast_expr-returns : goal.cast_expr-returns
cast_expr-returns g t c = grind (arith, run_bind)

pub field_expr-returns-in_err-object : goal.field_expr-returns-in_err-object
field_expr-returns-in_err-object g t c = grind (arith, run_bind)

pub field_expr-returns : goal.field_expr-returns
field_expr-returns g t c = grind (arith, run_bind)

pub index_expr-returns-in_err-list : goal.index_expr-returns-in_err-list
index_expr-returns-in_err-list g t c = grind (arith, run_bind)

pub index_expr-returns-in_err-place : goal.index_expr-returns-in_err-place
index_expr-returns-in_err-place g t c = grind (arith, run_bind)

pub index_expr-returns : goal.index_expr-returns
index_expr-returns g t c = grind (arith, run_bind)

pub special_field_expr-returns-in_err-object : goal.special_field_expr-returns-in_err-object
special_field_expr-returns-in_err-object g t c = grind (arith, run_bind)

pub special_field_expr-returns : goal.special_field_expr-returns
special_field_expr-returns g t c = grind (arith, run_bind)

pub truth_of-returns-in_err-value : goal.truth_of-returns-in_err-value
truth_of-returns-in_err-value g t c = grind (arith, run_bind)

pub truth_of-returns : goal.truth_of-returns
truth_of-returns g t c = grind (arith, run_bind)

pub unary_expr-returns-in_err-operand : goal.unary_expr-returns-in_err-operand
unary_expr-returns-in_err-operand g t c = grind (arith, run_bind)

pub unary_expr-returns : goal.unary_expr-returns
unary_expr-returns g t c = grind (arith, run_bind)
