-- Each form with parts by its own equation; names of arguments are added one after the other, and those of a call's parts likewise.
use Rattle.std.proofs.Common.{◌∙◌, sym, ap, arith}
use Rattle.ksv_expr_tree.specs.Tree.{view}
use Rattle.ksv_desc.specs.Names.{distinct_behind, dotted}
use Rattle.ksv_desc.specs.Code.{dotted_in}
use Rattle.ksv_desc.proofs.Dots.{distinct_step, distinct_end, all_flat, added_call, steps, dotted_unary, dotted_binary, dotted_logical, dotted_choice}
use Rattle.ksv_desc.proofs.Dots.{dotted_field, dotted_special_field, dotted_index, dotted_cast}
use Rattle.ksv_desc.proofs.names.+dots.Goals as goal

pub add_in-returns-in_ok-add_in_each-in-Call : goal.add_in-returns-in_ok-add_in_each-in-Call
add_in-returns-in_ok-add_in_each-in-Call t c =
    added_call _ c.add_in-in-Call.new.names _ _ _ _ _ c.in-Call.is
    (cc (c.in_ok-add_in-in-Call.ensures, c.deref-in-Call.ensures))
    (cc (c.in_ok-add_in_each-in-Call.ensures, c.deref-in-Call-2.ensures.value))

pub add_in_each-loop-argument-preserved : goal.add_in_each-loop-argument-preserved
unfolding dotted_in
add_in_each-loop-argument-preserved t c =
    distinct_step view dotted c.args.arguments.now _ _ _ _ _ c.loop-argument-test.true c.argument-item.is c.in_ok-add_in.ensures c.loop-argument.invariant

pub add_in_each-returns : goal.add_in_each-returns
add_in_each-returns t c =
    distinct_end view dotted c.args.arguments.now _ _ _ c.loop-argument-test.false c.loop-argument.invariant
    ∙ sym (ap (distinct_behind c.args.names.now) (all_flat _))

pub add_in-returns-in-Unary : goal.add_in-returns-in-Unary
add_in-returns-in-Unary t c = grind (arith, dotted_unary, dotted_special_field, dotted_cast)

pub add_in-returns-in_ok-add_in-in-Binary : goal.add_in-returns-in_ok-add_in-in-Binary
add_in-returns-in_ok-add_in-in-Binary t c = grind (arith, steps, dotted_binary, dotted_logical, dotted_index)

pub add_in-returns-in_ok-add_in-in-Choice-2 : goal.add_in-returns-in_ok-add_in-in-Choice-2
add_in-returns-in_ok-add_in-in-Choice-2 t c = grind (arith, steps, dotted_choice)

pub add_in-returns-in_ok-add_in-in-Field : goal.add_in-returns-in_ok-add_in-in-Field
add_in-returns-in_ok-add_in-in-Field t c = grind (arith, steps, dotted_field)
