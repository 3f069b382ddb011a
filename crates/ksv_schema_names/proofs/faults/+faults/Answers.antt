-- Each form by its own equation; arguments are noted one after the other, and a call's parts likewise.
use Rattle.ksv_schema_names.proofs.Common.{◌∙◌, sym, ap, arith, view, declared, Other, part_faults, least}
use Rattle.ksv_schema_names.specs.Code.{behind_of, faults_at}
use Rattle.ksv_schema_names.proofs.Noted.{least_step, least_end, steps}
use Rattle.ksv_schema_names.proofs.Forms.{list_flat, noted_call, of_literal, of_name, of_special, of_member, of_unary, of_binary, of_logical, of_choice}
use Rattle.ksv_schema_names.proofs.Forms.{of_field, of_special_field, of_index, of_cast}
use Rattle.ksv_schema_names.proofs.faults.+faults.Goals as goal

pub note_list-loop-argument-preserved : goal.note_list-loop-argument-preserved
unfolding faults_at
note_list-loop-argument-preserved t c =
    least_step view (part_faults (declared c.args.scopes.now) c.args.within c.args.position Other) c.args.arguments.now _ _ _ _ _ c.loop-argument-test.true
    c.argument-item.is c.note_part.ensures c.loop-argument.invariant

pub note_list-returns : goal.note_list-returns
note_list-returns t c =
    least_end view (part_faults (declared c.args.scopes.now) c.args.within c.args.position Other) c.args.arguments.now _ _ _ c.loop-argument-test.false
    c.loop-argument.invariant
    ∙ sym (ap (least c.args.found.now) (list_flat (declared c.args.scopes.now) c.args.within c.args.position _))

pub note_part-returns-in-Call : goal.note_part-returns-in-Call
note_part-returns-in-Call t c =
    noted_call (declared c.args.scopes.now) c.args.within c.args.position (behind_of c.args.behind) _ c.note-in-Call.new.found c.note_part-in-Call.new.found _ _
    _ _ _ c.in-Call.is
    (cc (c.is_call-is_known.ensures, c.as_str-in-Call.ensures.value, c.len.ensures, c.note-in-Call.ensures))
    (cc (c.note_part-in-Call.ensures, c.deref-in-Call.ensures))
    (cc (c.note_list.ensures, c.deref-in-Call-2.ensures.value))

pub note_part-returns-in-Literal : goal.note_part-returns-in-Literal
note_part-returns-in-Literal t c = grind (arith, steps, of_literal)

pub note_part-returns-in-Name : goal.note_part-returns-in-Name
note_part-returns-in-Name t c = grind (arith, steps, of_name)

pub note_part-returns-in-Special : goal.note_part-returns-in-Special
note_part-returns-in-Special t c = grind (arith, of_special)

pub note_part-returns-in-Member : goal.note_part-returns-in-Member
note_part-returns-in-Member t c = grind (arith, steps, of_member)

pub note_part-returns-in-Unary : goal.note_part-returns-in-Unary
note_part-returns-in-Unary t c = grind (arith, of_unary)

pub note_part-returns-in-Binary : goal.note_part-returns-in-Binary
note_part-returns-in-Binary t c = grind (arith, steps, of_binary, of_logical, of_index)

pub note_part-returns-in-Choice : goal.note_part-returns-in-Choice
note_part-returns-in-Choice t c = grind (arith, steps, of_choice)

pub note_part-returns-in-Field : goal.note_part-returns-in-Field
note_part-returns-in-Field t c = grind (arith, of_field)

pub note_part-returns-in-SpecialField : goal.note_part-returns-in-SpecialField
note_part-returns-in-SpecialField t c = grind (arith, steps, of_special_field)

pub note_part-returns-in-Cast : goal.note_part-returns-in-Cast
note_part-returns-in-Cast t c = grind (arith, steps, of_cast)
