-- Each form from its parts.
use Rattle.ksv_schema_names.proofs.Common.{arith, path_of, declared, numbered_word}
use Rattle.ksv_expr_tree.specs.declared.tree.Expr as opened
use Rattle.ksv_expr_tree.specs.Tree.{name_of, member_of}
use Rattle.ksv_schema_names.specs.Numbered.{numbered_type, numbered_member}
use Rattle.ksv_schema_names.proofs.Numbers.{part, piece, literal_numbered, name_numbered, special_numbered, member_numbered, unary_numbered, binary_numbered}
use Rattle.ksv_schema_names.proofs.Numbers.{logical_numbered, choice_numbered, field_numbered, special_field_numbered, call_numbered, index_numbered}
use Rattle.ksv_schema_names.proofs.Numbers.{cast_numbered, each_numbered, refilled}
use Rattle.ksv_schema_names.proofs.numbering.+numbers.Goals as goal

pub number_expr-returns-in-Literal : goal.number_expr-returns-in-Literal
number_expr-returns-in-Literal t c = rw c.in-Literal.is (literal_numbered _ _ _ _)

pub number_expr-returns-in-Name : goal.number_expr-returns-in-Name
unfolding opened.out-Expr denote.Hole.Carrier.out
number_expr-returns-in-Name t c = rw c.in-Name.is
    (name_numbered _ _ _ _ _ (piece name_of (numbered_word c.args.names.now) _ _ c.in-Name.name-is c.number_name.new.name c.number_name.ensures))

pub number_expr-returns-in-Special : goal.number_expr-returns-in-Special
number_expr-returns-in-Special t c = rw c.in-Special.is (special_numbered _ _ _ _)

pub number_expr-returns-in-Member : goal.number_expr-returns-in-Member
unfolding opened.out-Expr denote.Hole.Carrier.out
number_expr-returns-in-Member t c = rw c.in-Member.is
    (member_numbered _ _ _ _ _
    (piece member_of (numbered_member (declared c.args.scopes.now) c.args.within) _ _ c.in-Member.member-is c.number_member.new.member
    c.number_member.ensures))

pub number_expr-returns-in-Unary : goal.number_expr-returns-in-Unary
unfolding opened.out-Expr denote.Hole.Carrier.out
number_expr-returns-in-Unary t c = rw c.in-Unary.is (unary_numbered _ _ _ _ _ _ _ _
    (part _ _ _ _ _ _ _ c.number_expr.ensures c.deref_mut.ensures.value c.in-Unary.operand-is))

pub number_expr-returns-in-Binary : goal.number_expr-returns-in-Binary
unfolding opened.out-Expr denote.Hole.Carrier.out
number_expr-returns-in-Binary t c = rw c.in-Binary.is (binary_numbered _ _ _ _ _ _ _ _ _ _ _ _
    (part _ _ _ _ _ _ _ c.number_expr-in-Binary.ensures c.deref_mut-in-Binary.ensures.value c.in-Binary.left-is)
    (part _ _ _ _ _ _ _ c.number_expr-in-Binary-2.ensures c.deref_mut-in-Binary-2.ensures.value c.in-Binary.right-is))

pub number_expr-returns-in-Logical : goal.number_expr-returns-in-Logical
unfolding opened.out-Expr denote.Hole.Carrier.out
number_expr-returns-in-Logical t c = rw c.in-Logical.is (logical_numbered _ _ _ _ _ _ _ _ _ _ _ _
    (part _ _ _ _ _ _ _ c.number_expr-in-Logical.ensures c.deref_mut-in-Logical.ensures.value c.in-Logical.left-is)
    (part _ _ _ _ _ _ _ c.number_expr-in-Logical-2.ensures c.deref_mut-in-Logical-2.ensures.value c.in-Logical.right-is))

pub number_expr-returns-in-Choice : goal.number_expr-returns-in-Choice
unfolding opened.out-Expr denote.Hole.Carrier.out
number_expr-returns-in-Choice t c = rw c.in-Choice.is (choice_numbered _ _ _ _ _ _ _ _ _ _ _ _ _ _ _
    (part _ _ _ _ _ _ _ c.number_expr-in-Choice.ensures c.deref_mut-in-Choice.ensures.value c.in-Choice.condition-is)
    (part _ _ _ _ _ _ _ c.number_expr-in-Choice-2.ensures c.deref_mut-in-Choice-2.ensures.value c.in-Choice.yes-is)
    (part _ _ _ _ _ _ _ c.number_expr-in-Choice-3.ensures c.deref_mut-in-Choice-3.ensures.value c.in-Choice.no-is))

pub number_expr-returns-in-Field : goal.number_expr-returns-in-Field
unfolding opened.out-Expr denote.Hole.Carrier.out
number_expr-returns-in-Field t c = rw c.in-Field.is (field_numbered _ _ _ _ _ _ _ _ _
    (part _ _ _ _ _ _ _ c.number_expr-in-Field.ensures c.deref_mut-in-Field.ensures.value c.in-Field.object-is)
    (piece name_of (numbered_word c.args.names.now) _ _ c.in-Field.name-is c.number_name-in-Field.new.name c.number_name-in-Field.ensures))

pub number_expr-returns-in-SpecialField : goal.number_expr-returns-in-SpecialField
unfolding opened.out-Expr denote.Hole.Carrier.out
number_expr-returns-in-SpecialField t c = rw c.in-SpecialField.is (special_field_numbered _ _ _ _ _ _ _ _
    (part _ _ _ _ _ _ _ c.number_expr-in-SpecialField.ensures c.deref_mut-in-SpecialField.ensures.value c.in-SpecialField.object-is))

pub number_expr-returns-in-Call : goal.number_expr-returns-in-Call
number_expr-returns-in-Call t c = call_numbered _ _ _ _ _ _ _ _ _ _ c.in-Call.is c.in-Call._method-is
    (part _ _ _ _ _ _ _ c.number_expr-in-Call.ensures c.deref_mut-in-Call.ensures.value c.in-Call.object-is)
    (refilled _ _ _ _ c.number_arguments.new.arguments _ _ c.deref_mut-in-Call-2.ensures.value c.in-Call.arguments-is c.number_arguments.auto.arguments
    c.number_arguments.ensures)

pub number_expr-returns-in-Index : goal.number_expr-returns-in-Index
unfolding opened.out-Expr denote.Hole.Carrier.out
number_expr-returns-in-Index t c = rw c.in-Index.is (index_numbered _ _ _ _ _ _ _ _ _ _ _
    (part _ _ _ _ _ _ _ c.number_expr-in-Index.ensures c.deref_mut-in-Index.ensures.value c.in-Index.list-is)
    (part _ _ _ _ _ _ _ c.number_expr-in-Index-2.ensures c.deref_mut-in-Index-2.ensures.value c.in-Index.place-is))

pub number_expr-returns-in-Cast : goal.number_expr-returns-in-Cast
unfolding opened.out-Expr denote.Hole.Carrier.out
number_expr-returns-in-Cast t c = rw c.in-Cast.is (cast_numbered _ _ _ _ _ _ _ _ _
    (part _ _ _ _ _ _ _ c.number_expr-in-Cast.ensures c.deref_mut-in-Cast.ensures.value c.in-Cast.object-is)
    (piece path_of (numbered_type (declared c.args.scopes.now) c.args.within) _ _ c.in-Cast.name-is c.number_type.new.name c.number_type.ensures))

pub number_arguments-returns : goal.number_arguments-returns
number_arguments-returns t c = each_numbered _ _ _ _ _ c.loop-argument.invariant.1.0 (λ k z below. c.loop-argument.invariant.0 k z (omega arith))
