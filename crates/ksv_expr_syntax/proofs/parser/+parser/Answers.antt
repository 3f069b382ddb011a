-- What each exit of the parser's functions gives.
use Rattle.ksv_expr_syntax.proofs.Common.{◌<◌, length, None, arith, ◌∙◌, err_from_is_err_and, view}
use Rattle.ksv_expr_syntax.proofs.Common.{choice, lexemes, found, read, Whole}
use Rattle.ksv_expr_syntax.specs.Code.{level_of, arms_at, with_tree}
use Rattle.ksv_expr_syntax.proofs.Flow.{read_whole, pick_on_is, arm_on_is, read_joined, join_on_is, read_negation, negate_on_is, read_comparison, compare_on_is}
use Rattle.ksv_expr_syntax.proofs.Flow.{read_prefix, prefix_on_is, read_postfix, suffix_on_is, read_list_is, primary_end, primary_constant, primary_word}
use Rattle.ksv_expr_syntax.proofs.Exits.{within_more, gives_arms, inside_is, both_less, arms_first, join_step, compare_step, suffix_go, list_start, list_fails}
use Rattle.ksv_expr_syntax.proofs.Exits.{list_open, list_ends, list_goes_on, arguments_push, group_is}
use Rattle.ksv_expr_syntax.proofs.parser.+parser.Goals as goal

pub whole-returns-in_err-condition-clause-is : goal.whole-returns-in_err-condition-clause-is
whole-returns-in_err-condition-clause-is t c =
    let p = err_from_is_err_and c.from_residual.result c.from_residual.ensures.1 in rw (p.1, p.2) (λ n. rw (read_whole, c.in_err-condition.ensures.is n))

pub whole-returns-in_default-clause-is : goal.whole-returns-in_default-clause-is
whole-returns-in_default-clause-is t c = rw (read_whole, c.in_ok-condition.ensures.is, pick_on_is, c.in_default.ensures.is)

pub whole-returns : goal.whole-returns
whole-returns t c =
    record {
      is = rw (read_whole, c.in_ok-condition.ensures.is, pick_on_is, c.in-Some.ensures.is, arm_on_is)
          (c.choice.ensures.is (λ e. arms_at e c.args.depth (lexemes c.in-Some.rest.now) c.in_ok-condition.at.parts) c.arms.ensures.is);
      shorter = within_more (length c.in-Some.rest.now) (length c.args.at.tokens.now) c.choice.result
          (omega (arith, c.in_ok-condition.ensures.shorter, c.in-Some.ensures.shorter))
          (c.choice.ensures.shorter (length c.in-Some.rest.now) c.arms.ensures.shorter);
    }

pub arms-returns-in_err-inner-clause-is : goal.arms-returns-in_err-inner-clause-is
arms-returns-in_err-inner-clause-is t c =
    let p = err_from_is_err_and c.from_residual.result c.from_residual.ensures.1 in rw (p.1, p.2) (λ n e. inside_is c.args.depth c.args.at.parts _ None
    c.in_err-inner.ensures.is)

pub arms-returns-in_err-yes-clause-is : goal.arms-returns-in_err-yes-clause-is
arms-returns-in_err-yes-clause-is t c =
    let p = err_from_is_err_and c.from_residual-in_err-yes.result c.from_residual-in_err-yes.ensures.1 in rw (p.1, p.2) (λ n e.
    arms_first c.args.depth (lexemes c.args.rest.now) c.args.at.parts c.in_ok-inner.inner c.in_ok-inner.start.parts None e c.in_ok-inner.ensures.is
    (rw (← c.in_ok-inner.ensures.same) (c.in_err-yes.ensures.is _ c.whole.ensures.is n)))

pub arms-returns-clause-is : goal.arms-returns-clause-is
arms-returns-clause-is t c =
    gives_arms (λ e. arms_at e c.args.depth (lexemes c.args.rest.now) c.args.at.parts)
    (λ e. with_tree (λ b. choice e (view c.in_ok-yes.yes) b) (read Whole c.in_ok-inner.inner (lexemes c.in_ok-yes.now.tokens.now) c.in_ok-yes.now.parts))
    c.both.result
    (λ e. arms_first c.args.depth (lexemes c.args.rest.now) c.args.at.parts c.in_ok-inner.inner c.in_ok-inner.start.parts
    (found (view c.in_ok-yes.yes) (lexemes c.in_ok-yes.now.tokens.now) c.in_ok-yes.now.parts) e c.in_ok-inner.ensures.is
    (rw (← c.in_ok-inner.ensures.same) (c.in_ok-yes.ensures.is _ c.whole.ensures.is)))
    (c.both.ensures.is _ c.whole-2.ensures.is)

pub joined-returns-in_err-left-clause-is : goal.joined-returns-in_err-left-clause-is
joined-returns-in_err-left-clause-is t c =
    let p = err_from_is_err_and c.from_residual.result c.from_residual.ensures.1 in rw (p.1, p.2) (λ n. rw (
      read_joined,
      ← c.operand_of-kind.ensures,
      c.in_err-left.ensures.is n,
    ))

pub joined-operators-init : goal.joined-operators-init
joined-operators-init t c = record { is = rw (read_joined, ← c.operand_of-kind.ensures, c.in_ok-left.ensures.is); shorter = c.in_ok-left.ensures.shorter }

pub joined-returns-in_err-larger-clause-is : goal.joined-returns-in_err-larger-clause-is
joined-returns-in_err-larger-clause-is t c =
    let p = err_from_is_err_and c.from_residual-in_err-larger.result c.from_residual-in_err-larger.ensures.1 in rw (p.1, p.2) (λ n. rw c.operators.invariant.is
    (join_step c.args.precedence (level_of c.operand_of-kind.result) (view c.operators.left) c.args.depth (lexemes c.operators.now.tokens.now)
    c.operators.now.parts c.in-Some.operator (lexemes c.in-Some.rest.now) None c.operand_of-kind.ensures c.in-Some.ensures.is
    (c.in_err-larger.ensures.is _ c.right_side-right.ensures.is n)))

pub joined-operators-preserved : goal.joined-operators-preserved
joined-operators-preserved t c =
    let inner : length c.in_ok-larger.after.tokens.now < length c.in-Some.rest.now =
    c.in_ok-larger.ensures.shorter (length c.in-Some.rest.now) c.right_side-right.ensures.shorter in
    record {
      is = rw c.operators.invariant.is
          (join_step c.args.precedence (level_of c.operand_of-kind.result) (view c.operators.left) c.args.depth (lexemes c.operators.now.tokens.now)
          c.operators.now.parts c.in-Some.operator (lexemes c.in-Some.rest.now)
          (found (view c.in_ok-larger.larger) (lexemes c.in_ok-larger.after.tokens.now) c.in_ok-larger.after.parts) c.operand_of-kind.ensures
          c.in-Some.ensures.is (c.in_ok-larger.ensures.is _ c.right_side-right.ensures.is));
      shorter = omega (arith, inner, c.operators.invariant.shorter, c.in-Some.ensures.shorter);
    }

pub joined-returns-clause-is : goal.joined-returns-clause-is
joined-returns-clause-is t c = rw (c.operators.invariant.is, join_on_is, c.in_default.ensures.is)

pub negation-returns-in_default-clause-is : goal.negation-returns-in_default-clause-is
negation-returns-in_default-clause-is t c = rw (read_negation, c.in_default.ensures.is) c.comparison.ensures.is

pub negation-returns-in_err-inner-clause-is : goal.negation-returns-in_err-inner-clause-is
negation-returns-in_err-inner-clause-is t c =
    let p = err_from_is_err_and c.from_residual.result c.from_residual.ensures.1 in rw (p.1, p.2) (λ n. rw (read_negation, c.in-Some.ensures.is, negate_on_is)
    (inside_is c.args.depth c.args.at.parts _ None c.in_err-inner.ensures.is))

pub negation-returns-clause-is : goal.negation-returns-clause-is
negation-returns-clause-is t c =
    let i = both_less c.args.depth c.args.at.parts c.in_ok-inner.inner c.in_ok-inner.start.parts c.in_ok-inner.ensures.is in
    rw (read_negation, c.in-Some.ensures.is, negate_on_is, i.0, i.1, ← c.in_ok-inner.ensures.same) (c.unary.ensures.is _ c.negation.ensures.is)

pub unary-returns-in_default-clause-is : goal.unary-returns-in_default-clause-is
unary-returns-in_default-clause-is t c = rw (read_prefix, c.in_default.ensures.is) c.postfix.ensures.is

pub unary-returns-in_err-inner-clause-is : goal.unary-returns-in_err-inner-clause-is
unary-returns-in_err-inner-clause-is t c =
    let p = err_from_is_err_and c.from_residual.result c.from_residual.ensures.1 in rw (p.1, p.2) (λ n. rw (read_prefix, c.in-Some.ensures.is, prefix_on_is)
    (inside_is c.args.depth c.args.at.parts _ None c.in_err-inner.ensures.is))

pub unary-returns-clause-is : goal.unary-returns-clause-is
unary-returns-clause-is t c =
    let i = both_less c.args.depth c.args.at.parts c.in_ok-inner.inner c.in_ok-inner.start.parts c.in_ok-inner.ensures.is in
    rw (read_prefix, c.in-Some.ensures.is, prefix_on_is, i.0, i.1, ← c.in_ok-inner.ensures.same) (c.unary-2.ensures.is _ c.unary.ensures.is)

pub comparison-returns-in_err-left-clause-is : goal.comparison-returns-in_err-left-clause-is
comparison-returns-in_err-left-clause-is t c =
    let p = err_from_is_err_and c.from_residual.result c.from_residual.ensures.1 in rw (p.1, p.2) (λ n. rw (read_comparison, c.in_err-left.ensures.is n))

pub comparison-returns-in_default-clause-is : goal.comparison-returns-in_default-clause-is
comparison-returns-in_default-clause-is t c = rw (read_comparison, c.in_ok-left.ensures.is, compare_on_is, c.in_default.ensures.is)

pub comparison-returns : goal.comparison-returns
comparison-returns t c =
    record {
      is = rw (compare_step c.args.depth (lexemes c.args.at.tokens.now) c.args.at.parts (view c.in_ok-left.left) (lexemes c.in_ok-left.at.tokens.now)
          c.in_ok-left.at.parts c.in-Some.operator (lexemes c.in-Some.rest.now) c.in_ok-left.ensures.is c.in-Some.ensures.is)
          (c.infix.ensures.is _ c.right_side-right.ensures.is);
      shorter = within_more (length c.in-Some.rest.now) (length c.args.at.tokens.now) c.infix.result
          (omega (arith, c.in_ok-left.ensures.shorter, c.in-Some.ensures.shorter))
          (c.infix.ensures.shorter (length c.in-Some.rest.now) c.right_side-right.ensures.shorter);
    }

pub postfix-returns-in_err-object-clause-is : goal.postfix-returns-in_err-object-clause-is
postfix-returns-in_err-object-clause-is t c =
    let p = err_from_is_err_and c.from_residual.result c.from_residual.ensures.1 in rw (p.1, p.2) (λ n. rw (read_postfix, c.in_err-object.ensures.is n))

pub postfix-suffixes-init : goal.postfix-suffixes-init
postfix-suffixes-init t c = record { is = rw (read_postfix, c.in_ok-object.ensures.is); shorter = c.in_ok-object.ensures.shorter }

pub postfix-returns-in_err-larger-clause-is : goal.postfix-returns-in_err-larger-clause-is
postfix-returns-in_err-larger-clause-is t c =
    let p = err_from_is_err_and c.from_residual-in_err-larger.result c.from_residual-in_err-larger.ensures.1 in rw (p.1, p.2) (λ n. rw c.suffixes.invariant.is
    (suffix_go c.in-Some.opening (view c.suffixes.object) c.args.depth (lexemes c.suffixes.now.tokens.now) c.suffixes.now.parts
    (lexemes c.in-Some.rest.now) None c.in-Some.ensures.is (c.in_err-larger.ensures.is n)))

pub postfix-suffixes-preserved : goal.postfix-suffixes-preserved
postfix-suffixes-preserved t c = record {
  is = rw c.suffixes.invariant.is
      (suffix_go c.in-Some.opening (view c.suffixes.object) c.args.depth (lexemes c.suffixes.now.tokens.now) c.suffixes.now.parts (lexemes c.in-Some.rest.now)
      (found (view c.in_ok-larger.larger) (lexemes c.in_ok-larger.after.tokens.now) c.in_ok-larger.after.parts) c.in-Some.ensures.is
      (c.in_ok-larger.ensures.is));
  shorter = omega (arith, c.in_ok-larger.ensures.shorter, c.suffixes.invariant.shorter, c.in-Some.ensures.shorter);
}

pub postfix-returns-clause-is : goal.postfix-returns-clause-is
postfix-returns-clause-is t c = rw (c.suffixes.invariant.is, suffix_on_is, c.in_default.ensures.is.0, c.in_default.ensures.is.1)

pub suffix-returns-in-Call-clause-is : goal.suffix-returns-in-Call-clause-is
suffix-returns-in-Call-clause-is t c = rw c.in-Call.is (c.call.ensures.is _ c.call_list-list.ensures.is)

pub suffix-returns-in-Place-clause-is : goal.suffix-returns-in-Place-clause-is
suffix-returns-in-Place-clause-is t c = rw c.in-Place.is (c.index.ensures.is _ c.place.ensures.is)

pub place-returns-clause-is : goal.place-returns-clause-is
place-returns-clause-is t c = rw (c.in_ok-inner.ensures.is, ← c.in_ok-inner.ensures.same) (c.closed.ensures.is _ c.whole.ensures.is)

pub arguments-returns-in-Some-clause-is : goal.arguments-returns-in-Some-clause-is
arguments-returns-in-Some-clause-is t c = rw (read_list_is, c.in-Some.ensures.is, c.new-list.ensures.items)

pub arguments-list-init : goal.arguments-list-init
arguments-list-init t c =
    record {
      is = rw c.new-list.ensures.items (list_start c.args.depth (lexemes c.args.at.tokens.now) c.args.at.parts c.in_default.ensures.is);
      shorter = omega arith;
    }

pub arguments-returns-in_err-expr-clause-is : goal.arguments-returns-in_err-expr-clause-is
arguments-returns-in_err-expr-clause-is t c =
    let p = err_from_is_err_and c.from_residual.result c.from_residual.ensures.1 in rw (p.1, p.2) (λ n. list_fails c.list.invariant.is
    (c.in_err-expr.ensures.is n))

pub arguments-returns-in_err-end-clause-is : goal.arguments-returns-in_err-end-clause-is
arguments-returns-in_err-end-clause-is t c =
    let p = err_from_is_err_and c.from_residual-in_err-end.result c.from_residual-in_err-end.ensures.1 in rw (p.1, p.2) (λ n.
    list_open (view c.in_ok-expr.expr) (lexemes c.in_ok-expr.after.tokens.now) c.in_ok-expr.after.parts c.list.invariant.is c.in_ok-expr.ensures.is
    c.in_default-behind.ensures.is c.in_err-end.ensures.is)

pub arguments-returns-in_default-behind-clause-is : goal.arguments-returns-in_default-behind-clause-is
arguments-returns-in_default-behind-clause-is t c =
    rw c.in_ok-end.ensures.same (list_ends (view c.in_ok-expr.expr) (lexemes c.in_ok-expr.after.tokens.now) c.in_ok-expr.after.parts
    (lexemes c.in_ok-end.end.tokens.now) c.list.invariant.is c.in_ok-expr.ensures.is c.in_default-behind.ensures.is c.in_ok-end.ensures.is
    (arguments_push c.list.list.items c.push.new.self.items c.in_ok-expr.expr c.in_ok-push.ensures.items))

pub arguments-list-preserved : goal.arguments-list-preserved
arguments-list-preserved t c = record {
  is = list_goes_on (view c.in_ok-expr.expr) (lexemes c.in_ok-expr.after.tokens.now) c.in_ok-expr.after.parts (lexemes c.in-Some-behind.tokens.now)
      c.list.invariant.is c.in_ok-expr.ensures.is c.in-Some-behind.ensures.is
      (arguments_push c.list.list.items c.push.new.self.items c.in_ok-expr.expr c.in_ok-push.ensures.items);
  shorter = omega (arith, c.list.invariant.shorter, c.in_ok-expr.ensures.shorter, c.in-Some-behind.ensures.shorter);
}

pub primary-returns-in_default-clause-is : goal.primary-returns-in_default-clause-is
primary-returns-in_default-clause-is t c = λ n. rw (c.in_default.ensures.is, primary_end)

pub primary-returns-in-Literal-clause-is : goal.primary-returns-in-Literal-clause-is
primary-returns-in-Literal-clause-is t c = rw (c.in-Some.ensures.is, c.in-Literal.is, primary_constant) c.literal.ensures.is

pub primary-returns-in-Name-clause-is : goal.primary-returns-in-Name-clause-is
primary-returns-in-Name-clause-is t c = rw (c.in-Some.ensures.is, c.in-Name.is, primary_word)
    (rw (c.as_str.ensures.value, c.in-Some.ensures.is, c.in-Name.is) at c.word.ensures.is)

pub primary-returns-in_err-inner-in-Symbol-clause-is : goal.primary-returns-in_err-inner-in-Symbol-clause-is
primary-returns-in_err-inner-in-Symbol-clause-is t c =
    let p = err_from_is_err_and c.from_residual.result c.from_residual.ensures.1 in rw (p.1, p.2) (λ n. rw (
      group_is c.args.depth (lexemes c.args.at.tokens.now) c.args.at.parts c.in-Symbol.field-0 (lexemes c.in-Some.rest.now)
          (c.in-Some.ensures.is ∙ rw c.in-Symbol.is),
      c.in_err-inner-in-Symbol.ensures.is,
    ))

pub primary-returns-in_ok-inner-in-Symbol-clause-is : goal.primary-returns-in_ok-inner-in-Symbol-clause-is
primary-returns-in_ok-inner-in-Symbol-clause-is t c = rw (
  group_is c.args.depth (lexemes c.args.at.tokens.now) c.args.at.parts c.in-Symbol.field-0 (lexemes c.in-Some.rest.now)
      (c.in-Some.ensures.is ∙ rw c.in-Symbol.is),
  c.in_ok-inner-in-Symbol.ensures.is,
  ← c.in_ok-inner-in-Symbol.ensures.same,
) (c.closed.ensures.is _ c.whole.ensures.is)
