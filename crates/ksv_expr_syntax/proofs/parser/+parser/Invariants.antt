use Rattle.ksv_expr_syntax.proofs.Common.{◌≡◌, ◌+◌, ◌*◌, ◌≤◌, ◌<◌, length, map, view, arguments_of, lexemes, Joined, Postfix, read}
use Rattle.ksv_expr_syntax.proofs.Flow.{join_on, suffix_on}
use Rattle.ksv_expr_syntax.specs.Code.{level_of}
use Rattle.ksv_expr_syntax.proofs.Exits.{rank, ListNow}
use Rattle.ksv_expr_syntax.proofs.parser.+parser.Given as goal

abbrev pub decreases-arguments : goal.decreases-arguments
decreases-arguments l = 64 * length l.at.tokens.now + 32

abbrev pub decreases-whole : goal.decreases-whole
decreases-whole l = 64 * length l.at.tokens.now + 31

abbrev pub decreases-arms : goal.decreases-arms
decreases-arms l = 64 * length l.rest.now + 40

abbrev pub decreases-joined : goal.decreases-joined
decreases-joined l = 64 * length l.at.tokens.now + 2 * rank (Joined l.precedence) + 1

abbrev pub decreases-right_side : goal.decreases-right_side
decreases-right_side l = 64 * length l.rest.now + 40

abbrev pub decreases-operand : goal.decreases-operand
decreases-operand l = 64 * length l.at.tokens.now + 2 * rank (level_of l.kind) + 2

abbrev pub decreases-negation : goal.decreases-negation
decreases-negation l = 64 * length l.at.tokens.now + 25

abbrev pub decreases-comparison : goal.decreases-comparison
decreases-comparison l = 64 * length l.at.tokens.now + 23

abbrev pub decreases-unary : goal.decreases-unary
decreases-unary l = 64 * length l.at.tokens.now + 9

abbrev pub decreases-postfix : goal.decreases-postfix
decreases-postfix l = 64 * length l.at.tokens.now + 7

abbrev pub decreases-primary : goal.decreases-primary
decreases-primary l = 64 * length l.at.tokens.now + 5

abbrev pub decreases-suffix : goal.decreases-suffix
decreases-suffix l = 64 * length l.rest.now + 50

abbrev pub decreases-call_list : goal.decreases-call_list
decreases-call_list l = 64 * length l.rest.now + 40

abbrev pub decreases-place : goal.decreases-place
decreases-place l = 64 * length l.rest.now + 40

abbrev pub invariant-joined-operators : goal.invariant-joined-operators
invariant-joined-operators l = record {
  is : read (Joined l.precedence) l.depth (lexemes l.fn.at.tokens.now) l.fn.at.parts ≡ join_on l.precedence (view l.left) l.depth (lexemes l.now.tokens.now)
      l.now.parts;
  shorter : length l.now.tokens.now < length l.fn.at.tokens.now;
}

abbrev pub decreases-joined-operators : goal.decreases-joined-operators
decreases-joined-operators l = length l.now.tokens.now

abbrev pub invariant-postfix-suffixes : goal.invariant-postfix-suffixes
invariant-postfix-suffixes l = record {
  is : read Postfix l.depth (lexemes l.fn.at.tokens.now) l.fn.at.parts ≡ suffix_on (view l.object) l.depth (lexemes l.now.tokens.now) l.now.parts;
  shorter : length l.now.tokens.now < length l.fn.at.tokens.now;
}

abbrev pub decreases-postfix-suffixes : goal.decreases-postfix-suffixes
decreases-postfix-suffixes l = length l.now.tokens.now

abbrev pub invariant-arguments-list : goal.invariant-arguments-list
invariant-arguments-list l = record {
  is : ListNow l.depth (lexemes l.fn.at.tokens.now) l.fn.at.parts (arguments_of (map view l.list.items)) (lexemes l.now.tokens.now) l.now.parts;
  shorter : length l.now.tokens.now ≤ length l.fn.at.tokens.now;
}

abbrev pub decreases-arguments-list : goal.decreases-arguments-list
decreases-arguments-list l = length l.now.tokens.now
