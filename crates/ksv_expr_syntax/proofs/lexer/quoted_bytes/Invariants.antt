use Rattle.ksv_expr_syntax.proofs.Common.{◌≡◌, length, quoted, put}
use Rattle.ksv_expr_syntax.proofs.lexer.quoted_bytes.Given as goal

abbrev pub invariant-bytes : goal.invariant-bytes
invariant-bytes l = quoted l.fn.text ≡ put l.bytes.items (quoted l.rest)

abbrev pub decreases-bytes : goal.decreases-bytes
decreases-bytes l = length l.rest
