use Rattle.ksv_expr_syntax.proofs.Common.{length, lexemes}
use Rattle.ksv_expr_syntax.proofs.Scan.{ScanNow}
use Rattle.ksv_expr_syntax.proofs.lexer.scan_text.Given as goal

abbrev pub invariant-tokens : goal.invariant-tokens
invariant-tokens l = ScanNow l.fn.text (lexemes l.tokens.items) l.dot l.rest

abbrev pub decreases-tokens : goal.decreases-tokens
decreases-tokens l = length l.rest
