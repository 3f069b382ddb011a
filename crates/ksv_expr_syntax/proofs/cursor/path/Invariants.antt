use Rattle.ksv_expr_syntax.proofs.Common.{◌≡◌, ◌≤◌, length, map, string_bytes, lexemes}
use Rattle.ksv_expr_syntax.proofs.Loops.{PathNow}
use Rattle.ksv_expr_syntax.proofs.cursor.path.Given as goal

abbrev pub invariant-names : goal.invariant-names
invariant-names l = record {
  is : PathNow (lexemes l.fn.at.tokens.now) (map string_bytes l.names.items) (lexemes l.now.tokens.now);
  same : l.now.parts ≡ l.fn.at.parts;
  shorter : length l.now.tokens.now ≤ length l.fn.at.tokens.now;
}

abbrev pub decreases-names : goal.decreases-names
decreases-names l = length l.now.tokens.now
