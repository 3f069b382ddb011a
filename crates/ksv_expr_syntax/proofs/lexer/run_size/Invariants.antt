use Rattle.ksv_expr_syntax.proofs.Common.{◌≡◌, ◌+◌, ◌≤◌, length}
use Rattle.ksv_expr_syntax.specs.Cutting.{run}
use Rattle.ksv_expr_syntax.proofs.lexer.run_size.Given as goal

abbrev pub invariant-digits : goal.invariant-digits
invariant-digits l = record {
  is : run l.radix l.fn.text ≡ l.size + run l.radix l.rest;
  within : l.size + length l.rest ≤ length l.fn.text;
}

abbrev pub decreases-digits : goal.decreases-digits
decreases-digits l = length l.rest
