use Rattle.ksv_expr_syntax.proofs.Common.{view, lexemes}
use Rattle.ksv_expr_syntax.proofs.Exits.{member_cast}
use Rattle.ksv_expr_syntax.proofs.parser.member.Goals as goal

pub returns-in_default-clause-is : goal.returns-in_default-clause-is
returns-in_default-clause-is c =
    rw (
      c.in_ok-start.ensures.is,
      ← c.in_ok-start.ensures.same,
      member_cast (view c.args.object) (lexemes c.in_ok-start.start.tokens.now) c.in_ok-start.start.parts c.in_default.ensures.is,
    ) c.cast.ensures.is
