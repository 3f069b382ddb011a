-- A text whose tokens spell no type, or that has none, spells no type.
use Rattle.ksv_expr_syntax.proofs.Common.{subst, err_from_is_err_and, lexemes}
use Rattle.ksv_expr_tree.specs.Tree.{TypeTree}
use Rattle.ksv_expr_syntax.specs.Grammar.{SpellsType}
use Rattle.ksv_expr_syntax.proofs.Theorem.{refused_type}
use Rattle.ksv_expr_syntax.proofs.read.parse_type.Goals as goal

pub returns-in_err-type_ref-clause-refused : goal.returns-in_err-type_ref-clause-refused
returns-in_err-type_ref-clause-refused c =
    let p = err_from_is_err_and c.from_residual-in_err-type_ref.result c.from_residual-in_err-type_ref.ensures.1 in
    rw (p.1, p.2) (λ n. refused_type c.args.text.now (lexemes c.in_ok-scan.scan.tokens.items) c.in_ok-scan.scan.fault c.in_ok-scan.ensures
    (subst (λ ts. (t : TypeTree) → SpellsType (lexemes ts) t → ⊥) c.as_slice.ensures.value (c.in_err-type_ref.ensures.refused n)))
