use Rattle.ksv_expr_syntax.proofs.Common.{take, sym, ap, subst, ◌∙◌, IsUtf8, is_name_byte, arith, common_steps}
use Rattle.ksv_expr_syntax.proofs.Lexing.{take_run, names_utf8}
use Rattle.ksv_expr_syntax.proofs.lexer.name_token.Goals as goal

pub as_text-word-requires : goal.as_text-word-requires
as_text-word-requires c =
    subst IsUtf8 (sym (c.before-2.ensures ∙ ap (λ n. take n c.args.text.now) c.name_size-size.ensures ∙ take_run is_name_byte c.args.text.now))
    (names_utf8 c.args.text.now)

pub returns-then-begins_format : goal.returns-then-begins_format
returns-then-begins_format c = grind (arith, common_steps)

pub returns : goal.returns
returns c = grind (arith, common_steps)
