use Rattle.ksv_expr_syntax.proofs.Lexing.{unicode_final}
use Rattle.ksv_expr_syntax.proofs.lexer.unicode_character.Goals as goal

pub returns : goal.returns
returns c = unicode_final c.args.first c.args.second c.args.third c.args.fourth c.four_digit_number-number.result c.all_hexadecimal-valid.result
    c.is_half-half.result c.from_u32.result c.all_hexadecimal-valid.ensures c.if-not-valid.false c.four_digit_number-number.ensures.is c.is_half-half.ensures
    c.if-half.false c.four_digit_number-number.ensures.bound c.from_u32.ensures.cases c.from_u32.ensures.value
