use Rattle.std.proofs.Common.{ap, ◌∙◌}
use Rattle.ksv_expr_meaning.specs.Integers.{floored_remainder}
use Rattle.ksv_expr_value.specs.Range.{ranged}
use Rattle.ksv_expr_meaning.proofs.Division.{seen_remainder}
use Rattle.ksv_expr_eval.proofs.arithmetic.remainder.Goals as goal

pub returns-then-by-lt0 : goal.returns-then-by-lt0
returns-then-by-lt0 c =
    c.new.ensures
    ∙ ap ranged (seen_remainder c.get-value.result c.get-by.result c.rem_euclid.result c.get-value.ensures.in_range c.get-by.ensures.in_range c.if-by-lt0.true
    c.rem_euclid.ensures.value)
    ∙ ap ranged (ap (λ z. floored_remainder z c.get-by.result) c.get-value.ensures.value ∙ ap (floored_remainder c.args.number) c.get-by.ensures.value)
