use Rattle.std.proofs.Common.{◌≡◌, ap, ◌∙◌, rules}
use Rattle.ksv_expr_meaning.specs.Integers.{floored_quotient}
use Rattle.ksv_expr_value.specs.Range.{ranged}
use Rattle.ksv_expr_meaning.proofs.Division.{seen, seen_quotient}
use Rattle.ksv_expr_eval.proofs.arithmetic.divide.Goals as goal

pub returns-then-by-lt0 : goal.returns-then-by-lt0
returns-then-by-lt0 c =
    let same : seen c.div_euclid.result ≡ c.div_euclid.result = search rules in
    c.new.ensures
    ∙ ap ranged same
    ∙ ap ranged (seen_quotient c.get-value.result c.get-by.result c.div_euclid.result c.get-value.ensures.in_range c.get-by.ensures.in_range c.if-by-lt0.true
    c.div_euclid.ensures)
    ∙ ap ranged (ap (λ z. floored_quotient z c.get-by.result) c.get-value.ensures.value ∙ ap (floored_quotient c.args.number) c.get-by.ensures.value)
