use Rattle.std.proofs.Common.{◌≡◌, ◌∙◌, ◌*◌, ◌^◌, ◌<◌, ◌≤◌, length, ap, arith}
use Rattle.std.proofs.Math.Nat.{mod-le}
use Rattle.ksv_expr_value.specs.Bytes.{content}
use Rattle.ksv_expr_value.specs.Places.{bits_between, bits_left}
use Rattle.ksv_texts.proofs.Among.{few_bits, few_numbers, has_room, replaced}
use Rattle.ksv_texts.proofs.bits.replaced_number.Goals as goal

pub power-unit-requires : goal.power-unit-requires
power-unit-requires c =
    omega (
      arith,
      few_bits c.args.from c.args.to (length (content c.args.parts)) c.requires.met c.requires.ordered c.requires.few,
      c.from.ensures,
      c.bits_left.ensures,
    )

pub power-values-requires : goal.power-values-requires
power-values-requires c =
    omega (arith, few_bits c.args.from c.args.to (length (content c.args.parts)) c.requires.met c.requires.ordered c.requires.few, c.bits_to.ensures)

pub overflow_mul-result-2 : goal.overflow_mul-result-2
overflow_mul-result-2 c =
    let few = few_bits c.args.from c.args.to (length (content c.args.parts)) c.requires.met c.requires.ordered c.requires.few in
    let unit : c.power-unit.result ≡ 2 ^ bits_left c.args.to = c.power-unit.ensures ∙ ap (λ n. 2 ^ n) (omega (arith, c.from.ensures, c.bits_left.ensures)) in
    let values : c.power-values.result ≡ 2 ^ bits_between c.args.from c.args.to = c.power-values.ensures ∙ ap (λ n. 2 ^ n) c.bits_to.ensures in
    let most : c.power-unit.result * c.power-values.result ≤ 2 ^ 72 =
    rw (unit, values) (few_numbers (bits_left c.args.to) (bits_between c.args.from c.args.to) few) in
    let small : c.args.number < c.power-values.result = rw values c.requires.holds in
    let room = has_room c.number-whole.result c.power-unit.result c.power-values.result c.args.number small most in
    omega (arith, room.among, c.number-whole.ensures.small)

pub overflow_add-result-2 : goal.overflow_add-result-2
overflow_add-result-2 c =
    let few = few_bits c.args.from c.args.to (length (content c.args.parts)) c.requires.met c.requires.ordered c.requires.few in
    let unit : c.power-unit.result ≡ 2 ^ bits_left c.args.to = c.power-unit.ensures ∙ ap (λ n. 2 ^ n) (omega (arith, c.from.ensures, c.bits_left.ensures)) in
    let values : c.power-values.result ≡ 2 ^ bits_between c.args.from c.args.to = c.power-values.ensures ∙ ap (λ n. 2 ^ n) c.bits_to.ensures in
    let most : c.power-unit.result * c.power-values.result ≤ 2 ^ 72 =
    rw (unit, values) (few_numbers (bits_left c.args.to) (bits_between c.args.from c.args.to) few) in
    let small : c.args.number < c.power-values.result = rw values c.requires.holds in
    let room = has_room c.number-whole.result c.power-unit.result c.power-values.result c.args.number small most in
    omega (arith, room.among, c.number-whole.ensures.small, mod-le c.number-whole.result c.power-unit.result)

pub returns : goal.returns
returns c =
    let unit : c.power-unit.result ≡ 2 ^ bits_left c.args.to = c.power-unit.ensures ∙ ap (λ n. 2 ^ n) (omega (arith, c.from.ensures, c.bits_left.ensures)) in
    let values : c.power-values.result ≡ 2 ^ bits_between c.args.from c.args.to = c.power-values.ensures ∙ ap (λ n. 2 ^ n) c.bits_to.ensures in
    rw (unit, values, c.number-whole.ensures.value)
    (replaced c.args.from c.args.to c.args.number (content c.args.parts) c.requires.met c.requires.ordered c.requires.holds)
