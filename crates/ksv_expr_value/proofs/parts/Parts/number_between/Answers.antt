use Rattle.std.proofs.Common.{◌∙◌, ℕ, ◌*◌, ◌/◌, ◌%◌, ◌^◌, ◌≤◌, length, arith, ap, sym}
use Rattle.std.proofs.lemmas.Nat.{pow_pos}
use Rattle.std.proofs.Math.Nat.{mod-le, div-le_self}
use Rattle.ksv_expr_value.specs.Bits.{number_of, bits_of}
use Rattle.ksv_expr_value.specs.Bytes.{content}
use Rattle.ksv_expr_value.specs.Places.{bits_left}
use Rattle.ksv_expr_value.proofs.Binary.{count_unit, field_number}
use Rattle.ksv_expr_value.proofs.Places.{few_between}
use Rattle.ksv_expr_value.proofs.parts.Parts.number_between.Goals as goal

pub overflow_shl-result : goal.overflow_shl-result
overflow_shl-result c = omega (arith, few_between c.args.from c.args.to (length (content c.args.self)) c.requires.met, c.requires.few, c.bits_to.ensures)

pub nonzero_rem-result : goal.nonzero_rem-result
nonzero_rem-result c =
    let few : c.bits_to.result ≤ 72 =
    omega (arith, few_between c.args.from c.args.to (length (content c.args.self)) c.requires.met, c.requires.few, c.bits_to.ensures) in
    omega (arith, count_unit c.bits_to.result few, pow_pos c.bits_to.result)

pub returns-clause-value : goal.returns-clause-value
returns-clause-value c =
    let few : c.bits_to.result ≤ 72 =
    omega (arith, few_between c.args.from c.args.to (length (content c.args.self)) c.requires.met, c.requires.few, c.bits_to.ensures) in
    ap (λ n. c.number.result / 2 ^ c.bits_left.result % n) (count_unit c.bits_to.result few)
    ∙ ap (λ n. n / 2 ^ c.bits_left.result % 2 ^ c.bits_to.result) c.number.ensures.value
    ∙ ap (λ n. number_of (bits_of (content c.args.self)) / 2 ^ n % 2 ^ c.bits_to.result) c.bits_left.ensures
    ∙ ap (λ n. number_of (bits_of (content c.args.self)) / 2 ^ bits_left c.args.to % 2 ^ n) c.bits_to.ensures
    ∙ sym (field_number c.args.from c.args.to (content c.args.self) c.requires.met)

pub returns-clause-small : goal.returns-clause-small
returns-clause-small c =
    let rest : ℕ = c.number.result / 2 ^ c.bits_left.result in
    let base : ℕ = 1 * 2 ^ c.bits_to.result % 340282366920938463463374607431768211456 in
    omega (arith, mod-le rest base, div-le_self c.number.result (2 ^ c.bits_left.result), c.number.ensures.small)
