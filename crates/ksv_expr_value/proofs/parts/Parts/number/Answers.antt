use Rattle.std.proofs.Common.{◌≡◌, ◌∙◌, ◌+◌, ◌*◌, ◌^◌, ◌<◌, ◌≤◌, ◌++◌, length, arith, ap, sym, lit<, length-append}
use Rattle.std.proofs.Math.Nat.{pow-le-pow_right}
use Rattle.ksv_expr_value.specs.Bits.{number_of, bits_of}
use Rattle.ksv_expr_value.proofs.Binary.{bytes_joined, bytes_small, room_for_back}
use Rattle.ksv_expr_value.proofs.parts.Parts.number.Goals as goal

pub with_bytes-front-requires : goal.with_bytes-front-requires
with_bytes-front-requires c =
    let few : length c.args.self.front.now ≤ 9 = omega (arith, length-append c.args.self.front.now c.args.self.back.now) in
    let most : 256 ^ length c.args.self.front.now ≤ 256 ^ 9 = pow-le-pow_right {n = 256} (lit< tt) {i = length c.args.self.front.now} {j = 9} few in
    omega (arith, most)

pub with_bytes-requires : goal.with_bytes-requires
with_bytes-requires c =
    let front = c.args.self.front.now in
    let back = c.args.self.back.now in
    let few : length front + length back ≤ 9 = omega (arith, length-append front back) in
    let small : c.with_bytes-front.result < 256 ^ length front = omega (arith, c.with_bytes-front.ensures, bytes_small front) in
    room_for_back c.with_bytes-front.result (length front) (length back) small few

pub returns-clause-small : goal.returns-clause-small
returns-clause-small c =
    let front = c.args.self.front.now in
    let back = c.args.self.back.now in
    let few : length (front ++ back) ≤ 9 = c.requires in
    let most : 256 ^ length (front ++ back) ≤ 256 ^ 9 = pow-le-pow_right {n = 256} (lit< tt) {i = length (front ++ back)} {j = 9} few in
    let first : c.with_bytes-front.result ≡ number_of (bits_of front) = omega (arith, c.with_bytes-front.ensures) in
    let whole : c.with_bytes.result ≡ number_of (bits_of (front ++ back)) =
    c.with_bytes.ensures ∙ ap (λ n. n * 256 ^ length back + number_of (bits_of back)) first ∙ sym (bytes_joined front back) in
    omega (arith, most, bytes_small (front ++ back), whole)
