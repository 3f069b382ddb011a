use Rattle.std.proofs.Common.{◌≡◌, ℕ, ◌+◌, ◌/◌, ◌≤◌, Result, Ok, Err, subst, ap, arith}
use Rattle.std.specs.Prelude.{IfOk}
use Rattle.ksv_bytes.specs.Edits.{file_limit}
use Rattle.ksv_expr_value.specs.Places.{Place, byte_of, bit_in, further, last_place}
use Rattle.ksv_expr_value.proofs.Places.{bits_below, bytes_met}
use Rattle.ksv_nodes.specs.Rule.{reach}
use Rattle.ksv_nodes.specs.declared.turn.Halt.{Halt}
use Rattle.ksv_nodes.specs.Turning.{Runs}
use Rattle.ksv_rules.proofs.shapes.reach_bits.Goals as goal

pub returns-clause-runs : goal.returns-clause-runs
returns-clause-runs c =
    let size : (c.from.result + c.from-2.result + 7) / 8 ≡ (bit_in c.args.start + c.args.width + 7) / 8 =
    ap (λ n. (n + 7) / 8) (omega (arith, c.from.ensures, c.bit_in.ensures, c.from-2.ensures)) in
    let met : c.byte_in.result + (c.from.result + c.from-2.result + 7) / 8 ≡ byte_of (further c.args.start c.args.width) =
    omega (arith, c.byte_in.ensures, size, bytes_met c.args.start c.args.width) in
    subst (λ n. Runs (reach c.args.stream n) (λ _. tt) c.args.turn.now c.reach.new.self c.reach.result) met c.reach.ensures.runs

-- a byte that is reached is in a file, and so is a place before it
reached : (start : Place) (width byte : ℕ) (r : Result ℕ Halt) → byte ≡ byte_of (further start width) → IfOk r (λ to. to ≡ byte)
    → IfOk r (λ to. to ≤ file_limit) → IfOk r (λ _. start.bits + width ≤ last_place)
reached start width byte (Ok to) met is fits = let low : byte_of (further start width) ≤ file_limit =
    omega (arith, is, fits, met) in omega (arith, bits_below start width file_limit low)
reached start width byte (Err e) met is fits = tt

pub returns-clause-fits : goal.returns-clause-fits
returns-clause-fits c =
    let size : (c.from.result + c.from-2.result + 7) / 8 ≡ (bit_in c.args.start + c.args.width + 7) / 8 =
    ap (λ n. (n + 7) / 8) (omega (arith, c.from.ensures, c.bit_in.ensures, c.from-2.ensures)) in
    let met : c.byte_in.result + (c.from.result + c.from-2.result + 7) / 8 ≡ byte_of (further c.args.start c.args.width) =
    omega (arith, c.byte_in.ensures, size, bytes_met c.args.start c.args.width) in
    reached c.args.start c.args.width (c.byte_in.result + (c.from.result + c.from-2.result + 7) / 8) c.reach.result met c.reach.ensures.byte
    c.reach.ensures.fits
