use Rattle.ksv_yaml_scan.proofs.Common.{sym, ◌∙◌, arith}
use Rattle.ksv_yaml_scan.proofs.Spaces.{columns_shown, columns_stop}
use Rattle.ksv_yaml_scan.proofs.start.columns.Goals as goal

-- what is shown comes after the white space
pub returns-then-not-is_white-clause-within : goal.returns-then-not-is_white-clause-within
returns-then-not-is_white-clause-within c =
    let stop = columns_stop c.args.content.now c.loop-i.i c.loop-i-test.true (sym c.is_white.ensures ∙ c.if-not-is_white.true) in
    omega (arith, stop, c.loop-i.invariant, columns_shown c.args.content.now)

pub returns-clause-within : goal.returns-clause-within
returns-clause-within c = omega (arith, c.loop-i-test.false, c.loop-i.invariant, columns_shown c.args.content.now)
