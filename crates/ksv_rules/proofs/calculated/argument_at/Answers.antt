use Rattle.std.proofs.Common.{rules, ◌<◌, ◌≤◌, length, arith}
use Rattle.std.proofs.lemmas.Bool.Decides.{nat_tests}
use Rattle.ksv_rules.proofs.Arguments.{is_there, is_past}
use Rattle.ksv_rules.proofs.calculated.argument_at.Goals as goal

pub returns-in-None : goal.returns-in-None
returns-in-None c =
    let test = c.in-None.ensures.lookup.0 in
    let past : length c.args.given.now ≤ c.args.number = grind (arith, nat_tests) in
    let told = is_past c.args.given.now c.args.number past in
    search (rules, told)

pub returns-in-Some : goal.returns-in-Some
returns-in-Some c =
    let test = c.in-Some.ensures.lookup.0 in
    let inside : c.args.number < length c.args.given.now = grind (arith, nat_tests) in
    let told = is_there c.args.given.now c.args.number c.in-Some.argument.now inside c.in-Some.ensures.lookup.1 in
    search (rules, told)
