use Rattle.ksv_yaml_scan.proofs.Common.{sym, arith, common_steps}
use Rattle.ksv_yaml_scan.proofs.Spaces.{shown_comment, shown_other, shown_nothing}
use Rattle.ksv_yaml_scan.proofs.white.shown.Goals as goal

-- what comes after everything is nothing
pub returns-then-byte-eq35-clause-value : goal.returns-then-byte-eq35-clause-value
returns-then-byte-eq35-clause-value c =
    let h = shown_comment c.args.content.now c.skip-rest.result.now c.in-Some.behind.now c.in-Some.byte c.skip-rest.ensures.value c.in-Some.ensures
    c.if-byte-eq35.true in
    grind (arith, common_steps, h)

pub returns-else-byte-eq35-clause-value : goal.returns-else-byte-eq35-clause-value
returns-else-byte-eq35-clause-value c =
    sym (shown_other c.args.content.now c.skip-rest.result.now c.in-Some.behind.now c.in-Some.byte c.skip-rest.ensures.value c.in-Some.ensures
    c.if-byte-eq35.false)

pub returns-in_default-clause-value : goal.returns-in_default-clause-value
returns-in_default-clause-value c = sym (shown_nothing c.args.content.now c.skip-rest.result.now c.skip-rest.ensures.value c.in_default.ensures)
