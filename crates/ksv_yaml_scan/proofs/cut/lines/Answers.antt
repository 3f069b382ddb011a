use Rattle.ksv_yaml_scan.proofs.Common.{arith, common_steps}
use Rattle.ksv_yaml_scan.proofs.cut.lines.Goals as goal

-- the line is a part of what is left
pub make_line-requires : goal.make_line-requires
make_line-requires c =
    omega (arith, c.line_bytes-bytes.ensures.shorter, c.in-Some.ensures.shorter.0, c.loop-first.invariant.2, c.loop-first.invariant.3, c.requires)

pub loop-first-preserved : goal.loop-first-preserved
loop-first-preserved c = grind (arith, common_steps)
