use Rattle.ksv_yaml_scan.proofs.Cutting.{line_at_spaces}
use Rattle.ksv_yaml_scan.proofs.cut.make_line.Goals as goal

pub returns : goal.returns
returns c = line_at_spaces c.args.number c.spaces-indent.result c.args.ended c.args.bytes.now c.split_at.result.1.now c.spaces-indent.ensures.value
    c.split_at.ensures.back
