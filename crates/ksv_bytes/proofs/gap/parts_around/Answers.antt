use Rattle.ksv_bytes.proofs.Around.{range-around}
use Rattle.ksv_bytes.proofs.gap.parts_around.Goals as goal

pub returns : goal.returns
returns c = range-around c.args.bytes.now c.args.front c.args.gap c.args.window.from c.args.window.to c.clamp-cut.result c.requires.gap c.requires.ordered
    c.clamp-cut.ensures
