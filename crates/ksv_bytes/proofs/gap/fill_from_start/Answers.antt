use Rattle.std.proofs.Common.{ap, ◌∙◌, ◌+◌, ◌-◌, length}
use Rattle.ksv_bytes.proofs.Around.{around-filled_from_start}
use Rattle.ksv_bytes.specs.Code.{around}
use Rattle.ksv_bytes.proofs.gap.fill_from_start.Goals as goal

pub returns : goal.returns
returns c = ap (λ bytes. around bytes (c.args.front + length c.args.new.now) (c.args.gap - length c.args.new.now)) c.write.ensures
    ∙ around-filled_from_start c.args.bytes.now c.args.new.now c.args.front c.args.gap c.requires.gap c.requires.wide
