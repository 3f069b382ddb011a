use Rattle.std.proofs.Common.{ap, ◌∙◌}
use Rattle.ksv_bytes.proofs.Around.{around-moved_left, around-moved_right}
use Rattle.ksv_bytes.specs.Code.{around}
use Rattle.ksv_bytes.proofs.gap.move_gap.Goals as goal

pub returns-then-to-front : goal.returns-then-to-front
returns-then-to-front c = ap (λ bytes. around bytes c.args.to c.args.gap) c.copy_within.ensures.after
    ∙ around-moved_left c.args.bytes.now c.args.front c.args.gap c.args.to c.requires.gap c.if-to-front.true

pub returns-then-front-to : goal.returns-then-front-to
returns-then-front-to c = ap (λ bytes. around bytes c.args.to c.args.gap) c.copy_within-then-front-to.ensures.after
    ∙ around-moved_right c.args.bytes.now c.args.front c.args.gap c.args.to c.requires.inside c.if-front-to.true
