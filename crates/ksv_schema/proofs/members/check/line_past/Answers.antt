-- The first line past the limit, of lines that rise.
use Rattle.ksv_schema.proofs.Common.{◌∙◌, ap, slice_get}
use Rattle.ksv_schema.proofs.Limits.{line_past_is}
use Rattle.ksv_schema.proofs.members.check.line_past.Goals as goal

pub returns : goal.returns
returns c = c.line_of.ensures ∙ ap (λ lines. slice_get lines 65536) c.as_slice.ensures.value ∙ line_past_is _ _ _ c.in_ok-lines.ensures
