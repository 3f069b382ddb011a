use Rattle.std.proofs.Common.{◌≡◌, ◌++◌, take, string_bytes}
use Rattle.ksv_paths.specs.PathTexts.{steps_text}
use Rattle.ksv_desc.specs.Whole.{plain_pieces}
use Rattle.ksv_texts.proofs.text.push_steps.Given as goal

abbrev pub invariant-loop-step : goal.invariant-loop-step
invariant-loop-step l = string_bytes l.text ≡ string_bytes l.initial.text ++ steps_text (plain_pieces l.desc) (take l.step-index l.steps)
