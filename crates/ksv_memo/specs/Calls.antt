-- What one call of the rules does to the frames. Only the table's own contracts use it.
use Rattle.std.specs.Prelude.{◌≡◌, List, ◌++◌, drop, Result}
use Rattle.ksv_memo_rules.specs.declared.replies.Slot.{Slot}
use Rattle.ksv_memo_rules.specs.declared.rules.Next.{Next}
use Rattle.ksv_memo_rules.specs.Meaning.{Standing}
use Rattle.ksv_memo_rules.specs.Slots.{answers_at}
use Rattle.ksv_memo.specs.declared.frames.Frame.{Frame}
use Rattle.ksv_memo.specs.declared.frames.Frames.{Frames}
use Rattle.ksv_memo.specs.Layout.{slots_of}
use Rattle.ksv_memo.specs.Moves.{EndsWith}

-- the replies that the node of a frame got
abbrev pub replies_of : {N V F : Type 0} → List (N × Slot V F) → Frame N → Frames N → List (Result V F)
replies_of ps f frames = answers_at (slots_of ps) (drop f.asked frames.asked.items)

-- the node of the last frame was run: this is its next step, and its call's uses were added
pub record Runs {N V F : Type 0} (w : Standing N (Result V F)) (ps : List (N × Slot V F)) (old new : Frames N) (s : Next N (Result V F)) : Type 0 where
  pub frame : Frame N
  pub last : EndsWith frame old.frames.items
  pub step : s ≡ w.follow frame.node (replies_of ps frame old)
  pub uses : new.uses.items ≡ old.uses.items ++ w.added frame.node (replies_of ps frame old)
