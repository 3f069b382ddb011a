use Rattle.std.proofs.Common.{◌≡◌, ◌++◌, take, string_bytes}
use Rattle.ksv_desc.specs.Whole.{plain_pieces}
use Rattle.ksv_texts.specs.Texts.{names_text}
use Rattle.ksv_texts.proofs.text.names_text.Given as goal

abbrev pub invariant-loop-number : goal.invariant-loop-number
invariant-loop-number l = string_bytes l.text ≡ string_bytes l.initial.text ++ names_text (plain_pieces l.desc) (take l.number-index l.names)
