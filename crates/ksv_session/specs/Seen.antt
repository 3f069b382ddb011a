-- What values of the code mean, in the words of the other files.
use Rattle.std.specs.Prelude.{ℕ, Bool, true, false, List, [], codes, string_bytes}
use Rattle.ksv_session.specs.Replies.{Replied, Bye, Form, LongText, Nothing, OutOfMemory, ShortText, no_memory_text}
use Rattle.ksv_session.specs.declared.reply.Reply.{Reply}
use Rattle.ksv_session.specs.declared.reply.Reply.TheVariants as replies

-- the bytes of a reply, its LF among them
abbrev pub reply_text : Reply → List ℕ
reply_text replies.None = []
reply_text (replies.Short text) = text.bytes
reply_text (replies.Text text) = string_bytes text
reply_text replies.NoMemory = no_memory_text
reply_text replies.Bye = codes "bye\n"

-- its form
abbrev pub form_of : Reply → Form
form_of replies.None = Nothing
form_of (replies.Short text) = ShortText
form_of (replies.Text text) = LongText
form_of replies.NoMemory = OutOfMemory
form_of replies.Bye = Bye

-- whether a reply is that memory was refused
abbrev pub is_refusal : Reply → Bool
is_refusal replies.None = false
is_refusal (replies.Short text) = false
is_refusal (replies.Text text) = false
is_refusal replies.NoMemory = true
is_refusal replies.Bye = false

abbrev pub is_last : Reply → Bool
is_last replies.None = false
is_last (replies.Short text) = false
is_last (replies.Text text) = false
is_last replies.NoMemory = false
is_last replies.Bye = true

-- a reply, with the bytes after it
abbrev pub answer_seen : List ℕ → Reply → Replied
answer_seen b reply = record { bytes = b; text = reply_text reply; ends = is_last reply }
