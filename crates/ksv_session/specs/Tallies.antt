-- What `stats` tells along a session: the fold of what is kept, beside that of the bytes.
use Rattle.std.specs.Prelude.{◌≡◌, ℕ, Bool, true, false, List, [], ◌∷◌, length}
use Rattle.ksv_commands.specs.Commands.{command_of}
use Rattle.ksv_desc.specs.Description.{Description}
use Rattle.ksv_session.specs.Explored.{Explored}
use Rattle.ksv_session.specs.Kept.{LeftBy, Memory, memory_after, nothing_kept}
use Rattle.ksv_session.specs.Replies.{Event, Tally, answer}

-- what `stats` tells where just these nodes are kept
abbrev pub tally_in : Memory → Tally
tally_in m = record { kept = length m.kept; turns = m.turns }

-- what a session keeps
abbrev pub memory_of : Explored → Memory
memory_of s = record { kept = s.kept; turns = s.turns }

-- After a line, of which is given whether it ends the session and whether it was refused memory: the session goes on with the bytes after
-- it, and with what the fold keeps then, or, if memory was refused, with some of it as `LeftBy` says. Behind the end no line has a reply.
abbrev pub Behind : Description → List ℕ → Memory → Event → Bool → Bool → (List ℕ → Memory → Type 0) → Type 0
Behind d b m e true refused goes = Unit {0}
Behind d b m e false false goes = goes (answer d b e).bytes (memory_after d b (command_of d e.line) m)
Behind d b m e false true goes = (s : Explored) × LeftBy d b (command_of d e.line) m s × goes (answer d b e).bytes (memory_of s)

-- The tally of each event is that of what is kept when its line comes; `last` is what is kept after all of them.
unfoldable pub Keeps : Description → List ℕ → Memory → List Event → Memory → Type 0
Keeps d b m [] last = last ≡ m
Keeps d b m (e ∷ events) last = (e.tally ≡ tally_in m) × Behind d b m e (answer d b e).ends e.refused (λ after next. Keeps d after next events last)

-- what each `stats` of a session tells, of which nothing is kept before its first line
abbrev pub Tells : Description → List ℕ → List Event → Type 0
Tells d b events = (last : Memory) × Keeps d b nothing_kept events last
