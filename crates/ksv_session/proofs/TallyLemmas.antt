-- What is kept along a session, line by line.
use Rattle.std.proofs.Common.{◌≡◌, ◌∙◌, ℕ, Bool, true, false, List, [], ◌∷◌, ◌++◌, fold, length, ap, refl, subst, sym, true≢false}
use Rattle.ksv_commands.specs.Commands.{command_of}
use Rattle.ksv_commands.specs.declared.command.Command.{Command}
use Rattle.ksv_commands.specs.declared.command.Command.TheVariants.{App, Ask, Blank, Bytes, Del, Ins, Put, Quit, Refused, Set, Size, Stats}
use Rattle.ksv_desc.specs.Description.{Description}
use Rattle.ksv_nodes.specs.declared.node.Node.{Node}
use Rattle.ksv_session.specs.Explored.{Explored, tally_of}
use Rattle.ksv_session.specs.Kept.{AreTheSame, Holds, IsEachOnce, LeftBy, Memory, Remembers, memory_after}
use Rattle.ksv_session.specs.Replies.{Event, answer, is_fair}
use Rattle.ksv_session.specs.Session.{Standing, after_event, answered}
use Rattle.ksv_session.specs.Tallies.{Behind, Keeps, memory_of, tally_in}

-- a session that keeps these nodes tells so
pub holds_tally : (s : Explored) (m : Memory) → Holds s m → tally_of s ≡ tally_in m
holds_tally s m h = ap (λ n. record { kept = n; turns = s.turns }) h.kept.size ∙ ap (λ t. record { kept = length m.kept; turns = t }) h.turns

same_nodes : (ns : List Node) → IsEachOnce ns → AreTheSame ns ns
same_nodes ns once = record { once = once; each = once; same = λ n. refl; size = refl }

left_once : (d : Description) (b : List ℕ) (command : Command) (m : Memory) (s : Explored) → LeftBy d b command m s → IsEachOnce s.kept
left_once d b (Ask question) m s h = h.once
left_once d b (Put path n) m s h = h.once
left_once d b Blank m s h = h.kept.once
left_once d b (Refused refusal) m s h = h.kept.once
left_once d b (Set at bytes) m s h = h.kept.once
left_once d b (Ins at bytes) m s h = h.kept.once
left_once d b (Del at count) m s h = h.kept.once
left_once d b (App bytes) m s h = h.kept.once
left_once d b (Bytes at count) m s h = h.kept.once
left_once d b Size m s h = h.kept.once
left_once d b Stats m s h = h.kept.once
left_once d b Quit m s h = h.kept.once

-- whatever a session keeps, it holds that
holds_own : (s : Explored) → IsEachOnce s.kept → Holds s (memory_of s)
holds_own s once = record { kept = same_nodes s.kept once; turns = refl }

-- after a line: what is kept then
behind_line : (d : Description) (b : List ℕ) (m : Memory) (e : Event) (new : Explored) (ends refused : Bool) → Remembers d b (command_of d e.line) refused m new
    → (next : Memory) × Behind d b m e ends refused (λ after n. next ≡ n) × (ends ≡ false → Holds new next)
behind_line d b m e new true refused r = (m, tt, λ no. absurd (true≢false no))
behind_line d b m e new false false r = (memory_after d b (command_of d e.line) m, refl, λ no. r)
behind_line d b m e new false true r = (memory_of new, (new, r, refl), λ no. holds_own new (left_once d b (command_of d e.line) m new r))

-- one line
pub keeps_line : (d : Description) (b : List ℕ) (m : Memory) (e : Event) (new : Explored) → e.tally ≡ tally_in m
    → Remembers d b (command_of d e.line) e.refused m new
    → (next : Memory) × Keeps d b m (e ∷ []) next × ((answer d b e).ends ≡ false → Holds new next)
unfolding Keeps
keeps_line d b m e new told r =
    let behind = behind_line d b m e new (answer d b e).ends e.refused r in
    (behind.0, (told, behind.1), behind.2)

-- a line that ends the session
pub keeps_end : (d : Description) (b : List ℕ) (m : Memory) (e : Event) (tail : List Event) → e.tally ≡ tally_in m → (answer d b e).ends ≡ true
    → Keeps d b m (e ∷ tail) m
unfolding Keeps
keeps_end d b m e tail told ends = (told, subst (λ x. Behind d b m e x e.refused (λ after next. Keeps d after next tail m)) (sym ends) tt)

-- lines after others, where the session goes on
pub keeps_append : (d : Description) (s : Standing) (m : Memory) (events more : List Event) (mid last : Memory) → s.ended ≡ false → Keeps d s.bytes m events mid
    → (fold (after_event d) s events).ended ≡ false → Keeps d (fold (after_event d) s events).bytes mid more last → Keeps d s.bytes m (events ++ more) last
unfolding Keeps
keeps_append d s m [] more mid last going k ended rest = subst (λ m. Keeps d s.bytes m more last) k rest
keeps_append d s m (e ∷ events) more mid last going k ended rest = (
  k.0,
  by (answer d s.bytes e).ends e.refused refl k.1
      (λ no n h. keeps_append d t n events more mid last no h (subst (λ t. (fold (after_event d) t events).ended ≡ false) same ended)
      (subst (λ t. Keeps d (fold (after_event d) t events).bytes mid more last) same rest)),
)
  where
    t : Standing
    t = answered s (answer d s.bytes e) (is_fair d s.bytes e)

    same : after_event d s e ≡ t
    same = rw going refl

    by : (ends refused : Bool) → (answer d s.bytes e).ends ≡ ends → Behind d s.bytes m e ends refused (λ after next. Keeps d after next events mid)
        → ((answer d s.bytes e).ends ≡ false → (n : Memory) → Keeps d (answer d s.bytes e).bytes n events mid
        → Keeps d (answer d s.bytes e).bytes n (events ++ more) last)
        → Behind d s.bytes m e ends refused (λ after next. Keeps d after next (events ++ more) last)
    by true refused is h on = tt
    by false false is h on = on is (memory_after d s.bytes (command_of d e.line) m) h
    by false true is h on = (h.0, h.1, on is (memory_of h.0) h.2)
