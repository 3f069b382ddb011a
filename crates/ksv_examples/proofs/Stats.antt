-- What is kept by evaluations to a depth is what is kept by the definitions, and so `stats` tells it.
use Rattle.std.proofs.Common.{◌≡◌, ℕ, ◌+◌, ◌-◌, ◌^◌, min, ◌||◌, Bool, true, false, not, List, [], ◌∷◌, ◌++◌, length, fold, filter, if◌then◌else◌, Option, Some, None, option_map, option_and_then, Result, Ok, Err, refl, ap, sym, ◌∙◌, subst}
use Rattle.std.specs.List.{flat_map, list_any}
use Rattle.ksv_bytes.specs.declared.edit.EditRefusal.{EditRefusal}
use Rattle.ksv_bytes.specs.declared.uses.Change.{Change}
use Rattle.ksv_commands.specs.Commands.{command_of}
use Rattle.ksv_commands.specs.declared.command.Command.{Command}
use Rattle.ksv_commands.specs.declared.command.Command.TheVariants as commands
use Rattle.ksv_desc.specs.Description.{Description}
use Rattle.ksv_rule_meaning.specs.Completed.{completed, meets_circle}
use Rattle.ksv_rule_meaning.specs.Kept.{calls, is_hit, is_touched, kept_after, kept_with, turns_of}
use Rattle.ksv_memo_rules.specs.Evaluation.{is_among}
use Rattle.ksv_memo_rules.specs.Right.{fresh}
use Rattle.ksv_bytes.specs.Uses.{is_use_touched}
use Rattle.ksv_nodes.specs.Numbers.{node_number}
use Rattle.ksv_nodes.specs.declared.given.Given.{Given}
use Rattle.ksv_nodes.specs.declared.node.Node.{Node}
use Rattle.ksv_nodes.specs.declared.node_fault.NodeFault.{NodeFault}
use Rattle.ksv_basics.specs.Plan as plan
use Rattle.ksv_questions.specs.Answers.{asking, asks}
use Rattle.ksv_questions.specs.Asking.{Asking, Failure}
use Rattle.ksv_session.specs.Kept.{Memory, after_asking, after_edit, memory_after}
use Rattle.ksv_session.specs.Replies.{Event}
use Rattle.ksv_session.specs.Session.{Standing, after_event, answered}
use Rattle.ksv_examples.specs.Depth.{is_open, line_answer}
use Rattle.ksv_examples.specs.Stats.{event_of, events_from, tally_of, told_to}
use Rattle.ksv_examples.specs.Walks.{Walk, behind_node, calls_to, ended, kept_to, memory_asked, memory_edited, memory_to, new_nodes, question_walk, touched_to, touches_to, turns_to, walk_at, with_heard}
use Rattle.ksv_examples.proofs.Depth.{open_numbered, some_is}
use Rattle.ksv_examples.proofs.Sessions.{bound, ended_event, line_is, mapped, open_event}
use Rattle.ksv_examples.proofs.Walks.{Alone, alone}

-- ---- new nodes

new_level : (kept : List Node) (m : Node) (ms : List Node) → fresh node_number kept ms ≡ new_nodes kept ms → fresh node_number (kept ++ m ∷ []) ms ≡ new_nodes (kept ++ m ∷ []) ms
    → (b : Bool) → is_open kept m ≡ b → fresh node_number kept (m ∷ ms) ≡ elim b as (λ _. List Node) [ true ↦ new_nodes kept ms | false ↦ m ∷ new_nodes (kept ++ m ∷ []) ms ]
unfolding fresh
new_level kept m ms same more true found = let among : is_among node_number kept m ≡ true = sym (open_numbered kept m) ∙ found in rw among same
new_level kept m ms same more false found = let among : is_among node_number kept m ≡ false = sym (open_numbered kept m) ∙ found in rw among (ap (λ ns. m ∷ ns) more)

new_is : (kept ms : List Node) → fresh node_number kept ms ≡ new_nodes kept ms
unfolding fresh
new_is kept [] = refl
new_is kept (m ∷ ms) = new_level kept m ms (new_is kept ms) (new_is (kept ++ m ∷ []) ms) (is_open kept m) refl

module _ (d : Description) (depth : ℕ) (bytes : List ℕ) where
  abbrev met : Node → Option (Walk Given NodeFault)
  met = walk_at d bytes depth []

  alone_at : (n : Node) (x : Walk Given NodeFault) → met n ≡ Some x → Alone d bytes n x
  alone_at n x e = alone d bytes depth n x e

  -- ---- questions

  record Asked {A : Type 0} (q : Asking A) (w : Walk A Failure) : Type 0 where
    circle : list_any (meets_circle d bytes []) (asks d bytes q) ≡ w.circle
    completed : flat_map (completed d bytes []) (asks d bytes q) ≡ w.completed

  behind : {A : Type 0} (n : Node) (k : Result Given NodeFault → Asking A) (x : Walk Given NodeFault) (r : Walk A Failure) → Alone d bytes n x
      → Asked (k x.answer) r → Asked (plan.Ask n k) (behind_node n x r)
  behind n k x r is rest = record {
    circle = rw (is.answer, is.circle) (ap (λ b. x.circle || b) rest.circle);
    completed = rw (is.answer, is.completed) (ap (λ ms. x.completed ++ ms) rest.completed);
  }

  heard : {A : Type 0} (n : Node) (k : Result Given NodeFault → Asking A)
      → ((h : Result Given NodeFault) (r : Walk A Failure) → question_walk met (k h) ≡ Some r → Asked (k h) r)
      → (o : Option (Walk Given NodeFault)) → met n ≡ o → (w : Walk A Failure) → with_heard n o (λ h. question_walk met (k h)) ≡ Some w → Asked (plan.Ask n k) w
  heard n k rest None is w e = absurd (cc)
  heard n k rest (Some x) is w e =
      let b = mapped (behind_node n x) (question_walk met (k x.answer)) w e in
      subst (Asked (plan.Ask n k)) b.2 (behind n k x b.0 (alone_at n x is) (rest x.answer b.0 b.1))

  asked_is : {A : Type 0} (q : Asking A) (w : Walk A Failure) → question_walk met q ≡ Some w → Asked q w
  asked_is (plan.Answer a) w e = subst (Asked (plan.Answer a)) (some_is (ended (Ok a)) w e) (record { circle = refl; completed = refl })
  asked_is (plan.Fail x) w e = subst (Asked (plan.Fail x)) (some_is (ended (Err x)) w e) (record { circle = refl; completed = refl })
  asked_is (plan.Ask n k) w e = heard n k (λ h r. asked_is (k h) r) (met n) refl w e

  calls_is : (count : ℕ) (ns : List Node) (all : ℕ) → calls_to d depth bytes count ns ≡ Some all → fold (λ a n. a + calls d bytes n) count ns ≡ all
  calls_is count [] all e = some_is count all e
  calls_is count (n ∷ ns) all e =
      let b = bound (λ x. calls_to d depth bytes (count + (length x.asks + 1)) ns) (met n) all e in
      rw (alone_at n b.0 b.1).asks (calls_is (count + (length b.0.asks + 1)) ns all b.2)

  turns_is : (circle : Bool) (ns : List Node) (turns : Option ℕ) → turns_to d depth bytes circle ns ≡ Some turns → (if circle then None else Some (min (fold (λ a n. a + calls d bytes n) 0 ns) (2 ^ 64 - 1))) ≡ turns
  turns_is true ns turns e = some_is None turns e
  turns_is false ns turns e =
      let b = mapped (λ count. Some (min count (2 ^ 64 - 1))) (calls_to d depth bytes 0 ns) turns e in
      rw (calls_is 0 ns b.0 b.1) b.2

  memory_asked_is : {A : Type 0} (q : Asking A) (m : Memory) (w : Walk A Failure) (after : Memory) → question_walk met q ≡ Some w → memory_asked d depth bytes m w ≡ Some after → after_asking d bytes (asks d bytes q) m ≡ after
  unfolding kept_with turns_of
  memory_asked_is q m w after walked e =
      let is = asked_is q w walked in
      let b = mapped (λ turns. record { kept = m.kept ++ new_nodes m.kept w.completed; turns = turns }) (turns_to d depth bytes w.circle (new_nodes m.kept w.completed)) after e in
      rw (is.circle, is.completed, new_is m.kept w.completed) (ap (λ turns. record { kept = m.kept ++ new_nodes m.kept w.completed; turns = turns }) (turns_is w.circle (new_nodes m.kept w.completed) b.0 b.1) ∙ b.2)

  -- ---- edits

  touch_level : (change : Change) (n : Node) (ns : List Node) (x : Walk Given NodeFault) → Alone d bytes n x
      → ((t : Bool) → touches_to d depth bytes change ns ≡ Some t → list_any (is_hit d bytes change) ns ≡ t)
      → (b : Bool) → list_any (is_use_touched change) x.uses ≡ b → (t : Bool) → elim b as (λ _. Option Bool) [ true ↦ Some true | false ↦ touches_to d depth bytes change ns ] ≡ Some t → list_any (is_hit d bytes change) (n ∷ ns) ≡ t
  touch_level change n ns x is rest true hit t e = rw (is.uses, hit) (some_is true t e)
  touch_level change n ns x is rest false hit t e = rw (is.uses, hit) (rest t e)

  touches_is : (change : Change) (ns : List Node) (t : Bool) → touches_to d depth bytes change ns ≡ Some t → list_any (is_hit d bytes change) ns ≡ t
  touches_is change [] t e = some_is false t e
  touches_is change (n ∷ ns) t e =
      let b = bound (λ x. elim (list_any (is_use_touched change) x.uses) [ true ↦ Some true | false ↦ touches_to d depth bytes change ns ]) (met n) t e in
      touch_level change n ns b.0 (alone_at n b.0 b.1) (touches_is change ns) (list_any (is_use_touched change) b.0.uses) refl t b.2

  touched_is : (change : Change) (n : Node) (t : Bool) → touched_to d depth bytes change n ≡ Some t → is_touched d bytes change n ≡ t
  unfolding is_touched
  touched_is change n t e =
      let b = bound (λ x. touches_to d depth bytes change x.completed) (met n) t e in
      rw (alone_at n b.0 b.1).completed (touches_is change b.0.completed t b.2)

  stays : (n : Node) (rest : List Node) (t : Bool) → (if not t then n ∷ rest else rest) ≡ (if t then rest else n ∷ rest)
  stays n rest true = refl
  stays n rest false = refl

  kept_is : (change : Change) (ns left : List Node) → kept_to d depth bytes change ns ≡ Some left → filter (λ n. not (is_touched d bytes change n)) ns ≡ left
  kept_is change [] left e = some_is [] left e
  kept_is change (n ∷ ns) left e =
      let b = bound (λ t. option_map (λ rest. if t then rest else n ∷ rest) (kept_to d depth bytes change ns)) (touched_to d depth bytes change n) left e in
      let r = mapped (λ rest. if b.0 then rest else n ∷ rest) (kept_to d depth bytes change ns) left b.2 in
      rw (touched_is change n b.0 b.1, kept_is change ns r.0 r.1) (stays n r.0 b.0 ∙ r.2)

  memory_edited_is : (change : Change) (r : Result (List ℕ) EditRefusal) (m after : Memory) → memory_edited d depth bytes change r m ≡ Some after → after_edit d bytes change r m ≡ after
  unfolding kept_after
  memory_edited_is change (Ok edited) m after e =
      let b = mapped (λ kept. record { kept = kept; turns = m.turns }) (kept_to d depth bytes change m.kept) after e in
      ap (λ kept. record { kept = kept; turns = m.turns }) (kept_is change m.kept b.0 b.1) ∙ b.2
  memory_edited_is change (Err refusal) m after e = some_is m after e

  -- ---- lines

  memory_is : (command : Command) (m after : Memory) → memory_to d depth bytes command m ≡ Some after → memory_after d bytes command m ≡ after
  memory_is (commands.Ask question) m after e =
      let b = bound (memory_asked d depth bytes m) (question_walk met (asking d bytes question)) after e in
      memory_asked_is (asking d bytes question) m b.0 after b.1 b.2
  memory_is (commands.Put path n) m after e = absurd (cc)
  memory_is (commands.Set at new) m after e = memory_edited_is _ _ m after e
  memory_is (commands.Ins at new) m after e = memory_edited_is _ _ m after e
  memory_is (commands.Del at count) m after e = memory_edited_is _ _ m after e
  memory_is (commands.App new) m after e = memory_edited_is _ _ m after e
  memory_is commands.Blank m after e = some_is m after e
  memory_is (commands.Refused refusal) m after e = some_is m after e
  memory_is (commands.Bytes at count) m after e = some_is m after e
  memory_is commands.Size m after e = some_is m after e
  memory_is commands.Stats m after e = some_is m after e
  memory_is commands.Quit m after e = some_is m after e

-- after a session's end nothing changes
over : (d : Description) (s : Standing) (events : List Event) → s.ended ≡ true → fold (after_event d) s events ≡ s
over d s [] e = refl
over d s (event ∷ events) e = ap (λ x. fold (after_event d) x events) (ended_event d s event e) ∙ over d s events e

told_line : (d : Description) (depth : ℕ) (s : Standing) (m : Memory) (line : List ℕ) (lines : List (List ℕ)) (t : Standing)
    → ((s : Standing) (m : Memory) → told_to d depth s m lines ≡ Some t → fold (after_event d) s (events_from d s m lines) ≡ t)
    → (b : Bool) → s.ended ≡ b
    → elim b as (λ _. Option Standing) [ true ↦ Some s | false ↦ option_and_then (λ a. option_and_then (λ kept. told_to d depth (answered s a true) kept lines) (memory_to d depth s.bytes (command_of d line) m)) (line_answer d depth s.bytes (tally_of m) line) ] ≡ Some t
    → fold (after_event d) s (events_from d s m (line ∷ lines)) ≡ t
told_line d depth s m line lines t rest true ended e = over d s (events_from d s m (line ∷ lines)) ended ∙ some_is s t e
told_line d depth s m line lines t rest false ended e =
    let b = bound (λ a. option_and_then (λ kept. told_to d depth (answered s a true) kept lines) (memory_to d depth s.bytes (command_of d line) m)) (line_answer d depth s.bytes (tally_of m) line) t e in
    let c = bound (λ kept. told_to d depth (answered s b.0 true) kept lines) (memory_to d depth s.bytes (command_of d line) m) t b.2 in
    let next : after_event d s (event_of m line) ≡ answered s b.0 true = open_event d s (event_of m line) ended ∙ ap (λ a. answered s a true) (line_is d depth s.bytes (tally_of m) line b.0 b.1) in
    ap (λ x. fold (after_event d) x (events_from d x (memory_after d s.bytes (command_of d line) m) lines)) next
    ∙ ap (λ kept. fold (after_event d) (answered s b.0 true) (events_from d (answered s b.0 true) kept lines)) (memory_is d depth s.bytes (command_of d line) m c.0 c.1)
    ∙ rest (answered s b.0 true) c.0 c.2

-- a session whose lines `stats` tell what is kept
pub told_is : (d : Description) (depth : ℕ) (s : Standing) (m : Memory) (lines : List (List ℕ)) (t : Standing) → told_to d depth s m lines ≡ Some t → fold (after_event d) s (events_from d s m lines) ≡ t
unfolding told_to
told_is d depth s m [] t e = some_is s t e
told_is d depth s m (line ∷ lines) t e = told_line d depth s m line lines t (λ s m. told_is d depth s m lines t) s.ended refl e
