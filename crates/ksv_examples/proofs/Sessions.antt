-- What a session writes by answers to a depth is what the session writes.
use Rattle.std.proofs.Common.{◌≡◌, ℕ, ℤ, ◌++◌, Bool, true, false, List, [], ◌∷◌, codes, if◌then◌else◌, fold, Option, Some, None, option_map, option_and_then, Result, Ok, Err, refl, ap, ◌∙◌}
use Rattle.ksv_desc.specs.Description.{Description}
use Rattle.ksv_expr_value.specs.Trail.{Trail}
use Rattle.ksv_memo_rules.specs.Meaning.{on}
use Rattle.ksv_memo_rules.proofs.Keeping.{AreDistinct-none}
use Rattle.ksv_nodes.specs.declared.node.Node.{Node}
use Rattle.ksv_basics.specs.Plan as plan
use Rattle.ksv_questions.specs.Answers.{answered as node_answered, asking, outcome, question_text, told}
use Rattle.ksv_questions.specs.Asking.{Asking, Failure, Heard}
use Rattle.ksv_questions.specs.Writing.{put_question}
use Rattle.ksv_commands.specs.declared.command.Question.{Question}
use Rattle.ksv_rule_meaning.specs.Described.{described}
use Rattle.ksv_commands.specs.Commands.{command_of}
use Rattle.ksv_session.specs.Replies.{Replied, Event, Tally, said, answer_to, answer, is_fair, put_answer}
use Rattle.ksv_session.specs.Session.{Standing, answered, after_event}
use Rattle.ksv_session.proofs.QuestionLemmas.{answer_by}
use Rattle.ksv_examples.specs.Depth.{answer_at, ends_in, line_answer, outcome_to, question_answer, session_to, spoken, untold, writing_answer}
use Rattle.ksv_examples.proofs.Depth.{some_is, answer_is}

-- what is made of something that is there
pub mapped : {A B : Type 0} (f : A → B) (o : Option A) (b : B) → option_map f o ≡ Some b → (a : A) × (o ≡ Some a) × (f a ≡ b)
mapped f None b e = absurd (cc)
mapped f (Some a) b e = (a, refl, some_is (f a) b e)

pub bound : {A B : Type 0} (f : A → Option B) (o : Option A) (b : B) → option_and_then f o ≡ Some b → (a : A) × (o ≡ Some a) × (f a ≡ Some b)
bound f None b e = absurd (cc)
bound f (Some a) b e = (a, refl, e)

-- what a line does, by whether the session has ended
module _ (d : Description) (s : Standing) (event : Event) where
  abbrev by_end : Bool → Standing
  by_end ended = if ended then s else answered s (answer d s.bytes event) (is_fair d s.bytes event)

  pub ended_event : s.ended ≡ true → after_event d s event ≡ s
  ended_event e = ap by_end e

  pub open_event : s.ended ≡ false → after_event d s event ≡ answered s (answer d s.bytes event) (is_fair d s.bytes event)
  open_event e = ap by_end e

-- the event of a line for which no memory is refused
abbrev said_line : List ℕ → Event
said_line line = record { line = line; refused = false; tally = untold }

-- after a session's end nothing changes
stays : (d : Description) (s : Standing) (lines : List (List ℕ)) → s.ended ≡ true → fold (after_event d) s (spoken lines) ≡ s
stays d s [] ended = refl
stays d s (line ∷ lines) ended = ap (λ x. fold (after_event d) x (spoken lines)) (ended_event d s (said_line line) ended) ∙ stays d s lines ended

-- ---- questions

module _ (d : Description) (depth : ℕ) (bytes : List ℕ) where
  heard_is : (n : Node) (h : Heard) → answer_at d bytes depth [] n ≡ Some h → node_answered d bytes n ≡ h
  heard_is n h e = answer_is d bytes depth [] (AreDistinct-none (on (described d) bytes)) n h e

  ends_is : {A : Type 0} (q : Asking A) (r : Result A Failure) → ends_in (answer_at d bytes depth []) q ≡ Some r → outcome d bytes q ≡ r
  ends_is (plan.Answer a) r e = some_is (Ok a) r e
  ends_is (plan.Fail x) r e = some_is (Err x) r e
  ends_is (plan.Ask n k) r e =
      let b = bound (λ h. ends_in (answer_at d bytes depth []) (k h)) (answer_at d bytes depth [] n) r e in
      rw (heard_is n b.0 b.1) (ends_is (k b.0) r b.2)

  outcome_is : {A : Type 0} (q : Asking A) (r : Result A Failure) → outcome_to d depth bytes q ≡ Some r → outcome d bytes q ≡ r
  unfolding outcome_to
  outcome_is q r e = ends_is q r e

-- ---- lines

asked_is : (d : Description) (depth : ℕ) (b : List ℕ) (question : Question) (a : Replied) → question_answer d depth b question ≡ Some a → said b (question_text d b question ++ codes "\n") ≡ a
unfolding question_text
asked_is d depth b question a e =
    let m = mapped (λ r. said b (told d r ++ codes "\n")) (outcome_to d depth b (asking d b question)) a e in
    ap (λ r. said b (told d r ++ codes "\n")) (outcome_is d depth b (asking d b question) m.0 m.1) ∙ m.2

written_is : (d : Description) (depth : ℕ) (b : List ℕ) (path : Trail) (n : ℤ) (a : Replied) → writing_answer d depth b path n ≡ Some a → put_answer d b (outcome d b (put_question d b path n)) ≡ a
written_is d depth b path n a e =
    let m = mapped (put_answer d b) (outcome_to d depth b (put_question d b path n)) a e in
    ap (put_answer d b) (outcome_is d depth b (put_question d b path n) m.0 m.1) ∙ m.2

pub line_is : (d : Description) (depth : ℕ) (b : List ℕ) (t : Tally) (line : List ℕ) (a : Replied) → line_answer d depth b t line ≡ Some a → answer_to d b t (command_of d line) ≡ a
line_is d depth b t line a e = answer_by d b t (question_answer d depth b) (writing_answer d depth b) a (λ question. asked_is d depth b question a) (λ path n. written_is d depth b path n a) (command_of d line) e

-- ---- the session

-- the session after one line more
after_line : (d : Description) (depth : ℕ) (s : Standing) (line : List ℕ) (lines : List (List ℕ)) (t : Standing) → ((a : Replied) → session_to d depth (answered s a true) lines ≡ Some t → fold (after_event d) (answered s a true) (spoken lines) ≡ t)
    → (b : Bool) → s.ended ≡ b → elim b as (λ _. Option Standing) [ true ↦ Some s | false ↦ option_and_then (λ a. session_to d depth (answered s a true) lines) (line_answer d depth s.bytes untold line) ] ≡ Some t
    → fold (after_event d) s (spoken (line ∷ lines)) ≡ t
after_line d depth s line lines t rest true ended e = stays d s (line ∷ lines) ended ∙ some_is s t e
after_line d depth s line lines t rest false ended e =
    let b = bound (λ a. session_to d depth (answered s a true) lines) (line_answer d depth s.bytes untold line) t e in
    ap (λ x. fold (after_event d) x (spoken lines)) (open_event d s (said_line line) ended ∙ ap (λ a. answered s a true) (line_is d depth s.bytes untold line b.0 b.1)) ∙ rest b.0 b.2

-- a session of lines for which no memory is refused
pub session_is : (d : Description) (depth : ℕ) (s : Standing) (lines : List (List ℕ)) (t : Standing) → session_to d depth s lines ≡ Some t → fold (after_event d) s (spoken lines) ≡ t
unfolding session_to
session_is d depth s [] t e = some_is s t e
session_is d depth s (line ∷ lines) t e = after_line d depth s line lines t (λ a. session_is d depth (answered s a true) lines t) s.ended refl e
