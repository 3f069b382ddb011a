-- The answers to questions: each node that is asked is evaluated from nothing on the current bytes.
use Rattle.std.specs.Prelude.{ℕ, List, [], Result, Ok, Err}
use Rattle.ksv_desc.specs.Description.{Description}
use Rattle.ksv_nodes.specs.declared.node.Node.{Node}
use Rattle.ksv_rule_meaning.specs.FromNothing.{from_nothing}
use Rattle.ksv_texts.specs.Texts.{fault_text, refusal_text}
use Rattle.ksv_texts.specs.declared.refusal.Refusal.{Refusal}
use Rattle.ksv_questions.specs.Asking.{Asking, Failure, Faulty, Heard, Refused, asks_of, result_of}
use Rattle.ksv_questions.specs.Dumps.{dump_question}
use Rattle.ksv_questions.specs.Questions.{members_question, place_question, value_question}
use Rattle.ksv_commands.specs.declared.command.Question.{Question}
use Rattle.ksv_commands.specs.declared.command.Question.TheVariants as questions

-- what a node answers on bytes
abbrev pub answered : Description → List ℕ → Node → Heard
answered d b n = from_nothing d b [] n

-- what a question ends in, and the nodes that it asks
abbrev pub outcome : {A : Type 0} → Description → List ℕ → Asking A → Result A Failure
outcome d b q = result_of (answered d b) q

abbrev pub asks : {A : Type 0} → Description → List ℕ → Asking A → List Node
asks d b q = asks_of (answered d b) q

-- what each question asks
abbrev pub asking : Description → List ℕ → Question → Asking (List ℕ)
asking d b (questions.Value p) = value_question d b p
asking d b (questions.Place p) = place_question p
asking d b (questions.Members p) = members_question d p
asking d b (questions.Dump p) = dump_question d b p

-- What is told of a question: a text, or a refusal as it is, since its text is fixed. Why a question fails is told so:
abbrev pub failure_told : Description → Failure → Result (List ℕ) Refusal
failure_told d (Faulty f) = Ok (fault_text d f)
failure_told d (Refused refusal) = Err refusal

-- and so what it ends in
abbrev pub outcome_told : Description → Result (List ℕ) Failure → Result (List ℕ) Refusal
outcome_told d (Ok text) = Ok text
outcome_told d (Err e) = failure_told d e

unfoldable pub question_told : Description → List ℕ → Question → Result (List ℕ) Refusal
question_told d b q = outcome_told d (outcome d b (asking d b q))

-- the text of what is told
abbrev pub text_of : Result (List ℕ) Refusal → List ℕ
text_of (Ok text) = text
text_of (Err refusal) = refusal_text refusal

abbrev pub failure_text : Description → Failure → List ℕ
failure_text d e = text_of (failure_told d e)

abbrev pub told : Description → Result (List ℕ) Failure → List ℕ
told d r = text_of (outcome_told d r)

-- the text of a question's reply, its LF aside
unfoldable pub question_text : Description → List ℕ → Question → List ℕ
question_text d b q = told d (outcome d b (asking d b q))
