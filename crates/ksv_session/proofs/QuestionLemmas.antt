-- Commands by what they ask.
use Rattle.std.proofs.Common.{◌≡◌, ℕ, ℤ, true, List, ◌++◌, codes, Option, Some, refl}
use Rattle.std.proofs.lemmas.Option.{same_Some}
use Rattle.std.specs.Prelude.{IsTrue}
use Rattle.ksv_desc.specs.Description.{Description}
use Rattle.ksv_expr_value.specs.Trail.{Trail}
use Rattle.ksv_questions.specs.Answers.{outcome, question_text}
use Rattle.ksv_questions.specs.Writing.{put_question}
use Rattle.ksv_commands.specs.declared.command.Question.{Question}
use Rattle.ksv_commands.specs.Commands.{by_asking, is_question}
use Rattle.ksv_session.specs.Replies.{Replied, Tally, answer_to, may_be_refused, put_answer, said}
use Rattle.ksv_commands.specs.declared.command.Command.{Command}
use Rattle.ksv_commands.specs.declared.command.Command.TheVariants.{App, Ask, Blank, Bytes, Del, Ins, Put, Quit, Refused, Set, Size, Stats}

-- a command that asks the described file may be refused memory
pub question_may : (b : List ℕ) (command : Command) → IsTrue (is_question command) → may_be_refused b command ≡ true
question_may b (Ask question) h = refl
question_may b (Put path n) h = refl
question_may b Blank h = absurd (cc)
question_may b (Refused refusal) h = absurd (cc)
question_may b (Set at bytes) h = absurd (cc)
question_may b (Ins at bytes) h = absurd (cc)
question_may b (Del at count) h = absurd (cc)
question_may b (App bytes) h = absurd (cc)
question_may b (Bytes at count) h = absurd (cc)
question_may b Size h = absurd (cc)
question_may b Stats h = absurd (cc)
question_may b Quit h = absurd (cc)

-- An answer that is the right one for each question, and for each integer that is written, is the right one for each command. (The
-- examples of ksv_examples cite it.)
pub answer_by : (d : Description) (b : List ℕ) (t : Tally) (ask : Question → Option Replied) (put : Trail → ℤ → Option Replied) (a : Replied)
    → ((question : Question) → ask question ≡ Some a → said b (question_text d b question ++ codes "\n") ≡ a)
    → ((path : Trail) (n : ℤ) → put path n ≡ Some a → put_answer d b (outcome d b (put_question d b path n)) ≡ a)
    → (command : Command) → by_asking ask put (Some (answer_to d b t command)) command ≡ Some a → answer_to d b t command ≡ a
answer_by d b t ask put a asked written (Ask question) e = asked question e
answer_by d b t ask put a asked written (Put path n) e = written path n e
answer_by d b t ask put a asked written Blank e = same_Some _ _ e
answer_by d b t ask put a asked written (Refused refusal) e = same_Some _ _ e
answer_by d b t ask put a asked written (Set at bytes) e = same_Some _ _ e
answer_by d b t ask put a asked written (Ins at bytes) e = same_Some _ _ e
answer_by d b t ask put a asked written (Del at count) e = same_Some _ _ e
answer_by d b t ask put a asked written (App bytes) e = same_Some _ _ e
answer_by d b t ask put a asked written (Bytes at count) e = same_Some _ _ e
answer_by d b t ask put a asked written Size e = same_Some _ _ e
answer_by d b t ask put a asked written Stats e = same_Some _ _ e
answer_by d b t ask put a asked written Quit e = same_Some _ _ e
