use Rattle.std.proofs.lemmas.Grind.{common_steps}
use Rattle.ksv_questions.proofs.Common.{Node, bytes_of, desc_of, arith}
use Rattle.std.specs.declared.alloc.AllocError.{AllocError}
use Rattle.ksv_questions.specs.Code.{plain_answer}
use Rattle.ksv_questions.proofs.AskLemmas.{asked_is, hears, heard_one}
use Rattle.ksv_questions.proofs.asking.ask.Goals as goal

pub returns : goal.returns
returns g c =
    let d = desc_of c.args.file.now in
    let b = bytes_of c.args.file.now in
    let n : Node = record { kind = c.args.kind; path = c.in_ok-path.path } in
    rw (← c.in_ok-path.ensures) (hears d b n c.args.engine.now c.ask.new.self (plain_answer c.in_ok-answer.answer) c.heard.result
    (asked_is d b n c.in_ok-answer.answer c.in_ok-answer.ensures.answer) c.heard.ensures
    (heard_one d b n AllocError c.args.engine.now c.ask.new.self c.in_ok-answer.answer c.in_ok-answer.ensures.answer c.in_ok-answer.ensures.right
    c.in_ok-answer.ensures.kept c.in_ok-answer.ensures.turns))

pub returns-in_err-path : goal.returns-in_err-path
returns-in_err-path g c = grind (arith, common_steps)

pub returns-in_err-answer : goal.returns-in_err-answer
returns-in_err-answer g c = grind (arith, common_steps)
