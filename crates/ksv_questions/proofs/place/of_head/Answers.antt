use Rattle.ksv_questions.proofs.Common.{◌∙◌, Global, Ok, String, ap, string_bytes, sym, Answer, desc_of, bytes_of}
use Rattle.ksv_questions.specs.Questions.{of_head}
use Rattle.ksv_questions.proofs.Steps.{runs_settled}
use Rattle.ksv_questions.proofs.place.of_head.Goals as goal

pub returns-in_ok-from_str-in-Absent : goal.returns-in_ok-from_str-in-Absent
returns-in_ok-from_str-in-Absent g c =
    let d = desc_of c.args.file.now in
    let b = bytes_of c.args.file.now in
    runs_settled d b (of_head c.args.path.now c.args.head) (λ (text : String Global). string_bytes text)
    c.args.engine.now (Ok c.in_ok-from_str-in-Absent.field-0) c.requires
    (ap (λ h. of_head c.args.path.now h) c.in-Absent.is ∙ ap Answer (sym c.in_ok-from_str-in-Absent.ensures.ok))

pub returns-in_ok-from_str-in-Calc : goal.returns-in_ok-from_str-in-Calc
returns-in_ok-from_str-in-Calc g c =
    let d = desc_of c.args.file.now in
    let b = bytes_of c.args.file.now in
    runs_settled d b (of_head c.args.path.now c.args.head) (λ (text : String Global). string_bytes text)
    c.args.engine.now (Ok c.in_ok-from_str-in-Calc.field-0) c.requires
    (ap (λ h. of_head c.args.path.now h) c.in-Calc.is ∙ ap Answer (sym c.in_ok-from_str-in-Calc.ensures.ok))
