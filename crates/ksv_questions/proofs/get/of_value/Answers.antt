use Rattle.ksv_questions.proofs.Common.{Global, String, string_bytes, bytes_of, desc_of}
use Rattle.ksv_questions.specs.Questions.{plain_value}
use Rattle.ksv_questions.proofs.Cases.{of_plain}
use Rattle.ksv_questions.proofs.Steps.{runs_settled}
use Rattle.ksv_questions.proofs.get.of_value.Goals as goal

pub returns-in_default : goal.returns-in_default
returns-in_default g c =
    let d = desc_of c.args.file.now in
    let b = bytes_of c.args.file.now in
    rw (of_plain d b c.args.path.now c.args.value.now c.in_default.not-Object c.in_default.not-List)
    (runs_settled d b (plain_value d b c.args.path.now c.args.value.now) (λ (text : String Global). string_bytes text) c.args.engine.now c.plain_text.result
    c.requires c.plain_text.ensures)
