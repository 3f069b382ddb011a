use Rattle.ksv_questions.proofs.Common.{◌∙◌, ◌++◌, Global, Ok, String, ap, codes, string_bytes, sym, Answer, desc_of, bytes_of, parts_of}
use Rattle.ksv_texts.specs.Texts.{names_text}
use Rattle.ksv_questions.proofs.Cases.{no_members}
use Rattle.ksv_questions.proofs.Steps.{runs_settled}
use Rattle.ksv_questions.proofs.members.parts_of.Goals as goal

pub returns-in_ok-from_str-in-Absent : goal.returns-in_ok-from_str-in-Absent
returns-in_ok-from_str-in-Absent g c =
    let d = desc_of c.args.file.now in
    let b = bytes_of c.args.file.now in
    runs_settled d b (parts_of d c.args.path.now c.args.head) (λ (text : String Global). string_bytes text)
    c.args.engine.now (Ok c.in_ok-from_str-in-Absent.field-0) c.requires
    (ap (λ h. parts_of d c.args.path.now h) c.in-Absent.is ∙ ap Answer (sym c.in_ok-from_str-in-Absent.ensures.ok))

pub returns-in_ok-names_text-in-Object : goal.returns-in_ok-names_text-in-Object
returns-in_ok-names_text-in-Object g c =
    let d = desc_of c.args.file.now in
    let b = bytes_of c.args.file.now in
    runs_settled d b (parts_of d c.args.path.now c.args.head) (λ (text : String Global). string_bytes text)
    c.args.engine.now (Ok c.in_ok-names_text-in-Object.field-0) c.requires
    (ap (λ h. parts_of d c.args.path.now h) c.in-Object.is ∙ ap Answer (sym (c.in_ok-names_text-in-Object.ensures
    ∙ ap (λ names. codes "members" ++ names_text d names) c.members.ensures)))

pub returns-in_ok-from_str-in_default : goal.returns-in_ok-from_str-in_default
returns-in_ok-from_str-in_default g c =
    let d = desc_of c.args.file.now in
    let b = bytes_of c.args.file.now in
    runs_settled d b (parts_of d c.args.path.now c.args.head) (λ (text : String Global). string_bytes text)
    c.args.engine.now (Ok c.in_ok-from_str-in_default.field-0) c.requires
    (no_members d c.args.path.now c.args.head c.in_default.not-Absent c.in_default.not-Object c.in_default.not-List
    ∙ ap Answer (sym c.in_ok-from_str-in_default.ensures.ok))
