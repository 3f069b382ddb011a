use Rattle.ksv_schema.proofs.Common.{◌∙◌, arith, pair, constant, common_steps}
use Rattle.ksv_schema_names.specs.Enums.{number_of, id_of, is_numbered, is_named}
use Rattle.ksv_schema.specs.Description.{is_number_again, is_id_again}
use Rattle.ksv_schema.specs.Plain.{has_number, has_id}
use Rattle.ksv_schema.proofs.Noted.{steps}
use Rattle.ksv_schema.proofs.Given.{again_is}
use Rattle.ksv_schema.proofs.Enums.{whole_words}
use Rattle.ksv_schema.proofs.members.enumeration.constant.Goals as goal

pub returns-clause-read : goal.returns-clause-read
unfolding constant is_number_again is_id_again
returns-clause-read c = λ before given.
    let n = c.in_ok-is_number_again.ensures.again ∙ again_is (has_number c.args.seen.now.numbers) is_numbered before given.numbers
    (number_of (pair c.args.entry.now)) in
    let i = c.in_ok-is_id_again.ensures.again ∙ again_is (has_id c.args.seen.now.ids) is_named before given.ids (id_of (pair c.args.entry.now)) in
    record { value = grind (arith, common_steps); faults = grind (arith, common_steps, steps, n, i); words = grind (arith, common_steps, whole_words) }
