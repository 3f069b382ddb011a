use Rattle.std.proofs.lemmas.Grind.{common_steps}
use Rattle.std.proofs.Common.{◌≡◌, ◌∙◌, ◌+◌, ap, arith, suc}
use Rattle.ksv_folds.proofs.Rooms.{edge_up, edge_within}
use Rattle.ksv_folds.proofs.plain_list.PlainList.writes_size.Goals as goal
use Rattle.ksv_folds.specs.Lemmas.Numbers.{fields_some}
use Rattle.ksv_folds.specs.Sequence.{sizer, edge_of}

pub parts-requires-clause-ordered : goal.parts-requires-clause-ordered
parts-requires-clause-ordered c =
    let p = c.args.self.now in
    let some = (fields_some p c.requires.says).0 in
    let up = edge_up p c.args.element (sizer p) c.requires.few (omega (arith, some)) in
    let field = c.sizer-field.ensures in
    let next : c.sizer-field.result + 1 ≡ suc (sizer p) = omega (arith, field) in
    let from = c.edge_at-from.ensures.value ∙ ap (edge_of p c.args.element) field in
    let to = c.edge_at-to.ensures.value ∙ ap (edge_of p c.args.element) next in omega (arith, up, from, to)

pub parts-requires-clause-inside : goal.parts-requires-clause-inside
parts-requires-clause-inside c =
    let p = c.args.self.now in
    let some = (fields_some p c.requires.says).0 in
    let up = edge_within p c.args.element (suc (sizer p)) c.requires.few (omega (arith, some)) in
    let field = c.sizer-field.ensures in
    let next : c.sizer-field.result + 1 ≡ suc (sizer p) = omega (arith, field) in
    let to = c.edge_at-to.ensures.value ∙ ap (edge_of p c.args.element) next in
    let within = c.requires.within in omega (arith, up, to, within)

pub integer_value-requires : goal.integer_value-requires
integer_value-requires c = grind (arith, common_steps)
