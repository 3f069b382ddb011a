use Rattle.std.proofs.Common.{◌∙◌, ap, sym}
use Rattle.ksv_desc.specs.Pieces.{plain_field}
use Rattle.ksv_desc.specs.Whole.{plain_pieces}
use Rattle.ksv_folds.proofs.Plain.{has_layout}
use Rattle.ksv_folds.proofs.plain_list.PlainList.has_layout.Goals as goal
use Rattle.ksv_list_laws.specs.Lists.{repeats}

pub returns-then-repeats : goal.returns-then-repeats
returns-then-repeats c =
    let f = plain_field c.in-Some.field.now in
    let ends = ap (repeats f.repeat) (sym c.get.ensures) ∙ sym c.repeats.ensures ∙ c.if-repeats.true in
    λ h. has_layout c.args.self.now (plain_pieces c.args.desc.now) c.args.list.now f c.in-Some.ensures ends (c.has_content.ensures h)
