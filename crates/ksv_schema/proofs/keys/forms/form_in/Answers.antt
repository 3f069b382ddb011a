-- The table is the definition's.
use Rattle.ksv_schema.proofs.Common.{◌∙◌, ap, map, form_among, form_in}
use Rattle.ksv_schema.specs.KeyCode.{seen_key}
use Rattle.ksv_schema.proofs.keys.forms.form_in.Goals as goal

pub returns : goal.returns
unfolding form_in
returns c = c.form_among.ensures ∙ ap (λ keys. form_among (map seen_key keys) c.args.kind c.args.key.now) c.as_slice.ensures
