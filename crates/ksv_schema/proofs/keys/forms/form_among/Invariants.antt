use Rattle.ksv_schema.proofs.Common.{◌≡◌, drop, map, form_among}
use Rattle.ksv_schema.specs.KeyCode.{seen_key}
use Rattle.ksv_schema.proofs.keys.forms.form_among.Given as goal

abbrev pub invariant-loop-key : goal.invariant-loop-key
invariant-loop-key l = form_among (map seen_key (drop l.key-index l.keys)) l.kind l.name ≡ form_among (map seen_key l.keys) l.kind l.name
