use Rattle.ksv_desc.proofs.Dots as Dots
use Rattle.ksv_schema.proofs.Noted as Noted
use Rattle.ksv_schema.proofs.Common.{map, option_map, codes, entry_at, pair, view, must, expression, arith}
use Rattle.ksv_desc.specs.Description.{ParseInstance}
use Rattle.ksv_desc.specs.Pieces.{plain_field}
use Rattle.ksv_schema.specs.declared.keys.forms.MappingKind.TheVariants as kinds
use Rattle.ksv_schema_names.specs.declared.position.Site.TheVariants as sites
use Rattle.ksv_schema.specs.Reading.{perhaps}
use Rattle.ksv_schema.specs.Members.{own_field, parse_instance}
use Rattle.ksv_schema.specs.Code.{seen_home}
use Rattle.ksv_schema.proofs.Both.{three_read}
use Rattle.ksv_schema.proofs.members.member.parse_instance.Goals as goal

pub returns-in-Some : goal.returns-in-Some
unfolding parse_instance
returns-in-Some c =
    let h = seen_home c.args.home.now in
    let es = map pair c.args.entries.now in
    three_read (λ p. ParseInstance p.0.0 p.0.1 p.1) (must c.args.line (expression h sites.Place) (entry_at (codes "pos") es))
    (perhaps (expression h sites.Stream) (entry_at (codes "io") es)) (own_field h kinds.ParseInstance c.args.line es)
    view (λ e. option_map view e) plain_field _ _ _ _ _ _ _ _ _ c.in_ok-at.ensures (rw c.in-Some.is at c.in_ok-read.ensures)
    (rw c.find.ensures at c.in_ok-place.ensures) (rw c.find-2.ensures at c.perhaps_expression-stream.ensures) c.own_field-field.ensures

pub returns-in-None : goal.returns-in-None
unfolding parse_instance
returns-in-None c = grind (arith, Noted.steps, Dots.steps)
