use Rattle.ksv_yaml_scan.proofs.Common.{ap, sym, ◌∙◌, Quote}
use Rattle.ksv_yaml_scan.specs.Starts.{key_at_colon}
use Rattle.ksv_yaml_scan.proofs.Starts.{quote_refused}
use Rattle.ksv_yaml_scan.proofs.start.read_quoted.Goals as goal

-- after the quote is neither a colon nor nothing
pub returns-clause-err : goal.returns-clause-err
returns-clause-err c =
    let text = c.in_ok-text.field-0.text.items in
    let q : Quote = record { text = text; rest = c.in_ok-text.field-0.rest.now } in
    quote_refused c.args.content.now q c.requires c.in_ok-text.ensures.ok
    (ap (key_at_colon text) (sym c.skip.ensures.value) ∙ c.in_default.ensures.none text)
    (sym c.is_clear.ensures ∙ c.if-is_clear.false)
