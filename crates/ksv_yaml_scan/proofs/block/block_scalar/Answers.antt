use Rattle.ksv_yaml_scan.proofs.Common.{sym, ◌∙◌, lines_view}
use Rattle.ksv_yaml_scan.proofs.Folding.{block_is}
use Rattle.ksv_yaml_scan.proofs.block.block_scalar.Goals as goal

-- the rows' text and the last line end
pub returns-clause-ok : goal.returns-clause-ok
returns-clause-ok c =
    let joined = c.in_ok-text.field-0 in
    block_is c.args.folded c.args.keep joined.ended (lines_view c.args.lines.now) c.in-Some.first.indent joined.text.items c.push_end.new.text.items
    c.in-Some.ensures.indent c.in_default-shallow_line.ensures (sym c.is_led.ensures ∙ c.if-not-is_led.false) c.in_ok-text.ensures.text
    c.in_ok-text.ensures.ended c.in_ok-push_end.ensures
