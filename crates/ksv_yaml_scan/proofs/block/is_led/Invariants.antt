use Rattle.ksv_yaml_scan.proofs.Common.{◌≡◌, drop, lines_view}
use Rattle.ksv_yaml_scan.specs.Blocks.{is_led as is_led_at}
use Rattle.ksv_yaml_scan.proofs.block.is_led.Given as goal

abbrev pub invariant-loop-line : goal.invariant-loop-line
invariant-loop-line l = is_led_at l.indent (lines_view (drop l.line-index l.lines)) ≡ is_led_at l.indent (lines_view l.lines)
