use Rattle.ksv_yaml_scan.proofs.Common.{◌≡◌, drop}
use Rattle.ksv_yaml_scan.specs.Lines.{has_tab as has_tab_of}
use Rattle.ksv_yaml_scan.proofs.start.has_tab.Given as goal

abbrev pub invariant-loop-byte : goal.invariant-loop-byte
invariant-loop-byte l = has_tab_of (drop l.byte-index l.content) ≡ has_tab_of l.content
