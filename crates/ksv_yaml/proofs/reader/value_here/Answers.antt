-- The node is the one that begins after the key.
use Rattle.ksv_yaml.proofs.Common.{◌+◌, ap, ◌∙◌, from_here, line_view, lines_view}
use Rattle.ksv_yaml.proofs.BlockLoops.{here_read, inline_lighter}
use Rattle.ksv_yaml_scan.specs.Views.{kind_view, start_view}
use Rattle.ksv_yaml.proofs.reader.value_here.Goals as goal

pub returns-in-Inline-clause-read : goal.returns-in-Inline-clause-read
returns-in-Inline-clause-read c = here_read c.args.depth (line_view c.args.line) c.args.behind.now (lines_view c.args.rest.now) (kind_view c.in-Inline.kind)
    c.scalar.result (c.in_ok-kind.ensures.ok ∙ ap start_view c.in-Inline.is) c.scalar.ensures.read

pub returns-in-Inline-clause-shorter : goal.returns-in-Inline-clause-shorter
returns-in-Inline-clause-shorter c = inline_lighter c.args.depth (c.args.line.indent + 1) (kind_view c.in-Inline.kind)
    (from_here (line_view c.args.line) c.args.behind.now) (lines_view c.args.rest.now) c.scalar.result c.scalar.ensures.read
