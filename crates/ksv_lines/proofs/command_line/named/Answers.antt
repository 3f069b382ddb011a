use Rattle.std.proofs.Common.{◌∙◌, ap}
use Rattle.ksv_lines.proofs.command_line.named.Goals as goal

pub returns : goal.returns
returns c = record {
  app = rw (c.after_help.ensures, c.about.ensures) c.new.ensures.app;
  args = ap (λ x. x.args.items) c.after_help.ensures ∙ ap (λ x. x.args.items) c.about.ensures ∙ c.new.ensures.empty.0;
  groups = ap (λ x. x.groups.items) c.after_help.ensures ∙ ap (λ x. x.groups.items) c.about.ensures ∙ c.new.ensures.empty.1;
  local = rw (c.after_help.ensures, c.about.ensures) c.new.ensures.local;
  negates = rw (c.after_help.ensures, c.about.ensures) c.new.ensures.negates;
}
