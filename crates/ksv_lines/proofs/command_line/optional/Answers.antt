use Rattle.std.proofs.Common.{◌∙◌, ap, subst, sym, Some}
use Rattle.clap.specs.Built.{IsPlainArg}
use Rattle.clap.specs.Words.{Rule, rule_of}
use Rattle.clap.specs.declared.builder.ArgAction.TheVariants.{Set}
use Rattle.clap.specs.declared.builder.texts.Texts.TheVariants.{One}
use Rattle.clap.specs.declared.builder.arg.Arg.{Arg}
use Rattle.ksv_lines.proofs.command_line.optional.Goals as goal

pub returns : goal.returns
returns c =
    let acts : Arg → Arg = λ x. record x { action = Some Set } in
    let helps : Arg → Arg = λ x. record x { help = Some c.args.help; action = Some Set } in
    let names : Arg → Arg = λ x. record x { val_names = One c.args.shown; help = Some c.args.help; action = Some Set } in
    let whole = c.action.ensures ∙ ap acts c.help.ensures ∙ ap helps c.value_name.ensures ∙ ap names c.long.ensures in
    record {
      id_is = ap (λ (x : Arg). x.id.now) whole ∙ ap (λ s. s.now) c.new.ensures.id;
      rule = ap rule_of whole ∙ ap (λ (r : Rule). record r { long = Some c.args.id.now; value_names = 1; action = Some Set }) c.new.ensures.rule;
      plain = subst IsPlainArg (sym whole) c.new.ensures.plain;
      local = ap (λ (x : Arg). x.global) whole ∙ c.new.ensures.optional.1;
    }
