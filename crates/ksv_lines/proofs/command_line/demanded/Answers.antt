use Rattle.std.proofs.Common.{◌≡◌, ◌∙◌, true, ap, subst, sym, Some, rules}
use Rattle.clap.specs.Built.{IsPlainArg}
use Rattle.clap.specs.Words.{Rule, rule_of}
use Rattle.clap.specs.declared.builder.ArgAction.TheVariants.{Set}
use Rattle.clap.specs.declared.builder.arg.Arg.{Arg}
use Rattle.ksv_lines.proofs.command_line.demanded.Goals as goal

pub returns : goal.returns
returns c =
    let done : Arg → Arg = λ x. record x { required = true; action = Some Set } in
    let helps : Arg → Arg = λ x. record x { help = Some c.args.help; required = true; action = Some Set } in
    let is : c.action.result ≡ done c.help.result = c.action.ensures ∙ ap (λ (x : Arg). record x { action = Some Set }) c.required.ensures in
    let whole = is ∙ ap done c.help.ensures ∙ ap helps c.value_name.ensures in
    record {
      id_is = ap (λ (x : Arg). x.id.now) whole ∙ ap (λ s. s.now) c.new.ensures.id;
      rule = ap rule_of whole ∙ ap (λ (r : Rule). record r { value_names = 1; required = true; action = Some Set }) c.new.ensures.rule;
      plain = subst IsPlainArg (sym whole) c.new.ensures.plain;
      local = ap (λ (x : Arg). x.global) whole ∙ c.new.ensures.optional.1;
      takes = (
        ap (λ (x : Arg). x.required) whole,
        ap (λ (x : Arg). x.action) whole,
        ap (λ (x : Arg). x.val_delim) whole ∙ c.new.ensures.values.0,
        search rules,
      );
    }
