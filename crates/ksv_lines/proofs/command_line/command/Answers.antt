use Rattle.std.proofs.Common.{refl}
use Rattle.std.proofs.lemmas.Result.{IfOk-weaker}
use Rattle.clap.specs.Words.{AddsArg}
use Rattle.clap.specs.declared.builder.command.Command.{Command}
use Rattle.ksv_lines.proofs.CommandLineLemmas.{IsBuilt, demands_file, demands_ksy, is_explorer}
use Rattle.ksv_lines.proofs.command_line.command.Goals as goal

pub returns : goal.returns
returns c =
    let start = c.named.result in
    let one = c.in_ok-with_save.with_save in
    let two = c.in_ok-with_file.with_file in
    let o = c.optional.result in
    let f = c.demanded.result in
    let k = c.demanded-2.result in
    let built : (cmd : Command) → AddsArg two k cmd → IsBuilt start cmd o f k = λ cmd last. record {
      chain = (one, c.in_ok-with_save.ensures, (two, c.in_ok-with_file.ensures, (cmd, last, refl)));
      args = c.named.ensures.args;
      groups = c.named.ensures.groups;
      globals = c.named.ensures.local;
      negates = c.named.ensures.negates;
      save = c.optional.ensures;
      file = c.demanded.ensures;
      ksy = c.demanded-2.ensures;
    } in
    record {
      app = IfOk-weaker c.arg-3.result _ _
          (λ cmd last.
          is_explorer start one two cmd o f k c.named.ensures.app c.in_ok-with_save.ensures c.in_ok-with_file.ensures last c.optional.ensures
          c.demanded.ensures c.demanded-2.ensures) c.arg-3.ensures;
      file = IfOk-weaker c.arg-3.result _ _ (λ cmd last. demands_file start cmd o f k (built cmd last)) c.arg-3.ensures;
      ksy = IfOk-weaker c.arg-3.result _ _ (λ cmd last. demands_ksy start cmd o f k (built cmd last)) c.arg-3.ensures;
    }
