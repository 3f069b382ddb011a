use Rattle.std.proofs.Common.{refl}
use Rattle.ksv_commands.proofs.command.about_path.Goals as goal

pub returns-in-Ok-clause-command : goal.returns-in-Ok-clause-command
returns-in-Ok-clause-command g c = rw (← c.in_ok-path.ensures.path, c.in-Ok.is) (c.question.result, c.question.ensures, refl)
