use Rattle.std.proofs.Common.{◌∙◌, codes, ap, sym, option_map}
use Rattle.clap.proofs.CallerLemmas.{some_of_text}
use Rattle.ksv_lines.proofs.CommandLineLemmas.{no_fault, value_is}
use Rattle.ksv_lines.proofs.command_line.arguments.Goals as goal

pub unwrap-requires : goal.unwrap-requires
unwrap-requires c = some_of_text _ c.get_str-2.result _ c.get_str-2.ensures
    (c.in_ok-command.ensures.file c.in_ok-matches.matches c.in_ok-matches.ensures.parsed)

pub unwrap-requires-2 : goal.unwrap-requires-2
unwrap-requires-2 c = some_of_text _ c.get_str-3.result _ c.get_str-3.ensures
    (c.in_ok-command.ensures.ksy c.in_ok-matches.matches c.in_ok-matches.ensures.parsed)

pub returns-clause-save : goal.returns-clause-save
returns-clause-save c =
    value_is c.in_ok-command.field-0 c.in_ok-matches.matches _ (codes "save") _ c.in_ok-command.ensures.app c.in_ok-matches.ensures.matches
    c.get_str.ensures

pub returns-clause-file : goal.returns-clause-file
returns-clause-file c =
    value_is c.in_ok-command.field-0 c.in_ok-matches.matches _ (codes "file") _ c.in_ok-command.ensures.app c.in_ok-matches.ensures.matches
    (sym (ap (option_map (λ s. s.now)) c.unwrap.ensures) ∙ c.get_str-2.ensures)

pub returns-clause-ksy : goal.returns-clause-ksy
returns-clause-ksy c =
    value_is c.in_ok-command.field-0 c.in_ok-matches.matches _ (codes "ksy") _ c.in_ok-command.ensures.app c.in_ok-matches.ensures.matches
    (sym (ap (option_map (λ s. s.now)) c.unwrap-2.ensures) ∙ c.get_str-3.ensures)

pub returns-clause-kinds : goal.returns-clause-kinds
returns-clause-kinds c = no_fault c.in_ok-command.field-0 _ c.in_ok-command.ensures.app c.in_ok-matches.ensures.kinds
