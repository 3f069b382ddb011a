-- The words of the program's command line, as `clap` reads them by the rules of this command.
use Rattle.std.specs.Prelude.{◌≡◌, List, [], Option, Some, true, false, codes, is_some}
use Rattle.clap.specs.Built.{IsPlainArg, TakesValue}
use Rattle.clap.specs.Words.{App, IsParsedFrom, Rule, Text, app_of, args_of, first_of, first_value, found_of, groups_of, matches_of, new_app, new_rule, rule_of, with_rule}
use Rattle.clap.specs.declared.builder.arg.Arg.{Arg}
use Rattle.clap.specs.declared.builder.ArgAction.TheVariants.{Set}
use Rattle.clap.specs.declared.builder.command.Command.TheViews.{out-Command as fields_of}
use Rattle.clap.specs.declared.builder.command.Command.{Command}
use Rattle.clap.specs.declared.parser.matches.ArgMatches.{ArgMatches}

-- a required word
abbrev pub positional : Text → Rule
positional id = record (new_rule id) { value_names = 1; required = true; action = Some Set }

-- a word that may be given, as `--ID WORD` or `--ID=WORD`
abbrev pub option : Text → Rule
option id = record (new_rule id) { long = Some id; value_names = 1; action = Some Set }

-- `ksv [--save OUT] FILE KSY`
abbrev pub explorer : App
explorer = with_rule (with_rule (with_rule (new_app (codes "ksv")) (option (codes "save"))) (positional (codes "file"))) (positional (codes "ksy"))

-- the value that these words give to a name
abbrev pub found : List Text → Text → Option Text
found words id = first_of id (matches_of explorer words)

-- each parse by the command has a value of this name
abbrev pub Demands : Command → Text → Type 0
Demands cmd id = (m : ArgMatches) → IsParsedFrom cmd m → is_some (first_value (found_of m) id) ≡ true

-- the program's name, with no words yet
pub record IsNamed (cmd : Command) : Type 0 where
  pub app : app_of cmd ≡ new_app (codes "ksv")
  pub args : args_of cmd ≡ []
  pub groups : groups_of cmd ≡ []
  pub local : (fields_of cmd).has_globals ≡ false
  pub negates : (fields_of cmd).subcommand_negates_reqs ≡ false

-- a required argument of this name that does nothing else
pub record IsDemanded (id : Text) (a : Arg) : Type 0 where
  pub id_is : a.id.now ≡ id
  pub rule : rule_of a ≡ positional id
  pub plain : IsPlainArg a
  pub local : a.global ≡ false
  pub takes : TakesValue a

-- an argument of this name that may be given by its name, and does nothing else
pub record IsOption (id : Text) (a : Arg) : Type 0 where
  pub id_is : a.id.now ≡ id
  pub rule : rule_of a ≡ option id
  pub plain : IsPlainArg a
  pub local : a.global ≡ false
