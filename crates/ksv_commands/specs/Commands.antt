-- Command lines: each is nothing, one command with its values, or a refusal. Checks are in their order: the length
-- of the line, the command's name, the number of words, the arguments from left to right.
use Rattle.std.specs.Prelude.{ℕ, ℤ, Bool, true, false, ◌==◌, nat_lt, List, [], ◌∷◌, length, codes, slice_index, Option, Some, None, Result, Ok, Err, if◌then◌else◌}
use Rattle.std.specs.Str.{bytes_eq}
use Rattle.ksv_lines.specs.Digits.{bytes_of}
use Rattle.ksv_lines.specs.Lines.{line_limit, without_carriage_return, words_of}
use Rattle.ksv_desc.specs.Description.{Description}
use Rattle.ksv_expr_value.specs.Trail.{Trail}
use Rattle.ksv_paths.specs.PathTexts.{path_named}
use Rattle.ksv_commands.specs.declared.command.Question.{Question}
use Rattle.ksv_commands.specs.declared.command.Question.TheVariants as questions
use Rattle.ksv_commands.specs.Numbers.{integer_of, number_of}
use Rattle.ksv_commands.specs.declared.command.Command.{Command}
use Rattle.ksv_commands.specs.declared.command.Command.TheVariants.{App, Ask, Blank, Bytes, Del, Ins, Put, Quit, Refused, Set, Size, Stats}
use Rattle.ksv_commands.specs.declared.refusal.LineRefusal.{LineRefusal}
use Rattle.ksv_commands.specs.declared.refusal.LineRefusal.TheVariants as refusals

abbrev pub wrong_arguments : Command
wrong_arguments = Refused refusals.WrongArguments

-- by what a command asks of the described file: a question, an integer to be written over another, or nothing
abbrev pub by_asking : {A : Type 0} → (Question → A) → (Trail → ℤ → A) → A → Command → A
by_asking ask put nothing (Ask question) = ask question
by_asking ask put nothing (Put path n) = put path n
by_asking ask put nothing _ = nothing

-- whether it asks the described file
abbrev pub is_question : Command → Bool
is_question command = by_asking (λ question. true) (λ path n. true) false command

-- the word of a list that has exactly one
abbrev pub only : List (List ℕ) → Option (List ℕ)
only [] = None
only (word ∷ []) = Some word
only (word ∷ next ∷ words) = None

abbrev pub valid_path : Option Trail → Result Trail LineRefusal
valid_path (Some path) = Ok path
valid_path None = Err refusals.BadPath

-- the argument `PATH`
abbrev pub pathed : Description → Option (List ℕ) → Result Trail LineRefusal
pathed d (Some path) = valid_path (path_named d path)
pathed d None = Err refusals.WrongArguments

-- a question about the argument `PATH`
abbrev pub about_path : (Trail → Question) → Result Trail LineRefusal → Command
about_path question (Ok path) = Ask (question path)
about_path question (Err refusal) = Refused refusal

abbrev pub put_number : Trail → Option ℤ → Command
put_number path (Some n) = Put path n
put_number path None = Refused refusals.BadNumber

abbrev pub put_path : Option Trail → List ℕ → Command
put_path (Some path) number = put_number path (integer_of number)
put_path None number = Refused refusals.BadPath

abbrev pub put_words : Description → List ℕ → Option (List ℕ) → Command
put_words d path (Some number) = put_path (path_named d path) number
put_words d path None = wrong_arguments

-- `put PATH INT`
abbrev pub put_of : Description → List (List ℕ) → Command
put_of d [] = wrong_arguments
put_of d (path ∷ words) = put_words d path (only words)

abbrev pub word_at : Option ℕ → List ℕ → Result (ℕ × List ℕ) LineRefusal
word_at (Some at) word = Ok (at, word)
word_at None word = Err refusals.BadNumber

abbrev pub word_after : List ℕ → Option (List ℕ) → Result (ℕ × List ℕ) LineRefusal
word_after place (Some word) = word_at (number_of place) word
word_after place None = Err refusals.WrongArguments

-- the argument `POS`, and the one word after it
abbrev pub place_and_word : List (List ℕ) → Result (ℕ × List ℕ) LineRefusal
place_and_word [] = Err refusals.WrongArguments
place_and_word (place ∷ words) = word_after place (only words)

abbrev pub bytes_at : ℕ → Option (List ℕ) → Result (ℕ × List ℕ) LineRefusal
bytes_at at (Some bytes) = Ok (at, bytes)
bytes_at at None = Err refusals.BadHex

-- the arguments `POS HEX`
abbrev pub place_and_bytes : Result (ℕ × List ℕ) LineRefusal → Result (ℕ × List ℕ) LineRefusal
place_and_bytes (Ok (at, digits)) = bytes_at at (bytes_of digits)
place_and_bytes (Err refusal) = Err refusal

abbrev pub count_at : ℕ → Option ℕ → Result (ℕ × ℕ) LineRefusal
count_at at (Some count) = Ok (at, count)
count_at at None = Err refusals.BadNumber

-- the arguments `POS COUNT`
abbrev pub place_and_count : Result (ℕ × List ℕ) LineRefusal → Result (ℕ × ℕ) LineRefusal
place_and_count (Ok (at, digits)) = count_at at (number_of digits)
place_and_count (Err refusal) = Err refusal

-- the most bytes that one line shows
abbrev pub shown_limit : ℕ
shown_limit = 4096

-- bytes are shown, if they aren't too many
abbrev pub shown : ℕ → ℕ → Command
shown at count = if nat_lt shown_limit count then Refused refusals.TooLarge else Bytes at count

-- a command with a place and one more argument
abbrev pub at_place : {A : Type 0} → (ℕ → A → Command) → Result (ℕ × A) LineRefusal → Command
at_place command (Ok (at, value)) = command at value
at_place command (Err refusal) = Refused refusal

abbrev pub app_bytes : Option (List ℕ) → Command
app_bytes (Some bytes) = App bytes
app_bytes None = Refused refusals.BadHex

-- `app HEX`
abbrev pub app_of : Option (List ℕ) → Command
app_of (Some digits) = app_bytes (bytes_of digits)
app_of None = wrong_arguments

-- a command that takes no arguments
abbrev pub alone : Command → List (List ℕ) → Command
alone command [] = command
alone command (word ∷ words) = wrong_arguments

abbrev pub command_named : Description → List ℕ → List (List ℕ) → Command
command_named d name arguments =
    if bytes_eq name (codes "get") then about_path questions.Value (pathed d (only arguments))
    else if bytes_eq name (codes "at") then about_path questions.Place (pathed d (only arguments))
    else if bytes_eq name (codes "ls") then about_path questions.Members (pathed d (only arguments))
    else if bytes_eq name (codes "dump") then about_path questions.Dump (pathed d (only arguments))
    else if bytes_eq name (codes "put") then put_of d arguments
    else if bytes_eq name (codes "set") then at_place Set (place_and_bytes (place_and_word arguments))
    else if bytes_eq name (codes "ins") then at_place Ins (place_and_bytes (place_and_word arguments))
    else if bytes_eq name (codes "del") then at_place Del (place_and_count (place_and_word arguments))
    else if bytes_eq name (codes "app") then app_of (only arguments)
    else if bytes_eq name (codes "bytes") then at_place shown (place_and_count (place_and_word arguments))
    else if bytes_eq name (codes "size") then alone Size arguments
    else if bytes_eq name (codes "stats") then alone Stats arguments
    else if bytes_eq name (codes "quit") then alone Quit arguments
    else Refused refusals.UnknownCommand

-- a line whose first word begins with `#` is blank
abbrev pub command_of_words : Description → List (List ℕ) → Command
command_of_words d [] = Blank
command_of_words d (name ∷ arguments) = if slice_index name 0 == 35 then Blank else command_named d name arguments

-- what a line means, given without its LF
abbrev pub command_of : Description → List ℕ → Command
command_of d line =
    if nat_lt line_limit (length line) then Refused refusals.LineTooLong
    else command_of_words d (words_of (without_carriage_return line))
