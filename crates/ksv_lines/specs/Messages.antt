-- The program's message where it stops, and its exit status.
use Rattle.std.specs.Prelude.{ℕ, List, [], ◌++◌, codes, decimal, slice_get, unwrap_or, Option, Some, None}
use Rattle.ksv_lines.specs.declared.stop.Stop.{Stop}
use Rattle.ksv_lines.specs.declared.stop.Stop.TheVariants as stops

-- 1 before a session, 3 where a device failed
abbrev pub status_of : Stop → ℕ
status_of stops.FileUnreadable = 1
status_of stops.FileTooLarge = 1
status_of stops.DescriptionUnreadable = 1
status_of (stops.Line line code text at) = 1
status_of stops.NoMemory = 1
status_of stops.InputFailed = 3
status_of stops.OutputFailed = 3
status_of stops.SaveFailed = 3
status_of stops.SaveUnsure = 3

-- the names of the command line: the file's, its description's, and that of the file for the bytes
abbrev pub file_name : List (List ℕ) → List ℕ
file_name names = unwrap_or (slice_get names 0) []

abbrev pub ksy_name : List (List ℕ) → List ℕ
ksy_name names = unwrap_or (slice_get names 1) []

abbrev pub out_name : List (List ℕ) → List ℕ
out_name names = unwrap_or (slice_get names 2) []

-- what ends the message of a refused description: the place in an expression, if there is one
abbrev pub place_text : Option ℕ → List ℕ
place_text None = codes "\n"
place_text (Some place) = codes " at " ++ decimal place ++ codes "\n"

abbrev pub message : List (List ℕ) → Stop → List ℕ
message names stops.FileUnreadable = codes "ksv: " ++ file_name names ++ codes ": cannot read\n"
message names stops.FileTooLarge = codes "ksv: " ++ file_name names ++ codes ": file too large\n"
message names stops.DescriptionUnreadable = codes "ksv: " ++ ksy_name names ++ codes ": cannot read\n"
message names (stops.Line line code text at) =
    codes "ksv: " ++ ksy_name names ++ codes ": line " ++ (decimal line ++ codes ": " ++ code.now) ++ codes " " ++ text.now ++ place_text at
message names stops.NoMemory = codes "ksv: no memory\n"
message names stops.InputFailed = codes "ksv: input failed\n"
message names stops.OutputFailed = codes "ksv: output failed\n"
message names stops.SaveFailed = codes "ksv: " ++ out_name names ++ codes ": cannot write\n"
message names stops.SaveUnsure = codes "ksv: " ++ out_name names ++ codes ": perhaps not saved\n"
