-- What a refusal means.
use Rattle.std.specs.Prelude.{◌≡◌, ℕ, ◌≤◌, List, length, codes, IsUtf8, Result, Ok, Err}
use Rattle.ksv_yaml.specs.declared.fault.YamlKind.{YamlKind}
use Rattle.ksv_yaml.specs.declared.fault.YamlKind.TheVariants.{NotUtf8, TooLong, Tab, Indentation, KeyTwice, LeftOut, NotClosed, ValueForKey, TooDeep, NoMemory}
use Rattle.ksv_yaml.specs.declared.fault.YamlFault.{YamlFault}
use Rattle.ksv_yaml_tree.specs.declared.tree.Yaml.{Yaml}
use Rattle.ksv_yaml_tree.specs.Tree.{Tree}
use Rattle.ksv_yaml_tree.specs.View.{view}
use Rattle.ksv_yaml.specs.Text.{Spells}
use Rattle.ksv_yaml_scan.specs.Text.{text_limit, IsLine, IsTooLong, IsNotUtf8}

-- the code of a kind
abbrev pub code_of : YamlKind → List ℕ
code_of NotUtf8 = codes "Y1"
code_of TooLong = codes "Y2"
code_of Tab = codes "Y3"
code_of Indentation = codes "Y4"
code_of KeyTwice = codes "Y5"
code_of LeftOut = codes "Y6"
code_of NotClosed = codes "Y7"
code_of ValueForKey = codes "Y8"
code_of TooDeep = codes "Y9"
code_of NoMemory = codes "Y10"

-- what a kind says in words
abbrev pub text_of : YamlKind → List ℕ
text_of NotUtf8 = codes "not UTF-8"
text_of TooLong = codes "too long"
text_of Tab = codes "tab in the indentation"
text_of Indentation = codes "indentation fits no level"
text_of KeyTwice = codes "key twice"
text_of LeftOut = codes "left-out form"
text_of NotClosed = codes "not closed"
text_of ValueForKey = codes "value in a key's place"
text_of TooDeep = codes "nested too deeply"
text_of NoMemory = codes "no memory"

-- The text is short enough and UTF-8, the number is that of one of its lines (1 for the empty text), and it spells no tree.
pub record IsUnspelled (text : List ℕ) (line : ℕ) : Type 0 where
  pub small : length text ≤ text_limit
  pub utf8 : IsUtf8 text
  pub place : IsLine text line
  pub none : (t : Tree) → Spells text t → ⊥

-- what the refusal of a text means, by its kind: it is too long, isn't UTF-8, or spells no tree; no text is two of
-- these
abbrev pub Refuses : List ℕ → YamlKind → ℕ → Type 0
Refuses text TooLong line = IsTooLong text × (line ≡ 1)
Refuses text NotUtf8 line = IsNotUtf8 text line
Refuses text NoMemory line = Unit {0}
Refuses text Tab line = IsUnspelled text line
Refuses text Indentation line = IsUnspelled text line
Refuses text KeyTwice line = IsUnspelled text line
Refuses text LeftOut line = IsUnspelled text line
Refuses text NotClosed line = IsUnspelled text line
Refuses text ValueForKey line = IsUnspelled text line
Refuses text TooDeep line = IsUnspelled text line

-- the result is this tree, or that memory was refused
abbrev pub IsTreeOrNoMemory : Tree → Result Yaml YamlFault → Type 0
IsTreeOrNoMemory t (Ok u) = view u ≡ t
IsTreeOrNoMemory t (Err fault) = fault.kind ≡ NoMemory
