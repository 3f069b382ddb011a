-- Words that only private contracts cite: what the reader's functions answer, beside what reading finds. A reader of the public
-- contract may skip this file.
use Rattle.std.specs.Prelude.{◌≡◌, ℕ, ◌+◌, ◌*◌, ◌≤◌, Bool, true, false, List, [], ◌∷◌, length, map, Option, Some, None, Result, Ok, Err, Vec}
use Rattle.std.specs.Borrow.{Bor}
use Rattle.std.specs.declared.alloc.Global.{Global}
use Rattle.ksv_yaml.specs.declared.fault.ReadFault.{ReadFault}
use Rattle.ksv_yaml.specs.declared.fault.ReadKind.{ReadKind}
use Rattle.ksv_yaml.specs.declared.fault.ReadKind.TheVariants as read
use Rattle.ksv_yaml.specs.declared.fault.YamlKind.{YamlKind}
use Rattle.ksv_yaml.specs.declared.fault.YamlKind.TheVariants.{NotUtf8, TooLong, Tab, Indentation, KeyTwice, LeftOut, NotClosed, ValueForKey, TooDeep, NoMemory}
use Rattle.ksv_yaml_tree.specs.declared.tree.Yaml.{Yaml}
use Rattle.ksv_yaml_tree.specs.declared.tree.Entry.{Entry}
use Rattle.ksv_yaml_tree.specs.Tree.{Tree, Items, Entries, Pair}
use Rattle.ksv_yaml_tree.specs.View.{items_of, entries_of, view, pair}
use Rattle.ksv_yaml.specs.Reading.{flow, flow_items, flow_entries, inlined, value_here, node, entries, value, items, item_at, weight}
use Rattle.ksv_yaml_scan.specs.declared.fault.LineError.{LineError}
use Rattle.ksv_yaml_scan.specs.declared.fault.LineError.TheVariants as on_line
use Rattle.ksv_yaml_scan.specs.declared.line.Line.{Line as CodeLine}
use Rattle.ksv_yaml_scan.specs.declared.flow.Token.{Token as CodeToken}
use Rattle.ksv_yaml_scan.specs.Got.{Got, got}
use Rattle.ksv_yaml_scan.specs.Lines.{Line}
use Rattle.ksv_yaml_scan.specs.Starts.{InlineKind, start_of}
use Rattle.ksv_yaml_scan.specs.Tokens.{Token, Close, CloseMap, Comma, Key}
use Rattle.ksv_yaml_scan.specs.Views.{lines_view, tokens_view}

-- ---- faults

-- memory was refused to the reader of lines
abbrev pub wants_memory : ReadKind → Bool
wants_memory read.Tab = false
wants_memory read.Indentation = false
wants_memory read.KeyTwice = false
wants_memory read.LeftOut = false
wants_memory read.NotClosed = false
wants_memory read.ValueForKey = false
wants_memory read.TooDeep = false
wants_memory read.NoMemory = true

-- memory was refused to the scanner
abbrev pub lines_want : LineError → Bool
lines_want (on_line.Fault fault) = false
lines_want on_line.NoMemory = true

-- a kind as callers see it
abbrev pub public_kind : ReadKind → YamlKind
public_kind read.Tab = Tab
public_kind read.Indentation = Indentation
public_kind read.KeyTwice = KeyTwice
public_kind read.LeftOut = LeftOut
public_kind read.NotClosed = NotClosed
public_kind read.ValueForKey = ValueForKey
public_kind read.TooDeep = TooDeep
public_kind read.NoMemory = NoMemory

-- the kind is that of refused memory
abbrev pub names_memory : YamlKind → Bool
names_memory NoMemory = true
names_memory NotUtf8 = false
names_memory TooLong = false
names_memory Tab = false
names_memory Indentation = false
names_memory KeyTwice = false
names_memory LeftOut = false
names_memory NotClosed = false
names_memory ValueForKey = false
names_memory TooDeep = false

-- the kind isn't one of those for which no line is read
abbrev pub IsOfLines : YamlKind → Type 0
IsOfLines NotUtf8 = ⊥
IsOfLines TooLong = ⊥
IsOfLines Tab = Unit {0}
IsOfLines Indentation = Unit {0}
IsOfLines KeyTwice = Unit {0}
IsOfLines LeftOut = Unit {0}
IsOfLines NotClosed = Unit {0}
IsOfLines ValueForKey = Unit {0}
IsOfLines TooDeep = Unit {0}
IsOfLines NoMemory = Unit {0}

-- ---- what is read

-- the keys of entries
abbrev pub keys_of : List Pair → List (List ℕ)
keys_of ps = map (λ p. p.key) ps

-- a function was refused memory, or reading finds nothing
abbrev pub Fails : {L A : Type 0} → (Option (Got L A) → Type 0) → ReadFault → Type 0
Fails P e = wants_memory e.kind ≡ false → P None

-- a function returned what reading finds: the value, as `see` sees it, and what comes after it; or it failed
abbrev pub Gives : {X C L A : Type 0} → (Option (Got L A) → Type 0) → (X → A) → (List C → List L) → Result (X × Bor (List C)) ReadFault → Type 0
Gives P see seen (Ok x) = P (got (see x.0) (seen x.1.now))
Gives P see seen (Err e) = Fails P e

-- ---- flow nodes

-- after a ] at the front
abbrev pub behind_close : List Token → Option (List Token)
behind_close [] = None
behind_close (Close ∷ ts) = Some ts
behind_close (t ∷ ts) = None

-- after a } at the front
abbrev pub behind_close_map : List Token → Option (List Token)
behind_close_map [] = None
behind_close_map (CloseMap ∷ ts) = Some ts
behind_close_map (t ∷ ts) = None

-- after a comma at the front
abbrev pub behind_comma : List Token → Option (List Token)
behind_comma [] = None
behind_comma (Comma ∷ ts) = Some ts
behind_comma (t ∷ ts) = None

-- a key at the front, its line first, and what comes after it
abbrev pub key_at : List Token → Option (ℕ × List ℕ × List Token)
key_at [] = None
key_at (Key k key ∷ ts) = Some (k, key, ts)
key_at (t ∷ ts) = None

-- lent parts as plain values
abbrev pub seen_behind : Option (Bor (List CodeToken)) → Option (List Token)
seen_behind None = None
seen_behind (Some x) = Some (tokens_view x.now)

-- a lent key and parts as plain values
abbrev pub seen_key : Option (ℕ × Bor (List ℕ) × Bor (List CodeToken)) → Option (ℕ × List ℕ × List Token)
seen_key None = None
seen_key (Some x) = Some (x.0, x.1.now, tokens_view x.2.now)

-- Reading these parts, with enough calls, finds this.
pub record FlowIs (d : ℕ) (ts : List Token) (o : Option (Got Token Tree)) : Type 0 where
  pub is : (f : ℕ) → 3 * length ts + 1 ≤ f → flow f d ts ≡ o

-- The same for items up to their bracket.
pub record FlowItemsIs (d : ℕ) (ts : List Token) (o : Option (Got Token Items)) : Type 0 where
  pub is : (f : ℕ) → 3 * length ts + 3 ≤ f → flow_items f d ts ≡ o

-- The same for entries up to their brace.
pub record FlowEntriesIs (d : ℕ) (ts : List Token) (o : Option (Got Token Entries)) : Type 0 where
  pub is : (f : ℕ) → 3 * length ts + 3 ≤ f → flow_entries f d [] ts ≡ o

-- a function returned what reading these parts finds
abbrev pub GivesFlow : ℕ → List Token → Result (Yaml × Bor (List CodeToken)) ReadFault → Type 0
GivesFlow d ts r = Gives (FlowIs d ts) view tokens_view r

abbrev pub GivesFlowItems : ℕ → List Token → Result (Vec Yaml Global × Bor (List CodeToken)) ReadFault → Type 0
GivesFlowItems d ts r = Gives (FlowItemsIs d ts) (λ v. items_of (map view v.items)) tokens_view r

abbrev pub GivesFlowEntries : ℕ → List Token → Result (Vec Entry Global × Bor (List CodeToken)) ReadFault → Type 0
GivesFlowEntries d ts r = Gives (FlowEntriesIs d ts) (λ v. entries_of (map pair v.items)) tokens_view r

-- ---- blocks

-- a function returned the scalar or flow node that reading finds
abbrev pub GivesInline : ℕ → ℕ → InlineKind → Line → List Line → Result (Yaml × Bor (List CodeLine)) ReadFault → Type 0
GivesInline d n k l ls r = Gives (λ o. inlined d n k l ls ≡ o) view lines_view r

-- a scalar or flow node after a key, or after a dash and a tab
abbrev pub GivesHere : ℕ → Line → List ℕ → List Line → Result (Yaml × Bor (List CodeLine)) ReadFault → Type 0
GivesHere d l behind ls r = Gives (λ o. value_here (start_of behind) d l behind ls ≡ o) view lines_view r

-- Reading these lines, with enough calls, finds this.
pub record NodeIs (d n : ℕ) (l : Line) (ls : List Line) (o : Option (Got Line Tree)) : Type 0 where
  pub is : (f : ℕ) → 8 * weight (l ∷ ls) + 8 ≤ f → node f d n l ls ≡ o

-- The same for the entries of a mapping.
pub record EntriesIs (d m : ℕ) (l : Line) (ls : List Line) (o : Option (Got Line Entries)) : Type 0 where
  pub is : (f : ℕ) → 8 * weight (l ∷ ls) + 5 ≤ f → entries f d m [] l ls ≡ o

-- The same for what comes after a key.
pub record ValueIs (d : ℕ) (l : Line) (behind : List ℕ) (ls : List Line) (o : Option (Got Line Tree)) : Type 0 where
  pub is : (f : ℕ) → 8 * weight ls + 10 ≤ f → value f d l behind ls ≡ o

-- The same for the items of a sequence.
pub record ItemsIs (d m : ℕ) (l : Line) (ls : List Line) (o : Option (Got Line Items)) : Type 0 where
  pub is : (f : ℕ) → 8 * weight (l ∷ ls) + 5 ≤ f → items f d m l ls ≡ o

-- The same for what comes after a dash.
pub record ItemIs (d : ℕ) (l : Line) (k : ℕ) (tab : Bool) (behind : List ℕ) (ls : List Line) (o : Option (Got Line Tree)) : Type 0 where
  pub is : (f : ℕ) → 8 * (length behind + weight ls) + 18 ≤ f → item_at f d l k tab behind ls ≡ o

-- a function returned what reading these lines finds
abbrev pub GivesNode : ℕ → ℕ → Line → List Line → Result (Yaml × Bor (List CodeLine)) ReadFault → Type 0
GivesNode d n l ls r = Gives (NodeIs d n l ls) view lines_view r

abbrev pub GivesValue : ℕ → Line → List ℕ → List Line → Result (Yaml × Bor (List CodeLine)) ReadFault → Type 0
GivesValue d l behind ls r = Gives (ValueIs d l behind ls) view lines_view r

abbrev pub GivesItem : ℕ → Line → ℕ → Bool → List ℕ → List Line → Result (Yaml × Bor (List CodeLine)) ReadFault → Type 0
GivesItem d l k tab behind ls r = Gives (ItemIs d l k tab behind ls) view lines_view r

abbrev pub GivesEntries : ℕ → Line → List Line → Result (Vec Entry Global × Bor (List CodeLine)) ReadFault → Type 0
GivesEntries d l ls r = Gives (EntriesIs d l.indent l ls) (λ v. entries_of (map pair v.items)) lines_view r

abbrev pub GivesItems : ℕ → Line → List Line → Result (Vec Yaml Global × Bor (List CodeLine)) ReadFault → Type 0
GivesItems d l ls r = Gives (ItemsIs d l.indent l ls) (λ v. items_of (map view v.items)) lines_view r
