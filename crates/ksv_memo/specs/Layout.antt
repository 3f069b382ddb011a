-- How the table keeps nodes, and the lists of kept and open nodes that this means. Only the table's own contracts
-- use it.
use Rattle.std.specs.Prelude.{◌≡◌, ◌≢◌, is_some, ℕ, ◌≤◌, List, [], ◌∷◌, length, map, reverse, take, drop, Option, Some, None, Result, ◌⊎◌, slice_get}
use Rattle.std.specs.Option.{option_map}
use Rattle.std.specs.List.{AllByRecursion}
use Rattle.ksv_bytes.specs.declared.uses.Use.{Use}
use Rattle.ksv_memo_links.specs.Shelved.{row}
use Rattle.ksv_memo_links.specs.Touching.{numbers_from}
use Rattle.ksv_memo_links.specs.Marking.{is_kept}
use Rattle.ksv_memo_links.specs.Links.{Linked}
use Rattle.ksv_memo_rules.specs.declared.replies.Slot.{Slot}
use Rattle.ksv_memo_rules.specs.declared.replies.Slot.TheVariants.{Open as opened}
use Rattle.ksv_memo.specs.declared.frames.Frame.{Frame}
use Rattle.ksv_memo.specs.declared.frames.Frames.{Frames}
use Rattle.ksv_memo_rules.specs.Slots.{HasAnswer, answer_at, answers_at, with_first}
use Rattle.ksv_memo_rules.specs.Entry.{Entry}
use Rattle.ksv_memo.specs.Open.{Open}

-- an element is one of a list
abbrev pub IsOneOf : {X : Type 0} → List X → X → Type 0
IsOneOf [] x = ⊥
IsOneOf (y ∷ ys) x = (y ≡ x) ⊎ IsOneOf ys x

-- no element is in a list twice
abbrev pub AllDiffer : List ℕ → Type 0
AllDiffer [] = Unit {0}
AllDiffer (i ∷ is) = AllByRecursion (λ j. i ≢ j) is × AllDiffer is

-- the parts of frames, from the last opened to the first, begin within what comes before their ends
abbrev pub AreNested : {N : Type 0} → List (Frame N) → ℕ → ℕ → Type 0
AreNested [] asked uses = Unit {0}
AreNested (f ∷ fs) asked uses = (f.asked ≤ asked) × (f.uses ≤ uses) × AreNested fs f.asked f.uses

module _ {N V F : Type 0} where
  -- the slots alone
  abbrev pub slots_of : List (N × Slot V F) → List (Slot V F)
  slots_of ps = map (λ p. p.1) ps

  -- the node of the slot of a number
  abbrev pub node_at : List (N × Slot V F) → ℕ → Option N
  node_at ps i = option_map (λ p. p.0) (slice_get ps i)

  -- the nodes of the slots of these numbers
  abbrev pub nodes_at : List (N × Slot V F) → List ℕ → List N
  nodes_at ps [] = []
  nodes_at ps (i ∷ is) = with_first (node_at ps i) (nodes_at ps is)

  -- the slot of a number is that of an open node
  abbrev pub IsOpen : List (N × Slot V F) → ℕ → Type 0
  IsOpen ps i = slice_get (slots_of ps) i ≡ Some opened

  -- the slot of a number is that of a kept node
  abbrev pub IsKept : List (N × Slot V F) → ℕ → Type 0
  IsKept ps i = HasAnswer (slots_of ps) i

  -- a node's entry, if it has an answer
  abbrev pub entry_with : Option N → Option (Result V F) → List N → List Use → Option (Entry N (Result V F))
  entry_with None a asked uses = None
  entry_with (Some n) None asked uses = None
  entry_with (Some n) (Some a) asked uses = Some (record { node = n; answer = a; asked = asked; uses = uses })

  -- the entry of the slot of a number
  abbrev pub entry_at : List (N × Slot V F) → Linked → ℕ → Option (Entry N (Result V F))
  entry_at ps l i = entry_with (node_at ps i) (answer_at (slots_of ps) i) (nodes_at ps (row l.asked i)) (row l.uses i)

  -- the entries of the slots of these numbers
  abbrev pub entries_at : List (N × Slot V F) → Linked → List ℕ → List (Entry N (Result V F))
  entries_at ps l [] = []
  entries_at ps l (i ∷ is) = with_first (entry_at ps l i) (entries_at ps l is)

  -- the kept nodes
  abbrev pub entries_of : List (N × Slot V F) → Linked → List (Entry N (Result V F))
  entries_of ps l = entries_at ps l (numbers_from 0 (length ps))

  -- an open node before others
  abbrev pub open_before : Option N → List (Result V F) → List N → List Use → List (Open N (Result V F)) → List (Open N (Result V F))
  open_before None replies asked uses rest = rest
  open_before (Some n) replies asked uses rest = record { node = n; replies = replies; asked = asked; uses = uses } ∷ rest

  -- the open nodes of frames, from the last opened to the first; the last frames' parts of what was asked and used come
  -- last
  abbrev pub opens_in : List (N × Slot V F) → List (Frame N) → List ℕ → List Use → List (Open N (Result V F))
  opens_in ps [] asked uses = []
  opens_in ps (f ∷ fs) asked uses = open_before (node_at ps f.slot) (answers_at (slots_of ps) (drop f.asked asked)) (nodes_at ps (drop f.asked asked)) (drop f.uses uses) (opens_in ps fs (take f.asked asked) (take f.uses uses))

  abbrev pub opens_of : List (N × Slot V F) → Frames N → List (Open N (Result V F))
  opens_of ps frames = opens_in ps (reverse frames.frames.items) frames.asked.items frames.uses.items

  -- the links are those of the kept nodes, what each asked is kept, and nothing is to be taken
  pub record AreLinked (ps : List (N × Slot V F)) (l : Linked) : Type 0 where
    pub kept : (i : ℕ) → is_kept l.kept i ≡ is_some (answer_at (slots_of ps) i)
    pub asked : (i : ℕ) → IsKept ps i → AllByRecursion (IsKept ps) (row l.asked i)
    pub idle : l.waits ≡ []
    pub slots : length ps ≤ length l.kept

  -- frames are those of the open nodes, each once, with the node that its slot has, and what they asked is kept
  pub record AreFrames (ps : List (N × Slot V F)) (frames : Frames N) : Type 0 where
    pub waits : AllByRecursion (λ f. IsOpen ps f.slot) (reverse frames.frames.items)
    pub nodes : AllByRecursion (λ f. node_at ps f.slot ≡ Some f.node) (reverse frames.frames.items)
    pub all : (i : ℕ) → IsOpen ps i → IsOneOf (map (λ f. f.slot) (reverse frames.frames.items)) i
    pub once : AllDiffer (map (λ f. f.slot) (reverse frames.frames.items))
    pub asked : AllByRecursion (IsKept ps) frames.asked.items
    pub nested : AreNested (reverse frames.frames.items) (length frames.asked.items) (length frames.uses.items)

  pub record IsLaidOut (ps : List (N × Slot V F)) (l : Linked) (frames : Frames N) : Type 0 where
    pub kept : AreLinked ps l
    pub waits : AreFrames ps frames
