-- The grammar of blocks, by cases on whole blocks of lines (YAML 1.2, chapter 8; where this subset has a rule of
-- its own, the comment notes it).
--
-- The lines of each block begin with a line that has content and end with the quiet lines after it, so that what
-- follows begins with a line that has content too. A list of lines is split in two by an equation (ls ≡ xs ++ ys):
-- the relation states that there is such a split, not how it is found.
use Rattle.std.specs.Prelude.{◌≡◌, ℕ, suc, ◌+◌, ◌≤◌, ◌++◌, Bool, true, false, List, [], ◌∷◌, Some, ◌&&◌, ◌==◌, codes}
use Rattle.std.specs.Str.{bytes_eq}
use Rattle.ksv_yaml_tree.specs.Tree.{Tree, Text, Seq, Map, Items, no_items, item, Entries, no_entries, entry, AreDistinct}
use Rattle.ksv_yaml_scan.specs.Blocks.{is_inner, block_text}
use Rattle.ksv_yaml_scan.specs.Lines.{Line, is_quiet, is_within}
use Rattle.ksv_yaml_scan.specs.Plain.{more_of}
use Rattle.ksv_yaml_scan.specs.Starts.{InlineKind, Plain, Quoted, Block, Flowing, Dashed, dash_of, key_of, kind_of}
use Rattle.ksv_yaml_scan.specs.Tokens.{Token, tokens_of}
use Rattle.ksv_yaml.specs.Flow.{Flow}

-- blank and comment lines (6.6), which have no content
abbrev pub AreQuiet : List Line → Type 0
AreQuiet [] = Unit {0}
AreQuiet (l ∷ ls) = (is_quiet l ≡ true) × AreQuiet ls

-- lines of a block scalar (8.1): blank, or not before column n
abbrev pub AreInner : ℕ → List Line → Type 0
AreInner n [] = Unit {0}
AreInner n (l ∷ ls) = (is_inner n l ≡ true) × AreInner n ls

-- the first line, if any, is no line of the block scalar: so the scalar has all lines that it can have
abbrev pub Leaves : ℕ → List Line → Type 0
Leaves n [] = Unit {0}
Leaves n (l ∷ ls) = is_inner n l ≡ false

-- lines over which a flow node continues (7.4): quiet, or not before column n
abbrev pub AreWithin : ℕ → List Line → Type 0
AreWithin n [] = Unit {0}
AreWithin n (l ∷ ls) = (is_within n l ≡ true) × AreWithin n ls

-- the lines after a plain scalar's line (7.3.3): those that continue it, each joined by one space, and quiet ones.
-- A comment ends the scalar, and so does a quiet line (this subset: it doesn't continue across one)
pub data GoesOn : ℕ → Bool → List Line → List ℕ → Type 0 where
  ends : {n : ℕ} {c : Bool} {ls : List Line} → AreQuiet ls → GoesOn n c ls []
  goes : {n : ℕ} {c : Bool} {l : Line} {ls : List Line} {text rest : List ℕ} → is_quiet l ≡ false → n ≤ l.indent → more_of l.content ≡ Some (text, c) → GoesOn n c ls rest → GoesOn n false (l ∷ ls) (32 ∷ (text ++ rest))

-- a scalar or flow node that begins on the line and continues over others, none of which is before column n; with
-- at most d nested flow nodes
pub data Inlined : ℕ → ℕ → InlineKind → Line → List Line → Tree → Type 0 where
  -- a plain scalar, over one line or several (7.3.3)
  plain : {d n : ℕ} {l : Line} {ls : List Line} {c : Bool} {text rest : List ℕ} → GoesOn n c ls rest → Inlined d n (Plain text c) l ls (Text l.number false (text ++ rest))
  -- a quoted scalar, on one line (7.3.1, 7.3.2; over several lines it is unsupported)
  quoted : {d n : ℕ} {l : Line} {ls : List Line} {text : List ℕ} → AreQuiet ls → Inlined d n (Quoted text) l ls (Text l.number true text)
  -- a block scalar with all lines that follow while they are blank or deep enough (8.1)
  block : {d n : ℕ} {l : Line} {ls : List Line} {fold keep : Bool} {text : List ℕ} (xs ys : List Line) → ls ≡ xs ++ ys → AreInner n xs → Leaves n ys → AreQuiet ys → block_text fold keep xs ≡ Some text → Inlined d n (Block fold keep) l ls (Text l.number false text)
  -- a flow sequence or mapping (7.4): the parts of its lines, without comments, spell it
  flow : {d n : ℕ} {l : Line} {ls : List Line} {ts : List Token} {t : Tree} → AreWithin n ls → tokens_of (l ∷ ls) ≡ Some ts → Flow d ts t → Inlined d n Flowing l ls t

-- the line as if k columns of spaces were in front of these bytes
abbrev pub at_column : Line → ℕ → List ℕ → Line
at_column l k cs = record { number = l.number; indent = l.indent + k; content = cs; ended = l.ended }

-- the line with these bytes alone
abbrev pub from_here : Line → List ℕ → Line
from_here l cs = record { number = l.number; indent = l.indent; content = cs; ended = l.ended }

-- Lines that spell a tree, with the quiet lines after it, and with at most d nested mappings, sequences and flow
-- nodes.
mutual
  -- a node, none of whose lines is before column n
  pub data Node : ℕ → ℕ → List Line → Tree → Type 0 where
    -- a block mapping (8.2.2), no two keys the same (3.2.1.3)
    map : {d n : ℕ} {l : Line} {ls : List Line} {es : Entries} → n ≤ l.indent → Mapping d l.indent (l ∷ ls) es → AreDistinct es → Node (suc d) n (l ∷ ls) (Map l.number es)
    -- a block sequence (8.2.1)
    seq : {d n : ℕ} {l : Line} {ls : List Line} {is : Items} → n ≤ l.indent → Sequence d l.indent (l ∷ ls) is → Node (suc d) n (l ∷ ls) (Seq l.number is)
    -- a scalar or flow node (8.2.3)
    inline : {d n : ℕ} {l : Line} {ls : List Line} {k : InlineKind} {t : Tree} → n ≤ l.indent → kind_of l.content ≡ Some k → Inlined d n k l ls t → Node d n (l ∷ ls) t

  -- the entries of a mapping, each beginning at its indentation with a key and a colon
  pub data Mapping : ℕ → ℕ → List Line → Entries → Type 0 where
    last : {d m : ℕ} {l : Line} {ls : List Line} {key rest : List ℕ} {t : Tree} → l.indent ≡ m → key_of l.content ≡ Some (key, rest) → Value d l rest ls t → Mapping d m (l ∷ ls) (entry l.number key t no_entries)
    more : {d m : ℕ} {l : Line} {ls : List Line} {key rest : List ℕ} {t : Tree} {es : Entries} (xs ys : List Line) → l.indent ≡ m → ls ≡ xs ++ ys → key_of l.content ≡ Some (key, rest) → Value d l rest xs t → Mapping d m ys es → Mapping d m (l ∷ ls) (entry l.number key t es)

  -- what comes after a key, on its line and the ones that follow
  pub data Value : ℕ → Line → List ℕ → List Line → Tree → Type 0 where
    -- nothing: the empty plain text, on the entry's line
    empty : {d : ℕ} {l : Line} {ls : List Line} → AreQuiet ls → Value d l [] ls (Text l.number false [])
    -- the block node at the next line that has content, if that is deeper than the entry
    below : {d : ℕ} {l : Line} {ls : List Line} {t : Tree} (xs ys : List Line) → ls ≡ xs ++ ys → AreQuiet xs → Node d (suc l.indent) ys t → Value d l [] ls t
    -- a sequence at the key's own indentation (8.2.1)
    level : {d : ℕ} {l h : Line} {ls : List Line} {is : Items} (xs ys : List Line) → ls ≡ xs ++ h ∷ ys → AreQuiet xs → h.indent ≡ l.indent → Sequence d l.indent (h ∷ ys) is → Value (suc d) l [] ls (Seq h.number is)
    -- a scalar or flow node on the key's line
    here : {d c : ℕ} {l : Line} {cs : List ℕ} {ls : List Line} {k : InlineKind} {t : Tree} → kind_of (c ∷ cs) ≡ Some k → Inlined d (suc l.indent) k (from_here l (c ∷ cs)) ls t → Value d l (c ∷ cs) ls t

  -- the items of a sequence, each beginning at its indentation with a dash
  pub data Sequence : ℕ → ℕ → List Line → Items → Type 0 where
    only : {d m : ℕ} {l : Line} {ls : List Line} {k : Dashed} {t : Tree} → l.indent ≡ m → dash_of l.content ≡ Some k → Item d l k.columns k.tab k.behind ls t → Sequence d m (l ∷ ls) (item t no_items)
    then : {d m : ℕ} {l : Line} {ls : List Line} {k : Dashed} {t : Tree} {is : Items} (xs ys : List Line) → l.indent ≡ m → ls ≡ xs ++ ys → dash_of l.content ≡ Some k → Item d l k.columns k.tab k.behind xs t → Sequence d m ys is → Sequence d m (l ∷ ls) (item t is)

  -- what comes after a dash: as if the dash were a space
  pub data Item : ℕ → Line → ℕ → Bool → List ℕ → List Line → Tree → Type 0 where
    -- nothing
    none : {d k : ℕ} {b : Bool} {l : Line} {ls : List Line} → AreQuiet ls → Item d l k b [] ls (Text l.number false [])
    -- the block node at the next line that has content, if that is deeper than the dash
    under : {d k : ℕ} {b : Bool} {l : Line} {ls : List Line} {t : Tree} (xs ys : List Line) → ls ≡ xs ++ ys → AreQuiet xs → Node d (suc l.indent) ys t → Item d l k b [] ls t
    -- a node on the dash's line (8.2.1, compact forms): the rest of the line, with the dash as a space
    compact : {d k c : ℕ} {l : Line} {cs : List ℕ} {ls : List Line} {t : Tree} → Node d (suc l.indent) (at_column l k (c ∷ cs) ∷ ls) t → Item d l k false (c ∷ cs) ls t
    -- after a tab only a scalar or flow node: tabs are no indentation (6.1)
    tabbed : {d k c : ℕ} {l : Line} {cs : List ℕ} {ls : List Line} {i : InlineKind} {t : Tree} → kind_of (c ∷ cs) ≡ Some i → Inlined d (suc l.indent) i (from_here l (c ∷ cs)) ls t → Item d l k true (c ∷ cs) ls t

-- ---- the whole text

-- the line --- and no other
abbrev pub is_mark : Line → Bool
is_mark l = (l.indent == 0) && bytes_eq l.content (codes "---")

-- lines that spell a tree: one node within 64 levels, at any indentation, and before it the mark --- if that is the
-- first line that has content (9.1.4, this subset: alone on its line, and once)
pub data Spelled : List Line → Tree → Type 0 where
  bare : {ls : List Line} {t : Tree} (xs : List Line) (l : Line) (ys : List Line) → ls ≡ xs ++ l ∷ ys → AreQuiet xs → is_mark l ≡ false → Node 64 0 (l ∷ ys) t → Spelled ls t
  marked : {ls : List Line} {t : Tree} (xs : List Line) (l : Line) (ys zs : List Line) → ls ≡ xs ++ l ∷ (ys ++ zs) → AreQuiet xs → is_mark l ≡ true → AreQuiet ys → Node 64 0 zs t → Spelled ls t
