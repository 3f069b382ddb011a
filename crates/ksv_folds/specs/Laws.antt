-- The law of sequences: they are as they say.
use Rattle.std.specs.Prelude.{◌≡◌, ℕ, suc, ◌+◌, ◌-◌, ◌*◌, ◌<◌, ◌≤◌, Bool, true, false, List, length, Option, Some, None}
use Rattle.ksv_desc.specs.Description.{Description}
use Rattle.ksv_memo_rules.specs.Meaning.{on}
use Rattle.ksv_nodes.specs.Rule.{head_node}
use Rattle.ksv_rule_meaning.specs.Described.{described}
use Rattle.ksv_list_laws.specs.Lists.{Layout, size_at}
use Rattle.ksv_list_laws.specs.Nodes.{Listing, IsPlain, is_last}
use Rattle.ksv_folds.specs.declared.part.Part.{Part}
use Rattle.ksv_folds.specs.declared.plain_list.PlainList.{PlainList}
use Rattle.ksv_memo_rules.specs.Folds.{IsFold}
use Rattle.ksv_folds.specs.Parts.{part, edge}
use Rattle.ksv_folds.specs.Sequence.{says_sizes, says_of, fold_of, is_closing, size_of}

-- a field of a layout is this one
pub record IsNamed (y : Layout) (ps : List Part) (f : ℕ) : Type 0 where
  pub name : (part ps f).name ≡ y.name f
  pub member : (part ps f).member ≡ y.member f

-- and it takes always the same bytes
pub record IsField (y : Layout) (ps : List Part) (f : ℕ) : Type 0 where
  pub named : IsNamed y ps f
  pub bytes : ℕ
  pub size : size_at y f ≡ Some bytes
  pub edge : edge ps f + bytes ≡ edge ps (suc f)

-- The last field has a size that the one before says, and all fields before it take so many bytes.
pub record IsSized (y : Layout) (ps : List Part) (size : ℕ) : Type 0 where
  pub count : length ps ≡ suc y.last
  pub next : suc y.sizer ≡ y.last
  pub each : (f : ℕ) → f < y.last → IsField y ps f
  pub last : IsNamed y ps y.last
  pub unsized : size_at y y.last ≡ None
  pub full : edge ps y.last ≡ size

-- An element is laid out in so many bytes: as one field that has no node, or as these fields; and where it says a size, besides the last of these.
abbrev pub IsElement : Layout → Option ℕ → Bool → ℕ → List Part → Type 0
IsElement y None says size ps = (y.last ≡ 0) × (length ps ≡ 0) × (size_at y 0 ≡ Some size)
IsElement y (Some t) false size ps = (length ps ≡ suc y.last) × ((f : ℕ) → f ≤ y.last → IsField y ps f) × (edge ps (length ps) ≡ size)
IsElement y (Some t) true size ps = IsSized y ps size

-- These are the numbers of a list.
pub record Describes (p : PlainList) (x : Listing) : Type 0 where
  pub root : p.root ≡ head_node x.path
  pub list : p.list ≡ x.list
  pub origin : p.origin ≡ Some (record x.list.origin { case = None })
  pub first : p.first ≡ x.first
  pub kind : x.layout.type_number ≡ p.type_number
  pub element : IsElement x.layout p.type_number (says_sizes p) p.size p.parts.items
  pub says : says_sizes p ≡ true → (i : ℕ) → i < p.most → x.says i ≡ says_of p i

-- The list ends with the last element that has a number.
pub record EndsWith (p : PlainList) (bytes : List ℕ) (x : Listing) : Type 0 where
  pub closed : p.closed ≡ true
  pub all : x.count ≡ p.most
  pub last : is_last bytes x (x.count - 1) ≡ true

-- The nodes of the elements before the last whole one are as the sequence says.
abbrev pub SequencesAreRight : Type 0
SequencesAreRight = (p : PlainList) (d : Description) (bytes : List ℕ) (x : Listing) → IsPlain d bytes x → Describes p x → x.count ≤ p.most → (count : ℕ)
    → count ≤ p.per * (x.count - 1) → IsFold (on (described d) bytes) (fold_of p) count

-- So are those of the last whole one, where the list goes on behind it, and isn't known to end with it.
abbrev pub OpenSequencesAreRight : Type 0
OpenSequencesAreRight = (p : PlainList) (d : Description) (bytes : List ℕ) (x : Listing) → IsPlain d bytes x → Describes p x → x.count ≤ p.most
    → is_last bytes x (x.count - 1) ≡ false → is_closing p (x.count - 1) ≡ false → (count : ℕ) → count ≤ p.per * x.count
    → IsFold (on (described d) bytes) (fold_of p) count

-- And so are all of them, rests too, where the list ends so.
abbrev pub WholeSequencesAreRight : Type 0
WholeSequencesAreRight = (p : PlainList) (d : Description) (bytes : List ℕ) (x : Listing) → IsPlain d bytes x → Describes p x → EndsWith p bytes x
    → IsFold (on (described d) bytes) (fold_of p) (size_of p)
