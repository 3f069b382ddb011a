-- What the code finds of the layout of a list's elements.
use Rattle.std.specs.Prelude.{◌≡◌, ℕ, zero, suc, ◌+◌, ◌-◌, ◌<◌, ◌≤◌, Bool, true, false, IfSome, List, length, Option, Some, None, unwrap_or, slice_get}
use Rattle.std.specs.Prelude.{slice_range, pos, ◌⊎◌}
use Rattle.ksv_desc.specs.Description.{Description, Field, MemberOfType, Attribute, Content, Choice, Always, Extent, ByItself, fields}
use Rattle.ksv_desc.specs.Description as contents
use Rattle.ksv_expr_tree.specs.Tree.{Arguments}
use Rattle.ksv_expr_value.specs.Places.{at_byte}
use Rattle.ksv_nodes.specs.declared.given.Given.{Given}
use Rattle.ksv_nodes.specs.declared.given.Given.TheVariants as givens
use Rattle.ksv_nodes.specs.declared.given.Head.TheVariants as heads
use Rattle.ksv_nodes.specs.declared.given.List as lists
use Rattle.ksv_nodes.specs.Reading.{end_in}
use Rattle.ksv_nodes.specs.declared.node.NodeKind.TheVariants.{Head}
use Rattle.ksv_rule_meaning.specs.Fields.{members_of, last_attribute, sought}
use Rattle.ksv_list_laws.specs.Lists.{Layout, content_size, choice_size, extent_name, is_alone, list_layout}
use Rattle.ksv_folds.specs.declared.part.Format.{Format}
use Rattle.ksv_folds.specs.declared.part.Part.{Part}
use Rattle.ksv_folds.specs.declared.plain_list.PlainList.{PlainList}
use Rattle.ksv_folds.specs.Laws.{IsElement}
use Rattle.ksv_folds.specs.Parts.{part, edge}
use Rattle.ksv_folds.specs.Sequence.{says_sizes, sizer, start_of, edge_of, says_of, index_of}
use Rattle.ksv_folds.specs.declared.spot.Spot.TheVariants.{Value}
use Rattle.ksv_rule_meaning.specs.Integers.{integer_value}

-- A field is read once, without a condition, and takes always the bytes of its element from one to another.
pub record IsRead (f : Field) (low to : ℕ) : Type 0 where
  pub alone : is_alone f ≡ true
  pub bytes : ℕ
  pub some : 0 < bytes
  pub size : choice_size f.choice ≡ Some bytes
  pub edge : low + bytes ≡ to

-- the attribute of a name, behind the one of another name, is this field
pub record IsPart (ms : List MemberOfType) (before : Option ℕ) (name : ℕ) (p : Part) (low : ℕ) : Type 0 where
  pub field : Field
  pub found : sought name 0 None ms ≡ Some (record { member = p.member; before = before; kind = Attribute field })
  pub named : p.name ≡ name
  pub read : IsRead field low p.to

-- the names of attributes, and the one before
abbrev pub name_at : List ℕ → ℕ → ℕ
name_at names f = unwrap_or (slice_get names f) 0

abbrev pub name_before : List ℕ → ℕ → Option ℕ
name_before names zero = None
name_before names (suc f) = Some (name_at names f)

-- each attribute is the field of its number
abbrev pub AreParts : List MemberOfType → List ℕ → List Part → ℕ → Type 0
AreParts ms names ps n = (f : ℕ) → f < n → IsPart ms (name_before names f) (name_at names f) (part ps f) (edge ps f)

-- the attributes of a type are these fields
pub record IsType (d : Description) (t : ℕ) (size : ℕ) (ps : List Part) : Type 0 where
  pub count : length ps ≡ length (fields d t)
  pub some : 0 < length ps
  pub each : AreParts (members_of d t) (fields d t) ps (length ps)
  pub ends : last_attribute None (members_of d t) ≡ Some (name_at (fields d t) (length ps - 1))
  pub full : edge ps (length ps) ≡ size

-- ---- a type whose last field has a size that the one before says

-- bytes, as many as a name says, read once and without a condition
pub record IsSaidBy (f : Field) (name : ℕ) : Type 0 where
  pub alone : is_alone f ≡ true
  pub content : f.choice ≡ Always contents.Bytes
  pub named : extent_name f.extent ≡ Some name

-- the attribute of a name, behind the one of another, is this last field, whose size that one says
pub record IsLast (ms : List MemberOfType) (before : Option ℕ) (name : ℕ) (p : Part) (sizer : ℕ) : Type 0 where
  pub field : Field
  pub found : sought name 0 None ms ≡ Some (record { member = p.member; before = before; kind = Attribute field })
  pub named : p.name ≡ name
  pub read : IsSaidBy field sizer

-- the attribute of a name is an integer, written so, and no member of an enum; it may have any value
pub record IsSizer (ms : List MemberOfType) (name : ℕ) (z : Format) : Type 0 where
  pub field : Field
  pub member : ℕ
  pub before : Option ℕ
  pub found : sought name 0 None ms ≡ Some (record { member = member; before = before; kind = Attribute field })
  pub bytes : ℕ
  pub number : field.choice ≡ Always (contents.Number z.is_signed bytes z.order None)
  pub valid : field.valid ≡ None

pub record IsSizedType (p : PlainList) (d : Description) (t : ℕ) : Type 0 where
  pub count : length p.parts.items ≡ length (fields d t)
  pub some : 1 < length p.parts.items
  pub each : AreParts (members_of d t) (fields d t) p.parts.items (length p.parts.items - 1)
  pub last : IsLast (members_of d t) (Some (name_at (fields d t) (sizer p))) (name_at (fields d t) (length p.parts.items - 1))
      (part p.parts.items (length p.parts.items - 1)) (name_at (fields d t) (sizer p))
  pub says : IsSizer (members_of d t) (name_at (fields d t) (sizer p)) p.format
  pub ends : last_attribute None (members_of d t) ≡ Some (name_at (fields d t) (length p.parts.items - 1))
  pub full : edge p.parts.items (length p.parts.items - 1) ≡ p.size

-- ---- elements

abbrev pub AreFields : Bool → PlainList → Description → ℕ → Type 0
AreFields false p d t = IsType d t p.size p.parts.items
AreFields true p d t = IsSizedType p d t

-- elements are objects of such a type, which end with their fields; or they have no fields, and take so many bytes
pub record HasObjects (p : PlainList) (d : Description) (c : Content) (x : Extent) : Type 0 where
  pub type_number : ℕ
  pub given : Arguments
  pub content : c ≡ contents.Object type_number given
  pub extent : x ≡ ByItself
  pub kind : p.type_number ≡ Some type_number
  pub fields : AreFields (says_sizes p) p d type_number

pub record HasBytes (p : PlainList) (bytes : ℕ) : Type 0 where
  pub kind : p.type_number ≡ None
  pub parts : length p.parts.items ≡ 0
  pub size : p.size ≡ bytes

-- elements are read so
abbrev pub IsContent : PlainList → Description → Content → Extent → Option ℕ → Type 0
IsContent p d c x (Some size) = HasBytes p size
IsContent p d c x None = HasObjects p d c x

pub record HasContent (p : PlainList) (d : Description) (f : Field) : Type 0 where
  pub content : Content
  pub always : f.choice ≡ Always content
  pub element : IsContent p d content f.extent (content_size content)

-- it reads an integer that is written so
pub record IsInteger (c : Choice) (z : Format) : Type 0 where
  pub bytes : ℕ
  pub number : c ≡ Always (contents.Number z.is_signed bytes z.order None)

-- the list is plain, and its elements are laid out so; and sizes are written so
pub record HasLayout (p : PlainList) (d : Description) (g : lists.List) : Type 0 where
  pub layout : Layout
  pub laid : list_layout d g ≡ Some layout
  pub kind : layout.type_number ≡ p.type_number
  pub element : IsElement layout p.type_number (says_sizes p) p.size p.parts.items
  pub number : says_sizes p ≡ true → IsInteger (layout.field layout.sizer).choice p.format

-- the numbers are of this list, and it begins at a byte and isn't empty
pub record IsOf (p : PlainList) (g : lists.List) : Type 0 where
  pub root : p.root.kind ≡ Head
  pub list : p.list ≡ g
  pub origin : p.origin ≡ Some (record g.origin { case = None })
  pub begins : g.start ≡ at_byte p.first
  pub filled : g.is_empty ≡ false

-- so many elements are whole, where there is one
pub record AreWhole (p : PlainList) (g : lists.List) (bytes : List ℕ) (n : ℕ) : Type 0 where
  pub few : n ≤ p.most
  pub counted : IfSome g.count (λ all. n ≤ all)
  pub room : 0 < n → start_of p n ≤ end_in bytes g.stream.to
  pub within : 0 < n → end_in bytes g.stream.to ≤ length bytes

-- the bytes of a field write the size that its element says, and are at most 8
pub record WritesSize (p : PlainList) (bytes : List ℕ) (i : ℕ) : Type 0 where
  pub few : edge_of p i (suc (sizer p)) ≤ edge_of p i (sizer p) + 8
  pub written : integer_value p.format.is_signed p.format.order (slice_range bytes (edge_of p i (sizer p)) (edge_of p i (suc (sizer p)))) ≡ pos (says_of p i)

-- Of so many elements each value is one of the first nodes, or its bytes write the size.
abbrev pub AreSaidTo : PlainList → List ℕ → ℕ → ℕ → Type 0
AreSaidTo p bytes kept n = says_sizes p ≡ true → (i : ℕ) → i < n → (index_of p (Value i) < kept) ⊎ WritesSize p bytes i

-- what gave the numbers is a plain list, and they are of it
abbrev pub IsFound : PlainList → Description → Given → Type 0
IsFound p d (givens.Head (heads.List g)) = IsOf p g × HasLayout p d g
IsFound p d _ = ⊥
