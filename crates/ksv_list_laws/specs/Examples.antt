-- Three plain lists, each the only attribute of a file: three integers of a byte to the file's end, the same by a count, and two items, each
-- a byte and then as many bytes as it says.
use Rattle.std.specs.Prelude.{◌≡◌, ℕ, zero, suc, ◌-◌, true, false, List, [], ◌∷◌, Option, Some, None}
use Rattle.ksv_expr_tree.specs.Tree.{integer, literal, named, no_arguments}
use Rattle.ksv_expr_value.specs.Places.{at_byte}
use Rattle.ksv_expr_value.specs.Trail.{Trail, root, child}
use Rattle.ksv_expr_value.specs.declared.step.Step.TheVariants as steps
use Rattle.ksv_desc.specs.Description.{Description, TypeOfObjects, MemberOfType, Field, Attribute, Content, Always, Repeat, Once, Eos, Expr, Extent, Sized}
use Rattle.ksv_desc.specs.Description.{ByItself}
use Rattle.ksv_desc.specs.Description as contents
use Rattle.ksv_desc.specs.declared.order.ByteOrder.TheVariants.{Big}
use Rattle.ksv_rule_meaning.specs.Wanted.{whole}
use Rattle.ksv_list_laws.specs.Lists.{Layout, is_named_to, layout_of}
use Rattle.ksv_list_laws.specs.Lists as layouts
use Rattle.ksv_list_laws.specs.Nodes.{Listing, is_last, IsPlain, IsMissing, IsSizedNext}

-- ---- descriptions

-- the same but for what matters here, without a condition and without `valid`
abbrev pub field : Field → Repeat → Content → Extent → Field
field f repeat c extent = record f { condition = None; repeat = repeat; choice = Always c; extent = extent; valid = None }

-- one byte
abbrev pub byte : Content
byte = contents.Number false 1 Big None

-- bytes of the size that the member of the name 1 says
abbrev pub by_name : Extent
by_name = Sized (named (record { text = []; number = Some 1 }))

abbrev pub attribute : ℕ → Field → MemberOfType
attribute name f = record { name = name; kind = Attribute f }

abbrev pub type_of : List MemberOfType → TypeOfObjects
type_of ms = record { id = []; members = ms }

-- the file is a list; its elements are of the second type where they are objects
abbrev pub of_list : Field → Description
of_list f = record {
  types = type_of (attribute 0 f ∷ []) ∷ type_of (attribute 1 (field f Once byte ByItself) ∷ attribute 2 (field f Once contents.Bytes by_name) ∷ []) ∷ [];
  enums = [];
  names = [] ∷ [] ∷ [] ∷ [];
  known = 3;
}

abbrev pub numbers : Field → Field
numbers f = field f Eos byte ByItself

abbrev pub three : Field → Field
three f = field f (Expr (literal (integer 3))) byte ByItself

abbrev pub items : Field → Field
items f = field f Eos (contents.Object 1 no_arguments) ByItself

abbrev pub item_layout : Field → Layout
item_layout f = layout_of (of_list (items f)) (items f) 1

-- ---- files, and the lists in them

abbrev pub of_three : List ℕ
of_three = 7 ∷ 8 ∷ 9 ∷ []

abbrev pub of_two : List ℕ
of_two = 1 ∷ 7 ∷ 2 ∷ 8 ∷ 9 ∷ []

abbrev pub says : ℕ → ℕ
says zero = 1
says (suc i) = 2

-- the list at a path, from the file's first byte on, by a count or to the file's end
abbrev pub listing : Trail → Option ℕ → Layout → ℕ → Listing
listing l count y n = record {
  path = l;
  list = record {
    origin = record { member = record { type_number = 0; member = 0 }; case = None; home = whole };
    stream = whole;
    start = at_byte 0;
    count = count;
    is_empty = false;
  };
  layout = y;
  first = 0;
  count = n;
  says = says;
}

-- such a list is plain, and it has these elements
pub record IsListOf (f : Field) (bytes : List ℕ) (x : Listing) : Type 0 where
  pub plain : IsPlain (of_list f) bytes x
  pub full : is_last bytes x (x.count - 1) ≡ true

-- the bytes end this one, so behind its last element there are those that aren't there, here the sixth of them
abbrev pub NumbersArePlain : Type 0
NumbersArePlain = (f : Field) (l : Trail) → child root (steps.Name 0) ≡ Some l
    → IsListOf (numbers f) of_three (listing l None (layouts.whole (numbers f)) 3) × IsMissing of_three (listing l None (layouts.whole (numbers f)) 3) 5

abbrev pub CountedArePlain : Type 0
CountedArePlain = (f : Field) (l : Trail) → child root (steps.Name 0) ≡ Some l → IsListOf (three f) of_three (listing l (Some 3) (layouts.whole (three f)) 3)

-- the first of an item's fields says the size of the other
abbrev pub ItemsArePlain : Type 0
ItemsArePlain = (f : Field) (l : Trail) → child root (steps.Name 0) ≡ Some l → IsListOf (items f) of_two (listing l None (item_layout f) 2)

abbrev pub ItemsAreNamed : Type 0
ItemsAreNamed = (f : Field) → is_named_to (item_layout f) 1 ≡ true

-- and the other is the first of such a size
abbrev pub ItemsAreSizedNext : Type 0
ItemsAreSizedNext = (f : Field) → IsSizedNext (item_layout f)
