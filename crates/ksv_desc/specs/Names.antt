-- Tables of names: each name is there once, and its place is its number; and the names after the dots of an
-- expression.
use Rattle.std.specs.Prelude.{◌≡◌, ℕ, if◌then◌else◌, IsTrue, Bool, List, [], ◌∷◌, ◌++◌, Option, Some, is_some, slice_get}
use Rattle.std.specs.List.{list_all, list_any, position_from}
use Rattle.std.specs.Str.{bytes_eq}
use Rattle.ksv_expr_tree.specs.Tree.{Tree, literal, named, special, member, unary, binary, logical, choice, field, special_field, call, index, cast, Arguments, no_arguments, argument}

-- ---- tables of names

-- adds names to a table: each once, where it first occurs, after the names that are there already
abbrev pub distinct_behind : List (List ℕ) → List (List ℕ) → List (List ℕ)
distinct_behind before [] = before
distinct_behind before (name ∷ names) = distinct_behind (if list_any (bytes_eq name) before then before else before ++ name ∷ []) names

unfoldable pub distinct : List (List ℕ) → List (List ℕ)
distinct names = distinct_behind [] names

-- the number of a name
unfoldable pub number_in : List (List ℕ) → List ℕ → Option ℕ
number_in names name = position_from (bytes_eq name) 0 names

-- ---- the names after dots

unfoldable mutual
  pub dotted : Tree → List (List ℕ)
  dotted (literal c) = []
  dotted (named w) = []
  dotted (special s) = []
  dotted (member m) = []
  dotted (unary op x) = dotted x
  dotted (binary op x y) = dotted x ++ dotted y
  dotted (logical op x y) = dotted x ++ dotted y
  dotted (choice x y z) = dotted x ++ dotted y ++ dotted z
  dotted (field x w) = dotted x ++ w.text ∷ []
  dotted (special_field x s) = dotted x
  dotted (call x m es) = dotted x ++ all_dotted es
  dotted (index x y) = dotted x ++ dotted y
  dotted (cast x t) = dotted x

  pub all_dotted : Arguments → List (List ℕ)
  all_dotted no_arguments = []
  all_dotted (argument e es) = dotted e ++ all_dotted es

-- ---- laws of tables

-- whether each of these is in a table of names
abbrev pub has_names : List (List ℕ) → List (List ℕ) → Bool
has_names names words = list_all (λ w. is_some (number_in names w)) words

-- each name's number is its place
abbrev pub AreDistinct : List (List ℕ) → Type 0
AreDistinct names = (k : ℕ) (w : List ℕ) → slice_get names k ≡ Some w → number_in names w ≡ Some k

-- a table has the names that were added to it and those that were there before, each once
pub record IsTableOf (before added : List (List ℕ)) : Type 0 where
  pub has_before : IsTrue (has_names (distinct_behind before added) before)
  pub has_added : IsTrue (has_names (distinct_behind before added) added)
  pub stays_distinct : AreDistinct before → AreDistinct (distinct_behind before added)

abbrev pub NamesAreTabled : Type 0
NamesAreTabled = (before added : List (List ℕ)) → IsTableOf before added
