-- The numbers that the names of an expression get.
--
-- A name's number is its place in the description's table of names. A type's number is its place among the types. An
-- enum's member has the number of its enum and its own.
use Rattle.std.specs.Prelude.{ℕ, ℤ, List, Option, option_and_then, option_map}
use Rattle.ksv_expr_tree.specs.declared.tree.EnumMember.{EnumMember}
use Rattle.ksv_expr_tree.specs.Tree.{Tree, literal, named, special, member, unary, binary, logical, choice, field, special_field, call, index, cast, Arguments, no_arguments, argument, Word, MemberPath, TypePath}
use Rattle.ksv_schema_names.specs.Types.{type_named}
use Rattle.ksv_schema_names.specs.Enums.{number_of_id}
use Rattle.ksv_schema_names.specs.Rows.{Declared}
use Rattle.ksv_desc.specs.Names.{number_in}
use Rattle.ksv_schema_names.specs.Names.{enum_at}

-- ---- numbers

abbrev pub numbered_word : List (List ℕ) → Word → Word
numbered_word names w = record { text = w.text; number = number_in names w.text }

abbrev pub numbered_type : Declared → ℕ → TypePath → TypePath
numbered_type d n t = record { path = t.path; number = type_named d.types n t.path }

-- the numbers of an enum's member
abbrev pub enum_member : ℕ → ℤ → EnumMember
enum_member e number = record { enum_number = e; number = number }

unfoldable pub given_member : Declared → ℕ → MemberPath → Option EnumMember
given_member d n m = option_and_then (λ e. option_map (enum_member e) (number_of_id d.enums e m.name)) (enum_at d n m)

abbrev pub numbered_member : Declared → ℕ → MemberPath → MemberPath
numbered_member d n m = record { path = m.path; name = m.name; given = given_member d n m }

unfoldable mutual
  -- an expression in the type n, with these names
  pub numbered : Declared → List (List ℕ) → ℕ → Tree → Tree
  numbered d names n (literal c) = literal c
  numbered d names n (named w) = named (numbered_word names w)
  numbered d names n (special s) = special s
  numbered d names n (member m) = member (numbered_member d n m)
  numbered d names n (unary op x) = unary op (numbered d names n x)
  numbered d names n (binary op x y) = binary op (numbered d names n x) (numbered d names n y)
  numbered d names n (logical op x y) = logical op (numbered d names n x) (numbered d names n y)
  numbered d names n (choice x y z) = choice (numbered d names n x) (numbered d names n y) (numbered d names n z)
  numbered d names n (field x w) = field (numbered d names n x) (numbered_word names w)
  numbered d names n (special_field x s) = special_field (numbered d names n x) s
  numbered d names n (call x m es) = call (numbered d names n x) m (all_numbered d names n es)
  numbered d names n (index x y) = index (numbered d names n x) (numbered d names n y)
  numbered d names n (cast x t) = cast (numbered d names n x) (numbered_type d n t)

  pub all_numbered : Declared → List (List ℕ) → ℕ → Arguments → Arguments
  all_numbered d names n no_arguments = no_arguments
  all_numbered d names n (argument e es) = argument (numbered d names n e) (all_numbered d names n es)
