-- Expressions as plain trees, independent of memory.
use Rattle.std.specs.Prelude.{ℕ, Bool, List, [], ◌∷◌, map, Option, string_bytes, box_value}
use Rattle.ksv_expr_tree.specs.declared.tree.UnaryOperator.{UnaryOperator}
use Rattle.ksv_expr_tree.specs.declared.tree.BinaryOperator.{BinaryOperator}
use Rattle.ksv_expr_tree.specs.declared.tree.LogicalOperator.{LogicalOperator}
use Rattle.ksv_expr_tree.specs.declared.tree.SpecialName.{SpecialName}
use Rattle.ksv_expr_tree.specs.declared.tree.Literal.{Literal}
use Rattle.ksv_expr_tree.specs.declared.tree.Literal.TheVariants as literals
use Rattle.ksv_expr_tree.specs.declared.tree.Name.{Name}
use Rattle.ksv_expr_tree.specs.declared.tree.TypeName.{TypeName}
use Rattle.ksv_expr_tree.specs.declared.tree.EnumMember.{EnumMember}
use Rattle.ksv_expr_tree.specs.declared.tree.Member.{Member}
use Rattle.ksv_expr_tree.specs.declared.tree.Expr.{Expr}
use Rattle.ksv_expr_tree.specs.declared.tree.Expr.TheOpen.{Expr-F}
use Rattle.ksv_expr_tree.specs.declared.tree.Expr.TheFolds.{fold-Expr}
use Rattle.ksv_expr_tree.specs.declared.tree.TypeRef.{TypeRef}

-- a value written in the text; a text is the bytes of its UTF-8
pub data Constant : Type 0 where
  integer : ℕ → Constant
  truth : Bool → Constant
  string : List ℕ → Constant

-- a name's bytes, and the number that the description gives to it
pub record Word : Type 0 where
  pub text : List ℕ
  pub number : Option ℕ

-- the names of a type, outermost first, and the type's number
pub record TypePath : Type 0 where
  pub path : List (List ℕ)
  pub number : Option ℕ

-- the names of an enum, outermost first, the member's name, and what it means
pub record MemberPath : Type 0 where
  pub path : List (List ℕ)
  pub name : List ℕ
  pub given : Option EnumMember

mutual
  -- an expression
  pub data Tree : Type 0 where
    literal : Constant → Tree
    named : Word → Tree
    special : SpecialName → Tree
    member : MemberPath → Tree
    unary : UnaryOperator → Tree → Tree
    binary : BinaryOperator → Tree → Tree → Tree
    logical : LogicalOperator → Tree → Tree → Tree
    choice : Tree → Tree → Tree → Tree
    field : Tree → Word → Tree
    special_field : Tree → SpecialName → Tree
    call : Tree → List ℕ → Arguments → Tree
    index : Tree → Tree → Tree
    cast : Tree → TypePath → Tree

  -- the arguments of a call or of a type, first to last
  pub data Arguments : Type 0 where
    no_arguments : Arguments
    argument : Tree → Arguments → Arguments

-- a type with its arguments
pub record TypeTree : Type 0 where
  pub name : TypePath
  pub arguments : Arguments

-- arguments given as a list
abbrev pub arguments_of : List Tree → Arguments
arguments_of [] = no_arguments
arguments_of (e ∷ es) = argument e (arguments_of es)

-- the plain data of a literal, a name, a type's name and a member
abbrev pub literal_of : Literal → Constant
literal_of (literals.Number n) = integer n
literal_of (literals.Truth b) = truth b
literal_of (literals.Text s) = string (string_bytes s)

abbrev pub name_of : Name → Word
name_of n = record { text = string_bytes n.text; number = n.number }

abbrev pub path_of : TypeName → TypePath
path_of t = record { path = map string_bytes t.path.items; number = t.number }

abbrev pub member_of : Member → MemberPath
member_of m = record { path = map string_bytes m.path.items; name = string_bytes m.name; given = m.given }

-- one layer of an expression, given the plain trees of its parts
abbrev pub view_layer : Expr-F Tree → Tree
view_layer (Expr-F.Literal l) = literal (literal_of l)
view_layer (Expr-F.Name n) = named (name_of n)
view_layer (Expr-F.Special s) = special s
view_layer (Expr-F.Member m) = member (member_of m)
view_layer (Expr-F.Unary op a) = unary op (box_value a)
view_layer (Expr-F.Binary op a b) = binary op (box_value a) (box_value b)
view_layer (Expr-F.Logical op a b) = logical op (box_value a) (box_value b)
view_layer (Expr-F.Choice a b c) = choice (box_value a) (box_value b) (box_value c)
view_layer (Expr-F.Field a n) = field (box_value a) (name_of n)
view_layer (Expr-F.SpecialField a s) = special_field (box_value a) s
view_layer (Expr-F.Call a m es) = call (box_value a) (string_bytes m) (arguments_of es.items)
view_layer (Expr-F.Index a b) = index (box_value a) (box_value b)
view_layer (Expr-F.Cast a t) = cast (box_value a) (path_of t)

-- the tree of an expression
abbrev pub view : Expr → Tree
view = fold-Expr Tree view_layer

-- the tree of a type with its arguments
abbrev pub view_type : TypeRef → TypeTree
view_type t = record { name = path_of t.name; arguments = arguments_of (map view t.arguments.items) }
