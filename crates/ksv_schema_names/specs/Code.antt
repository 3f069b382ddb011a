-- The plain data of the code's values.
use Rattle.std.specs.Prelude.{ℕ, List}
use Rattle.ksv_expr_tree.specs.declared.tree.Expr.{Expr}
use Rattle.ksv_expr_tree.specs.Tree.{view}
use Rattle.ksv_schema_names.specs.Rows.{Declared}
use Rattle.ksv_schema_names.specs.declared.faults.Behind.{Behind as Seen}
use Rattle.ksv_schema_names.specs.declared.faults.Behind.TheVariants as seen
use Rattle.ksv_schema_names.specs.declared.position.NameFault.{NameFault}
use Rattle.ksv_schema_names.specs.declared.position.Position.{Position}
use Rattle.ksv_schema_names.specs.Names.{Behind, Dot, Nothing, Other, part_faults}

abbrev pub behind_of : Seen → Behind
behind_of (seen.Dot name) = Dot name.now
behind_of seen.Nothing = Nothing
behind_of seen.Other = Other

-- the faults of a part as the code holds it
unfoldable pub faults_at : Declared → ℕ → Position → Behind → Expr → List NameFault
faults_at d n p b e = part_faults d n p b (view e)
