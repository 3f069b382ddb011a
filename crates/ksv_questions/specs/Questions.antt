-- What `get`, `at` and `ls` ask about a path P, and the text that each ends in.
use Rattle.std.specs.Fmt.{signed_decimal}
use Rattle.std.specs.Prelude.{ℕ, List, ◌++◌, codes, decimal, Option, Some, None}
use Rattle.ksv_basics.specs.Plan.{Answer, ◌>>=◌}
use Rattle.ksv_desc.specs.Description.{Description, members, type_id}
use Rattle.ksv_expr_value.specs.Places.{Place}
use Rattle.ksv_expr_value.specs.Trail.{Trail, child}
use Rattle.ksv_expr_value.specs.declared.fault.FaultKind.TheVariants as kinds
use Rattle.ksv_expr_value.specs.declared.step.Step.TheVariants.{Index}
use Rattle.ksv_expr_value.specs.declared.value.Value.{Value}
use Rattle.ksv_expr_value.specs.declared.value.Value.TheVariants as values
use Rattle.ksv_nodes.specs.Rule.{end_node, head_node, rest_node, value_node}
use Rattle.ksv_nodes.specs.declared.given.Given.{Given}
use Rattle.ksv_nodes.specs.declared.given.Given.TheVariants as givens
use Rattle.ksv_nodes.specs.declared.given.Head.{Head}
use Rattle.ksv_nodes.specs.declared.given.Head.TheVariants as heads
use Rattle.ksv_texts.specs.Texts.{bytes_text, member_text, names_text, place_text, quoted_text, truth_text}
use Rattle.ksv_questions.specs.Asking.{Asking, ask, fault_of_kind, misfit}

-- what is at a path
abbrev pub in_head : Trail → Given → Asking Head
in_head p (givens.Head h) = Answer h
in_head p _ = misfit p

unfoldable pub ask_head : Trail → Trail → Asking Head
ask_head p q = do
  g ← ask (head_node q)
  in_head p g

-- the number of elements of a list whose first element has this path; if that path is too long, it is a fault of the list
abbrev pub in_rest : Trail → Given → Asking ℕ
in_rest p (givens.Rest count place) = Answer count
in_rest p _ = misfit p

unfoldable pub first_asked : Trail → Trail → Option Trail → Asking ℕ
first_asked p q None = fault_of_kind q kinds.PathTooLong
first_asked p q (Some first) = do
  g ← ask (rest_node first)
  in_rest p g

-- a list by the number of its elements
abbrev pub list_text : ℕ → List ℕ
list_text count = codes "[" ++ decimal count ++ codes "]"

unfoldable pub of_list : Trail → Trail → Asking (List ℕ)
of_list p q = do
  count ← first_asked p q (child q (Index 0))
  Answer (list_text count)

-- ---- `get P`: the value at P; for an object also what is there, and for a list how many elements it has

-- an object by its type
abbrev pub object_text : Description → Trail → Head → Asking (List ℕ)
object_text d p (heads.Object o) = Answer (codes "object " ++ type_id d o.type_number)
object_text d p _ = misfit p

unfoldable pub of_object : Description → Trail → Trail → Asking (List ℕ)
of_object d p q = do
  h ← ask_head p q
  object_text d p h

-- a value that asks nothing
abbrev pub plain_value : Description → List ℕ → Trail → Value → Asking (List ℕ)
plain_value d b p (values.Int n) = Answer (signed_decimal n)
plain_value d b p (values.Bool truth) = Answer (truth_text truth)
plain_value d b p (values.Text text) = Answer (quoted_text text)
plain_value d b p (values.Bytes from to) = Answer (bytes_text b from to)
plain_value d b p (values.Member e n) = Answer (member_text d e n)
plain_value d b p _ = misfit p

unfoldable pub of_value : Description → List ℕ → Trail → Value → Asking (List ℕ)
of_value d b p (values.Object q) = of_object d p q
of_value d b p (values.List q) = of_list p q
of_value d b p v = plain_value d b p v

abbrev pub in_value : Trail → Given → Asking Value
in_value p (givens.Value v) = Answer v
in_value p _ = misfit p

unfoldable pub ask_value : Trail → Asking Value
ask_value p = do
  g ← ask (value_node p)
  in_value p g

unfoldable pub value_question : Description → List ℕ → Trail → Asking (List ℕ)
value_question d b p = do
  v ← ask_value p
  of_value d b p v

-- ---- `at P`: where what is at P begins and ends

abbrev pub in_end : Trail → Given → Asking Place
in_end p (givens.End place last) = Answer place
in_end p _ = misfit p

unfoldable pub ask_end : Trail → Asking Place
ask_end p = do
  g ← ask (end_node p)
  in_end p g

unfoldable pub from_place : Trail → Place → Asking (List ℕ)
from_place p from = do
  to ← ask_end p
  Answer (codes "at " ++ place_text from ++ codes " " ++ place_text to)

-- what is calculated has no place
abbrev pub of_head : Trail → Head → Asking (List ℕ)
of_head p (heads.Absent at) = Answer (codes "absent")
of_head p (heads.Calc c) = Answer (codes "calculated")
of_head p (heads.Leaf l) = from_place p l.from
of_head p (heads.Object o) = from_place p o.start
of_head p (heads.List g) = from_place p g.start

unfoldable pub place_question : Trail → Asking (List ℕ)
place_question p = do
  h ← ask_head p p
  of_head p h

-- ---- `ls P`: what an object at P has, or how many elements a list

abbrev pub parts_of : Description → Trail → Head → Asking (List ℕ)
parts_of d p (heads.Absent at) = Answer (codes "absent")
parts_of d p (heads.Calc c) = Answer (codes "no members")
parts_of d p (heads.Leaf l) = Answer (codes "no members")
parts_of d p (heads.Object o) = Answer (codes "members" ++ names_text d (members d o.type_number))
parts_of d p (heads.List g) = of_list p p

unfoldable pub members_question : Description → Trail → Asking (List ℕ)
members_question d p = do
  h ← ask_head p p
  parts_of d p h
