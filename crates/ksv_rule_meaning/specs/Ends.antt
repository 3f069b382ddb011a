-- Where something ends, and how a list goes on to its last element.
use Rattle.std.specs.Prelude.{ℕ, ◌+◌, ◌==◌, Bool, true, false, Option, Some, None, if◌then◌else◌}
use Rattle.ksv_basics.specs.Plan.{Answer, Fail, ◌>>=◌}
use Rattle.ksv_expr_value.specs.Trail.{Trail, element_limit, parent, last}
use Rattle.ksv_expr_value.specs.Places.{Place, at_byte, aligned, is_same}
use Rattle.ksv_expr_value.specs.Setting.{Setting, ElementAt}
use Rattle.ksv_expr_value.specs.declared.fault.FaultKind.TheVariants as kinds
use Rattle.ksv_expr_value.specs.declared.step.Step.{Step}
use Rattle.ksv_expr_value.specs.declared.step.Step.TheVariants as steps
use Rattle.ksv_expr_value.specs.declared.value.Stream.{Stream}
use Rattle.ksv_desc.specs.Description.{Description, Repeat, Once, Eos, Expr, Until}
use Rattle.ksv_nodes.specs.declared.given.ObjectEnd.{ObjectEnd}
use Rattle.ksv_nodes.specs.declared.given.ObjectEnd.TheVariants as endings
use Rattle.ksv_nodes.specs.declared.given.Object.{Object}
use Rattle.ksv_nodes.specs.declared.given.List as lists
use Rattle.ksv_nodes.specs.declared.given.Head.{Head}
use Rattle.ksv_nodes.specs.declared.given.Head.TheVariants as heads
use Rattle.ksv_nodes.specs.declared.given.Ended.{Ended}
use Rattle.ksv_nodes.specs.declared.given.Rested.{Rested}
use Rattle.ksv_nodes.specs.Rule.{Rule, There, raise, part, ask_head, ask_end, ask_rest, finish, done}
use Rattle.ksv_rule_meaning.specs.Fields.{members_of, last_attribute, field_of}
use Rattle.ksv_rule_meaning.specs.Wanted.{truth_of}
use Rattle.ksv_rule_meaning.specs.Heads.{part_end, in_list}

-- ---- ends

-- an object that ends with its fields ends with the last attribute of `seq`, at the next byte; without one it ends where it begins
unfoldable pub fields_end : Trail → Place → Option ℕ → Rule Place
fields_end p start None = Answer start
fields_end p start (Some z) = do
  e ← part_end p (steps.Name z)
  Answer (aligned e.place)

-- where a stream ends
unfoldable pub stream_end : Stream → Rule Place
stream_end w = do
  e ← finish w
  Answer (at_byte e)

unfoldable pub object_end : Description → Trail → Object → ObjectEnd → Rule Place
object_end d p o endings.OfStream = stream_end o.stream
object_end d p o endings.ByFields = fields_end p o.start (last_attribute None (members_of d o.type_number))

-- a list ends where its last element does
unfoldable pub part_rest : Trail → Step → Rule Rested
part_rest p step = do
  q ← part p step
  ask_rest q

unfoldable pub list_end : Trail → Rule Place
list_end p = do
  r ← part_rest p (steps.Index 0)
  Answer r.place

-- what is absent ends at its place; without a place it has no end, and so does what is calculated
abbrev pub absent_end : Option Place → Rule Place
absent_end None = raise kinds.NoSuch
absent_end (Some s) = Answer s

unfoldable pub place_of : Description → Trail → Head → Rule Place
place_of d p (heads.Absent at) = absent_end at
place_of d p (heads.Calc c) = raise kinds.NoSuch
place_of d p (heads.Leaf l) = Answer l.end
place_of d p (heads.Object o) = object_end d p o o.ending
place_of d p (heads.List g) = list_end p

-- ---- elements

-- where something begins
abbrev pub start_of : Head → Place
start_of (heads.Absent None) = at_byte 0
start_of (heads.Absent (Some s)) = s
start_of (heads.Calc c) = at_byte 0
start_of (heads.Leaf l) = l.from
start_of (heads.Object o) = o.start
start_of (heads.List g) = g.start

-- The element i, which is p and ends at e, is the last: the list ends there by its count; its end is the stream's end; or what must hold of the
-- last one holds.
abbrev pub is_counted : Option ℕ → ℕ → Bool
is_counted None i = false
is_counted (Some n) i = n == i + 1

-- where `repeat-until` is evaluated: in the object q at the end of the element i of a list in it, with faults at p
abbrev pub behind_element : Trail → lists.List → Trail → ℕ → Place → Setting
behind_element q g p i e = record { home = q; stream = g.origin.home; place = e; index = Some i; element = ElementAt p; here = p }

unfoldable pub is_last : Trail → lists.List → Trail → ℕ → Place → Repeat → Rule Bool
is_last q g p i e Once = raise kinds.NoSuch
is_last q g p i e (Expr n) = Answer (is_counted g.count i)
is_last q g p i e Eos = done g.stream e
is_last q g p i e (Until c) = truth_of (behind_element q g p i e) c

-- where bytes end a list, an element without bytes would never end it
abbrev pub is_by_bytes : Repeat → Bool
is_by_bytes Eos = true
is_by_bytes (Until c) = true
is_by_bytes _ = false

unfoldable pub not_empty : Repeat → Place → Place → Rule (Unit {0})
not_empty r start e = if is_by_bytes r then (if is_same e start then raise kinds.NoBytes else Answer tt) else Answer tt

-- the element i of a list l in the object q, which is p
unfoldable pub element_end : Description → Trail → Trail → Trail → ℕ → Head → Place → Rule Ended
element_end d p l q i h e = do
  k ← ask_head l
  g ← in_list l k
  f ← field_of d g.origin.member
  u ← not_empty f.repeat (start_of h) e
  b ← is_last q g p i e f.repeat
  Answer (record { place = e; last = b })

abbrev pub end_at : Description → Trail → Option Step → Head → Place → Rule Ended
end_at d p (Some (steps.Index i)) h e = element_end d p (parent p) (parent (parent p)) i h e
end_at d p _ h e = Answer (record { place = e; last = false })

unfoldable pub end_of : Description → Trail → Rule Ended
end_of d p = do
  h ← ask_head p
  e ← place_of d p h
  end_at d p (last p) h e

-- ---- rests

-- a list ends after its last element; it has at most `element_limit` of them
unfoldable pub next_rest : Trail → ℕ → Rule Rested
next_rest l i = if i + 1 == element_limit then raise kinds.TooMany else part_rest l (steps.Index (i + 1))

abbrev pub rest_behind : Trail → ℕ → Ended → Rule Rested
rest_behind l i e = if e.last then Answer (record { count = i + 1; place = e.place }) else next_rest l i

unfoldable pub rest_from : Trail → Trail → ℕ → Rule Rested
rest_from p l i = do
  e ← ask_end p
  rest_behind l i e

-- the list of which an element is the first; faults are at the list
abbrev pub in_whole_list : Trail → Head → Rule lists.List
in_whole_list l (heads.List g) = Answer g
in_whole_list l (heads.Absent at) = Fail (There kinds.Absent l)
in_whole_list l _ = Fail (There kinds.NoSuch l)

abbrev pub first_rest : Trail → Trail → lists.List → Rule Rested
first_rest p l g = if g.is_empty then Answer (record { count = 0; place = g.start }) else rest_from p l 0

unfoldable pub whole_rest : Trail → Trail → Rule Rested
whole_rest p l = do
  h ← ask_head l
  g ← in_whole_list l h
  first_rest p l g

-- from the element i of l on, which is p
abbrev pub rest_at : Trail → Option Step → Rule Rested
rest_at p (Some (steps.Index i)) = if i == 0 then whole_rest p (parent p) else rest_from p (parent p) i
rest_at p _ = raise kinds.NoSuch

unfoldable pub rest_of : Description → Trail → Rule Rested
rest_of d p = rest_at p (last p)
