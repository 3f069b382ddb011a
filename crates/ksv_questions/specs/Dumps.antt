-- What `dump P` asks, and the JSON that it writes: a part for P, and in an object or a list a part for each attribute of `seq`
-- or each element, and so on. A fault is a part's text, and the dump goes on; only a fault of P's own value is the whole reply.
use Rattle.std.specs.Prelude.{ℕ, zero, suc, ◌+◌, ◌-◌, List, [], ◌∷◌, ◌++◌, Option, Some, None, Result, Ok, Err}
use Rattle.serde_json.specs.Data.{Data, array, object, Members, no_members, put}
use Rattle.serde_json.specs.View.{items_of}
use Rattle.serde_json.specs.Written.{compact_text}
use Rattle.ksv_basics.specs.Plan.{Answer, Fail, ◌>>=◌}
use Rattle.ksv_desc.specs.Description.{Description, fields, name}
use Rattle.ksv_expr_value.specs.Trail.{Trail, child}
use Rattle.ksv_expr_value.specs.declared.step.Step.TheVariants.{Index, Name}
use Rattle.ksv_expr_value.specs.declared.value.Value.{Value}
use Rattle.ksv_expr_value.specs.declared.value.Value.TheVariants as values
use Rattle.ksv_nodes.specs.Rule.{head_node, rest_node, value_node}
use Rattle.ksv_nodes.specs.declared.given.Given.TheVariants as givens
use Rattle.ksv_nodes.specs.declared.given.Head.TheVariants as heads
use Rattle.ksv_texts.specs.Parts.{failed_part, fault_part, misfit_part, plain_part, too_long_part}
use Rattle.ksv_texts.specs.declared.refusal.Refusal.TheVariants as refusals
use Rattle.ksv_questions.specs.Asking.{Asking, Heard, Refused, hear}
use Rattle.ksv_questions.specs.Questions.{ask_value}

-- the most parts of a dump, and how deep parts nest: a path has at most 64 steps
abbrev pub part_limit : ℕ
part_limit = 10000

abbrev pub depth_limit : ℕ
depth_limit = 64

-- ---- what is found at a path

-- what is there, or what is written in its place
abbrev pub Found : Type 0 → Type 0
Found A = Result A Data

abbrev pub value_in : Description → Trail → Heard → Found Value
value_in d p (Ok (givens.Value v)) = Ok v
value_in d p (Ok _) = Err (misfit_part d p)
value_in d p (Err f) = Err (failed_part d p f)

unfoldable pub find_value : Description → Trail → Asking (Found Value)
find_value d p = do
  h ← hear (value_node p)
  Answer (value_in d p h)

-- an object by the number of its type
abbrev pub object_in : Description → Trail → Heard → Found ℕ
object_in d q (Ok (givens.Head (heads.Object o))) = Ok o.type_number
object_in d q (Ok _) = Err (misfit_part d q)
object_in d q (Err f) = Err (fault_part d f)

unfoldable pub find_object : Description → Trail → Asking (Found ℕ)
find_object d q = do
  h ← hear (head_node q)
  Answer (object_in d q h)

-- a list by the number of its elements
abbrev pub count_in : Description → Trail → Heard → Found ℕ
count_in d q (Ok (givens.Rest count place)) = Ok count
count_in d q (Ok _) = Err (misfit_part d q)
count_in d q (Err f) = Err (fault_part d f)

unfoldable pub find_list : Description → Trail → Option Trail → Asking (Found ℕ)
find_list d q None = Answer (Err (too_long_part d q))
find_list d q (Some first) = do
  h ← hear (rest_node first)
  Answer (count_in d q h)

-- ---- parts that ask

-- What was written, and how many parts may still begin.
pub record Part : Type 0 where
  pub json : Data
  pub left : ℕ

-- a part that asks no more
abbrev pub written : Data → ℕ → Asking Part
written json left = Answer (record { json = json; left = left })

-- goes on with what is found, or with what is written in its place
abbrev pub or_written : {A : Type 0} → (A → Asking Part) → ℕ → Found A → Asking Part
or_written inside left (Ok a) = inside a
or_written inside left (Err json) = written json left

-- begins a part; if none is left, the dump is too large
abbrev pub begin : ℕ → Asking ℕ
begin zero = Fail (Refused refusals.TooLarge)
begin (suc left) = Answer left

-- a part whose path would be too long, which isn't asked
unfoldable pub unasked : Description → Trail → ℕ → Asking Part
unasked d p left = do
  left ← begin left
  written (too_long_part d p) left

-- the part of a member or element of q, `each` being the parts one level deeper
abbrev pub inner : Description → (ℕ → Trail → Asking Part) → Trail → ℕ → Option Trail → Asking Part
inner d each q left None = unasked d q left
inner d each q left (Some p) = each left p

-- the members of q of these names, after those that are written
unfoldable pub members_part : Description → (ℕ → Trail → Asking Part) → Trail → ℕ → List ℕ → Members → Asking Part
members_part d each q left [] ms = written (object ms) left
members_part d each q left (x ∷ xs) ms = do
  part ← inner d each q left (child q (Name x))
  members_part d each q part.left xs (put (name d x) part.json ms)

-- the elements of q from this one on, this many, after those that are written
unfoldable pub elements_part : Description → (ℕ → Trail → Asking Part) → Trail → ℕ → ℕ → ℕ → List Data → Asking Part
elements_part d each q left i zero ds = written (array (items_of ds)) left
elements_part d each q left i (suc n) ds = do
  part ← inner d each q left (child q (Index i))
  elements_part d each q part.left (i + 1) n (ds ++ part.json ∷ [])

unfoldable pub object_part : Description → (ℕ → Trail → Asking Part) → Trail → ℕ → Asking Part
object_part d each q left = do
  found ← find_object d q
  or_written (λ t. members_part d each q left (fields d t) no_members) left found

unfoldable pub list_part : Description → (ℕ → Trail → Asking Part) → Trail → ℕ → Asking Part
list_part d each q left = do
  found ← find_list d q (child q (Index 0))
  or_written (λ count. elements_part d each q left 0 count []) left found

unfoldable pub value_part : Description → List ℕ → (ℕ → Trail → Asking Part) → Trail → ℕ → Value → Asking Part
value_part d b each p left (values.Object q) = object_part d each q left
value_part d b each p left (values.List q) = list_part d each q left
value_part d b each p left v = written (plain_part d b p v) left

unfoldable pub asked_part : Description → List ℕ → (ℕ → Trail → Asking Part) → Trail → ℕ → Asking Part
asked_part d b each p left = do
  found ← find_value d p
  or_written (λ v. value_part d b each p left v) left found

unfoldable pub begun_part : Description → List ℕ → (ℕ → Trail → Asking Part) → ℕ → Trail → Asking Part
begun_part d b each left p = do
  left ← begin left
  asked_part d b each p left

-- The part of a path; parts nest so deep at most. The parts in it are one level deeper.
unfoldable pub part : Description → List ℕ → ℕ → ℕ → Trail → Asking Part
part d b zero left p = unasked d p left
part d b (suc depth) left p = begun_part d b (part d b depth) left p

-- the text of a value with all that is in it
unfoldable pub whole_text : Description → List ℕ → Trail → Value → Asking (List ℕ)
whole_text d b p v = do
  whole ← value_part d b (part d b depth_limit) p (part_limit - 1) v
  Answer (compact_text whole.json)

unfoldable pub dump_question : Description → List ℕ → Trail → Asking (List ℕ)
dump_question d b p = do
  v ← ask_value p
  whole_text d b p v
