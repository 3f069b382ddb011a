-- A dump has no float: its integers are written digit for digit.
use Rattle.ksv_questions.proofs.Common.{arith, ◌≡◌, ℕ, zero, suc, ◌+◌, ℤ, Bool, true, false, ◌||◌, ◌&&◌, List, [], ◌∷◌, ◌++◌, Option, None, Ok, Err, refl, ap}
use Rattle.ksv_questions.proofs.Common.{if◌then◌else◌, Data, no_members, put, Answer, Fail, bind, Description, Trail, child, Index, Value, Node, answered}
use Rattle.ksv_questions.proofs.Common.{Asking, Heard, Part, begin, begun_part, elements_part, find_list, members_part, part, unasked, value_part}
use Rattle.std.proofs.Common.{Some, Ordering, Less, Equal, Greater}
use Rattle.std.proofs.lemmas.Bool.{or_from, or_parts}
use Rattle.std.specs.Ordering.{match_ordering, nat_cmp}
use Rattle.std.specs.Cmp.Lexicographic.{slice_cmp}
use Rattle.serde_json.specs.Data.{null, Members, member}
use Rattle.serde_json.specs.Find.{is_float, of_integer}
use Rattle.serde_json.specs.View.{items_of}
use Rattle.serde_json.specs.Written.{has_float, items_have_float, members_have_float}
use Rattle.ksv_basics.specs.Plan.{Ask}
use Rattle.ksv_desc.specs.Description.{fields, name}
use Rattle.ksv_expr_value.specs.contracts.path.PathPartialEq.TheImpl.{ghosts as path_tests}
use Rattle.ksv_nodes.specs.declared.node_fault.NodeFault.{NodeFault}
use Rattle.ksv_nodes.specs.NodeFaults.{fault_path}
use Rattle.ksv_expr_value.specs.declared.step.Step.TheVariants.{Name}
use Rattle.ksv_expr_value.specs.declared.value.Value.TheVariants as values
use Rattle.ksv_nodes.specs.declared.given.Given.TheVariants as givens
use Rattle.ksv_nodes.specs.declared.given.Head.TheVariants as heads
use Rattle.ksv_texts.specs.Parts.{failed_part, fault_part, is_absence, member_part, plain_part}
use Rattle.ksv_questions.specs.Answers.{outcome}
use Rattle.ksv_questions.specs.Asking.{result_of}
use Rattle.ksv_questions.specs.Dumps.{Found, asked_part, count_in, find_object, find_value, inner, list_part, object_in, object_part, or_written, value_in}

-- ---- what each end of a question is

abbrev Gives : {A : Type 0} → (A → Type 0) → Asking A → Type 0
Gives P (Answer a) = P a
Gives P (Fail e) = Unit {0}
Gives P (Ask n k) = (h : Heard) → Gives P (k h)

gives_bind : {A B : Type 0} (P : A → Type 0) (Q : B → Type 0) (p : Asking A) (f : A → Asking B) → Gives P p → ((a : A) → P a → Gives Q (f a))
    → Gives Q (bind p f)
unfolding bind
gives_bind P Q (Answer a) f h k = k a h
gives_bind P Q (Fail e) f h k = tt
gives_bind P Q (Ask n g) f h k = λ r. gives_bind P Q (g r) f (h r) k

gives_result : {A : Type 0} (P : A → Type 0) (met : Node → Heard) (q : Asking A) (a : A) → Gives P q → result_of met q ≡ Ok a → P a
gives_result P met (Answer x) a h is = let same : x ≡ a = cc in rw same at h
gives_result P met (Fail e) a h is = cc
gives_result P met (Ask n k) a h is = gives_result P met (k (met n)) a (h (met n)) is

-- ---- data without floats

abbrev IsExact : Data → Type 0
IsExact json = has_float json ≡ false

abbrev IsExactPart : Part → Type 0
IsExactPart x = IsExact x.json

abbrev IsExactFound : {A : Type 0} → Found A → Type 0
IsExactFound (Ok a) = Unit {0}
IsExactFound (Err json) = IsExact json

integer_exact : (n : ℤ) → is_float (of_integer n) ≡ false
integer_exact n = grind arith

fault_exact : (d : Description) (f : NodeFault) → IsExact (fault_part d f)
unfolding fault_part
fault_exact d f = refl

failed_exact : (d : Description) (p : Trail) (f : NodeFault) → IsExact (failed_part d p f)
unfolding failed_part
failed_exact d p f = by (is_absence f && path_tests.eq (fault_path f) p)
  where
    by : (b : Bool) → IsExact (if b then null else fault_part d f)
    by true = refl
    by false = fault_exact d f

plain_exact : (d : Description) (b : List ℕ) (p : Trail) (v : Value) → IsExact (plain_part d b p v)
unfolding plain_part member_part
plain_exact d b p (values.Int n) = integer_exact n
plain_exact d b p (values.Bool t) = refl
plain_exact d b p (values.Text t) = refl
plain_exact d b p (values.Bytes from to) = refl
plain_exact d b p (values.Member e n) = ap (λ x. x || false) (integer_exact n)
plain_exact d b p v = fault_exact d _

put_exact : (k : List ℕ) (json : Data) (ms : Members) → IsExact json → members_have_float ms ≡ false → members_have_float (put k json ms) ≡ false
put_exact k json no_members h m = or_from (has_float json) false h refl
put_exact k json (member l e ms) h m = by (slice_cmp nat_cmp k l) (put_exact k json ms h (or_parts (has_float e) (members_have_float ms) m).1)
  where
    by : (o : Ordering) → members_have_float (put k json ms) ≡ false
        → members_have_float (match_ordering o (member k json (member l e ms)) (member l json ms) (member l e (put k json ms))) ≡ false
    by Less more = or_from (has_float json) (members_have_float (member l e ms)) h m
    by Equal more = or_from (has_float json) (members_have_float ms) h (or_parts (has_float e) (members_have_float ms) m).1
    by Greater more = or_from (has_float e) (members_have_float (put k json ms)) (or_parts (has_float e) (members_have_float ms) m).0 more

items_exact : (ds : List Data) (json : Data) → items_have_float (items_of ds) ≡ false → IsExact json → items_have_float (items_of (ds ++ json ∷ [])) ≡ false
items_exact [] json h k = rw k refl
items_exact (e ∷ ds) json h k =
    let p = or_parts (has_float e) (items_have_float (items_of ds)) h in
    or_from (has_float e) (items_have_float (items_of (ds ++ json ∷ []))) p.0 (items_exact ds json p.1 k)

-- ---- parts

module _ (d : Description) (b : List ℕ) where
  begins : (left : ℕ) → Gives (λ _. Unit {0}) (begin left)
  begins left = grind arith

  unasked_exact : (p : Trail) (left : ℕ) → Gives IsExactPart (unasked d p left)
  unfolding unasked
  unasked_exact p left = gives_bind (λ _. Unit {0}) IsExactPart (begin left) _ (begins left) (λ n _. fault_exact d _)

  value_found : (p : Trail) → Gives IsExactFound (find_value d p)
  unfolding find_value bind
  value_found p = heard
    where
      heard : (h : Heard) → IsExactFound (value_in d p h)
      heard (Ok (givens.Value v)) = tt
      heard (Err f) = failed_exact d p f
      heard _ = fault_exact d _

  object_found : (q : Trail) → Gives IsExactFound (find_object d q)
  unfolding find_object bind
  object_found q = heard
    where
      heard : (h : Heard) → IsExactFound (object_in d q h)
      heard (Ok (givens.Head (heads.Object o))) = tt
      heard _ = fault_exact d _

  list_found : (q : Trail) (first : Option Trail) → Gives IsExactFound (find_list d q first)
  unfolding find_list bind
  list_found q None = fault_exact d _
  list_found q (Some first) = heard
    where
      heard : (h : Heard) → IsExactFound (count_in d q h)
      heard (Ok (givens.Rest count place)) = tt
      heard _ = fault_exact d _

  gone_into : {A : Type 0} (inside : A → Asking Part) (left : ℕ) → ((a : A) → Gives IsExactPart (inside a)) → (f : Found A) → IsExactFound f
      → Gives IsExactPart (or_written inside left f)
  gone_into inside left each (Ok a) h = each a
  gone_into inside left each (Err json) h = h

  module _ (each : ℕ → Trail → Asking Part) (good : (left : ℕ) (p : Trail) → Gives IsExactPart (each left p)) where
    inner_exact : (q : Trail) (left : ℕ) (o : Option Trail) → Gives IsExactPart (inner d each q left o)
    inner_exact q left None = unasked_exact q left
    inner_exact q left (Some p) = good left p

    members_exact : (q : Trail) (left : ℕ) (names : List ℕ) (ms : Members) → members_have_float ms ≡ false
        → Gives IsExactPart (members_part d each q left names ms)
    unfolding members_part
    members_exact q left [] ms h = h
    members_exact q left (x ∷ xs) ms h = gives_bind IsExactPart IsExactPart _ _ (inner_exact q left (child q (Name x)))
        (λ y k. members_exact q y.left xs (put (name d x) y.json ms) (put_exact (name d x) y.json ms k h))

    elements_exact : (q : Trail) (left i n : ℕ) (ds : List Data) → items_have_float (items_of ds) ≡ false
        → Gives IsExactPart (elements_part d each q left i n ds)
    unfolding elements_part
    elements_exact q left i zero ds h = h
    elements_exact q left i (suc n) ds h = gives_bind IsExactPart IsExactPart _ _ (inner_exact q left (child q (Index i)))
        (λ y k. elements_exact q y.left (i + 1) n (ds ++ y.json ∷ []) (items_exact ds y.json h k))

    object_exact : (q : Trail) (left : ℕ) → Gives IsExactPart (object_part d each q left)
    unfolding object_part
    object_exact q left = gives_bind IsExactFound IsExactPart (find_object d q) _ (object_found q)
        (gone_into _ left (λ t. members_exact q left (fields d t) no_members refl))

    list_exact : (q : Trail) (left : ℕ) → Gives IsExactPart (list_part d each q left)
    unfolding list_part
    list_exact q left = gives_bind IsExactFound IsExactPart (find_list d q (child q (Index 0))) _ (list_found q (child q (Index 0)))
        (gone_into _ left (λ n. elements_exact q left 0 n [] refl))

    value_exact : (p : Trail) (left : ℕ) (v : Value) → Gives IsExactPart (value_part d b each p left v)
    unfolding value_part
    value_exact p left (values.Object q) = object_exact q left
    value_exact p left (values.List q) = list_exact q left
    value_exact p left v = plain_exact d b p v

    begun_exact : (left : ℕ) (p : Trail) → Gives IsExactPart (begun_part d b each left p)
    unfolding begun_part asked_part
    begun_exact left p = gives_bind (λ _. Unit {0}) IsExactPart (begin left) _ (begins left)
        (λ n _. gives_bind IsExactFound IsExactPart (find_value d p) _ (value_found p) (gone_into _ n (value_exact p n)))

  part_exact : (depth left : ℕ) (p : Trail) → Gives IsExactPart (part d b depth left p)
  unfolding part
  part_exact zero left p = unasked_exact p left
  part_exact (suc depth) left p = begun_exact (part d b depth) (part_exact depth) left p

  pub whole_exact : (depth : ℕ) (p : Trail) (left : ℕ) (v : Value) (x : Part) → outcome d b (value_part d b (part d b depth) p left v) ≡ Ok x
      → has_float x.json ≡ false
  whole_exact depth p left v x is = gives_result IsExactPart (answered d b) (value_part d b (part d b depth) p left v) x
      (value_exact (part d b depth) (part_exact depth) p left v) is
