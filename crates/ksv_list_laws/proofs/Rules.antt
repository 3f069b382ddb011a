-- What the rules of a list's elements and rests say: where each begins, where it ends, and how many are behind it.
use Rattle.std.proofs.Common.{◌==◌}
use Rattle.ksv_bytes.specs.declared.uses.Use.TheVariants as uses_are
use Rattle.ksv_desc.specs.Description.{Repeat, Once, Eos, Expr, Until}
use Rattle.ksv_expr_value.specs.Places.{Place, is_same}
use Rattle.ksv_expr_value.specs.Trail.{element_limit}
use Rattle.ksv_expr_value.specs.declared.fault.FaultKind.TheVariants as kinds
use Rattle.ksv_expr_value.specs.declared.step.Step.TheVariants as steps
use Rattle.ksv_nodes.specs.Reading.{Reach}
use Rattle.ksv_nodes.specs.Rule.{rest_node, raise, ask_head, ask_rest}
use Rattle.ksv_nodes.specs.declared.given.Ended.{Ended}
use Rattle.ksv_nodes.specs.declared.given.Given.TheVariants as givens
use Rattle.ksv_nodes.specs.declared.given.Head.TheVariants as heads
use Rattle.ksv_nodes.specs.declared.given.List as lists
use Rattle.ksv_nodes.specs.declared.given.Origin.{Origin}
use Rattle.ksv_nodes.specs.declared.given.Rested.{Rested}
use Rattle.ksv_nodes.specs.declared.node_fault.NodeFault.TheVariants as faults
use Rattle.ksv_rule_meaning.specs.Ends.{place_of, start_of, not_empty, is_counted, is_last, element_end, end_at, end_of, part_rest, next_rest, rest_from}
use Rattle.ksv_rule_meaning.specs.Ends.{whole_rest, rest_at, rest_of}
use Rattle.ksv_rule_meaning.specs.Heads.{in_next, is_past, next_start, element_start, element_head, element_setting, head_at}
use Rattle.ksv_list_laws.proofs.Chains.{AsksFirst}
use Rattle.ksv_list_laws.proofs.Common.{◌≡◌, ◌∙◌, ℕ, suc, ◌+◌, ◌-◌, ◌<◌, ◌≤◌, nat_le, true, false, if◌then◌else◌, ◌||◌, List, [], ◌∷◌, length, Option, Some}
use Rattle.ksv_list_laws.proofs.Common.{None, Result, Ok, Err, refl, ap, arith, nat_tests, Answer, Ask, bind, Use, byte_of_byte, at_byte, Trail, child, parent}
use Rattle.ksv_list_laws.proofs.Common.{Stream, Description, Field, Node, NodeFault, Given, Head, Done, end_in, Rule, See, head_node, end_node, in_path}
use Rattle.ksv_list_laws.proofs.Common.{ask_end, field_of, leaf, shape_at, part_end, head_of, meaning_of, rule_of, end_uses}
use Rattle.ksv_list_laws.proofs.Paths.{part_of}
use Rattle.ksv_list_laws.proofs.Says.{as_head, Says, Ends, says_answer, says_given, says_seen, says_by, ends_raised, ends_given, ends_fault, ends_by, reaches}
use Rattle.ksv_list_laws.proofs.Says.{ends_there}
use Rattle.ksv_list_laws.specs.Lists.{repeats}
use Rattle.ksv_list_laws.specs.Nodes.{leaf_from, is_last_at}

-- ---- the rules of an element's head, end and rest

head_rule : (d : Description) (l p : Trail) (i : ℕ) → child l (steps.Index i) ≡ Some p
    → rule_of d (head_node p) ≡ as_head (element_head d p l (parent l) i)
unfolding rule_of meaning_of head_of
head_rule d l p i is =
    let up = part_of l p (steps.Index i) is in
    ap (λ o. as_head (head_at d p o)) up.1 ∙ ap (λ q. as_head (element_head d p q (parent q) i)) up.0

abbrev pub as_end : Rule Ended → Rule Given
as_end r = bind r (λ x. Answer (givens.End x.place x.last))

abbrev pub ending : Description → Trail → Trail → ℕ → Rule Given
ending d l p i = as_end (bind (ask_head p) (λ h. bind (place_of d p h) (λ e. element_end d p l (parent l) i h e)))

pub end_rule : (d : Description) (l p : Trail) (i : ℕ) → child l (steps.Index i) ≡ Some p → rule_of d (end_node p) ≡ ending d l p i
unfolding rule_of meaning_of end_of
end_rule d l p i is =
    let up = part_of l p (steps.Index i) is in
    ap (λ o. as_end (bind (ask_head p) (λ h. bind (place_of d p h) (λ e. end_at d p o h e)))) up.1
    ∙ ap (λ q. as_end (bind (ask_head p) (λ h. bind (place_of d p h) (λ e. element_end d p q (parent q) i h e)))) up.0

abbrev pub as_rest : Rule Rested → Rule Given
as_rest r = bind r (λ z. Answer (givens.Rest z.count z.place))

first_rule : (d : Description) (l p : Trail) → child l (steps.Index 0) ≡ Some p
    → rule_of d (rest_node p) ≡ as_rest (whole_rest p l)
unfolding rule_of meaning_of rest_of
first_rule d l p is =
    let up = part_of l p (steps.Index 0) is in
    ap (λ o. as_rest (rest_at p o)) up.1
    ∙ ap (λ q. as_rest (whole_rest p q)) up.0

next_rule : (d : Description) (l p : Trail) (i : ℕ) → child l (steps.Index (suc i)) ≡ Some p
    → rule_of d (rest_node p) ≡ as_rest (rest_from p l (suc i))
unfolding rule_of meaning_of rest_of
next_rule d l p i is =
    let up = part_of l p (steps.Index (suc i)) is in
    let later : (suc i == 0) ≡ false = grind (arith, nat_tests) in
    ap (λ o. as_rest (rest_at p o)) up.1
    ∙ ap (λ b. as_rest (if b then whole_rest p (parent p) else rest_from p (parent p) (suc i))) later
    ∙ ap (λ q. as_rest (rest_from p q (suc i))) up.0

-- ---- what they ask first

pub head_first : (d : Description) (l p : Trail) (i : ℕ) → child l (steps.Index i) ≡ Some p → AsksFirst d (head_node p) (head_node l)
unfolding element_head bind
head_first d l p i is = record { rest = _; is = head_rule d l p i is }

pub end_first : (d : Description) (p : Trail) → AsksFirst d (end_node p) (head_node p)
unfolding rule_of meaning_of end_of bind
end_first d p = record { rest = _; is = refl }

pub rest_first : (d : Description) (l p : Trail) → child l (steps.Index 0) ≡ Some p → AsksFirst d (rest_node p) (head_node l)
unfolding whole_rest bind
rest_first d l p is = record { rest = _; is = first_rule d l p is }

pub rest_next : (d : Description) (l p : Trail) (i : ℕ) → child l (steps.Index (suc i)) ≡ Some p → AsksFirst d (rest_node p) (end_node p)
unfolding rest_from bind
rest_next d l p i is = record { rest = _; is = next_rule d l p i is }

-- ---- so many bytes from a place on

pub leaf_says : (met : Node → Result Given NodeFault) (here : Trail) (bytes : List ℕ) (origin : Origin) (w : Stream) (a n : ℕ)
    → end_in bytes w.to ≤ length bytes → a + n ≤ end_in bytes w.to
    → Says met here bytes (as_head (leaf origin w (at_byte a) n))
    (leaf_from origin a (a + n))
    [] (uses_are.Reach (a + n) ∷ [])
unfolding leaf bind
leaf_says met here bytes origin w a n within room =
    says_by met here bytes _ (Ask (See (Reach w (a + n))) (λ x. Answer
    (leaf_from origin a (a + n)))) _ [] _
    (ap (λ b. Ask (See (Reach w (b + n))) (λ x. Answer (leaf_from origin a (b + n)))) (byte_of_byte a))
    (says_seen met here bytes (Reach w (a + n)) _ tt (uses_are.Reach (a + n) ∷ []) _ (reaches bytes w (a + n) within room) refl)

module _ (met : Node → Result Given NodeFault) (bytes : List ℕ) (d : Description) (g : lists.List) (l p : Trail)
    (listed : met (head_node l) ≡ Ok (givens.Head (heads.List g))) where
  abbrev says : Rule Given → Given → List Node → List Use → Type 0
  says rule a ns us = Says met p bytes rule a ns us

  abbrev ends : Rule Given → Result Given NodeFault → List Node → List Use → Type 0
  ends rule r ns us = Ends met p bytes rule r ns us

  -- ---- heads

  -- what is left of an element's head, where its place is known
  abbrev pub read_at : ℕ → Rule Place → Rule Given
  read_at i s = as_head (bind s (λ z. bind (field_of d g.origin.member) (λ f. shape_at (element_setting p (parent l) g.origin z i) g.origin g.stream z f)))

  head_from : (i : ℕ) (r : Result Given NodeFault) (ns : List Node) (us : List Use) → child l (steps.Index i) ≡ Some p
      → ends (read_at i (element_start l g i)) r ns us
      → ends (rule_of d (head_node p)) r (head_node l ∷ ns) us
  unfolding element_head bind
  head_from i r ns us is s =
      ends_by met p bytes _ (as_head (element_head d p l (parent l) i)) r (head_node l ∷ ns) us (head_rule d l p i is)
      (ends_given met p bytes (head_node l) _ (givens.Head (heads.List g)) r ns us listed s)

  -- the first begins with its list
  pub first_head : (first : ℕ) (a : Given) (us : List Use) → child l (steps.Index 0) ≡ Some p → g.is_empty ≡ false → is_past g.count 0 ≡ false
      → g.start ≡ at_byte first
      → says (read_at 0 (Answer (at_byte first))) a [] us → says (rule_of d (head_node p)) a (head_node l ∷ []) us
  unfolding element_start
  first_head first a us is filled counted begins s =
      head_from 0 (Ok a) [] us is (says_by met p bytes _ _ a [] us (ap (read_at 0)
      (ap (λ b. if b || is_past g.count 0 then raise kinds.BadIndex else Answer g.start) filled
      ∙ ap (λ b. if b then raise kinds.BadIndex else Answer g.start) counted ∙ ap (λ (z : Place). Answer z) begins)) s)

  -- each other where the one before ends
  head_behind : (i : ℕ) (q : Trail) (r : Result Given NodeFault) (us : List Use) → child l (steps.Index (suc i)) ≡ Some p → child l (steps.Index i) ≡ Some q
      → g.is_empty ≡ false → is_past g.count (suc i) ≡ false → ends (read_at (suc i) (bind (ask_end q) (λ e. in_next e))) r (end_node q ∷ []) us
      → ends (rule_of d (head_node p)) r (head_node l ∷ end_node q ∷ []) us
  unfolding element_start next_start part_end bind
  head_behind i q r us is was filled counted s =
      let later : (suc i == 0) ≡ false = grind (arith, nat_tests) in
      let before : suc i - 1 ≡ i = omega arith in
      head_from (suc i) r (end_node q ∷ []) us is (ends_by met p bytes _ _ r (end_node q ∷ []) us (ap (read_at (suc i))
      (ap (λ c. if c || is_past g.count (suc i) then raise kinds.BadIndex else (if suc i == 0 then Answer g.start else next_start l (suc i - 1))) filled
      ∙ ap (λ c. if c then raise kinds.BadIndex else (if suc i == 0 then Answer g.start else next_start l (suc i - 1))) counted
      ∙ ap (λ c. if c then Answer g.start else next_start l (suc i - 1)) later
      ∙ ap (λ j. next_start l j) before
      ∙ ap (λ o. bind (bind (in_path o) (λ r'. ask_end r')) (λ e. in_next e)) was)) s)

  -- which isn't the last
  pub next_head : (i b : ℕ) (q : Trail) (a : Given) (us : List Use) → child l (steps.Index (suc i)) ≡ Some p → child l (steps.Index i) ≡ Some q
      → g.is_empty ≡ false → is_past g.count (suc i) ≡ false
      → met (end_node q) ≡ Ok (givens.End (at_byte b) false) → says (read_at (suc i) (Answer (at_byte b))) a [] us
      → says (rule_of d (head_node p)) a (head_node l ∷ end_node q ∷ []) us
  unfolding bind
  next_head i b q a us is was filled counted ended s =
      head_behind i q (Ok a) us is was filled counted (says_given met p bytes (end_node q) _ (givens.End (at_byte b) false) a [] us ended s)

  -- behind the last there is none
  pub missing_head : (i b : ℕ) (q : Trail) → child l (steps.Index (suc i)) ≡ Some p → child l (steps.Index i) ≡ Some q → g.is_empty ≡ false
      → is_past g.count (suc i) ≡ false → met (end_node q) ≡ Ok (givens.End (at_byte b) true)
      → ends (rule_of d (head_node p)) (Err (faults.Raised (record { kind = kinds.BadIndex; path = p }))) (head_node l ∷ end_node q ∷ []) []
  unfolding bind
  missing_head i b q is was filled counted ended =
      head_behind i q _ [] is was filled counted
      (ends_given met p bytes (end_node q) _ (givens.End (at_byte b) true) _ [] [] ended (ends_raised met p bytes kinds.BadIndex))

  -- nor behind one that isn't there
  pub next_missing : (i : ℕ) (q : Trail) (f : NodeFault) → child l (steps.Index (suc i)) ≡ Some p → child l (steps.Index i) ≡ Some q
      → g.is_empty ≡ false → is_past g.count (suc i) ≡ false → met (end_node q) ≡ Err f
      → ends (rule_of d (head_node p)) (Err f) (head_node l ∷ end_node q ∷ []) []
  unfolding bind
  next_missing i q f is was filled counted ended = head_behind i q _ [] is was filled counted (ends_fault met p bytes (end_node q) _ f ended)

  -- ---- ends

  -- what has no head has no end
  pub missing_end : (f : NodeFault) → met (head_node p) ≡ Err f → ends (rule_of d (end_node p)) (Err f) (head_node p ∷ []) []
  missing_end f headed = let first = end_first d p in ends_by met p bytes _ _ _ _ _ first.is (ends_fault met p bytes (head_node p) first.rest f headed)

  apart : (a z : ℕ) → a < z → is_same (at_byte z) (at_byte a) ≡ false
  unfolding at_byte
  apart a z lt = grind (arith, nat_tests)

  module _ (f : Field) (is_field : field_of d g.origin.member ≡ Answer f) (ok : repeats f.repeat g.count ≡ true) where
    -- what is left where the element's own place is known, and the list's head
    abbrev by_repeat : ℕ → Place → Place → Repeat → Rule Given
    by_repeat i s z r = as_end (bind (not_empty r s z) (λ u. bind (is_last (parent l) g p i z r) (λ b. Answer (record { place = z; last = b }))))

    by : (i a z : ℕ) (r : Repeat) (c : Option ℕ) → a < z → g.count ≡ c → repeats r c ≡ true
        → says (by_repeat i (at_byte a) (at_byte z) r) (givens.End (at_byte z) (is_last_at c bytes g.stream.to i z)) [] (end_uses c bytes g.stream.to z)
    unfolding not_empty is_last bind
    by i a z Eos None lt same good =
        says_by met p bytes _ (Ask (See (Done g.stream (at_byte z))) (λ b. Answer (givens.End (at_byte z) b))) _ [] _
        (ap (λ b. as_end (bind (if b then raise {A = Unit {0}} kinds.NoBytes else Answer tt)
        (λ u. bind (is_last (parent l) g p i (at_byte z) Eos) (λ c. Answer (record { place = at_byte z; last = c }))))) (apart a z lt))
        (says_seen met p bytes (Done g.stream (at_byte z)) _ (nat_le (end_in bytes g.stream.to) z) _ _ (ends_there bytes g.stream z) refl)
    by i a z (Expr e) (Some n) lt same good =
        says_by met p bytes _ (Answer (givens.End (at_byte z) (n == i + 1))) _ [] []
        (ap (λ c. Answer (givens.End (at_byte z) (is_counted c i))) same) (says_answer met p bytes _)
    by i a z Eos (Some n) lt same good = absurd (cc)
    by i a z (Expr e) None lt same good = absurd (cc)
    by i a z Once c lt same good = absurd (cc)
    by i a z (Until e) c lt same good = absurd (cc)

    -- an element that begins at a and ends at z
    pub closes : (i a z : ℕ) (h : Head) → start_of h ≡ at_byte a → a < z
        → says (as_end (element_end d p l (parent l) i h (at_byte z))) (givens.End (at_byte z) (is_last_at g.count bytes g.stream.to i z)) (head_node l ∷ [])
        (end_uses g.count bytes g.stream.to z)
    unfolding element_end bind
    closes i a z h begins lt =
        says_given met p bytes (head_node l) _ (givens.Head (heads.List g)) _ [] _ listed
        (says_by met p bytes _ _ _ [] _ (ap (λ r. as_end (bind r (λ k. bind (not_empty k.repeat (start_of h) (at_byte z))
        (λ u. bind (is_last (parent l) g p i (at_byte z) k.repeat) (λ b. Answer (record { place = at_byte z; last = b })))))) is_field
        ∙ ap (λ s. by_repeat i s (at_byte z) f.repeat) begins) (by i a z f.repeat g.count lt refl ok))

  -- ---- rests

  -- behind the last element
  pub last_rest : (n i : ℕ) (place : Place) → i + 1 ≡ n → met (end_node p) ≡ Ok (givens.End place true)
      → says (as_rest (rest_from p l i)) (givens.Rest n place) (end_node p ∷ []) []
  unfolding rest_from bind
  last_rest n i place count ended = says_given met p bytes (end_node p) _ (givens.End place true) _ [] [] ended
      (says_by met p bytes _ (Answer (givens.Rest n place)) _ [] [] (ap (λ c. Answer (givens.Rest c place)) count) (says_answer met p bytes _))

  -- behind another one the rest from the next element on says how many there are
  pub more_rest : (i : ℕ) (e : Place) (q : Trail) → child l (steps.Index (suc i)) ≡ Some q → suc i < element_limit
      → met (end_node p) ≡ Ok (givens.End e false)
      → (n : ℕ) (place : Place) → met (rest_node q) ≡ Ok (givens.Rest n place)
      → says (as_rest (rest_from p l i)) (givens.Rest n place) (end_node p ∷ rest_node q ∷ []) []
  unfolding rest_from next_rest part_rest bind
  more_rest i e q is low ended n place rested =
      let inner : (i + 1 == element_limit) ≡ false = grind (arith, nat_tests) in
      let one : i + 1 ≡ suc i = omega arith in
      says_given met p bytes (end_node p) _ (givens.End e false) _ (rest_node q ∷ []) [] ended
      (says_by met p bytes _ (as_rest (ask_rest q)) _ (rest_node q ∷ []) []
      (ap (λ b. as_rest (if b then raise kinds.TooMany else part_rest l (steps.Index (i + 1)))) inner ∙ ap (λ k. as_rest (part_rest l (steps.Index k))) one
      ∙ ap (λ o. as_rest (bind (in_path o) (λ r. ask_rest r))) is)
      (says_given met p bytes (rest_node q) _ (givens.Rest n place) _ [] [] rested (says_answer met p bytes _)))

  pub rest_says : (i : ℕ) (a : Given) (ns : List Node) → child l (steps.Index (suc i)) ≡ Some p → says (as_rest (rest_from p l (suc i))) a ns []
      → says (rule_of d (rest_node p)) a ns []
  rest_says i a ns is s = says_by met p bytes _ _ a ns [] (next_rule d l p i is) s

  -- the first rest asks the list, too
  pub whole_says : (a : Given) (ns : List Node) → child l (steps.Index 0) ≡ Some p → g.is_empty ≡ false → says (as_rest (rest_from p l 0)) a ns []
      → says (rule_of d (rest_node p)) a (head_node l ∷ ns) []
  unfolding whole_rest bind
  whole_says a ns is filled s =
      says_by met p bytes _ _ a (head_node l ∷ ns) [] (first_rule d l p is)
      (says_given met p bytes (head_node l) _ (givens.Head (heads.List g)) a ns [] listed
      (says_by met p bytes _ _ a ns [] (ap (λ b. as_rest (if b then Answer (record { count = 0; place = g.start }) else rest_from p l 0)) filled) s))
