-- How the members of a description read: the member of a place or a name, and the case that a switch chose.
use Rattle.ksv_rule_laws.proofs.Common.{◌≡◌, ◌∙◌, ℕ, suc, ◌+◌, Bool, List, [], ◌∷◌, slice_get, Option, Some, None, Result, refl}
use Rattle.ksv_rule_laws.proofs.Common.{inl, inr, sym, ap, arith, Tree, Setting, Trail, Value, Description, MemberOfType, MemberKind, Attribute}
use Rattle.ksv_rule_laws.proofs.Common.{ParseInstance, Content, Choice, Always, Switch, Node, NodeFault, Given, MemberRef, Rule, expression}
use Rattle.ksv_rule_laws.proofs.Common.{members_of, Sought, kind_of, field_of, Reads, IsFieldOf, IsContentOf, cases_Bool}
use Rattle.std.specs.Prelude.{option_map, option_and_then}
use Rattle.ksv_desc.specs.Description.{Case, field_in}
use Rattle.ksv_desc.specs.Description as contents
use Rattle.ksv_rule_meaning.specs.Choosing.{Chosen, is_case_of, is_default, first_case, or_default, case_for, switched, choose, in_content, content_of}
use Rattle.ksv_rule_meaning.specs.Fields.{in_sought, in_field, in_kind}
use Rattle.ksv_rule_laws.proofs.Rules.{Answers, join, exact}

-- what was chosen is a case of these, of which the first has this number
record IsOneOf (cases : List Case) (i : ℕ) (c : Chosen) : Type 0 where
  place : ℕ
  is : c.case ≡ Some (i + place)
  one : Case
  there : slice_get cases place ≡ Some one
  content : one.content ≡ c.content

first_there : (is_right : Case → Bool) (i : ℕ) (cases : List Case) (c : Chosen) → first_case is_right i cases ≡ Some c → IsOneOf cases i c
unfolding first_case
first_there is_right i [] c e = cc
first_there is_right i (k ∷ cases) c e = elim (cases_Bool (is_right k)) [
  | inl so ↦
      let found : ◌≡◌ {A = Option Chosen} (Some (record { case = Some i; content = k.content })) (Some c) = rw so at e in
      let at : i ≡ i + 0 = omega arith in
      record { place = 0; is = cc; one = k; there = refl; content = cc }
  | inr other ↦
      let r = first_there is_right (i + 1) cases c (rw other at e) in
      let at : i + 1 + r.place ≡ i + suc r.place = omega arith in
      record { place = suc r.place; is = r.is ∙ ap Some at; one = r.one; there = r.there; content = r.content }
]

case_there : (v : Value) (cases : List Case) (c : Chosen) → case_for v cases ≡ Some c → IsOneOf cases 0 c
unfolding case_for
case_there v cases c e = by_first (first_case (is_case_of v) 0 cases) refl e
  where
    by_first : (o : Option Chosen) → first_case (is_case_of v) 0 cases ≡ o → or_default o cases ≡ Some c → IsOneOf cases 0 c
    by_first None is h = first_there is_default 0 cases c h
    by_first (Some k) is h = first_there (is_case_of v) 0 cases c (is ∙ h)

-- what was chosen is read by its case
abbrev pub IsChosen : Choice → Option Chosen → Type 0
IsChosen choice None = IsContentOf choice None contents.Bytes
IsChosen choice (Some c) = IsContentOf choice c.case c.content

switch_is : (on : Tree) (cases : List Case) (v : Value) (o : Option Chosen) → case_for v cases ≡ o → IsChosen (Switch on cases) o
switch_is on cases v None e = refl
switch_is on cases v (Some c) e =
    let r = case_there v cases c e in
    let at : 0 + r.place ≡ r.place = omega arith in
    rw (r.is ∙ ap Some at) (r.one, r.there, r.content)

module _ (met : Node → Result Given NodeFault) (here : Trail) (bytes : List ℕ) where
  abbrev Says : {A : Type 0} → (A → Type 0) → Rule A → Type 0
  Says P p = Answers met here bytes P p

  pub choice_is : (at : Setting) (choice : Choice) → Says (λ o. IsChosen choice o) (choose at choice)
  unfolding choose switched
  choice_is at (Always c) = refl
  choice_is at (Switch on cases) = join met here bytes _ _ (expression at on) _ (exact met here bytes (expression at on))
      (λ v is. switch_is on cases v (case_for v cases) refl)

  -- the content of a case is the one by which something is read
  pub content_found : (choice : Choice) (case : Option ℕ) → Says (λ c. (k : Content) → IsContentOf choice case k → k ≡ c) (content_of choice case)
  unfolding content_of
  content_found (Always a) None = λ k is. sym is
  content_found (Always a) (Some i) = λ k is. absurd is
  content_found (Switch on cases) None = λ k is. is
  content_found (Switch on cases) (Some i) = by_case (slice_get cases i)
    where
      by_case : (o : Option Case) → Answers met here bytes (λ c. (k : Content) → (one : Case) × (o ≡ Some one) × (one.content ≡ k) → k ≡ c)
          (in_content (option_map (λ c. c.content) o))
      by_case None = tt
      by_case (Some c) = λ k is. cc

  -- what the member of a place is, and how it reads
  pub kind_found : (d : Description) (r : MemberRef)
      → Says (λ k. (m : MemberOfType) × (slice_get (members_of d r.type_number) r.member ≡ Some m) × (m.kind ≡ k)) (kind_of d r)
  unfolding kind_of
  kind_found d r = by_member (slice_get (members_of d r.type_number) r.member)
    where
      by_member : (o : Option MemberOfType) → Answers met here bytes (λ k. (m : MemberOfType) × (o ≡ Some m) × (m.kind ≡ k)) (in_kind o)
      by_member None = tt
      by_member (Some m) = (m, refl, refl)

  pub field_found : (d : Description) (r : MemberRef) → Says (λ f. IsFieldOf d r f) (field_of d r)
  unfolding field_of members_of
  field_found d r = by_member (slice_get (members_of d r.type_number) r.member)
    where
      by_kind : (m : MemberOfType) (k : MemberKind) → m.kind ≡ k
          → Answers met here bytes (λ f. (n : MemberOfType) × (Some m ≡ Some n) × Reads n.kind f) (in_field (field_in k))
      by_kind m (Attribute f) is = (m, refl, rw is refl)
      by_kind m (ParseInstance at io f) is = (m, refl, rw is refl)
      by_kind m _ is = tt

      by_member : (o : Option MemberOfType) → Answers met here bytes (λ f. (n : MemberOfType) × (o ≡ Some n) × Reads n.kind f)
          (in_field (option_and_then (λ m. field_in m.kind) o))
      by_member None = tt
      by_member (Some m) = by_kind m m.kind refl

  -- the member of a name
  pub sought_is : (o : Option Sought) → Says (λ m. o ≡ Some m) (in_sought o)
  sought_is None = tt
  sought_is (Some m) = refl
