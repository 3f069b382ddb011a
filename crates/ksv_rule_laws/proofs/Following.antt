-- An attribute begins after the one before it in its type, and the first where its object does.
use Rattle.ksv_rule_laws.proofs.Common.{◌≡◌, ◌∙◌, ℕ, ◌+◌, ◌==◌, true, false, List, [], ◌∷◌, Option, Some, None, Result, Ok, refl, sym, ap, subst}
use Rattle.ksv_rule_laws.proofs.Common.{arith, AllByRecursion, nat_tests, Place, at_byte, byte_of, aligned, Trail, parent, last, Description, MemberOfType}
use Rattle.ksv_rule_laws.proofs.Common.{MemberKind, Attribute, Choice, Always}
use Rattle.ksv_rule_laws.proofs.Common.{Node, NodeFault, Given, Object, Head, head_node, members_of, behind, Sought, sought, last_attribute, origin_of}
use Rattle.ksv_rule_laws.proofs.Common.{start_after, start_of, from_nothing, same_Some}
use Rattle.std.proofs.Common.{◌*◌, ◌/◌, ◌++◌}
use Rattle.ksv_expr_value.specs.declared.step.Step.TheVariants.{Name}
use Rattle.ksv_desc.specs.Description as contents
use Rattle.ksv_nodes.specs.declared.given.Given.TheVariants as givens
use Rattle.ksv_nodes.specs.declared.given.Head.TheVariants as heads
use Rattle.ksv_rule_meaning.specs.Fields.{is_attribute}
use Rattle.ksv_rule_laws.specs.Laws.{AreBits, IsNextByte, BeginsAfter, FirstAttributesBegin, AttributesTouch}
use Rattle.ksv_rule_laws.proofs.Shapes.{IsStart, IsMember, IsMemberOf}
use Rattle.ksv_rule_laws.proofs.Shaping.{by_shape}
use Rattle.ksv_rule_laws.proofs.Touching.{begins_at}

-- ---- the attribute before

-- the member that is found has the last attribute in front of it
sought_is : (x i : ℕ) (before : Option ℕ) (front : List MemberOfType) (m : MemberOfType) (rest : List MemberOfType) → m.name ≡ x
    → AllByRecursion (λ k. (k.name == x) ≡ false) front
    → (member : ℕ) × (sought x i before (front ++ m ∷ rest) ≡ Some (record { member = member; before = last_attribute before front; kind = m.kind }))
unfolding sought
sought_is x i before [] m rest is apart =
    let same : (m.name == x) ≡ true = grind (arith, nat_tests) in
    (i, rw same refl)
sought_is x i before (k ∷ front) m rest is apart =
    let later = sought_is x (i + 1) (behind before k) front m rest is apart.1 in (later.0, rw apart.0 later.1)

last_of_both : (before : Option ℕ) (front rest : List MemberOfType) → last_attribute before (front ++ rest) ≡ last_attribute (last_attribute before front) rest
last_of_both before [] rest = refl
last_of_both before (m ∷ front) rest = last_of_both (behind before m) front rest

last_of_none : (before : Option ℕ) (ms : List MemberOfType) → AllByRecursion (λ m. is_attribute m.kind ≡ false) ms → last_attribute before ms ≡ before
last_of_none before [] none = refl
last_of_none before (m ∷ ms) none = rw none.0 (last_of_none before ms none.1)

last_is : (front : List MemberOfType) (m : MemberOfType) (between : List MemberOfType) (y : ℕ) → m.name ≡ y → is_attribute m.kind ≡ true
    → AllByRecursion (λ k. is_attribute k.kind ≡ false) between
    → last_attribute None (front ++ m ∷ between) ≡ Some y
last_is front m between y is attribute none =
    rw (last_of_both None front (m ∷ between), attribute) (last_of_none (Some m.name) between none ∙ ap Some is)

-- what an attribute reads by
abbrev pub choice_of : MemberKind → Choice
choice_of (Attribute f) = f.choice
choice_of _ = Always contents.Bytes

-- bits begin where what is before them ends, all else at the next byte
next_byte : (e s : Place) → aligned e ≡ s → IsNextByte e s
unfolding at_byte byte_of
next_byte e s is =
    let bits : 8 * ((e.bits + 7) / 8) ≡ s.bits = ap (λ (p : Place). p.bits) is in
    record { begins = omega (arith, bits); behind = omega (arith, bits); near = omega (arith, bits) }

starts_so : (c : Choice) (e s : Place) → start_after e c ≡ s → (AreBits c → s ≡ e) × ((AreBits c → ⊥) → IsNextByte e s)
starts_so (Always (contents.Bits width enum)) e s is = (λ b. sym is, λ no. absurd (no tt))
starts_so c e s is = (λ b. absurd b, λ no. next_byte e s is)

begins_after : (k : MemberKind) (e s : Place) → is_attribute k ≡ true → start_after e (choice_of k) ≡ s → BeginsAfter k e s
begins_after (Attribute f) e s attribute is = starts_so f.choice e s is
begins_after _ e s attribute is = cc

-- where a member begins, of an object whose head is answered
module _ (d : Description) (bytes : List ℕ) (met : Node → Result Given NodeFault) (p : Trail) where
  abbrev Starts : Object → Option ℕ → Choice → Place → Type 0
  Starts o before c s = IsStart d met p bytes o before c s

  member_starts : (o : Object) (m : Sought) (k : MemberKind) (h : Head) → is_attribute k ≡ true → IsMember d met p bytes o m k h
      → Starts o m.before (choice_of k) (start_of h)
  member_starts o m (Attribute f) h attribute is = rw (begins_at bytes (origin_of o m) o.stream is.0 f h is.2) is.1
  member_starts o m _ h attribute is = cc

  -- the object at the holder's path is the one that the rule asked for
  begun : (x : ℕ) (h : Head) (o : Object) → IsMemberOf d met p bytes x h → met (head_node (parent p)) ≡ Ok (givens.Head (heads.Object o))
      → (before : Option ℕ) (front : List MemberOfType) (m : MemberOfType) (rest : List MemberOfType) → members_of d o.type_number ≡ front ++ m ∷ rest
      → m.name ≡ x → is_attribute m.kind ≡ true
      → AllByRecursion (λ k. (k.name == x) ≡ false) front → last_attribute None front ≡ before → Starts o before (choice_of m.kind) (start_of h)
  begun x h o i holder before front m rest members named attribute apart last_one =
      let object : i.object ≡ o = cc in
      let found = sought_is x 0 None front m rest named apart in
      let here = ap (λ (k : Object). sought x 0 None (members_of d k.type_number)) object ∙ ap (sought x 0 None) members ∙ found.1 in
      let member : record { member = found.0; before = last_attribute None front; kind = m.kind } ≡ i.member = same_Some _ _ (sym here ∙ i.found) in
      let front_is : i.member.before ≡ before = ap (λ (k : Sought). k.before) (sym member) ∙ last_one in
      let own = member_starts i.object i.member i.member.kind h (ap (λ (k : Sought). is_attribute k.kind) (sym member) ∙ attribute) i.is in
      let kind : i.member.kind ≡ m.kind = ap (λ (k : Sought). k.kind) (sym member) in
      let read = subst (λ k. Starts i.object i.member.before (choice_of k) (start_of h)) kind own in
      rw (← object) (rw (← front_is) read)

head_begun : (d : Description) (bytes : List ℕ) (opened : List Node) (p : Trail) (x : ℕ) (h : Head) → last p ≡ Some (Name x)
    → from_nothing d bytes opened (head_node p) ≡ Ok (givens.Head h) → IsMemberOf d (from_nothing d bytes opened) p bytes x h
head_begun d bytes opened p x h is e = rw is at (by_shape d bytes opened (head_node p) (givens.Head h) e)

pub first_attributes_begin : FirstAttributesBegin
first_attributes_begin d bytes opened p x h o is e holder one =
    sym (begun d bytes (from_nothing d bytes opened) p x h o
    (head_begun d bytes opened p x h is e) holder None one.front one.member one.rest one.is one.named one.attribute one.apart
    (last_of_none None one.front one.none))

pub attributes_touch : AttributesTouch
attributes_touch d bytes opened p x y h o is e holder two =
    let starts = begun d bytes (from_nothing d bytes opened) p x h o (head_begun d bytes opened p x h is e) holder (Some y)
    (two.front ++ two.first ∷ two.between) two.second two.rest two.is two.named two.second_attribute two.apart
    (last_is two.front two.first two.between y two.first_named two.attribute two.none) in
    record { place = starts.0; ends = starts.1; begins = begins_after two.second.kind starts.0 (start_of h) two.second_attribute starts.2 }
