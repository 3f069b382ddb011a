-- What is read lies in the stream of the object or list that holds it.
use Rattle.ksv_rule_laws.proofs.Common.{◌≡◌, ℕ, ◌+◌, ◌==◌, ◌≤◌, Bool, true, false, List, [], ◌∷◌, Option, Some, None, Result, Ok, refl, sym}
use Rattle.ksv_rule_laws.proofs.Common.{ap, arith, inl, inr, ◌⊎◌, AllByRecursion, nat_tests, Tree, Place, at_byte, byte_of, of_aligned, Trail}
use Rattle.ksv_rule_laws.proofs.Common.{parent, last, Step, Stream, Choice, Description, MemberOfType, MemberKind, Parameter, Attribute, ParseInstance}
use Rattle.ksv_rule_laws.proofs.Common.{ValueInstance, Field, Node, NodeFault, NodeKind, Given, Origin, ObjectEnd, Object, Head, end_in, head_node, end_node}
use Rattle.ksv_rule_laws.proofs.Common.{rest_node, answer_of, expression, holds, stream_for, members_of, behind, Sought, sought, last_attribute, origin_of}
use Rattle.ksv_rule_laws.proofs.Common.{instance_setting, calc, is_last, from_nothing, EndsAt, cases_Bool}
use Rattle.ksv_rule_laws.proofs.Starts.{of_start, at_most, at_least}
use Rattle.ksv_expr_value.specs.declared.step.Step.TheVariants as steps
use Rattle.ksv_nodes.specs.declared.node.NodeKind.TheVariants as nodes
use Rattle.ksv_nodes.specs.declared.given.Given.TheVariants as givens
use Rattle.ksv_nodes.specs.declared.given.ObjectEnd.TheVariants as endings
use Rattle.ksv_nodes.specs.declared.given.Head.TheVariants as heads
use Rattle.ksv_rule_meaning.specs.Fields.{is_attribute}
use Rattle.ksv_rule_meaning.specs.Heads.{within}
use Rattle.ksv_rule_laws.specs.Laws.{IsBetween, LiesIn, IsStreamFor, IsReadIn, IsHeld, AreNamesDistinct, HasDistinctNames, HeadsLieInStreams, EndsLieInStreams}
use Rattle.ksv_rule_laws.specs.Laws.{IsUnmet, IsLeftOut}
use Rattle.ksv_rule_laws.proofs.Answering.{same_answer}
use Rattle.ksv_rule_laws.proofs.Rules.{Answers, answered, known}
use Rattle.ksv_rule_laws.proofs.Shapes.{IsHeadAt, IsStart, IsOut, IsMember, IsMemberOf, IsElementOf, IsHead, IsFieldsEnd, IsObjectEnd, RestsAt, IsEnd, IsEndOf}
use Rattle.ksv_rule_laws.proofs.Shapes.{IsRest, IsAnswer}
use Rattle.ksv_rule_laws.proofs.Shaping.{part_of, by_shapes}

-- ---- streams

-- the stream of an object or a list
abbrev IsStreamOf : Head → Stream → Type 0
IsStreamOf (heads.Object o) w = o.stream ≡ w
IsStreamOf (heads.List g) w = g.stream ≡ w
IsStreamOf _ w = ⊥

-- a step of an object leads to an attribute, if to a member
abbrev IsBeside : Description → Head → Step → Type 0
IsBeside d (heads.Object o) (steps.Name x) = (s : Sought) → sought x 0 None (members_of d o.type_number) ≡ Some s → is_attribute s.kind ≡ true
IsBeside d _ step = Unit {0}

same_stream : (k : Head) (w w' : Stream) → IsStreamOf k w → IsStreamOf k w' → w ≡ w'
same_stream k w w' a b = grind arith

-- ---- the parts of an object that rules ask for

-- an attribute is read in the stream of its object
for_own : (met : Node → Result Given NodeFault) (bytes : List ℕ) (p : Trail) (o : Object) (k : MemberKind) (w : Stream) → is_attribute k ≡ true
    → IsStreamFor met bytes p o k w → o.stream ≡ w
for_own met bytes p o (Attribute f) w own is = is
for_own met bytes p o _ w own is = cc

-- so is an element in that of its list
read_own : (d : Description) (met : Node → Result Given NodeFault) (bytes : List ℕ) (p : Trail) (k : Head) (step : Step) (w : Stream)
    → IsBeside d k step → IsReadIn d met bytes p k (Some step) w → IsStreamOf k w
read_own d met bytes p (heads.Object o) (steps.Name x) w beside is = for_own met bytes p o is.0.kind w (beside is.0 is.1) is.2
read_own d met bytes p (heads.List g) (steps.Index i) w beside is = is
read_own d met bytes p _ step w beside is = absurd is

-- all elements of a list are read in one stream
read_beside : (d : Description) (met : Node → Result Given NodeFault) (bytes : List ℕ) (r p : Trail) (k : Head) (i j : ℕ) (w : Stream)
    → IsReadIn d met bytes r k (Some (steps.Index i)) w → IsReadIn d met bytes p k (Some (steps.Index j)) w
read_beside d met bytes r p (heads.List g) i j w is = is
read_beside d met bytes r p _ i j w is = absurd is

-- this names an attribute of the members
abbrev IsOfAttribute : ℕ → List MemberOfType → Type 0
IsOfAttribute z [] = ⊥
IsOfAttribute z (m ∷ ms) = ((m.name ≡ z) × (is_attribute m.kind ≡ true)) ⊎ IsOfAttribute z ms

-- none of other names has this one
no_other : (z : ℕ) (ms : List MemberOfType) → AllByRecursion (λ m. (m.name == z) ≡ false) ms → IsOfAttribute z ms → ⊥
no_other z [] apart named = named
no_other z (m ∷ ms) apart named = elim named [
  | inl first ↦ let same = first.0 in let other = apart.0 in grind (arith, nat_tests)
  | inr later ↦ no_other z ms apart.1 later
]

-- where no two members have one name, the member of an attribute's name is that attribute
named_attribute : (z i : ℕ) (before : Option ℕ) (ms : List MemberOfType) (s : Sought) → AreNamesDistinct ms → IsOfAttribute z ms
    → sought z i before ms ≡ Some s → is_attribute s.kind ≡ true
unfolding sought
named_attribute z i before [] s distinct named e = absurd named
named_attribute z i before (m ∷ ms) s distinct named e = elim (cases_Bool (m.name == z)) [
  | inl is ↦
      let found : ◌≡◌ {A = Option Sought} (Some (record { member = i; before = before; kind = m.kind })) (Some s) = rw is at e in
      let same : m.name ≡ z = grind (arith, nat_tests) in
      elim named [
        | inl first ↦ let own = first.1 in cc
        | inr later ↦ absurd (no_other m.name ms distinct.0 (rw same later))
      ]
  | inr other ↦ elim named [
    | inl first ↦ let same = first.0 in absurd (grind (arith, nat_tests))
    | inr later ↦ named_attribute z (i + 1) (behind before m) ms s distinct.1 later (rw other at e)
  ]
]

-- what comes after a member is that member, or was there before
one_more : (before : Option ℕ) (m : MemberOfType) (ms : List MemberOfType) (z : ℕ) → (behind before m ≡ Some z) ⊎ IsOfAttribute z ms → (before ≡ Some z)
    ⊎ IsOfAttribute z (m ∷ ms)
one_more before m ms z (inl e) = elim (cases_Bool (is_attribute m.kind)) [
  | inl is ↦ let own : Some m.name ≡ Some z = rw is at e in inr (inl (cc, is))
  | inr other ↦ inl (rw other at e)
]
one_more before m ms z (inr later) = inr (inr later)

-- the last attribute, and the one before a member, are attributes
last_named : (before : Option ℕ) (ms : List MemberOfType) (z : ℕ) → last_attribute before ms ≡ Some z → (before ≡ Some z) ⊎ IsOfAttribute z ms
last_named before [] z e = inl e
last_named before (m ∷ ms) z e = one_more before m ms z (last_named (behind before m) ms z e)

before_named : (x i : ℕ) (before : Option ℕ) (ms : List MemberOfType) (s : Sought) (y : ℕ) → sought x i before ms ≡ Some s → s.before ≡ Some y
    → (before ≡ Some y) ⊎ IsOfAttribute y ms
unfolding sought
before_named x i before [] s y e is = cc
before_named x i before (m ∷ ms) s y e is = elim (cases_Bool (m.name == x)) [
  | inl found ↦ let one : ◌≡◌ {A = Option Sought} (Some (record { member = i; before = before; kind = m.kind })) (Some s) = rw found at e in inl (cc)
  | inr other ↦ one_more before m ms y (before_named x (i + 1) (behind before m) ms s y (rw other at e) is)
]

-- a part that is named so is an attribute
abbrev IsHere : Description → Object → Option ℕ → Type 0
IsHere d o None = Unit {0}
IsHere d o (Some z) = IsBeside d (heads.Object o) (steps.Name z)

module _ (d : Description) (distinct : HasDistinctNames d) (o : Object) where
  here_named : (z : ℕ) → (None ≡ Some z) ⊎ IsOfAttribute z (members_of d o.type_number) → IsBeside d (heads.Object o) (steps.Name z)
  here_named z (inl e) s is = cc
  here_named z (inr named) s is = named_attribute z 0 None (members_of d o.type_number) s (distinct o.type_number) named is

  last_here : (z : Option ℕ) → last_attribute None (members_of d o.type_number) ≡ z → IsHere d o z
  last_here None e = tt
  last_here (Some z) e = here_named z (last_named None (members_of d o.type_number) z e)

  before_here : (x : ℕ) (s : Sought) (y : Option ℕ) → sought x 0 None (members_of d o.type_number) ≡ Some s → s.before ≡ y → IsHere d o y
  before_here x s None e is = tt
  before_here x s (Some y) e is = here_named y (before_named x 0 None (members_of d o.type_number) s y e is)

module _ (bytes : List ℕ) where
  -- an object begins in its own stream, and so does a list
  abbrev pub BeginsIn : Head → Type 0
  BeginsIn (heads.Object o) = IsBetween bytes o.stream (byte_of o.start)
  BeginsIn (heads.List g) = IsBetween bytes g.stream (byte_of g.start)
  BeginsIn _ = Unit {0}

  begins_in : (w : Stream) (h : Head) → LiesIn bytes w h → BeginsIn h
  begins_in w (heads.Object o) is = is.3
  begins_in w (heads.List g) is = rw is.1 is.0
  begins_in w _ is = tt

module _ (d : Description) (bytes : List ℕ) where
  -- what a head, an end and a rest are in the stream of what holds them; nothing holds the root
  abbrev pub HeadLies : (Node → Result Given NodeFault) → Trail → Option Step → Head → Type 0
  HeadLies met p None h = BeginsIn bytes h
  HeadLies met p (Some step) h = IsLeftOut d bytes met p h ⊎ IsHeld d bytes met p (λ w. LiesIn bytes w h)

  abbrev pub EndLies : (Node → Result Given NodeFault) → Trail → Option Step → Place → Type 0
  EndLies met p None place = Unit {0}
  EndLies met p (Some step) place = IsHeld d bytes met p (λ w. IsBetween bytes w (byte_of place))

  abbrev pub Lies : (Node → Result Given NodeFault) → NodeKind → Trail → Given → Type 0
  Lies met nodes.Head p (givens.Head h) = HeadLies met p (last p) h
  Lies met nodes.End p (givens.End place is_last) = EndLies met p (last p) place
  Lies met nodes.Rest p (givens.Rest count place) = IsHeld d bytes met p (λ w. IsBetween bytes w (byte_of place))
  Lies met _ p g = Unit {0}

  head_begins : (met : Node → Result Given NodeFault) (p : Trail) (o : Option Step) (h : Head) → HeadLies met p o h → BeginsIn bytes h
  head_begins met p None h is = is
  head_begins met p (Some step) h (inl out) = rw out.nowhere tt
  head_begins met p (Some step) h (inr is) = begins_in bytes is.stream h is.lies

-- what the nodes that are asked answer lies so; all of it is what they answer in the end
module _ (d : Description) (distinct : HasDistinctNames d) (bytes : List ℕ) (met all : Node → Result Given NodeFault)
    (same : (m : Node) (g : Given) → met m ≡ Ok g → all m ≡ Ok g)
    (lies : (m : Node) (g : Given) → met m ≡ Ok g → Lies d bytes all m.kind m.path g) (here : Trail) where
  abbrev Between : Stream → ℕ → Type 0
  Between w n = IsBetween bytes w n

  -- ---- what is asked

  -- what holds a part that isn't read in another stream is known where its head was asked
  held_at : (P : Stream → Type 0) (r q : Trail) (step : Step) (k : Head) (w : Stream) → (parent r ≡ q) × (last r ≡ Some step)
      → IsBeside d k step → all (head_node q) ≡ Ok (givens.Head k) → IsStreamOf k w → IsHeld d bytes all r P → P w
  held_at P r q step k w up apart asked own held =
      let one : held.holder ≡ k = cc (held.answered, asked, ap (λ p. all (head_node p)) up.0) in
      let read : IsReadIn d all bytes r k (Some step) held.stream = rw (← one) (rw (← up.1) held.read) in
      rw (same_stream k held.stream w (read_own d all bytes r k step held.stream apart read) own) at held.lies

  ends_in : (q : Trail) (step : Step) (e : Place) (k : Head) (w : Stream) → IsBeside d k step → all (head_node q) ≡ Ok (givens.Head k)
      → IsStreamOf k w → EndsAt met q step e → Between w (byte_of e)
  ends_in q step e k w apart asked own is =
      let up = part_of q is.path step is.is in
      let held = lies (end_node is.path) (givens.End e is.is_last) is.ended in
      held_at (λ v. Between v (byte_of e)) is.path q step k w up apart asked own (rw up.1 at held)

  -- ---- heads

  at_in : (origin : Origin) (w : Stream) (s : Place) (f : Field) (h : Head) → Between w (byte_of s) → IsHeadAt bytes origin w s f h → LiesIn bytes w h
  at_in origin w s f (heads.Absent at) begins is = rw is begins
  at_in origin w s f (heads.Calc c) begins is = absurd is
  at_in origin w s f (heads.Leaf l) begins is =
      let to = is.to.after begins.1 in
      let end = is.end.after begins.1 in (
        rw is.from begins,
        (omega (arith, to, begins.0), is.to.inside),
        (omega (arith, end, begins.0), is.end.inside),
        rw is.from to,
      )
  at_in origin w s f (heads.Object o) begins is =
      let to = is.to.after begins.1 in
      let from : (w.from ≤ o.stream.from) × (o.stream.from ≤ byte_of s) = elim is.from [
        | inl own ↦ (omega (arith, own), omega (arith, own, begins.0))
        | inr at ↦ (omega (arith, at, begins.0), omega (arith, at))
      ] in (
        rw is.start begins,
        (from.0, omega (arith, from.1, begins.1)),
        is.to.inside,
        rw is.start (from.1, to),
      )
  at_in origin w s f (heads.List g) begins is = (rw is.start begins, is.stream)

  start_in : (o : Object) (before : Option ℕ) (c : Choice) (s : Place) → IsHere d o before
      → all (head_node (parent here)) ≡ Ok (givens.Head (heads.Object o)) → Between o.stream (byte_of o.start) → IsStart d met here bytes o before c s
      → Between o.stream (byte_of s)
  start_in o None c s apart asked begins is = rw (← is) begins
  start_in o (Some y) c s apart asked begins is =
      let ends = ends_in (parent here) (steps.Name y) is.0 (heads.Object o) o.stream apart asked refl is.1 in
      rw (← is.2, of_start is.0 c) ends

  -- what lies in the stream in which a member at a path is read, unless it lies nowhere
  abbrev LiesFor : Object → MemberKind → Head → Type 0
  LiesFor o k h = ((h ≡ heads.Absent None) × IsUnmet all bytes here o k) ⊎ ((w : Stream) × IsStreamFor all bytes here o k w × LiesIn bytes w h)

  unmet : (o : Object) (condition : Option Tree) (h : Head) → IsOut d met here bytes o condition h → (h ≡ heads.Absent None)
      × (answer_of all here bytes (holds (instance_setting here (parent here) o) condition) ≡ Ok false)
  unmet o condition h out = (sym out.1, same_answer met all here bytes same (holds (instance_setting here (parent here) o) condition) false out.0)

  -- the value of an `io` is its stream
  own_or_io : (o : Object) (e : Tree) (io : Option Tree) (f : Field)
      → Answers all here bytes (λ w. IsStreamFor all bytes here o (ParseInstance e io f) w) (stream_for (instance_setting here (parent here) o) io)
  unfolding stream_for
  own_or_io o e None f = refl
  own_or_io o e (Some io) f = known all here bytes _ (expression (instance_setting here (parent here) o) io) _ (λ v is. grind arith)

  member_in : (o : Object) (m : Sought) (k : MemberKind) (h : Head) → IsHere d o m.before → all (head_node (parent here)) ≡ Ok (givens.Head (heads.Object o))
      → Between o.stream (byte_of o.start) → IsMember d met here bytes o m k h → LiesFor o k h
  member_in o m Parameter h apart asked begins is = inr (o.stream, refl, rw (← is) tt)
  member_in o m (Attribute f) h apart asked begins is =
      inr (o.stream, refl, at_in (origin_of o m) o.stream is.0 f h (start_in o m.before f.choice is.0 apart asked begins is.1) is.2)
  member_in o m (ParseInstance e io f) h apart asked begins is = elim is [
    | inl out ↦ inl (unmet o f.condition h out)
    | inr at ↦
        let by = stream_for (instance_setting here (parent here) o) io in
        let named = answered all here bytes _ by at.stream (own_or_io o e io f) (same_answer met all here bytes same by at.stream at.named) in
        inr (
          at.stream,
          named,
          at_in (origin_of o m) at.stream (at_byte at.byte) f h
              (at_least at.byte at.stream.from at.behind, at_most at.byte _ at.inside) at.is,
        )
  ]
  member_in o m (ValueInstance v) h apart asked begins is = elim is [
    | inl out ↦ inl (unmet o v.condition h out)
    | inr calc ↦ inr (o.stream, refl, rw (← calc) tt)
  ]

  -- what holds the node's path begins in its own stream
  holder_begins : (k : Head) → met (head_node (parent here)) ≡ Ok (givens.Head k) → BeginsIn bytes k
  holder_begins k asked = head_begins d bytes all (parent here) (last (parent here)) k (lies (head_node (parent here)) (givens.Head k) asked)

  member_head_in : (x : ℕ) (h : Head) → last here ≡ Some (steps.Name x) → IsMemberOf d met here bytes x h → IsLeftOut d bytes all here h
      ⊎ IsHeld d bytes all here (λ w. LiesIn bytes w h)
  member_head_in x h step is =
      let o = is.object in
      let now = same _ _ is.asked in
      elim (member_in o is.member is.member.kind h (before_here d distinct o x is.member is.member.before is.found refl) now
      (holder_begins (heads.Object o) is.asked) is.is) [
        | inl none ↦ inl (record {
          nowhere = none.0;
          object = o;
          answered = now;
          unmet =
              rw step (is.member, is.found, none.1);
        })
        | inr there ↦ inr (record {
          holder = heads.Object o;
          answered = now;
          stream = there.0;
          read = rw step (is.member, is.found, there.1);
          lies = there.2;
        })
      ]

  element_in : (i : ℕ) (h : Head) → last here ≡ Some (steps.Index i) → IsElementOf d met here bytes i h → IsHeld d bytes all here (λ w. LiesIn bytes w h)
  element_in i h step is =
      let g = is.list in
      let now = same _ _ is.asked in
      let begins : Between g.stream (byte_of is.start) = elim is.begins [
        | inl first ↦ rw (← first.1) (holder_begins (heads.List g) is.asked)
        | inr later ↦ ends_in (parent here) (steps.Index later.before) is.start (heads.List g) g.stream tt now refl
            (record { path = later.path; is = later.is; is_last = false; ended = later.ended })
      ] in
      record {
        holder = heads.List g;
        answered = now;
        stream = g.stream;
        read = rw step refl;
        lies = at_in g.origin g.stream is.start is.field h begins is.is;
      }

  head_in : (o : Option Step) (h : Head) → last here ≡ o → IsHead d met here bytes o h → HeadLies d bytes all here o h
  head_in None h is e = rw (← e) (at_least 0 0 (omega arith), at_most 0 _ (omega arith))
  head_in (Some (steps.Name x)) h is e = member_head_in x h is e
  head_in (Some (steps.Index i)) h is e = inr (element_in i h is e)

  -- ---- ends

  object_end_in : (o : Object) (x : ObjectEnd) (w : Stream) (e : Place) → all (head_node here) ≡ Ok (givens.Head (heads.Object o))
      → LiesIn bytes w (heads.Object o) → IsObjectEnd d met here bytes o x e → Between w (byte_of e)
  object_end_in o endings.OfStream w e asked within is =
      let end = end_in bytes o.stream.to in
      rw (← is) (at_least end w.from (omega (arith, within.1.0, within.3.0, within.3.1)), at_most end _ within.2)
  object_end_in o endings.ByFields w e asked within is = by_last (last_attribute None (members_of d o.type_number)) (last_here d distinct o _ refl) is
    where
      by_last : (z : Option ℕ) → IsHere d o z → IsFieldsEnd d met here bytes o.start z e → IsBetween bytes w (byte_of e)
      by_last None apart is' = rw (← is') within.0
      by_last (Some z) apart is' =
          let i = ends_in here (steps.Name z) is'.0 (heads.Object o) o.stream apart asked refl is'.1 in
          let end = of_aligned is'.0 in
          rw (← is'.2) (omega (arith, end, i.0, within.1.0), omega (arith, end, i.1, within.2))

  place_in : (h : Head) (w : Stream) (e : Place) → all (head_node here) ≡ Ok (givens.Head h) → LiesIn bytes w h → IsEnd d met here bytes h e
      → Between w (byte_of e)
  place_in (heads.Absent (Some s)) w e asked within is = rw (← is) within
  place_in (heads.Leaf l) w e asked within is = rw (← is) within.2
  place_in (heads.Object o) w e asked within is = object_end_in o o.ending w e asked within is
  place_in (heads.List g) w e asked within is =
      let r = is.1 in
      held_at (λ v. Between v (byte_of e)) r.path here (steps.Index 0) (heads.List g) w (part_of here r.path (steps.Index 0) r.is) tt asked within.1
      (lies (rest_node r.path) (givens.Rest is.0 e) r.rested)
  place_in _ w e asked within is = absurd is

  end_of_in : (e : Place) (so : Bool) → IsEndOf d met here bytes e so → EndLies d bytes all here (last here) e
  end_of_in e so is = by_step (last here) (lies (head_node here) (givens.Head is.head) is.asked)
    where
      by_step : (o : Option Step) → HeadLies d bytes all here o is.head → EndLies d bytes all here o e
      by_step None held = tt
      by_step (Some step) (inl out) = absurd (rw out.nowhere at is.is)
      by_step (Some step) (inr held) = record {
        holder = held.holder;
        answered = held.answered;
        stream = held.stream;
        read = held.read;
        lies =
            place_in is.head held.stream e (same _ _ is.asked) held.lies is.is;
      }

  -- ---- rests

  rest_of_part : (i j count : ℕ) (place : Place) → last here ≡ Some (steps.Index j) → RestsAt met (parent here) (steps.Index i) count place
      → IsHeld d bytes all here (λ w. Between w (byte_of place))
  rest_of_part i j count place is r =
      let up = part_of (parent here) r.path (steps.Index i) r.is in
      let a : IsHeld d bytes all r.path (λ w. Between w (byte_of place)) = lies (rest_node r.path) (givens.Rest count place) r.rested in
      let read : IsReadIn d all bytes here a.holder (last here) a.stream = rw is (read_beside d all bytes r.path here a.holder i j a.stream
      (rw (← up.1) a.read)) in
      record { holder = a.holder; answered = rw up.0 at a.answered; stream = a.stream; read = read; lies = a.lies }

  rest_in : (o : Option Step) (count : ℕ) (place : Place) → last here ≡ o → IsRest d met here bytes o count place
      → IsHeld d bytes all here (λ w. Between w (byte_of place))
  rest_in (Some (steps.Index i)) count place step is = elim is [
    | inl whole ↦
        let l = whole.1 in
        record {
          holder = heads.List l.list;
          answered = same _ _ l.answered;
          stream = l.list.stream;
          read = rw step refl;
          lies = rw (← l.start) (holder_begins (heads.List l.list) l.answered);
        }
    | inr from ↦ elim from [
      | inl one ↦ rw step at (lies (end_node here) (givens.End place true) one.1)
      | inr more ↦ rest_of_part (i + 1) i count place step more.2
    ]
  ]
  rest_in _ count place step is = absurd is

  -- ---- answers

  answer_in : (k : NodeKind) (g : Given) → IsAnswer d met here bytes k g → Lies d bytes all k here g
  answer_in nodes.Head (givens.Head h) is = head_in (last here) h refl is
  answer_in nodes.End (givens.End place is_last) is = end_of_in place is_last is
  answer_in nodes.Rest (givens.Rest count place) is = rest_in (last here) count place refl is
  answer_in k g is = grind arith

all_lie : (d : Description) (bytes : List ℕ) (opened : List Node) → HasDistinctNames d → (n : Node) (g : Given) → from_nothing d bytes opened n ≡ Ok g
    → Lies d bytes (from_nothing d bytes opened) n.kind n.path g
all_lie d bytes opened distinct n g h =
    let all = from_nothing d bytes opened in
    by_shapes d bytes opened (λ m g'. Lies d bytes all m.kind m.path g')
    (λ met same lies m g' is. answer_in d distinct bytes met all same lies m.path m.kind g' is) n g h

pub heads_lie_in_streams : HeadsLieInStreams
heads_lie_in_streams d bytes opened p step h distinct is e =
    rw is at (all_lie d bytes opened distinct (head_node p) (givens.Head h) e)

pub ends_lie_in_streams : EndsLieInStreams
ends_lie_in_streams d bytes opened p step place is_last distinct is e =
    rw is at (all_lie d bytes opened distinct (end_node p) (givens.End place is_last) e)
