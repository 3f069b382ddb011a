-- What rules answer has a shape: one lemma a rule.
use Rattle.ksv_rule_laws.proofs.Common.{◌≡◌, ℕ, ◌+◌, ◌-◌, ◌==◌, ◌≤◌, ◌<◌, Bool, true, false, if◌then◌else◌, List, ◌∷◌, length, Option, Some, None, Result}
use Rattle.ksv_rule_laws.proofs.Common.{Ok, refl, sym, ap, arith, inl, inr, ◌⊎◌, nat_tests, bind, Tree, Place, at_byte, byte_of, further, Setting, Trail}
use Rattle.ksv_rule_laws.proofs.Common.{child, parent, last, Step, Stream, Choice, Description, MemberKind, Parameter, Attribute, ParseInstance}
use Rattle.ksv_rule_laws.proofs.Common.{ValueInstance, Field, Content, Repeat, Once, Eos, Expr, Until, Node, NodeFault, NodeKind, Given, Leaf, Origin}
use Rattle.ksv_rule_laws.proofs.Common.{ObjectEnd, Object, Head, end_in, Rule, ask_rest, head_node, end_node, answer_of, truth_of, stream_for}
use Rattle.ksv_rule_laws.proofs.Common.{members_of, Sought, sought, last_attribute, origin_of, instance_setting, is_last, from_nothing}
use Rattle.ksv_rule_laws.proofs.Common.{IsContentOf, IsLeafOf, IsCountedBy, EndsAt, same_Some}
use Rattle.std.proofs.Common.{◌||◌, drop}
use Rattle.std.specs.Prelude.{slice_range}
use Rattle.std.proofs.lemmas.List.{length-take}
use Rattle.std.proofs.lemmas.Grind.{common_steps}
use Rattle.ksv_expr_tree.specs.Tree.{Arguments}
use Rattle.ksv_expr_value.proofs.Places.{of_further}
use Rattle.ksv_expr_value.specs.Trail.{element_limit, first_step, all_but_last, same_trail, trail_of-steps}
use Rattle.ksv_expr_value.specs.declared.step.Step.TheVariants as steps
use Rattle.ksv_desc.specs.Description.{Extent, Sized, SizeEos, ByItself, Terminator}
use Rattle.ksv_desc.specs.Description as contents
use Rattle.ksv_nodes.specs.declared.node.NodeKind.TheVariants as nodes
use Rattle.ksv_nodes.specs.declared.given.Given.TheVariants as givens
use Rattle.ksv_nodes.specs.declared.given.ObjectEnd.TheVariants as endings
use Rattle.ksv_nodes.specs.declared.given.List as lists
use Rattle.ksv_nodes.specs.declared.given.Head.TheVariants as heads
use Rattle.ksv_nodes.specs.declared.given.Ended.{Ended}
use Rattle.ksv_nodes.specs.declared.given.Rested.{Rested}
use Rattle.ksv_nodes.specs.declared.turn.readings.Found.{Found}
use Rattle.ksv_nodes.specs.declared.turn.readings.Found.TheVariants as founds
use Rattle.ksv_nodes.specs.Reading.{reach_file, reach_within, finish_of, peek_at, first_at, found_none, found_from, find_at}
use Rattle.ksv_nodes.specs.Rule.{ask_end, reach, finish, done, find}
use Rattle.ksv_nodes.proofs.First.{first_at_below}
use Rattle.ksv_rule_meaning.specs.Choosing.{Chosen, choose}
use Rattle.ksv_rule_meaning.specs.Wanted.{in_object}
use Rattle.ksv_rule_meaning.specs.Fields.{member_named}
use Rattle.ksv_rule_meaning.specs.Heads.{leaf, bits_leaf, leaf_to_end, terminated_at, terminated, run_of, sized_leaf, bytes_at, sized_object, object_at}
use Rattle.ksv_rule_meaning.specs.Heads.{content_at, unchosen_at, chosen_at, shape_at, counted, until_eos, repeated, attribute_at, part_end}
use Rattle.ksv_rule_meaning.specs.Heads.{attribute_start, attribute_setting, element_setting, attribute_head, positioned_in, positioned, instance_head}
use Rattle.ksv_rule_meaning.specs.Heads.{value_head, member_at, member_head, in_list, is_past, next_start, element_start, element_head, head_at}
use Rattle.ksv_rule_meaning.specs.Heads.{head_of}
use Rattle.ksv_rule_meaning.specs.Ends.{stream_end, fields_end, object_end, part_rest, list_end, place_of, element_end, end_at, end_of, next_rest}
use Rattle.ksv_rule_meaning.specs.Ends.{rest_from, in_whole_list, whole_rest, rest_at, rest_of, behind_element}
use Rattle.ksv_rule_meaning.specs.Meaning.{meaning_of}
use Rattle.ksv_rule_laws.proofs.Answering.{by_rule, by_rules}
use Rattle.ksv_rule_laws.proofs.Rules.{Answers, join, either, so, answered, asked_head, asked_end, asked_rest, path_is, exact}
use Rattle.ksv_rule_laws.proofs.Members.{IsChosen, choice_is, field_found, sought_is}
use Rattle.ksv_rule_laws.proofs.Values.{made_is}
use Rattle.ksv_rule_laws.proofs.Starts.{at_most, at_least}
use Rattle.ksv_rule_laws.proofs.Shapes.{IsBehind, IsHeadAt, IsStart, IsPlaced, IsMember, IsMemberOf, EndsBefore, IsElementOf, IsHead, IsFieldsEnd, IsObjectEnd}
use Rattle.ksv_rule_laws.proofs.Shapes.{RestsAt, IsEnd, IsLast, IsEndOf, IsRestFrom, IsRest, IsAnswer}

module _ (met : Node → Result Given NodeFault) (here : Trail) (bytes : List ℕ) where
  abbrev Says : {A : Type 0} → (A → Type 0) → Rule A → Type 0
  Says P p = Answers met here bytes P p

  after : {A B : Type 0} (P : A → Type 0) (S : B → Type 0) (p : Rule A) (f : A → Rule B) → Says P p → ((a : A) → P a → Says S (f a)) → Says S (bind p f)
  after P S p f h g = join met here bytes P S p f h g

  test : {A : Type 0} (S : A → Type 0) (b : Bool) (p q : Rule A) → (b ≡ true → Says S p) → (b ≡ false → Says S q) → Says S (if b then p else q)
  test S b p q g h = either met here bytes S b p q g h

  hence : {A : Type 0} (P S : A → Type 0) (p : Rule A) → Says P p → ((a : A) → P a → S a) → Says S p
  hence P S p h f = so met here bytes P S p h f

  known : {A B : Type 0} (S : B → Type 0) (p : Rule A) (f : A → Rule B) → ((a : A) → answer_of met here bytes p ≡ Ok a → Says S (f a)) → Says S (bind p f)
  known S p f g = after _ S p f (exact met here bytes p) g

  -- ---- readings

  reached : (w : Stream) (t : ℕ) → Says (λ x. t ≤ end_in bytes w.to) (reach w t)
  unfolding reach_within reach_file
  reached w t x e = grind (arith, nat_tests, common_steps)

  finished : (w : Stream) → Says (λ e. e ≡ end_in bytes w.to) (finish w)
  unfolding finish_of
  finished w e h = grind arith

  range_short : (s e i : ℕ) → i < length (slice_range bytes s e) → s + i + 1 ≤ e
  range_short s e i lt = omega (arith, length-take (e - s) (drop s bytes))

  -- a byte that was found is one of the stream's, and without one the bytes go on to its end
  abbrev IsFoundIn : Stream → ℕ → Found → Type 0
  IsFoundIn w s (founds.At q) = (s ≤ q) × (q + 1 ≤ end_in bytes w.to)
  IsFoundIn w s (founds.Missing e) = e ≡ end_in bytes w.to

  found : (w : Stream) (s b : ℕ) → Says (IsFoundIn w s) (find w s b)
  unfolding find_at found_from found_none
  found w s b q h = by_place (first_at b (slice_range bytes s (end_in bytes w.to))) refl h
    where
      missing : (o : Option (List ℕ)) → (elim o [ None ↦ None | Some bs ↦ Some (founds.Missing (end_in bytes w.to)) ]) ≡ Some q → IsFoundIn w s q
      missing None h' = cc
      missing (Some bs) h' = rw (← (same_Some (founds.Missing (end_in bytes w.to)) q h')) refl

      by_place : (o : Option ℕ) → first_at b (slice_range bytes s (end_in bytes w.to)) ≡ o → (found_from bytes w.to s (end_in bytes w.to) o).seen ≡ Some q
          → IsFoundIn w s q
      by_place (Some i) is h' =
          let inside = range_short s (end_in bytes w.to) i (first_at_below b (slice_range bytes s (end_in bytes w.to)) i is) in
          rw (← (same_Some (founds.At (s + i)) q h')) (omega arith, inside)
      by_place None is h' = missing (peek_at bytes s (end_in bytes w.to)).seen h'

  -- ---- what is read at a place of a stream

  module _ (origin : Origin) (w : Stream) (s : Place) (f : Field) where
    abbrev Shaped : Head → Type 0
    Shaped h = IsHeadAt bytes origin w s f h

    -- a byte that isn't before the place
    behind : (n : ℕ) → byte_of s ≤ n → n ≤ end_in bytes w.to → IsBehind bytes w s (byte_of (at_byte n))
    behind n later inside = record { after = λ e. at_least n (byte_of s) later; inside = at_most n (end_in bytes w.to) inside }

    one_of : (b : Bool) (q : ℕ) → byte_of s ≤ q → q + 1 ≤ end_in bytes w.to → IsBehind bytes w s (byte_of (at_byte (if b then q + 1 else q)))
    one_of true q le low = behind (q + 1) (omega arith) low
    one_of false q le low = behind q le (omega arith)

    -- by a chosen case
    module _ (case : Option ℕ) where
      abbrev by : Origin
      by = record origin { case = case }

      abbrev leaf_to : Place → Place → Leaf
      leaf_to to end = record { origin = by; from = s; to = to; end = end }

      leaf_is : (to end : Place) → IsBehind bytes w s (byte_of to) → IsBehind bytes w s (byte_of end) → (origin.case ≡ None → IsLeafOf (leaf_to to end) f)
          → Shaped (heads.Leaf (leaf_to to end))
      leaf_is to end a b own = record { from = refl; to = a; end = b; member = refl; home = refl; read = own }

      bits_are : (n : ℕ) → (origin.case ≡ None → IsLeafOf (leaf_to (further s n) (further s n)) f) → Says Shaped (bits_leaf by w s n)
      unfolding bits_leaf
      bits_are n own = after _ _ _ _ (reached w (byte_of (further s n))) (λ x low.
          let end : IsBehind bytes w s (byte_of (further s n)) = record { after = λ e'. of_further s n; inside = low } in
          leaf_is (further s n) (further s n) end end own)

      module _ (own : (to end : Place) → origin.case ≡ None → IsLeafOf (leaf_to to end) f) where
        some_are : (n : ℕ) → Says Shaped (leaf by w s n)
        unfolding leaf
        some_are n = after _ _ _ _ (reached w (byte_of s + n))
            (λ x low. let end = behind (byte_of s + n) (omega arith) low in leaf_is _ _ end end (own _ _))

        sized_are : (at : Setting) (e : Tree) → Says Shaped (sized_leaf at by w s e)
        unfolding sized_leaf
        sized_are at e = known _ _ _ (λ n was. some_are n)

        up_to : (e : ℕ) → e ≡ end_in bytes w.to → Shaped (heads.Leaf (leaf_to (at_byte e) (at_byte e)))
        up_to e is =
            let end : IsBehind bytes w s (byte_of (at_byte e)) =
            record { after = λ le. at_least e (byte_of s) (omega arith); inside = at_most e _ (omega arith) } in
            leaf_is (at_byte e) (at_byte e) end end (own _ _)

        to_end_are : Says Shaped (leaf_to_end by w s)
        unfolding leaf_to_end
        to_end_are = after _ _ _ _ (finished w) (λ e is. up_to e is)

        found_are : (t : Terminator) (q : Found) → IsFoundIn w (byte_of s) q → Says Shaped (terminated_at by s t q)
        found_are t (founds.At q) is = leaf_is _ _ (one_of t.is_included q is.0 is.1) (one_of t.is_consumed q is.0 is.1) (own _ _)
        found_are t (founds.Missing z) is = test _ t.is_required _ _ (λ e. tt) (λ e. up_to z is)

        run_is : (t : Option Terminator) → Says Shaped (run_of by w s t)
        unfolding run_of terminated
        run_is None = refl
        run_is (Some t) = after _ _ _ _ (found w (byte_of s) t.byte) (λ q is. found_are t q is)

        bytes_are : (at : Setting) (x : Extent) (t : Option Terminator) → Says Shaped (bytes_at at by w s x t)
        unfolding bytes_at
        bytes_are at (Sized e) t = sized_are at e
        bytes_are at SizeEos t = to_end_are
        bytes_are at ByItself t = run_is t

        unchosen_is : (at : Setting) (x : Extent) → Says Shaped (unchosen_at at by w s x)
        unfolding unchosen_at
        unchosen_is at (Sized e) = sized_are at e
        unchosen_is at SizeEos = to_end_are
        unchosen_is at ByItself = refl

      object_is : (at : Setting) (t : ℕ) (given : Arguments) (x : Extent) → IsContentOf f.choice case (contents.Object t given)
          → Says Shaped (object_at at by t w s x)
      unfolding object_at sized_object
      object_is at t given (Sized e) own = known _ _ _
          (λ n was. after _ _ _ _ (reached w (byte_of s + n)) (λ x low.
          record {
            start = refl;
            from = inr refl;
            to = record { after = λ e'. omega arith; inside = low };
            by = by;
            read_by = refl;
            member = refl;
            home =
                refl;
            read = (given, own);
          }))
      object_is at t given SizeEos own = record {
        start = refl;
        from = inr refl;
        to = record { after = λ e'. e'; inside = omega arith };
        by = by;
        read_by =
            refl;
        member = refl;
        home = refl;
        read = (given, own);
      }
      object_is at t given ByItself own = record {
        start = refl;
        from = inl refl;
        to = record { after = λ e'. e'; inside = omega arith };
        by = by;
        read_by =
            refl;
        member = refl;
        home = refl;
        read = (given, own);
      }

      content_is : (at : Setting) (c : Content) → IsContentOf f.choice case c → Says Shaped (content_at at by w s f c)
      unfolding content_at
      content_is at contents.Bytes is = bytes_are (λ to end none. (contents.Bytes, is, tt, tt)) at f.extent f.terminator
      content_is at (contents.Fixed bs) is = some_are (λ to end none. (contents.Fixed bs, is, tt, tt)) (length bs)
      content_is at (contents.Number signed n order enum) is = some_are (λ to end none. (contents.Number signed n order enum, is, tt, tt)) n
      content_is at (contents.Bits width enum) is = bits_are width (λ none. (contents.Bits width enum, is, tt, refl))
      content_is at (contents.Characters encoding) is = bytes_are (λ to end none. (contents.Characters encoding, is, tt, tt)) at f.extent f.terminator
      content_is at (contents.Object t given) is = object_is at t given f.extent is

    shape_is : (at : Setting) → Says Shaped (shape_at at origin w s f)
    unfolding shape_at
    shape_is at = after _ _ (choose at f.choice) (λ c. chosen_at at origin w s f c) (choice_is met here bytes at f.choice) (λ c is. by_chosen c is)
      where
        by_chosen : (o : Option Chosen) → IsChosen f.choice o → Answers met here bytes (IsHeadAt bytes origin w s f) (chosen_at at origin w s f o)
        by_chosen None is = unchosen_is origin.case (λ to end none.
            (contents.Bytes, rw none is, tt, tt)) at f.extent
        by_chosen (Some c) is = content_is c.case at c.content is

    -- ---- lists

    list_is : (r : Repeat) (g : lists.List) → f.repeat ≡ r → g.start ≡ s → g.stream ≡ w → g.origin ≡ origin → IsCountedBy r g → Shaped (heads.List g)
    list_is r g is start stream by so' = record { start = start; stream = stream; is = by; read = rw is so' }

    repeated_is : (at : Setting) (r : Repeat) → f.repeat ≡ r → Says Shaped (repeated at origin w s f r)
    unfolding repeated counted until_eos
    repeated_is at Once is = shape_is at
    repeated_is at (Expr e) is = known _ _ _ (λ n any. list_is (Expr e) _ is refl refl refl (n, refl, refl))
    repeated_is at Eos is = known _ _ _ (λ b was. list_is Eos _ is refl refl refl refl)
    repeated_is at (Until c) is = list_is (Until c) _ is refl refl refl refl

    attribute_is : (at : Setting) → Says Shaped (attribute_at at origin w s f)
    unfolding attribute_at
    attribute_is at = known _ _ _
        (λ there was. test _ there _ _ (λ e. repeated_is at f.repeat refl) (λ e. refl))

  -- ---- what was asked for

  object_asked : (q : Trail) (k : Head) → met (head_node q) ≡ Ok (givens.Head k)
      → Says (λ o. met (head_node q) ≡ Ok (givens.Head (heads.Object o))) (in_object q k)
  object_asked q k asked = grind arith

  list_asked : (l : Trail) (k : Head) → met (head_node l) ≡ Ok (givens.Head k) → Says (λ g. met (head_node l) ≡ Ok (givens.Head (heads.List g))) (in_list l k)
  list_asked l k asked = grind arith

  whole_list_asked : (l : Trail) (k : Head) → met (head_node l) ≡ Ok (givens.Head k)
      → Says (λ g. met (head_node l) ≡ Ok (givens.Head (heads.List g))) (in_whole_list l k)
  whole_list_asked l k asked = grind arith

  -- a part ends, the last or not
  part_ends : (q : Trail) (step : Step) → Says (λ (x : Ended). (r : Trail) × (child q step ≡ Some r) × (met (end_node r) ≡ Ok (givens.End x.place x.last)))
      (part_end q step)
  unfolding part_end
  part_ends q step = after _ _ _ _ (path_is met here bytes (child q step))
      (λ r is. hence _ _ (ask_end r) (asked_end met here bytes r) (λ x ended. (r, is, ended)))

  ends_at : (q : Trail) (step : Step) (x : Ended) → (r : Trail) × (child q step ≡ Some r) × (met (end_node r) ≡ Ok (givens.End x.place x.last))
      → EndsAt met q step x.place
  ends_at q step x is = record { path = is.0; is = is.1; is_last = x.last; ended = is.2 }

  part_rests : (q : Trail) (step : Step) → Says (λ (x : Rested). RestsAt met q step x.count x.place) (part_rest q step)
  unfolding part_rest
  part_rests q step = after _ _ _ _ (path_is met here bytes (child q step))
      (λ r is. hence _ _ (ask_rest r) (asked_rest met here bytes r) (λ x rested. record { path = r; is = is; rested = rested }))

  -- ---- heads

  module _ (d : Description) where
    start_is : (o : Object) (before : Option ℕ) (c : Choice) → Says (IsStart d met here bytes o before c) (attribute_start (parent here) o before c)
    unfolding attribute_start
    start_is o None c = refl
    start_is o (Some y) c = after _ _ _ _ (part_ends (parent here) (steps.Name y))
        (λ x is. (x.place, ends_at (parent here) (steps.Name y) x is, refl))

    placed_is : (o : Object) (m : Sought) (e : Tree) (io : Option Tree) (f : Field)
        → Says (IsPlaced d met here bytes o m io f) (positioned (instance_setting here (parent here) o) (origin_of o m) e io f)
    unfolding positioned positioned_in
    placed_is o m e io f =
        let at = instance_setting here (parent here) o in
        known _ (stream_for at io) (λ x. positioned_in at (origin_of o m) x e f) (λ w named.
        known _ _ _ (λ n was.
        after _ _ _ _ (reached w (w.from + n)) (λ x low.
        hence _ _ (repeated (record at { place = at_byte (w.from + n) }) (origin_of o m) w (at_byte (w.from + n)) f f.repeat)
        (repeated_is (origin_of o m) w (at_byte (w.from + n)) f (record at { place = at_byte (w.from + n) }) f.repeat refl)
        (λ h is. record { stream = w; named = named; byte = w.from + n; behind = omega arith; inside = low; is = is }))))

    member_is : (o : Object) (m : Sought) (k : MemberKind) → Says (IsMember d met here bytes o m k) (member_at here (parent here) o m k)
    unfolding member_at attribute_head instance_head value_head
    member_is o m Parameter = refl
    member_is o m (Attribute f) =
        after _ _ _ _ (start_is o m.before f.choice) (λ s starts.
        hence _ _ (attribute_at (attribute_setting here (parent here) (origin_of o m) s) (origin_of o m) o.stream s f)
        (attribute_is (origin_of o m) o.stream s f (attribute_setting here (parent here) (origin_of o m) s)) (λ h is. (s, starts, is)))
    member_is o m (ParseInstance e io f) =
        let at = instance_setting here (parent here) o in
        known _ _ _ (λ there was.
        test _ there _ _ (λ yes. hence _ _ (positioned at (origin_of o m) e io f) (placed_is o m e io f) (λ h is. inr is))
        (λ no. inl (rw no at was, refl)))
    member_is o m (ValueInstance v) =
        let at = instance_setting here (parent here) o in
        known _ _ _
        (λ there was. test _ there _ _ (λ yes. inr refl) (λ no. inl (rw no at was, refl)))

    member_head_is : (x : ℕ) → Says (IsMemberOf d met here bytes x) (member_head d here (parent here) x)
    unfolding member_head member_named
    member_head_is x =
        after _ _ _ _ (asked_head met here bytes (parent here)) (λ k asked.
        after _ _ _ _ (object_asked (parent here) k asked) (λ o now.
        after _ _ _ _ (sought_is met here bytes (sought x 0 None (members_of d o.type_number)))
        (λ m found.
        hence _ _ (member_at here (parent here) o m m.kind) (member_is o m m.kind)
        (λ h is. record { object = o; asked = now; member = m; found = found; is = is }))))

    element_start_is : (g : lists.List) (i : ℕ) → Says (λ s. ((i ≡ 0) × (g.start ≡ s)) ⊎ EndsBefore d met here bytes i s) (element_start (parent here) g i)
    unfolding element_start next_start
    element_start_is g i =
        test _ (g.is_empty || is_past g.count i) _ _ (λ e. tt) (λ e. test _ (i == 0) _ _ (λ is. inl (grind (arith, nat_tests), refl)) (λ is.
        after _ _ _ _ (part_ends (parent here) (steps.Index (i - 1))) (λ x r. test _ x.last _ _ (λ l. tt)
        (λ l. inr (record { before = i - 1; next = grind (arith, nat_tests); path = r.0; is = r.1; ended = rw l at r.2 })))))

    element_is : (i : ℕ) → Says (IsElementOf d met here bytes i) (element_head d here (parent here) (parent (parent here)) i)
    unfolding element_head
    element_is i =
        after _ _ _ _ (asked_head met here bytes (parent here)) (λ k asked.
        after _ _ _ _ (list_asked (parent here) k asked) (λ g now.
        after _ _ _ _ (element_start_is g i) (λ s begins.
        after _ _ _ _ (field_found met here bytes d g.origin.member) (λ f read.
        hence _ _ (shape_at (element_setting here (parent (parent here)) g.origin s i) g.origin g.stream s f)
        (shape_is g.origin g.stream s f (element_setting here (parent (parent here)) g.origin s i))
        (λ h is. record { list = g; asked = now; start = s; begins = begins; field = f; read = read; is = is })))))

    head_is : (o : Option Step) → Says (IsHead d met here bytes o) (head_at d here o)
    head_is None = refl
    head_is (Some (steps.Name x)) = member_head_is x
    head_is (Some (steps.Index i)) = element_is i

    -- ---- ends

    fields_end_is : (start : Place) (z : Option ℕ) → Says (IsFieldsEnd d met here bytes start z) (fields_end here start z)
    unfolding fields_end
    fields_end_is start None = refl
    fields_end_is start (Some z) = after _ _ _ _ (part_ends here (steps.Name z))
        (λ x is. (x.place, ends_at here (steps.Name z) x is, refl))

    object_end_is : (o : Object) (x : ObjectEnd) → Says (IsObjectEnd d met here bytes o x) (object_end d here o x)
    unfolding object_end stream_end
    object_end_is o endings.OfStream = after _ _ _ _ (finished o.stream) (λ e is. ap at_byte (sym is))
    object_end_is o endings.ByFields = fields_end_is o.start (last_attribute None (members_of d o.type_number))

    place_is : (h : Head) → Says (IsEnd d met here bytes h) (place_of d here h)
    unfolding place_of list_end
    place_is (heads.Absent None) = tt
    place_is (heads.Absent (Some s)) = refl
    place_is (heads.Calc c) = tt
    place_is (heads.Leaf l) = refl
    place_is (heads.Object o) = object_end_is o o.ending
    place_is (heads.List g) = after _ _ _ _ (part_rests here (steps.Index 0)) (λ x r. (x.count, r))

    last_is : (g : lists.List) (i : ℕ) (e : Place) (r : Repeat)
        → Says (λ b. answer_of met here bytes (is_last (parent (parent here)) g here i e r) ≡ Ok b) (is_last (parent (parent here)) g here i e r)
    unfolding is_last
    last_is g i e Once = tt
    last_is g i e (Expr n) = refl
    last_is g i e Eos = exact met here bytes (done g.stream e)
    last_is g i e (Until c) = exact met here bytes (truth_of (behind_element (parent (parent here)) g here i e) c)

    end_at_is : (step : Option Step) (h : Head) (e : Place)
        → Says (λ (x : Ended). (e ≡ x.place) × IsLast d met here bytes step e x.last) (end_at d here step h e)
    unfolding element_end
    end_at_is (Some (steps.Index i)) h e =
        after _ _ _ _ (asked_head met here bytes (parent here)) (λ k asked.
        after _ _ _ _ (list_asked (parent here) k asked) (λ g now.
        after _ _ _ _ (field_found met here bytes d g.origin.member) (λ f read.
        known _ _ _ (λ u any.
        after _ _ _ _ (last_is g i e f.repeat)
        (λ b says. (refl, record { list = g; asked = now; field = f; read = read; says = says }))))))
    end_at_is _ h e = (refl, refl)

    end_is : Says (λ (x : Ended). IsEndOf d met here bytes x.place x.last) (end_of d here)
    unfolding end_of
    end_is =
        after _ _ _ _ (asked_head met here bytes here) (λ h asked.
        after _ _ _ _ (place_is h) (λ e is.
        hence _ _ (end_at d here (last here) h e) (end_at_is (last here) h e) (λ x was.
        record {
          head = h;
          asked = asked;
          is = rw (← was.0) is;
          last =
              rw (← was.0) was.1;
        })))

    -- ---- rests

    rest_from_is : (i : ℕ) → Says (λ (x : Rested). IsRestFrom d met here bytes i x.count x.place) (rest_from here (parent here) i)
    unfolding rest_from next_rest
    rest_from_is i = after _ _ _ _ (asked_end met here bytes here) (λ e ended. test _ e.last _ _ (λ l. inl (refl, rw l at ended)) (λ l.
        test _ (i + 1 == element_limit) _ _ (λ many. tt) (λ few.
        hence _ _ (part_rest (parent here) (steps.Index (i + 1))) (part_rests (parent here) (steps.Index (i + 1))) (λ x r. inr (e.place, rw l at ended, r)))))

    whole_rest_is : Says (λ (x : Rested). IsRest d met here bytes (Some (steps.Index 0)) x.count x.place) (whole_rest here (parent here))
    unfolding whole_rest
    whole_rest_is =
        after _ _ _ _ (asked_head met here bytes (parent here)) (λ h asked.
        after _ _ _ _ (whole_list_asked (parent here) h asked) (λ g now.
        test _ g.is_empty _ _ (λ empty. inl (refl, record { list = g; answered = now; empty = empty; none = refl; start = refl }))
        (λ some. hence _ _ (rest_from here (parent here) 0) (rest_from_is 0) (λ x from. inr from))))

    rest_is : (o : Option Step) → Says (λ (x : Rested). IsRest d met here bytes o x.count x.place) (rest_at here o)
    rest_is (Some (steps.Index i)) =
        test _ (i == 0) _ _ (λ is. let zero : i ≡ 0 = grind (arith, nat_tests) in hence _ _ (whole_rest here (parent here)) whole_rest_is
        (λ x from. rw zero from))
        (λ is. hence _ _ (rest_from here (parent here) i) (rest_from_is i) (λ x from. inr from))
    rest_is _ = tt

    -- ---- answers

    pub answer_is : (k : NodeKind) → Says (IsAnswer d met here bytes k) (meaning_of d k here)
    unfolding meaning_of head_of rest_of
    answer_is nodes.Head = after _ _ _ _ (head_is (last here)) (λ h is. is)
    answer_is nodes.Value = after _ _ _ _ (made_is met here bytes d) (λ v is. is)
    answer_is nodes.End = after _ _ (end_of d here) _ end_is (λ x is. is)
    answer_is nodes.Rest = after _ _ _ _ (rest_is (last here)) (λ x is. is)

-- a part's last step, and what it is a part of
pub part_of : (q r : Trail) (step : Step) → child q step ≡ Some r → (parent r ≡ q) × (last r ≡ Some step)
part_of q r step e =
    let up : step ∷ q.upward ≡ r.upward = trail_of-steps (step ∷ q.upward) r e in
    (same_trail (parent r) q (ap all_but_last (sym up)), ap first_step (sym up))

-- ---- evaluation from nothing

module _ (d : Description) (bytes : List ℕ) (opened : List Node) where
  -- an answer has its shape where each node has its own
  pub by_shape : (n : Node) (g : Given) → from_nothing d bytes opened n ≡ Ok g → IsAnswer d (from_nothing d bytes opened) n.path bytes n.kind g
  by_shape n g h = answered (from_nothing d bytes opened) n.path bytes _ (meaning_of d n.kind n.path) g
      (answer_is (from_nothing d bytes opened) n.path bytes d n.kind) (by_rule d bytes opened n g h)

  -- what is so of each shape where it is so of what was asked for, is so of each answer
  pub by_shapes : (P : Node → Given → Type 0)
      → ((met : Node → Result Given NodeFault) → ((m : Node) (g : Given) → met m ≡ Ok g → from_nothing d bytes opened m ≡ Ok g)
      → ((m : Node) (g : Given) → met m ≡ Ok g → P m g)
      → (n : Node) (g : Given) → IsAnswer d met n.path bytes n.kind g → P n g)
      → (n : Node) (g : Given) → from_nothing d bytes opened n ≡ Ok g → P n g
  by_shapes P each n g h = by_rules d bytes opened P
      (λ met same lies n' g' e. each met same lies n' g'
      (answered met n'.path bytes _ (meaning_of d n'.kind n'.path) g' (answer_is met n'.path bytes d n'.kind) e)) n g h
