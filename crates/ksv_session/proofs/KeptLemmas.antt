-- What an engine keeps after a question and after an edit, in the words of the session's fold.
use Rattle.std.proofs.Common.{Result, Ok, ◌≡◌, ◌↔◌, ℕ, zero, suc, ◌+◌, ◌-◌, ◌^◌, min, Bool, true, false, not, cond, ◌||◌, nat_eq, List, [], ◌∷◌, ◌++◌, map}
use Rattle.std.proofs.Common.{filter, fold, Option, Some, None, if◌then◌else◌, refl, sym, ap, ◌∙◌, subst, arith, append_assoc}
use Rattle.std.specs.Cmp.{nat_eq_equiv}
use Rattle.std.specs.Prelude.{IsTrue}
use Rattle.std.specs.List.{AllByRecursion, IsDistinct, flat_map, list_any, sum_by}
use Rattle.std.proofs.lemmas.List.{length-map, map-append, append-nil}
use Rattle.std.proofs.lemmas.Map.Keys.{IsDistinct-cons, IsDistinct-head, IsDistinct-push, IsDistinct-tail}
use Rattle.std.proofs.lemmas.Map.Made.{length-from_same_keys}
use mathlib.Core.Path.{fun_ext}
use Rattle.ksv_bytes.specs.declared.uses.Change.{Change}
use Rattle.ksv_bytes.specs.declared.edit.EditRefusal.{EditRefusal}
use Rattle.ksv_desc.specs.declared.pieces.Pieces.{Pieces}
use Rattle.ksv_desc.specs.Description.{Description}
use Rattle.ksv_desc.specs.Whole.{plain_pieces}
use Rattle.ksv_rule_meaning.specs.Completed.{meets_circle}
use Rattle.ksv_rule_meaning.specs.Kept.{all_completed, calls, kept_after, kept_with, turns_of}
use Rattle.ksv_rule_meaning.proofs.Completing.{answered_direct, cost_is_direct, done_direct, touch_direct}
use Rattle.ksv_memo_rules.specs.Entry.{Entry, Memo}
use Rattle.ksv_memo_rules.specs.Evaluation.{IsAnswered, done, is_among, tells}
use Rattle.ksv_memo_rules.specs.Meaning.{IsSettled, Standing}
use Rattle.ksv_memo_rules.specs.Right.{AreDistinct, AreExactly, IsRight, StandsIn, costs, counted, fresh, nodes_of}
use Rattle.ksv_memo_rules.specs.Touched.{left_after}
use Rattle.ksv_memo_rules.specs.declared.rules.Outcome.{Outcome}
use Rattle.ksv_memo_rules.specs.declared.rules.Outcome.TheVariants.{Answered, Circle}
use Rattle.ksv_memo_rules.proofs.Evals.{eqb_true}
use Rattle.ksv_memo.proofs.Forgetting.{left_after-same}
use Rattle.ksv_memo_rules.proofs.Keeping.{AreDistinct-none}
use Rattle.ksv_memo.proofs.Moves.{fresh-in, fresh-nil, fresh-out}
use Rattle.ksv_memo.proofs.Questions.{among-fresh}
use Rattle.ksv_memo.proofs.Places.{fresh-same}
use Rattle.ksv_memo_rules.proofs.Standing.{law_on}
use Rattle.ksv_nodes.specs.declared.node.Node.{Node}
use Rattle.ksv_nodes.specs.Numbers.{node_number}
use Rattle.ksv_rule_meaning.specs.Described.{described}
use Rattle.ksv_rule_meaning.specs.Direct.{IsDirect}
use Rattle.ksv_rule_meaning.specs.FromNothing.{asks as asks_of_node}
use Rattle.ksv_rule_meaning.specs.Lemmas.Lawful.{described_lawful}
use Rattle.ksv_rule_meaning.proofs.Direct.{asks_are_direct}
use Rattle.ksv_questions.specs.Engines.{HasAsked, HasAskedSome, Ruled, completed_by, is_circle, meets_circle as meets_circle_by_replies, turns_with, world}
use Rattle.ksv_questions.proofs.Asked.{some_none, some_of}
use Rattle.ksv_questions.proofs.Fresh.{among_more}
use Rattle.ksv_questions.specs.Answers.{asking, asks}
use Rattle.ksv_questions.specs.Writing.{put_question}
use Rattle.ksv_commands.specs.Commands.{is_question}
use Rattle.ksv_session.specs.Explored.{Explored, description_of}
use Rattle.ksv_session.specs.Kept.{AreTheSame, Holds, HoldsSome, IsEachOnce, LeftBy, Memory, after_asking, after_edit}
use Rattle.ksv_commands.specs.declared.command.Command.{Command}
use Rattle.ksv_commands.specs.declared.command.Command.TheVariants.{App, Ask, Blank, Bytes, Del, Ins, Put, Quit, Refused, Set, Size, Stats}

-- ---- lists of nodes, each once

-- a number that is found among those of nodes is that of a node
node_of : (ns : List Node) (q : ℕ) → list_any (nat_eq q) (map node_number ns) ≡ true → (n : Node) × (node_number n ≡ q)
node_of [] q e = absurd (cc)
node_of (n ∷ ns) q e = by (node_of ns q) (nat_eq q (node_number n)) refl e
  where
    by : (list_any (nat_eq q) (map node_number ns) ≡ true → (m : Node) × (node_number m ≡ q)) → (b : Bool) → nat_eq q (node_number n) ≡ b
        → (b || list_any (nat_eq q) (map node_number ns)) ≡ true → (m : Node) × (node_number m ≡ q)
    by rest true is h = (n, sym (eqb_true q (node_number n) is))
    by rest false is h = rest h

found_too : (ns ms : List Node) → ((n : Node) → is_among node_number ns n ≡ is_among node_number ms n) → (q : ℕ)
    → list_any (nat_eq q) (map node_number ns) ≡ true → list_any (nat_eq q) (map node_number ms) ≡ true
found_too ns ms same q e =
    let n = node_of ns q e in
    ap (λ k. list_any (nat_eq k) (map node_number ms)) (sym n.1) ∙ sym (same n.0) ∙ ap (λ k. list_any (nat_eq k) (map node_number ns)) n.1 ∙ e

found_alike : (ns ms : List Node) → ((n : Node) → is_among node_number ns n ≡ is_among node_number ms n) → (q : ℕ)
    → list_any (nat_eq q) (map node_number ns) ≡ list_any (nat_eq q) (map node_number ms)
found_alike ns ms same q = by (list_any (nat_eq q) (map node_number ns)) refl (list_any (nat_eq q) (map node_number ms)) refl
  where
    by : (a : Bool) → list_any (nat_eq q) (map node_number ns) ≡ a → (b : Bool) → list_any (nat_eq q) (map node_number ms) ≡ b
        → list_any (nat_eq q) (map node_number ns) ≡ list_any (nat_eq q) (map node_number ms)
    by true e true f = e ∙ sym f
    by false e false f = e ∙ sym f
    by true e false f = e ∙ sym (found_too ns ms same q e)
    by false e true f = found_too ms ns (λ n. sym (same n)) q f ∙ sym f

pub the_same : (ns ms : List Node) → IsEachOnce ns → IsEachOnce ms → ((n : Node) → is_among node_number ns n ≡ is_among node_number ms n) → AreTheSame ns ms
the_same ns ms once each same = record {
  once = once;
  each = each;
  same = same;
  size = sym (length-map ns node_number) ∙ length-from_same_keys nat_eq_equiv (map node_number ns) (map node_number ms) once each (found_alike ns ms same)
      ∙ length-map ms node_number;
}

once_with : (kept ms : List Node) → IsEachOnce kept → IsEachOnce (kept ++ fresh node_number kept ms)
once_with kept [] once = subst IsEachOnce (sym (ap (λ ns. kept ++ ns) (fresh-nil node_number kept) ∙ append-nil kept)) once
once_with kept (m ∷ ms) once = by (once_with kept ms once) (λ more. once_with (kept ++ m ∷ []) ms more) (is_among node_number kept m) refl
  where
    more : is_among node_number kept m ≡ false → IsEachOnce (kept ++ m ∷ [])
    more e = subst (IsDistinct nat_eq) (sym (map-append node_number kept (m ∷ []))) (IsDistinct-push nat_eq_equiv (map node_number kept) (node_number m) once e)

    by : IsEachOnce (kept ++ fresh node_number kept ms) → (IsEachOnce (kept ++ m ∷ []) → IsEachOnce ((kept ++ m ∷ []) ++ fresh node_number (kept ++ m ∷ []) ms))
        → (b : Bool) → is_among node_number kept m ≡ b → IsEachOnce (kept ++ fresh node_number kept (m ∷ ms))
    by here there true e = subst IsEachOnce (sym (ap (λ ns. kept ++ ns) (fresh-in node_number kept m ms e))) here
    by here there false e =
        subst IsEachOnce (append_assoc kept (m ∷ []) (fresh node_number (kept ++ m ∷ []) ms)
        ∙ sym (ap (λ ns. kept ++ ns) (fresh-out node_number kept m ms e))) (there (more e))

numbers_left : (P : ℕ → Type 0) (p : Node → Bool) (ns : List Node) → AllByRecursion P (map node_number ns) → AllByRecursion P (map node_number (filter p ns))
numbers_left P p [] h = tt
numbers_left P p (n ∷ ns) h = by (p n) (numbers_left P p ns h.1)
  where
    by : (b : Bool) → AllByRecursion P (map node_number (filter p ns)) → AllByRecursion P (map node_number (cond b (n ∷ filter p ns) (filter p ns)))
    by true rest = (h.0, rest)
    by false rest = rest

once_left : (p : Node → Bool) (ns : List Node) → IsEachOnce ns → IsEachOnce (filter p ns)
once_left p [] h = h
once_left p (n ∷ ns) h = by (p n) (once_left p ns (IsDistinct-tail nat_eq (node_number n) (map node_number ns) h))
  where
    by : (b : Bool) → IsEachOnce (filter p ns) → IsEachOnce (cond b (n ∷ filter p ns) (filter p ns))
    by true rest = IsDistinct-cons nat_eq (node_number n) (map node_number (filter p ns))
        (numbers_left (λ y. nat_eq (node_number n) y ≡ false) p ns (IsDistinct-head nat_eq (node_number n) (map node_number ns) h)) rest
    by false rest = rest

-- ---- turns

min_more : (k most : ℕ) → min (min k most + 1) most ≡ min (suc k) most
min_more k most = omega arith

counted_is : (k : ℕ) → counted k (Some 0) ≡ Some (min k (2 ^ 64 - 1))
counted_is zero = refl
counted_is (suc k) = rw (counted_is k) (ap (λ t. Some t) (min_more k (2 ^ 64 - 1)))

circle_is : {A : Type 0} (o : Outcome Node A) (c : Bool) → (IsAnswered o ↔ (c ≡ false)) → is_circle o ≡ c
circle_is (Answered a) true h = let no : true ≡ false = h.0 tt in absurd (cc)
circle_is (Answered a) false h = refl
circle_is (Circle n) true h = refl
circle_is (Circle n) false h = absurd (h.1 refl)

-- the sum from the front on
sum_from : (f : Node → ℕ) (a : ℕ) (ns : List Node) → fold (λ a n. a + f n) a ns ≡ a + sum_by f ns
sum_from f a [] = omega arith
sum_from f a (n ∷ ns) = let first = sum_from f (a + f n) ns in let second = sum_from f (0 + f n) ns in omega arith

first_and : (f : Node → ℕ) (n : Node) (ns : List Node) → f n + sum_by f ns ≡ sum_by f (n ∷ ns)
first_and f n ns = let rest = sum_from f (0 + f n) ns in omega arith

module _ (d : Description) (b : List ℕ) where
  abbrev w : Standing Node Ruled
  w = world d b

  settled : IsSettled w
  settled = law_on (described d) (described_lawful d) b

  alone : AreDistinct w []
  alone = AreDistinct-none w

  circles_are : (ns : List Node) → meets_circle_by_replies w ns ≡ list_any (meets_circle d b []) ns
  unfolding meets_circle_by_replies
  circles_are [] = refl
  circles_are (n ∷ ns) =
      ap (λ c. c || meets_circle_by_replies w ns) (circle_is (tells w [] n).outcome (meets_circle d b [] n) (answered_direct d b [] n))
      ∙ ap (λ c. meets_circle d b [] n || c) (circles_are ns)

  costs_are : (ns : List Node) → costs w ns ≡ sum_by (calls d b) ns
  costs_are [] = refl
  costs_are (n ∷ ns) =
      ap (λ k. k + costs w ns) (cost_is_direct d b n) ∙ ap (λ k. calls d b n + k) (costs_are ns) ∙ first_and (calls d b) n ns

  -- ---- questions

  completed_are : (ns : List Node) → completed_by w ns ≡ all_completed d b ns
  completed_are ns = ap (λ f. flat_map f ns) (fun_ext (λ n. done_direct d b [] n alone))

  module _ (old kept ns : List Node) (same : AreTheSame old kept) where
    members_with : (n : Node) → is_among node_number (old ++ completed_by w ns) n ≡ is_among node_number (kept_with d b kept ns) n
    unfolding kept_with
    members_with n =
        among_more node_number old kept (completed_by w ns) same.same n
        ∙ ap (λ ms. is_among node_number (kept ++ ms) n) (completed_are ns)
        ∙ sym (among-fresh node_number kept (all_completed d b ns) n)

    each_with : IsEachOnce (kept_with d b kept ns)
    unfolding kept_with
    each_with = once_with kept (all_completed d b ns) same.each

    pub kept_more : (new : List Node) → AreExactly w new (old ++ completed_by w ns) → AreTheSame new (kept_with d b kept ns)
    kept_more new h = the_same new (kept_with d b kept ns) h.once each_with (λ n. h.same n ∙ members_with n)

    pub turns_are : turns_with w old ns (Some 0) ≡ turns_of d b kept ns
    unfolding turns_with turns_of
    turns_are =
        ap (λ c. if c then None else counted (costs w (fresh node_number old (completed_by w ns))) (Some 0)) (circles_are ns)
        ∙ ap (λ t. if list_any (meets_circle d b []) ns then None else t)
        (ap (λ ms. counted (costs w ms) (Some 0))
        (fresh-same node_number old kept (completed_by w ns) same.same ∙ ap (fresh node_number kept) (completed_are ns))
        ∙ ap (λ k. counted k (Some 0)) (costs_are (fresh node_number kept (all_completed d b ns)))
        ∙ counted_is (sum_by (calls d b) (fresh node_number kept (all_completed d b ns))))

  -- what kept nodes ask is kept
  asks_kept : (now : List Node) (es : List (Entry Node Ruled)) → AllByRecursion (StandsIn w now) es
      → AllByRecursion (λ n. AllByRecursion (λ a. is_among node_number now a ≡ true) (asks_of_node d b [] n)) (nodes_of es)
  asks_kept now [] h = tt
  asks_kept now (e ∷ es) h =
      let direct : IsDirect d b [] e.node = asks_are_direct d b [] e.node (record { distinct = alone; apart = refl }) in
      (subst (AllByRecursion (λ a. is_among node_number now a ≡ true)) direct.asked h.0.closed, asks_kept now es h.1)

  -- ---- edits

  left_is : (change : Change) (ns : List Node) → left_after w change ns ≡ kept_after d b change ns
  unfolding kept_after
  left_is change ns = ap (λ p. filter (λ n. not (p n)) ns) (fun_ext (touch_direct d b change))

  each_left : (change : Change) (kept : List Node) → IsEachOnce kept → IsEachOnce (kept_after d b change kept)
  unfolding kept_after
  each_left change kept once = once_left _ kept once

  pub kept_less : (change : Change) (old kept new : List Node) → AreTheSame old kept → AreExactly w new (left_after w change old)
      → AreTheSame new (kept_after d b change kept)
  kept_less change old kept new same h =
      the_same new (kept_after d b change kept) h.once (each_left change kept same.each)
      (λ n. h.same n ∙ left_after-same w settled change old kept same.same n ∙ ap (λ ms. is_among node_number ms n) (left_is change kept))

  -- ---- sessions

  pub asked_holds : (ns : List Node) (m : Memory) (old new : Memo Node Ruled) (s : Explored) → AreTheSame (nodes_of old.kept) m.kept → old.turns ≡ Some 0
      → HasAsked w ns old new
      → s.kept ≡ nodes_of new.kept → s.turns ≡ new.turns → Holds s (after_asking d b ns m)
  asked_holds ns m old new s same begun asked kept turns = record {
    kept = subst (λ ks. AreTheSame ks (kept_with d b m.kept ns)) (sym kept) (kept_more (nodes_of old.kept) m.kept ns same (nodes_of new.kept) asked.kept);
    turns = turns ∙ asked.turns ∙ ap (turns_with w (nodes_of old.kept) ns) begun ∙ turns_are (nodes_of old.kept) m.kept ns same;
  }

  pub asked_some : (ns : List Node) (m : Memory) (old new : Memo Node Ruled) (s : Explored) → AreTheSame (nodes_of old.kept) m.kept → HasAskedSome w ns old new
      → s.kept ≡ nodes_of new.kept → s.turns ≡ None → HoldsSome d b ns m s
  asked_some ns m old new s same asked kept turns =
      let P : List Node → Type 0 = λ ks. HoldsSome d b ns m (record s { kept = ks }) in
      subst P (sym kept) (record {
        once = asked.kept.once;
        holds = λ n e. asked.kept.holds n (same.same n ∙ e);
        within = λ n e. sym (members_with (nodes_of old.kept) m.kept ns same n) ∙ asked.kept.within n e;
        closed = asks_kept (nodes_of new.kept) new.kept asked.right.each;
        turns = turns;
      })

-- ---- the same of a session, by its view

-- a session's view
abbrev pub seen : Pieces → List ℕ → Memo Node Ruled → Option ℕ → Explored
seen p b e turns = record { pieces = p; bytes = b; kept = nodes_of e.kept; turns = turns }

module _ (p : Pieces) (b : List ℕ) (e : Memo Node Ruled) (turns : Option ℕ) (x : Explored) (is : seen p b e turns ≡ x) (m : Memory) (h : Holds x m) where
  held : AreTheSame (nodes_of e.kept) m.kept
  held = subst (λ (s : Explored). AreTheSame s.kept m.kept) (sym is) h.kept

  -- a question that was answered
  pub answered_holds : (ask : Description → List ℕ → List Node) (begun new : Memo Node Ruled) (now : Option ℕ) → begun.kept ≡ e.kept → begun.turns ≡ Some 0
      → HasAsked (world (plain_pieces p) b) (ask (plain_pieces p) b) begun new → now ≡ new.turns
      → Holds (seen p b new now) (after_asking (description_of x) x.bytes (ask (description_of x) x.bytes) m)
  unfolding description_of
  answered_holds ask begun new now same zeroed asked turned =
      let P : Explored → Type 0 = λ s. Holds (seen p b new now) (after_asking (description_of s) s.bytes (ask (description_of s) s.bytes) m) in
      let old : AreTheSame (nodes_of begun.kept) m.kept = subst (λ es. AreTheSame (nodes_of es) m.kept) (sym same) held in
      subst P is (asked_holds (plain_pieces p) b (ask (plain_pieces p) b) m begun new (seen p b new now) old zeroed asked refl turned)

  -- one that was refused memory
  pub refused_holds : (ask : Description → List ℕ → List Node) (begun new : Memo Node Ruled) → begun.kept ≡ e.kept
      → HasAskedSome (world (plain_pieces p) b) (ask (plain_pieces p) b) begun new
      → HoldsSome (description_of x) x.bytes (ask (description_of x) x.bytes) m (seen p b new None)
  unfolding description_of
  refused_holds ask begun new same asked =
      let P : Explored → Type 0 = λ s. HoldsSome (description_of s) s.bytes (ask (description_of s) s.bytes) m (seen p b new None) in
      let old : AreTheSame (nodes_of begun.kept) m.kept = subst (λ es. AreTheSame (nodes_of es) m.kept) (sym same) held in
      subst P is (asked_some (plain_pieces p) b (ask (plain_pieces p) b) m begun new (seen p b new None) old asked refl refl)

  -- one whose reply was refused memory once all was asked
  pub unknown_holds : (ask : Description → List ℕ → List Node) (begun new : Memo Node Ruled) → begun.kept ≡ e.kept
      → HasAsked (world (plain_pieces p) b) (ask (plain_pieces p) b) begun new
      → HoldsSome (description_of x) x.bytes (ask (description_of x) x.bytes) m (seen p b new None)
  unknown_holds ask begun new same asked = refused_holds ask begun new same (some_of (world (plain_pieces p) b) begun new (ask (plain_pieces p) b) asked)

  -- an edit that was done
  pub edited_holds : (edit : List ℕ → Result (List ℕ) EditRefusal) (change : Change) (after : List ℕ) (new : Memo Node Ruled) → edit b ≡ Ok after
      → AreExactly (world (plain_pieces p) b) (nodes_of new.kept) (left_after (world (plain_pieces p) b) change (nodes_of e.kept))
      → Holds (seen p after new turns) (after_edit (description_of x) x.bytes change (edit x.bytes) m)
  unfolding description_of
  edited_holds edit change after new done left =
      let P : Explored → Type 0 = λ s. Holds (seen p after new turns) (after_edit (description_of s) s.bytes change (edit s.bytes) m) in
      let Q : Result (List ℕ) EditRefusal → Type 0 = λ r. Holds (seen p after new turns) (after_edit (plain_pieces p) b change r m) in
      subst P is (subst Q (sym done) (record {
        kept = kept_less (plain_pieces p) b change (nodes_of e.kept) m.kept (nodes_of new.kept) held left;
        turns = ap (λ (s : Explored). s.turns) is ∙ h.turns;
      }))

  -- a question whose path was refused memory, so that nothing was asked
  pub unread_holds : IsRight (world (plain_pieces p) b) e.kept → (command : Command) → IsTrue (is_question command)
      → LeftBy (description_of x) x.bytes command m (seen p b e None)
  unread_holds right (Ask question) told =
      let ask : Description → List ℕ → List Node = λ d b. asks d b (asking d b question) in
      refused_holds ask e e refl (some_none (world (plain_pieces p) b) e (ask (plain_pieces p) b) right)
  unread_holds right (Put path n) told =
      let ask : Description → List ℕ → List Node = λ d b. asks d b (put_question d b path n) in
      refused_holds ask e e refl (some_none (world (plain_pieces p) b) e (ask (plain_pieces p) b) right)
  unread_holds right Blank told = absurd (cc)
  unread_holds right (Refused refusal) told = absurd (cc)
  unread_holds right (Set place bytes) told = absurd (cc)
  unread_holds right (Ins place bytes) told = absurd (cc)
  unread_holds right (Del place count) told = absurd (cc)
  unread_holds right (App bytes) told = absurd (cc)
  unread_holds right (Bytes place count) told = absurd (cc)
  unread_holds right Size told = absurd (cc)
  unread_holds right Stats told = absurd (cc)
  unread_holds right Quit told = absurd (cc)
