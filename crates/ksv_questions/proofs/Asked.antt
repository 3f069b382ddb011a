-- An engine that is asked one list of nodes and then another.
use Rattle.ksv_questions.proofs.Common.{◌≡◌, ℕ, ◌+◌, Bool, true, false, List, [], ◌∷◌, ◌++◌, Option, None, refl, sym, ◌∙◌, ap, ◌||◌, append_assoc}
use Rattle.ksv_questions.proofs.Common.{if◌then◌else◌, append-nil, Memo, is_among, IsRight, costs, counted, fresh, HasAsked}
use Rattle.std.proofs.Math.Bool.{or_assoc}
use Rattle.std.proofs.lemmas.Bool.{or_left}
use Rattle.std.proofs.lemmas.Grind.{flat_map-append}
use Rattle.ksv_memo_rules.specs.Evaluation.{done, tells}
use Rattle.ksv_memo_rules.specs.Meaning.{Standing}
use Rattle.ksv_memo_rules.specs.Right.{AreBetween, AreExactly, nodes_of}
use Rattle.ksv_memo_rules.proofs.Keeping.{is_among-append}
use Rattle.ksv_memo.proofs.Moves.{fresh-nil}
use Rattle.ksv_memo.proofs.Places.{fresh-same}
use Rattle.ksv_questions.specs.Engines.{HasAskedSome, completed_by, is_circle, meets_circle, turns_with}
use Rattle.ksv_questions.proofs.Fresh.{among_more, costs_append, counted_more, counted_none, fresh_append}

-- ---- circles

pub circle_append : {N A : Type 0} (w : Standing N A) (ms ns : List N) → meets_circle w (ms ++ ns) ≡ (meets_circle w ms || meets_circle w ns)
unfolding meets_circle
circle_append w [] ns = refl
circle_append w (m ∷ ms) ns = ap (λ b. is_circle (tells w [] m).outcome || b) (circle_append w ms ns)
    ∙ sym (or_assoc (is_circle (tells w [] m).outcome) (meets_circle w ms) (meets_circle w ns))

-- ---- lists of nodes

module _ {N A : Type 0} (w : Standing N A) where
  pub exactly_then : (old mid new xs ys : List N) → AreExactly w mid (old ++ xs) → AreExactly w new (mid ++ ys) → AreExactly w new (old ++ (xs ++ ys))
  exactly_then old mid new xs ys h k = record {
    once = k.once;
    same = λ x. k.same x ∙ among_more w.number mid (old ++ xs) ys h.same x ∙ ap (λ ms. is_among w.number ms x) (append_assoc old xs ys);
  }

  in_longer : (ms ns : List N) (x : N) → is_among w.number ms x ≡ true → is_among w.number (ms ++ ns) x ≡ true
  in_longer ms ns x h = is_among-append w.number ms ns x ∙ or_left (is_among w.number ms x) (is_among w.number ns x) h

  -- what lies between two lists does so with more after the second
  pub between_more : (old new xs ys : List N) → AreBetween w old new (old ++ xs) → AreBetween w old new (old ++ (xs ++ ys))
  between_more old new xs ys h = record {
    once = h.once;
    holds = h.holds;
    within = λ x e. ap (λ ms. is_among w.number ms x) (sym (append_assoc old xs ys)) ∙ in_longer (old ++ xs) ys x (h.within x e);
  }

  pub between_then : (old mid new xs ys : List N) → AreExactly w mid (old ++ xs) → AreBetween w mid new (mid ++ ys) → AreBetween w old new (old ++ (xs ++ ys))
  between_then old mid new xs ys h k = record {
    once = k.once;
    holds = λ x e. k.holds x (h.same x ∙ in_longer old xs x e);
    within = λ x e. sym (among_more w.number mid (old ++ xs) ys h.same x ∙ ap (λ ms. is_among w.number ms x) (append_assoc old xs ys)) ∙ k.within x e;
  }

  pub between_of : (old new xs : List N) → AreExactly w new (old ++ xs) → AreBetween w old new (old ++ xs)
  between_of old new xs h = record {
    once = h.once;
    holds = λ x e. h.same x ∙ in_longer old xs x e;
    within = λ x e. sym (h.same x) ∙ e;
  }

  -- ---- turns

  owed : (old mid xs ys : List N) → AreExactly w mid (old ++ xs)
      → costs w (fresh w.number old (xs ++ ys)) ≡ costs w (fresh w.number old xs) + costs w (fresh w.number mid ys)
  owed old mid xs ys h =
      ap (costs w) (fresh_append w.number old xs ys)
      ∙ costs_append w (fresh w.number old xs) (fresh w.number (old ++ xs) ys)
      ∙ ap (λ ns. costs w (fresh w.number old xs) + costs w ns) (sym (fresh-same w.number mid (old ++ xs) ys h.same))

  by_circles : (a b : Bool) (j k : ℕ) (before mid new : Option ℕ)
      → mid ≡ (if a then None else counted j before) → new ≡ (if b then None else counted k mid)
      → new ≡ (if a || b then None else counted (j + k) before)
  by_circles true true j k before mid new h e = e
  by_circles true false j k before mid new h e = e ∙ ap (counted k) h ∙ counted_none k
  by_circles false true j k before mid new h e = e
  by_circles false false j k before mid new h e = e ∙ ap (counted k) h ∙ counted_more j k before

  pub turns_then : (old mid ms ns : List N) (before between new : Option ℕ) → AreExactly w mid (old ++ completed_by w ms)
      → between ≡ turns_with w old ms before → new ≡ turns_with w mid ns between → new ≡ turns_with w old (ms ++ ns) before
  unfolding turns_with
  turns_then old mid ms ns before between new h e f =
      by_circles (meets_circle w ms) (meets_circle w ns) (costs w (fresh w.number old (completed_by w ms))) (costs w (fresh w.number mid (completed_by w ns)))
      before between new e f
      ∙ ap (λ b. if b then None else counted (costs w (fresh w.number old (completed_by w ms)) + costs w (fresh w.number mid (completed_by w ns))) before)
      (sym (circle_append w ms ns))
      ∙ ap (λ k. if meets_circle w (ms ++ ns) then None else counted k before)
      (sym (ap (λ all. costs w (fresh w.number old all)) (flat_map-append (done w []) ms ns) ∙ owed old mid (completed_by w ms) (completed_by w ns) h))

  -- ---- engines

  pub asked_none : (old : Memo N A) → IsRight w old.kept → HasAsked w [] old old
  unfolding turns_with meets_circle
  asked_none old right = record {
    right = right;
    kept = record { once = right.once; same = λ x. ap (λ ms. is_among w.number ms x) (sym (append-nil (nodes_of old.kept))) };
    turns = sym (ap (λ ns. counted (costs w ns) old.turns) (fresh-nil w.number (nodes_of old.kept)));
  }

  pub asked_then : (old mid new : Memo N A) (ms ns : List N) → HasAsked w ms old mid → HasAsked w ns mid new → HasAsked w (ms ++ ns) old new
  asked_then old mid new ms ns h k = record {
    right = k.right;
    kept = in_all (exactly_then (nodes_of old.kept) (nodes_of mid.kept) (nodes_of new.kept) (completed_by w ms) (completed_by w ns) h.kept k.kept);
    turns = turns_then (nodes_of old.kept) (nodes_of mid.kept) ms ns old.turns mid.turns new.turns h.kept h.turns k.turns;
  }
    where
      in_all : AreExactly w (nodes_of new.kept) (nodes_of old.kept ++ (completed_by w ms ++ completed_by w ns))
          → AreExactly w (nodes_of new.kept) (nodes_of old.kept ++ completed_by w (ms ++ ns))
      in_all e = rw (flat_map-append (done w []) ms ns) e

  in_all_some : (old new : Memo N A) (ms ns : List N)
      → AreBetween w (nodes_of old.kept) (nodes_of new.kept) (nodes_of old.kept ++ (completed_by w ms ++ completed_by w ns))
      → AreBetween w (nodes_of old.kept) (nodes_of new.kept) (nodes_of old.kept ++ completed_by w (ms ++ ns))
  in_all_some old new ms ns e = rw (flat_map-append (done w []) ms ns) e

  pub some_then : (old mid new : Memo N A) (ms ns : List N) → HasAsked w ms old mid → HasAskedSome w ns mid new → HasAskedSome w (ms ++ ns) old new
  some_then old mid new ms ns h k = record {
    right = k.right;
    kept = in_all_some old new ms ns
        (between_then (nodes_of old.kept) (nodes_of mid.kept) (nodes_of new.kept) (completed_by w ms) (completed_by w ns) h.kept k.kept);
  }

  pub some_before : (old new : Memo N A) (ms ns : List N) → HasAskedSome w ms old new → HasAskedSome w (ms ++ ns) old new
  some_before old new ms ns h = record {
    right = h.right;
    kept = in_all_some old new ms ns (between_more (nodes_of old.kept) (nodes_of new.kept) (completed_by w ms) (completed_by w ns) h.kept);
  }

  -- all is some
  pub some_of : (old new : Memo N A) (ns : List N) → HasAsked w ns old new → HasAskedSome w ns old new
  some_of old new ns h = record { right = h.right; kept = between_of (nodes_of old.kept) (nodes_of new.kept) (completed_by w ns) h.kept }

  -- nothing is some of anything
  pub some_none : (old : Memo N A) (ns : List N) → IsRight w old.kept → HasAskedSome w ns old old
  some_none old ns right = some_before old old [] ns (some_of old old [] (asked_none old right))
