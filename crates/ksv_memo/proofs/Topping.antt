-- The last open node: how it is run, kept and taken out.
use Rattle.ksv_memo.proofs.Common.{◌≡◌, ℕ, ◌+◌, ◌-◌, ◌≤◌, ◌<◌, true, false, List, [], ◌∷◌, ◌++◌, length, take, drop, reverse, Option, Some, None}
use Rattle.ksv_memo.proofs.Common.{IfOk, OnOk, length-append, is_some, refl, sym, ◌∙◌, ap, subst, Result, slice_get, inr, arith, option_map, AllByRecursion}
use Rattle.ksv_memo.proofs.Common.{slice_get-map, slice_get_within, Use, Linked, row, is_kept, Slot, Frame, Frames, answer_in, answer_at, answers_at}
use Rattle.ksv_memo.proofs.Common.{with_first, Open, Standing, Next, HasEachOnce, slots_of, node_at, nodes_at, IsOpen, IsKept, entries_of}
use Rattle.ksv_memo.proofs.Common.{numbers_from, entry_at, entry_with, open_before, nodes_in}
use Rattle.ksv_memo.proofs.Common.{opens_in, opens_of, AreNested, AreLinked, AreFrames, IsLaidOut, EndsWith, with_slot, Framed, Heard, Closes, MayKeep}
use Rattle.ksv_memo.proofs.Common.{All-from_recursion, All-map, eqb_true}
use Rattle.std.proofs.Common.{All, OnErr, Ok, Err, ◌==◌}
use Rattle.std.proofs.lemmas.List.{reverse-append, take_rest}
use Rattle.ksv_memo_links.specs.Links.{Keeps as LinksKeep, IsUnchanged}
use Rattle.ksv_memo_rules.specs.declared.replies.Slot.TheVariants.{Empty as emptied, Open as opened}
use Rattle.ksv_memo.specs.declared.frames.Part.{Part}
use Rattle.ksv_memo.specs.Open.{heard}
use Rattle.ksv_memo.specs.Calls.{Runs, replies_of}
use Rattle.ksv_memo_rules.specs.Meaning.{IsAddedTo}
use Rattle.ksv_memo.specs.Moves.{SameFrames, IsPart, Popped}
use Rattle.ksv_memo_rules.specs.Folds.{Fold}
use Rattle.ksv_memo.specs.Folding.{ClosesAs, LosesFirst, entry_as}
use Rattle.ksv_memo.specs.Nodes.{Keeps, IsPut, MayLose, TakesFirst}
use Rattle.ksv_memo.proofs.Finding.{node_there, answer_there}
use Rattle.ksv_memo.proofs.Laying.{All-drop, All-numbers, entries_at-same}
use Rattle.ksv_memo.proofs.Changing.{ChangesAt, set_at, set_count, grown, links-stay, links-keep, entries-stay, entries-keep, frames-pop, frames-hear}
use Rattle.ksv_memo.proofs.Changing.{opens-pop, opens-hear}

-- the frame of a part is that of a node that is opened now
pub parted : {N : Type 0} (i j : ℕ) (n : N) (old new : Frames N) (p : Part) (f : Frame N) → IsPart j old p → f.node ≡ n → f.slot ≡ p.slot → f.asked ≡ p.asked
    → f.uses ≡ p.uses → j ≡ i → new.frames.items ≡ old.frames.items ++ f ∷ [] → new.asked.items ≡ old.asked.items → new.uses.items ≡ old.uses.items
    → Framed i n old new
parted i j n old new p f is node slot asks used same pushed asked uses =
    record {
      frame = f;
      is_new = record { node = node; slot = slot ∙ is.slot ∙ same; asked = asks ∙ is.asked; uses = used ∙ is.uses };
      frames = pushed;
      asked = asked;
      uses = uses;
    }

pub no-items : {N : Type 0} (fs : List (Frame N)) → (length fs == 0) ≡ true → fs ≡ []
no-items [] e = refl
no-items (f ∷ fs) e = let none : length (f ∷ fs) ≡ 0 = eqb_true (length (f ∷ fs)) 0 e in absurd (omega arith)

-- the last open node's part of what open nodes asked and used, as the code takes it
pub keep_part : (k : ℕ) (uses held once : List Use) → held ≡ uses → HasEachOnce once (take (length held - k) (drop k held)) → HasEachOnce once (drop k uses)
keep_part k uses held once e h = rw e at (subst (HasEachOnce once) (take_rest held k) h)

pub kept_part : (l m : Linked) (slot k : ℕ) (asked held : List ℕ) (given once : List Use) → held ≡ asked → given ≡ once
    → LinksKeep l m slot (take (length held - k) (drop k held)) given → LinksKeep l m slot (drop k asked) once
kept_part l m slot k asked held given once e f h =
    subst (LinksKeep l m slot (drop k asked)) f
    (rw e at (rw (take_rest held k) at h))

same-opens-in : {N V F : Type 0} (ps : List (N × Slot V F)) (old new : Frames N) → SameFrames old new → opens_of ps new ≡ opens_of ps old
same-opens-in ps old new same = λ i. opens_in ps (reverse (same.frames i)) (same.asked i) (same.uses i)

module _ {N V F : Type 0} (ps : List (N × Slot V F)) where
  open_pair : (n : N) (o : Option (N × Slot V F)) → option_map (λ p. p.0) o ≡ Some n → option_map (λ p. p.1) o ≡ Some opened → o ≡ Some (n, opened)
  open_pair n None d e = absurd (cc)
  open_pair n (Some p) d e = let node : p.0 ≡ n = cc in let slot : p.1 ≡ opened = cc in λ k. Some (node k, slot k)

  -- the last open node, and those below it
  pub record IsTop (frames : Frames N) (f : Frame N) : Type 0 where
    pub front : List (Frame N)
    pub turned : reverse frames.frames.items ≡ f ∷ reverse front
    pub there : slice_get ps f.slot ≡ Some (f.node, opened)
    pub asks : f.asked ≤ length frames.asked.items
    pub count : f.uses ≤ length frames.uses.items

  abbrev pub top_of : (frames : Frames N) (f : Frame N) → N → Open N (Result V F)
  top_of frames f n = record {
    node = n;
    replies = answers_at (slots_of ps) (drop f.asked frames.asked.items);
    asked = nodes_at ps (drop f.asked frames.asked.items);
    uses = drop
        f.uses frames.uses.items;
  }

  abbrev pub below : (frames : Frames N) (f : Frame N) → List (Frame N) → List (Open N (Result V F))
  below frames f front = opens_in ps (reverse front) (take f.asked frames.asked.items) (take f.uses frames.uses.items)

  pub top : (frames : Frames N) (f : Frame N) → AreFrames ps frames → EndsWith f frames.frames.items → IsTop frames f
  top frames f h ends =
      let turned : reverse frames.frames.items ≡ f ∷ reverse ends.0 = cc (reverse-append ends.0 (f ∷ [])) in
      let waits : AllByRecursion (λ f. IsOpen ps f.slot) (f ∷ reverse ends.0) = subst (AllByRecursion (λ f. IsOpen ps f.slot)) turned h.waits in
      let nested : AreNested (f ∷ reverse ends.0) (length frames.asked.items) (length frames.uses.items) =
      rw turned at h.nested in
      let nodes : AllByRecursion (λ f. node_at ps f.slot ≡ Some f.node) (f ∷ reverse ends.0) =
      subst (AllByRecursion (λ f. node_at ps f.slot ≡ Some f.node)) turned h.nodes in
      let pair = open_pair f.node _ nodes.0 (sym (slice_get-map (λ p. p.1) ps f.slot) ∙ waits.0) in
      record { front = ends.0; turned = turned; there = pair; asks = nested.0; count = nested.1 }

  pub top-opens : (frames : Frames N) (f : Frame N) (t : IsTop frames f) → opens_of ps frames ≡ top_of frames f f.node ∷ below frames f t.front
  top-opens frames f t =
      cc (node_there ps f.slot f.node opened t.there)

  -- memory was refused before it was kept
  pub unchanged-laid : (l m : Linked) (frames : Frames N) → IsUnchanged l m → IsLaidOut ps l frames → IsLaidOut ps m frames
  unchanged-laid l m frames same h = record {
    kept = record {
      kept = λ i. cc (h.kept.kept i);
      asked = λ i k. subst (AllByRecursion (IsKept ps)) (sym (ap (λ rs. row rs i) same.asked)) (h.kept.asked i k);
      idle = same.waits ∙ h.kept.idle;
      slots = omega (arith, ap length same.kept);
    };
    waits = h.waits;
  }

  pub unchanged-entries : (l m : Linked) → IsUnchanged l m → entries_of ps m ≡ entries_of ps l
  unchanged-entries l m same = entries_at-same ps ps l m (numbers_from 0 (length ps)) (All-numbers (λ i. entry_at ps m i ≡ entry_at ps l i) 0 (length ps)
      (λ i le lt. (λ j. entry_with (node_at ps i) (answer_at (slots_of ps) i) (nodes_at ps (row (same.asked j) i)) (row (same.uses j) i))))

  -- after a call the frames are the same, and there are more uses
  more_uses : (w : Standing N (Result V F)) (old new : Frames N) {E : Type 0} (r : Result (Next N (Result V F)) E) → IfOk r (λ s. Runs w ps old new s)
      → OnErr r (IsAddedTo old.uses.items new.uses.items) → length old.uses.items ≤ length new.uses.items
  more_uses w old new (Ok s) runs refused = let e : length new.uses.items ≡ length old.uses.items + _ =
      ap length runs.uses ∙ length-append old.uses.items _ in omega arith
  more_uses w old new (Err e) runs refused = let e : length new.uses.items ≡ length old.uses.items + _ =
      ap length refused.1 ∙ length-append old.uses.items _ in omega arith

  pub called-laid : (w : Standing N (Result V F)) (l : Linked) (old new : Frames N) {E : Type 0} (r : Result (Next N (Result V F)) E)
      → IfOk r (λ s. Runs w ps old new s) → OnErr r (IsAddedTo old.uses.items new.uses.items) → new.frames ≡ old.frames → new.asked ≡ old.asked
      → IsLaidOut ps l old → IsLaidOut ps l new
  called-laid w l old new r runs refused same asked h =
      let now : reverse new.frames.items ≡ reverse old.frames.items = ap (λ v. reverse v.items) same in
      let held : new.asked.items ≡ old.asked.items = ap (λ v. v.items) asked in
      let count : length old.asked.items ≤ length new.asked.items = (omega (arith, ap length held)) in
      record {
        kept = h.kept;
        waits = record {
          waits = subst (AllByRecursion (λ f. IsOpen ps f.slot)) (sym now) h.waits.waits;
          nodes = subst (AllByRecursion (λ f. node_at ps f.slot ≡ Some f.node)) (sym now) h.waits.nodes;
          all = λ k o. rw now (h.waits.all k o);
          once = rw now h.waits.once;
          asked = subst (AllByRecursion (IsKept ps)) (sym held) h.waits.asked;
          nested = rw now (grown (reverse old.frames.items) _ _ _ _ count (more_uses w old new r runs refused) h.waits.nested);
        };
      }

  -- the open nodes are the same, whatever they used
  named-same : (fs : List (Frame N)) (asked : List ℕ) (uses others : List Use) → nodes_in (opens_in ps fs asked uses) ≡ nodes_in (opens_in ps fs asked others)
  named-same [] asked uses others = refl
  named-same (f ∷ fs) asked uses others = by (node_at ps f.slot) (answers_at (slots_of ps) (drop f.asked asked)) (nodes_at ps (drop f.asked asked))
      (drop f.uses uses) (drop f.uses others) _ _ (named-same fs (take f.asked asked) (take f.uses uses) (take f.uses others))
    where
      by : (o : Option N) (replies : List (Result V F)) (asks : List N) (us vs : List Use) (xs ys : List (Open N (Result V F))) → nodes_in xs ≡ nodes_in ys
          → nodes_in (open_before o replies asks us xs) ≡ nodes_in (open_before o replies asks vs ys)
      by None replies asks us vs xs ys e = e
      by (Some n) replies asks us vs xs ys e = ap (λ ns. n ∷ ns) e

  pub called-nodes : (old new : Frames N) → new.frames ≡ old.frames → new.asked ≡ old.asked → nodes_in (opens_of ps new) ≡ nodes_in (opens_of ps old)
  called-nodes old new same asked =
      (λ i. nodes_in (opens_in ps (reverse (same i).items) (asked i).items new.uses.items))
      ∙ named-same (reverse old.frames.items) old.asked.items new.uses.items old.uses.items

  -- the last open node was run
  pub runs : (w : Standing N (Result V F)) (old new : Frames N) (f : Frame N) → EndsWith f old.frames.items
      → (slots : List (Slot V F)) (held : List ℕ) (rs : List (Result V F)) → slots ≡ slots_of ps → held ≡ old.asked.items
      → rs ≡ answers_at slots (take (length held - f.asked) (drop f.asked held)) → {E : Type 0} (r : Result (Next N (Result V F)) E)
      → IfOk r (λ s. s ≡ w.follow f.node rs) → OnOk r (new.uses.items ≡ old.uses.items ++ w.added f.node rs) → IfOk r (λ s. Runs w ps old new s)
  runs w old new f ends slots held rs same is lent (Err e) step uses = tt
  runs w old new f ends slots held rs same is lent (Ok s) step uses =
      let part : rs ≡ replies_of ps f old = lent ∙ ap (answers_at slots) (take_rest held f.asked) ∙ (λ i. answers_at (same i) (drop f.asked (is i))) in
      record { frame = f; last = ends; step = cc; uses = cc }

  pub same-frames : (old new : Frames N) → SameFrames old new → AreFrames ps old → AreFrames ps new
  same-frames old new same h =
      let now : reverse new.frames.items ≡ reverse old.frames.items = ap reverse same.frames in
      record {
        waits = subst (AllByRecursion (λ f. IsOpen ps f.slot)) (sym now) h.waits;
        nodes = subst (AllByRecursion (λ f. node_at ps f.slot ≡ Some f.node)) (sym now) h.nodes;
        all = λ k o. rw now (h.all k o);
        once = rw now h.once;
        asked = subst (AllByRecursion (IsKept ps)) (sym same.asked) h.asked;
        nested = rw now (rw same.uses (rw same.asked h.nested));
      }

  -- ---- the last open node is taken out, which leaves these slots
  pub record IsPopped (l : Linked) (frames new : Frames N) (f : Frame N) (qs : List (N × Slot V F)) (s : Slot V F) : Type 0 where
    pub laid : IsLaidOut ps l frames
    pub popped : Popped f frames new
    pub top : IsTop frames f
    pub changes : ChangesAt ps qs f.slot f.node s
    pub count : length qs ≡ length ps

  pub pops : (l : Linked) (frames new : Frames N) (f : Frame N) (qs : List (N × Slot V F)) (s : Slot V F) → IsLaidOut ps l frames
      → EndsWith f frames.frames.items → Popped f frames new → qs ≡ with_slot ps f.slot s → IsPopped l frames new f qs s
  pops l frames new f qs s laid ends popped set =
      let t = top _ _ laid.waits ends in
      let changes = set_at _ _ _ _ opened _ t.there set in
      record { laid = laid; popped = popped; top = t; changes = changes; count = set_count ps f.slot s qs set }

  module _ {l : Linked} {frames new : Frames N} {f : Frame N} {qs : List (N × Slot V F)} {s : Slot V F} (p : IsPopped l frames new f qs s) where
    top_none : answer_at (slots_of ps) f.slot ≡ None
    top_none = answer_there ps f.slot f.node opened p.top.there

    same_front : reverse new.frames.items ≡ reverse p.top.front
    same_front = tail-same (reverse new.frames.items) (reverse p.top.front)
        (cc (reverse-append new.frames.items (f ∷ [])))
      where
        tail-same : (xs ys : List (Frame N)) → f ∷ xs ≡ f ∷ ys → xs ≡ ys
        tail-same xs ys e = let same : xs ≡ ys = cc in same

    pops-opens : opens_of qs new ≡ below frames f p.top.front
    pops-opens = cc (opens-pop _ _ _ _ _ p.changes top_none _ _ _ p.laid.waits p.popped, same_front)

  module _ {l : Linked} {frames new : Frames N} {f : Frame N} {qs : List (N × Slot V F)} (p : IsPopped l frames new f qs emptied) where
    pub abandons-laid : IsLaidOut qs l new
    abandons-laid = record {
      kept = links-stay _ _ _ _ _ p.changes (top_none p) refl _ p.laid.kept (omega arith);
      waits = frames-pop _ _ _ _ _ p.changes (top_none p) (λ e. cc) _ refl _ _ p.laid.waits p.popped;
    }

    pub abandons-kept : entries_of qs l ≡ entries_of ps l
    abandons-kept = entries-stay _ _ _ _ _ p.changes (top_none p) refl _ p.laid.kept 0
        (let e : length ps ≡ length ps + 0 = omega arith in p.count ∙ e) tt

    pub abandons-first : LosesFirst (record { kept = entries_of ps l; opened = opens_of ps frames })
        (record { kept = entries_of qs l; opened = opens_of qs new })
    abandons-first = record { first = top_of frames f f.node; was = cc (top-opens _ _ p.top, pops-opens p); kept = abandons-kept }

    pub abandons-rest : TakesFirst true (opens_of ps frames) (opens_of qs new)
    abandons-rest = (top_of frames f f.node, cc (top-opens _ _ p.top, pops-opens p))

  -- ---- it is kept with an answer, by these slots and uses
  pub record IsShut (l : Linked) (frames new : Frames N) (f : Frame N) (qs : List (N × Slot V F)) (s : Slot V F) (a : Result V F) (all : Linked)
      (asks : List ℕ) (once : List Use) : Type 0 where
    pub pops : IsPopped l frames new f qs s
    pub is : answer_in s ≡ Some a
    pub asked : AllByRecursion (IsKept ps) asks
    pub in_asked : f.slot < length l.asked
    pub in_uses : f.slot < length l.uses
    pub kept : LinksKeep l all f.slot asks once

  module _ {l : Linked} {frames new : Frames N} {f : Frame N} {qs : List (N × Slot V F)} {s : Slot V F} {a : Result V F} {all : Linked} {asks : List ℕ}
      {once : List Use} (h : IsShut l frames new f qs s a all asks once) where
    not_open : s ≡ opened → ⊥
    not_open e = let none : answer_in s ≡ None = ap answer_in e in let is = h.is in cc

    slot_in : f.slot < length ps
    slot_in = slice_get_within ps f.slot (f.node, opened) h.pops.top.there

    pub shuts-laid : IsLaidOut qs all new
    shuts-laid = record {
      kept = links-keep _ _ _ _ _ h.pops.changes (top_none h.pops) a h.is _ _ asks once h.pops.laid.kept h.asked
          (omega (arith, slot_in)) h.in_asked
          (omega arith) h.kept;
      waits = frames-pop _ _ _ _ _ h.pops.changes (top_none h.pops) not_open _ refl _ _ h.pops.laid.waits h.pops.popped;
    }

    pub shuts-put : IsPut (record { node = f.node; answer = a; asked = nodes_at ps asks; uses = once }) (entries_of ps l) (entries_of qs all)
    shuts-put = entries-keep _ _ _ _ _ h.pops.changes (top_none h.pops) a h.is _ all asks once h.pops.laid.kept
        h.asked h.in_asked h.in_uses slot_in h.pops.count h.kept

    -- no node is below it
    pub shuts-last : new.frames.items ≡ [] → (below frames f h.pops.top.front ≡ []) × (opens_of qs new ≡ [])
    shuts-last none =
        let empty : below frames f h.pops.top.front ≡ [] = cc (pops-opens h.pops) in
        (empty, pops-opens h.pops ∙ empty)

    -- the one below gets its answer
    kept_now : IsKept qs f.slot
    kept_now = ap is_some (answer_there qs f.slot f.node s h.pops.changes.here ∙ h.is)

    pub shut-hears-laid : (last : Frames N) → Heard f.slot new last → IsLaidOut qs all last
    shut-hears-laid last heard = record { kept = shuts-laid.kept; waits = frames-hear _ _ kept_now _ _ shuts-laid.waits heard }

    pub shut-hears : (last : Frames N) → Heard f.slot new last → opens_of qs last ≡ heard f.node a (below frames f h.pops.top.front)
    shut-hears last hears =
        cc (
          opens-hear _ _ f.node a (node_there qs f.slot f.node s h.pops.changes.here)
              (answer_there qs f.slot f.node s h.pops.changes.here ∙ h.is) _ _ shuts-laid.waits hears,
          pops-opens h.pops,
        )

  -- ---- it is kept with its answer, by what it asked and used
  pub record IsClosed (l : Linked) (frames new : Frames N) (f : Frame N) (qs : List (N × Slot V F)) (s : Slot V F) (a : Result V F) (all : Linked)
      : Type 0 where
    pub once : List Use
    pub each : HasEachOnce once (drop f.uses frames.uses.items)
    pub shut : IsShut l frames new f qs s a all (drop f.asked frames.asked.items) once

  module _ {l : Linked} {frames new : Frames N} {f : Frame N} {qs : List (N × Slot V F)} {s : Slot V F} {a : Result V F} {all : Linked}
      (h : IsClosed l frames new f qs s a all) where
    pub closes-laid : IsLaidOut qs all new
    closes-laid = shuts-laid h.shut

    closes-kept : Keeps (top_of frames f f.node) a (entries_of ps l) (entries_of qs all)
    closes-kept =
        let p = shuts-put h.shut in
        record { once = h.once; each = h.each; front = p.front; back = p.back; was = p.was; kept = p.now }

    pub closes-last : new.frames.items ≡ [] → Closes a (opens_of ps frames) (record { kept = entries_of ps l; opened = opens_of ps frames })
        (record { kept = entries_of qs all; opened = opens_of qs new })
    closes-last none =
        rw (top-opens _ _ h.shut.pops.top ∙ ap (λ st. top_of frames f f.node ∷ st) (shuts-last h.shut none).0) (closes-kept, (shuts-last h.shut none).1)

    pub hears-laid : (last : Frames N) → Heard f.slot new last → IsLaidOut qs all last
    hears-laid = shut-hears-laid h.shut

    pub closes-more : (last : Frames N) → Heard f.slot new last
        → Closes a (opens_of ps frames) (record { kept = entries_of ps l; opened = opens_of ps frames })
        (record { kept = entries_of qs all; opened = opens_of qs last })
    closes-more last hears = rw (top-opens _ _ h.shut.pops.top) (closes-kept, shut-hears h.shut last hears)

    pub may-lose : (last : Frames N) → SameFrames new last → MayLose (opens_of ps frames) (opens_of qs last)
    may-lose last same = rw (top-opens _ _ h.shut.pops.top) (inr (same-opens-in qs new last same ∙ pops-opens h.shut.pops))

    pub may-keep : MayKeep a (opens_of ps frames) (entries_of ps l) (entries_of qs all)
    may-keep = rw (top-opens _ _ h.shut.pops.top) (inr closes-kept)

  -- ---- it is kept as that of a number, by the root of nodes that are kept so and its use there
  module _ {l : Linked} {frames new : Frames N} {f : Frame N} {qs : List (N × Slot V F)} {s : Slot V F} {a : Result V F} {all : Linked} {i : ℕ}
      (w : Fold N (Result V F)) (j : ℕ) (root : node_at ps i ≡ Some w.root)
      (h : IsShut l frames new f qs s a all (i ∷ []) (w.entry j).uses) where
    named : nodes_at ps (i ∷ []) ≡ w.root ∷ []
    named = ap (λ o. with_first o []) root

    put-as : IsPut (entry_as w j a (top_of frames f f.node)) (entries_of ps l) (entries_of qs all)
    put-as = subst (λ ns. IsPut (record { node = f.node; answer = a; asked = ns; uses = (w.entry j).uses }) (entries_of ps l) (entries_of qs all)) named
        (shuts-put h)

    pub closes-as-last : new.frames.items ≡ [] → ClosesAs w j a true (opens_of ps frames) (record { kept = entries_of ps l; opened = opens_of ps frames })
        (record { kept = entries_of qs all; opened = opens_of qs new })
    closes-as-last none =
        rw (top-opens _ _ h.pops.top ∙ ap (λ st. top_of frames f f.node ∷ st) (shuts-last h none).0) (put-as, (shuts-last h none).1)

    pub closes-as-more : (last : Frames N) → Heard f.slot new last
        → ClosesAs w j a true (opens_of ps frames) (record { kept = entries_of ps l; opened = opens_of ps frames })
        (record { kept = entries_of qs all; opened = opens_of qs last })
    closes-as-more last hears = rw (top-opens _ _ h.pops.top) (put-as, shut-hears h last hears)

    pub closes-as-deaf : (last : Frames N) → SameFrames new last
        → ClosesAs w j a false (opens_of ps frames) (record { kept = entries_of ps l; opened = opens_of ps frames })
        (record { kept = entries_of qs all; opened = opens_of qs last })
    closes-as-deaf last same = rw (top-opens _ _ h.pops.top) (put-as, same-opens-in qs new last same ∙ pops-opens h.pops)

  -- ---- what keeping it requires
  pub keep-in : (l : Linked) (frames : Frames N) (f : Frame N) → AreLinked ps l → IsTop frames f → f.slot < length l.kept
  keep-in l frames f h t = omega (arith, slice_get_within ps f.slot (f.node, opened) t.there)

  pub keep-out : (l : Linked) (frames : Frames N) (f : Frame N) → AreLinked ps l → IsTop frames f → is_kept l.kept f.slot ≡ false
  keep-out l frames f h t = h.kept f.slot ∙ ap is_some (answer_there ps f.slot f.node opened t.there)

  pub keep-asks : (l : Linked) (frames : Frames N) (f : Frame N) → IsLaidOut ps l frames → (held : List ℕ) → held ≡ frames.asked.items
      → All (λ s. is_kept l.kept s ≡ true) (take (length held - f.asked) (drop f.asked held))
  keep-asks l frames f h held e =
      let K : ℕ → Type 0 = λ s. is_kept l.kept s ≡ true in
      let all : AllByRecursion K (drop f.asked frames.asked.items) =
      All-map (λ s k. h.kept.kept s ∙ k) (drop f.asked frames.asked.items) (All-drop (IsKept ps) f.asked frames.asked.items h.waits.asked) in
      subst (All K) (sym (take_rest held f.asked ∙ ap (drop f.asked) e)) (All-from_recursion K (drop f.asked frames.asked.items) all)
