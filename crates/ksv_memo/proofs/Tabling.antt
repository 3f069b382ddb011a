-- What a look-up says of the kept and the open nodes.
use Rattle.ksv_memo.proofs.Common.{or_parts, ◌≡◌, ◌≢◌, ℕ, ◌+◌, ◌≤◌, arith, Bool, true, false, List, [], ◌∷◌, inl, inr, reverse, length, Some, None, is_some}
use Rattle.ksv_memo.proofs.Common.{refl, sym, ◌∙◌, ap, subst, Result, slice_get, option_map, slice_get-map, slice_get_within, IsEquivalence, AllByRecursion}
use Rattle.ksv_memo.proofs.Common.{list_any, IsDistinct, numbers_from, Linked, Slot, Frames, answer_in, answer_of, answer_at, Entry, slots_of, node_at}
use Rattle.ksv_memo.proofs.Common.{nodes_at, IsOpen, IsKept, entry_with, entry_at, entries_of, opens_of, AreLinked, AreFrames, IsLaidOut, IsVacant, Heard}
use Rattle.ksv_memo.proofs.Common.{Framed, Replies, Opens}
use Rattle.std.specs.Map.{keys_of}
use Rattle.ksv_memo_links.specs.Links.{Grows}
use Rattle.ksv_memo_rules.specs.declared.replies.Slot.TheVariants.{Empty as emptied, Open as opened}
use Rattle.ksv_memo.specs.declared.slots.Known.{Known}
use Rattle.ksv_memo.specs.declared.slots.Known.TheVariants.{New, Empty, Open, Kept}
use Rattle.ksv_memo.specs.Moves.{Knows, IsTheSlot}
use Rattle.ksv_memo.specs.Nodes.{Nodes, IsEntry, HasNoEntry, KeepsNode}
use Rattle.ksv_memo.proofs.Finding.{slot_there, node_there, answer_there}
use Rattle.ksv_memo.proofs.Laying.{some-of, entries_at-same, All-numbers}
use Rattle.ksv_memo.proofs.Changing.{ChangesAt, none_past, links-stay, entries-stay, frames-push, frames-hear, opens-push, opens-hear}
use Rattle.ksv_memo.proofs.Knowing.{entry_of, no_entry, no_open, some_open, none_at, not_other}

-- a look-up leaves the slots as they were
pub looked-laid : {N V F : Type 0} (ps qs : List (N × Slot V F)) (l : Linked) (frames : Frames N) → qs ≡ ps → IsLaidOut ps l frames → IsLaidOut qs l frames
looked-laid ps qs l frames same laid = rw same laid

pub looked-view : {N V F : Type 0} (ps qs : List (N × Slot V F)) (l : Linked) (frames : Frames N) (v : Nodes N (Result V F)) → qs ≡ ps
    → record { kept = entries_of ps l; opened = opens_of ps frames } ≡ v → record { kept = entries_of qs l; opened = opens_of qs frames } ≡ v
looked-view ps qs l frames v same is = (λ i. record { kept = entries_of (same i) l; opened = opens_of (same i) frames }) ∙ is

module _ {N V F : Type 0} (eq : N → N → Bool) (ps : List (N × Slot V F)) (l : Linked) (frames : Frames N) (kept : AreLinked ps l) (waits : AreFrames ps frames)
    (n : N) where
  -- what is known of a kept node
  pub record IsFound (i : ℕ) : Type 0 where
    pub entry : Entry N (Result V F)
    pub is : IsEntry eq (entries_of ps l) n entry
    pub node : node_at ps i ≡ Some entry.node
    pub answer : answer_at (slots_of ps) i ≡ Some entry.answer

  pub found : eq n n ≡ true → (i : ℕ) → Knows eq ps n (Kept i) → IsFound i
  found itself i h =
      let node : node_at ps i ≡ Some n = node_there ps i n h.0.0 h.0.1 in
      let one : (a : Result V F) × (answer_at (slots_of ps) i ≡ Some a) = some-of (answer_at (slots_of ps) i) h.1 in
      let e = entry_of ps l i n one.0 (slice_get_within ps i (n, h.0.0) h.0.1) node one.1 in
      record {
        entry = e.0;
        is = record { there = e.1; passes = cc };
        node = cc node;
        answer = cc;
      }

  -- a slot that keeps nothing isn't that of a kept node
  apart_kept : (i : ℕ) (m : N) (s : Slot V F) → slice_get ps i ≡ Some (m, s) → answer_in s ≡ None → (j : ℕ) → IsKept ps j → j ≢ i
  apart_kept i m s there none j k same = let now : answer_at (slots_of ps) j ≡ None = cc (answer_there ps i m s there) in
      let no : is_some (answer_at (slots_of ps) j) ≡ false = ap is_some now in cc

  apart_open : (i : ℕ) (m : N) → slice_get ps i ≡ Some (m, emptied) → (j : ℕ) → IsOpen ps j → j ≢ i
  apart_open i m there j o same = let now : Some emptied ≡ Some opened = sym (slot_there ps i m emptied there) ∙ ap (slice_get (slots_of ps)) (sym same)
      ∙ o in cc

  -- a node without a slot is neither kept nor open
  pub new_out : Knows eq ps n New → HasNoEntry eq (entries_of ps l) n
  new_out h = no_entry ps l (eq n) (λ j m k e. none_at (eq n) ps h j m e)

  pub new_free : Knows eq ps n New → list_any (λ o. eq n o.node) (opens_of ps frames) ≡ false
  new_free h = no_open ps (eq n) (λ j m o e. none_at (eq n) ps h j m e) (reverse frames.frames.items) frames.asked.items frames.uses.items waits.waits

  module _ (laws : IsEquivalence eq) (unique : IsDistinct eq (keys_of ps)) where
    slot_out : (i : ℕ) (s : Slot V F) → IsTheSlot ps n i s → answer_in s ≡ None → HasNoEntry eq (entries_of ps l) n
    slot_out i s at none =
        no_entry ps l (eq n) (λ j m k e. not_other eq laws ps unique n i n (node_there ps i n s at) (laws.refl n) j m (apart_kept i n s at none j k) e)

    -- nor is one with an empty slot
    pub empty_out : (i : ℕ) → Knows eq ps n (Empty i) → HasNoEntry eq (entries_of ps l) n
    empty_out i at = slot_out i emptied at refl

    pub empty_free : (i : ℕ) → Knows eq ps n (Empty i) → list_any (λ o. eq n o.node) (opens_of ps frames) ≡ false
    empty_free i at = no_open ps (eq n)
        (λ j m o e. not_other eq laws ps unique n i n (node_there ps i n emptied at) (laws.refl n) j m (apart_open i n at j o) e)
        (reverse frames.frames.items) frames.asked.items frames.uses.items waits.waits

    -- nor is any that a look-up doesn't find kept
    pub not_kept : (k : Known) → Knows eq ps n k → ((i : ℕ) → k ≡ Kept i → ⊥) → HasNoEntry eq (entries_of ps l) n
    not_kept New h other = new_out h
    not_kept (Empty i) h other = slot_out i emptied h refl
    not_kept Open (i, at) other = slot_out i opened at refl
    not_kept (Kept i) h other = absurd (other i refl)

  -- an open node waits
  pub open_waits : eq n n ≡ true → Knows eq ps n Open → list_any (λ o. eq n o.node) (opens_of ps frames) ≡ true
  open_waits itself (i, at) = some_open ps (eq n) (reverse frames.frames.items) frames.asked.items frames.uses.items i n
      (waits.all i (slot_there ps i n opened at)) (node_there ps i n opened at) itself

-- a node isn't kept and not kept
pub keeps_or_not : {N A : Type 0} (eq : N → N → Bool) (es : List (Entry N A)) (n : N) → KeepsNode eq es n → HasNoEntry eq es n → ⊥
keeps_or_not eq [] n h none = h.1.there
keeps_or_not eq (x ∷ es) n h none = elim h.1.there [
  | inl same ↦ let yes : eq n x.node ≡ true = ap (λ e. eq n e.node) same ∙ h.1.passes in absurd (cc)
  | inr more ↦ keeps_or_not eq es n (h.0, record { there = more; passes = h.1.passes }) (or_parts _ _ none).1
]

-- ---- the moves of the table
module _ {N V F : Type 0} (eq : N → N → Bool) (ps : List (N × Slot V F)) (l : Linked) (frames : Frames N) (laid : IsLaidOut ps l frames) (n : N) where
  -- a kept answer is heard
  pub hears : (i : ℕ) → Knows eq ps n (Kept i) → (new : Frames N) → Heard i frames new → IsLaidOut ps l new
  hears i knows new h = record { kept = laid.kept; waits = frames-hear _ _ knows.1 _ _ laid.waits h }

  pub replies : eq n n ≡ true → (i : ℕ) → Knows eq ps n (Kept i) → (new : Frames N) → Heard i frames new
      → Replies eq n (record { kept = entries_of ps l; opened = opens_of ps frames }) (record { kept = entries_of ps l; opened = opens_of ps new })
  replies itself i knows new h =
      let one = found eq _ _ _ laid.kept laid.waits n itself _ knows in
      record {
        entry = one.entry;
        is = one.is;
        kept = refl;
        opened = opens-hear _ _ one.entry.node one.entry.answer one.node one.answer _ _ laid.waits
            h;
      }

  -- a node is opened in a slot of its own
  module _ (qs : List (N × Slot V F)) (i : ℕ) (m : N) (changes : ChangesAt ps qs i m opened) (none : answer_at (slots_of ps) i ≡ None) (free : IsOpen ps i → ⊥)
      (new : Frames N) (framed : Framed i m frames new) where
    pub opens-laid : length qs ≤ length l.kept → IsLaidOut qs l new
    opens-laid le = record {
      kept = links-stay _ _ _ _ _ changes none refl _ laid.kept le;
      waits = frames-push _ _ _ _ _ changes none refl free _ _
          laid.waits framed;
    }

    pub opens-more : (more : ℕ) → length qs ≡ length ps + more → AllByRecursion (λ j. entry_at qs l j ≡ None) (numbers_from (length ps) more) → eq n m ≡ true
        → HasNoEntry eq (entries_of ps l) n → list_any (λ o. eq n o.node) (opens_of ps frames) ≡ false
        → Opens eq n (record { kept = entries_of ps l; opened = opens_of ps frames }) (record { kept = entries_of qs l; opened = opens_of qs new })
    opens-more more count new_ones passes out apart = record {
      node = m;
      passes = passes;
      out = out;
      free = apart;
      kept = entries-stay _ _ _ _ _ changes none refl _ laid.kept more count new_ones;
      opened = opens-push _ _ _ _ _ changes none _ _ laid.waits framed;
    }

  -- a slot with nothing in it
  pub vacant_none : (i : ℕ) → IsVacant ps i → answer_at (slots_of ps) i ≡ None
  vacant_none i at = answer_there ps i at.0 emptied at.1

  pub vacant_closed : (i : ℕ) → IsVacant ps i → IsOpen ps i → ⊥
  vacant_closed i at o = let now : Some emptied ≡ Some opened = sym (slot_there ps i at.0 emptied at.1) ∙ o in cc

  -- an empty slot
  pub empty_none : (i : ℕ) (at : IsTheSlot ps n i emptied) → answer_at (slots_of ps) i ≡ None
  empty_none i at = answer_there ps i n emptied at

  pub empty_closed : (i : ℕ) (at : IsTheSlot ps n i emptied) → IsOpen ps i → ⊥
  empty_closed i at o = let now : Some emptied ≡ Some opened = sym (slot_there ps i n emptied at) ∙ o in cc

  -- the slot after the last
  pub past_none : answer_at (slots_of ps) (length ps) ≡ None
  past_none = ap answer_of (slice_get-map (λ p. p.1) ps (length ps) ∙ ap (option_map (λ p. p.1)) (none_past ps))

  pub past_closed : IsOpen ps (length ps) → ⊥
  past_closed o = let now : None ≡ Some opened = sym (slice_get-map (λ p. p.1) ps (length ps) ∙ ap (option_map (λ p. p.1)) (none_past ps)) ∙ o in cc

-- ---- more slots for links
module _ {N V F : Type 0} (ps : List (N × Slot V F)) (l m : Linked) (h : AreLinked ps l) (g : Grows l m) where
  pub grown-links : AreLinked ps m
  grown-links = record {
    kept = λ i. g.kept.each i ∙ h.kept i;
    asked = λ i k. subst (AllByRecursion (IsKept ps)) (sym (g.asked.each i)) (h.asked i k);
    idle = g.waits ∙ h.idle;
    slots = (omega arith);
  }

  pub grown-entries : entries_of ps m ≡ entries_of ps l
  grown-entries = entries_at-same ps ps l m (numbers_from 0 (length ps))
      (All-numbers (λ i. entry_at ps m i ≡ entry_at ps l i) 0 (length ps)
      (λ i le lt. (λ j. entry_with (node_at ps i) (answer_at (slots_of ps) i) (nodes_at ps (g.asked.each i j)) (g.uses.each i j))))
