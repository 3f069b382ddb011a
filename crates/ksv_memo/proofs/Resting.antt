-- Frames where no node is open, and a table with nothing in it.
use Rattle.ksv_memo.proofs.Common.{◌≡◌, ℕ, false, List, [], ◌∷◌, Some, None, slice_get, reverse, sym, ◌∙◌, ap, subst, arith, AllByRecursion, Slot}
use Rattle.ksv_memo.proofs.Common.{Linked, Frames, slots_of, node_at, IsKept, IsOpen, opens_in, opens_of}
use Rattle.ksv_memo.proofs.Common.{AreLinked, AreFrames, IsLaidOut}
use Rattle.std.proofs.lemmas.List.{get_or_past}
use Rattle.ksv_memo.proofs.Knowing.{some-frames}
use Rattle.ksv_memo.proofs.Changing.{frames_nodes}

module _ {N V F : Type 0} (ps qs : List (N × Slot V F)) (opens : (i : ℕ) → IsOpen qs i → IsOpen ps i) (frames none : Frames N) (h : AreFrames ps frames)
    (empty : opens_of ps frames ≡ []) (same : none.frames ≡ frames.frames) where
  nothing : reverse frames.frames.items ≡ []
  nothing = some-frames ps _ frames.asked.items frames.uses.items (frames_nodes _ _ h) empty

  pub no-frames : none.asked.items ≡ [] → AreFrames qs none
  no-frames cleared =
      let now : reverse none.frames.items ≡ [] = cc nothing in
      let was : (i : ℕ) → IsOpen ps i → ⊥ = λ i o. rw nothing at (h.all i o) in
      record {
        waits = subst (AllByRecursion (λ f. IsOpen qs f.slot)) (sym now) tt;
        nodes = subst (AllByRecursion (λ f. node_at qs f.slot ≡ Some f.node)) (sym now) tt;
        all = λ i o. absurd (was i (opens i o));
        once = rw now tt;
        asked = subst (AllByRecursion (IsKept qs)) (sym cleared) tt;
        nested = rw now tt;
      }

  pub no-opens : opens_of qs none ≡ []
  no-opens = ap (λ fs. opens_in qs fs none.asked.items none.uses.items) (ap (λ v. reverse v.items) same ∙ nothing)

-- ---- an empty table
module _ {N V F : Type 0} where
  none_linked : (ps : List (N × Slot V F)) (l : Linked) → ps ≡ [] → l.kept ≡ [] → l.waits ≡ [] → AreLinked ps l
  none_linked (p ∷ ps) l empty kept waits = absurd (cc)
  none_linked [] l empty kept waits = record {
    kept = λ i. cc (get_or_past [] i false (omega arith));
    asked = λ i k. absurd (cc);
    idle = waits;
    slots = omega arith;
  }

  none_framed : (ps : List (N × Slot V F)) (frames : Frames N) → ps ≡ [] → frames.frames.items ≡ [] → frames.asked.items ≡ [] → AreFrames ps frames
  none_framed ps frames empty none cleared =
      let now : reverse frames.frames.items ≡ [] = ap reverse none in
      record {
        waits = subst (AllByRecursion (λ f. IsOpen ps f.slot)) (sym now) tt;
        nodes = subst (AllByRecursion (λ f. node_at ps f.slot ≡ Some f.node)) (sym now) tt;
        all = λ i o. let out : slice_get (slots_of ps) i ≡ None = ap (λ qs. slice_get (slots_of qs) i) empty in absurd (cc);
        once = rw now tt;
        asked = subst (AllByRecursion (IsKept ps)) (sym cleared) tt;
        nested = rw now tt;
      }

  pub none-laid : (ps : List (N × Slot V F)) (l : Linked) (frames : Frames N) → ps ≡ [] → l.kept ≡ [] → l.waits ≡ [] → frames.frames.items ≡ []
      → frames.asked.items ≡ [] → IsLaidOut ps l frames
  none-laid ps l frames empty kept waits none cleared = record { kept = none_linked ps l empty kept waits; waits = none_framed _ _ empty none cleared }
