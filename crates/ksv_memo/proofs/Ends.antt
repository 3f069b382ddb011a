-- What is kept ends by the reach of the engine.
use Rattle.ksv_memo.proofs.Common.{◌≡◌, ◌⊎◌, inl, inr, ℕ, zero, suc, ◌+◌, ◌-◌, ◌<◌, ◌≤◌, Bool, true, false, cond, List, [], ◌∷◌, length, length-append}
use Rattle.ksv_memo.proofs.Common.{Contains, refl, ◌∙◌, ap, arith, AllByRecursion, list_any, Decides-ltb, All-from_recursion, Use}
use Rattle.ksv_memo.proofs.Common.{Bytes, Change, Overwrite, Insert, Delete, Append, Makes, is_use_touched, numbers_from, pages_in, AreWithin, Meaning}
use Rattle.ksv_memo.proofs.Common.{IsLawful, on, tells, Entry, IsRight, All-map, All-both, AllEndBy, pages_to, Mark, IsMarked, Sweeps, entries_left}
use Rattle.std.proofs.Common.{◌/◌, min, length-take, length-drop}
use Rattle.std.proofs.lemmas.Bool.{cases_lt}
use Rattle.std.proofs.lemmas.List.Elements.{All-contains, Contains-append_cases}
use Rattle.ksv_bytes.specs.declared.uses.Use.TheVariants.{Reach, Size}
use Rattle.ksv_bytes.specs.Uses.{CanUse}
use Rattle.ksv_memo_links.specs.Touching.{pages_end, pages_of, is_size, farthest, end_at, ends_in}
use Rattle.ksv_memo_links.proofs.Members.{none_in, first_or_later}
use Rattle.ksv_memo.specs.Behind.{EndsBy}
use Rattle.ksv_memo.specs.Resting.{left_reach}
use Rattle.ksv_memo.specs.Sweep.{entries_with}
use Rattle.ksv_memo.proofs.Change.{eval_can}
use Rattle.ksv_memo.proofs.Forgetting.{stay-all, by_mark, stays-free}

-- ---- on the bytes on which it is right
can-end : (bytes : List ℕ) (u : Use) → CanUse bytes u → EndsBy (length bytes) u
can-end bytes Size h = tt
can-end _ _ h = h

pub right-ends : {N A : Type 0} (meaning : Meaning N A) → IsLawful meaning → (bytes : List ℕ) (es : List (Entry N A)) → IsRight (on meaning bytes) es
    → AllEndBy (length bytes) es
right-ends {N} {A} meaning law bytes es right =
    All-map (λ (e : Entry N A) is. All-map (λ u made. can-end bytes u
    (All-contains (CanUse bytes) (tells (on meaning bytes) [] made.1).uses u (All-from_recursion (CanUse bytes) (tells (on meaning bytes) [] made.1).uses
    (eval_can (on meaning bytes) (CanUse bytes) (law.can_use bytes) meaning.nodes [] made.1)) made.4)) e.uses is.made) es right.each

-- ---- so it is within its pages
numbers-few : (a n g : ℕ) → Contains (numbers_from a n) g → g < a + n
numbers-few a zero g c = absurd (none_in g c)
numbers-few a (suc n) g c = by (first_or_later a (numbers_from (a + 1) n) g c) (numbers-few (a + 1) n g)
  where
    by : (a ≡ g) ⊎ Contains (numbers_from (a + 1) n) g → (Contains (numbers_from (a + 1) n) g → g < a + 1 + n) → g < a + suc n
    by (inl e) later = omega arith
    by (inr k) later = omega (arith, later k)

use-pages : (place : ℕ) (u : Use) (g : ℕ) → EndsBy place u → Contains (pages_of u) g → g < pages_to place
use-pages place (Bytes f t) g h c = let lt = h.0 in let le = h.1 in let n = numbers-few (f / 64) (pages_end f t - f / 64) g c in omega arith
use-pages place (Reach t) g h c = absurd (none_in g c)
use-pages place Size g h c = absurd (none_in g c)

all-pages : (place : ℕ) (us : List Use) → AllByRecursion (EndsBy place) us → (g : ℕ) → Contains (pages_in us) g → g < pages_to place
all-pages place [] h g c = absurd (none_in g c)
all-pages place (u ∷ us) h g c = by (Contains-append_cases (pages_of u) (pages_in us) g c) (all-pages place us h.1 g)
  where
    by : Contains (pages_of u) g ⊎ Contains (pages_in us) g → (Contains (pages_in us) g → g < pages_to place) → g < pages_to place
    by (inl k) later = use-pages place u g h.0 k
    by (inr k) later = later k

farthest-by : (place : ℕ) (us : List Use) → AllByRecursion (EndsBy place) us → farthest us ≤ place
farthest-by place [] h = omega arith
farthest-by place (Bytes f t ∷ us) h = omega (arith, farthest-by place us h.1)
farthest-by place (Reach t ∷ us) h = let le : t ≤ place = h.0 in omega (arith, farthest-by place us h.1)
farthest-by place (Size ∷ us) h = omega (arith, farthest-by place us h.1)

one-in : (x y : ℕ) → Contains (x ∷ []) y → x ≡ y
one-in x y c = elim (first_or_later x [] y c) [
  | inl e ↦ e
  | inr k ↦ absurd (none_in y k)
]

end-by : (place f : ℕ) → f ≤ place → (l : ℕ) → Contains (end_at f) l → l ≤ pages_to place
end-by place zero le l c = absurd (none_in l c)
end-by place (suc f) le l c = omega (arith, one-in (f / 64 + 1) l c)

all-ends : (place : ℕ) (us : List Use) → AllByRecursion (EndsBy place) us → (l : ℕ) → Contains (ends_in us) l → l ≤ pages_to place
all-ends place us h l = by (list_any is_size us)
  where
    by : (b : Bool) → Contains (cond b (0 ∷ []) (end_at (farthest us))) l → l ≤ pages_to place
    by true c = omega (arith, one-in 0 l c)
    by false c = end-by place (farthest us) (farthest-by place us h) l c

pub ends-within : {N A : Type 0} (place : ℕ) (es : List (Entry N A)) → AllEndBy place es → AllByRecursion (λ e. AreWithin (pages_to place) e.uses) es
ends-within {N} {A} place es h = All-map (λ (e : Entry N A) all. record { met = all-pages place e.uses all; ends = all-ends place e.uses all }) es h

-- ---- after an edit
untouched-insert : (reach at n : ℕ) (u : Use) → EndsBy reach u → is_use_touched (Insert at n) u ≡ false → EndsBy (min reach at) u
untouched-insert reach at n (Bytes f t) h e = by (cases_lt at t)
  where
    by : (at < t) ⊎ (t ≤ at) → EndsBy (min reach at) (Bytes f t)
    by (inl lt) = let yes = (Decides-ltb at t).1 lt in absurd (cc)
    by (inr le) = (h.0, omega arith)
untouched-insert reach at n (Reach t) h e = by (cases_lt at t)
  where
    by : (at < t) ⊎ (t ≤ at) → t ≤ min reach at
    by (inl lt) = let yes = (Decides-ltb at t).1 lt in absurd (cc)
    by (inr le) = let l : t ≤ reach = h in omega arith
untouched-insert reach at n Size h e = tt

untouched-ends : (change : Change) (reach : ℕ) (u : Use) → EndsBy reach u → is_use_touched change u ≡ false → EndsBy (left_reach change reach) u
untouched-ends (Overwrite at n) reach u h e = h
untouched-ends (Insert at n) reach u h e = untouched-insert reach at n u h e
untouched-ends (Delete at n) reach u h e = untouched-insert reach at n u h (same u ∙ e)
  where
    same : (u : Use) → is_use_touched (Insert at n) u ≡ is_use_touched (Delete at n) u
    same (Bytes f t) = refl
    same (Reach t) = refl
    same Size = refl
untouched-ends Append reach u h e = h

-- the marks of entries that all end by the reach
ends-left : {N A : Type 0} (change : Change) (reach : ℕ) (all ks : List (Mark N A)) → AllByRecursion (IsMarked change all) ks → AllEndBy reach (entries_with ks)
    → AllEndBy (left_reach change reach) (entries_left ks)
ends-left {N} {A} change reach all ks marked h = stay-all (λ (e : Entry N A). AllByRecursion (EndsBy (left_reach change reach)) e.uses) ks
    (All-both (IsMarked change all) (λ k. AllByRecursion (EndsBy reach) k.entry.uses)
    (λ k. k.goes ≡ false → AllByRecursion (EndsBy (left_reach change reach)) k.entry.uses)
    (λ k m ends e. All-both (EndsBy reach) (λ u. is_use_touched change u ≡ false) (EndsBy (left_reach change reach)) (untouched-ends change reach) k.entry.uses
    ends (stays-free k m e)) ks marked (by_mark (λ (e : Entry N A). AllByRecursion (EndsBy reach) e.uses) ks h))

pub left-ends : {N A : Type 0} (change : Change) (pages reach : ℕ) (es all : List (Entry N A)) (looked : ℕ) → Sweeps change pages es all looked
    → AllEndBy reach es → AllEndBy (left_reach change reach) all
left-ends {N} {A} change pages reach es all looked sweeps h =
    rw sweeps.stays (ends-left change reach sweeps.marks sweeps.marks sweeps.marked (rw sweeps.entries h))

-- and the reach is within the file again
pub reach-fits : (change : Change) (before after : List ℕ) (reach : ℕ) → Makes change before after → reach ≤ length before
    → left_reach change reach ≤ length after
reach-fits (Overwrite at n) before after reach made le = omega (
  arith,
  ap length made.3,
  made.2,
  length-append {A = ℕ},
  length-take {A = ℕ},
  length-drop {A = ℕ},
)
reach-fits (Insert at n) before after reach made le = omega (arith, ap length made.3, made.2, length-append {A = ℕ}, length-take {A = ℕ}, length-drop {A = ℕ})
reach-fits (Delete at n) before after reach made le = omega (arith, ap length made.1, made.0, length-append {A = ℕ}, length-take {A = ℕ}, length-drop {A = ℕ})
reach-fits Append before after reach made le = omega (arith, ap length made.1, length-append {A = ℕ})
