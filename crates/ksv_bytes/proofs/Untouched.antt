-- What a change doesn't touch is the same before and after it.
use Rattle.std.proofs.Common.{◌≡◌, refl, false, nat_lt, ℕ, ◌+◌, ◌-◌, ◌<◌, ◌≤◌, List, ◌++◌, length, take, drop, ap, ◌∙◌, sym, subst, arith, append_assoc, inl}
use Rattle.std.proofs.Common.{inr}
use Rattle.std.specs.Bool.{Decides}
use Rattle.std.proofs.lemmas.Bool.{cases_lt}
use Rattle.std.proofs.lemmas.Bool.Decides.{Decides-and, Decides-ltb, not_from_Decides}
use Rattle.std.proofs.lemmas.Grind.{common_steps}
use Rattle.std.proofs.lemmas.List.{drop-take, take-append-le, take-append-drop}
use Rattle.std.proofs.lemmas.Slice.{drop-append-drop}
use Rattle.std.specs.Prelude.{slice_range}
use Rattle.ksv_bytes.specs.declared.uses.Use.{Use}
use Rattle.ksv_bytes.specs.declared.uses.Use.TheVariants.{Bytes, Reach, Size}
use Rattle.ksv_bytes.specs.declared.uses.Change.{Change}
use Rattle.ksv_bytes.specs.declared.uses.Change.TheVariants.{Overwrite, Insert, Delete, Append}
use Rattle.ksv_bytes.specs.Uses.{AgreeOn, Touches, Keeps, is_use_touched}

-- a range of bytes lies in the bytes up to its end
range-front : (bytes : List ℕ) (from to : ℕ) → from < to → slice_range bytes from to ≡ drop from (take to bytes)
range-front bytes from to lt = let eq : to ≡ from + (to - from) = omega arith in sym (ap (λ k. drop from (take k bytes)) eq ∙ drop-take from (to - from) bytes)

-- the first bytes of a list, after which anything may stand
front-same : (bytes more : List ℕ) (at to : ℕ) → to ≤ at → at ≤ length bytes → take to (take at bytes ++ more) ≡ take to bytes
front-same bytes more at to le fits =
    let enough : to ≤ length (take at bytes) = grind (arith, common_steps) in
    take-append-le to (take at bytes) more enough
    ∙ sym (take-append-le to (take at bytes) (drop at bytes) enough)
    ∙ ap (take to) (take-append-drop at bytes)

-- what ends at or before the place of an edit
front-kept : (bytes more : List ℕ) (at from to : ℕ) → from < to → to ≤ at → at ≤ length bytes
    → slice_range (take at bytes ++ more) from to ≡ slice_range bytes from to
front-kept bytes more at from to lt le fits =
    range-front (take at bytes ++ more) from to lt ∙ ap (drop from) (front-same bytes more at to le fits) ∙ sym (range-front bytes from to lt)

-- what begins at or after the end of an overwrite
behind-kept : (bytes new : List ℕ) (at n from to : ℕ) → length new ≡ n → at + n ≤ length bytes → at + n ≤ from
    → slice_range (take at bytes ++ new ++ drop (at + n) bytes) from to ≡ slice_range bytes from to
behind-kept bytes new at n from to len fits le =
    let long : length (take at bytes ++ new) ≡ at + n = grind (arith, common_steps) in
    ap (take (to - from)) (drop-append-drop (at + n) bytes (take at bytes ++ new) from le long)

overwrite-kept : (bytes new : List ℕ) (at n from to : ℕ) → from < to → length new ≡ n → at + n ≤ length bytes → ((from < at + n) × (at < to) → ⊥)
    → slice_range (take at bytes ++ new ++ drop (at + n) bytes) from to ≡ slice_range bytes from to
overwrite-kept bytes new at n from to lt len fits apart = elim (cases_lt at to) [
  | inl before ↦ behind-kept bytes new at n from to len fits
      (elim (cases_lt from (at + n)) [ inl inside ↦ absurd (apart (inside, before)) | inr behind ↦ behind ])
  | inr front ↦ ap (λ xs. slice_range xs from to) (append_assoc (take at bytes) new (drop (at + n) bytes))
      ∙ front-kept bytes (new ++ drop (at + n) bytes) at from to lt front (let le : at ≤ length bytes = omega arith in le)
]

-- what is not below is at least as large
not-behind : (at to : ℕ) → (at < to → ⊥) → to ≤ at
not-behind at to apart = elim (cases_lt at to) [ inl lt ↦ absurd (apart lt) | inr le ↦ le ]

-- the length after an overwrite, and what is reached where bytes stay in front of a place
overwrite-length : (bytes new : List ℕ) (at n : ℕ) → length new ≡ n → at + n ≤ length bytes
    → length (take at bytes ++ new ++ drop (at + n) bytes) ≡ length bytes
overwrite-length bytes new at n len fits = grind (arith, common_steps)

front-reaches : (bytes more : List ℕ) (at to : ℕ) → to ≤ at → at ≤ length bytes → to ≤ length (take at bytes ++ more)
front-reaches bytes more at to le fits = grind (arith, common_steps)

-- the front of an edit that shifts what comes after its place
shift-bytes : (before after more : List ℕ) (at from to : ℕ) → after ≡ take at before ++ more → at ≤ length before → from < to → to ≤ length before
    → (at < to → ⊥) → AgreeOn before after (Bytes from to)
shift-bytes before after more at from to is fits lt held apart =
    let P : List ℕ → Type 0 = λ xs. AgreeOn before xs (Bytes from to) in
    let le : to ≤ at = not-behind at to apart in
    subst P (sym is) (held, front-reaches before more at to le fits, front-kept before more at from to lt le fits)

shift-reach : (before after more : List ℕ) (at to : ℕ) → after ≡ take at before ++ more → at ≤ length before → to ≤ length before → (at < to → ⊥)
    → AgreeOn before after (Reach to)
shift-reach before after more at to is fits held apart =
    let P : List ℕ → Type 0 = λ xs. AgreeOn before xs (Reach to) in
    subst P (sym is) (held, front-reaches before more at to (not-behind at to apart) fits)

append-range : (bytes new : List ℕ) (from to : ℕ) → from < to → to ≤ length bytes → slice_range (bytes ++ new) from to ≡ slice_range bytes from to
append-range bytes new from to lt held = range-front (bytes ++ new) from to lt ∙ ap (drop from) (take-append-le to bytes new held)
    ∙ sym (range-front bytes from to lt)

append-reaches : (bytes new : List ℕ) (to : ℕ) → to ≤ length bytes → to ≤ length (bytes ++ new)
append-reaches bytes new to held = grind (arith, common_steps)

-- the law of what a change touches
pub untouched-keeps : (change : Change) (used : Use) → (Touches change used → ⊥) → Keeps change used
untouched-keeps (Overwrite at n) (Bytes from to) apart before after (new, len, fits, is) can =
    let P : List ℕ → Type 0 = λ xs. AgreeOn before xs (Bytes from to) in
    let long : length (take at before ++ new ++ drop (at + n) before) ≡ length before = overwrite-length before new at n len fits in
    let held : to ≤ length before = can.1 in
    subst P (sym is) (held, omega arith, overwrite-kept before new at n from to can.0 len fits apart)
untouched-keeps (Overwrite at n) (Reach to) apart before after (new, len, fits, is) can =
    let P : List ℕ → Type 0 = λ xs. AgreeOn before xs (Reach to) in
    let long : length (take at before ++ new ++ drop (at + n) before) ≡ length before = overwrite-length before new at n len fits in
    subst P (sym is) (can, omega arith)
untouched-keeps (Overwrite at n) Size apart before after (new, len, fits, is) can = ap length is ∙ overwrite-length before new at n len fits
untouched-keeps (Insert at n) (Bytes from to) apart before after (new, len, fits, is) can =
    shift-bytes before after (new ++ drop at before) at from to (is ∙ append_assoc (take at before) new (drop at before)) fits can.0 can.1 apart
untouched-keeps (Insert at n) (Reach to) apart before after (new, len, fits, is) can =
    shift-reach before after (new ++ drop at before) at to (is ∙ append_assoc (take at before) new (drop at before)) fits can apart
untouched-keeps (Insert at n) Size apart before after edit can = absurd (apart tt)
untouched-keeps (Delete at n) (Bytes from to) apart before after (fits, is) can =
    shift-bytes before after (drop (at + n) before) at from to is (omega arith) can.0 can.1 apart
untouched-keeps (Delete at n) (Reach to) apart before after (fits, is) can = shift-reach before after (drop (at + n) before) at to is (omega arith) can apart
untouched-keeps (Delete at n) Size apart before after edit can = absurd (apart tt)
untouched-keeps Append (Bytes from to) apart before after (new, is) can =
    let P : List ℕ → Type 0 = λ xs. AgreeOn before xs (Bytes from to) in
    subst P (sym is) (can.1, append-reaches before new to can.1, append-range before new from to can.0 can.1)
untouched-keeps Append (Reach to) apart before after (new, is) can =
    let P : List ℕ → Type 0 = λ xs. AgreeOn before xs (Reach to) in
    subst P (sym is) (can, append-reaches before new to can)
untouched-keeps Append Size apart before after edit can = absurd (apart tt)

-- the test tells whether a change touches a use
pub use_touched : (change : Change) (used : Use) → Decides (is_use_touched change used) (Touches change used)
use_touched (Overwrite at n) (Bytes from to) = Decides-and (nat_lt from (at + n)) (nat_lt at to) (Decides-ltb from (at + n)) (Decides-ltb at to)
use_touched (Overwrite at n) (Reach to) = (λ e. cc, λ h. absurd h)
use_touched (Overwrite at n) Size = (λ e. cc, λ h. absurd h)
use_touched (Insert at n) (Bytes from to) = Decides-ltb at to
use_touched (Insert at n) (Reach to) = Decides-ltb at to
use_touched (Insert at n) Size = (λ e. tt, λ h. refl)
use_touched (Delete at n) (Bytes from to) = Decides-ltb at to
use_touched (Delete at n) (Reach to) = Decides-ltb at to
use_touched (Delete at n) Size = (λ e. tt, λ h. refl)
use_touched Append (Bytes from to) = (λ e. cc, λ h. absurd h)
use_touched Append (Reach to) = (λ e. cc, λ h. absurd h)
use_touched Append Size = (λ e. tt, λ h. refl)

pub untouched_use : (change : Change) (used : Use) → is_use_touched change used ≡ false → Touches change used → ⊥
untouched_use change used e = not_from_Decides (is_use_touched change used) (use_touched change used) e

-- where the test fails, the use is kept
pub failed_keeps : (change : Change) (used : Use) → is_use_touched change used ≡ false → Keeps change used
failed_keeps change used e = untouched-keeps change used (untouched_use change used e)
