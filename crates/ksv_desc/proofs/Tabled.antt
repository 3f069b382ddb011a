-- Names that were added to a table are there, each once.
use Rattle.std.proofs.Common.{◌≡◌, ℕ, zero, suc, ◌+◌, Bool, true, false, cond, ◌||◌, ◌&&◌, if◌then◌else◌, List, [], ◌∷◌, ◌++◌, length, Some, None, is_some}
use Rattle.std.proofs.Common.{slice_get, ◌⊎◌, inl, inr, refl, sym, ap, ◌∙◌, arith}
use Rattle.std.specs.List.{position_from, list_any, list_all}
use Rattle.std.specs.Str.{bytes_eq}
use Rattle.std.proofs.lemmas.Bool.{and_parts, and_from}
use Rattle.std.proofs.lemmas.Slice.Eq.{bytes_eq-Decides}
use Rattle.ksv_desc.specs.Names.{distinct_behind, number_in}
use Rattle.ksv_desc.specs.Names.{has_names, AreDistinct, IsTableOf}

-- whether a name is in a list
abbrev has : List (List ℕ) → List ℕ → Bool
has names w = list_any (bytes_eq w) names

pub same_is : (w : List ℕ) → bytes_eq w w ≡ true
same_is w = (bytes_eq-Decides w w).1 refl

-- a place is found where one element passes
pub found_any : {A : Type 0} (t : A → Bool) (i : ℕ) (xs : List A) → is_some (position_from t i xs) ≡ list_any t xs
found_any t i [] = refl
found_any {A = A} t i (x ∷ xs) = by_test (t x) (found_any t (i + 1) xs) where
  by_test : (b : Bool) → is_some (position_from t (i + 1) xs) ≡ list_any t xs → is_some (cond b (Some i) (position_from t (i + 1) xs)) ≡ (b || list_any t xs)
  by_test true later = refl
  by_test false later = later

all_by : {A : Type 0} (p q : A → Bool) (xs : List A) → ((x : A) → p x ≡ q x) → list_all p xs ≡ list_all q xs
all_by p q [] same = refl
all_by p q (x ∷ xs) same = ap (λ (b : Bool). b && list_all p xs) (same x) ∙ ap (λ (b : Bool). q x && b) (all_by p q xs same)

all_weaker : {A : Type 0} (p q : A → Bool) (xs : List A) → ((x : A) → p x ≡ true → q x ≡ true) → list_all p xs ≡ true → list_all q xs ≡ true
all_weaker p q [] weaker h = refl
all_weaker p q (x ∷ xs) weaker h =
    let hs = and_parts (p x) (list_all p xs) h in
    and_from (q x) (list_all q xs) (weaker x hs.0) (all_weaker p q xs weaker hs.1)

-- the table has a list's names where each is in it
has_each : (names words : List (List ℕ)) → list_all (has names) words ≡ true → has_names names words ≡ true
unfolding number_in
has_each names words h = all_by (λ w. is_some (number_in names w)) (has names) words (λ w. found_any (bytes_eq w) 0 names) ∙ h

any_front : {A : Type 0} (t : A → Bool) (xs ys : List A) → list_any t xs ≡ true → list_any t (xs ++ ys) ≡ true
any_front t [] ys h = absurd (cc)
any_front t (x ∷ xs) ys h = by_test (t x) h (any_front t xs ys) where
  by_test : (b : Bool) → (b || list_any t xs) ≡ true → (list_any t xs ≡ true → list_any t (xs ++ ys) ≡ true) → (b || list_any t (xs ++ ys)) ≡ true
  by_test true found later = refl
  by_test false found later = later found

any_last : {A : Type 0} (t : A → Bool) (xs : List A) (y : A) → t y ≡ true → list_any t (xs ++ y ∷ []) ≡ true
any_last t [] y h = ap (λ (b : Bool). b || false) h
any_last t (x ∷ xs) y h = by_test (t x) (any_last t xs y h) where
  by_test : (b : Bool) → list_any t (xs ++ y ∷ []) ≡ true → (b || list_any t (xs ++ y ∷ [])) ≡ true
  by_test true later = refl
  by_test false later = later

-- each name of a list is in it
has_own : (names : List (List ℕ)) → list_all (has names) names ≡ true
has_own [] = refl
has_own (w ∷ ws) =
    and_from (bytes_eq w w || has ws w) (list_all (has (w ∷ ws)) ws) (ap (λ (b : Bool). b || has ws w) (same_is w))
    (all_weaker (has ws) (has (w ∷ ws)) ws (λ x h. by_test (bytes_eq x w) (has ws x) h) (has_own ws)) where
      by_test : (b c : Bool) → c ≡ true → (b || c) ≡ true
      by_test true c h = refl
      by_test false c h = h

-- ---- names added

-- the table after one more name
abbrev one_more : List (List ℕ) → List ℕ → List (List ℕ)
one_more before w = if has before w then before else before ++ w ∷ []

kept_by_one : (before : List (List ℕ)) (w x : List ℕ) → has before x ≡ true → has (one_more before w) x ≡ true
kept_by_one before w x h = by_test (has before w) where
  by_test : (b : Bool) → has (if b then before else before ++ w ∷ []) x ≡ true
  by_test true = h
  by_test false = any_front (bytes_eq x) before (w ∷ []) h

added_by_one : (before : List (List ℕ)) (w : List ℕ) → has (one_more before w) w ≡ true
added_by_one before w = by_test (has before w) refl where
  by_test : (b : Bool) → has before w ≡ b → has (if b then before else before ++ w ∷ []) w ≡ true
  by_test true there = there
  by_test false absent = any_last (bytes_eq w) before w (same_is w)

kept : (before added : List (List ℕ)) (x : List ℕ) → has before x ≡ true → has (distinct_behind before added) x ≡ true
kept before [] x h = h
kept before (w ∷ ws) x h = kept (one_more before w) ws x (kept_by_one before w x h)

pub added_there : (before added : List (List ℕ)) → list_all (has (distinct_behind before added)) added ≡ true
added_there before [] = refl
added_there before (w ∷ ws) =
    and_from (has (distinct_behind (one_more before w) ws) w) (list_all (has (distinct_behind (one_more before w) ws)) ws)
    (kept (one_more before w) ws w (added_by_one before w)) (added_there (one_more before w) ws)

-- ---- each once

pub position_append : {A : Type 0} (t : A → Bool) (i k : ℕ) (xs ys : List A) → position_from t i xs ≡ Some k → position_from t i (xs ++ ys) ≡ Some k
position_append t i k [] ys h = absurd (cc)
position_append t i k (x ∷ xs) ys h = by_test (t x) h (position_append t (i + 1) k xs ys) where
  by_test : (b : Bool) → cond b (Some i) (position_from t (i + 1) xs) ≡ Some k
      → (position_from t (i + 1) xs ≡ Some k → position_from t (i + 1) (xs ++ ys) ≡ Some k) → cond b (Some i) (position_from t (i + 1) (xs ++ ys)) ≡ Some k
  by_test true found later = found
  by_test false found later = later found

pub position_last : {A : Type 0} (t : A → Bool) (i : ℕ) (xs : List A) (y : A) → list_any t xs ≡ false → t y ≡ true
    → position_from t i (xs ++ y ∷ []) ≡ Some (i + length xs)
position_last t i [] y none here = ap (λ (b : Bool). cond b (Some i) None) here ∙ ap Some (omega arith)
position_last t i (x ∷ xs) y none here = by_test (t x) none (λ h. position_last t (i + 1) xs y h here) where
  by_test : (b : Bool) → (b || list_any t xs) ≡ false → (list_any t xs ≡ false → position_from t (i + 1) (xs ++ y ∷ []) ≡ Some (i + 1 + length xs))
      → cond b (Some i) (position_from t (i + 1) (xs ++ y ∷ [])) ≡ Some (i + length (x ∷ xs))
  by_test true found later = absurd (cc)
  by_test false found later = later found ∙ ap Some (omega arith)

-- the element at a place of a list with one more
get_last : {A : Type 0} (xs : List A) (y : A) (k : ℕ) (w : A) → slice_get (xs ++ y ∷ []) k ≡ Some w → (slice_get xs k ≡ Some w) ⊎ ((k ≡ length xs) × (y ≡ w))
get_last [] y zero w h = inr (refl, cc)
get_last [] y (suc k) w h = absurd (cc)
get_last (x ∷ xs) y zero w h = inl h
get_last (x ∷ xs) y (suc k) w h = elim (get_last xs y k w h) [ inl there ↦ inl there | inr last ↦ inr (ap suc last.0, last.1) ]

distinct_by_one : (before : List (List ℕ)) (w : List ℕ) → AreDistinct before → AreDistinct (one_more before w)
unfolding number_in
distinct_by_one before w each = by_test (has before w) refl where
  last_is : has before w ≡ false → (k : ℕ) (v : List ℕ) → (slice_get before k ≡ Some v) ⊎ ((k ≡ length before) × (w ≡ v))
      → number_in (before ++ w ∷ []) v ≡ Some k
  last_is absent k v (inl there) = position_append (bytes_eq v) 0 k before (w ∷ []) (each k v there)
  last_is absent k v (inr last) =
      ap (λ (x : List ℕ). position_from (bytes_eq x) 0 (before ++ w ∷ [])) (sym last.1) ∙ position_last (bytes_eq w) 0 before w absent (same_is w)
      ∙ ap Some (omega arith)

  by_test : (b : Bool) → has before w ≡ b → AreDistinct (if b then before else before ++ w ∷ [])
  by_test true there = each
  by_test false absent = λ k v h. last_is absent k v (get_last before w k v h)

stays : (before added : List (List ℕ)) → AreDistinct before → AreDistinct (distinct_behind before added)
stays before [] each = each
stays before (w ∷ ws) each = stays (one_more before w) ws (distinct_by_one before w each)

pub is_table : (before added : List (List ℕ)) → IsTableOf before added
is_table before added = record {
  has_before = has_each (distinct_behind before added) before
      (all_weaker (has before) (has (distinct_behind before added)) before (kept before added) (has_own before));
  has_added = has_each (distinct_behind before added) added (added_there before added);
  stays_distinct = stays before added;
}
