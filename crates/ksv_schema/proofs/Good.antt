-- A reading that is good: without faults there is a value, and something holds for it. One lemma for each way to put readings
-- together.
use Rattle.ksv_schema.proofs.Common.{◌≡◌, ℕ, zero, suc, ◌+◌, Bool, true, false, cond, List, [], ◌∷◌, ◌++◌, length, sym, ap, subst, ◌∙◌, refl, Option, Some}
use Rattle.ksv_schema.proofs.Common.{None, not, ◌&&◌, is_some, option_and_then, slice_get, option_map_or, list_all, and_parts, Pair, text_of, mapping_of, ◌>>=◌}
use Rattle.ksv_schema.proofs.Common.{Each, IfAny, IsThere, Fault, fault_if, missing_key, bad_value, Reading, made, both, each, each_from, must}
use Rattle.std.specs.Prelude.{option_map, map}
use Rattle.std.proofs.lemmas.Bool.{and_from}
use Rattle.std.proofs.lemmas.List.Folds.{list_all-append}
use Rattle.ksv_desc.specs.Names.{number_in, has_names}
use Rattle.ksv_schema.specs.Faults.{fault}
use Rattle.ksv_schema.specs.Reading.{gives, wrong, found, also, chosen, after, perhaps}

-- ---- no faults

pub front : {A : Type 0} (xs ys : List A) → xs ++ ys ≡ [] → xs ≡ []
front [] ys h = refl
front (x ∷ xs) ys h = absurd cc

pub back : {A : Type 0} (xs ys : List A) → xs ++ ys ≡ [] → ys ≡ []
back [] ys h = h
back (x ∷ xs) ys h = absurd cc

pub not_if : (b : Bool) (line number : ℕ) → fault_if b line number ≡ [] → b ≡ false
not_if true line number h = absurd cc
not_if false line number h = refl

no_fault : (line number : ℕ) → fault line number ≡ [] → ⊥
no_fault line number h = cc

-- a fault where one is and the other isn't
pub implies : (a b : Bool) (line number : ℕ) → fault_if (a && not b) line number ≡ [] → a ≡ true → b ≡ true
implies a true line number k h = refl
implies true false line number k h = absurd cc
implies false false line number k h = absurd cc

-- names that are in a table
pub has_both : (names xs ys : List (List ℕ)) → has_names names (xs ++ ys) ≡ true → (has_names names xs ≡ true) × (has_names names ys ≡ true)
has_both names xs ys h = and_parts (has_names names xs) (has_names names ys) (sym (list_all-append (λ w. is_some (number_in names w)) xs ys) ∙ h)

-- ---- what is there

pub there_map : {A B : Type 0} (G : A → Type 0) (H : B → Type 0) (f : A → B) (o : Option A) → ((x : A) → G x → H (f x)) → IsThere G o
    → IsThere H (option_map f o)
there_map G H f None step g = g
there_map G H f (Some x) step g = step x g

pub there_bind : {A B : Type 0} (G : A → Type 0) (H : B → Type 0) (f : A → Option B) (o : Option A) → ((x : A) → G x → IsThere H (f x)) → IsThere G o
    → IsThere H (option_and_then f o)
there_bind G H f None step g = g
there_bind G H f (Some x) step g = step x g

pub there_next : {A B : Type 0} (G : A → Type 0) (H : B → Type 0) (f : A → Option B) (o : Option A) → ((x : A) → G x → IsThere H (f x)) → IsThere G o
    → IsThere H (o >>= f)
there_next G H f None step g = g
there_next G H f (Some x) step g = step x g

there_both : {A B : Type 0} (G : A → Type 0) (H : B → Type 0) (o : Option A) (p : Option B) → IsThere G o → IsThere H p
    → IsThere (λ (z : A × B). G z.0 × H z.1) (option_and_then (λ x. option_map (λ y. (x, y)) p) o)
there_both G H None p g h = g
there_both G H (Some x) None g h = h
there_both G H (Some x) (Some y) g h = (g, h)

pub is_there : {A : Type 0} (G : A → Type 0) (o : Option A) → IsThere G o → (x : A) × (o ≡ Some x) × G x
is_there G None g = absurd g
is_there G (Some x) g = (x, refl, g)

-- ---- readings

-- where it has no faults, and these names have its words, G holds for its value
pub record IsGood {A : Type 0} (names : List (List ℕ)) (G : A → Type 0) (r : Reading A) : Type 0 where
  pub is : r.faults ≡ [] → has_names names r.words ≡ true → IsThere G r.value

pub gives_good : {A : Type 0} {names : List (List ℕ)} {G : A → Type 0} (x : A) → G x → IsGood names G (gives x)
gives_good x g = record { is = λ k w. g }

pub wrong_good : {A : Type 0} {names : List (List ℕ)} {G : A → Type 0} (line number : ℕ) → IsGood names G (wrong line number)
wrong_good line number = record { is = λ k w. absurd (no_fault line number k) }

pub found_good : {A : Type 0} {names : List (List ℕ)} {G : A → Type 0} (line number : ℕ) (o : Option A) → ((x : A) → o ≡ Some x → G x)
    → IsGood names G (found line number o)
found_good line number None g = wrong_good line number
found_good line number (Some x) g = gives_good x (g x refl)

pub also_good : {A : Type 0} {names : List (List ℕ)} {G : A → Type 0} (fs : List Fault) (r : Reading A) → (fs ≡ [] → IsGood names G r)
    → IsGood names G (also fs r)
also_good fs r g = record { is = λ k w. (g (front fs r.faults k)).is (back fs r.faults k) w }

pub chosen_good : {A B : Type 0} {names : List (List ℕ)} {G : A → Type 0} {H : B → Type 0} {r : Reading A} (f : A → Option B) → IsGood names G r
    → ((x : A) → G x → IsThere H (f x)) → IsGood names H (chosen f r)
chosen_good {G = G} {H = H} {r = r} f g step = record { is = λ k w. there_bind G H f r.value step (g.is k w) }

pub made_good : {A B : Type 0} {names : List (List ℕ)} {G : A → Type 0} {H : B → Type 0} {r : Reading A} (f : A → B) → IsGood names G r
    → ((x : A) → G x → H (f x)) → IsGood names H (made f r)
made_good {G = G} {H = H} {r = r} f g step = record { is = λ k w. there_map G H f r.value step (g.is k w) }

-- one and then another, which may depend on the first one's value
pub after_good : {A B : Type 0} {names : List (List ℕ)} {G : A → Type 0} {H : B → Type 0} {r : Reading A} {s : Reading B} → IsGood names G r
    → (IsThere G r.value → IsGood names H s) → IsGood names H (after r s)
after_good {names = names} {G = G} {H = H} {r = r} {s = s} g h = record {
  is = λ k w.
      let ws = has_both names r.words s.words w in
      let x = g.is (front r.faults s.faults k) ws.0 in
      there_bind G H (λ y. s.value) r.value (λ y z. (h x).is (back r.faults s.faults k) ws.1) x;
}

pub both_good : {A B : Type 0} {names : List (List ℕ)} {G : A → Type 0} {H : B → Type 0} {r : Reading A} {s : Reading B} → IsGood names G r → IsGood names H s
    → IsGood names (λ (p : A × B). G p.0 × H p.1) (both r s)
both_good {names = names} {G = G} {H = H} {r = r} {s = s} g h = record {
  is = λ k w.
      let ws = has_both names r.words s.words w in
      there_both G H r.value s.value (g.is (front r.faults s.faults k) ws.0) (h.is (back r.faults s.faults k) ws.1);
}

pub weaker : {A : Type 0} {names : List (List ℕ)} {G H : A → Type 0} {r : Reading A} → IsGood names G r → ((x : A) → G x → H x) → IsGood names H r
weaker {G = G} {H = H} {r = r} g step = record { is = λ k w. weaken r.value (g.is k w) }
  where
    weaken : (o : Option _) → IsThere G o → IsThere H o
    weaken None t = t
    weaken (Some x) t = step x t

-- ---- alternatives

pub if_good : {A : Type 0} {names : List (List ℕ)} {G : A → Type 0} (b : Bool) (r s : Reading A) → (b ≡ true → IsGood names G r)
    → (b ≡ false → IsGood names G s) → IsGood names G (cond b r s)
if_good true r s g h = g refl
if_good false r s g h = h refl

pub or_good : {A B : Type 0} {names : List (List ℕ)} {G : B → Type 0} (f : A → Reading B) (o : Option A) (r : Reading B)
    → ((x : A) → o ≡ Some x → IsGood names G (f x)) → (o ≡ None → IsGood names G r) → IsGood names G (option_map_or f o r)
or_good f None r g h = h refl
or_good f (Some x) r g h = g x refl

-- ---- keys

-- what is at a key that may be absent; it is there if the key is
abbrev pub IsPerhaps : {A : Type 0} → (A → Type 0) → Option Pair → Option A → Type 0
IsPerhaps G o x = IfAny G x × (is_some o ≡ true → IsThere G x)

pub perhaps_good : {A : Type 0} {names : List (List ℕ)} {G : A → Type 0} (f : Pair → Reading A) (o : Option Pair)
    → ((p : Pair) → o ≡ Some p → IsGood names G (f p)) → IsGood names (IsPerhaps G o) (perhaps f o)
perhaps_good f None g = gives_good None (tt, λ h. absurd cc)
perhaps_good f (Some p) g = made_good (λ x. Some x) (g p refl) (λ x h. (h, λ k. h))

pub must_good : {A : Type 0} {names : List (List ℕ)} {G : A → Type 0} (line : ℕ) (f : Pair → Reading A) (o : Option Pair) → ((p : Pair) → IsGood names G (f p))
    → IsGood names G (must line f o)
must_good line f None g = wrong_good line missing_key
must_good line f (Some p) g = g p

pub text_good : {A : Type 0} {names : List (List ℕ)} {G : A → Type 0} (f : List ℕ → Reading A) (p : Pair)
    → ((text : List ℕ) → text_of p.value ≡ Some text → IsGood names G (f text)) → IsGood names G (option_map_or f (text_of p.value) (wrong p.line bad_value))
text_good f p g = or_good f (text_of p.value) (wrong p.line bad_value) g (λ e. wrong_good p.line bad_value)

pub mapping_good : {A : Type 0} {names : List (List ℕ)} {G : A → Type 0} (f : List Pair → Reading A) (p : Pair) → ((es : List Pair) → IsGood names G (f es))
    → IsGood names G (option_map_or f (mapping_of p.value) (wrong p.line bad_value))
mapping_good f p g = or_good f (mapping_of p.value) (wrong p.line bad_value) (λ es e. g es) (λ e. wrong_good p.line bad_value)

-- ---- lists

-- it holds for each two at the same place, the first of which is n
abbrev pub EachOf : {A B : Type 0} → (ℕ → A → B → Type 0) → ℕ → List A → List B → Type 0
EachOf G n [] [] = Unit {0}
EachOf G n (x ∷ xs) (y ∷ ys) = G n x y × EachOf G (n + 1) xs ys
EachOf G n _ _ = ⊥

-- each of a list, of which something is known, or nothing
pub each_from_good : {A B : Type 0} {names : List (List ℕ)} {G : ℕ → A → B → Type 0} (P : A → Type 0) (f : ℕ → A → Reading B) (n : ℕ) (xs : List A) → Each P xs
    → ((n : ℕ) (x : A) → P x → IsGood names (G n x) (f n x)) → IsGood names (EachOf G n xs) (each_from f n xs)
each_from_good P f n [] ps g = gives_good [] tt
each_from_good P f n (x ∷ xs) ps g = made_good (λ p. p.0 ∷ p.1) (both_good (g n x ps.0) (each_from_good P f (n + 1) xs ps.1 g)) (λ p h. h)

pub each_there : {A : Type 0} (xs : List A) → Each (λ x. Unit {0}) xs
each_there [] = tt
each_there (x ∷ xs) = (tt, each_there xs)

pub each_good : {A B : Type 0} {names : List (List ℕ)} {G : A → B → Type 0} (f : A → Reading B) (xs : List A) → ((x : A) → IsGood names (G x) (f x))
    → IsGood names (EachOf (λ i. G) 0 xs) (each f xs)
each_good f xs g = each_from_good (λ x. Unit {0}) (λ i. f) 0 xs (each_there xs) (λ n x u. g x)

-- what holds for each one of the second list, and tests that the first one passes
pub each_second : {A B : Type 0} (G : ℕ → A → B → Type 0) (P : B → Type 0) (n : ℕ) (xs : List A) (ys : List B) → ((i : ℕ) (x : A) (y : B) → G i x y → P y)
    → EachOf G n xs ys → Each P ys
each_second G P n [] [] step g = tt
each_second G P n (x ∷ xs) (y ∷ ys) step g = (step n x y g.0, each_second G P (n + 1) xs ys step g.1)
each_second G P n _ _ step g = absurd g

pub each_passes : {A B : Type 0} (G : ℕ → A → B → Type 0) (test : A → Bool) (n : ℕ) (xs : List A) (ys : List B)
    → ((i : ℕ) (x : A) (y : B) → G i x y → test x ≡ true) → EachOf G n xs ys → list_all test xs ≡ true
each_passes G test n [] ys step g = refl
each_passes G test n (x ∷ xs) [] step g = absurd g
each_passes G test n (x ∷ xs) (y ∷ ys) step g = and_from (test x) (list_all test xs) (step n x y g.0) (each_passes G test (n + 1) xs ys step g.1)

pub as_many : {A B : Type 0} (G : ℕ → A → B → Type 0) (n : ℕ) (xs : List A) (ys : List B) → EachOf G n xs ys → length ys ≡ length xs
as_many G n [] [] g = refl
as_many G n (x ∷ xs) (y ∷ ys) g = ap suc (as_many G (n + 1) xs ys g.1)
as_many G n _ _ g = absurd g

pub each_at : {A B : Type 0} (G : ℕ → A → B → Type 0) (n : ℕ) (xs : List A) (ys : List B) (i : ℕ) (x : A) → EachOf G n xs ys → slice_get xs i ≡ Some x
    → IsThere (λ y. (k : ℕ) × G k x y) (slice_get ys i)
each_at G n [] ys i x g h = absurd cc
each_at G n (v ∷ vs) [] i x g h = absurd g
each_at G n (v ∷ vs) (y ∷ ys) zero x g h = let same : v ≡ x = cc in (n, subst (λ v. G n v y) same g.0)
each_at G n (v ∷ vs) (y ∷ ys) (suc i) x g h = each_at G (n + 1) vs ys i x g.1 h

pub each_and : {A : Type 0} (P : A → Type 0) (xs ys : List A) → Each P xs → Each P ys → Each P (xs ++ ys)
each_and P [] ys h k = k
each_and P (x ∷ xs) ys h k = (h.0, each_and P xs ys h.1 k)

pub each_mapped : {A B : Type 0} (P : B → Type 0) (f : A → B) (xs : List A) → ((x : A) → P (f x)) → Each P (map f xs)
each_mapped P f [] h = tt
each_mapped P f (x ∷ xs) h = (h x, each_mapped P f xs h)
