-- What is found leads somewhere: places in lists, types, names, enums' members.
use Rattle.std.proofs.Common.{inl, inr}
use Rattle.ksv_schema_names.proofs.Common.{◌≡◌, ℕ, zero, suc, ◌+◌, ◌<◌, Bool, true, false, ◌&&◌, List, [], ◌∷◌, ◌++◌, map, length, Option, Some, None}
use Rattle.ksv_schema_names.proofs.Common.{is_none, refl, sym, ap, ◌∙◌, arith, position_from, option_map_or, bytes_eq, Row, row_in}
use Rattle.std.proofs.Common.{is_some, slice_get, option_and_then}
use Rattle.std.specs.List.{list_all}
use Rattle.std.proofs.lemmas.Bool.{and_parts, cases_Bool}
use Rattle.std.proofs.lemmas.Option.{slice_get_within}
use Rattle.std.proofs.lemmas.Slice.Eq.{bytes_eq-Decides}
use Rattle.ksv_schema_names.specs.Rows.{is_within}
use Rattle.ksv_schema_names.specs.Types.{nearest_row, root_named, type_along, type_named}

-- ---- options and lists

pub some_is : {A : Type 0} (o : Option A) → is_some o ≡ true → (x : A) × (o ≡ Some x)
some_is None h = absurd (cc)
some_is (Some x) h = (x, refl)

pub not_none : {A : Type 0} (o : Option A) → is_none o ≡ false → (x : A) × (o ≡ Some x)
not_none None h = absurd (cc)
not_none (Some x) h = (x, refl)

pub both_empty : {A : Type 0} (xs ys : List A) → xs ++ ys ≡ [] → (xs ≡ []) × (ys ≡ [])
both_empty [] ys h = (refl, h)
both_empty (x ∷ xs) ys h = absurd (cc)

-- one of a list that passes the test
pub one_passes : {A : Type 0} (p : A → Bool) (xs : List A) (k : ℕ) (x : A) → list_all p xs ≡ true → slice_get xs k ≡ Some x → p x ≡ true
one_passes p [] k x all there = absurd (cc)
one_passes p (y ∷ ys) zero x all there = let same : y ≡ x = cc in ap p (sym same) ∙ (and_parts (p y) (list_all p ys) all).0
one_passes p (y ∷ ys) (suc k) x all there = one_passes p ys k x (and_parts (p y) (list_all p ys) all).1 there

pub get_map : {A B : Type 0} (f : A → B) (xs : List A) (k : ℕ) (x : A) → slice_get xs k ≡ Some x → slice_get (map f xs) k ≡ Some (f x)
get_map f [] k x h = absurd (cc)
get_map f (y ∷ ys) zero x h = let same : y ≡ x = cc in ap (λ z. Some (f z)) same
get_map f (y ∷ ys) (suc k) x h = get_map f ys k x h

-- the element at which a test first passes
pub record IsPlace {A : Type 0} (t : A → Bool) (i : ℕ) (xs : List A) (k : ℕ) : Type 0 where
  pub offset : ℕ
  pub is : k ≡ i + offset
  pub item : A
  pub there : slice_get xs offset ≡ Some item
  pub passes : t item ≡ true

pub place_of : {A : Type 0} (t : A → Bool) (i : ℕ) (xs : List A) (k : ℕ) → position_from t i xs ≡ Some k → IsPlace t i xs k
place_of t i [] k h = absurd (cc)
place_of t i (x ∷ xs) k h = elim (cases_Bool (t x)) [
  | inl e ↦ let same : i ≡ k = (let j = rw e at h in cc) in record { offset = 0; is = omega arith; item = x; there = refl; passes = e }
  | inr e ↦
      let p = place_of t (i + 1) xs k (rw e at h) in
      record { offset = suc p.offset; is = omega (arith, p.is); item = p.item; there = p.there; passes = p.passes }
]

pub place_within : {A : Type 0} (t : A → Bool) (xs : List A) (k : ℕ) → position_from t 0 xs ≡ Some k → k < length xs
place_within t xs k h =
    let p = place_of t 0 xs k h in
    let below : p.offset < length xs = slice_get_within xs p.offset p.item p.there in
    omega arith

-- ---- types

pub is_bound : {A B : Type 0} (f : A → Option B) (o : Option A) (y : B) → option_and_then f o ≡ Some y → (x : A) × (o ≡ Some x) × (f x ≡ Some y)
is_bound f None y h = absurd (cc)
is_bound f (Some x) y h = (x, refl, h)

pub row_within : (rows : List Row) (name : List ℕ) (n k : ℕ) → row_in rows name n ≡ Some k → k < length rows
unfolding row_in
row_within rows name n k h = place_within (λ r. is_within n r && bytes_eq r.id name) rows k h

pub nearest_within : (types rows : List Row) (name : List ℕ) (n k : ℕ) → nearest_row types rows name n ≡ Some k → k < length rows
unfolding nearest_row
nearest_within types rows name n k h = let m = is_bound (row_in rows name) _ k h in row_within rows name m.0 k m.2

along_within : (types : List Row) (n : ℕ) (path : List (List ℕ)) (k : ℕ) → n < length types → type_along types n path ≡ Some k → k < length types
along_within types n [] k below h = let same : n ≡ k = cc in omega arith
along_within types n (name ∷ names) k below h = let m =
    is_bound (λ m. type_along types m names) (row_in types name n) k h in along_within types m.0 names k (row_within types name n m.0 m.1) m.2

pub type_within : (types : List Row) (n : ℕ) (path : List (List ℕ)) (k : ℕ) → type_named types n path ≡ Some k → k < length types
unfolding type_named
type_within types n [] k h = absurd (cc)
type_within types n (name ∷ names) k h =
    let m = is_bound (λ m. type_along types m names) (option_map_or Some (nearest_row types types name n) (root_named types name)) k h in
    along_within types m.0 names k (by_search (nearest_row types types name n) refl m.0 m.1) m.2
  where
    root_within : (types : List Row) (b : ℕ) → root_named types name ≡ Some b → b < length types
    root_within [] b h = absurd (cc)
    root_within (root ∷ types) b h = elim (cases_Bool (bytes_eq root.id name)) [
      | inl e ↦ let same : 0 ≡ b = (let j = rw e at h in cc) in omega arith
      | inr e ↦ absurd (let j = rw e at h in cc)
    ]

    by_search : (o : Option ℕ) → nearest_row types types name n ≡ o → (m : ℕ) → option_map_or Some o (root_named types name) ≡ Some m → m < length types
    by_search None none m found = root_within types m found
    by_search (Some k) there m found = let same : k ≡ m = cc in let below : k < length types = nearest_within types types name n k there in omega arith

-- ---- equal texts

pub same_text : (a b : List ℕ) → bytes_eq a b ≡ true → a ≡ b
same_text a b h = (bytes_eq-Decides a b).0 h
