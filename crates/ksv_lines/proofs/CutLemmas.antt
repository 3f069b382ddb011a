-- Bytes that are cut into parts, as more of them come.
use Rattle.std.proofs.Common.{◌≡◌, ◌∙◌, ◌<◌, Bool, true, false, cond, List, [], ◌∷◌, ◌++◌, length, ap, sym, refl, arith}
use Rattle.std.specs.List.{onto_first, slice_split}
use Rattle.std.proofs.lemmas.List.Splits.{length-slice_split}

-- there is always a first part
record HasFirst {X : Type 0} (parts : List (List X)) : Type 0 where
  first : List X
  others : List (List X)
  is : parts ≡ first ∷ others

has_first : {X : Type 0} (parts : List (List X)) → 0 < length parts → HasFirst parts
has_first [] some = absurd (omega arith)
has_first (part ∷ parts) some = record { first = part; others = parts; is = refl }

split_has_first : {X : Type 0} (p : X → Bool) (xs : List X) → HasFirst (slice_split p xs)
split_has_first p xs = has_first (slice_split p xs) (omega (arith, length-slice_split p xs))

onto_append : {X : Type 0} (x : X) (parts more : List (List X)) → HasFirst parts → onto_first x (parts ++ more) ≡ onto_first x parts ++ more
onto_append x parts more h = rw h.is refl

either_part : {X : Type 0} (b : Bool) (x : X) (parts more : List (List X)) {whole : List (List X)} → HasFirst parts → whole ≡ parts ++ more
    → cond b ([] ∷ whole) (onto_first x whole) ≡ cond b ([] ∷ parts) (onto_first x parts) ++ more
either_part true x parts more h is = ap (λ parts. [] ∷ parts) is
either_part false x parts more h is = ap (onto_first x) is ∙ onto_append x parts more h

-- an element that ends a part
pub split_at : {X : Type 0} (p : X → Bool) (xs : List X) (y : X) (ys : List X) → p y ≡ true
    → slice_split p (xs ++ y ∷ ys) ≡ slice_split p xs ++ slice_split p ys
split_at p [] y ys h = rw h refl
split_at p (x ∷ xs) y ys h = either_part (p x) x (slice_split p xs) (slice_split p ys) (split_has_first p xs) (split_at p xs y ys h)

-- one more element in the last part
last_longer : {X : Type 0} → X → List (List X) → List (List X)
last_longer c [] = (c ∷ []) ∷ []
last_longer c (part ∷ []) = (part ++ c ∷ []) ∷ []
last_longer c (part ∷ next ∷ parts) = part ∷ last_longer c (next ∷ parts)

longer_cons : {X : Type 0} (c : X) (part : List X) (parts : List (List X)) → HasFirst parts → last_longer c (part ∷ parts) ≡ part ∷ last_longer c parts
unfolding last_longer
longer_cons c part parts h = rw h.is refl

longer_onto_cons : {X : Type 0} (c x : X) (first : List X) (others : List (List X))
    → onto_first x (last_longer c (first ∷ others)) ≡ last_longer c (onto_first x (first ∷ others))
unfolding last_longer
longer_onto_cons c x first [] = refl
longer_onto_cons c x first (next ∷ parts) = refl

longer_onto : {X : Type 0} (c x : X) (parts : List (List X)) → HasFirst parts → onto_first x (last_longer c parts) ≡ last_longer c (onto_first x parts)
longer_onto c x parts h = rw h.is (longer_onto_cons c x h.first h.others)

either_longer : {X : Type 0} (b : Bool) (x c : X) (parts : List (List X)) {whole : List (List X)} → HasFirst parts → whole ≡ last_longer c parts
    → cond b ([] ∷ whole) (onto_first x whole) ≡ last_longer c (cond b ([] ∷ parts) (onto_first x parts))
either_longer true x c parts h is = ap (λ parts. [] ∷ parts) is ∙ sym (longer_cons c [] parts h)
either_longer false x c parts h is = ap (onto_first x) is ∙ longer_onto c x parts h

split_longer : {X : Type 0} (p : X → Bool) (xs : List X) (c : X) → p c ≡ false → slice_split p (xs ++ c ∷ []) ≡ last_longer c (slice_split p xs)
unfolding last_longer
split_longer p [] c h = rw h refl
split_longer p (x ∷ xs) c h = either_longer (p x) x c (slice_split p xs) (split_has_first p xs) (split_longer p xs c h)

longer_last : {X : Type 0} (c : X) (front : List (List X)) (last : List X) → last_longer c (front ++ last ∷ []) ≡ front ++ (last ++ c ∷ []) ∷ []
unfolding last_longer
longer_last c [] last = refl
longer_last c (part ∷ []) last = refl
longer_last c (part ∷ next ∷ front) last = ap (λ parts. part ∷ parts) (longer_last c (next ∷ front) last)

-- an element that ends no part makes the last one longer
pub split_more : {X : Type 0} (p : X → Bool) (xs : List X) (c : X) (front : List (List X)) (last : List X) → p c ≡ false
    → front ++ last ∷ [] ≡ slice_split p xs → front ++ (last ++ c ∷ []) ∷ [] ≡ slice_split p (xs ++ c ∷ [])
split_more p xs c front last h is = sym (split_longer p xs c h ∙ ap (last_longer c) (sym is) ∙ longer_last c front last)
