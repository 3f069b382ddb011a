-- Bytes that are cut in two, compared.
use Rattle.std.proofs.Common.{◌≡◌, ℕ, ◌<◌, ◌≤◌, List, [], ◌∷◌, ◌++◌, length, take, drop, Bool, true, false, ◌&&◌, nat_eq, refl, ap, sym, ◌∙◌, arith}
use Rattle.std.proofs.lemmas.Bool.Decides.{nat_tests}
use Rattle.std.specs.Str.{bytes_eq}

and_assoc : (a b c : Bool) → ((a && b) && c) ≡ (a && (b && c))
and_assoc true b c = refl
and_assoc false b c = refl

false_right : (a : Bool) → (a && false) ≡ false
false_right true = refl
false_right false = refl

same_turned : (a b : ℕ) → nat_eq a b ≡ nat_eq b a
same_turned a b = grind (arith, nat_tests)

-- whether bytes are the same doesn't depend on their order
pub turned : (xs ys : List ℕ) → bytes_eq xs ys ≡ bytes_eq ys xs
turned [] [] = refl
turned [] (y ∷ ys) = refl
turned (x ∷ xs) [] = refl
turned (x ∷ xs) (y ∷ ys) = ap (λ b. b && bytes_eq xs ys) (same_turned x y) ∙ ap (λ b. nat_eq y x && b) (turned xs ys)

-- bytes that are too few for a front
pub short : (w f b : List ℕ) → length w < length f → bytes_eq w (f ++ b) ≡ false
short [] [] b h = absurd (omega arith)
short [] (y ∷ f) b h = refl
short (x ∷ w) [] b h = absurd (omega arith)
short (x ∷ w) (y ∷ f) b h = ap (λ r. nat_eq x y && r) (short w f b (omega arith)) ∙ false_right (nat_eq x y)

-- bytes that are compared with a front and a back
pub split : (w f b : List ℕ) → length f ≤ length w → bytes_eq w (f ++ b) ≡ (bytes_eq (take (length f) w) f && bytes_eq (drop (length f) w) b)
split w [] b h = refl
split [] (y ∷ f) b h = absurd (omega arith)
split (x ∷ w) (y ∷ f) b h = ap (λ r. nat_eq x y && r) (split w f b (omega arith))
    ∙ sym (and_assoc (nat_eq x y) (bytes_eq (take (length f) w) f) (bytes_eq (drop (length f) w) b))

-- two fronts whose first is no longer, and two backs
pub halves : (a b c d : List ℕ) → length a ≤ length c → bytes_eq (a ++ b) (c ++ d) ≡ (bytes_eq a (take (length a) c) && bytes_eq b (drop (length a) c ++ d))
halves [] b c d h = refl
halves (x ∷ a) b [] d h = absurd (omega arith)
halves (x ∷ a) b (y ∷ c) d h = ap (λ r. nat_eq x y && r) (halves a b c d (omega arith))
    ∙ sym (and_assoc (nat_eq x y) (bytes_eq a (take (length a) c)) (bytes_eq b (drop (length a) c ++ d)))
