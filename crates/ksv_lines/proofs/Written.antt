-- Texts that are written one after the other.
use Rattle.std.proofs.Common.{◌≡◌, ◌∙◌, ℕ, List, ◌++◌, ap, append_assoc, Result, Ok, Err}
use Rattle.std.specs.Prelude.{OnOk}

pub on_ok : {T E P Q : Type 0} (r : Result T E) → (P → Q) → OnOk r P → OnOk r Q
on_ok (Ok x) f h = f h
on_ok (Err e) f h = tt

pub two : (before one all a b : List ℕ) → one ≡ before ++ a → all ≡ one ++ b → all ≡ before ++ (a ++ b)
two before one all a b x y = y ∙ ap (λ t. t ++ b) x ∙ append_assoc before a b

pub three : (before one both all a b c : List ℕ) → one ≡ before ++ a → both ≡ one ++ b → all ≡ both ++ c → all ≡ before ++ (a ++ b ++ c)
three before one both all a b c x y z = two before both all (a ++ b) c (two before one both a b x y) z

pub five : (before one both most four all a b c d e : List ℕ) → one ≡ before ++ a → both ≡ one ++ b → most ≡ both ++ c → four ≡ most ++ d → all ≡ four ++ e
    → all ≡ before ++ (a ++ b ++ c ++ d ++ e)
five before one both most four all a b c d e v w x y z =
    two before four all (a ++ b ++ c ++ d) e (two before most four (a ++ b ++ c) d (three before one both most a b c v w x) y) z
