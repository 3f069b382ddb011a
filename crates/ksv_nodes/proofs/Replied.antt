-- The next of the replies that are left.
use Rattle.ksv_nodes.proofs.Common.{◌≡◌, ℕ, zero, suc, ◌+◌, List, [], ◌∷◌, Some, None, Result, Ok, Err, refl, ap, ◌∙◌, drop, arith, Need, Done, next, Use}
use Rattle.ksv_nodes.proofs.Common.{Trail, Fault, Given, Node, State, replied, come}
use Rattle.std.specs.Prelude.{slice_get}

-- what is left from a place where there is none, and from one where there is one
left_none : {X : Type 0} (xs : List X) (k : ℕ) → slice_get xs k ≡ None → drop k xs ≡ []
left_none [] zero e = refl
left_none [] (suc k) e = refl
left_none (x ∷ xs) zero e = absurd (cc)
left_none (x ∷ xs) (suc k) e = left_none xs k e

left_suc : {X : Type 0} (xs : List X) (k : ℕ) (x : X) → slice_get xs k ≡ Some x → drop k xs ≡ x ∷ drop (suc k) xs
left_suc [] k x e = absurd (cc)
left_suc (y ∷ ys) zero x e = let same : y ≡ x = cc in ap (λ z. z ∷ ys) same
left_suc (y ∷ ys) (suc k) x e = left_suc ys k x e

left_some : {X : Type 0} (xs : List X) (k : ℕ) (x : X) → slice_get xs k ≡ Some x → drop k xs ≡ x ∷ drop (k + 1) xs
left_some xs k x e = let one : suc k ≡ k + 1 = omega arith in left_suc xs k x e ∙ ap (λ n. x ∷ drop n xs) one

given_first : (n : Node) (s : State) (reply : Result Given Fault) (rs : List (Result Given Fault))
    → next (replied n (reply ∷ rs) s) (λ r t. Done r t) ≡ come reply (record s { replies = rs })
given_first n s (Ok g) rs = refl
given_first n s (Err f) rs = refl

module _ (n : Node) (here : Trail) (bytes : List ℕ) (us : List Use) (rs : List (Result Given Fault)) where
  -- the state when the replies from a place on are left
  abbrev pub from : ℕ → State
  from k = record { here = here; bytes = bytes; replies = drop k rs; uses = us }

  needed : (k : ℕ) (xs : List (Result Given Fault)) (s : State) → xs ≡ [] → next (replied n xs s) (λ r t. Done r t) ≡ Need n s
  needed k [] s e = refl
  needed k (x ∷ xs) s e = absurd (cc)

  given : (k : ℕ) (xs : List (Result Given Fault)) (s : State) (reply : Result Given Fault) → xs ≡ reply ∷ drop (k + 1) rs
      → next (replied n xs s) (λ r t. Done r t) ≡ come reply (record s { replies = drop (k + 1) rs })
  given k xs s reply e = ap (λ ys. next (replied n ys s) (λ r t. Done r t)) e ∙ given_first n s reply (drop (k + 1) rs)

  -- a node whose reply isn't there is needed
  pub needed_next : (k : ℕ) → slice_get rs k ≡ None → next (replied n (drop k rs) (from k)) (λ r t. Done r t) ≡ Need n (from k)
  needed_next k none = needed k (drop k rs) (from k) (left_none rs k none)

  -- the reply that is there is given, and those after it are left
  pub given_next : (k : ℕ) (reply : Result Given Fault) → slice_get rs k ≡ Some reply
      → next (replied n (drop k rs) (from k)) (λ r t. Done r t) ≡ come reply (from (k + 1))
  given_next k reply some = given k (drop k rs) (from k) reply (left_some rs k reply some)
