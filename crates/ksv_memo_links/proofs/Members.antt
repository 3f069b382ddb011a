-- Members of lists of slots.
use Rattle.ksv_memo_links.proofs.Common.{◌≡◌, ◌≢◌, ◌⊎◌, inl, inr, ℕ, suc, ◌+◌, List, [], ◌∷◌, ◌++◌, length, Contains, refl, sym, ◌∙◌, arith, AllPairs}
use Rattle.ksv_memo_links.proofs.Common.{length-append}
use Rattle.std.proofs.lemmas.List.{get_or_at, get_or-append-add}
use Rattle.std.proofs.lemmas.List.Elements.{Contains-append_cases, Contains-push_cases}

pub none_in : {X : Type 0} (x : X) → Contains [] x → ⊥
none_in x h = omega arith

pub first_or_later : (x : ℕ) (xs : List ℕ) (s : ℕ) → Contains (x ∷ xs) s → (x ≡ s) ⊎ Contains xs s
first_or_later x xs s h = elim (Contains-append_cases (x ∷ []) xs s h) [
  | inl k ↦ inl (elim (Contains-push_cases [] x s k) [
    | inl k ↦ absurd (none_in s k)
    | inr e ↦ e
  ])
  | inr k ↦ inr k
]

-- what is there once isn't among what follows
pub not_later : (xs ys : List ℕ) (x : ℕ) → AllPairs (λ (a b : ℕ). a ≢ b) (xs ++ x ∷ ys) → Contains ys x → ⊥
not_later xs ys x h k =
    let n = length-append xs (x ∷ ys) in
    h (length xs) (length xs + suc k.0) x (omega arith) (omega arith)
    (get_or_at xs x ys x (length xs) refl ∙ sym k.2 ∙ sym (get_or-append-add xs (x ∷ ys) (suc k.0) x))
