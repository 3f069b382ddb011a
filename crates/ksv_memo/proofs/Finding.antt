-- What the slot at a place says.
use Rattle.ksv_memo.proofs.Common.{◌≡◌, ℕ, true, List, Some, is_some, ◌∙◌, ap, slice_get, option_map, slice_get-map, Slot, answer_in, answer_of, answer_at}
use Rattle.ksv_memo.proofs.Common.{slots_of, node_at, IsKept}

module _ {N V F : Type 0} (ps : List (N × Slot V F)) where
  -- the slot at a place
  pub slot_there : (i : ℕ) (n : N) (s : Slot V F) → slice_get ps i ≡ Some (n, s) → slice_get (slots_of ps) i ≡ Some s
  slot_there i n s e = cc (slice_get-map (λ p. p.1) ps i)

  pub node_there : (i : ℕ) (n : N) (s : Slot V F) → slice_get ps i ≡ Some (n, s) → node_at ps i ≡ Some n
  node_there i n s e = ap (option_map (λ p. p.0)) e

  pub answer_there : (i : ℕ) (n : N) (s : Slot V F) → slice_get ps i ≡ Some (n, s) → answer_at (slots_of ps) i ≡ answer_in s
  answer_there i n s e = ap answer_of (slot_there i n s e)

  pub kept_there : (i : ℕ) (n : N) (s : Slot V F) → slice_get ps i ≡ Some (n, s) → is_some (answer_in s) ≡ true → IsKept ps i
  kept_there i n s e h = ap is_some (answer_there i n s e) ∙ h
