-- Nodes beside their slots.
use Rattle.ksv_memo.proofs.Common.{◌≡◌, ℕ, zero, suc, Bool, ◌||◌, List, [], ◌∷◌, ◌++◌, length, map, slice_set, get_or, Some, refl, ◌∙◌, ap, arith, slice_get}
use Rattle.ksv_memo.proofs.Common.{zip, list_any, slice_get_within, with_slot}
use Rattle.std.proofs.lemmas.Option.{slice_get_read}
use Rattle.std.proofs.lemmas.Slice.Zip.{length-zip}

module _ {N X : Type 0} where
  pub slots-zip : (ns : List N) (ss : List X) → length ss ≡ length ns → map (λ (p : N × X). p.1) (zip ns ss) ≡ ss
  slots-zip [] [] e = refl
  slots-zip (n ∷ ns) (s ∷ ss) e = ap (λ xs. s ∷ xs) (slots-zip ns ss (omega arith))
  slots-zip _ _ e = absurd (omega arith)

  pub count-zip : (ns : List N) (ss : List X) → length ss ≡ length ns → length (zip ns ss) ≡ length ns
  count-zip ns ss e = omega (arith, length-zip ns ss)

  there-zip : (ns : List N) (ss : List X) (i : ℕ) (n : N) (s : X) → slice_get ns i ≡ Some n → slice_get ss i ≡ Some s → slice_get (zip ns ss) i ≡ Some (n, s)
  there-zip (m ∷ ns) (t ∷ ss) zero n s e f = let a : m ≡ n = cc in let b : t ≡ s = cc in λ k. Some (a k, b k)
  there-zip (m ∷ ns) (t ∷ ss) (suc i) n s e f = there-zip ns ss i n s e f
  there-zip _ _ i n s e f = absurd (cc)

  pub any-zip : (f : N → Bool) (ns : List N) (ss : List X) → length ss ≡ length ns → list_any (λ (p : N × X). f p.0) (zip ns ss) ≡ list_any f ns
  any-zip f [] ss e = refl
  any-zip f (n ∷ ns) [] e = absurd (omega arith)
  any-zip f (n ∷ ns) (s ∷ ss) e = ap (λ b. f n || b) (any-zip f ns ss (omega arith))

  pub push-zip : (ns : List N) (ss : List X) (n : N) (s : X) → length ss ≡ length ns → zip (ns ++ n ∷ []) (ss ++ s ∷ []) ≡ zip ns ss ++ (n, s) ∷ []
  push-zip [] [] n s e = refl
  push-zip (m ∷ ns) (t ∷ ss) n s e = ap (λ ps. (m, t) ∷ ps) (push-zip ns ss n s (omega arith))
  push-zip _ _ n s e = absurd (omega arith)

  -- a slot is written
  pub write-zip : (ns : List N) (ss : List X) (i : ℕ) (s : X) → zip ns (slice_set ss i s) ≡ with_slot (zip ns ss) i s
  write-zip (n ∷ ns) (t ∷ ss) (suc i) s = ap (λ ps. (n, t) ∷ ps) (write-zip ns ss i s)
  write-zip _ _ _ _ = refl

  -- a node and its slot are written
  pub set-zip : (ns : List N) (ss : List X) (i : ℕ) (n : N) (s : X) → length ss ≡ length ns
      → zip (slice_set ns i n) (slice_set ss i s) ≡ slice_set (zip ns ss) i (n, s)
  set-zip [] (t ∷ ss) i n s e = absurd (omega arith)
  set-zip (m ∷ ns) [] i n s e = absurd (omega arith)
  set-zip (m ∷ ns) (t ∷ ss) (suc i) n s e = ap (λ ps. (m, t) ∷ ps) (set-zip ns ss i n s (omega arith))
  set-zip _ _ _ _ _ _ = refl

  -- each slot has a node
  pub slot-zip : (ns : List N) (ss : List X) (i : ℕ) (s : X) → length ss ≡ length ns → slice_get ss i ≡ Some s
      → (n : N) × (slice_get (zip ns ss) i ≡ Some (n, s))
  slot-zip [] [] i s e f = absurd (cc)
  slot-zip (m ∷ ns) (t ∷ ss) zero s e f = let b : t ≡ s = cc in (m, λ k. Some (m, b k))
  slot-zip (m ∷ ns) (t ∷ ss) (suc i) s e f = slot-zip ns ss i s (omega arith) f
  slot-zip _ _ i s e f = absurd (omega arith)

  -- the slot that is read at the place of a node
  pub inside-zip : (ns : List N) (ss : List X) (i : ℕ) (n : N) (s t : X) → length ss ≡ length ns → slice_get ns i ≡ Some n → s ≡ get_or ss i s → s ≡ t
      → slice_get (zip ns ss) i ≡ Some (n, t)
  inside-zip ns ss i n s t e at is same = there-zip ns ss i n t at
      (slice_get_read ss (length ss) i s refl (omega (arith, slice_get_within ns i n at)) is ∙ ap Some same)
