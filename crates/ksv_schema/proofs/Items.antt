-- The items of `contents`: a loop over them, and that they have no names after dots.
use Rattle.ksv_schema.proofs.Common.{◌≡◌, ℕ, suc, ◌+◌, ◌<◌, ◌≤◌, List, [], ◌∷◌, ◌++◌, map, length, get_or, drop, refl, sym, ap, ◌∙◌, add-one, drop-cons, Option}
use Rattle.ksv_schema.proofs.Common.{Some, None, drop_all, Tree, line_of, BadPiece, piece_of, Fault, noted, Reading, made, both, items, paired}
use Rattle.std.specs.Prelude.{option_map}
use Rattle.std.proofs.lemmas.List.{append_assoc}
use Rattle.ksv_schema.specs.KeyTexts.{Piece, Bytes, LeftOutPiece}
use Rattle.ksv_schema.specs.Values.{of_piece, item}
use Rattle.ksv_schema.specs.Code.{joined}
use Rattle.ksv_schema.proofs.Noted.{noted_append, noted_none}

piece_words : (line : ℕ) (p : Piece) → (of_piece line p).words ≡ []
piece_words line (Bytes bs) = refl
piece_words line BadPiece = refl
piece_words line LeftOutPiece = refl

pub item_words : (t : Tree) → (item t).words ≡ []
unfolding item
item_words t = piece_words (line_of t) (piece_of t)

pub items_words : (ts : List Tree) → (items ts).words ≡ []
items_words [] = refl
items_words (t ∷ ts) = ap (λ (ws : List (List ℕ)). ws ++ (items ts).words) (item_words t) ∙ items_words ts

pub ruleset steps = (item_words, items_words)

-- ---- a loop

-- the bytes so far, with the rest that is still to be read, are all
pub record AreSoFar (all rest : Reading (List ℕ)) (so_far : Option (List ℕ)) (old now : Option Fault) : Type 0 where
  pub value : joined so_far rest.value ≡ all.value
  pub faults : noted now rest.faults ≡ noted old all.faults

joined_joined : (so_far bs rest : Option (List ℕ))
    → joined (joined so_far bs) rest ≡ joined so_far (option_map (λ (p : List ℕ × List ℕ). p.0 ++ p.1) (paired bs rest))
joined_joined None bs rest = refl
joined_joined (Some xs) None rest = refl
joined_joined (Some xs) (Some ys) None = refl
joined_joined (Some xs) (Some ys) (Some zs) = ap Some (append_assoc xs ys zs)

bytes_step : (all rest r : Reading (List ℕ)) (so_far more : Option (List ℕ)) (old now new : Option Fault) → more ≡ joined so_far r.value
    → new ≡ noted now r.faults
    → AreSoFar all (made (λ p. p.0 ++ p.1) (both r rest)) so_far old now → AreSoFar all rest more old new
bytes_step all rest r so_far more old now new is notes h = record {
  value = ap (λ (o : Option (List ℕ)). joined o rest.value) is ∙ joined_joined so_far r.value rest.value ∙ h.value;
  faults = ap (λ (o : Option Fault). noted o rest.faults) notes ∙ sym (noted_append now r.faults rest.faults) ∙ h.faults;
}

module _ {X : Type 0} (see : X → Tree) (xs : List X) (all : Reading (List ℕ)) where
  pub items_step : (i : ℕ) (x : X) (so_far more : Option (List ℕ)) (old now new : Option Fault) → i < length xs → x ≡ get_or xs i x
      → more ≡ joined so_far (item (see x)).value → new ≡ noted now (item (see x)).faults
      → AreSoFar all (items (map see (drop i xs))) so_far old now → AreSoFar all (items (map see (drop (i + 1) xs))) more old new
  items_step i x so_far more old now new lt is bs notes h =
      let e : items (map see (drop i xs)) ≡ made (λ p. p.0 ++ p.1) (both (item (see x)) (items (map see (drop (i + 1) xs)))) =
      ap (λ (ys : List X). items (map see ys)) (drop-cons xs i x lt)
      ∙ ap (λ (y : X). made (λ p. p.0 ++ p.1) (both (item (see y)) (items (map see (drop (suc i) xs))))) (sym is)
      ∙ ap (λ (j : ℕ). made (λ p. p.0 ++ p.1) (both (item (see x)) (items (map see (drop j xs))))) (sym (add-one i)) in
      bytes_step all (items (map see (drop (i + 1) xs))) (item (see x)) so_far more old now new bs notes (rw e at h)

  pub items_end : (i : ℕ) (so_far : Option (List ℕ)) (old now : Option Fault) → length xs ≤ i → AreSoFar all (items (map see (drop i xs))) so_far old now
      → AreSoFar all (items []) so_far old now
  items_end i so_far old now le h =
      let e : items (map see (drop i xs)) ≡ items [] = ap (λ (ys : List X). items (map see ys)) (drop_all i xs le) in rw e at h

pub bytes_faults : (all : Reading (List ℕ)) (so_far : Option (List ℕ)) (old now : Option Fault) → AreSoFar all (items []) so_far old now
    → now ≡ noted old all.faults
bytes_faults all so_far old now h = sym (noted_none now) ∙ h.faults
