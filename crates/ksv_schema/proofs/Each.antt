-- A loop that reads each of a list.
use Rattle.ksv_schema.proofs.Common.{◌≡◌, ℕ, suc, ◌+◌, ◌<◌, ◌≤◌, List, [], ◌∷◌, map, length, get_or, drop, refl, sym, ap, ◌∙◌, add-one, drop-cons, Option, Some}
use Rattle.ksv_schema.proofs.Common.{None, drop_all, map-append, distinct_behind, distinct_append, Fault, noted, Reading, made, both, each_from, seen_fault}
use Rattle.ksv_schema.proofs.Common.{IsRead, Reads, paired}
use Rattle.std.proofs.Common.{Result, Ok, Err, Vec, Global}
use Rattle.std.specs.Prelude.{option_map}
use Rattle.std.proofs.lemmas.List.{append_assoc, append-nil}
use Rattle.ksv_schema.specs.declared.values.reader.Reader.{Reader}
use Rattle.ksv_schema.specs.Code.{items_of, pushed, Pushes, joined}
use Rattle.ksv_schema.proofs.Noted.{noted_append, noted_none}

-- what is made so far, with the rest that is still to be read, is all
pub record IsSoFar {A : Type 0} (all rest : Reading (List A)) (so_far : Option (List A)) (old now : Reader) : Type 0 where
  pub value : joined so_far rest.value ≡ all.value
  pub faults : noted (seen_fault now.least) rest.faults ≡ noted (seen_fault old.least) all.faults
  pub words : distinct_behind now.names rest.words ≡ distinct_behind old.names all.words

pub joined_end : {A : Type 0} (o : Option (List A)) → joined o (Some []) ≡ o
joined_end None = refl
joined_end (Some xs) = ap Some (append-nil xs)

-- one more is made, and fewer are left
joined_more : {A : Type 0} (so_far : Option (List A)) (x : Option A) (rest : Option (List A))
    → joined (pushed so_far x) rest ≡ joined so_far (option_map (λ (p : A × List A). p.0 ∷ p.1) (paired x rest))
joined_more None x rest = refl
joined_more (Some xs) None rest = refl
joined_more (Some xs) (Some x) None = refl
joined_more (Some xs) (Some x) (Some ys) = ap Some (append_assoc xs (x ∷ []) ys)

pub so_far_end : {A : Type 0} (all : Reading (List A)) (so_far : Option (List A)) (old now : Reader)
    → IsSoFar all (record { faults = []; words = []; value = Some [] }) so_far old now → IsRead all so_far old now
so_far_end all so_far old now h = record {
  value = sym (joined_end so_far) ∙ h.value;
  faults = sym (noted_none (seen_fault now.least)) ∙ h.faults;
  words = h.words;
}

pub so_far_step : {A : Type 0} (all rest : Reading (List A)) (r : Reading A) (so_far more : Option (List A)) (x : Option A) (old now new : Reader)
    → IsSoFar all (made (λ p. p.0 ∷ p.1) (both r rest)) so_far old now → IsRead r x now new → more ≡ pushed so_far x → IsSoFar all rest more old new
so_far_step {A} all rest r so_far more x old now new h read is = record {
  value = ap (λ (o : Option (List A)). joined o rest.value) is ∙ joined_more so_far x rest.value
      ∙ ap (λ (o : Option A). joined so_far (option_map (λ (p : A × List A). p.0 ∷ p.1) (paired o rest.value))) read.value ∙ h.value;
  faults = ap (λ (o : Option Fault). noted o rest.faults) read.faults ∙ sym (noted_append (seen_fault now.least) r.faults rest.faults) ∙ h.faults;
  words = ap (λ (o : List (List ℕ)). distinct_behind o rest.words) read.words ∙ sym (distinct_append now.names r.words rest.words) ∙ h.words;
}

-- ---- what is made as a vector

seen_items : {X A : Type 0} (see : X → A) (o : Option (Vec X Global))
    → option_map (λ v. map see v.items) o ≡ option_map (λ (xs : List X). map see xs) (items_of o)
seen_items see None = refl
seen_items see (Some v) = refl

map_pushed : {X A : Type 0} (see : X → A) (so_far : Option (List X)) (next : Option X)
    → option_map (λ (xs : List X). map see xs) (pushed so_far next) ≡ pushed (option_map (λ (xs : List X). map see xs) so_far) (option_map see next)
map_pushed see None next = refl
map_pushed see (Some xs) None = refl
map_pushed see (Some xs) (Some x) = ap Some (map-append see xs (x ∷ []))

pub pushed_seen : {X A : Type 0} (see : X → A) (so_far more : Option (Vec X Global)) (next : Option X) → items_of more ≡ pushed (items_of so_far) next
    → option_map (λ v. map see v.items) more ≡ pushed (option_map (λ v. map see v.items) so_far) (option_map see next)
pushed_seen see so_far more next is =
    seen_items see more ∙ ap (λ (o : Option (List _)). option_map (λ xs. map see xs) o) is ∙ map_pushed see (items_of so_far) next
    ∙ ap (λ (o : Option (List _)). pushed o (option_map see next)) (sym (seen_items see so_far))

-- ---- each of a slice

module _ {X A B : Type 0} (see : X → A) (f : ℕ → A → Reading B) (xs : List X) (all : Reading (List B)) where
  pub each_from_step : (i : ℕ) (x : X) (so_far more : Option (List B)) (next : Option B) (old now new : Reader) → i < length xs → x ≡ get_or xs i x
      → IsRead (f i (see x)) next now new → more ≡ pushed so_far next
      → IsSoFar all (each_from f i (map see (drop i xs))) so_far old now → IsSoFar all (each_from f (i + 1) (map see (drop (i + 1) xs))) more old new
  each_from_step i x so_far more next old now new lt is read pushes h =
      let e : each_from f i (map see (drop i xs)) ≡ made (λ p. p.0 ∷ p.1) (both (f i (see x)) (each_from f (i + 1) (map see (drop (i + 1) xs)))) =
      ap (λ (ys : List X). each_from f i (map see ys)) (drop-cons xs i x lt)
      ∙ ap (λ (y : X). made (λ p. p.0 ∷ p.1) (both (f i (see y)) (each_from f (i + 1) (map see (drop (suc i) xs))))) (sym is)
      ∙ ap (λ (j : ℕ). made (λ p. p.0 ∷ p.1) (both (f i (see x)) (each_from f (i + 1) (map see (drop j xs))))) (sym (add-one i)) in
      so_far_step all (each_from f (i + 1) (map see (drop (i + 1) xs))) (f i (see x)) so_far more next old now new (rw e at h) read pushes

  -- the same as a function reads and pushes it
  pub each_from_read : {Y E : Type 0} (view : Y → B) (i : ℕ) (x : X) (so_far more : Option (Vec Y Global)) (next : Result (Option Y) E) (old now new : Reader)
      → i < length xs → x ≡ get_or xs i x
      → Reads (f i (see x)) view now new next → Pushes (items_of so_far) next (items_of more)
      → IsSoFar all (each_from f i (map see (drop i xs))) (option_map (λ v. map view v.items) so_far) old now
      → IsSoFar all (each_from f (i + 1) (map see (drop (i + 1) xs))) (option_map (λ v. map view v.items) more) old new
  each_from_read view i x so_far more (Ok next) old now new lt is read pushes h =
      each_from_step i x (option_map (λ v. map view v.items) so_far) (option_map (λ v. map view v.items) more) (option_map view next) old now new lt is read
      (pushed_seen view so_far more next pushes) h
  each_from_read view i x so_far more (Err e) old now new lt is read pushes h = absurd pushes

  pub each_from_end : (i : ℕ) (so_far : Option (List B)) (old now : Reader) → length xs ≤ i → IsSoFar all (each_from f i (map see (drop i xs))) so_far old now
      → IsRead all so_far old now
  each_from_end i so_far old now le h =
      let e : each_from f i (map see (drop i xs)) ≡ record { faults = []; words = []; value = Some [] } =
      ap (λ (ys : List X). each_from f i (map see ys)) (drop_all i xs le) in
      so_far_end all so_far old now (rw e at h)
