-- What a run uses fits the bytes: a used range isn't empty, and the bytes reach each used place.
use Rattle.ksv_nodes.proofs.Common.{◌≡◌, ℕ, ◌+◌, ◌<◌, List, [], ◌∷◌, ◌++◌, length, Option, Some, None, Result, Ok, Err, Bool, true, false, ◌==◌, if◌then◌else◌}
use Rattle.ksv_nodes.proofs.Common.{refl, arith, slice_range, AllByRecursion, Answer, Fail, Ask, next, run, behind, Use, Fault, Given, Node, Reading, first_at}
use Rattle.ksv_nodes.proofs.Common.{look, Rule, Of, See, State, replied, seen_in, turns}
use Rattle.std.proofs.Common.{◌&&◌, nat_lt, nat_le}
use Rattle.std.proofs.lemmas.Bool.{leb-true, ltb-true}
use Rattle.ksv_bytes.specs.declared.uses.Use.TheVariants as uses
use Rattle.ksv_bytes.specs.Uses.{CanUse}
use Rattle.ksv_expr_value.specs.Places.{byte_in}
use Rattle.ksv_nodes.specs.Reading.{Reach, Finish, Done, Peek, Find, gives, ends_before, reach_file, reach_within, finish_of, done_at, cut_uses, peek_at}
use Rattle.ksv_nodes.specs.Reading.{end_in, found_none, found_from, find_at}
use Rattle.ksv_nodes.proofs.First.{first_at_below}
use Rattle.ksv_nodes.proofs.Looks.{range_reaches}
use Rattle.ksv_memo_rules.proofs.Lists.{All-++}

module _ (b : List ℕ) where
  abbrev pub Fit : List Use → Type 0
  Fit us = AllByRecursion (CanUse b) us

  reach_file_fits : (t : ℕ) → Fit (reach_file b t).uses
  unfolding reach_file
  reach_file_fits t = by (nat_le t (length b)) refl
    where
      by : (d : Bool) → nat_le t (length b) ≡ d → Fit (if d then gives {A = Unit {0}} tt (uses.Reach t ∷ []) else ends_before (uses.Size ∷ [])).uses
      by true e = (leb-true t (length b) e, tt)
      by false e = (tt, tt)

  reach_fits : (to : Option ℕ) (t : ℕ) → Fit (reach_within b to t).uses
  unfolding reach_within
  reach_fits None t = reach_file_fits t
  reach_fits (Some end) t = by (nat_lt end t)
    where
      by : (c : Bool) → Fit (if c then ends_before {A = Unit {0}} [] else reach_file b t).uses
      by true = tt
      by false = reach_file_fits t

  finish_fits : (to : Option ℕ) → Fit (finish_of b to).uses
  unfolding finish_of
  finish_fits None = (tt, tt)
  finish_fits (Some end) = tt

  done_fits : (to : Option ℕ) (t : ℕ) → Fit (done_at b to t).uses
  unfolding done_at
  done_fits None t = by (nat_lt t (length b)) refl
    where
      by : (d : Bool) → nat_lt t (length b) ≡ d → Fit (if d then gives false (uses.Reach (t + 1) ∷ []) else gives true (uses.Size ∷ [])).uses
      by true e = (let lt : t < length b = ltb-true t (length b) e in omega arith, tt)
      by false e = (tt, tt)
  done_fits (Some end) t = tt

  cut_fits : (f : ℕ) → Fit (cut_uses b f)
  unfolding cut_uses
  cut_fits f = by (nat_lt f (length b)) refl
    where
      by : (c : Bool) → nat_lt f (length b) ≡ c → Fit (if c then uses.Size ∷ uses.Bytes f (length b) ∷ [] else uses.Size ∷ [])
      by true e = (tt, ((ltb-true f (length b) e, omega arith), tt))
      by false e = (tt, tt)

  peek_fits : (f t : ℕ) → Fit (peek_at b f t).uses
  unfolding peek_at
  peek_fits f t = by (f == t) (nat_le t (length b)) (nat_lt f t) refl refl
    where
      by : (z x y : Bool) → nat_le t (length b) ≡ x → nat_lt f t ≡ y
          → Fit (if z then gives [] [] else if x && y then gives (slice_range b f t) (uses.Bytes f t ∷ []) else ends_before (cut_uses b f)).uses
      by true x y e d = tt
      by false true true e d = ((ltb-true f t d, leb-true t (length b) e), tt)
      by false true false e d = cut_fits f
      by false false y e d = cut_fits f

  found_fits : (to : Option ℕ) (s x : ℕ) (o : Option ℕ) → first_at x (slice_range b s (end_in b to)) ≡ o → Fit (found_from b to s (end_in b to) o).uses
  unfolding found_from found_none
  found_fits to s x (Some i) e = ((omega arith, range_reaches b s (end_in b to) i (first_at_below x (slice_range b s (end_in b to)) i e)), tt)
  found_fits to s x None e = All-++ (CanUse b) (finish_of b to).uses (peek_at b s (end_in b to)).uses (finish_fits to) (peek_fits s (end_in b to))

  find_fits : (to : Option ℕ) (s x : ℕ) → Fit (find_at b to s x).uses
  unfolding find_at
  find_fits to s x = found_fits to s x (first_at x (slice_range b s (end_in b to))) refl

  -- what a reading rests on fits the bytes
  pub look_fits : (r : Reading) → Fit (look r b).uses
  look_fits (Reach w t) = reach_fits w.to t
  look_fits (Finish w) = finish_fits w.to
  look_fits (Done w p) = done_fits w.to (byte_in p)
  look_fits (Peek f t) = peek_fits f t
  look_fits (Find w s x) = find_fits w.to s x

-- where the uses fit before a run, they fit after it
abbrev pub StaysWithin : {A : Type 0} → Rule A → Type 0
StaysWithin p = (s : State) → Fit s.bytes s.uses → Fit s.bytes (behind (run turns p s)).uses

given_within : {A : Type 0} (n : Node) (k : Given → Rule A) → ((g : Given) → StaysWithin (k g)) → (s : State) → Fit s.bytes s.uses
    → (replies : List (Result Given Fault)) → Fit s.bytes (behind (next (replied n replies s) (λ g t. run turns (k g) t))).uses
given_within n k stays s h [] = h
given_within n k stays s h (Ok g ∷ rest) = stays g (record s { replies = rest }) h
given_within n k stays s h (Err f ∷ rest) = h

seen_within : {A X : Type 0} (k : X → Rule A) → ((x : X) → StaysWithin (k x)) → (s : State) → Fit s.bytes s.uses → (o : Option X)
    → Fit s.bytes (behind (next (seen_in o s) (λ x t. run turns (k x) t))).uses
seen_within k stays s h (Some x) = stays x s h
seen_within k stays s h None = h

-- a run uses only what fits the bytes
pub within : {A : Type 0} (p : Rule A) → StaysWithin p
within (Answer a) s h = h
within (Fail e) s h = h
within (Ask (Of n) k) s h = given_within n k (λ g. within (k g)) s h s.replies
within (Ask (See r) k) s h = seen_within k (λ x. within (k x)) (record s { uses = s.uses ++ (look r s.bytes).uses })
    (All-++ (CanUse s.bytes) s.uses (look r s.bytes).uses h (look_fits s.bytes r)) (look r s.bytes).seen
