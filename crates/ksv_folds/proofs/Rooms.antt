-- Where elements and fields are in the file.
use Rattle.std.proofs.Common.{◌≡◌, ◌∙◌, ◌==◌, ℕ, zero, suc, ◌+◌, ◌-◌, ◌<◌, ◌≤◌, Bool, true, false, if◌then◌else◌, length, None, Some, refl, ap}
use Rattle.std.proofs.Common.{subst, arith}
use Rattle.std.proofs.Math.Nat.{mul-suc, mul-zero}
use Rattle.std.proofs.lemmas.Bool.Decides.{nat_tests}
use Rattle.ksv_expr_value.specs.Places.{end_limit}
use Rattle.ksv_folds.specs.Lemmas.Parts.{edge_low, edge_next, edge_size, edge_some}
use Rattle.ksv_folds.specs.Lemmas.Starts.{begins, next_start}
use Rattle.ksv_folds.specs.Parts.{Starts, edge, start_in, are_starts}
use Rattle.ksv_folds.specs.Sequence.{says_sizes, start_of, edge_in, edge_of}
use Rattle.ksv_folds.specs.declared.plain_list.PlainList.{PlainList}

-- no field ends after what its element takes without the last one
pub part_in : (p : PlainList) (f : ℕ) → f ≤ length p.parts.items → edge p.parts.items f ≤ p.size
part_in p f few =
    let up = edge_low p.size p.parts.items p.rising f (length p.parts.items) few (omega arith) in
    let all = edge_size p.size p.parts.items p.rising in omega (arith, up, all)

module _ (p : PlainList) where
  -- ---- elements

  pub start_first : start_of p 0 ≡ p.first
  start_first = by p.starts p.started
    where
      by : (o : Starts) → are_starts o p.first p.size p.most (length p.parts.items) ≡ true → start_in o p.first p.size 0 ≡ p.first
      by None h = let none = mul-zero p.size in omega (arith, none)
      by (Some s) h = begins s p.first p.size p.most (length p.parts.items) h

  pub start_up : (i : ℕ) → i < p.most → start_of p i + p.size ≤ start_of p (suc i)
  start_up i low = by p.starts p.started
    where
      by : (o : Starts) → are_starts o p.first p.size p.most (length p.parts.items) ≡ true
          → start_in o p.first p.size i + p.size ≤ start_in o p.first p.size (suc i)
      by None h = let more = mul-suc p.size i in omega (arith, more)
      by (Some s) h = next_start s p.first p.size p.most (length p.parts.items) h i low

  more_up : (n i : ℕ) → i + n ≤ p.most → start_of p i ≤ start_of p (i + n)
  more_up zero i low = let same : i + 0 ≡ i = omega arith in rw same (omega arith)
  more_up (suc n) i low =
      let up = more_up n i (omega (arith, low)) in
      let next = start_up (i + n) (omega (arith, low)) in
      let same : i + suc n ≡ suc (i + n) = omega arith in rw same (omega (arith, up, next))

  pub start_low : (i j : ℕ) → i ≤ j → j ≤ p.most → start_of p i ≤ start_of p j
  start_low i j le low =
      let same : i + (j - i) ≡ j = omega (arith, le) in
      subst (λ k. start_of p i ≤ start_of p k) same (more_up (j - i) i (omega (arith, le, low)))

  pub start_room : (i : ℕ) → i ≤ p.most → start_of p i ≤ end_limit
  start_room i low = let up = start_low i p.most low (omega arith) in let room = p.room in omega (arith, up, room)

  -- ---- fields

  -- a field ends with its element at the latest
  pub edge_within : (i f : ℕ) → i < p.most → f ≤ length p.parts.items → edge_of p i f ≤ start_of p (suc i)
  edge_within i f low few = by (says_sizes p)
    where
      near : start_of p i + edge p.parts.items f ≤ start_of p (suc i)
      near = let up = start_up i low in let within = part_in p f few in omega (arith, up, within)

      by : (b : Bool) → edge_in b p i f ≤ start_of p (suc i)
      by false = near
      by true = last (f == length p.parts.items)
        where
          last : (b : Bool) → (if b then start_of p (suc i) else start_of p i + edge p.parts.items f) ≤ start_of p (suc i)
          last true = omega arith
          last false = near

  pub edge_room : (i f : ℕ) → i < p.most → f ≤ length p.parts.items → edge_of p i f ≤ end_limit
  edge_room i f low few = let up = edge_within i f low few in let room = start_room (suc i) low in omega (arith, up, room)

  -- a field that isn't the last begins, and ends, by its parts
  pub edge_is : (i f : ℕ) → f < length p.parts.items → edge_of p i f ≡ start_of p i + edge p.parts.items f
  edge_is i f few = by (says_sizes p)
    where
      by : (b : Bool) → edge_in b p i f ≡ start_of p i + edge p.parts.items f
      by false = refl
      by true =
          let other : (f == length p.parts.items) ≡ false = grind (arith, nat_tests) in
          ap (λ b. if b then start_of p (suc i) else start_of p i + edge p.parts.items f) other

  pub last_edge : (i f : ℕ) → says_sizes p ≡ true → f ≡ length p.parts.items → edge_of p i f ≡ start_of p (suc i)
  last_edge i f e same =
      let so : (f == length p.parts.items) ≡ true = grind (arith, nat_tests) in
      ap (λ b. edge_in b p i f) e ∙ ap (λ b. if b then start_of p (suc i) else start_of p i + edge p.parts.items f) so

  -- fields end one after the other, and none where its element begins
  pub edge_up : (i f : ℕ) → i < p.most → f < length p.parts.items → edge_of p i f ≤ edge_of p i (suc f)
  edge_up i f low few = by (says_sizes p) (edge_is i f few)
    where
      next : start_of p i + edge p.parts.items f ≤ start_of p i + edge p.parts.items (suc f)
      next = let up = edge_next p.size p.parts.items p.rising f few in omega (arith, up)

      by : (b : Bool) → edge_of p i f ≡ start_of p i + edge p.parts.items f → edge_of p i f ≤ edge_in b p i (suc f)
      by false e = omega (arith, next, e)
      by true e = last (suc f == length p.parts.items)
        where
          last : (b : Bool) → edge_of p i f ≤ (if b then start_of p (suc i) else start_of p i + edge p.parts.items (suc f))
          last true = let up = start_up i low in let within = part_in p f (omega (arith, few)) in omega (arith, e, up, within)
          last false = omega (arith, next, e)

  pub edge_above : (i f : ℕ) → i < p.most → f < length p.parts.items → start_of p i < edge_of p i (suc f)
  edge_above i f low few = by (says_sizes p)
    where
      above : start_of p i < start_of p i + edge p.parts.items (suc f)
      above = let some = edge_some p.size p.parts.items p.rising f few in omega (arith, some)

      by : (b : Bool) → start_of p i < edge_in b p i (suc f)
      by false = above
      by true = last (suc f == length p.parts.items)
        where
          last : (b : Bool) → start_of p i < (if b then start_of p (suc i) else start_of p i + edge p.parts.items (suc f))
          last true = let up = start_up i low in let some = p.some in omega (arith, up, some)
          last false = above

  -- where a field begins or ends by its parts is in the file
  pub near_room : (i f : ℕ) → i < p.most → f ≤ length p.parts.items → start_of p i + edge p.parts.items f ≤ end_limit
  near_room i f low few =
      let up = start_up i low in let within = part_in p f few in let room = start_room (suc i) low in omega (arith, up, within, room)

  pub first_room : p.first ≤ end_limit
  first_room = let at = start_first in let room = start_room 0 (omega arith) in omega (arith, at, room)
