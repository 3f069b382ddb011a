-- A touched use meets a page that the overwrite meets, or meets a page or ends after the insert or the delete.
use Rattle.ksv_memo_links.proofs.Common.{◌≡◌, ◌⊎◌, inl, inr, ℕ, zero, suc, ◌+◌, ◌-◌, ◌/◌, ◌<◌, ◌≤◌, max, Bool, true, false, cond, nat_lt, List, [], ◌∷◌, length}
use Rattle.ksv_memo_links.proofs.Common.{get_or, Contains, refl, ap, subst, arith, cases_lt, Contains-append_left, Contains-append_right, Contains-push}
use Rattle.ksv_memo_links.proofs.Common.{Use, Bytes, numbers_from, pages_in, farthest, ends_in, first_page, end_page}
use Rattle.std.specs.List.{list_any}
use Rattle.std.proofs.lemmas.Bool.Decides.{Decides-and, Decides-ltb}
use Rattle.std.proofs.lemmas.List.Folds.{Any-from_list_any, list_any-from_Any}
use Rattle.ksv_bytes.specs.declared.uses.Use.TheVariants.{Reach, Size}
use Rattle.ksv_bytes.specs.declared.uses.Change.TheVariants.{Overwrite, Insert, Delete, Append}
use Rattle.ksv_bytes.specs.Uses.{is_use_touched}
use Rattle.ksv_memo_links.specs.Touching.{pages_end, pages_of, is_size, reach_of, end_at}

head-in : {X : Type 0} (x : X) (xs : List X) → Contains (x ∷ xs) x
head-in x xs = Contains-append_left (x ∷ []) xs x (Contains-push [] x)

tail-in : {X : Type 0} (y : X) (xs : List X) (x : X) → Contains xs x → Contains (y ∷ xs) x
tail-in y xs x h = Contains-append_right (y ∷ []) xs x h

pub numbers-in : (first n g : ℕ) → first ≤ g → g < first + n → Contains (numbers_from first n) g
numbers-in first zero g le lt = absurd (omega arith)
numbers-in first (suc n) g le lt = by (cases_lt first g) (λ l. numbers-in (first + 1) n g l (omega arith))
  where
    here_it : first ≡ g → Contains (first ∷ numbers_from (first + 1) n) g
    here_it e = subst (Contains (first ∷ numbers_from (first + 1) n)) e (head-in first (numbers_from (first + 1) n))

    by : (first < g) ⊎ (g ≤ first) → (first + 1 ≤ g → Contains (numbers_from (first + 1) n) g) → Contains (first ∷ numbers_from (first + 1) n) g
    by (inl l) later = tail-in first (numbers_from (first + 1) n) g (later (omega arith))
    by (inr l) later = here_it (omega arith)

-- the page at which they meet
pub record Meets (at n : ℕ) (pages : List ℕ) : Type 0 where
  pub page : ℕ
  pub there : Contains pages page
  pub from : first_page at ≤ page
  pub before : page < end_page at n

bytes-meet : (at n f t : ℕ) → f < at + n → at < t → Meets at n (pages_of (Bytes f t))
bytes-meet at n f t a b =
    let g = max f at / 64 in
    record {
      page = g;
      there = numbers-in _ _ _ (omega arith) (omega arith);
      from = omega arith;
      before = omega arith;
    }

use-meets : (at n : ℕ) (u : Use) → is_use_touched (Overwrite at n) u ≡ true → Meets at n (pages_of u)
use-meets at n (Bytes f t) e = let k = (Decides-and (nat_lt f (at + n)) (nat_lt at t) (Decides-ltb f (at + n)) (Decides-ltb at t)).0 e in bytes-meet at n f t
    k.0 k.1
use-meets at n (Reach t) e = absurd (cc)
use-meets at n Size e = absurd (cc)

-- a page of one use is among those of all
part-in : (us : List Use) (k : ℕ) {u : Use} (g : ℕ) → k < length us → get_or us k u ≡ u → Contains (pages_of u) g → Contains (pages_in us) g
part-in [] k g lt e h = absurd (omega arith)
part-in (v ∷ us) zero g lt e h = Contains-append_left (pages_of v) (pages_in us) g (rw e h)
part-in (v ∷ us) (suc k) {u} g lt e h = Contains-append_right _ _ _ (part-in us k g (omega arith) e h)

pub uses-meet : (at n : ℕ) (us : List Use) → list_any (is_use_touched (Overwrite at n)) us ≡ true → Meets at n (pages_in us)
uses-meet at n us e =
    let a = Any-from_list_any (is_use_touched (Overwrite at n)) us e in
    let m = use-meets at n a.1 a.4 in
    record { page = m.page; there = part-in us a.0 m.page a.2 a.3 m.there; from = m.from; before = m.before }

-- ---- an insert or a delete
-- a use ends after a place, or is of the size
abbrev pub IsPast : ℕ → Use → Type 0
IsPast at (Bytes f t) = at < t
IsPast at (Reach t) = at < t
IsPast at Size = Unit {0}

past-insert : (at n : ℕ) (u : Use) → is_use_touched (Insert at n) u ≡ true → IsPast at u
past-insert at n (Bytes f t) e = (Decides-ltb at t).0 e
past-insert at n (Reach t) e = (Decides-ltb at t).0 e
past-insert at n Size e = tt

past-delete : (at n : ℕ) (u : Use) → is_use_touched (Delete at n) u ≡ true → IsPast at u
past-delete at n (Bytes f t) e = (Decides-ltb at t).0 e
past-delete at n (Reach t) e = (Decides-ltb at t).0 e
past-delete at n Size e = tt

-- the page that they meet there, or where they end
abbrev pub EndsPast : ℕ → List Use → Type 0
EndsPast at us = ((g : ℕ) × Contains (pages_in us) g × (first_page at ≤ g)) ⊎ ((l : ℕ) × Contains (ends_in us) l × ((l ≡ 0) ⊎ (first_page at < l)))

farthest-most : (us : List Use) (k : ℕ) (u : Use) → k < length us → get_or us k u ≡ u → reach_of u ≤ farthest us
farthest-most [] k u lt e = absurd (omega arith)
farthest-most (v ∷ us) zero u lt e = omega (arith, ap reach_of e)
farthest-most (v ∷ us) (suc k) u lt e = omega (arith, farthest-most us k u (omega arith) e)

pub size-ends : (us : List Use) → list_any is_size us ≡ true → Contains (ends_in us) 0
size-ends us e = rw (ap (λ b. cond b (0 ∷ []) (end_at (farthest us))) e) (head-in 0 [])

end-past : (at f : ℕ) → at < f → (l : ℕ) × Contains (end_at f) l × (first_page at < l)
end-past at zero lt = absurd (omega arith)
end-past at (suc f) lt = (f / 64 + 1, head-in (f / 64 + 1) [], omega arith)

reach-past : (at : ℕ) (us : List Use) → at < farthest us → EndsPast at us
reach-past at us lt = by (list_any is_size us) refl
  where
    by : (b : Bool) → list_any is_size us ≡ b → EndsPast at us
    by true e = inr (0, size-ends us e, inl refl)
    by false e =
        let x = end-past at (farthest us) lt in
        inr (x.0, rw (ap (λ b. cond b (0 ∷ []) (end_at (farthest us))) e) x.1, inr x.2)

use-past : (at : ℕ) (us : List Use) (k : ℕ) (u : Use) → k < length us → get_or us k u ≡ u → IsPast at u → EndsPast at us
use-past at us k (Bytes f t) lt e p =
    let g = max f (t - 1) / 64 in
    inl (g, part-in us k g lt e (numbers-in (f / 64) (pages_end f t - f / 64) g (omega arith) (omega arith)), omega arith)
use-past at us k (Reach t) lt e p = let n = farthest-most us k (Reach t) lt e in reach-past at us (omega arith)
use-past at us k Size lt e p = inr (0, size-ends us (list_any-from_Any is_size us (k, Size, lt, e, refl)), inl refl)

pub insert-past : (at n : ℕ) (us : List Use) → list_any (is_use_touched (Insert at n)) us ≡ true → EndsPast at us
insert-past at n us e = let a = Any-from_list_any (is_use_touched (Insert at n)) us e in use-past at us a.0 a.1 a.2 a.3 (past-insert at n a.1 a.4)

pub delete-past : (at n : ℕ) (us : List Use) → list_any (is_use_touched (Delete at n)) us ≡ true → EndsPast at us
delete-past at n us e = let a = Any-from_list_any (is_use_touched (Delete at n)) us e in use-past at us a.0 a.1 a.2 a.3 (past-delete at n a.1 a.4)

-- what an append touches is of the size
append-size : (u : Use) → is_use_touched Append u ≡ true → is_size u ≡ true
append-size Size e = refl
append-size _ e = e

pub append-ends : (us : List Use) → list_any (is_use_touched Append) us ≡ true → Contains (ends_in us) 0
append-ends us e = let a = Any-from_list_any (is_use_touched Append) us e in size-ends us
    (list_any-from_Any is_size us (a.0, a.1, a.2, a.3, append-size a.1 a.4))
