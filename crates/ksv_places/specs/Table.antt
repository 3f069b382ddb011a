-- Numbers by indices, some of which lie far apart: 0 for none.
use Rattle.std.specs.Prelude.{◌≡◌, ◌≢◌, ℕ, zero, suc, ◌<◌, ◌≤◌, ◌-◌, ◌/◌, ◌%◌, nat_lt, nat_le, nat_eq, Bool, ◌&&◌, ◌||◌, cond, List, [], length, slice_index_or}

-- the number of an index has changed, and nothing else
pub record IsPut (old new : ℕ → ℕ) (i c : ℕ) : Type 0 where
  pub here : new i ≡ c
  pub other : (k : ℕ) → k ≢ i → new k ≡ old k

-- that of an index of a path has, and nothing else
pub record IsPutAt (old new : ℕ → ℕ → ℕ) (r i c : ℕ) : Type 0 where
  pub here : new r i ≡ c
  pub other : (q k : ℕ) → ((q ≡ r) × (k ≡ i) → ⊥) → new q k ≡ old q k

-- the part of a number, which is one more than its place; of 0, or where there is none, this one
abbrev pub part_at : {T : Type 0} → T → List T → ℕ → T
part_at none parts zero = none
part_at none parts (suc n) = slice_index_or parts n none

-- no two indices have the same part
pub record IsApart (starts : ℕ → ℕ) (count : ℕ) : Type 0 where
  pub inside : (k : ℕ) → starts k ≤ count
  pub apart : (k l : ℕ) → 0 < starts k → starts k ≡ starts l → k ≡ l

-- an index has the part of this number
pub record IsPartOf (starts : ℕ → ℕ) (count : ℕ) (k n : ℕ) : Type 0 where
  pub some : 0 < n
  pub inside : n ≤ count
  pub number : starts k ≡ n

-- the number of an index in a list
abbrev pub number_at : List ℕ → ℕ → ℕ
number_at numbers i = slice_index_or numbers i 0

-- the numbers of a top index and of those below it, one after another
pub record Downwards : Type 0 where
  pub top : ℕ
  pub down : List ℕ

abbrev pub no_descent : Downwards
no_descent = record { top = 0; down = [] }

-- that of an index
abbrev pub descent_at : Downwards → ℕ → ℕ
descent_at d i = cond (nat_le i d.top) (number_at d.down (d.top - i)) 0

-- whether an index can have one there: any if there are none; else one of these, or the next below them
abbrev pub takes : Downwards → ℕ → Bool
takes d i = nat_eq (length d.down) 0 || (nat_le i d.top && nat_le (d.top - i) (length d.down))

-- a number; where it is 0, another
abbrev pub first_of_both : ℕ → ℕ → ℕ
first_of_both zero b = b
first_of_both (suc a) b = suc a

-- the numbers of the first 1,024 indices, the descent of those beyond, and their pages
pub record Pages : Type 0 where
  pub near : List ℕ
  pub descent : Downwards
  pub starts : List ℕ
  pub pages : List (List ℕ)

abbrev pub no_pages : Pages
no_pages = record { near = []; descent = no_descent; starts = []; pages = [] }

-- the number of an index in the pages
abbrev pub page_at : Pages → ℕ → ℕ
page_at t i = number_at (part_at [] t.pages (number_at t.starts (i / 1024))) (i % 1024)

-- of the first 1,024 indices the near one; of others the descent's if that is not 0, else the pages'
abbrev pub table_at : Pages → ℕ → ℕ
table_at t i = cond (nat_lt i 1024) (number_at t.near i) (first_of_both (descent_at t.descent i) (page_at t i))

-- the tables of paths
pub record Shelf : Type 0 where
  pub starts : List ℕ
  pub tables : List Pages

abbrev pub no_tables : Shelf
no_tables = record { starts = []; tables = [] }

abbrev pub shelf_at : Shelf → ℕ → ℕ → ℕ
shelf_at s r i = table_at (part_at no_pages s.tables (number_at s.starts r)) i
