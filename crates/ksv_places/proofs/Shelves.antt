-- A number put into a path's table.
use Rattle.ksv_places.proofs.Common.{◌≡◌, ◌≢◌, inl, inr, ℕ, ◌-◌, List, length, get_or, set, ap, number_at, part_at}
use Rattle.ksv_places.proofs.Common.{table_at, shelf_at, Pages, IsPut, IsPutAt, IsApart, IsPartOf, refl, cases_eq}
use Rattle.ksv_places.specs.Table.{no_pages, Shelf}
use Rattle.ksv_places.proofs.Replacing as parts

module _ (s : Shelf) (starts : List ℕ) (tables : List Pages) (r n : ℕ) (apart : IsApart (number_at starts) (length tables))
    (part : IsPartOf (number_at starts) (length tables) r n)
    (same : (q : ℕ) → part_at no_pages tables (number_at starts q) ≡ part_at no_pages s.tables (number_at s.starts q)) (t : Pages) where
  abbrev after : Shelf
  after = record { starts = starts; tables = set tables (n - 1) t }

  mine : part_at no_pages after.tables (number_at starts r) ≡ t
  mine = parts.mine no_pages s.starts starts s.tables tables r n apart part same t

  old : part_at no_pages s.tables (number_at s.starts r) ≡ get_or tables (n - 1) no_pages
  old = parts.old no_pages s.starts starts s.tables tables r n apart part same t

  others : (q : ℕ) → q ≢ r → part_at no_pages after.tables (number_at starts q) ≡ part_at no_pages s.tables (number_at s.starts q)
  others = parts.others no_pages s.starts starts s.tables tables r n apart part same t

  -- a number was put
  pub shelf_put : (i c : ℕ) → IsPut (table_at (get_or tables (n - 1) no_pages)) (table_at t) i c → IsPutAt (shelf_at s) (shelf_at after) r i c
  shelf_put i c put = record {
    here = rw mine put.here;
    other = λ q k ne. elim (cases_eq q r) [
      | inl e ↦ rw (e, mine, old) (put.other k (λ f. ne (e, f)))
      | inr e ↦ rw (others q e) refl
    ];
  }

  -- and where none was
  pub shelf_same : table_at t ≡ table_at (get_or tables (n - 1) no_pages) → shelf_at after ≡ shelf_at s
  shelf_same e = λ i q k. all q k i
    where
      all : (q k : ℕ) → shelf_at after q k ≡ shelf_at s q k
      all q k = elim (cases_eq q r) [
        | inl f ↦ rw (f, mine, old) (ap (λ (at : ℕ → ℕ). at k) e)
        | inr f ↦ rw (others q f) refl
      ]
