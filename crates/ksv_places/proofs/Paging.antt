-- A number put into a page of a table, whose descent doesn't take its index.
use Rattle.ksv_places.proofs.Common.{◌≡◌, inl, inr, ℕ, ◌-◌, ◌≤◌, false, List, [], length, get_or, set, ◌∙◌, ap, arith, common_steps}
use Rattle.ksv_places.proofs.Common.{nat_tests, number_at, part_at, first_of_both, table_at, Pages, IsPut, IsApart, IsPartOf, refl, cases_eq}
use Rattle.std.proofs.Common.{◌/◌, ◌%◌}
use Rattle.std.proofs.lemmas.List.{get_or_past}
use Rattle.ksv_places.specs.Table.{descent_at, takes, page_at, Downwards}
use Rattle.ksv_places.proofs.Replacing as parts

-- such an index has no number in the descent
apart_from : (d : Downwards) (i : ℕ) → takes d i ≡ false → descent_at d i ≡ 0
apart_from d i e = grind (arith, common_steps, nat_tests, get_or_past d.down (d.top - i) 0)

far_at : (t : Pages) (i : ℕ) → 1024 ≤ i → table_at t i ≡ first_of_both (descent_at t.descent i) (page_at t i)
far_at t i far = grind (arith, common_steps, nat_tests)

module _ (t : Pages) (starts : List ℕ) (pages : List (List ℕ)) (i n : ℕ) (apart : IsApart (number_at starts) (length pages))
    (part : IsPartOf (number_at starts) (length pages) (i / 1024) n)
    (same : (q : ℕ) → part_at [] pages (number_at starts q) ≡ part_at [] t.pages (number_at t.starts q)) (page : List ℕ) where
  abbrev after : Pages
  after = record { near = t.near; descent = t.descent; starts = starts; pages = set pages (n - 1) page }

  mine : part_at [] after.pages (number_at starts (i / 1024)) ≡ page
  mine = parts.mine [] t.starts starts t.pages pages (i / 1024) n apart part same page

  old : part_at [] t.pages (number_at t.starts (i / 1024)) ≡ get_or pages (n - 1) []
  old = parts.old [] t.starts starts t.pages pages (i / 1024) n apart part same page

  -- what another index finds: in another page, or in this one
  found : (k : ℕ) → (k / 1024 ≡ i / 1024 → number_at page (k % 1024) ≡ number_at (get_or pages (n - 1) []) (k % 1024)) → page_at after k ≡ page_at t k
  found k e = elim (cases_eq (k / 1024) (i / 1024)) [
    | inl f ↦ rw (f, mine, old) (e f)
    | inr f ↦ rw (parts.others [] t.starts starts t.pages pages (i / 1024) n apart part same page (k / 1024) f) refl
  ]

  in_table : (k : ℕ) → page_at after k ≡ page_at t k → table_at after k ≡ table_at t k
  in_table k e = rw e refl

  -- a number was put
  pub page_put : (c : ℕ) → 1024 ≤ i → takes t.descent i ≡ false → IsPut (number_at (get_or pages (n - 1) [])) (number_at page) (i % 1024) c
      → IsPut (table_at t) (table_at after) i c
  page_put c far alone put = record {
    here = far_at after i far ∙ rw (apart_from t.descent i alone, mine) put.here;
    other = λ k ne. in_table k (found k (λ e. put.other (k % 1024) (λ f. ne (omega arith))));
  }

  -- and where none was
  pub page_same : page ≡ get_or pages (n - 1) [] → table_at after ≡ table_at t
  page_same e = λ j k. in_table k (found k (λ f. ap (λ x. number_at x (k % 1024)) e)) j
