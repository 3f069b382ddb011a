-- The table of the places of rows.
use Rattle.ksv_schema_names.proofs.Common.{◌≡◌, ℕ, suc, ◌<◌, Bool, ◌&&◌, List, map, length, get_or, drop, Option, Some, None, sym, ap, ◌∙◌, arith}
use Rattle.ksv_schema_names.proofs.Common.{position_from, bytes_eq, Row, row_in, row_of}
use Rattle.std.specs.Prelude.{IfSome}
use Rattle.std.proofs.lemmas.List.{length-map}
use Rattle.ksv_desc.proofs.Firsts as firsts
use Rattle.ksv_schema_names.proofs.Found.{row_within}
use Rattle.ksv_schema_names.specs.declared.row.Row.{Row as RowOfCode}
use Rattle.ksv_schema_names.specs.Rows.{is_within}
use Rattle.ksv_schema_names.specs.Placed.{Places, place_at, Puts, ArePlaced}

-- whether a row is in a type and has a name
abbrev is_named : ℕ × List ℕ → Row → Bool
is_named key r = is_within key.0 r && bytes_eq r.id key.1

abbrev seen_named : ℕ × List ℕ → RowOfCode → Bool
seen_named key r = is_named key (row_of r)

module _ {S : Type 0} (rows : List RowOfCode) where
  -- a table has the places of the rows from k on
  abbrev pub ArePlacedFrom : ℕ → Places S → Type 0
  ArePlacedFrom k places = firsts.AreFirstFrom seen_named rows k (λ key. place_at places key.0 key.1)

  -- of one row more, in front of those
  pub one_placed : (k j : ℕ) (row : RowOfCode) (old new : Places S) → k ≡ suc j → j < length rows → row ≡ get_or rows j row → Puts old new j (row_of row)
      → ArePlacedFrom k old → ArePlacedFrom j new
  one_placed k j row old new next within is put from =
      firsts.one_before seen_named rows k j row (λ key. place_at old key.0 key.1) (λ key. place_at new key.0 key.1) next within is
      (λ key. put.found key.0 key.1) from

  -- of all rows
  pub all_placed : (k : ℕ) (places : Places S) → k ≡ 0 → ArePlacedFrom k places → ArePlaced rows places
  unfolding row_in
  all_placed k places none from = record {
    found = λ n name.
        from (n, name) ∙ ap (λ (i : ℕ). position_from (seen_named (n, name)) i (drop i rows)) none
        ∙ firsts.position_seen row_of (is_named (n, name)) 0 rows;
  }

-- a row that is found is one of them
pub row_inside : (rows : List RowOfCode) (name : List ℕ) (n : ℕ) (place : Option ℕ) → place ≡ row_in (map row_of rows) name n
    → IfSome place (λ k. k < length rows)
row_inside rows name n None is = tt
row_inside rows name n (Some k) is =
    let below : k < length (map row_of rows) = row_within (map row_of rows) name n k (sym is) in
    omega (arith, length-map rows row_of)
