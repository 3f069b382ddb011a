-- Each slot is linked to the lists of its uses, also when one more has uses, or has none any more.
use Rattle.ksv_memo_links.proofs.Common.{◌≡◌, inl, inr, ℕ, ◌-◌, ◌<◌, List, length, map, set, ap, arith, eqb_tells}
use Rattle.ksv_memo_links.proofs.Common.{length-set, length-map, length-append, Use, Item, pages_in, ends_in, lists_of_uses, list_of_page}
use Rattle.std.proofs.Common.{◌^◌, Option}
use Rattle.std.specs.Option.{option_to_list}
use Rattle.ksv_memo_links.specs.Placed.{IsMet, list_of_end}
use Rattle.ksv_memo_links.proofs.Edits.{row_set, row_other}

pub met-put : {rows then : List (List Use)} {named now : List (List ℕ)} {lists : List (List Item)} (lists2 : List (List Item)) (slot : ℕ) (us : List Use)
    → IsMet rows named lists → now ≡ set named slot (lists_of_uses us) → length lists2 < 2 ^ 32 → slot < length rows → then ≡ set rows slot us
    → IsMet then now lists2
met-put {rows} {named} lists2 slot us h e fits lt f = record {
  wide = omega (arith, ap length f, length-set rows slot us, ap length e, length-set named slot (lists_of_uses us));
  each = λ s. elim (eqb_tells s slot) [
    | inl q ↦ cc (row_set named slot (lists_of_uses us) (omega arith), row_set rows slot us lt)
    | inr q ↦ cc (row_other named slot s (lists_of_uses us) q.1, h.each s, row_other rows slot s us q.1)
  ];
  fits = fits;
}

-- how many of the lists of uses are those of pages
pub pages-among : (us : List Use) (end : Option ℕ) {n : ℕ} → option_to_list end ≡ ends_in us → n ≡ length (lists_of_uses us)
    → n - length (option_to_list end) ≡ length (pages_in us)
pages-among us end e c =
    omega (
      arith,
      length-append (map list_of_page (pages_in us)) (map list_of_end (ends_in us)),
      length-map (pages_in us) list_of_page,
      length-map (ends_in us) list_of_end,
      ap length e,
    )
