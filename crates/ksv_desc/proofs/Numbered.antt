-- The entries of an enum by their numbers.
use Rattle.std.proofs.Common.{◌≡◌, ℕ, suc, ◌<◌, cond, List, map, length, get_or, Some, slice_get, ℤ, sym, ap, ◌∙◌}
use Rattle.std.specs.Prelude.{find, option_map, option_and_then}
use Rattle.std.specs.Ordering.{int_eq}
use Rattle.std.specs.Cmp.{int_eq_equiv}
use Rattle.std.specs.HashMap.{HashMap, get}
use Rattle.ksv_desc.specs.declared.enums.EnumEntry.{EnumEntry}
use Rattle.ksv_desc.specs.Pieces.{plain_entry}
use Rattle.ksv_desc.specs.Code.{has_number, Puts, AreFirst}
use Rattle.ksv_desc.proofs.Firsts as firsts

module _ {S : Type 0} (entries : List EnumEntry) where
  -- a table has the places of the entries from k on
  abbrev pub AreFirstFrom : ℕ → HashMap ℤ ℕ S → Type 0
  AreFirstFrom k places = firsts.AreFirstFrom has_number entries k (get int_eq places)

  pub one_before : (k j : ℕ) (entry : EnumEntry) (places more : HashMap ℤ ℕ S) → k ≡ suc j → j < length entries → entry ≡ get_or entries j entry
      → Puts places more entry.number j → AreFirstFrom k places → AreFirstFrom j more
  one_before k j entry places more next within is put from =
      firsts.one_before has_number entries k j entry _ _ next within is
      (λ number. put.found number ∙ ap (λ b. cond b (Some j) (get int_eq places number)) (int_eq_equiv.symm entry.number number)) from

  -- the first entry of a number is that at its place
  pub first_is : (places : HashMap ℤ ℕ S) (number : ℤ) → AreFirst entries places
      → find (λ m. int_eq number m.number) (map plain_entry entries) ≡ option_map plain_entry (option_and_then (slice_get entries) (get int_eq places number))
  first_is places number h =
      firsts.find_seen plain_entry (λ m. int_eq number m.number) entries
      ∙ ap (option_map plain_entry) (sym (firsts.first_there (has_number number) entries) ∙ ap (option_and_then (slice_get entries)) (sym (h.found number)))
