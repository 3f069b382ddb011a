-- The uses of a slot as a list, and the lists in which a slot with these uses is.
use Rattle.std.specs.Prelude.{◌≡◌, ℕ, ◌<◌, ◌≤◌, ◌^◌, ◌+◌, ◌*◌, ◌++◌, Bool, true, false, List, [], ◌∷◌, length, map}
use Rattle.ksv_bytes.specs.declared.uses.Use.{Use}
use Rattle.ksv_memo_links.specs.declared.blocks.Item.{Item}
use Rattle.ksv_memo_links.specs.declared.used.Noted.{Noted}
use Rattle.ksv_memo_links.specs.declared.used.Noted.TheVariants.{Nothing, One as OneUse, Many as ManyUses}
use Rattle.ksv_memo_links.specs.Shelved.{row}
use Rattle.ksv_memo_links.specs.Touching.{pages_in, ends_in}

abbrev pub uses_of : Noted → List Use
uses_of Nothing = []
uses_of (OneUse used) = used ∷ []
uses_of (ManyUses uses) = uses.value.items

-- the lists of ends and of pages take turns: this is the number of that of an end, and of a page
abbrev pub list_of_end : ℕ → ℕ
list_of_end end = 2 * end

abbrev pub list_of_page : ℕ → ℕ
list_of_page page = 2 * page + 1

-- the lists in which a slot with these uses is: that of each page that each of them meets, and that of where they end
abbrev pub lists_of_uses : List Use → List ℕ
lists_of_uses us = map list_of_page (pages_in us) ++ map list_of_end (ends_in us)

-- of lists that take turns, every other one, from the first or from the second on
abbrev pub every_other : {X : Type 0} → Bool → List X → List X
every_other first [] = []
every_other true (x ∷ xs) = x ∷ every_other false xs
every_other false (x ∷ xs) = every_other true xs

-- the lists of ends, and of pages
abbrev pub end_lists : {X : Type 0} → List X → List X
end_lists lists = every_other true lists

abbrev pub page_lists : {X : Type 0} → List X → List X
page_lists lists = every_other false lists

-- each slot is linked to the lists of its uses
pub record IsMet (rows : List (List Use)) (named : List (List ℕ)) (lists : List (List Item)) : Type 0 where
  pub wide : length rows ≤ length named
  pub each : (s : ℕ) → row named s ≡ lists_of_uses (row rows s)
  pub fits : length lists < 2 ^ 32

-- what contracts see of the uses: those of each slot, the lists in which slots stand by them, and the looks
pub record Used : Type 0 where
  pub rows : List (List Use)
  pub lists : List (List Item)
  pub looks : ℕ
