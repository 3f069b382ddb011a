-- Items of lists, and how often lists are named.
use Rattle.std.specs.Prelude.{ℕ, nat_eq, cond, List, slice_index_or, sum_by}
use Rattle.ksv_memo_links.specs.declared.blocks.Item.{Item}
use Rattle.ksv_memo_links.specs.Shelved.{row}

abbrev pub at : ℕ → ℕ → Item
at s p = record { owner = s; at = p }

-- the item at a place of a list
abbrev pub item_at : List (List Item) → ℕ → ℕ → Item
item_at lists l i = slice_index_or (row lists l) i (at 0 0)

abbrev pub one_if : ℕ → ℕ → ℕ
one_if a b = cond (nat_eq a b) 1 0

-- how many of these rows' numbers name a list
abbrev pub naming : List (List ℕ) → ℕ → ℕ
naming rows l = sum_by (λ ns. sum_by (one_if l) ns) rows
