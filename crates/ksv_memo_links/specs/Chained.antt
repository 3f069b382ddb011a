-- Entries in blocks, and for each list the chain of its entries.
use Rattle.std.specs.Prelude.{◌≡◌, ◌≢◌, ℕ, zero, suc, ◌+◌, ◌^◌, ◌<◌, ◌≤◌, List, [], ◌∷◌, length, map, slice_index_or}
use Rattle.ksv_memo_links.specs.declared.blocks.Item.{Item}
use Rattle.ksv_memo_links.specs.declared.blocks.Entry.{Entry}
use Rattle.ksv_memo_links.specs.declared.blocks.Block.{Block}
use Rattle.ksv_memo_links.specs.Shelved.{row}
use Rattle.ksv_memo_links.specs.Linked.{at, item_at, naming}

-- what contracts see of the chains: the lists that each owner is linked to, the items of each list with the places of their
-- entries, the looks
pub record Chained : Type 0 where
  pub named : List (List ℕ)
  pub lists : List (List Item)
  pub looks : ℕ

-- the entry at a place, the block of an owner
abbrev pub entry_at : List Entry → ℕ → Entry
entry_at entries p = slice_index_or entries p (record { owner = 0; list = 0; next = 0; before = 0 })

abbrev pub block_at : List Block → ℕ → Block
block_at blocks s = slice_index_or blocks s (record { begin = 0; count = 0 })

abbrev pub first_at : List ℕ → ℕ → ℕ
first_at first l = slice_index_or first l 0

-- the lists of the entries of a block
abbrev pub lists_in : List Entry → ℕ → ℕ → List ℕ
lists_in entries begin zero = []
lists_in entries begin (suc n) = (entry_at entries begin).list ∷ lists_in entries (begin + 1) n

-- the lists that each owner is linked to
abbrev pub named_of : List Entry → List Block → List (List ℕ)
named_of entries blocks = map (λ (b : Block). lists_in entries b.begin b.count) blocks

-- where this many steps along `next` lead to from a place
abbrev pub hop : List Entry → ℕ → ℕ → ℕ
hop entries p zero = p
hop entries p (suc i) = (entry_at entries (hop entries p i)).next

-- the items that this many steps find, each with the place of its entry
abbrev pub items_from : List Entry → ℕ → ℕ → List Item
items_from entries p zero = []
items_from entries p (suc n) = at (entry_at entries p).owner p ∷ items_from entries (entry_at entries p).next n

-- of the lists from l on, the items: as many as entries name the list
abbrev pub rows_from : List Entry → List (List ℕ) → ℕ → List ℕ → List (List Item)
rows_from entries named l [] = []
rows_from entries named l (f ∷ first) = items_from entries f (naming named l) ∷ rows_from entries named (l + 1) first

abbrev pub lists_of : List Entry → List Block → List ℕ → List (List Item)
lists_of entries blocks first = rows_from entries (named_of entries blocks) 0 first

-- where this many steps from a place have come from: 0 at the place itself
abbrev pub before_of : List Entry → ℕ → ℕ → ℕ
before_of entries p zero = 0
before_of entries p (suc i) = hop entries p i

-- from a place, n entries of list l, and no more, follow each other in both directions
pub record IsChain (entries : List Entry) (l p n : ℕ) : Type 0 where
  pub some : (i : ℕ) → i < n → 0 < hop entries p i
  pub inside : (i : ℕ) → i < n → hop entries p i < length entries
  pub of : (i : ℕ) → i < n → (entry_at entries (hop entries p i)).list ≡ l
  pub back : (i : ℕ) → i < n → (entry_at entries (hop entries p i)).before ≡ before_of entries p i
  pub ends : hop entries p n ≡ 0

-- a place is one of the block of an owner
pub record IsLive (blocks : List Block) (s p : ℕ) : Type 0 where
  pub from : (block_at blocks s).begin ≤ p
  pub until : p < (block_at blocks s).begin + (block_at blocks s).count

-- each list's chain has as many entries as name it; each entry of a block is in the chain of its list, and each of a chain
-- in the block of its owner
pub record IsChained (entries : List Entry) (blocks : List Block) (first : List ℕ) : Type 0 where
  pub chains : (l : ℕ) → IsChain entries l (first_at first l) (naming (named_of entries blocks) l)
  pub inside : (s p : ℕ) → IsLive blocks s p → p < length entries
  pub owner : (s p : ℕ) → IsLive blocks s p → (entry_at entries p).owner ≡ s
  pub found : (s p : ℕ) → IsLive blocks s p → (i : ℕ) × (i < naming (named_of entries blocks) (entry_at entries p).list) × (hop entries (first_at first (entry_at entries p).list) i ≡ p)
  pub live : (l i : ℕ) → i < naming (named_of entries blocks) l → IsLive blocks (entry_at entries (hop entries (first_at first l) i)).owner (hop entries (first_at first l) i)
  pub fits : length entries < 2 ^ 32

-- an entry is taken out of its chain
pub record Unlinks (old new : List Entry) (first now : List ℕ) (p : ℕ) : Type 0 where
  pub places : length new ≡ length old
  pub size : length now ≡ length first
  pub owner : (q : ℕ) → (entry_at new q).owner ≡ (entry_at old q).owner
  pub named : (q : ℕ) → (entry_at new q).list ≡ (entry_at old q).list
  pub next : (entry_at old p).before ≢ 0 → (entry_at new (entry_at old p).before).next ≡ (entry_at old p).next
  pub nexts : (q : ℕ) → 0 < q → q ≢ (entry_at old p).before → (entry_at new q).next ≡ (entry_at old q).next
  pub before : (entry_at new (entry_at old p).next).before ≡ (entry_at old p).before
  pub befores : (q : ℕ) → q ≢ (entry_at old p).next → (entry_at new q).before ≡ (entry_at old q).before
  pub begins : (entry_at old p).before ≡ 0 → first_at now (entry_at old p).list ≡ (entry_at old p).next
  pub stays : (entry_at old p).before ≢ 0 → first_at now (entry_at old p).list ≡ first_at first (entry_at old p).list
  pub others : (l : ℕ) → l ≢ (entry_at old p).list → first_at now l ≡ first_at first l

-- an entry of an owner is put before the first of a list
pub record Links (old new : List Entry) (first now : List ℕ) (p owner list : ℕ) : Type 0 where
  pub places : length new ≡ length old
  pub size : length now ≡ length first
  pub here : ((entry_at new p).owner ≡ owner) × ((entry_at new p).list ≡ list) × ((entry_at new p).next ≡ first_at first list) × ((entry_at new p).before ≡ 0)
  pub owners : (q : ℕ) → q ≢ p → (entry_at new q).owner ≡ (entry_at old q).owner
  pub lists : (q : ℕ) → q ≢ p → (entry_at new q).list ≡ (entry_at old q).list
  pub nexts : (q : ℕ) → q ≢ p → (entry_at new q).next ≡ (entry_at old q).next
  pub before : (entry_at new (first_at first list)).before ≡ p
  pub befores : (q : ℕ) → q ≢ p → q ≢ first_at first list → (entry_at new q).before ≡ (entry_at old q).before
  pub begins : first_at now list ≡ p
  pub others : (l : ℕ) → l ≢ list → first_at now l ≡ first_at first l

-- a place is of no block but that of an owner
abbrev pub IsFree : List Block → ℕ → ℕ → Type 0
IsFree blocks s p = (t : ℕ) → t ≢ s → IsLive blocks t p → ⊥

-- the items of a list are the owners that name it, and no more than name it; no two of them have the same place, and none has
-- place 0
pub record IsListed (lists : List (List Item)) (named : List (List ℕ)) : Type 0 where
  pub owners : (l i : ℕ) → i < length (row lists l) → (k : ℕ) × (k < length (row named (item_at lists l i).owner)) × (slice_index_or (row named (item_at lists l i).owner) k 0 ≡ l)
  pub found : (s k : ℕ) → k < length (row named s) → (i : ℕ) × (i < length (row lists (slice_index_or (row named s) k 0))) × ((item_at lists (slice_index_or (row named s) k 0) i).owner ≡ s)
  pub few : (l : ℕ) → length (row lists l) ≤ naming named l
  pub apart : (l i j : ℕ) → i < j → j ≤ length (row lists l) → (item_at lists l i).at ≢ (item_at lists l j).at

-- from a place on there is room for this many entries of an owner: the entries there name it
pub record IsRoom (entries : List Entry) (owner begin count : ℕ) : Type 0 where
  pub some : 0 < begin
  pub inside : begin + count ≤ length entries
  pub named : (i : ℕ) → i < count → (entry_at entries (begin + i)).owner ≡ owner

-- there is room for this many entries more from a place on, after all others
pub record IsExtended (old new : List Entry) (begin count : ℕ) : Type 0 where
  pub some : 0 < begin
  pub after : length old ≤ begin
  pub places : begin + count ≤ length new
  pub fits : length new < 2 ^ 32
  pub each : (p : ℕ) → entry_at new p ≡ entry_at old p
