-- How few looks an overwrite takes: what is near the bytes that it writes, and what goes. Pages have 64 bytes.
use Rattle.std.specs.Prelude.{ℕ, ◌+◌, ◌*◌, ◌<◌, ◌≤◌, List, length, filter, sum_by}
use Rattle.ksv_bytes.specs.declared.uses.Change.{Change}
use Rattle.ksv_bytes.specs.declared.uses.Change.TheVariants.{Overwrite, Insert, Delete, Append}
use Rattle.ksv_memo_links.specs.Touching.{pages_in}
use Rattle.ksv_memo_links.specs.Links.{pages_met, met_by}
use Rattle.ksv_memo_rules.specs.Meaning.{Standing}
use Rattle.ksv_memo_rules.specs.Entry.{Entry}
use Rattle.ksv_memo_rules.specs.Touched.{is_touched}

-- an overwrite of at least one byte
abbrev pub IsWrite : Change → Type 0
IsWrite (Overwrite at n) = 0 < n
IsWrite (Insert at n) = ⊥
IsWrite (Delete at n) = ⊥
IsWrite Append = ⊥

-- the entries whose nodes the change takes
abbrev pub gone_of : {N A : Type 0} → Standing N A → Change → List (Entry N A) → List (Entry N A)
gone_of w change es = filter (λ e. is_touched w change e.node) es

-- the pages that the overwrite meets; for each kept node, its uses that meet them, once for each page; the nodes that go;
-- their asks; and their uses, once for each page that a use meets
abbrev pub near : {N A : Type 0} → Standing N A → Change → List (Entry N A) → ℕ
near w change es =
    8 * (pages_met change
    + sum_by (λ e. met_by change e.uses) es
    + length (gone_of w change es)
    + sum_by (λ e. length e.asked) (gone_of w change es)
    + sum_by (λ e. length (pages_in e.uses)) (gone_of w change es))

-- this many looks are no fewer than the nodes that go, and no more than what is near
pub record LooksNear {N A : Type 0} (w : Standing N A) (change : Change) (es : List (Entry N A)) (looked : ℕ) : Type 0 where
  pub least : length (gone_of w change es) ≤ looked
  pub most : looked ≤ near w change es
