-- How few looks an insert, a delete or an append takes: what is after its place, and what goes. Pages have 64 bytes.
use Rattle.std.specs.Prelude.{ℕ, ◌+◌, ◌*◌, ◌/◌, ◌<◌, ◌≤◌, List, length, sum_by}
use Rattle.std.specs.List.{AllByRecursion}
use Rattle.ksv_bytes.specs.declared.uses.Use.{Use}
use Rattle.ksv_bytes.specs.declared.uses.Use.TheVariants.{Bytes, Reach, Size}
use Rattle.ksv_bytes.specs.declared.uses.Change.{Change}
use Rattle.ksv_memo_links.specs.Touching.{pages_in}
use Rattle.ksv_memo_links.specs.Links.{pages_behind, behind_by, ended_by}
use Rattle.ksv_memo_rules.specs.Meaning.{Standing}
use Rattle.ksv_memo_rules.specs.Entry.{Entry}
use Rattle.ksv_memo.specs.Near.{gone_of}

-- the page of a place, and those before it
abbrev pub pages_to : ℕ → ℕ
pages_to place = place / 64 + 1

-- of the pages up to that of the place that kept nodes reach, those from the page of the change's place on (of an append
-- none); for each kept node, its uses of bytes that meet one of these, once for each page; the kept nodes that use the
-- size, or reach a place in one of these pages (of an append, that use the size); the nodes that go; their asks; and
-- their uses of bytes, once for each page that a use meets
abbrev pub behind : {N A : Type 0} → Standing N A → Change → ℕ → List (Entry N A) → ℕ
behind w change reach es =
    8 * (1 + pages_behind change (pages_to reach)
    + sum_by (λ e. behind_by change e.uses) es
    + sum_by (λ e. ended_by change e.uses) es
    + length (gone_of w change es)
    + sum_by (λ e. length e.asked) (gone_of w change es)
    + sum_by (λ e. length (pages_in e.uses)) (gone_of w change es))

-- this many looks are no fewer than the nodes that go, and no more than what is after
pub record LooksBehind {N A : Type 0} (w : Standing N A) (change : Change) (reach : ℕ) (es : List (Entry N A)) (looked : ℕ) : Type 0 where
  pub least : length (gone_of w change es) ≤ looked
  pub most : looked ≤ behind w change reach es

-- a use ends at a place or before it; a used range isn't empty
abbrev pub EndsBy : ℕ → Use → Type 0
EndsBy place (Bytes from to) = (from < to) × (to ≤ place)
EndsBy place (Reach to) = to ≤ place
EndsBy place Size = Unit {0}

-- the uses of these entries do
abbrev pub AllEndBy : {N A : Type 0} → ℕ → List (Entry N A) → Type 0
AllEndBy place es = AllByRecursion (λ e. AllByRecursion (EndsBy place) e.uses) es
