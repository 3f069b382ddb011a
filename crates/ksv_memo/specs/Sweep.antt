-- What an edit takes from the kept nodes, entry by entry, and how many looks it takes. Only the table's own contracts use
-- it.
use Rattle.std.specs.Prelude.{◌≡◌, ℕ, ◌+◌, ◌*◌, ◌≤◌, Bool, false, not, ◌||◌, List, [], ◌∷◌, length, map, filter, sum_by}
use Rattle.std.specs.List.{AllByRecursion, list_any}
use Rattle.ksv_bytes.specs.declared.uses.Change.{Change}
use Rattle.ksv_bytes.specs.Uses.{is_use_touched}
use Rattle.ksv_memo_links.specs.Touching.{pages_in}
use Rattle.ksv_memo_links.specs.Links.{IsOverwrite, IsMove, pages_met, met_by, pages_behind, behind_by, ended_by}
use Rattle.ksv_memo_rules.specs.Entry.{Entry}
use Rattle.ksv_memo.specs.Layout.{IsOneOf}

-- an entry, and whether it goes
pub record Mark (N A : Type 0) : Type 0 where
  pub entry : Entry N A
  pub goes : Bool

-- the mark of a node says whether it goes
pub record Says {N A : Type 0} (ks : List (Mark N A)) (m : N) (b : Bool) : Type 0 where
  pub mark : Mark N A
  pub there : IsOneOf ks mark
  pub node : mark.entry.node ≡ m
  pub goes : mark.goes ≡ b

-- so it is with each of these nodes
abbrev pub AllSay : {N A : Type 0} → List (Mark N A) → List N → List Bool → Type 0
AllSay ks [] [] = Unit {0}
AllSay ks [] (b ∷ bs) = ⊥
AllSay ks (m ∷ ms) [] = ⊥
AllSay ks (m ∷ ms) (b ∷ bs) = Says ks m b × AllSay ks ms bs

-- an entry goes exactly if its node is one of some that go by themselves, or it has a touched use, or asked a node that goes
pub record IsMarkedBy {N A : Type 0} (itself : N → Bool) (change : Change) (all : List (Mark N A)) (k : Mark N A) : Type 0 where
  pub asked : List Bool
  pub say : AllSay all k.entry.asked asked
  pub goes : k.goes ≡ (itself k.entry.node || (list_any (is_use_touched change) k.entry.uses || list_any (λ b. b) asked))

-- no node goes by itself
abbrev pub none_goes : {N : Type 0} → N → Bool
none_goes n = false

abbrev pub IsMarked : {N A : Type 0} → Change → List (Mark N A) → Mark N A → Type 0
IsMarked = IsMarkedBy none_goes

-- the entries that have these marks
abbrev pub entries_with : {N A : Type 0} → List (Mark N A) → List (Entry N A)
entries_with ks = map (λ k. k.entry) ks

-- those of them that stay
abbrev pub entries_left : {N A : Type 0} → List (Mark N A) → List (Entry N A)
entries_left ks = entries_with (filter (λ k. not k.goes) ks)

-- those of them that go
abbrev pub entries_gone : {N A : Type 0} → List (Mark N A) → List (Entry N A)
entries_gone ks = entries_with (filter (λ k. k.goes) ks)

-- the entries are marked, and those stay that don't go; this many looks were made, where the uses of the entries are
-- within this many pages
pub record SweepsBy {N A : Type 0} (itself : N → Bool) (change : Change) (pages : ℕ) (before after : List (Entry N A)) (looked : ℕ) : Type 0 where
  pub marks : List (Mark N A)
  pub entries : entries_with marks ≡ before
  pub marked : AllByRecursion (IsMarkedBy itself change marks) marks
  pub stays : after ≡ entries_left marks
  pub least : length (entries_gone marks) ≤ looked
  pub most : IsOverwrite change → looked ≤ pages_met change + 3 * sum_by (λ e. met_by change e.uses) before + 10 * length (entries_gone marks) + 6 * sum_by (λ e. length e.asked) (entries_gone marks) + 4 * sum_by (λ e. length (pages_in e.uses)) (entries_gone marks) + 4
  pub behind : IsMove change → looked ≤ 2 * pages_behind change pages + 3 * sum_by (λ e. behind_by change e.uses) before + 3 * sum_by (λ e. ended_by change e.uses) before + 10 * length (entries_gone marks) + 6 * sum_by (λ e. length e.asked) (entries_gone marks) + 4 * sum_by (λ e. length (pages_in e.uses)) (entries_gone marks) + 5

-- where no node goes by itself
abbrev pub Sweeps : {N A : Type 0} → Change → ℕ → List (Entry N A) → List (Entry N A) → ℕ → Type 0
Sweeps = SweepsBy none_goes
