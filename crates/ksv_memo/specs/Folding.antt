-- Nodes that are kept by numbers alone, beside those that have slots. Only the table's own contracts use it.
use Rattle.std.specs.Prelude.{◌≡◌, ◌⊎◌, ℕ, ◌<◌, ◌≤◌, Bool, true, false, not, nat_lt, List, [], ◌∷◌, ◌++◌, filter, count_by, Option, Some, None, Result}
use Rattle.std.specs.List.{AllByRecursion, list_any}
use Rattle.ksv_memo_rules.specs.declared.rules.Outcome.TheVariants.{Answered}
use Rattle.ksv_memo_rules.specs.Entry.{Entry}
use Rattle.ksv_memo_rules.specs.Folds.{AreTold, Fold, IsFold, IsLaid, first_of}
use Rattle.ksv_memo_rules.specs.Evaluation.{tells}
use Rattle.ksv_memo_rules.specs.Meaning.{Standing}
use Rattle.ksv_memo.specs.declared.folded.Run.{Run}
use Rattle.ksv_memo.specs.declared.lendings.Lending.{Lending}
use Rattle.ksv_memo.specs.Nodes.{Nodes, Tabled, IsEntry, KeepsNode, IsPut}
use Rattle.ksv_memo.specs.Open.{Open, heard}

-- the answer that a slot has is that of a sequence's root, and so many nodes are as the sequence says, where so many are kept; none, if it has no value
abbrev pub TellsFold : {N V F : Type 0} → Standing N (Result V F) → Fold N (Result V F) → Option (Result V F) → ℕ → ℕ → Type 0
TellsFold w f None kept count = count ≡ 0
TellsFold w f (Some a) kept count = (tells w [] f.root).outcome ≡ Answered a → AreTold w f kept → IsFold w f count

-- what is kept of a node is what evaluation of it tells
abbrev pub IsTold : {N A : Type 0} → Standing N A → (N → N → Bool) → List (Entry N A) → N → Type 0
IsTold {N} {A} w eq es n = (e : Entry N A) → IsEntry eq es n e → (tells w [] e.node).outcome ≡ Answered e.answer

-- a node is none of the first ones
abbrev pub IsNoneBelow : {N A : Type 0} → Fold N A → ℕ → N → Type 0
IsNoneBelow f most n = (j : ℕ) → j < most → (f.entry j).node ≡ n → ⊥

-- a node is the last opened one
abbrev pub IsFirst : {N A : Type 0} → N → List (Open N A) → Type 0
IsFirst n [] = ⊥
IsFirst n (o ∷ st) = n ≡ o.node

-- the last open node is that of a number
abbrev pub IsLastAt : {N A : Type 0} → Fold N A → ℕ → List (Open N A) → Type 0
IsLastAt f j [] = ⊥
IsLastAt f j (o ∷ st) = (j < f.size) × ((f.entry j).node ≡ o.node)

-- it is that of none
abbrev pub IsLastOut : {N A : Type 0} → Fold N A → List (Open N A) → Type 0
IsLastOut f [] = Unit {0}
IsLastOut f (o ∷ st) = IsNoneBelow f f.size o.node

-- an open node is that of the first number that isn't kept, below one from which on nodes may have slots; it has this answer, and no other open node is it
pub record NextOf {N A : Type 0} (f : Fold N A) (kept far j : ℕ) (a : A) (o : Open N A) (st : List (Open N A)) : Type 0 where
  pub is : j ≡ kept
  pub before : kept < far
  pub node : (f.entry j).node ≡ o.node
  pub answer : (f.entry j).answer ≡ a
  pub apart : AllByRecursion (λ w. w.node ≡ o.node → ⊥) st

-- what is kept of an open node that is that of a number
abbrev pub entry_as : {N A : Type 0} → Fold N A → ℕ → A → Open N A → Entry N A
entry_as f j a o = record { node = o.node; answer = a; asked = f.root ∷ []; uses = (f.entry j).uses }

-- the last open node was kept as that of a number, and the one below got its answer, if there is one, unless memory was refused for that
abbrev pub ClosesAs : {N A : Type 0} → Fold N A → ℕ → A → Bool → List (Open N A) → Nodes N A → Nodes N A → Type 0
ClosesAs f j a is_heard [] old new = ⊥
ClosesAs f j a true (o ∷ st) old new = IsPut (entry_as f j a o) old.kept new.kept × (new.opened ≡ heard o.node a st)
ClosesAs f j a false (o ∷ st) old new = IsPut (entry_as f j a o) old.kept new.kept × (new.opened ≡ st)

-- the last open node was taken out, and the same nodes are kept
pub record LosesFirst {N A : Type 0} (old new : Nodes N A) : Type 0 where
  pub first : Open N A
  pub was : old.opened ≡ first ∷ new.opened
  pub kept : new.kept ≡ old.kept

-- whether a node is one of these
abbrev pub is_one : {N A : Type 0} → (N → N → Bool) → List (Entry N A) → N → Bool
is_one eq es n = list_any (λ e. eq n e.node) es

-- what is kept in the slot of a folded node: what the sequence says, but that it names the root
abbrev pub lent_as : {N A : Type 0} → Fold N A → ℕ → Entry N A
lent_as f j = record { node = (f.entry j).node; answer = (f.entry j).answer; asked = f.root ∷ []; uses = (f.entry j).uses }

-- the number of a folded node that has a slot, and it
abbrev pub lending : {N A : Type 0} → Fold N A → ℕ → Lending N
lending f j = record { place = j; node = (f.entry j).node }

-- the entries of slots, but for those of folded nodes, and then the entries of these
abbrev pub with_folded : {N A : Type 0} → (N → N → Bool) → List (Entry N A) → List (Entry N A) → List (Entry N A)
with_folded eq folded es = filter (λ e. not (is_one eq folded e.node)) es ++ folded

-- The first nodes of a sequence are folded. Its root has a slot. Of the nodes below a number that it hasn't reached yet none is open, and below one that is no less
-- none has a slot, but for folded nodes that were asked: they are kept in slots too, with the same answers and uses. These are listed.
pub record IsRun {N A : Type 0} (eq : N → N → Bool) (f : Fold N A) (kept wild far : ℕ) (lent : List (Lending N)) (es : List (Entry N A)) (st : List (Open N A))
    : Type 0 where
  pub laid : IsLaid f
  pub order : kept ≤ wild
  pub reach : wild ≤ far
  pub in_size : far ≤ f.size
  pub root : KeepsNode eq es f.root
  pub same : AllByRecursion (λ e. (j : ℕ) → j < far → (f.entry j).node ≡ e.node → (j < kept) × (e ≡ lent_as f j)) es
  pub apart : AllByRecursion (λ o. IsNoneBelow f wild o.node) st
  pub counted : (t : ℕ) → t ≤ kept → count_by (λ e. is_one eq (first_of f t) e.node) es ≡ count_by (λ l. nat_lt l.place t) lent
  pub below : AllByRecursion (λ l. l.place < kept) lent
  pub named : AllByRecursion (λ l. (f.entry l.place).node ≡ l.node) lent

-- a run begins: the last open node is its root, and none of its nodes is open below a number, or kept below one that is no less
pub record IsFounded {N A : Type 0} (f : Fold N A) (kept wild far : ℕ) (lent : List (Lending N)) (es : List (Entry N A)) (o : Open N A) (st : List (Open N A)) : Type 0 where
  pub laid : IsLaid f
  pub root : f.root ≡ o.node
  pub none : kept ≡ 0
  pub reach : wild ≤ far
  pub in_size : far ≤ f.size
  pub no_lent : lent ≡ []
  pub out : AllByRecursion (λ e. IsNoneBelow f far e.node) es
  pub apart : AllByRecursion (λ w. IsNoneBelow f wild w.node) (o ∷ st)

-- ---- runs
module _ {N S : Type 0} where
  -- the same nodes, of which as many are kept, and these are lent
  pub record SameRun (old new : Run N S) (items : List (Lending N)) : Type 0 where
    pub nodes : new.nodes ≡ old.nodes
    pub kept : new.kept ≡ old.kept
    pub wild : new.wild ≡ old.wild
    pub far : new.far ≡ old.far
    pub lent : new.lent.items ≡ items

  -- the same, but that more nodes may be open
  abbrev pub SameButWild : Run N S → Run N S → Type 0
  SameButWild old new = (new.nodes ≡ old.nodes) × (new.kept ≡ old.kept) × (new.wild ≤ old.wild) × (new.kept ≤ new.wild) × (new.far ≡ old.far)
      × (new.lent.items ≡ old.lent.items)

  -- so many of the first are left
  pub record IsCut (left : ℕ) (old new : Run N S) : Type 0 where
    pub nodes : new.nodes ≡ old.nodes
    pub kept : new.kept ≡ left
    pub wild : new.wild ≡ old.wild
    pub far : new.far ≡ old.far
    pub lent : (new.lent.items ≡ filter (λ l. nat_lt l.place left) old.lent.items) ⊎ ((left ≡ old.kept) × (new.lent.items ≡ old.lent.items))

module _ {N A S : Type 0} (fold : S → Fold N A) where
  -- a node is folded, at this number
  abbrev pub IsCovered : Run N S → ℕ → N → Type 0
  IsCovered run j n = (j < run.kept) × (((fold run.nodes).entry j).node ≡ n)

  -- the nodes that may be open begin among those of the sequence
  abbrev pub IsWithin : Run N S → Type 0
  IsWithin run = (run.kept ≤ run.wild) × (run.wild ≤ (fold run.nodes).size)

  -- a node may be open
  abbrev pub IsFree : Run N S → N → Type 0
  IsFree run n = IsNoneBelow (fold run.nodes) run.wild n

  -- the last open node is the next one, with this answer, and may be kept by its number
  abbrev pub IsNext : Run N S → ℕ → A → List (Open N A) → Type 0
  IsNext run j a [] = ⊥
  IsNext run j a (o ∷ st) = NextOf (fold run.nodes) run.kept run.far j a o st

  -- the last open node may have a slot as any other
  abbrev pub IsLastFree : Run N S → List (Open N A) → Type 0
  IsLastFree run [] = Unit {0}
  IsLastFree run (o ∷ st) = IsNoneBelow (fold run.nodes) run.far o.node

-- ---- a folded node that is lent
module _ {N A S : Type 0} (fold : S → Fold N A) (j : ℕ) (a : A) (old_run new_run : Run N S) where
  abbrev pub LendsTo : List (Open N A) → Nodes N A → Nodes N A → Type 0
  LendsTo [] old new = ⊥
  LendsTo (o ∷ st) old new = IsPut (entry_as (fold old_run.nodes) j a o) old.kept new.kept × (new.opened ≡ heard o.node a st)
      × SameRun old_run new_run (old_run.lent.items ++ lending (fold old_run.nodes) j ∷ [])

  -- it isn't, or the node below didn't get its answer
  pub record FailsToLend (old new : Nodes N A) : Type 0 where
    pub first : Open N A
    pub was : old.opened ≡ first ∷ new.opened
    pub kept : (new.kept ≡ old.kept) × SameRun old_run new_run old_run.lent.items
        ⊎ IsPut (entry_as (fold old_run.nodes) j a first) old.kept new.kept × SameRun old_run new_run (old_run.lent.items ++ lending (fold old_run.nodes) j ∷ [])

-- ---- over a table
module _ {N A S : Type 0} (eq : N → N → Bool) (fold : S → Fold N A) where
  -- what is folded
  abbrev pub folded_in : Option (Run N S) → List (Entry N A)
  folded_in None = []
  folded_in (Some run) = first_of (fold run.nodes) run.kept

  abbrev pub IsFolding : Option (Run N S) → Nodes N A → Type 0
  IsFolding None t = Unit {0}
  IsFolding (Some run) t = IsRun eq (fold run.nodes) run.kept run.wild run.far run.lent.items t.kept t.opened

  -- a table with the folded nodes
  abbrev pub viewed : Option (Run N S) → Tabled N A → Tabled N A
  viewed None t = t
  viewed (Some run) t = record { kept = with_folded eq (first_of (fold run.nodes) run.kept) t.kept; opened = t.opened; looks = t.looks }

  -- a new run, of which no node is kept yet, whose root is the last open node
  abbrev pub Founds : Option (Run N S) → List (Entry N A) → List (Open N A) → Type 0
  Founds None es st = Unit {0}
  Founds (Some run) es [] = ⊥
  Founds (Some run) es (o ∷ st) = IsFounded (fold run.nodes) run.kept run.wild run.far run.lent.items es o st
