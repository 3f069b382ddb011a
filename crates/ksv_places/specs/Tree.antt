-- Numbered paths: each has the number of the path one step shorter and its last step, and is found from there.
use Rattle.std.specs.Prelude.{◌≡◌, ℕ, zero, suc, ◌+◌, ◌<◌, ◌≤◌, ◌⊎◌, nat_eq, Bool, false, cond, List, [], ◌∷◌, ◌++◌, length, slice_get, slice_index_or, reverse, take, Some}
use Rattle.ksv_expr_value.specs.declared.step.Step.{Step}
use Rattle.ksv_expr_value.specs.declared.step.Step.TheVariants.{Name, Index}
use Rattle.ksv_places.specs.declared.links.Link.{Link}
use Rattle.ksv_places.specs.declared.trace.Trace.{Trace}
use Rattle.ksv_places.specs.Table.{IsPut, IsPutAt, first_of_both}

-- the link of a number
abbrev pub link_at : List Link → ℕ → Link
link_at links c = slice_index_or links c (record { parent = 0; step = Name 0; next = 0 })

-- the paths of links, each after those before it: its last step first
abbrev pub paths_from : List (List Step) → List Link → List (List Step)
paths_from ps [] = ps
paths_from ps (l ∷ ls) = paths_from (ps ++ (l.step ∷ slice_index_or ps l.parent []) ∷ []) ls

-- the first is the root's
abbrev pub paths_of : List Link → List (List Step)
paths_of [] = []
paths_of (l ∷ ls) = paths_from ([] ∷ []) ls

abbrev pub is_name : Step → ℕ → Bool
is_name (Name y) x = nat_eq y x
is_name (Index i) x = false

-- the first of the members in a chain, each of which leads to the next, that has this name; 0 for none. No chain is longer than
-- the number of links.
abbrev pub chain : List Link → ℕ → ℕ → ℕ → ℕ
chain links zero c x = 0
chain links (suc f) zero x = 0
chain links (suc f) (suc c) x = cond (is_name (link_at links (suc c)).step x) (suc c) (chain links f (link_at links (suc c)).next x)

-- how many members a chain has
abbrev pub chain_length : List Link → ℕ → ℕ → ℕ
chain_length links zero c = 0
chain_length links (suc f) zero = 0
chain_length links (suc f) (suc c) = 1 + chain_length links f (link_at links (suc c)).next

-- what leads to the paths one step further: the first of the chain of members of each path, the tables of the members that are
-- not in chains, and those of the elements
module _ (links : List Link) (firsts : ℕ → ℕ) (members elements : ℕ → ℕ → ℕ) where
  -- the number of the path one step further; 0 for none
  abbrev pub look : ℕ → Step → ℕ
  look r (Name x) = first_of_both (chain links (length links) (firsts r) x) (members r x)
  look r (Index i) = elements r i

-- a path is one step further than another
pub record IsChild (links : List Link) (r : ℕ) (s : Step) (c : ℕ) : Type 0 where
  pub inside : c < length links
  pub parent : (link_at links c).parent ≡ r
  pub step : (link_at links c).step ≡ s

-- Each path is found from the one a step shorter, and what is found there is a path a step further.
pub record IsTree (links : List Link) (firsts : ℕ → ℕ) (members elements : ℕ → ℕ → ℕ) : Type 0 where
  pub up : (c : ℕ) → 0 < c → c < length links → (link_at links c).parent < c
  pub next : (c : ℕ) → 0 < c → c < length links → (link_at links c).next < c
  pub heads : (r : ℕ) → 0 < firsts r → firsts r < length links
  pub sound : (r : ℕ) (s : Step) → 0 < look links firsts members elements r s → IsChild links r s (look links firsts members elements r s)
  pub complete : (c : ℕ) → 0 < c → c < length links → look links firsts members elements (link_at links c).parent (link_at links c).step ≡ c

-- a path is hooked to the one a step shorter: a member in the chain, a member in the table, or an element
pub record HooksFirst (firsts firsts2 : ℕ → ℕ) (members members2 : ℕ → ℕ → ℕ) (r n next : ℕ) : Type 0 where
  pub next_is : next ≡ firsts r
  pub put : IsPut firsts firsts2 r n
  pub same : members2 ≡ members

pub record HooksAt (firsts firsts2 : ℕ → ℕ) (table table2 other other2 : ℕ → ℕ → ℕ) (r x n next : ℕ) : Type 0 where
  pub next_is : next ≡ 0
  pub put : IsPutAt table table2 r x n
  pub firsts_same : firsts2 ≡ firsts
  pub other_same : other2 ≡ other

abbrev pub Hooks : (ℕ → ℕ) → (ℕ → ℕ) → (ℕ → ℕ → ℕ) → (ℕ → ℕ → ℕ) → (ℕ → ℕ → ℕ) → (ℕ → ℕ → ℕ) → ℕ → Step → ℕ → ℕ → Type 0
Hooks firsts firsts2 members members2 elements elements2 r (Name x) n next = (HooksFirst firsts firsts2 members members2 r n next × (elements2 ≡ elements)) ⊎ HooksAt firsts firsts2 members members2 elements elements2 r x n next
Hooks firsts firsts2 members members2 elements elements2 r (Index i) n next = HooksAt firsts firsts2 elements elements2 members members2 r i n next

-- nothing leads elsewhere
pub record IsUnhooked (firsts firsts2 : ℕ → ℕ) (members members2 elements elements2 : ℕ → ℕ → ℕ) : Type 0 where
  pub firsts_same : firsts2 ≡ firsts
  pub members_same : members2 ≡ members
  pub elements_same : elements2 ≡ elements

-- a path was added
pub record IsGrown (old new : List Link) (r : ℕ) (s : Step) (c : ℕ) : Type 0 where
  pub number : c ≡ length old
  pub link : Link
  pub links : new ≡ old ++ link ∷ []
  pub parent : link.parent ≡ r
  pub step : link.step ≡ s

-- there are more paths, and those that were there have their numbers
pub record IsMore (old new : List (List Step)) : Type 0 where
  pub more : List (List Step)
  pub grown : new ≡ old ++ more

-- the path a step further has this number
pub record IsFurther (old new : List Link) (r : ℕ) (s : Step) (c : ℕ) : Type 0 where
  pub inside : c < length new
  pub is : slice_index_or (paths_of new) c [] ≡ s ∷ slice_index_or (paths_of old) r []

-- A walk along steps ended here: at the path of the first this many of them; or there are no paths yet, and both numbers are 0.
pub record EndsAt (paths : List (List Step)) (steps : List Step) (t : Trace) : Type 0 where
  pub inside : t.steps ≤ length steps
  pub path : (slice_get paths t.path ≡ Some (reverse (take t.steps steps))) ⊎ ((paths ≡ []) × (t.path ≡ 0) × (t.steps ≡ 0))
