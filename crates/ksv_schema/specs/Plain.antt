-- The plain data of what the code reads of enums, and what it has given so far.
use Rattle.std.specs.Prelude.{◌≡◌, ◌||◌, cond, true, ℕ, ℤ, Bool, List}
use Rattle.std.specs.Borrow.{Bor}
use Rattle.std.specs.HashSet.{HashSet}
use Rattle.std.specs.Ordering.{int_eq}
use Rattle.std.specs.Str.{bytes_eq}
use Rattle.std.specs.List.{list_any}
use Rattle.std.specs.List.Sorted.{IsPermutation, IsNonDecreasing}
use Rattle.ksv_yaml_tree.specs.Tree.{Pair}
use Rattle.ksv_schema_names.specs.Table.{declared}
use Rattle.ksv_schema_names.specs.Enums.{is_numbered, is_named}
use Rattle.ksv_schema.specs.declared.members.enumeration.Seen.{Seen}
use Rattle.ksv_schema.specs.declared.members.number.Context.{Context as CodeContext}
use Rattle.ksv_schema.specs.Description.{Context}

-- where names get their numbers
abbrev pub context_of : CodeContext → Context
context_of c = record { declared = declared c.scopes.now; names = c.names.now; within = c.within }

-- ---- numbers and ids that entries of an enum have

abbrev pub has_number : {S : Type 0} → HashSet ℤ S → ℤ → Bool
has_number set n = list_any (int_eq n) set.keys

abbrev pub has_id : {S : Type 0} → HashSet (Bor (List ℕ)) S → List ℕ → Bool
has_id set id = list_any (λ other. bytes_eq id other.now) set.keys

-- what is given afterwards: one thing more, or perhaps one
pub record Gives {K : Type 0} (old new : K → Bool) (is : K → Bool) : Type 0 where
  pub given : (k : K) → new k ≡ cond (is k) true (old k)

pub record Adds {K : Type 0} (old new : K → Bool) (is : K → Bool) : Type 0 where
  pub given : (k : K) → new k ≡ (old k || is k)

-- what was given is what these entries have
pub record AreOf (seen : Seen) (before : List Pair) : Type 0 where
  pub numbers : (n : ℤ) → has_number seen.numbers n ≡ list_any (is_numbered n) before
  pub ids : (id : List ℕ) → has_id seen.ids id ≡ list_any (is_named id) before

-- ---- limits

-- lines in ascending order
pub record AreRising (lines rising : List ℕ) : Type 0 where
  pub moved : IsPermutation lines rising
  pub rises : IsNonDecreasing rising
