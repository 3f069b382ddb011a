-- What rules mean: what a node does next, given the bytes and the replies so far. The engine requires no more of
-- rules.
use Rattle.std.specs.Prelude.{◌≡◌, ℕ, ◌<◌, ◌≤◌, List, ◌++◌, length}
use Rattle.std.specs.List.{AllByRecursion}
use Rattle.ksv_bytes.specs.declared.uses.Use.{Use}
use Rattle.ksv_bytes.specs.Uses.{AgreeOn, CanUse}
use Rattle.ksv_memo_rules.specs.declared.rules.Next.{Next}
use Rattle.ksv_memo_rules.specs.declared.rules.Next.TheVariants.{Need, Done}

-- what rules mean, for all bytes; the numbers and the two bounds don't depend on the bytes
pub record Meaning (N A : Type 0) : Type 0 where
  -- what a node does next after these replies
  pub follow : List ℕ → N → List A → Next N A
  -- the uses that this call adds
  pub added : List ℕ → N → List A → List Use
  -- a node's own number, and the bound of the numbers
  pub number : N → ℕ
  pub nodes : ℕ
  -- after this many replies a node is done
  pub replies : ℕ

-- what rules mean on the current bytes
pub record Standing (N A : Type 0) : Type 0 where
  pub follow : N → List A → Next N A
  pub added : N → List A → List Use
  pub number : N → ℕ
  pub nodes : ℕ
  pub replies : ℕ

-- the rules over these bytes
abbrev pub on : {N A : Type 0} → Meaning N A → List ℕ → Standing N A
on meaning bytes = record {
  follow = meaning.follow bytes;
  added = meaning.added bytes;
  number = meaning.number;
  nodes = meaning.nodes;
  replies = meaning.replies;
}

-- the step is an answer
abbrev pub IsDone : {N A : Type 0} → Next N A → Type 0
IsDone (Done a) = Unit {0}
IsDone (Need m) = ⊥

-- the laws of rules, for all bytes and all replies, true or not
pub record IsLawful {N A : Type 0} (meaning : Meaning N A) : Type 0 where
  -- each node has a number of its own, below the bound
  pub own_number : (a b : N) → meaning.number a ≡ meaning.number b → a ≡ b
  pub bounded : (n : N) → meaning.number n < meaning.nodes
  -- with as many replies as the second bound, a node is done
  pub settles : (bytes : List ℕ) (n : N) (replies : List A) → meaning.replies ≤ length replies → IsDone (meaning.follow bytes n replies)
  -- if two lists of bytes agree on the uses, the call is the same on both
  pub same_step : (bytes others : List ℕ) (n : N) (replies : List A) → AllByRecursion (AgreeOn bytes others) (meaning.added bytes n replies) → meaning.follow others n replies ≡ meaning.follow bytes n replies
  pub same_uses : (bytes others : List ℕ) (n : N) (replies : List A) → AllByRecursion (AgreeOn bytes others) (meaning.added bytes n replies) → meaning.added others n replies ≡ meaning.added bytes n replies
  -- a used range isn't empty, and each used place is within the bytes
  pub can_use : (bytes : List ℕ) (n : N) (replies : List A) → AllByRecursion (CanUse bytes) (meaning.added bytes n replies)

-- the laws about one list of bytes
pub record IsSettled {N A : Type 0} (w : Standing N A) : Type 0 where
  pub own_number : (a b : N) → w.number a ≡ w.number b → a ≡ b
  pub bounded : (n : N) → w.number n < w.nodes
  pub settles : (n : N) (replies : List A) → w.replies ≤ length replies → IsDone (w.follow n replies)

-- the second list begins with the first
abbrev pub IsAddedTo : {X : Type 0} → List X → List X → Type 0
IsAddedTo {X} held now = (more : List X) × (now ≡ held ++ more)
