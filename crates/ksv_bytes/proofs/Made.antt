-- An edit that a buffer accepts makes its change.
use Rattle.std.proofs.Common.{◌≡◌, ℕ, ◌+◌, ◌==◌, Bool, true, false, List, ◌++◌, length, take, drop, Ok, Err, refl, arith, nat_lt, if◌then◌else◌}
use Rattle.std.proofs.lemmas.Bool.Decides.{nat_tests}
use Rattle.ksv_bytes.specs.declared.edit.EditRefusal.TheVariants.{Outside, NothingToDo, TooLarge}
use Rattle.ksv_bytes.specs.declared.uses.Change.TheVariants.{Overwrite, Insert, Delete, Append}
use Rattle.ksv_bytes.specs.Edits.{overwrite, insert, delete, append, file_limit}
use Rattle.ksv_bytes.specs.Uses.{Makes}

-- an overwrite
pub made-overwrite : (before : List ℕ) (at : ℕ) (new after : List ℕ) → overwrite before at new ≡ Ok after → Makes (Overwrite at (length new)) before after
made-overwrite before at new after done = by (nat_lt (length before) (at + length new)) refl (length new == 0) done
  where
    by : (outside : Bool) → nat_lt (length before) (at + length new) ≡ outside → (nothing : Bool)
        → (if outside then Err Outside else if nothing then Err NothingToDo else Ok (take at before ++ new ++ drop (at + length new) before)) ≡ Ok after
        → Makes (Overwrite at (length new)) before after
    by true e nothing is = absurd (cc)
    by false e true is = absurd (cc)
    by false e false is = (new, refl, grind (arith, nat_tests), let same : after ≡ take at before ++ new ++ drop (at + length new) before = cc in same)

-- an insert
pub made-insert : (before : List ℕ) (at : ℕ) (new after : List ℕ) → insert before at new ≡ Ok after → Makes (Insert at (length new)) before after
made-insert before at new after done = by (nat_lt (length before) at) refl (length new == 0) (nat_lt file_limit (length before + length new)) done
  where
    by : (outside : Bool) → nat_lt (length before) at ≡ outside → (nothing large : Bool)
        → (if outside then Err Outside else if nothing then Err NothingToDo else if large then Err TooLarge else Ok (take at before ++ new ++ drop at before))
        ≡ Ok after → Makes (Insert at (length new)) before after
    by true e nothing large is = absurd (cc)
    by false e true large is = absurd (cc)
    by false e false true is = absurd (cc)
    by false e false false is = (new, refl, grind (arith, nat_tests), let same : after ≡ take at before ++ new ++ drop at before = cc in same)

-- a delete
pub made-delete : (before : List ℕ) (at n : ℕ) (after : List ℕ) → delete before at n ≡ Ok after → Makes (Delete at n) before after
made-delete before at n after done = by (nat_lt (length before) (at + n)) refl (n == 0) done
  where
    by : (outside : Bool) → nat_lt (length before) (at + n) ≡ outside → (nothing : Bool)
        → (if outside then Err Outside else if nothing then Err NothingToDo else Ok (take at before ++ drop (at + n) before)) ≡ Ok after
        → Makes (Delete at n) before after
    by true e nothing is = absurd (cc)
    by false e true is = absurd (cc)
    by false e false is = (grind (arith, nat_tests), let same : after ≡ take at before ++ drop (at + n) before = cc in same)

-- an append
pub made-append : (before new after : List ℕ) → append before new ≡ Ok after → Makes Append before after
made-append before new after done = by (length new == 0) (nat_lt file_limit (length before + length new)) done
  where
    by : (nothing large : Bool) → (if nothing then Err NothingToDo else if large then Err TooLarge else Ok (before ++ new)) ≡ Ok after
        → Makes Append before after
    by true large is = absurd (cc)
    by false true is = absurd (cc)
    by false false is = (new, let same : after ≡ before ++ new = cc in same)
