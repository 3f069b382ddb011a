-- An edit that was done has made its change.
use Rattle.std.proofs.Common.{◌≡◌, ℕ, ◌+◌, ◌==◌, Bool, true, false, nat_lt, List, ◌++◌, length, take, drop, Ok, Err, if◌then◌else◌, refl}
use Rattle.std.proofs.lemmas.Bool.{ltb-false}
use Rattle.ksv_bytes.specs.Edits.{append, delete, file_limit, insert, overwrite}
use Rattle.ksv_bytes.specs.Uses.{Makes}
use Rattle.ksv_bytes.specs.declared.edit.EditRefusal.{EditRefusal}
use Rattle.ksv_bytes.specs.declared.edit.EditRefusal.TheVariants.{NothingToDo, Outside, TooLarge}
use Rattle.ksv_bytes.specs.declared.uses.Change.TheVariants as changes

-- what passes its checks is the edit's
passed_two : (first second : Bool) (made after : List ℕ) (e f : EditRefusal) → (if first then Err e else if second then Err f else Ok made) ≡ Ok after
    → (first ≡ false) × (after ≡ made)
passed_two true second made after e f is = absurd (cc)
passed_two false true made after e f is = absurd (cc)
passed_two false false made after e f is = (refl, cc)

passed_three : (first second third : Bool) (made after : List ℕ) (e f g : EditRefusal)
    → (if first then Err e else if second then Err f else if third then Err g else Ok made) ≡ Ok after → (first ≡ false) × (after ≡ made)
passed_three true second third made after e f g is = absurd (cc)
passed_three false true third made after e f g is = absurd (cc)
passed_three false false true made after e f g is = absurd (cc)
passed_three false false false made after e f g is = (refl, cc)

pub overwrite_makes : (b : List ℕ) (at : ℕ) (h after : List ℕ) → overwrite b at h ≡ Ok after → Makes (changes.Overwrite at (length h)) b after
overwrite_makes b at h after is =
    let passed = passed_two (nat_lt (length b) (at + length h)) (length h == 0) (take at b ++ h ++ drop (at + length h) b) after Outside NothingToDo is in
    (h, refl, ltb-false (length b) (at + length h) passed.0, passed.1)

pub insert_makes : (b : List ℕ) (at : ℕ) (h after : List ℕ) → insert b at h ≡ Ok after → Makes (changes.Insert at (length h)) b after
insert_makes b at h after is =
    let passed = passed_three (nat_lt (length b) at) (length h == 0) (nat_lt file_limit (length b + length h)) (take at b ++ h ++ drop at b) after Outside
    NothingToDo TooLarge is in
    (h, refl, ltb-false (length b) at passed.0, passed.1)

pub delete_makes : (b : List ℕ) (at count : ℕ) (after : List ℕ) → delete b at count ≡ Ok after → Makes (changes.Delete at count) b after
delete_makes b at count after is =
    let passed = passed_two (nat_lt (length b) (at + count)) (count == 0) (take at b ++ drop (at + count) b) after Outside NothingToDo is in
    (ltb-false (length b) (at + count) passed.0, passed.1)

pub append_makes : (b h after : List ℕ) → append b h ≡ Ok after → Makes changes.Append b after
append_makes b h after is =
    let passed = passed_two (length h == 0) (nat_lt file_limit (length b + length h)) (b ++ h) after NothingToDo TooLarge is in
    (h, passed.1)
