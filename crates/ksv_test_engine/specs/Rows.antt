-- Rows that depend on rows and on bytes, and their laws.
use Rattle.std.specs.Prelude.{◌≡◌, ℕ, suc, ◌+◌, ◌-◌, ◌<◌, ◌≤◌, ◌%◌, ◌^◌, List, [], ◌∷◌, length, slice_get, slice_range, Option, Some, None, Result, Ok, Err, min, max, nat_eq, nat_le, Bool, true, false}
use Rattle.std.specs.List.{AllByRecursion}
use Rattle.std.proofs.Common.{arith, refl, sym, ◌∙◌, ap, subst, inl, inr, take, drop, get_or, drop-cons}
use Rattle.std.proofs.lemmas.Bool.{cases_lt}
use Rattle.std.proofs.lemmas.List.Recursion.{max_bounds}
use Rattle.std.proofs.lemmas.Option.{slice_get_past, slice_get_within, slice_get-get_or, get_or_from_slice_get}
use Rattle.std.proofs.lemmas.Bool.Decides.{nat_tests, leb_tells}
use mathlib.Core.HLevel.{is_prop→PathP}
use native.Mathlib.Bridge.{le_prop}
use Rattle.ksv_bytes.specs.declared.uses.Use.{Use}
use Rattle.ksv_bytes.specs.declared.uses.Use.TheVariants.{Bytes, Reach, Size}
use Rattle.ksv_bytes.specs.Uses.{AgreeOn, CanUse}
use Rattle.ksv_memo_rules.specs.declared.rules.Next.{Next}
use Rattle.ksv_memo_rules.specs.declared.rules.Next.TheVariants.{Need, Done}
use Rattle.ksv_memo_rules.specs.Meaning.{Meaning, IsLawful, IsDone}
use Rattle.ksv_test_engine.specs.declared.samples.row.RowNumber.{RowNumber}
use Rattle.ksv_test_engine.specs.declared.samples.row.Row.{Row}
use Rattle.ksv_test_engine.specs.declared.samples.row.Row.TheVariants.{Number, Sum, Named, Reaching}
use Rattle.ksv_test_engine.specs.declared.samples.row.Missing.{Missing}

-- what a row or a link answers: a number, or that a row is missing
abbrev pub Reply : Type 0
Reply = Result ℕ Missing

-- the row that a byte names; a proof can't use that a byte is below 256
pub mod_small : (n : ℕ) → n % 256 < 256
mod_small n = omega arith

abbrev pub row_number : ℕ → RowNumber
row_number n = record { number = n % 256; small = mod_small n }

-- the replies added to a number, or the first that is missing
abbrev pub total : ℕ → List Reply → Reply
total so_far [] = Ok so_far
total so_far (Ok n ∷ replies) = total (min (so_far + n) (2 ^ 32 - 1)) replies
total so_far (Err e ∷ replies) = Err e

-- what a sum does next when this is the total of its replies, and this number is the next one
abbrev pub summed_at : Reply → Option RowNumber → Next RowNumber Reply
summed_at (Err e) next = Done (Err e)
summed_at (Ok sum) (Some n) = Need n
summed_at (Ok sum) None = Done (Ok sum)

-- what a sum does next
abbrev pub summed : List RowNumber → List Reply → Next RowNumber Reply
summed numbers replies = summed_at (total 0 replies) (slice_get numbers (length replies))

-- what the first call for a byte's row does, given the byte
abbrev pub named_at : Option ℕ → Next RowNumber Reply
named_at None = Done (Err (record {}))
named_at (Some b) = Need (row_number b)

-- what the row that a byte names does next
abbrev pub named : List ℕ → ℕ → List Reply → Next RowNumber Reply
named bytes place [] = named_at (slice_get bytes place)
named bytes place (reply ∷ replies) = Done reply

-- what reading the byte at a place uses
abbrev pub read_uses : ℕ → Option ℕ → List Use
read_uses place None = Size ∷ []
read_uses place (Some b) = Bytes place (place + 1) ∷ []

-- the byte is read only in the first call
abbrev pub named_uses : List ℕ → ℕ → List Reply → List Use
named_uses bytes place [] = read_uses place (slice_get bytes place)
named_uses bytes place (reply ∷ replies) = []

-- what a row of whether the file reaches a place does next
abbrev pub reached : Bool → Next RowNumber Reply
reached true = Done (Ok 1)
reached false = Done (Err (record {}))

abbrev pub reach_uses : ℕ → Bool → List Use
reach_uses place true = Reach place ∷ []
reach_uses place false = Size ∷ []

-- what a row does next
abbrev pub row_next : List ℕ → List Reply → Option Row → Next RowNumber Reply
row_next bytes replies None = Done (Err (record {}))
row_next bytes replies (Some (Number n)) = Done (Ok n)
row_next bytes replies (Some (Sum numbers)) = summed numbers.items replies
row_next bytes replies (Some (Named place)) = named bytes place replies
row_next bytes replies (Some (Reaching place)) = reached (nat_le place (length bytes))

-- the uses of a row's call
abbrev pub row_uses : List ℕ → List Reply → Option Row → List Use
row_uses bytes replies None = []
row_uses bytes replies (Some (Number n)) = []
row_uses bytes replies (Some (Sum numbers)) = []
row_uses bytes replies (Some (Named place)) = named_uses bytes place replies
row_uses bytes replies (Some (Reaching place)) = reach_uses place (nat_le place (length bytes))

-- the replies that a row takes, and the most that one of the rows takes
abbrev pub replies_of : Row → ℕ
replies_of (Number n) = 0
replies_of (Sum numbers) = length numbers.items
replies_of (Named place) = 1
replies_of (Reaching place) = 0

abbrev pub most_replies : List Row → ℕ
most_replies [] = 0
most_replies (row ∷ rows) = max (replies_of row) (most_replies rows)

-- what the rows mean
abbrev pub rows_meaning : List Row → Meaning RowNumber Reply
rows_meaning rows = record {
  follow = λ bytes n replies. row_next bytes replies (slice_get rows n.number);
  added = λ bytes n replies. row_uses bytes replies (slice_get rows n.number);
  number = λ n. n.number;
  nodes = 256;
  replies = most_replies rows;
}

-- ---- the laws
pub same_row : (a b : RowNumber) → a.number ≡ b.number → a ≡ b
same_row a b e = λ i. record { number = e i; small = is_prop→PathP (λ j. e j < 256) (λ j. le_prop) a.small b.small i }

pub same_if_equal : (a b : RowNumber) → nat_eq a.number b.number ≡ true → a ≡ b
same_if_equal a b e = same_row a b (let same : a.number ≡ b.number = grind (arith, nat_tests) in same)

takes : (rows : List Row) (i : ℕ) (row : Row) → slice_get rows i ≡ Some row → replies_of row ≤ most_replies rows
takes rows i row e =
    let at : get_or rows i row ≡ row = get_or_from_slice_get rows i row row e in
    subst (λ r. replies_of r ≤ most_replies rows) at (max_bounds most_replies replies_of refl (λ x xs. refl) rows i row (slice_get_within rows i row e))

sum_done : (r : Reply) → IsDone (summed_at r None)
sum_done (Ok n) = tt
sum_done (Err e) = tt

reach_done : (b : Bool) → IsDone (reached b)
reach_done true = tt
reach_done false = tt

row_done : (bytes : List ℕ) (replies : List Reply) (o : Option Row) → ((row : Row) → o ≡ Some row → replies_of row ≤ length replies) → IsDone (row_next bytes replies o)
row_done bytes replies None most = tt
row_done bytes replies (Some (Number n)) most = tt
row_done bytes replies (Some (Sum numbers)) most = subst (λ o. IsDone (summed_at (total 0 replies) o)) (sym (slice_get_past numbers.items (length replies) (most (Sum numbers) refl))) (sum_done (total 0 replies))
row_done bytes [] (Some (Named place)) most = let le : 1 ≤ 0 = most (Named place) refl in absurd (omega arith)
row_done bytes (reply ∷ replies) (Some (Named place)) most = tt
row_done bytes replies (Some (Reaching place)) most = reach_done (nat_le place (length bytes))

-- the byte at a place is that of the range of one byte there
pub range_get : (bytes : List ℕ) (place : ℕ) → place < length bytes → slice_get (slice_range bytes place (place + 1)) 0 ≡ slice_get bytes place
range_get bytes place lt =
    let eq : place + 1 - place ≡ suc 0 = omega arith in
    ap (λ k. slice_get (take k (drop place bytes)) 0) eq
    ∙ ap (λ xs. slice_get (take (suc 0) xs) 0) (drop-cons bytes place 0 lt)
    ∙ sym (slice_get-get_or bytes place 0 lt)

-- a byte that isn't there is past the end
absent : (bytes : List ℕ) (place : ℕ) → slice_get bytes place ≡ None → length bytes ≤ place
absent bytes place e = elim (cases_lt place (length bytes)) [ inl lt ↦ (let there : slice_get bytes place ≡ Some (get_or bytes place 0) = slice_get-get_or bytes place 0 lt in absurd (cc)) | inr le ↦ le ]

pub read_same : (bytes others : List ℕ) (place : ℕ) (o : Option ℕ) → slice_get bytes place ≡ o → AllByRecursion (AgreeOn bytes others) (read_uses place o) → slice_get others place ≡ o
read_same bytes others place None e agree =
    let same : length others ≡ length bytes = agree.0 in
    let le : length bytes ≤ place = absent bytes place e in
    slice_get_past others place (omega arith)
read_same bytes others place (Some b) e agree =
    let here : place + 1 ≤ length bytes = agree.0.0 in
    let there : place + 1 ≤ length others = agree.0.1 in
    sym (range_get others place (omega arith)) ∙ ap (λ xs. slice_get xs 0) agree.0.2 ∙ range_get bytes place (omega arith) ∙ e

le_if_told : (a b : ℕ) → nat_le a b ≡ true → a ≤ b
le_if_told a b e = let le : a ≤ b = grind (arith, nat_tests) in le

told_if_le : (a b : ℕ) → a ≤ b → nat_le a b ≡ true
told_if_le a b le = elim (leb_tells a b) [ inl e ↦ e.0 | inr e ↦ (let lt = e.1 in absurd (omega arith)) ]

reach_same : (bytes others : List ℕ) (place : ℕ) (b : Bool) → nat_le place (length bytes) ≡ b → AllByRecursion (AgreeOn bytes others) (reach_uses place b) → nat_le place (length others) ≡ b
reach_same bytes others place true e agree = told_if_le place (length others) agree.0.1
reach_same bytes others place false e agree = ap (nat_le place) agree.0 ∙ e

row_same : (bytes others : List ℕ) (replies : List Reply) (o : Option Row) → AllByRecursion (AgreeOn bytes others) (row_uses bytes replies o) → row_next others replies o ≡ row_next bytes replies o
row_same bytes others replies None agree = refl
row_same bytes others replies (Some (Number n)) agree = refl
row_same bytes others replies (Some (Sum numbers)) agree = refl
row_same bytes others [] (Some (Named place)) agree = ap named_at (read_same bytes others place (slice_get bytes place) refl agree)
row_same bytes others (reply ∷ replies) (Some (Named place)) agree = refl
row_same bytes others replies (Some (Reaching place)) agree = ap reached (reach_same bytes others place (nat_le place (length bytes)) refl agree)

uses_same : (bytes others : List ℕ) (replies : List Reply) (o : Option Row) → AllByRecursion (AgreeOn bytes others) (row_uses bytes replies o) → row_uses others replies o ≡ row_uses bytes replies o
uses_same bytes others replies None agree = refl
uses_same bytes others replies (Some (Number n)) agree = refl
uses_same bytes others replies (Some (Sum numbers)) agree = refl
uses_same bytes others [] (Some (Named place)) agree = ap (read_uses place) (read_same bytes others place (slice_get bytes place) refl agree)
uses_same bytes others (reply ∷ replies) (Some (Named place)) agree = refl
uses_same bytes others replies (Some (Reaching place)) agree = ap (reach_uses place) (reach_same bytes others place (nat_le place (length bytes)) refl agree)

pub read_can : (bytes : List ℕ) (place : ℕ) (o : Option ℕ) → slice_get bytes place ≡ o → AllByRecursion (CanUse bytes) (read_uses place o)
read_can bytes place None e = (tt, tt)
read_can bytes place (Some b) e = let lt : place < length bytes = slice_get_within bytes place b e in ((omega arith, omega arith), tt)

reach_can : (bytes : List ℕ) (place : ℕ) (b : Bool) → nat_le place (length bytes) ≡ b → AllByRecursion (CanUse bytes) (reach_uses place b)
reach_can bytes place true e = (le_if_told place (length bytes) e, tt)
reach_can bytes place false e = (tt, tt)

uses_can : (bytes : List ℕ) (replies : List Reply) (o : Option Row) → AllByRecursion (CanUse bytes) (row_uses bytes replies o)
uses_can bytes replies None = tt
uses_can bytes replies (Some (Number n)) = tt
uses_can bytes replies (Some (Sum numbers)) = tt
uses_can bytes [] (Some (Named place)) = read_can bytes place (slice_get bytes place) refl
uses_can bytes (reply ∷ replies) (Some (Named place)) = tt
uses_can bytes replies (Some (Reaching place)) = reach_can bytes place (nat_le place (length bytes)) refl

pub rows_lawful : (rows : List Row) → IsLawful (rows_meaning rows)
rows_lawful rows = record {
  own_number = same_row;
  bounded = λ n. n.small;
  settles = λ bytes n replies le. row_done bytes replies (slice_get rows n.number) (λ row e. let few : replies_of row ≤ most_replies rows = takes rows n.number row e in let more : most_replies rows ≤ length replies = le in omega arith);
  same_step = λ bytes others n replies agree. row_same bytes others replies (slice_get rows n.number) agree;
  same_uses = λ bytes others n replies agree. uses_same bytes others replies (slice_get rows n.number) agree;
  can_use = λ bytes n replies. uses_can bytes replies (slice_get rows n.number);
}
