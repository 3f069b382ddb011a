-- The text of a path whose names are those of members, read, gives the path again.
use Rattle.std.proofs.Common.{◌≡◌, ◌∙◌, ℕ, ◌^◌, ◌<◌, ◌≤◌, true, false, List, [], ◌∷◌, ◌++◌, length, get_or, map}
use Rattle.std.proofs.Common.{reverse, Option, Some, None, refl, sym, ap, arith, inl, inr, append-nil, length-append}
use Rattle.std.specs.Prelude.{◌==◌, ◌||◌, not, decimal, slice_get, slice_index}
use Rattle.std.specs.Char.{is_ascii_digit}
use Rattle.std.specs.Cmp.{first_so, second_so}
use Rattle.std.specs.List.{All, AllByRecursion, list_all, slice_split}
use Rattle.std.specs.Str.{bytes_eq, is_utf8}
use Rattle.std.specs.Str.Parse.{digits_value}
use Rattle.std.proofs.lemmas.Bool.{cases_lt, lt-ltb}
use Rattle.std.proofs.lemmas.Bool.Decides.{nat_tests}
use Rattle.std.proofs.lemmas.Fmt.{decimal_digit, decimal_nonempty, digits_decimal, digits_value-decimal, first_decimal}
use Rattle.std.proofs.lemmas.List.{reverse-append, reverse-reverse}
use Rattle.std.proofs.lemmas.List.Splits.{slice_split_at, slice_split_none}
use Rattle.std.proofs.lemmas.List.Sums.{AllPass-from_list_all}
use Rattle.std.proofs.lemmas.Option.{slice_get-get_or, unwrap_or-slice_get}
use Rattle.std.proofs.lemmas.Str.{IsUtf8-from_ascii, is_utf8-from_IsUtf8}
use Rattle.std.proofs.lemmas.Str.Ascii.{IsAscii-from_all}
use Rattle.ksv_expr_value.specs.Trail.{root, same_trail, step_fits, all_fit}
use Rattle.ksv_expr_value.specs.declared.step.Step.{Step}
use Rattle.ksv_expr_value.specs.declared.step.Step.TheVariants.{Index, Name}
use Rattle.ksv_desc.specs.Names.{number_in}
use Rattle.ksv_desc.specs.Description.{Description, as_text, name, number_of_name}
use Rattle.ksv_desc.proofs.Readers.{found_in_front}
use Rattle.ksv_paths.specs.PathTexts.{step_text, steps_text, or_slash, decimal_of, index_of, name_of, step_of}
use Rattle.ksv_paths.specs.PathTexts.{steps_of, is_slash, path_named}
use Rattle.ksv_paths.specs.Laws.{is_id_byte, is_id, HasIds, IsKnown, PathsAreRead}
use Rattle.ksv_paths.proofs.Digits.{digits}
use Rattle.ksv_paths.proofs.PathTexts.{path_is}
use Rattle.ksv_paths.proofs.PathSpelling.{name_is}

-- ---- bytes

-- in ASCII, bytes of ids and digits come after the slash
id_byte : (c : ℕ) → is_id_byte c ≡ true → (47 < c) × (c < 128)
id_byte c h = (grind (arith, nat_tests), grind (arith, nat_tests))

digit_byte : (c : ℕ) → is_ascii_digit c ≡ true → 47 < c
digit_byte c h = grind (arith, nat_tests)

not_slash : (c : ℕ) → 47 < c → is_slash c ≡ false
not_slash c h = grind (arith, nat_tests)

id_bytes : (text : List ℕ) → is_id text ≡ true → list_all is_id_byte text ≡ true
id_bytes text h = grind arith

-- an id is no row of digits
not_digits : (text : List ℕ) → is_id text ≡ true → list_all is_ascii_digit text ≡ true → ⊥
not_digits text h e = grind (arith, nat_tests)

-- ---- the piece of a step

-- its text without the slash in front
abbrev piece : Description → Step → List ℕ
piece d (Name n) = name d n
piece d (Index i) = decimal i

step_text_is : (d : Description) (step : Step) → step_text d step ≡ 47 ∷ piece d step
step_text_is d step = grind arith

-- it isn't empty, has no slash, and names the step
record IsPiece (d : Description) (step : Step) : Type 0 where
  some : 0 < length (piece d step)
  whole : All (λ c. is_slash c ≡ false) (piece d step)
  named : step_of d (piece d step) ≡ Some step

-- ---- a name

id_some : (text : List ℕ) → is_id text ≡ true → 0 < length text
id_some text h = grind arith

id_whole : (text : List ℕ) → is_id text ≡ true → All (λ c. is_slash c ≡ false) text
id_whole text h = λ k e lt. not_slash (get_or text k e) (id_byte (get_or text k e) (AllPass-from_list_all is_id_byte text (id_bytes text h) k e lt)).0

id_is_text : (text : List ℕ) → is_id text ≡ true → is_utf8 text ≡ true
id_is_text text h = is_utf8-from_IsUtf8 text
    (IsUtf8-from_ascii text
    (IsAscii-from_all text (λ k e lt. (id_byte (get_or text k e) (AllPass-from_list_all is_id_byte text (id_bytes text h) k e lt)).1)))

module _ (d : Description) (table : HasIds d) where
  number_is : (n : ℕ) → n < d.known → number_of_name d (name d n) ≡ Some n
  unfolding number_in
  number_is n lt =
      let known : d.known ≤ length d.names = table.known in
      let inside : n < length d.names = omega arith in
      let there : slice_get d.names n ≡ Some (name d n) = slice_get-get_or d.names n [] inside ∙ ap Some (sym (unwrap_or-slice_get d.names n [])) in
      found_in_front (bytes_eq (name d n)) 0 d.known n d.names (table.distinct n (name d n) there) (omega arith)

  name_is_read : (n : ℕ) → n < d.known → name_of d (name d n) ≡ Some n
  unfolding as_text
  name_is_read n lt = rw (id_is_text (name d n) (table.ids n lt)) (number_is n lt)

  name_piece : (n : ℕ) → n < d.known → IsPiece d (Name n)
  name_piece n lt = record {
    some = id_some (name d n) (table.ids n lt);
    whole = id_whole (name d n) (table.ids n lt);
    named = rw (name_is_read n lt) refl;
  }

  -- ---- an index

  -- digits are no name
  no_name : (text : List ℕ) → list_all is_ascii_digit text ≡ true → name_of d text ≡ None
  no_name text h = by (name_of d text) refl
    where
      by : (o : Option ℕ) → name_of d text ≡ o → o ≡ None
      by None e = refl
      by (Some n) e = let found = name_is d text n e in absurd (not_digits text (rw found.1 at (table.ids n found.0)) h)

-- a number has no zero in front, unless it is 0
plain : (i : ℕ) → i < 2 ^ 64 → (length (decimal i) == 1 || not (slice_index (decimal i) 0 == 48)) ≡ true
plain i small = elim (cases_lt 0 i) [
  | inl some ↦ (let first = first_decimal i some small in grind (arith, nat_tests))
  | inr none ↦ (let is : i ≡ 0 = omega arith in let one : decimal i ≡ 48 ∷ [] = ap decimal is ∙ decimal_digit 0 (omega arith) in rw one refl)
]

decimal_is : (text : List ℕ) (i : ℕ) → list_all is_ascii_digit text ≡ true → 0 < length text → digits_value 10 text ≡ i → i < 2 ^ 64 → decimal_of text ≡ Some i
decimal_is text i all some value small =
    let short : digits_value 10 text < 2 ^ 64 = omega arith in
    rw (all, lt-ltb 0 (length text) some, lt-ltb (digits_value 10 text) (2 ^ 64) short) (ap Some value)

index_small : (i : ℕ) → step_fits (Index i) ≡ true → i < 2 ^ 64
index_small i fit = grind (arith, nat_tests)

index_is_read : (i : ℕ) → step_fits (Index i) ≡ true → index_of (decimal i) ≡ Some i
index_is_read i fit =
    let small = index_small i fit in
    let is : decimal_of (decimal i) ≡ Some i = decimal_is (decimal i) i (digits_decimal digits i small) (decimal_nonempty i small)
    (digits_value-decimal digits i small) small in
    rw (plain i small, is, fit) refl

index_piece : (d : Description) → HasIds d → (i : ℕ) → step_fits (Index i) ≡ true → IsPiece d (Index i)
index_piece d table i fit =
    let small = index_small i fit in
    let all = digits_decimal digits i small in
    record {
      some = decimal_nonempty i small;
      whole = λ k e h. not_slash (get_or (decimal i) k e) (digit_byte (get_or (decimal i) k e) (AllPass-from_list_all is_ascii_digit (decimal i) all k e h));
      named = rw (no_name d table (decimal i) all, index_is_read i fit) refl;
    }

-- ---- the pieces of a path

pieces : (d : Description) → HasIds d → (steps : List Step) → AllByRecursion (IsKnown d) steps → list_all step_fits steps ≡ true
    → AllByRecursion (IsPiece d) steps
pieces d table [] known fit = tt
pieces d table (step ∷ steps) known fit = (
  one step known.0 (first_so (step_fits step) (list_all step_fits steps) fit),
  pieces d table steps known.1
      (second_so (step_fits step) (list_all step_fits steps) fit),
)
  where
    one : (s : Step) → IsKnown d s → step_fits s ≡ true → IsPiece d s
    one (Name n) lt e = name_piece d table n lt
    one (Index i) lt e = index_piece d table i e

all_push : {A : Type 0} (P : A → Type 0) (xs : List A) (x : A) → AllByRecursion P xs → P x → AllByRecursion P (xs ++ x ∷ [])
all_push P [] x h p = (p, tt)
all_push P (y ∷ ys) x h p = (h.0, all_push P ys x h.1 p)

all_reverse : {A : Type 0} (P : A → Type 0) (xs : List A) → AllByRecursion P xs → AllByRecursion P (reverse xs)
all_reverse P [] h = tt
all_reverse P (x ∷ xs) h = rw (reverse-append (x ∷ []) xs) (all_push P (reverse xs) x (all_reverse P xs h.1) h.0)

-- the text is cut where it was joined
split_steps : (d : Description) (step : Step) (steps : List Step) → AllByRecursion (IsPiece d) (step ∷ steps)
    → slice_split is_slash (piece d step ++ steps_text d steps) ≡ map (piece d) (step ∷ steps)
split_steps d step [] h = rw (append-nil (piece d step)) (slice_split_none is_slash (piece d step) h.0.whole)
split_steps d step (next ∷ rest) h =
    rw (step_text_is d next, slice_split_at is_slash (piece d step) 47 (piece d next ++ steps_text d rest) h.0.whole refl, split_steps d next rest h.1) refl

steps_named : (d : Description) (steps : List Step) → AllByRecursion (IsPiece d) steps → steps_of d (map (piece d) steps) ≡ Some steps
steps_named d [] h = refl
steps_named d (step ∷ steps) h = rw (h.0.named, steps_named d steps h.1) refl

-- ---- a path

pub paths_are_read : PathsAreRead
paths_are_read d table path known = by_steps (reverse path.upward) refl (all_reverse (IsPiece d) path.upward (pieces d table path.upward known (all_fit path)))
  where
    upward_is : (steps : List Step) → reverse path.upward ≡ steps → path.upward ≡ reverse steps
    upward_is steps e = rw (← e, reverse-reverse path.upward) refl

    by_steps : (steps : List Step) → reverse path.upward ≡ steps → AllByRecursion (IsPiece d) steps → path_named d (or_slash (steps_text d steps)) ≡ Some path
    by_steps [] e h = ap Some (same_trail root path (sym (upward_is [] e)))
    by_steps (step ∷ steps) e h =
        let text = piece d step ++ steps_text d steps in
        let one : 0 < length (piece d step) = h.0.some in
        let some : (length text == 0) ≡ false = not_zero (length text) (omega (arith, length-append (piece d step) (steps_text d steps))) in
        rw (step_text_is d step, some, split_steps d step steps h, steps_named d (step ∷ steps) h) (path_is (step ∷ steps) path (upward_is (step ∷ steps) e))
      where
        not_zero : (n : ℕ) → 0 < n → (n == 0) ≡ false
        not_zero n lt = grind (arith, nat_tests)
