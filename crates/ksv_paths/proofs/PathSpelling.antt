-- A text that names a path is the text of that path.
use Rattle.std.proofs.Common.{◌≡◌, ◌∙◌, ℕ, ◌+◌, ◌^◌, ◌<◌, Bool, true, false, cond, List, [], ◌∷◌, ◌++◌, length, get_or, reverse, take, Option, Some}
use Rattle.std.proofs.Common.{None, refl, sym, ap, arith, inl, inr, append-nil}
use Rattle.std.specs.Prelude.{◌==◌, decimal, option_map, option_and_then}
use Rattle.std.specs.Char.{is_ascii_digit}
use Rattle.std.specs.List.{list_all, flat_map, slice_split, count_by, join_with_byte}
use Rattle.std.specs.Str.{bytes_eq, is_utf8}
use Rattle.std.specs.Str.Parse.{digits_value}
use Rattle.std.proofs.lemmas.Bool.{cases_Bool}
use Rattle.std.proofs.lemmas.Bool.Decides.{nat_tests}
use Rattle.std.proofs.lemmas.Fmt.{decimal-digits_value}
use Rattle.std.proofs.lemmas.List.{reverse-reverse, length-take, get_or-take}
use Rattle.std.proofs.lemmas.List.Quantifiers.{position-Some}
use Rattle.std.proofs.lemmas.List.Splits.{length-slice_split, join_with_byte-slice_split}
use Rattle.std.proofs.lemmas.Iterator.Adapters.{position_from-zero}
use Rattle.std.proofs.lemmas.Slice.Eq.{bytes_eq-Decides}
use Rattle.ksv_expr_value.specs.Trail.{Trail, trail_of-steps, root}
use Rattle.ksv_expr_value.specs.declared.step.Step.{Step}
use Rattle.ksv_expr_value.specs.declared.step.Step.TheVariants.{Index}
use Rattle.ksv_desc.specs.Description.{Description, as_text, name, number_of_name}
use Rattle.ksv_paths.specs.PathTexts.{step_text, steps_text, path_text, decimal_of, below_limit, index_of, name_of, name_or_index, step_of}
use Rattle.ksv_paths.specs.PathTexts.{behind_step, steps_of, is_slash, path_of_steps, path_behind, TextsAreWritten}
use Rattle.std.proofs.lemmas.Option.{same_Some, unwrap_or-slice_get}
use Rattle.ksv_paths.proofs.Digits.{digits}

is_empty : {A : Type 0} (xs : List A) → (length xs == 0) ≡ true → xs ≡ []
is_empty [] e = refl
is_empty (x ∷ xs) e = grind (arith, nat_tests)

-- ---- an index

-- digits of a number below 2^64
record IsDecimal (text : List ℕ) (i : ℕ) : Type 0 where
  digits : list_all is_ascii_digit text ≡ true
  some : 0 < length text
  small : digits_value 10 text < 2 ^ 64
  value : digits_value 10 text ≡ i

-- a test that leads to a value is passed
if_some : {A : Type 0} (b : Bool) (o : Option A) (x : A) → cond b o None ≡ Some x → (b ≡ true) × (o ≡ Some x)
if_some true o x h = (refl, h)
if_some false o x h = cc

decimal_is : (text : List ℕ) (i : ℕ) → decimal_of text ≡ Some i → IsDecimal text i
decimal_is text i h = record {
  digits = grind (arith, nat_tests);
  some = grind (arith, nat_tests);
  small = grind (arith, nat_tests);
  value = same_Some _ _ (if_some _ _ _ h).1;
}

limited_is : (o : Option ℕ) (i : ℕ) → below_limit o ≡ Some i → o ≡ Some i
limited_is o i e = grind arith

index_is : (text : List ℕ) (i : ℕ) → index_of text ≡ Some i → text ≡ decimal i
index_is text i h =
    let plain : get_or text 0 0 ≡ 48 → length text ≡ 1 = λ z. grind (arith, nat_tests) in
    let t = decimal_is text i (limited_is (decimal_of text) i (if_some _ _ _ h).1) in
    sym (decimal-digits_value digits text t.digits t.some plain t.small) ∙ ap decimal t.value

-- ---- a name

then_some : {A B : Type 0} (f : A → Option B) (b : Bool) (x : A) (y : B) → option_and_then f (cond b (Some x) None) ≡ Some y → f x ≡ Some y
then_some f b x y h = grind arith

-- it is in the table of members' names
pub name_is : (d : Description) (text : List ℕ) (n : ℕ) → name_of d text ≡ Some n → (n < d.known) × (name d n ≡ text)
unfolding as_text
name_is d text n h =
    let names = take d.known d.names in
    let found = position-Some (bytes_eq text) names n []
    (position_from-zero (bytes_eq text) names ∙ then_some (number_of_name d) (is_utf8 text) text n h) in
    let known : n < d.known = omega (arith, found.0, length-take d.known d.names) in
    (known, unwrap_or-slice_get d.names n [] ∙ sym (get_or-take d.known d.names n [] known) ∙ sym ((bytes_eq-Decides text (get_or names n [])).0 found.1))

-- ---- a step, and steps

step_is : (d : Description) (piece : List ℕ) (step : Step) → step_of d piece ≡ Some step → step_text d step ≡ 47 ∷ piece
step_is d piece step h = by_name (name_of d piece) refl h
  where
    by_index : (o : Option ℕ) → index_of piece ≡ o → option_map Index o ≡ Some step → step_text d step ≡ 47 ∷ piece
    by_index (Some i) is e = let t = index_is piece i is in cc
    by_index None is e = cc

    by_name : (o : Option ℕ) → name_of d piece ≡ o → name_or_index o piece ≡ Some step → step_text d step ≡ 47 ∷ piece
    by_name (Some n) is e = let t = (name_is d piece n is).1 in cc
    by_name None is e = by_index (index_of piece) refl e

-- pieces, each after a slash
abbrev joined : List (List ℕ) → List ℕ
joined pieces = flat_map (λ piece. 47 ∷ piece) pieces

steps_are : (d : Description) (pieces : List (List ℕ)) (steps : List Step) → steps_of d pieces ≡ Some steps → steps_text d steps ≡ joined pieces
steps_are d [] steps h = cc
steps_are d (piece ∷ rest) steps h = by_step (step_of d piece) (steps_of d rest) refl refl h (steps_are d rest)
  where
    by_step : (o : Option Step) (q : Option (List Step)) → step_of d piece ≡ o → steps_of d rest ≡ q → behind_step o q ≡ Some steps
        → ((others : List Step) → steps_of d rest ≡ Some others → steps_text d others ≡ joined rest) → steps_text d steps ≡ joined (piece ∷ rest)
    by_step None q is are e later = cc
    by_step (Some step) None is are e later = cc
    by_step (Some step) (Some others) is are e later = let s = step_is d piece step is in let o = later others are in cc

-- ---- the pieces between slashes

joined_is : (piece : List ℕ) (pieces : List (List ℕ)) → joined (piece ∷ pieces) ≡ 47 ∷ join_with_byte 47 (piece ∷ pieces)
joined_is piece [] = ap (λ t. 47 ∷ t) (append-nil piece)
joined_is piece (next ∷ pieces) = ap (λ t. 47 ∷ piece ++ t) (joined_is next pieces)

split_joined : (text : List ℕ) → joined (slice_split is_slash text) ≡ 47 ∷ text
split_joined text = by (slice_split is_slash text) (length-slice_split is_slash text) (join_with_byte-slice_split 47 text)
  where
    by : (pieces : List (List ℕ)) → length pieces ≡ count_by is_slash text + 1 → join_with_byte 47 pieces ≡ text → joined pieces ≡ 47 ∷ text
    by [] n e = absurd (omega arith)
    by (piece ∷ pieces) n e = joined_is piece pieces ∙ ap (λ t. 47 ∷ t) e

-- ---- a path

behind_is_written : (d : Description) (text : List ℕ) (p : Trail) → path_of_steps (steps_of d (slice_split is_slash text)) ≡ Some p → 47 ∷ text ≡ path_text d p
behind_is_written d text p h = by_steps (steps_of d (slice_split is_slash text)) refl h
  where
    by_steps : (o : Option (List Step)) → steps_of d (slice_split is_slash text) ≡ o → path_of_steps o ≡ Some p → 47 ∷ text ≡ path_text d p
    by_steps (Some steps) are e =
        let whole : steps_text d steps ≡ 47 ∷ text = steps_are d (slice_split is_slash text) steps are ∙ split_joined text in
        let order : reverse p.upward ≡ steps = ap reverse (sym (trail_of-steps (reverse steps) p e)) ∙ reverse-reverse steps in
        rw (order, whole) refl
    by_steps None are e = cc

pub texts_are_written : TextsAreWritten
texts_are_written d [] p h = cc
texts_are_written d (c ∷ text) p h =
    let a = if_some (is_slash c) (path_behind d text) p h in
    let slash : c ≡ 47 = grind (arith, nat_tests) in
    rw slash (elim (cases_Bool (length text == 0)) [
      | inl none ↦ let e : Some root ≡ Some p = rw none at a.1 in let t = is_empty text none in cc
      | inr some ↦ behind_is_written d text p (rw some at a.1)
    ])
