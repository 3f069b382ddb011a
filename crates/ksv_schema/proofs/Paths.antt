-- Names with `::` between them.
use Rattle.ksv_schema.proofs.Common.{◌≡◌, ℕ, zero, suc, ◌+◌, ◌<◌, ◌≤◌, Bool, true, false, cond, List, [], ◌∷◌, ◌++◌, length, take, drop, get_or, refl, ap, sym}
use Rattle.ksv_schema.proofs.Common.{◌∙◌, arith, add-one, drop-cons, Some, None, ◌==◌, ◌&&◌, list_all, and_parts, nat_tests, is_id, names_in}
use Rattle.std.specs.Prelude.{if◌then◌else◌}
use Rattle.std.specs.Str.{IsUtf8, IsAscii}
use Rattle.std.proofs.lemmas.Str.{IsUtf8-from_ascii}
use Rattle.std.proofs.lemmas.List.{take_more, length-drop, drop-drop}
use Rattle.std.proofs.lemmas.List.Folds.{list_all-append}
use Rattle.std.proofs.lemmas.Bool.{and_right}
use Rattle.ksv_schema.specs.Keys.{is_letter, is_id_byte}
use Rattle.ksv_schema.specs.KeyTexts.{ids_of}
use Rattle.ksv_schema.specs.KeyCode.{begins_with_colons, IsFirstName}

-- ---- one name

-- one byte more of a name
step_on : (name cs : List ℕ) (c : ℕ) → begins_with_colons (c ∷ cs) ≡ false → names_in name (c ∷ cs) ≡ names_in (name ++ c ∷ []) cs
step_on name [] c h = refl
step_on name (d ∷ cs) c h = ap (λ b. cond b (name ∷ names_in [] cs) (names_in (name ++ c ∷ []) (d ∷ cs))) h

stops : (name ds : List ℕ) → begins_with_colons ds ≡ true → names_in name ds ≡ name ∷ names_in [] (drop 2 ds)
stops name [] h = absurd cc
stops name (c ∷ []) h = absurd cc
stops name (c ∷ d ∷ cs) h = ap (λ b. cond b (name ∷ names_in [] cs) (names_in (name ++ c ∷ []) (d ∷ cs))) h

two_there : (ds : List ℕ) → begins_with_colons ds ≡ true → 2 ≤ length ds
two_there [] h = absurd cc
two_there (c ∷ []) h = absurd cc
two_there (c ∷ d ∷ cs) h = omega arith

drop_two : (n : ℕ) (text : List ℕ) → drop 2 (drop n text) ≡ drop (n + 2) text
drop_two n text = drop-drop 2 n text

pub first_stop : (text : List ℕ) (i : ℕ) → i < length text → begins_with_colons (drop i text) ≡ true → names_in (take i text) (drop i text) ≡ names_in [] text
    → IsFirstName text i
first_stop text i lt h inv =
    let two = two_there (drop i text) h in
    let off : (i == length text) ≡ false = grind (arith, nat_tests) in
    record {
      is = sym inv ∙ stops (take i text) (drop i text) h ∙ ap (λ ds. take i text ∷ names_in [] ds) (drop_two i text)
          ∙ ap (λ b. take i text ∷ (if b then [] else names_in [] (drop (i + 2) text))) (sym off);
      bound = omega arith;
      behind = λ _. omega (arith, length-drop i text);
    }

pub first_on : (text : List ℕ) (i : ℕ) → i < length text → begins_with_colons (drop i text) ≡ false → names_in (take i text) (drop i text) ≡ names_in [] text
    → names_in (take (i + 1) text) (drop (i + 1) text) ≡ names_in [] text
first_on text i lt h inv =
    let e : drop i text ≡ get_or text i 0 ∷ drop (i + 1) text = drop-cons text i 0 lt ∙ ap (λ k. get_or text i 0 ∷ drop k text) (sym (add-one i)) in
    ap (λ name. names_in name (drop (i + 1) text)) (take_more text i 0 lt)
    ∙ sym (step_on (take i text) (drop (i + 1) text) (get_or text i 0) (ap begins_with_colons (sym e) ∙ h))
    ∙ ap (names_in (take i text)) (sym e) ∙ inv

-- ---- ids

letter_low : (c : ℕ) → is_letter c ≡ true → c < 128
letter_low c h = grind (arith, nat_tests)

byte_low : (c : ℕ) → is_id_byte c ≡ true → c < 128
byte_low c h = grind (arith, nat_tests)

bytes_low : (cs : List ℕ) → list_all is_id_byte cs ≡ true → IsAscii cs
bytes_low [] h i = omega arith
bytes_low (c ∷ cs) h zero = byte_low c (and_parts (is_id_byte c) (list_all is_id_byte cs) h).0
bytes_low (c ∷ cs) h (suc i) = bytes_low cs (and_parts (is_id_byte c) (list_all is_id_byte cs) h).1 i

pub id_is_utf8 : (text : List ℕ) → is_id text ≡ true → IsUtf8 text
unfolding is_id
id_is_utf8 [] h = absurd cc
id_is_utf8 (c ∷ cs) h = IsUtf8-from_ascii (c ∷ cs) all
  where
    all : IsAscii (c ∷ cs)
    all zero = letter_low c (and_parts (is_letter c) (list_all is_id_byte cs) h).0
    all (suc i) = bytes_low cs (and_parts (is_letter c) (list_all is_id_byte cs) h).1 i

-- ---- all names

module _ (text : List ℕ) where
  pub ids_none : (names more : List (List ℕ)) (name : List ℕ) → names ++ name ∷ more ≡ names_in [] text → None ≡ (if is_id name then Some name else None)
      → None ≡ ids_of text
  unfolding ids_of
  ids_none names more name e h =
      let bad = not_id name (is_id name) h in
      let no : list_all is_id (names_in [] text) ≡ false = ap (list_all is_id) (sym e) ∙ list_all-append is_id names (name ∷ more)
      ∙ ap (λ b. list_all is_id names && (b && list_all is_id more)) bad ∙ and_right (list_all is_id names) false refl in
      sym (ap (λ b. if b then Some (names_in [] text) else None) no)
    where
      not_id : (name : List ℕ) (b : Bool) → None ≡ (if b then Some name else None) → b ≡ false
      not_id name true h = absurd (let k : None ≡ Some name = h in cc)
      not_id name false h = refl

  pub ids_some : (names : List (List ℕ)) → names ≡ names_in [] text → list_all is_id names ≡ true → Some names ≡ ids_of text
  unfolding ids_of
  ids_some names e h = sym (ap (λ names. if list_all is_id names then Some names else None) (sym e) ∙ ap (λ b. if b then Some names else None) h)

  pub ids_end : (names news : List (List ℕ)) (rest name : List ℕ) (n : ℕ) → news ≡ names ++ name ∷ []
      → Some name ≡ (if is_id (take n rest) then Some (take n rest) else None) → n ≡ length rest
      → names_in [] rest ≡ take n rest ∷ (if n == length rest then [] else names_in [] (drop (n + 2) rest)) → names ++ names_in [] rest ≡ names_in [] text
      → list_all is_id names ≡ true → Some news ≡ ids_of text
  ids_end names news rest name n e o l h inv all =
      let on : (n == length rest) ≡ true = grind (arith, nat_tests) in
      let last : names_in [] rest ≡ take n rest ∷ [] = h ∙ ap (λ b. take n rest ∷ (if b then [] else names_in [] (drop (n + 2) rest))) on in
      let good = an_id (take n rest) name (is_id (take n rest)) refl o in
      let whole : news ≡ names ++ take n rest ∷ [] = e ∙ ap (λ x. names ++ x ∷ []) good.0 in
      ids_some news (whole ∙ ap (λ xs. names ++ xs) (sym last) ∙ inv)
      (ap (list_all is_id) whole ∙ list_all-append is_id names (take n rest ∷ []) ∙ ap (λ b. b && (is_id (take n rest) && true)) all
      ∙ ap (λ b. b && true) good.1)
    where
      an_id : (x name : List ℕ) (b : Bool) → is_id x ≡ b → Some name ≡ (if b then Some x else None) → (name ≡ x) × (is_id x ≡ true)
      an_id x name true e h = (cc, e)
      an_id x name false e h = absurd (let k : Some name ≡ None = h in cc)
