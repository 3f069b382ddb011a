-- The table of names as the code holds it.
use Rattle.std.proofs.Common.{◌≡◌, ℕ, ◌+◌, ◌<◌, ◌^◌, Bool, true, false, cond, if◌then◌else◌, List, [], ◌∷◌, ◌++◌, map, length, Option, Some, None, Result, Ok}
use Rattle.std.proofs.Common.{Err, refl, sym, ap, subst, ◌∙◌, String, Global, string_bytes, is_some, arith}
use Rattle.std.specs.Prelude.{OnOk, is_err}
use Rattle.std.specs.List.{list_any, position_from}
use Rattle.std.specs.Str.{bytes_eq}
use Rattle.std.specs.String.{string_eq}
use Rattle.std.specs.Map.{lookup}
use Rattle.std.specs.HashMap.{HashMap, UpdatesBy, get_by_text}
use Rattle.std.proofs.lemmas.List.{length-append, length-map, map-append}
use Rattle.std.proofs.lemmas.Map.Text.{hash_map_updates_text}
use Rattle.std.proofs.lemmas.Slice.Eq.{bytes_eq-Decides}
use Rattle.ksv_desc.specs.Names.{number_in, distinct_behind}
use Rattle.ksv_desc.specs.Code.{AreNumbered}
use Rattle.ksv_desc.proofs.Tabled.{same_is, found_any, position_last}
use Rattle.ksv_expr_value.proofs.Halves.{turned}

-- what doesn't pass a test changes no place
position_other : (t : List ℕ → Bool) (i : ℕ) (xs : List (List ℕ)) (y : List ℕ) → t y ≡ false → position_from t i (xs ++ y ∷ []) ≡ position_from t i xs
position_other t i [] y other = ap (λ (b : Bool). cond b (Some i) None) other
position_other t i (x ∷ xs) y other = ap (λ (o : Option ℕ). cond (t x) (Some i) o) (position_other t (i + 1) xs y other)

-- a table of no names
pub none_yet : {S : Type 0} (texts : List (String Global)) (m : HashMap (String Global) ℕ S) → texts ≡ [] → m.entries ≡ []
    → AreNumbered (map string_bytes texts) m
unfolding number_in
none_yet texts m none empty = record {
  few = omega (arith, ap length (ap (λ (ts : List (String Global)). map string_bytes ts) none));
  found = λ w. ap (λ (es : List (String Global × ℕ)). lookup (λ k. bytes_eq w (string_bytes k)) es) empty
      ∙ sym (ap (λ (ts : List (String Global)). position_from (bytes_eq w) 0 (map string_bytes ts)) none);
}

module _ {S : Type 0} (names : List (List ℕ)) (m : HashMap (String Global) ℕ S) (b : List ℕ) where
  -- a name is there where the map has a number for it
  there : AreNumbered names m → list_any (bytes_eq b) names ≡ is_some (get_by_text m b)
  unfolding number_in
  there h = sym (found_any (bytes_eq b) 0 names) ∙ ap (λ (o : Option ℕ). is_some o) (sym (h.found b))

  -- a name that is there already
  pub stays : AreNumbered names m → true ≡ is_some (get_by_text m b) → names ≡ distinct_behind names (b ∷ [])
  stays h has = ap (λ (t : Bool). if t then names else names ++ b ∷ []) (has ∙ sym (there h))

  -- a name that isn't
  pub goes_last : AreNumbered names m → false ≡ is_some (get_by_text m b) → names ++ b ∷ [] ≡ distinct_behind names (b ∷ [])
  goes_last h lacks = ap (λ (t : Bool). if t then names else names ++ b ∷ []) (lacks ∙ sym (there h))

  -- its number is its place
  pub one_more : (k : String Global) (n : HashMap (String Global) ℕ S) → AreNumbered names m → false ≡ is_some (get_by_text m b) → string_bytes k ≡ b
      → length names < 2 ^ 32
      → UpdatesBy string_eq (string_eq k) m n (Some (length names)) → AreNumbered (names ++ b ∷ []) n
  unfolding number_in
  one_more k n h lacks same few put = record {
    few = omega (arith, length-append names (b ∷ []));
    found = λ w. hash_map_updates_text (string_bytes k) m n (Some (length names)) put w
        ∙ ap (λ (c : List ℕ). cond (bytes_eq c w) (Some (length names)) (get_by_text m w)) same ∙ by_test w (bytes_eq b w) refl;
  } where
    by_test : (w : List ℕ) (t : Bool) → bytes_eq b w ≡ t → cond t (Some (length names)) (get_by_text m w) ≡ position_from (bytes_eq w) 0 (names ++ b ∷ [])
    by_test w true is = sym (
        ap (λ (x : List ℕ). position_from (bytes_eq x) 0 (names ++ b ∷ [])) (sym ((bytes_eq-Decides b w).0 is))
        ∙ position_last (bytes_eq b) 0 names b (there h ∙ sym lacks) (same_is b) ∙ ap Some (omega arith))
    by_test w false is = h.found w ∙ sym (position_other (bytes_eq w) 0 names b (turned w b ∙ is))

-- ---- a text that was added

-- what a call ensures that gave no error
pub on_ok : {A E P : Type 0} (r : Result A E) → OnOk r P → false ≡ is_err r → P
on_ok (Ok x) h is = h
on_ok (Err e) h is = absurd cc

pub longer : (texts more : List (String Global)) (t : String Global) (b : List ℕ) → more ≡ texts ++ t ∷ [] → string_bytes t ≡ b
    → map string_bytes more ≡ map string_bytes texts ++ b ∷ []
longer texts more t b is same = ap (map string_bytes) is ∙ map-append string_bytes texts (t ∷ []) ∙ ap (λ (c : List ℕ). map string_bytes texts ++ c ∷ []) same

pub numbered : {S : Type 0} (texts more : List (String Global)) (m n : HashMap (String Global) ℕ S) (b : List ℕ) (t k : String Global) (number : ℕ)
    → AreNumbered (map string_bytes texts) m → false ≡ is_some (get_by_text m b)
    → more ≡ texts ++ t ∷ [] → string_bytes t ≡ b → string_bytes k ≡ b → number ≡ length texts → number < 2 ^ 32
    → UpdatesBy string_eq (string_eq k) m n (Some number) → AreNumbered (map string_bytes more) n
numbered {S} texts more m n b t k number h lacks is same key place few put =
    let e : number ≡ length (map string_bytes texts) = place ∙ sym (length-map texts string_bytes) in
    subst (λ (l : List (List ℕ)). AreNumbered l n) (sym (longer texts more t b is same))
    (one_more (map string_bytes texts) m b k n h lacks key (subst (λ (x : ℕ). x < 2 ^ 32) e few)
    (subst (λ (x : ℕ). UpdatesBy string_eq (string_eq k) m n (Some x)) e put))
