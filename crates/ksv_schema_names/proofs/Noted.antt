-- The least fault, of one part after the other.
use Rattle.ksv_schema_names.proofs.Common.{◌≡◌, ℕ, suc, ◌+◌, ◌<◌, ◌≤◌, List, [], ◌∷◌, ◌++◌, Option, Some, map, length, get_or, drop, refl, sym, ap, ◌∙◌}
use Rattle.ksv_schema_names.proofs.Common.{flat_map, NameFault, Unknown, least}
use Rattle.std.proofs.Common.{if◌then◌else◌, add-one, drop-cons}
use Rattle.std.specs.List.{list_any}
use Rattle.std.proofs.lemmas.List.{drop_all}
use Rattle.std.proofs.lemmas.List.Sums.{fold-append}
use Rattle.ksv_schema_names.specs.declared.position.NameFault.TheVariants.{LeftOut}
use Rattle.ksv_schema_names.specs.Names.{lesser}
use Rattle.ksv_schema_names.specs.Resolved.{is_unknown, LeastIsTold}

pub least_none : (o : Option NameFault) → least o [] ≡ o
unfolding least
least_none o = refl

pub least_append : (o : Option NameFault) (ks ls : List NameFault) → least o (ks ++ ls) ≡ least (least o ks) ls
unfolding least
least_append o ks ls = fold-append lesser o ks ls

-- the faults of one part, and then those of the next
pub least_then : (o p q : Option NameFault) (ks ls : List NameFault) → p ≡ least o ks → q ≡ least p ls → q ≡ least o (ks ++ ls)
least_then o p q ks ls first second = second ∙ ap (λ (x : Option NameFault). least x ls) first ∙ sym (least_append o ks ls)

pub ruleset steps = (least_none, least_append)

-- ---- a loop over parts

module _ {X A : Type 0} (see : X → A) (f : A → List NameFault) (xs : List X) where
  pub least_step : (i : ℕ) (x : X) (o p q : Option NameFault) → i < length xs → x ≡ get_or xs i x → p ≡ least o (f (see x))
      → least o (flat_map f (map see (drop i xs))) ≡ q → least p (flat_map f (map see (drop (i + 1) xs))) ≡ q
  least_step i x o p q lt is new now =
      rw (add-one i, new) (ap (λ (y : X). least (least o (f (see y))) (flat_map f (map see (drop (suc i) xs)))) is
      ∙ sym (least_append o (f (see (get_or xs i x))) (flat_map f (map see (drop (suc i) xs))))
      ∙ sym (ap (λ (ys : List X). least o (flat_map f (map see ys))) (drop-cons xs i x lt)) ∙ now)

  pub least_end : (i : ℕ) (o q : Option NameFault) → length xs ≤ i → least o (flat_map f (map see (drop i xs))) ≡ q → o ≡ q
  least_end i o q le now = sym (least_none o) ∙ ap (λ (ys : List X). least o (flat_map f (map see ys))) (sym (drop_all i xs le)) ∙ now

-- ---- the least fault

after_unknown : (ks : List NameFault) → least (Some Unknown) ks ≡ Some Unknown
unfolding least
after_unknown [] = refl
after_unknown (k ∷ ks) = after_unknown ks

after_left_out : (ks : List NameFault) → least (Some LeftOut) ks ≡ (if list_any is_unknown ks then Some Unknown else Some LeftOut)
unfolding least
after_left_out [] = refl
after_left_out (Unknown ∷ ks) = after_unknown ks
after_left_out (LeftOut ∷ ks) = after_left_out ks

pub least_told : LeastIsTold
unfolding least
least_told [] = refl
least_told (Unknown ∷ ks) = after_unknown ks
least_told (LeftOut ∷ ks) = after_left_out ks
