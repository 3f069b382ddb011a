-- Numbers and ids of entries that were given before.
use Rattle.ksv_schema.proofs.Common.{◌≡◌, ℕ, zero, suc, ◌<◌, arith, length, get_or, take, map, Bool, true, false, cond, List, [], ◌∷◌, ◌++◌, sym, ap, ◌∙◌, refl}
use Rattle.ksv_schema.proofs.Common.{Option, Some, None, ◌||◌, option_map_or}
use Rattle.std.specs.List.{list_any}
use Rattle.ksv_schema.specs.Plain.{Gives, Adds}

or_cond : (is old new : Bool) → new ≡ cond is true old → new ≡ (old || is)
or_cond true true new h = h
or_cond true false new h = h
or_cond false true new h = h
or_cond false false new h = h

or_false : (b : Bool) → b ≡ (b || false)
or_false true = refl
or_false false = refl

-- the thing that an entry has, or none
module _ {K A : Type 0} (old new : K → Bool) (eq : A → K → Bool) where
  pub some_given : (o : Option A) (x : A) → Some x ≡ o → Gives old new (eq x) → Adds old new (λ k. option_map_or (λ y. eq y k) o false)
  some_given o x e g =
      record { given = λ k. or_cond (eq x k) (old k) (new k) (g.given k) ∙ ap (λ (o : Option A). old k || option_map_or (λ y. eq y k) o false) e }

pub none_given : {K A : Type 0} (old : K → Bool) (eq : A → K → Bool) (o : Option A) → None ≡ o → Adds old old (λ k. option_map_or (λ y. eq y k) o false)
none_given old eq o e = record { given = λ k. or_false (old k) ∙ ap (λ (o : Option _). old k || option_map_or (λ y. eq y k) o false) e }

pub again_is : {K E : Type 0} (has : K → Bool) (test : K → E → Bool) (before : List E) → ((k : K) → has k ≡ list_any (test k) before) → (o : Option K)
    → option_map_or has o false ≡ option_map_or (λ k. list_any (test k) before) o false
again_is has test before of None = refl
again_is has test before of (Some k) = of k

-- one element more
pub take_more : {X A : Type 0} (see : X → A) (xs : List X) (i : ℕ) (x : X) → i < length xs → x ≡ get_or xs i x
    → take (suc i) (map see xs) ≡ take i (map see xs) ++ see x ∷ []
take_more see [] i x lt is = absurd (omega arith)
take_more see (y ∷ ys) zero x lt is = ap (λ (z : _). see z ∷ []) (sym is)
take_more see (y ∷ ys) (suc i) x lt is = ap (λ (zs : List _). see y ∷ zs) (take_more see ys i x (omega arith) is)
