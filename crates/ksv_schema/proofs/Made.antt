-- A loop that makes something of each element.
use Rattle.ksv_schema.proofs.Common.{◌≡◌, ℕ, zero, suc, ◌+◌, ◌<◌, Bool, true, false, List, [], ◌∷◌, ◌++◌, map, length, get_or, drop, refl, sym, ap, ◌∙◌, arith}
use Rattle.ksv_schema.proofs.Common.{add-one, drop-cons, map-append, Option, Some, None, option_map, ◌>>=◌}
use Rattle.std.proofs.lemmas.List.{append_assoc}
use Rattle.ksv_schema.specs.Code.{kept_where, onto, pushed}

-- ---- lists to which a loop adds what it makes of each element

-- what is made of one element is added to what was made of those before it
pub added : {X B : Type 0} (xs : List X) (rest : List X → List B) (i : ℕ) (x : X) (here made more whole : List B) → i < length xs → x ≡ get_or xs i x
    → ((ys : List X) → rest (x ∷ ys) ≡ here ++ rest ys) → more ≡ made ++ here → made ++ rest (drop i xs) ≡ whole → more ++ rest (drop (i + 1) xs) ≡ whole
added {X = X} {B = B} xs rest i x here made more whole lt is next new now =
    ap (λ (ys : List B). ys ++ rest (drop (i + 1) xs)) new ∙ append_assoc made here (rest (drop (i + 1) xs))
    ∙ ap (λ (ys : List B). made ++ ys) (sym (next (drop (i + 1) xs))) ∙ ap (λ (j : ℕ). made ++ rest (x ∷ drop j xs)) (add-one i)
    ∙ ap (λ (y : X). made ++ rest (y ∷ drop (suc i) xs)) is ∙ sym (ap (λ (ys : List X). made ++ rest ys) (drop-cons xs i x lt)) ∙ now

-- the same of what may fail to be made
module _ {X Y C : Type 0} (see : Y → C) (xs : List X) (i : ℕ) (x : X) (made : List Y) (one : Option Y) (rest : List X → Option (List C))
    (here : Option C) (behind : List X → Option (List C)) (whole : Option (List C))
    (lt : i < length xs) (is : x ≡ get_or xs i x) (same : option_map see one ≡ here)
    (next : (ys : List X) → rest (x ∷ ys) ≡ here >>= (λ z. behind ys >>= (λ zs. Some (z ∷ zs))))
    (now : onto (map see made) (rest (drop i xs)) ≡ whole) where
  here_now : onto (map see made) (option_map see one >>= (λ z. behind (drop (suc i) xs) >>= (λ zs. Some (z ∷ zs)))) ≡ whole
  here_now =
      ap (λ (o : Option C). onto (map see made) (o >>= (λ z. behind (drop (suc i) xs) >>= (λ zs. Some (z ∷ zs))))) same
      ∙ ap (onto (map see made)) (sym (next (drop (suc i) xs))) ∙ ap (λ (y : X). onto (map see made) (rest (y ∷ drop (suc i) xs))) is
      ∙ sym (ap (λ (ys : List X). onto (map see made) (rest ys)) (drop-cons xs i x lt)) ∙ now

  pub one_more : (more : List Y) (all : Bool) → all ≡ true → kept_where all more ≡ pushed (Some made) one
      → onto (map see more) (behind (drop (i + 1) xs)) ≡ whole
  one_more more all is_all e =
      ap (λ (j : ℕ). onto (map see more) (behind (drop j xs))) (add-one i)
      ∙ with_one one (behind (drop (suc i) xs)) (sym (ap (λ (b : Bool). kept_where b more) is_all) ∙ e) here_now
    where
      with_one : (one : Option Y) (others : Option (List C)) → Some more ≡ pushed (Some made) one
          → onto (map see made) (option_map see one >>= (λ z. others >>= (λ zs. Some (z ∷ zs)))) ≡ whole → onto (map see more) others ≡ whole
      with_one None others e h = absurd cc
      with_one (Some y) None e h = h
      with_one (Some y) (Some zs) e h =
          let more_is : more ≡ made ++ y ∷ [] = cc in
          ap (λ (ys : List Y). Some (map see ys ++ zs)) more_is ∙ ap (λ (ys : List C). Some (ys ++ zs)) (map-append see made (y ∷ []))
          ∙ ap Some (append_assoc (map see made) (see y ∷ []) zs) ∙ h

  pub no_more : (more : List Y) (all : Bool) → all ≡ false → kept_where all more ≡ pushed (Some made) one → None ≡ whole
  no_more more all is_not e = without one (sym (ap (λ (b : Bool). kept_where b more) is_not) ∙ e) here_now
    where
      without : (one : Option Y) → None ≡ pushed (Some made) one
          → onto (map see made) (option_map see one >>= (λ z. behind (drop (suc i) xs) >>= (λ zs. Some (z ∷ zs)))) ≡ whole → None ≡ whole
      without None e h = h
      without (Some y) e h = absurd cc

-- ---- two lists with the same parts

pub same_length : {X Y A B : Type 0} (f : X → A) (g : B → A) (h : Y → B) (xs : List X) (ys : List Y) → map f xs ≡ map g (map h ys) → length xs ≡ length ys
same_length f g h [] [] e = refl
same_length f g h [] (y ∷ ys) e = absurd cc
same_length f g h (x ∷ xs) [] e = absurd cc
same_length f g h (x ∷ xs) (y ∷ ys) e = let more : map f xs ≡ map g (map h ys) = cc in ap suc (same_length f g h xs ys more)

pub same_at : {X Y A B : Type 0} (f : X → A) (g : B → A) (h : Y → B) (xs : List X) (ys : List Y) (i : ℕ) (x : X) (y : Y) → map f xs ≡ map g (map h ys)
    → i < length ys → x ≡ get_or xs i x → y ≡ get_or ys i y → f x ≡ g (h y)
same_at f g h xs [] i x y e lt is it = absurd (omega arith)
same_at f g h [] (b ∷ ys) i x y e lt is it = absurd cc
same_at f g h (a ∷ xs) (b ∷ ys) zero x y e lt is it = let first : f a ≡ g (h b) = cc in ap f is ∙ first ∙ sym (ap (λ z. g (h z)) it)
same_at f g h (a ∷ xs) (b ∷ ys) (suc i) x y e lt is it = let more : map f xs ≡ map g (map h ys) = cc in same_at f g h xs ys i x y more (omega arith) is it
