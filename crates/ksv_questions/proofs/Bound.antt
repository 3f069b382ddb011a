-- One question after another.
use Rattle.ksv_questions.proofs.Common.{◌≡◌, ◌∷◌, ◌++◌, refl, ap, Answer, Fail, bind, Node, Asking, Heard}
use Rattle.ksv_basics.specs.Plan.{Ask}
use Rattle.ksv_basics.specs.Asking.{and_then, asks_behind}
use Rattle.ksv_questions.specs.Asking.{Failure, asks_of, result_of}

module _ (met : Node → Heard) where
  pub result_bind : {A B : Type 0} (p : Asking A) (f : A → Asking B) → result_of met (bind p f) ≡ and_then (result_of met p) (λ a. result_of met (f a))
  unfolding bind
  result_bind (Answer a) f = refl
  result_bind (Fail e) f = refl
  result_bind (Ask n k) f = result_bind (k (met n)) f

  pub asks_bind : {A B : Type 0} (p : Asking A) (f : A → Asking B)
      → asks_of met (bind p f) ≡ asks_of met p ++ asks_behind (result_of met p) (λ a. asks_of met (f a))
  unfolding bind
  asks_bind (Answer a) f = refl
  asks_bind (Fail e) f = refl
  asks_bind (Ask n k) f = ap (λ rest. n ∷ rest) (asks_bind (k (met n)) f)

-- a question that asks nothing, and then another
pub bind_is : {A B : Type 0} (p : Asking A) (f : A → Asking B) (a : A) → p ≡ Answer a → bind p f ≡ f a
unfolding bind
bind_is p f a is = ap (λ q. bind q f) is

pub bind_fails : {A B : Type 0} (p : Asking A) (f : A → Asking B) (e : Failure) → p ≡ Fail e → bind p f ≡ Fail e
unfolding bind
bind_fails p f e is = ap (λ q. bind q f) is
