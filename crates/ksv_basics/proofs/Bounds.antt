-- How many questions plans put.
use Rattle.std.proofs.Common.{◌≡◌, ℕ, zero, suc, ◌+◌, ◌≤◌, Bool, true, false, if◌then◌else◌, List, [], ◌∷◌, length, Result, Ok, Err, sym, subst, arith}
use Rattle.ksv_basics.specs.Plan.{Plan, Answer, Fail, Ask, bind, AsksAtMost, run, IsEnded}
use Rattle.ksv_basics.specs.Asking.{Replies, by_replies}

-- a larger bound holds too
pub asks_more : {Q : Type 0} {R : Q → Type 0} {F A : Type 0} (m n : ℕ) (p : Plan Q R F A) → m ≤ n → AsksAtMost m p → AsksAtMost n p
asks_more m n (Answer a) h b = tt
asks_more m n (Fail e) h b = tt
asks_more zero n (Ask q k) h b = absurd b
asks_more (suc m) zero (Ask q k) h b = absurd (omega arith)
asks_more (suc m) (suc n) (Ask q k) h b = λ r. asks_more m n (k r) (omega arith) (b r)

-- one plan after another puts the questions of both
pub asks_bind : {Q : Type 0} {R : Q → Type 0} {F A B : Type 0} (m n : ℕ) (p : Plan Q R F A) (f : A → Plan Q R F B) → AsksAtMost m p
    → ((a : A) → AsksAtMost n (f a)) → AsksAtMost (m + n) (bind p f)
unfolding bind
asks_bind m n (Answer a) f b g = asks_more n (m + n) (f a) (omega arith) (g a)
asks_bind m n (Fail e) f b g = tt
asks_bind zero n (Ask q k) f b g = absurd b
asks_bind (suc m) n (Ask q k) f b g =
    let e : suc m + n ≡ suc (m + n) = omega arith in
    let P : ℕ → Type 0 = λ x. AsksAtMost x (Ask q (λ r. bind (k r) f)) in
    subst P (sym e) (λ r. asks_bind m n (k r) f (b r) g)

-- the same, within a given sum
pub asks_join : {Q : Type 0} {R : Q → Type 0} {F A B : Type 0} (p : Plan Q R F A) (f : A → Plan Q R F B) (t m n : ℕ) → m + n ≤ t → AsksAtMost m p
    → ((a : A) → AsksAtMost n (f a)) → AsksAtMost t (bind p f)
asks_join p f t m n h b g = asks_more (m + n) t (bind p f) h (asks_bind m n p f b g)

-- one of two plans
pub asks_if : {Q : Type 0} {R : Q → Type 0} {F A : Type 0} (b : Bool) (n : ℕ) (p q : Plan Q R F A) → AsksAtMost n p → AsksAtMost n q
    → AsksAtMost n (if b then p else q)
asks_if true n p q f g = f
asks_if false n p q f g = g

-- a plan that has as many replies as it can ask for ends, whatever they say
pub enough : {Q P H F E A : Type 0} (raise : P → F → E) (n : ℕ) (p : Plan Q (λ _. H) F A) (here : P) (replies : List (Result H E)) → AsksAtMost n p
    → n ≤ length replies → IsEnded (run (by_replies raise) p (record { here = here; replies = replies }))
enough raise n (Answer a) here replies b h = tt
enough raise n (Fail e) here replies b h = tt
enough raise zero (Ask q k) here replies b h = absurd b
enough raise (suc n) (Ask q k) here [] b h = absurd (omega arith)
enough raise (suc n) (Ask q k) here (Ok r ∷ replies) b h = enough raise n (k r) here replies (b r) (omega arith)
enough raise (suc n) (Ask q k) here (Err e ∷ replies) b h = tt
