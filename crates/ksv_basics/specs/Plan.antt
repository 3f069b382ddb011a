-- A plan: what is asked, and what is done with each answer. Nothing here depends on who answers.
use Rattle.std.specs.Prelude.{ℕ, zero, suc}

-- a plan over questions Q, each q answered by an R q, that ends in an answer A or a failure F
pub data Plan (Q : Type 0) (R : Q → Type 0) (F A : Type 0) : Type 0 where
  Answer : A → Plan Q R F A
  Fail : F → Plan Q R F A
  Ask : (q : Q) → (R q → Plan Q R F A) → Plan Q R F A

-- one plan, and then another with its answer
unfoldable pub bind : {Q : Type 0} {R : Q → Type 0} {F A B : Type 0} → Plan Q R F A → (A → Plan Q R F B) → Plan Q R F B
bind (Answer a) f = f a
bind (Fail e) f = Fail e
bind (Ask q k) f = Ask q (λ r. bind (k r) f)

-- the same, for `do`
infixl 10 ◌>>=◌
abbrev pub ◌>>=◌ : {Q : Type 0} {R : Q → Type 0} {F A B : Type 0} → Plan Q R F A → (A → Plan Q R F B) → Plan Q R F B
p >>= f = bind p f

-- the same, where the first plan's answer isn't used
infixl 10 ◌>>◌
abbrev pub ◌>>◌ : {Q : Type 0} {R : Q → Type 0} {F A B : Type 0} → Plan Q R F A → Plan Q R F B → Plan Q R F B
p >> q = p >>= (λ _. q)

-- the result of running a plan, and the state after it: a question N that is still open, a fault E, or an answer
pub data Ran (N E S A : Type 0) : Type 0 where
  Need : N → S → Ran N E S A
  Failed : E → S → Ran N E S A
  Done : A → S → Ran N E S A

-- who answers the questions, in states S
pub record Handler (Q : Type 0) (R : Q → Type 0) (F S N E : Type 0) : Type 0 where
  pub reply : (q : Q) → S → Ran N E S (R q)
  pub raise : F → S → E

-- goes on after an answer
abbrev pub next : {N E S A B : Type 0} → Ran N E S A → (A → S → Ran N E S B) → Ran N E S B
next (Need n s) f = Need n s
next (Failed e s) f = Failed e s
next (Done a s) f = f a s

-- the result of a plan, where this handler answers
abbrev pub run : {Q : Type 0} {R : Q → Type 0} {F S N E A : Type 0} → Handler Q R F S N E → Plan Q R F A → S → Ran N E S A
run h (Answer a) s = Done a s
run h (Fail e) s = Failed (h.raise e s) s
run h (Ask q k) s = next (h.reply q s) (λ r s'. run h (k r) s')

-- the state after a run
abbrev pub behind : {N E S A : Type 0} → Ran N E S A → S
behind (Need n s) = s
behind (Failed e s) = s
behind (Done a s) = s

-- a run that has no open question
abbrev pub IsEnded : {N E S A : Type 0} → Ran N E S A → Type 0
IsEnded (Need n s) = ⊥
IsEnded (Failed e s) = Unit {0}
IsEnded (Done a s) = Unit {0}

-- each question of a plan answered by a plan over other questions: this is how one level of rules uses another
abbrev pub translate : {Q Q' : Type 0} {R : Q → Type 0} {R' : Q' → Type 0} {F F' A : Type 0} → ((q : Q) → Plan Q' R' F' (R q)) → (F → F') → Plan Q R F A → Plan Q' R' F' A
translate t raise (Answer a) = Answer a
translate t raise (Fail e) = Fail (raise e)
translate t raise (Ask q k) = t q >>= (λ r. translate t raise (k r))

-- a plan asks at most n questions, whatever the answers are
abbrev pub AsksAtMost : {Q : Type 0} {R : Q → Type 0} {F A : Type 0} → ℕ → Plan Q R F A → Type 0
AsksAtMost n (Answer a) = Unit {0}
AsksAtMost n (Fail e) = Unit {0}
AsksAtMost zero (Ask q k) = ⊥
AsksAtMost {R = R} (suc n) (Ask q k) = (r : R q) → AsksAtMost n (k r)
