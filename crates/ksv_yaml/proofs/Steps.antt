-- What a step of reading that found something says.
use Rattle.ksv_yaml.proofs.Common.{◌≡◌, ◌-◌, ℕ, zero, suc, ◌<◌, Bool, true, false, cond, List, [], ◌∷◌, ◌++◌, Option, Some, None, refl, sym, ap, ◌∙◌}
use Rattle.ksv_yaml.proofs.Common.{append_assoc, arith, at_true, at_false, AreQuiet, deeper, Got, got, ◌>>=◌, Line, is_quiet, loud}
use Rattle.std.proofs.Common.{◌==◌}

pub bind_some : {A B : Type 0} (r : Option A) (f : A → Option B) (y : B) → (r >>= f) ≡ Some y → (x : A) × (r ≡ Some x) × (f x ≡ Some y)
bind_some None f y h = absurd cc
bind_some (Some x) f y h = (x, refl, h)

-- the same, and a level deeper, with what follows of a step as an argument
pub with_bind : {A B P : Type 0} (r : Option A) (f : A → Option B) (y : B) → (r >>= f) ≡ Some y → ((x : A) → r ≡ Some x → f x ≡ Some y → P) → P
with_bind None f y h k = absurd cc
with_bind (Some x) f y h k = k x refl h

pub with_deeper : {A P : Type 0} (n : ℕ) (f : ℕ → Option A) (y : A) → deeper n f ≡ Some y → ((m : ℕ) → n ≡ suc m → f m ≡ Some y → P) → P
with_deeper zero f y h k = absurd cc
with_deeper (suc n) f y h k = k n refl h

pub by_test : {P : Type 0} (b : Bool) → (b ≡ true → P) → (b ≡ false → P) → P
by_test true f g = f refl
by_test false f g = g refl

pub got_is : {L A : Type 0} {v : A} {ls : List L} {x : Got L A} → got v ls ≡ Some x → record { value = v; rest = ls } ≡ x
got_is h = cc

pub two_less : (n : ℕ) → 1 < n → (m : ℕ) × (n ≡ suc (suc m))
two_less n h = (n - 2, omega arith)

pub three_less : (n : ℕ) → 2 < n → (m : ℕ) × (n ≡ suc (suc (suc m)))
three_less n h = (n - 3, omega arith)

pub five_less : (n : ℕ) → 4 < n → (m : ℕ) × (n ≡ suc (suc (suc (suc (suc m)))))
five_less n h = (n - 5, omega arith)

pub one_less : (n : ℕ) → 0 < n → (m : ℕ) × (n ≡ suc m)
one_less n h = (n - 1, omega arith)

pub not_level : (a b : ℕ) → a < b → (a == b) ≡ false
not_level a b h = grind arith

-- elements were taken from the front
pub record Took (L : Type 0) (ls rest : List L) (P : List L → Type 0) : Type 0 where
  pub front : List L
  pub cut : ls ≡ front ++ rest
  pub is : P front

pub took_none : {L : Type 0} (ls : List L) (P : List L → Type 0) → P [] → Took L ls ls P
took_none ls P p = record { front = []; cut = refl; is = p }

pub took_as : {L : Type 0} {ls rest : List L} {P : List L → Type 0} (Q : List L → Type 0) → ((xs : List L) → P xs → Q xs) → Took L ls rest P → Took L ls rest Q
took_as Q f t = record { front = t.front; cut = t.cut; is = f t.front t.is }

pub took_then : {L : Type 0} {ls mid rest : List L} {P Q : List L → Type 0} (R : List L → Type 0) → (s : Took L ls mid P) → (t : Took L mid rest Q)
    → R (s.front ++ t.front) → Took L ls rest R
took_then {L} {rest = rest} R s t r =
    record { front = s.front ++ t.front; cut = s.cut ∙ ap (λ (r : List L). s.front ++ r) t.cut ∙ sym (append_assoc s.front t.front rest); is = r }

pub took_first : {L : Type 0} {ls rest : List L} {P : List L → Type 0} (l : L) (Q : List L → Type 0) → ((xs : List L) → P xs → Q (l ∷ xs)) → Took L ls rest P
    → Took L (l ∷ ls) rest Q
took_first {L} l Q f t = record { front = l ∷ t.front; cut = ap (λ (r : List L). l ∷ r) t.cut; is = f t.front t.is }

-- ---- quiet lines

loud_step : (b : Bool) (l : Line) (ls : List Line) → is_quiet l ≡ b → Took Line ls (loud ls) AreQuiet → Took Line (l ∷ ls) (cond b (loud ls) (l ∷ ls)) AreQuiet
loud_step true l ls e t = took_first l AreQuiet (λ xs q. (e, q)) t
loud_step false l ls e t = took_none (l ∷ ls) AreQuiet tt

pub loud_took : (ls : List Line) → Took Line ls (loud ls) AreQuiet
loud_took [] = took_none [] AreQuiet tt
loud_took (l ∷ ls) = loud_step (is_quiet l) l ls refl (loud_took ls)

-- the first line, if any, says something
abbrev pub Loud : List Line → Type 0
Loud [] = Unit {0}
Loud (l ∷ ls) = is_quiet l ≡ false

pub loud_stop : (ls : List Line) → Loud ls → loud ls ≡ ls
loud_stop [] h = refl
loud_stop (l ∷ ls) h = at_false (is_quiet l) _ _ h

pub loud_behind : (qs ls : List Line) → AreQuiet qs → Loud ls → loud (qs ++ ls) ≡ ls
loud_behind [] ls q h = loud_stop ls h
loud_behind (l ∷ qs) ls q h = at_true (is_quiet l) _ _ q.0 ∙ loud_behind qs ls q.1 h
