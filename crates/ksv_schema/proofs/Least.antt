-- What is noted of a list is its least fault.
use Rattle.ksv_schema.proofs.Common.{◌≡◌, ℕ, Bool, true, false, cond, List, [], ◌∷◌, sym, ap, ◌∙◌, refl, Option, Some, None, arith, zero, suc, subst, nat_lt}
use Rattle.ksv_schema.proofs.Common.{◌==◌, ◌||◌, ◌&&◌, nat_tests, Fault, noted}
use Rattle.std.proofs.Common.{◌⊎◌, inl, inr}
use Rattle.std.specs.Prelude.{All, Contains}
use Rattle.std.proofs.lemmas.Option.{same_Some}
use Rattle.ksv_schema.specs.Faults.{lesser, is_below, IsLeast}
use Rattle.ksv_schema.proofs.Noted.{noted_none}

-- what isn't below a middle one isn't below one that is above it
not_below : (a x b y d z : ℕ) → (nat_lt b a || ((b == a) && nat_lt y x)) ≡ true → (nat_lt b d || ((b == d) && nat_lt y z)) ≡ false
    → (nat_lt a d || ((a == d) && nat_lt x z)) ≡ false
not_below a x b y d z h k = grind (arith, nat_tests)

pub below_trans : (a b d : Fault) → is_below b a ≡ true → is_below b d ≡ false → is_below a d ≡ false
unfolding is_below
below_trans a b d h k = not_below a.line a.number b.line b.number d.line d.number h k

not_over_lem : (a x b y d z : ℕ) → (nat_lt a b || ((a == b) && nat_lt x y)) ≡ false → (nat_lt b d || ((b == d) && nat_lt y z)) ≡ false
    → (nat_lt a d || ((a == d) && nat_lt x z)) ≡ false
not_over_lem a x b y d z h k = grind (arith, nat_tests)

pub not_over : (a b d : Fault) → is_below a b ≡ false → is_below b d ≡ false → is_below a d ≡ false
unfolding is_below
not_over a b d h k = not_over_lem a.line a.number b.line b.number d.line d.number h k

pub below_self : (a : Fault) → is_below a a ≡ false
unfolding is_below
below_self a = not_below_self a.line a.number
  where
    not_below_self : (a x : ℕ) → (nat_lt a a || ((a == a) && nat_lt x x)) ≡ false
    not_below_self a x = grind (arith, nat_tests)

pub noted_cons : (o : Option Fault) (f : Fault) (fs : List Fault) → noted o (f ∷ fs) ≡ noted (lesser o f) fs
unfolding noted
noted_cons o f fs = refl

-- the least of one so far and others
pub record Among (so_far f : Fault) (fs : List Fault) : Type 0 where
  pub here : (so_far ≡ f) ⊎ Contains fs f
  pub first : is_below so_far f ≡ false
  pub others : All (λ g. is_below g f ≡ false) fs

contains_first : {A : Type 0} (x : A) (xs : List A) → Contains (x ∷ xs) x
contains_first x xs = (0, omega arith, refl)

contains_more : {A : Type 0} (x y : A) (xs : List A) → Contains xs x → Contains (y ∷ xs) x
contains_more x y xs (k, lt, e) = (suc k, omega arith, e)

all_none : {A : Type 0} (P : A → Type 0) → All P []
all_none P k d lt = absurd (omega arith)

all_cons : {A : Type 0} (P : A → Type 0) (x : A) (xs : List A) → P x → All P xs → All P (x ∷ xs)
all_cons P x xs p h zero d lt = p
all_cons P x xs p h (suc k) d lt = h k d (omega arith)

among : (so_far f : Fault) (fs : List Fault) → noted (Some so_far) fs ≡ Some f → Among so_far f fs
among so_far f [] h =
    let e : so_far ≡ f = same_Some so_far f (sym (noted_none (Some so_far)) ∙ h) in
    record { here = inl e; first = subst (λ (f : Fault). is_below so_far f ≡ false) e (below_self so_far); others = all_none (λ x. is_below x f ≡ false) }
among so_far f (g ∷ fs) h = by_test (is_below g so_far) refl (among so_far f fs) (among g f fs)
  where
    by_test : (b : Bool) → is_below g so_far ≡ b → (noted (Some so_far) fs ≡ Some f → Among so_far f fs) → (noted (Some g) fs ≡ Some f → Among g f fs)
        → Among so_far f (g ∷ fs)
    by_test true e keeps changes =
        let r = changes (sym (noted_cons (Some so_far) g fs ∙ ap (λ (b : Bool). noted (cond b (Some g) (Some so_far)) fs) e) ∙ h) in
        record {
          here = inr (elim r.here
              [ inl same ↦ subst (λ (f : Fault). Contains (g ∷ fs) f) same (contains_first g fs) | inr there ↦ contains_more f g fs there ]);
          first = below_trans so_far g f e r.first;
          others = all_cons (λ x. is_below x f ≡ false) g fs r.first r.others;
        }
    by_test false e keeps changes =
        let r = keeps (sym (noted_cons (Some so_far) g fs ∙ ap (λ (b : Bool). noted (cond b (Some g) (Some so_far)) fs) e) ∙ h) in
        record {
          here = elim r.here [ inl same ↦ inl same | inr there ↦ inr (contains_more f g fs there) ];
          first = r.first;
          others = all_cons (λ x. is_below x f ≡ false) g fs (not_over g so_far f e r.first) r.others;
        }

-- nothing is noted only of no faults
noted_some : (f : Fault) (fs : List Fault) → noted (Some f) fs ≡ None → ⊥
noted_some f [] h = absurd (none_some f (sym (noted_none (Some f)) ∙ h))
  where
    none_some : (f : Fault) → Some f ≡ None → ⊥
    none_some f h = cc
noted_some f (g ∷ fs) h = by_test (is_below g f) refl (noted_some f fs) (noted_some g fs)
  where
    by_test : (b : Bool) → is_below g f ≡ b → (noted (Some f) fs ≡ None → ⊥) → (noted (Some g) fs ≡ None → ⊥) → ⊥
    by_test true e keeps changes = changes (sym (noted_cons (Some f) g fs ∙ ap (λ (b : Bool). noted (cond b (Some g) (Some f)) fs) e) ∙ h)
    by_test false e keeps changes = keeps (sym (noted_cons (Some f) g fs ∙ ap (λ (b : Bool). noted (cond b (Some g) (Some f)) fs) e) ∙ h)

pub nothing_noted : (fs : List Fault) → None ≡ noted None fs → fs ≡ []
nothing_noted [] h = refl
nothing_noted (f ∷ fs) h = absurd (noted_some f fs (sym (noted_cons None f fs) ∙ sym h))

pub noted_least : (f : Fault) (fs : List Fault) → Some f ≡ noted None fs → IsLeast f fs
noted_least f [] h = absurd (some_none f (h ∙ noted_none None))
  where
    some_none : (f : Fault) → Some f ≡ None → ⊥
    some_none f h = cc
noted_least f (g ∷ fs) h =
    let r = among g f fs (sym (noted_cons None g fs) ∙ sym h) in
    record {
      among = elim r.here [ inl same ↦ subst (λ (f : Fault). Contains (g ∷ fs) f) same (contains_first g fs) | inr there ↦ contains_more f g fs there ];
      none_below = all_cons (λ x. is_below x f ≡ false) g fs r.first r.others;
    }
