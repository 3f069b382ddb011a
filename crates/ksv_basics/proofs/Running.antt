-- What running does with plans after one another.
use Rattle.std.proofs.Common.{◌≡◌, refl, sym, ◌∙◌}
use Rattle.ksv_basics.specs.Plan.{Plan, Answer, Fail, Ask, bind, Ran, Need, Failed, Done, Handler, next, run, translate}

-- going on twice is going on with both
pub next_next : {N E S A B C : Type 0} (o : Ran N E S A) (f : A → S → Ran N E S B) (g : B → S → Ran N E S C)
    → next (next o f) g ≡ next o (λ a s. next (f a s) g)
next_next (Need n s) f g = refl
next_next (Failed e s) f g = refl
next_next (Done a s) f g = refl

-- going on by two functions that agree
pub next_same : {N E S A B : Type 0} (o : Ran N E S A) (f g : A → S → Ran N E S B) → ((a : A) (s : S) → f a s ≡ g a s) → next o f ≡ next o g
next_same (Need n s) f g same = refl
next_same (Failed e s) f g same = refl
next_same (Done a s) f g same = same a s

-- one plan after another runs after it
pub run_bind : {Q : Type 0} {R : Q → Type 0} {F S N E A B : Type 0} (h : Handler Q R F S N E) (p : Plan Q R F A) (f : A → Plan Q R F B) (s : S)
    → run h (bind p f) s ≡ next (run h p s) (λ a s'. run h (f a) s')
unfolding bind
run_bind h (Answer a) f s = refl
run_bind h (Fail e) f s = refl
run_bind h (Ask q k) f s =
    next_same (h.reply q s) (λ r s'. run h (bind (k r) f) s') (λ r s'. next (run h (k r) s') (λ a s''. run h (f a) s'')) (λ r s'. run_bind h (k r) f s')
    ∙ sym (next_next (h.reply q s) (λ r s'. run h (k r) s') (λ a s''. run h (f a) s''))

-- running a translation is running with the translated answers
pub run_translate : {Q Q' : Type 0} {R : Q → Type 0} {R' : Q' → Type 0} {F F' S N E A : Type 0} (h : Handler Q' R' F' S N E) (t : (q : Q) → Plan Q' R' F' (R q))
    (raise : F → F') (p : Plan Q R F A) (s : S)
    → run h (translate t raise p) s ≡ run (record { reply = λ q s'. run h (t q) s'; raise = λ e s'. h.raise (raise e) s' }) p s
run_translate h t raise (Answer a) s = refl
run_translate h t raise (Fail e) s = refl
run_translate h t raise (Ask q k) s =
    run_bind h (t q) (λ r. translate t raise (k r)) s
    ∙ next_same (run h (t q) s) (λ r s'. run h (translate t raise (k r)) s')
    (λ r s'. run (record { reply = λ q'' s''. run h (t q'') s''; raise = λ e s''. h.raise (raise e) s'' }) (k r) s')
    (λ r s'. run_translate h t raise (k r) s')
