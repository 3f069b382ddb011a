use Rattle.std.proofs.Common.{◌≡◌, ℕ, List, Some, None, Bool, true, false, cond, sym, ap, ◌∙◌, refl}
use Rattle.std.specs.Str.{IsUtf8, is_utf8}
use Rattle.std.proofs.lemmas.Str.{IsUtf8-from_is_utf8, is_utf8-from_IsUtf8}
use Rattle.ksv_desc.specs.Description.{as_text}
use Rattle.ksv_desc.proofs.text.as_text.Goals as goal

some : (t bs : List ℕ) → t ≡ bs → IsUtf8 bs → Some t ≡ as_text bs
unfolding as_text
some t bs e h = ap Some e ∙ sym (ap (λ (b : Bool). cond b (Some bs) None) (is_utf8-from_IsUtf8 bs h))

none : (bs : List ℕ) → (IsUtf8 bs → ⊥) → None ≡ as_text bs
unfolding as_text
none bs not = go (is_utf8 bs) (IsUtf8-from_is_utf8 bs)
  where
    go : (b : Bool) → (b ≡ true → IsUtf8 bs) → None ≡ cond b (Some bs) None
    go true h = absurd (not (h refl))
    go false h = refl

pub returns-in-Ok : goal.returns-in-Ok
returns-in-Ok c = some _ _ c.in-Ok.ensures.cases.0 c.in-Ok.ensures.cases.1

pub returns-in-Err : goal.returns-in-Err
returns-in-Err c = none _ c.in-Err.ensures.cases.0
