-- Ids are texts.
use Rattle.ksv_schema.proofs.Common.{◌≡◌, ℕ, Bool, true, cond, List, ap, Some, None, is_utf8, is_id, as_text}
use Rattle.std.proofs.lemmas.Str.{is_utf8-from_IsUtf8}
use Rattle.ksv_schema.proofs.Paths.{id_is_utf8}

pub as_text_is : (bs : List ℕ) → is_utf8 bs ≡ true → as_text bs ≡ Some bs
unfolding as_text
as_text_is bs h = ap (λ (b : Bool). cond b (Some bs) None) h

pub id_is_text : (bs : List ℕ) → is_id bs ≡ true → as_text bs ≡ Some bs
id_is_text bs h = as_text_is bs (is_utf8-from_IsUtf8 bs (id_is_utf8 bs h))
