use Rattle.std.proofs.Common.{◌≡◌, ℕ, Vec, Global, Some, string_bytes, ap, sym, subst, ◌∙◌}
use Rattle.std.specs.Str.{IsUtf8}
use Rattle.std.proofs.lemmas.Str.{IsUtf8-string_bytes}
use Rattle.ksv_expr_value.proofs.Encodings.{is_text, is_no_text}
use Rattle.ksv_expr_value.proofs.encoding.utf8.Goals as goal

pub returns-in-Ok : goal.returns-in-Ok
returns-in-Ok c =
    let e : string_bytes c.in-Ok.string ≡ c.args.bytes.items = ap (λ (v : Vec ℕ Global). v.items) c.in-Ok.ensures.ok in
    ap Some (c.in_ok-new-in-Ok.ensures ∙ e) ∙ sym (is_text c.args.bytes.items (subst IsUtf8 e (IsUtf8-string_bytes c.in-Ok.string)))

pub returns : goal.returns
returns c = sym (is_no_text c.args.bytes.items (λ u. let no = c.in-Err.ensures.succeeds u in absurd (cc no)))
