use Rattle.std.proofs.Common.{◌≡◌, ◌+◌, ◌-◌, ◌≤◌, ◌⊎◌, ◌++◌, ap, ◌∙◌, arith, inl, inr, length, take, take-append-drop}
use Rattle.std.proofs.lemmas.Bool.{cases_lt}
use Rattle.ksv_bytes.proofs.Around.{around-overwritten_both}
use Rattle.ksv_bytes.specs.Code.{around, overwritten}
use Rattle.ksv_bytes.proofs.gap.overwrite_around.Goals as goal

pub returns : goal.returns
returns c =
    let new = c.args.new.now in
    let cut = c.clamp-cut.result in
    let before = c.split_at.result.0.now in
    let behind = c.split_at.result.1.now in
    let start : cut ≡ c.args.at + length before = omega (arith, c.clamp-cut.ensures, c.split_at.ensures.front_len) in
    let front : (cut ≤ c.args.front) ⊎ (length before ≡ 0) =
    elim (cases_lt c.args.front cut) [ inl past ↦ inr (omega (arith, c.clamp-cut.ensures)) | inr le ↦ inl le ] in
    let back : (c.args.front ≤ cut) ⊎ (length behind ≡ 0) =
    elim (cases_lt cut c.args.front) [ inl short ↦ inr (omega (arith, c.clamp-cut.ensures, c.split_at.ensures.back_len)) | inr le ↦ inl le ] in
    let joined : before ++ behind ≡ new =
    ap (λ xs. xs ++ behind) c.split_at.ensures.front ∙ ap (λ xs. take (cut - c.args.at) new ++ xs) c.split_at.ensures.back
    ∙ take-append-drop (cut - c.args.at) new in
    ap (λ xs. around xs c.args.front c.args.gap) (c.write-2.ensures ∙ ap (λ xs. overwritten xs (cut + c.args.gap) behind) c.write.ensures)
    ∙ around-overwritten_both c.args.bytes.now before behind c.args.front c.args.gap c.args.at cut c.requires.gap start (omega (arith, c.clamp-cut.ensures))
    front back
    ∙ ap (overwritten (around c.args.bytes.now c.args.front c.args.gap) c.args.at) joined
