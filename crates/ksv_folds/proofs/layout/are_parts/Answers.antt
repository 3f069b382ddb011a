use Rattle.std.proofs.Common.{◌≡◌, ◌∙◌, Some, map, unwrap_or, get_or, ap, sym, subst, arith, add-one}
use Rattle.std.proofs.lemmas.Option.{unwrap_or-slice_get}
use Rattle.ksv_desc.specs.Pieces.{plain_member}
use Rattle.ksv_folds.proofs.Plain.{more_parts}
use Rattle.ksv_folds.proofs.layout.are_parts.Goals as goal
use Rattle.ksv_folds.specs.Layouts.{IsPart, name_at, name_before}
use Rattle.ksv_folds.specs.Parts.{part, edge}
use Rattle.ksv_folds.specs.declared.part.Part.{Part}

pub loop-part-preserved : goal.loop-part-preserved
loop-part-preserved c =
    let n = c.loop-part.place in
    let ms = map plain_member c.args.members.now in
    let names = c.args.names.now in
    let ps = c.args.parts.now in
    let name : c.in-Some.name ≡ name_at names n =
    ap (λ o. unwrap_or o 0) (sym c.in-Some.is ∙ c.copied.ensures) ∙ c.get.ensures.lookup.4 (omega arith) 0 ∙ sym (unwrap_or-slice_get names n 0) in
    let at : get_or ps c.loop-part.part-index (record { name = 0; member = 0; to = 0 }) ≡ part ps n =
    ap (λ i. get_or ps i (record { name = 0; member = 0; to = 0 })) (sym c.loop-part.invariant.0)
    ∙ sym (unwrap_or-slice_get ps n (record { name = 0; member = 0; to = 0 })) in
    let z : IsPart ms (name_before names n) (name_at names n) (part ps n) (edge ps n) =
    subst (λ q. IsPart ms (name_before names n) (name_at names n) q (edge ps n)) at
    (subst (λ x. IsPart ms (name_before names n) x (get_or ps c.loop-part.part-index (record { name = 0; member = 0; to = 0 })) (edge ps n)) name
    (subst (λ l. IsPart ms (name_before names n) c.in-Some.name (get_or ps c.loop-part.part-index (record { name = 0; member = 0; to = 0 })) l)
    c.loop-part.invariant.2
    (subst (λ b. IsPart ms b c.in-Some.name (get_or ps c.loop-part.part-index (record { name = 0; member = 0; to = 0 })) c.loop-part.low)
    c.loop-part.invariant.1 (c.is_part.ensures c.if-not-is_part.false)))) in
    let count = c.loop-part.invariant.0 in
    (omega (arith, count), rw add-one (ap Some name), rw add-one (ap (λ (q : Part). q.to) at), more_parts ms names ps n c.loop-part.invariant.3 z)
