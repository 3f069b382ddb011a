use Rattle.ksv_schema.proofs.Common.{◌≡◌, true, map, ap, sym, ◌∙◌, distinct_behind, are_texts}
use Rattle.std.proofs.Common.{rules}
use Rattle.ksv_schema_names.specs.View.{member_of as row}
use Rattle.ksv_desc.proofs.Dots.{distinct_step}
use Rattle.ksv_schema.specs.Description.{names_in}
use Rattle.ksv_schema.proofs.Named.{all_step}
use Rattle.ksv_schema.proofs.members.description.add_all_members.Goals as goal

pub loop-members-preserved : goal.loop-members-preserved
loop-members-preserved c =
    let all : c.in_ok-add_members.field-0 ≡ true = search rules in
    let texts : are_texts (map row c.deref.result.now) ≡ true = sym c.in_ok-add_members.ensures.texts ∙ all in
    record {
      added = distinct_step (λ v. map row v.items) names_in c.args.types.now _ _ _ _ _ c.loop-members-test.true c.members-item.is
          (c.in_ok-add_members.ensures.added all ∙ ap (λ ms. distinct_behind c.loop-members.names (names_in (map row ms))) c.deref.ensures.value)
          c.loop-members.invariant.added;
      texts = all_step (λ v. map row v.items) c.args.types.now _ _ c.loop-members-test.true c.members-item.is _
          (ap (λ ms. are_texts (map row ms)) (sym c.deref.ensures.value) ∙ texts) c.loop-members.invariant.texts;
    }
