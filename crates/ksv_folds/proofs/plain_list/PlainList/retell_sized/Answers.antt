use Rattle.std.proofs.lemmas.Grind.{common_steps}
use Rattle.std.proofs.Common.{◌∙◌, ◌<◌, ◌≤◌, not, sym, ap, subst, arith}
use Rattle.ksv_folds.proofs.Retold.{told_few, sized_told}
use Rattle.ksv_folds.proofs.plain_list.PlainList.retell_sized.Goals as goal

pub returns : goal.returns
returns c =
    let p = c.args.self.now in
    let told = c.told_elements-told.result in
    let alike = c.renew.ensures.alike in
    let closed = c.close_if.ensures.alike in
    let low = c.if-kept-elements_size.false in
    sized_told p _ told c.args.kept (record {
      root = closed.root ∙ alike.root;
      list = closed.list ∙ alike.list;
      origin = closed.origin ∙ alike.origin;
      type_number = closed.type_number ∙ alike.type_number;
      first = closed.first ∙ alike.first;
      size = closed.size ∙ alike.size;
      parts = closed.parts ∙ alike.parts;
      per = closed.per ∙ alike.per;
      says = closed.says ∙ alike.says;
    }) (λ i le. c.close_if.ensures.starts i ∙ c.renew.ensures.same i le) c.requires.says (c.is_none.ensures ∙ ap not c.if-is_none.false)
    c.told_elements-told.ensures.all (omega arith) (told_few p told c.args.kept c.requires.says c.told_elements-told.ensures.told (omega arith))
    (subst (λ n. told < p.most → told < n) (sym c.close_if.ensures.most) c.renew.ensures.more)
    (subst (λ n. told ≤ n) (sym c.close_if.ensures.most) c.renew.ensures.some)

pub renew-requires-clause-few : goal.renew-requires-clause-few
renew-requires-clause-few c = grind (arith, common_steps)
