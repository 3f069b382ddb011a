use Rattle.std.proofs.Common.{◌∙◌, ◌/◌, ◌%◌, ap, sym, subst}
use Rattle.ksv_folds.proofs.plain_list.PlainList.spot.Goals as goal
use Rattle.ksv_folds.specs.Lemmas.Numbers.{spot_there}
use Rattle.ksv_folds.specs.Sequence.{IsOne, spot_in}

pub returns-clause-is_in : goal.returns-clause-is_in
returns-clause-is_in c low =
    let p = c.args.self.now in
    let j = c.args.place in
    let value = c.spot_in.ensures ∙ ap (λ b. spot_in b p.per (j / p.per) (j % p.per)) c.says_sizes.ensures in
    subst (IsOne p) (sym value) (spot_there p p.most j low)
