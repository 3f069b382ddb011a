use Rattle.ksv_memo.proofs.Common.{◌∙◌, ap, filter, nat_lt, rules}
use Rattle.std.proofs.lemmas.Fn.{filter_same}
use Rattle.ksv_memo.proofs.lendings.Lendings.cut.Goals as goal

-- the closure's answer is the test of the number
pub returns : goal.returns
returns g c = filter_same _ (λ lending. nat_lt lending.place c.args.left) _ (λ x b f' k. search rules) _ _ c.retain.ensures.filtered
    ∙ ap (λ v. filter (λ lending. nat_lt lending.place c.args.left) v.items) c.self.view_is
