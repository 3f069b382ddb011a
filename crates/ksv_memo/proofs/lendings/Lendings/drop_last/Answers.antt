use Rattle.ksv_memo.proofs.Common.{◌∙◌, ap, rules}
use Rattle.ksv_memo.specs.Lending.{dropped_last}
use Rattle.ksv_memo.proofs.Listing.{but-last}
use Rattle.ksv_memo.proofs.lendings.Lendings.drop_last.Goals as goal

pub returns : goal.returns
returns g c = c.pop.ensures.rest ∙ but-last _ _ (search rules) ∙ ap (λ v. dropped_last v.items) c.self.view_is
