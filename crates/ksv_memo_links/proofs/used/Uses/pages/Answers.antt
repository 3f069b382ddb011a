use Rattle.ksv_memo_links.proofs.Common.{length, ap, arith}
use Rattle.ksv_memo_links.proofs.Turns.{count-pages}
use Rattle.ksv_memo_links.proofs.used.Uses.pages.Goals as goal

pub returns-clause-count : goal.returns-clause-count
returns-clause-count c =
    omega (arith, ap (λ v. length v.lists) c.self.view_is, count-pages c.args.self.now.lists)
